-- What a gate was asked and told while one line was played.
use Rattle.std.proofs.Common.{◌≡◌, ℕ, List, [], ◌∷◌, ap}
use Rattle.ldm_outside.specs.declared.gate.GateCall.{GateCall}
use Rattle.ldm_outside.specs.declared.gate.GateCall.TheVariants.{Before, After}
use Rattle.ldm_outside.specs.Gate.{GateRecord, HasCalls, IsLastCall, with_calls}
use Rattle.ldm_outside.proofs.GateLemmas.{HasCalls-none, HasCalls-then, IsLastCall-with}
use Rattle.ldm_crowd.specs.Parts.{passing}

-- the line was let pass, and the gate was told of it
pub passes_line : (actor i : ℕ) (old mid new : GateRecord) → mid ≡ with_calls (Before actor i ∷ []) old → new ≡ with_calls (After actor i ∷ []) mid → HasCalls (passing actor i) old new
passes_line actor i old mid new first second =
    HasCalls-then old mid new (Before actor i ∷ []) (After actor i ∷ []) (ap (λ (r : GateRecord). r.calls) first) (ap (λ (r : GateRecord). r.calls) second)

-- the line was let pass
pub passes_one : (call : GateCall) (old new : GateRecord) → new ≡ with_calls (call ∷ []) old → HasCalls (call ∷ []) old new
passes_one call old new is = ap (λ (r : GateRecord). r.calls) is

pub is_last : (call : GateCall) (old new : GateRecord) → new ≡ with_calls (call ∷ []) old → IsLastCall call new
is_last call old new is = IsLastCall-with call old new is

-- no line was let pass
pub passes_none : (old new : GateRecord) → new.calls ≡ old.calls → HasCalls [] old new
passes_none old new same = HasCalls-none old new same

pub stops_with : (calls : List GateCall) (old new : GateRecord) → new ≡ with_calls calls old → new.stops ≡ old.stops
stops_with calls old new is = ap (λ (r : GateRecord). r.stops) is
