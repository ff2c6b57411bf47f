-- Lemmas for callers: the calls that a gate let pass and was told of, one run after another.
use Rattle.std.proofs.Common.{◌≡◌, List, [], ◌∷◌, ◌++◌, Option, Some, None, refl, sym, ap, subst, ◌∙◌, append_assoc, append-nil}
use Rattle.std.specs.Prelude.{IfSome}
use Rattle.std.specs.Option.{option_map}
use Rattle.ldm_outside.specs.declared.gate.GateCall.{GateCall}
use Rattle.ldm_outside.specs.Gate.{GateRecord, HasCalls, IsLastCall, with_calls}

-- no calls
pub HasCalls-none : (old new : GateRecord) → new.calls ≡ old.calls → HasCalls [] old new
HasCalls-none old new same = same ∙ by_calls old.calls
  where
    by_calls : (calls : Option (List GateCall)) → calls ≡ option_map (λ cs. cs ++ []) calls
    by_calls None = refl
    by_calls (Some calls) = ap (λ (cs : List GateCall). Some cs) (sym (append-nil calls))

-- calls, and then others
pub HasCalls-then : (old mid new : GateRecord) (first second : List GateCall) → HasCalls first old mid → HasCalls second mid new → HasCalls (first ++ second) old new
HasCalls-then old mid new first second one two =
    two ∙ ap (λ (calls : Option (List GateCall)). option_map (λ cs. cs ++ second) calls) one ∙ by_calls old.calls
  where
    by_calls : (calls : Option (List GateCall)) → option_map (λ cs. cs ++ second) (option_map (λ cs. cs ++ first) calls) ≡ option_map (λ cs. cs ++ (first ++ second)) calls
    by_calls None = refl
    by_calls (Some calls) = ap (λ (cs : List GateCall). Some cs) (append_assoc calls first second)

-- a call that was let pass, or told, is the last
pub IsLastCall-with : (call : GateCall) (old new : GateRecord) → new ≡ with_calls (call ∷ []) old → IsLastCall call new
IsLastCall-with call old new is = subst (IsLastCall call) (sym is) (by_calls old.calls)
  where
    by_calls : (calls : Option (List GateCall)) → IfSome (option_map (λ cs. cs ++ call ∷ []) calls) (λ cs. (earlier : List GateCall) × (cs ≡ earlier ++ call ∷ []))
    by_calls None = tt
    by_calls (Some calls) = (calls, refl)
