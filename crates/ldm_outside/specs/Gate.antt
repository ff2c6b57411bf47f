-- What a gate answers, and what it tells.
use Rattle.std.specs.Prelude.{◌≡◌, ℕ, ◌-◌, ◌<◌, List, [], ◌∷◌, ◌++◌, Option, Some, IfSome}
use Rattle.std.specs.Option.{option_map}
use Rattle.ldm_outside.specs.declared.gate.Go.{Go}
use Rattle.ldm_outside.specs.declared.gate.Go.TheVariants.{On, Stop}
use Rattle.ldm_outside.specs.declared.gate.GateCall.{GateCall}
use Rattle.ldm_outside.specs.Count.{Rose}

-- What a gate tells at a moment.
pub record GateRecord : Type 0 where
  -- how often it answered Stop
  pub stops : ℕ
  -- after how many idle calls more it stops, or that it never does, where it tells this
  pub idles : Option (Option ℕ)
  -- the calls that it let pass and those that it was told of, in order, where it tells them
  pub calls : Option (List GateCall)

-- From one moment to another a gate let pass and was told just these calls, in order, where it tells them.
abbrev pub HasCalls : List GateCall → GateRecord → GateRecord → Type 0
HasCalls more old new = new.calls ≡ option_map (λ calls. calls ++ more) old.calls

-- what a gate tells with these calls more
abbrev pub with_calls : List GateCall → GateRecord → GateRecord
with_calls more old = record old { calls = option_map (λ calls. calls ++ more) old.calls }

-- The gate stopped: its count rose, it let no call pass, and no idle call went on.
abbrev pub Stops : GateRecord → GateRecord → Type 0
Stops old new = Rose old.stops new.stops × (new.calls ≡ old.calls) × (new.idles ≡ old.idles)

-- What one call of `before` did.
abbrev pub LetsPass : Go → GateCall → GateRecord → GateRecord → Type 0
LetsPass On call old new = new ≡ with_calls (call ∷ []) old
LetsPass Stop call old new = Stops old new

-- what a gate tells after an idle call at which it went on
abbrev pub one_idle_less : GateRecord → GateRecord
one_idle_less old = record old { idles = option_map (option_map (λ left. left - 1)) old.idles }

-- What one call of `idle` did. A gate that tells after how many it stops goes on at just so many.
abbrev pub Idles : Go → GateRecord → GateRecord → Type 0
Idles On old new = IfSome old.idles (λ idles. IfSome idles (λ left. 0 < left)) × (new ≡ one_idle_less old)
Idles Stop old new = IfSome old.idles (λ idles. idles ≡ Some 0) × Stops old new

-- the gate stops after so many idle calls, or never, where it tells this
abbrev pub StopsAfter : Option ℕ → GateRecord → Type 0
StopsAfter idles gate = IfSome gate.idles (λ told. told ≡ idles)

-- This call is the last that the gate let pass or was told of.
abbrev pub IsLastCall : GateCall → GateRecord → Type 0
IsLastCall call now = IfSome now.calls (λ calls. (earlier : List GateCall) × (calls ≡ earlier ++ call ∷ []))
