-- What a call comes to, by cases.
use Rattle.std.specs.Prelude.{ℕ}
use Rattle.ldm_shared.specs.declared.turn.Turn.{Turn}
use Rattle.ldm_shared.specs.declared.turn.Turn.TheVariants.{Done, Worn}

abbrev pub IfDone : {R : Type 0} → Turn R → (R → Type 0) → Type 0
IfDone (Done reply) P = P reply
IfDone (Worn turns) P = Unit {0}

abbrev pub IfWorn : {R : Type 0} → Turn R → (ℕ → Type 0) → Type 0
IfWorn (Done reply) P = Unit {0}
IfWorn (Worn turns) P = P turns
