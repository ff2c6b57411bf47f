-- What a cursor was used for: the calls on the queue, and how its steps were answered.
use Rattle.std.specs.Prelude.{◌≡◌, ℕ, List, [], ◌∷◌}
use Rattle.std.specs.List.{flat_map}
use Rattle.ldm_model.specs.declared.event.Event.{Event}
use Rattle.ldm_model.specs.declared.event.Event.TheVariants as event
use Rattle.ldm_model.specs.declared.event.Reply.{Reply}
use Rattle.ldm_model.specs.declared.event.Entry.{Entry}
use Rattle.ldm_model.specs.History.{after}
use Rattle.ldm_shared.specs.Passes.{PassView, Calls}
use Rattle.ldm_shared.specs.Staying.{HasRow}
use Rattle.ldm_shared.specs.Givens.{Given}

-- a step, a read or a release of the cursor at that place
abbrev pub IsUse : ℕ → Event → Type 0
IsUse k (event.Step at) = at ≡ k
IsUse k (event.Read at offset count) = at ≡ k
IsUse k (event.Release at) = at ≡ k
IsUse k _ = ⊥

abbrev pub AreUses : ℕ → List Entry → Type 0
AreUses k [] = Unit {0}
AreUses k (entry ∷ called) = IsUse k entry.event × AreUses k called

abbrev pub answer_by : Event → Reply → List Reply
answer_by (event.Step at) answer = answer ∷ []
answer_by _ answer = []

-- how the steps among these calls were answered
abbrev pub step_answers : List Entry → List Reply
step_answers called = flat_map (λ (entry : Entry). answer_by entry.event entry.reply) called

-- Just these calls were made with the pass: all are of this cursor, and its steps were answered so.
pub record Uses (k : ℕ) (old new : PassView) (answers : List Reply) : Type 0 where
  pub called : List Entry
  pub calls : Calls old new called
  pub are_uses : AreUses k called
  pub answered : step_answers called ≡ answers

-- each product is the one of its number in what the pass has seen
abbrev pub AreRows : PassView → List Given → Type 0
AreRows pass [] = Unit {0}
AreRows pass (given ∷ givens) = HasRow given.n given.product given.time (after pass.arena pass.slots pass.seen) × AreRows pass givens
