-- What a seat knows, and how that changes.
use Rattle.std.specs.Prelude.{◌≡◌, ℕ, ◌<◌, ◌≤◌, ◌++◌, true, false, List, [], ◌∷◌, length, Option, Some}
use Rattle.std.specs.List.{AllByRecursion}
use mathlib.Core.List.{IsPrefix}
use Rattle.atomic_table.specs.declared.shared.Seat.{Seat}
use Rattle.ldm_model.specs.History.{after, IsLegal}
use Rattle.ldm_book.specs.View.{BookView}
use Rattle.ldm_book.specs.Stands.{StandsFor}
use Rattle.ldm_shared.specs.declared.view.View.{View}
use Rattle.ldm_shared.specs.Own.{own, AreBelow}
use Rattle.ldm_shared.specs.Passes.{SharedView, PassView}
use Rattle.ldm_shared.specs.Rule.{AnswersFor}
use Rattle.ldm_shared.specs.declared.steps.TheConstants.{MOST_TURNS}

-- a seat of a queue, with neither the turn nor the slot
pub record IsReady (shared : SharedView) (seat : Seat (Option BookView) View) : Type 0 where
  pub queue : seat.table_id ≡ shared.queue
  pub idle : seat.me.0.turn ≡ false
  pub free : seat.me.1 ≡ []
  pub passes : 0 < seat.me.0.passes

-- a seat of a queue with the turn, and with the book in its slot
pub record HasTheTurn (shared : SharedView) (seat : Seat (Option BookView) View) (book : BookView) : Type 0 where
  pub queue : seat.table_id ≡ shared.queue
  pub turn : seat.me.0.turn ≡ true
  pub slot : seat.me.1 ≡ (0, Some book) ∷ []
  pub passes : 0 < seat.me.0.passes

-- a seat that can make a call: it has the turn, and the book stands for the state after all that it has seen
pub record CanCall (shared : SharedView) (seat : Seat (Option BookView) View) : Type 0 where
  pub book : BookView
  pub turn : HasTheTurn shared seat book
  pub stands : StandsFor book (after seat.me.0.arena seat.me.0.slots seat.me.0.seen)
  pub few : length seat.me.0.seen < MOST_TURNS

-- a seat that found that the queue had so many calls, which are all that it can have
pub record IsWorn (shared : SharedView) (seat : Seat (Option BookView) View) (turns : ℕ) : Type 0 where
  pub ready : IsReady shared seat
  pub turns_are : turns ≡ MOST_TURNS
  pub long : length seat.me.0.seen ≡ MOST_TURNS

-- the same seat
pub record IsSame (old new : Seat (Option BookView) View) : Type 0 where
  pub table : new.table_id ≡ old.table_id
  pub id : new.id ≡ old.id

-- what was seen goes on, with no more entries of the actors that the seat answers for
pub record GoesOn (v w : View) : Type 0 where
  pub arena : w.arena ≡ v.arena
  pub slots : w.slots ≡ v.slots
  pub passes : w.passes ≡ v.passes
  pub actors : w.actors ≡ v.actors
  pub olds : w.olds ≡ []
  pub begins : IsPrefix v.seen w.seen
  pub own : (actor : ℕ) → AnswersFor v actor → own actor w.seen ≡ own actor v.seen

-- what was seen is a history that the queue can have
pub record IsHistory (w : View) : Type 0 where
  pub legal : IsLegal w.arena w.slots w.seen
  pub below : AreBelow w.passes w.seen
  pub few : length w.seen ≤ MOST_TURNS
  pub actors : (actor : ℕ) → AnswersFor w actor → actor < w.passes

-- what a seat knows that took in another one and looked
pub record Gathers (v w u : View) : Type 0 where
  pub arena : u.arena ≡ v.arena
  pub slots : u.slots ≡ v.slots
  pub passes : u.passes ≡ v.passes
  pub actors : u.actors ≡ v.actors ++ w.actors
  pub olds : u.olds ≡ []
  pub begins : IsPrefix v.seen u.seen
  pub its : IsPrefix w.seen u.seen
  pub mine : (actor : ℕ) → AnswersFor v actor → own actor u.seen ≡ own actor v.seen
  pub theirs : (actor : ℕ) → AnswersFor w actor → own actor u.seen ≡ own actor w.seen

-- a seat knows the sizes of the queue
pub record IsSized (shared : SharedView) (v : View) : Type 0 where
  pub arena : v.arena ≡ shared.arena
  pub slots : v.slots ≡ shared.slots
  pub passes : v.passes ≡ shared.passes

-- a seat took in the seat of a pass
pub record HasGathered (v : View) (pass : PassView) : Type 0 where
  pub answers : AnswersFor v pass.actor
  pub begins : IsPrefix pass.seen v.seen
  pub own_seen : own pass.actor v.seen ≡ own pass.actor pass.seen

-- a seat took in all passes but those that are left
pub record IsGathering (shared : SharedView) (all left : List PassView) (seat : Seat (Option BookView) View) : Type 0 where
  pub ready : IsReady shared seat
  pub sized : IsSized shared seat.me.0
  pub taken : List PassView
  pub split : all ≡ left ++ taken
  pub each : AllByRecursion (HasGathered seat.me.0) taken

-- a seat that still waits for the turn
pub record Waits (before now : Seat (Option BookView) View) : Type 0 where
  pub same : IsSame before now
  pub idle : now.me.0.turn ≡ false
  pub free : now.me.1 ≡ []
  pub goes_on : GoesOn before.me.0 now.me.0
