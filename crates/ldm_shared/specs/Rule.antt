-- What holds of the word, the slot and the views of a shared queue between any two steps on them.
use Rattle.std.specs.Prelude.{◌≡◌, ℕ, ◌+◌, ◌*◌, ◌<◌, ◌≤◌, ◌==◌, ◌⊎◌, true, false, List, [], ◌∷◌, length, slice_index, Option, Some, sum_by, count_by}
use Rattle.std.specs.List.{AllByRecursion, range_with_len}
use mathlib.Core.Option.{some}
use mathlib.Core.List.{IsPrefix}
use lib.ListN.{get_elem?}
use Rattle.atomic_table.specs.Table.{State}
use Rattle.ldm_model.specs.declared.event.Entry.{Entry}
use Rattle.ldm_model.specs.History.{after, IsLegal}
use Rattle.ldm_book.specs.View.{BookView}
use Rattle.ldm_book.specs.Stands.{StandsFor}
use Rattle.ldm_shared.specs.declared.sizes.Sizes.{Sizes}
use Rattle.ldm_shared.specs.declared.view.View.{View}
use Rattle.ldm_shared.specs.declared.view.Old.{Old}
use Rattle.ldm_shared.specs.Own.{own, AreBelow}
use Rattle.ldm_shared.specs.Putting.{HasPut}
use Rattle.ldm_shared.specs.declared.steps.TheConstants.{MOST_TURNS}

-- how often an actor stands in a list
abbrev pub times : ℕ → List ℕ → ℕ
times actor actors = count_by (λ a. a == actor) actors

-- a seat answers for an actor
abbrev pub AnswersFor : View → ℕ → Type 0
AnswersFor v actor = 0 < times actor v.actors

-- a seat answers for every actor
abbrev pub AnswersForAll : View → Type 0
AnswersForAll v = (actor : ℕ) → actor < v.passes → AnswersFor v actor

-- how many seats have the turn
abbrev pub turns : List View → ℕ
turns views = count_by (λ (v : View). v.turn) views

-- how often an actor stands in the lists of all seats
abbrev pub holders : ℕ → List View → ℕ
holders actor views = sum_by (λ (v : View). times actor v.actors) views

-- the view of a seat that another one took in
abbrev pub spent : View
spent = record { arena = 0; slots = 0; passes = 0; seen = []; turn = false; actors = []; olds = [] }

-- the view of the first seat, which answers for all actors
abbrev pub opening : Sizes → View
opening sizes = record {
  arena = sizes.arena;
  slots = sizes.slots;
  passes = sizes.passes;
  seen = [];
  turn = false;
  actors = range_with_len 0 sizes.passes;
  olds = [];
}

-- An old history is a beginning, which has all entries of its actors. The seat still answers for these.
pub record IsOld (history : List Entry) (actors : List ℕ) (old : Old) : Type 0 where
  pub begins : IsPrefix old.seen history
  pub own : (actor : ℕ) → 0 < times actor old.actors → own actor history ≡ own actor old.seen
  pub among : (actor : ℕ) → 0 < times actor old.actors → 0 < times actor actors

-- A seat that has the turn has seen the whole history. It answers for one actor, and a call more can be made; or for all.
pub record HasTurn (history : List Entry) (v : View) : Type 0 where
  pub seen : v.seen ≡ history
  pub olds : v.olds ≡ []
  pub one : (((actor : ℕ) × (v.actors ≡ actor ∷ [])) × (length history < MOST_TURNS)) ⊎ AnswersForAll v

-- what a seat knows of the history
pub record Knows (sizes : Sizes) (history : List Entry) (v : View) : Type 0 where
  pub arena : v.arena ≡ sizes.arena
  pub slots : v.slots ≡ sizes.slots
  pub passes : v.passes ≡ sizes.passes
  pub seen : IsPrefix v.seen history
  pub olds : AllByRecursion (IsOld history v.actors) v.olds
  -- the history has no entry of its actors beyond those that it has seen
  pub actors : (actor : ℕ) → AnswersFor v actor → (actor < sizes.passes) × (own actor history ≡ own actor v.seen)
  pub turn : v.turn ≡ true → HasTurn history v

-- the slot holds a book that stands for the state after the history
abbrev pub HasBook : Sizes → List Entry → List (mathlib.Core.Option.Option (Option BookView)) → Type 0
HasBook sizes history homes = (book : BookView) × (homes ≡ some (Some book) ∷ []) × StandsFor book (after sizes.arena sizes.slots history)

pub record IsKept (sizes : Sizes) (s : State (Option BookView) View) : Type 0 where
  -- the history of all calls
  pub history : List Entry
  pub legal : IsLegal sizes.arena sizes.slots history
  pub below : AreBelow sizes.passes history
  pub few : length history ≤ MOST_TURNS
  -- The first word is twice its length, and one more while a seat has the turn. The second is 1 where a caller may sleep.
  pub may_sleep : ℕ
  pub others : List ℕ
  pub word : s.words ≡ (2 * length history + turns s.views) ∷ may_sleep ∷ others
  -- the word of an actor is one more than the number of a product that the actor put in, or found queued
  pub put : (actor n : ℕ) → slice_index others (6 + actor) ≡ n + 1 → HasPut actor history n
  pub flag : may_sleep ≤ 1
  pub one_turn : turns s.views ≤ 1
  pub book : turns s.views ≡ 0 → HasBook sizes history s.homes
  -- no actor stands in two lists, or twice in one
  pub apart : (actor : ℕ) → holders actor s.views ≤ 1
  pub seats : (id : ℕ) (v : View) → get_elem? s.views id ≡ some v → (v ≡ spent) ⊎ Knows sizes history v
