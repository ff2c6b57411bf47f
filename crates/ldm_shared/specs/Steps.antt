-- What each step on the word of a shared queue tells the seat that makes it.
use Rattle.std.specs.Prelude.{◌≡◌, ℕ, ◌+◌, ◌-◌, ◌*◌, ◌<◌, ◌≤◌, ◌==◌, ◌⊎◌, ◌++◌, true, false, List, [], ◌∷◌, length, Option, Some, MatchBool}
use Rattle.std.specs.List.{AllByRecursion}
use mathlib.Core.List.{IsPrefix}
use Rattle.atomic_table.specs.Table.{Me, Step, rest}
use Rattle.ldm_model.specs.declared.event.Entry.{Entry}
use Rattle.ldm_model.specs.History.{after, IsLegal}
use Rattle.ldm_book.specs.View.{BookView}
use Rattle.ldm_book.specs.Stands.{StandsFor}
use Rattle.ldm_shared.specs.declared.view.View.{View}
use Rattle.ldm_shared.specs.Own.{own, AreBelow}
use Rattle.ldm_shared.specs.Putting.{HasPut}
use Rattle.ldm_shared.specs.Rule.{AnswersFor, AnswersForAll, IsOld}
use Rattle.ldm_shared.specs.declared.steps.TheConstants.{MOST_TURNS}

-- The seat has seen the history that the word counts. It begins with all that the seat had seen, and has no more entries of
-- the actors that the seat answers for.
pub record Sees (v : View) (found : ℕ) (w : View) : Type 0 where
  pub same : w ≡ record v { seen = w.seen; turn = w.turn; olds = [] }
  pub begins : IsPrefix v.seen w.seen
  pub olds : AllByRecursion (IsOld w.seen v.actors) v.olds
  pub actors : (actor : ℕ) → AnswersFor v actor → (actor < v.passes) × (own actor w.seen ≡ own actor v.seen)
  pub legal : IsLegal v.arena v.slots w.seen
  pub below : AreBelow v.passes w.seen
  pub few : length w.seen ≤ MOST_TURNS
  pub counted : (found ≡ 2 * length w.seen) ⊎ (found ≡ 2 * length w.seen + 1)
  -- where the seat answers for all actors, nobody can have called meanwhile
  pub whole : AnswersForAll v → (found ≡ 2 * length v.seen) × (w.seen ≡ v.seen)

-- a look leaves the turn where it is
abbrev pub looks : Step (Option BookView) → Me (Option BookView) View → ℕ → Me (Option BookView) View → Type 0
looks step me found after = Sees me.0 found after.0 × (after.0.turn ≡ false) × (after.1 ≡ [])

-- the seat has the turn, and has taken the slot, with a book that stands for the state after all that was seen
pub record HasTaken (w : View) (slots : List (ℕ × Option BookView)) : Type 0 where
  pub turn : w.turn ≡ true
  pub book : BookView
  pub taken : slots ≡ (0, Some book) ∷ []
  pub stands : StandsFor book (after w.arena w.slots w.seen)

-- where the word was the one that was expected, the turn is taken
abbrev pub takes : Step (Option BookView) → Me (Option BookView) View → ℕ → Me (Option BookView) View → Type 0
takes step me found after =
    Sees me.0 found after.0 × MatchBool (found == step.first) (HasTaken after.0 after.1) ((after.0.turn ≡ false) × (after.1 ≡ []))

-- what is said of callers that sleep changes, and the seat stays as it was
abbrev pub says : Step (Option BookView) → Me (Option BookView) View → ℕ → Me (Option BookView) View → Type 0
says step me found after = after ≡ me

-- a look at the word of an actor, which leaves the turn where it is
abbrev pub looks_at_put : Step (Option BookView) → Me (Option BookView) View → ℕ → Me (Option BookView) View → Type 0
looks_at_put step me found after =
    ((word : ℕ) × Sees me.0 word after.0) × (after.0.turn ≡ false) × (after.1 ≡ []) × ((n : ℕ) → found ≡ n + 1 → HasPut (step.word - 8) after.0.seen n)

-- the turn and the slot are given back, with one more entry in the history
abbrev pub adds : Entry → Step (Option BookView) → Me (Option BookView) View → ℕ → Me (Option BookView) View → Type 0
adds entry step me found after =
    (after.0 ≡ record me.0 { seen = me.0.seen ++ entry ∷ []; turn = false }) × (after.1 ≡ rest me.1)
