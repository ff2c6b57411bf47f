-- What a step of a cursor can be answered that holds nothing and has no loss to tell, and what it leaves.
use Rattle.std.proofs.Common.{◌≡◌, ◌∙◌, ℕ, ◌<◌, List, length, Option, Some, None, refl, ap}
use Rattle.std.specs.List.{find}
use Rattle.ldm_types.specs.Info.{Metadata}
use Rattle.ldm_model.specs.declared.event.Reply.TheVariants as reply
use Rattle.ldm_model.specs.State.{State, Queued, end_of, queued}
use Rattle.ldm_model.specs.Outcome.{Outcome}
use Rattle.ldm_model.specs.Step.{step, step_to, after_give}
use Rattle.ldm_between_ends.proofs.Coming.{comes}
use Rattle.ldm_between_ends.proofs.Moving.{free, with_cursor, changed-twice, step-free}

-- the end came, since none is to come
pub record CameToEnd (s : State) (k actor feed at : ℕ) (given : List ℕ) : Type 0 where
  pub none : find (comes feed at) (queued s) ≡ None
  pub state : (step (with_cursor s k (free actor feed at given)) actor k).state ≡ with_cursor s k (free actor feed (end_of s) given)

-- a product came, the first that is to come
pub record CameTo (s : State) (k actor feed at : ℕ) (given : List ℕ) (n time : ℕ) (info : Metadata) : Type 0 where
  pub row : Queued
  pub first : find (comes feed at) (queued s) ≡ Some row
  pub number : row.number ≡ n
  pub time_is : row.time ≡ time
  pub info_is : row.product.info ≡ info
  pub state : (step (with_cursor s k (free actor feed at given)) actor k).state ≡ with_cursor s k (after_give row.number (free actor feed at given))

module _ (s : State) (k : ℕ) (within : k < length s.cursors) (actor feed at : ℕ) (given : List ℕ) where
  -- the step, by the row that is found
  step-by : (row : Option Queued) → find (comes feed at) (queued s) ≡ row
      → step (with_cursor s k (free actor feed at given)) actor k ≡ step_to (with_cursor s k (free actor feed at given)) k (free actor feed at given) row
  step-by row found = step-free s k within actor feed at given ∙ ap (step_to (with_cursor s k (free actor feed at given)) k (free actor feed at given)) found

  pub end-came : (n : ℕ) → reply.End n ≡ (step (with_cursor s k (free actor feed at given)) actor k).reply → CameToEnd s k actor feed at given
  end-came n answered = by_row (find (comes feed at) (queued s)) refl
    where
      by_row : (row : Option Queued) → find (comes feed at) (queued s) ≡ row → CameToEnd s k actor feed at given
      by_row None found = record { none = found; state = ap (λ (o : Outcome). o.state) (step-by None found) ∙ changed-twice s k _ _ }
      by_row (Some row) found = let e = answered ∙ ap (λ (o : Outcome). o.reply) (step-by (Some row) found) in absurd cc

  pub product-came : (n time : ℕ) (info : Metadata) → reply.Product n time info ≡ (step (with_cursor s k (free actor feed at given)) actor k).reply
      → CameTo s k actor feed at given n time info
  product-came n time info answered = by_row (find (comes feed at) (queued s)) refl
    where
      by_row : (row : Option Queued) → find (comes feed at) (queued s) ≡ row → CameTo s k actor feed at given n time info
      by_row None found = let e = answered ∙ ap (λ (o : Outcome). o.reply) (step-by None found) in absurd cc
      by_row (Some row) found =
          let e : reply.Product n time info ≡ reply.Product row.number row.time row.product.info = answered ∙ ap (λ (o : Outcome). o.reply) (step-by (Some row) found) in
          record {
            row = row;
            first = found;
            number = cc;
            time_is = cc;
            info_is = cc;
            state = ap (λ (o : Outcome). o.state) (step-by (Some row) found) ∙ changed-twice s k _ _;
          }

  pub gap-never : (count first last : ℕ) → reply.Gap count first last ≡ (step (with_cursor s k (free actor feed at given)) actor k).reply → ⊥
  gap-never count first last answered = by_row (find (comes feed at) (queued s)) refl
    where
      by_row : (row : Option Queued) → find (comes feed at) (queued s) ≡ row → ⊥
      by_row None found = let e = answered ∙ ap (λ (o : Outcome). o.reply) (step-by None found) in absurd cc
      by_row (Some row) found = let e = answered ∙ ap (λ (o : Outcome). o.reply) (step-by (Some row) found) in absurd cc
