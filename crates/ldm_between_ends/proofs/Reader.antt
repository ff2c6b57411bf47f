-- A cursor that began behind a queued product: it is given later ones alone, and passes over none that is queued.
use Rattle.std.proofs.Common.{◌≡◌, ℕ, ◌<◌, true, List, ◌∷◌, ◌++◌, Some, refl, sym}
use Rattle.std.specs.Prelude.{is_some, slice_get, Contains}
use Rattle.std.proofs.lemmas.List.Elements.{All-contains}
use Rattle.ldm_types.specs.Feed.{feeds_meet}
use Rattle.ldm_model.specs.declared.event.Entry.{Entry}
use Rattle.ldm_model.specs.Always.{SignaturesDiffer}
use Rattle.ldm_model.specs.Product.{Product}
use Rattle.ldm_model.specs.State.{Row}
use Rattle.ldm_model.specs.History.{after, IsLegal}
use Rattle.ldm_model.specs.Law.{Point, IsPointOf, ObeysLaw, at_entries, history_of, state_before, state_at, feed_of_row, is_present, due, given}
use Rattle.ldm_model.proofs.Ascending.{IsAmong, Contains-from_among}
use Rattle.ldm_model.proofs.TiedPoints.{IsLegalAt-point}
use Rattle.ldm_shared.specs.Staying.{HasRow}
use Rattle.ldm_between_ends.proofs.Giving.{Gives, given-still, earlier-point}
use Rattle.ldm_between_ends.proofs.Position.{behind_signature, opened-position, due-above, above-due, given-before}

-- a product stays what it is
abbrev pub StaysLaw : Type 0
StaysLaw = (arena slots : ℕ) (front behind : List Entry) → IsLegal arena slots (front ++ behind) → (n : ℕ) (product : Product) (time : ℕ)
    → HasRow n product time (after arena slots front) → HasRow n product time (after arena slots (front ++ behind))

module _ (arena slots : ℕ) (history : List Entry) (legal : IsLegal arena slots history) (life : Point) (at : IsPointOf arena slots history life) where
  -- a product that was admitted by an earlier point of the life
  pub row-later : StaysLaw → (front behind : List Entry) → life.since ≡ front ++ behind → (r : ℕ) (row : Row)
      → slice_get (state_at (at_entries life front)).rows r ≡ Some row → HasRow r row.product row.time (after arena slots history)
  unfolding earlier-point
  row-later stays front behind are r row is_row =
      let q = at_entries life front in
      let there = earlier-point arena slots history life at front behind are in
      let whole : IsLegal life.arena life.slots (history_of q ++ there.rest) =
      coe 0 1 (i. IsLegal (sym there.same_arena i) (sym there.same_slots i) (sym there.front i)) legal in
      coe 0 1 (i. HasRow r row.product row.time (after (there.same_arena i) (there.same_slots i) (there.front i)))
      (stays life.arena life.slots (history_of q) there.rest whole r row.product row.time (row.place, is_row))

  module _ (law : ObeysLaw arena slots history) (n : ℕ) (row : Row) (differ : SignaturesDiffer (state_before life))
      (is_row : slice_get (state_before life).rows n ≡ Some row) (queued_there : is_some row.place ≡ true)
      (from : life.start ≡ behind_signature row.product.info.signature) where
    pub given-above : (m : ℕ) → IsAmong (given life) m → n < m
    given-above m there = due-above life n row differ is_row queued_there from m
        (All-contains (Contains (due life)) (given life) m (law.served life at).only_due (Contains-from_among (given life) m there))

    pub given-passed : (m : ℕ) (g : Gives life life.since m) (r : ℕ) → n < r → r < m → is_present (at_entries life g.front) r ≡ true
        → feeds_meet life.feed (feed_of_row (slice_get (state_at (at_entries life g.front)).rows r)) ≡ true → IsAmong (given life) r
    unfolding earlier-point
    given-passed m g r later less here meets =
        let q = at_entries life g.front in
        let there = earlier-point arena slots history life at g.front (g.call ∷ g.behind) g.are in
        let answered = law.answered q there g.call (g.behind ++ at.rest) refl g.is_call in
        let next = answered.next_given m g.time g.info g.gave in
        let opened = (IsLegalAt-point arena slots history legal life at).opened in
        let position = opened-position (state_before life) life.owner life.feed life.start life.k opened.reply in
        let for_it = above-due q n row differ is_row queued_there from position.0 position.1 r later here meets in
        given-still life g.front (g.call ∷ g.behind) g.are r (given-before q m r next.next less for_it here)
