-- What evicting a product makes of a book, and of the state that it stands for.
use Rattle.std.proofs.Common.{◌≡◌, ℕ, ◌+◌, Bool, true, false, cond, not, List, [], ◌∷◌, map, Option, Some, None, refl, sym, ap, subst, ◌∙◌, arith}
use Rattle.std.specs.Prelude.{◌==◌, filter, slice_get}
use Rattle.std.specs.List.{find, list_any}
use Rattle.std.specs.Option.{option_map}
use Rattle.ldm_types.specs.Cursors.{Places}
use Rattle.ldm_cursor.specs.Places as kept_places
use Rattle.ldm_model.specs.State.{State, Row, Queued, queued, queued_from}
use Rattle.ldm_model.specs.Evict.{without_place, evict_row, evict}
use Rattle.ldm_book.specs.View.{BookView, Kept, kept}
use Rattle.ldm_book.specs.Products.{at_number, has_number, is_other}
use Rattle.ldm_book.specs.Readers.{feed_of, without_product}
use Rattle.ldm_book.specs.Stored.{AreStored, IsStored}
use Rattle.ldm_book.specs.Stands.{StandsFor}
use Rattle.ldm_book.proofs.EveryLemmas.{every_filter, find-map}
use Rattle.ldm_book.proofs.QueuedLemmas.{other_number, queued-without, is_present, length-without_place, latest-without_place}
use Rattle.ldm_book.proofs.CursorsLemmas.{cursors-loss}

filter-kept : (n : ℕ) (qs : List Queued) → filter (is_other n) (map kept qs) ≡ map kept (filter (other_number n) qs)
filter-kept n [] = refl
filter-kept n (q ∷ qs) = by_test (not (q.number == n)) (filter-kept n qs)
  where
    by_test : (b : Bool) → filter (is_other n) (map kept qs) ≡ map kept (filter (other_number n) qs)
        → cond b (kept q ∷ filter (is_other n) (map kept qs)) (filter (is_other n) (map kept qs)) ≡ map kept (cond b (q ∷ filter (other_number n) qs) (filter (other_number n) qs))
    by_test true rest = ap (λ (ks : List Kept). kept q ∷ ks) rest
    by_test false rest = rest

-- evicting a queued product
pub StandsFor-evict : (book : BookView) (s : State) (n : ℕ) → StandsFor book s → list_any (has_number n) book.rows ≡ true → StandsFor (without_product n book) (evict s n)
StandsFor-evict book s n stands there =
    let present = is_present n 0 s.rows (ap (λ (ks : List Kept). list_any (has_number n) ks) (sym stands.rows) ∙ there) in
    let row = present.row in
    let index : present.index ≡ n = omega (arith, present.number) in
    let found : slice_get s.rows n ≡ Some row = ap (λ (i : ℕ). slice_get s.rows i) (sym index) ∙ present.at in
    let left : queued_from 0 (without_place s.rows n) ≡ filter (other_number n) (queued s) =
    queued-without n 0 s.rows ∙ (let same : 0 + n ≡ n = omega arith in ap (λ (i : ℕ). filter (other_number i) (queued s)) same) in
    let feed : feed_of (find (at_number n) book.rows) ≡ row.product.info.feed =
    ap (λ (ks : List Kept). feed_of (find (at_number n) ks)) stands.rows ∙ ap feed_of (find-map kept (at_number n) (queued s) ∙ ap (option_map kept) present.found) in
    subst (λ (o : Option Row). StandsFor (without_product n book) (evict_row s n o)) (sym found)
    (record {
      arena = stands.arena;
      sized = stands.sized;
      slots = stands.slots;
      admitted = stands.admitted ∙ sym (length-without_place s.rows n);
      last = stands.last ∙ sym (latest-without_place s.rows None n);
      rows = ap (filter (is_other n)) stands.rows ∙ filter-kept n (queued s) ∙ ap (map kept) (sym left);
      stored = subst (AreStored book.bytes) (sym left) (every_filter (IsStored book.bytes) (other_number n) (queued s) stands.stored);
      cursors =
          ap (λ (f : ℕ). map (kept_places.with_loss n f) book.cursors) feed
          ∙ ap (λ (cs : Places). map (kept_places.with_loss n row.product.info.feed) cs) stands.cursors
          ∙ sym (cursors-loss n row.product.info.feed s.cursors);
      reservations = stands.reservations;
      filled = stands.filled;
    })
