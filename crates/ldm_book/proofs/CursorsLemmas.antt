-- The kept cursors of a book against the cursors of a state.
use Rattle.std.proofs.Common.{◌≡◌, ℕ, zero, suc, ◌+◌, ◌∷◌, ◌++◌, [], Bool, true, false, cond, ◌||◌, List, length, map, set, min, max, Option, Some, None, refl, sym, ap, subst, ◌∙◌, arith}
use Rattle.std.specs.Prelude.{◌&&◌, nat_le, is_none, slice_index_or}
use Rattle.std.specs.List.{list_any, position_from}
use Rattle.std.proofs.lemmas.Iterator.Adapters.{position_from-zero}
use Rattle.std.specs.Option.{IsSomeAnd}
use Rattle.std.proofs.lemmas.Bool.{eq-eqb, ne_eqb}
use Rattle.std.proofs.lemmas.List.{map-set, length-append}
use Rattle.ldm_types.specs.Cursors.{KeptCursor, Places}
use Rattle.ldm_types.specs.Feed.{feeds_meet}
use Rattle.ldm_cursor.specs.Places as kept_places
use Rattle.ldm_model.specs.State.{State, Cursor}
use Rattle.ldm_model.specs.Step.{least_of, greatest_of}
use Rattle.ldm_model.specs.Evict.{holds, with_loss}
use Rattle.ldm_model.specs.Cursor.{least_empty, cursor_at, cursor_of, if_owned, with_place}
use Rattle.ldm_book.specs.View.{BookView}
use Rattle.ldm_book.specs.Stands.{losses_of, kept_cursor, kept_place, StandsFor}

least_of-push : (n : ℕ) (ns : List ℕ) (m : ℕ) → least_of n (ns ++ m ∷ []) ≡ min (least_of n ns) m
least_of-push n [] m = refl
least_of-push n (x ∷ xs) m = ap (min n) (least_of-push x xs m) ∙ swap (least_of x xs)
  where
    swap : (l : ℕ) → min n (min l m) ≡ min (min n l) m
    swap l = omega arith

greatest_of-push : (n : ℕ) (ns : List ℕ) (m : ℕ) → greatest_of n (ns ++ m ∷ []) ≡ max (greatest_of n ns) m
greatest_of-push n [] m = refl
greatest_of-push n (x ∷ xs) m = ap (max n) (greatest_of-push x xs m) ∙ swap (greatest_of x xs)
  where
    swap : (l : ℕ) → max n (max l m) ≡ max (max n l) m
    swap l = omega arith

-- one loss more
losses-push : (ns : List ℕ) (m : ℕ) → losses_of (ns ++ m ∷ []) ≡ Some (kept_places.with_one_more m (losses_of ns))
losses-push [] m = refl
losses-push (n ∷ ns) m =
    let count : length (n ∷ ns ++ m ∷ []) ≡ length (n ∷ ns) + 1 = length-append (n ∷ ns) (m ∷ []) in
    let least = least_of-push n ns m in
    let greatest = greatest_of-push n ns m in
    λ i. Some (record { count = count i; least = least i; greatest = greatest i })

with_loss-kept : (n feed : ℕ) (place : Option Cursor) → kept_place (with_loss n feed place) ≡ kept_places.with_loss n feed (kept_place place)
with_loss-kept n feed None = refl
with_loss-kept n feed (Some c) = by_test (nat_le c.position n && feeds_meet c.feed feed)
  where
    by_test : (b : Bool) → kept_place (cond b (Some (record c { untold = c.untold ++ n ∷ [] })) (Some c)) ≡ Some (cond b (kept_places.cursor_with_loss n (kept_cursor c)) (kept_cursor c))
    by_test false = refl
    by_test true =
        let untold = losses-push c.untold n in
        let lost : length c.told + length (c.untold ++ n ∷ []) ≡ length c.told + length c.untold + 1 = omega (arith, length-append c.untold (n ∷ [])) in
        λ i. Some (record { actor = c.actor; feed = c.feed; position = c.position; held = c.held; untold = untold i; given = length c.given; lost = lost i })

-- an eviction, for all cursors
pub cursors-loss : (n feed : ℕ) (cs : List (Option Cursor)) → map kept_place (map (with_loss n feed) cs) ≡ map (kept_places.with_loss n feed) (map kept_place cs)
cursors-loss n feed [] = refl
cursors-loss n feed (place ∷ cs) = λ i. with_loss-kept n feed place i ∷ cursors-loss n feed cs i

holds-kept : (n : ℕ) (place : Option Cursor) → kept_places.holds n (kept_place place) ≡ holds n place
holds-kept n None = refl
holds-kept n (Some c) = refl

-- who holds a product
pub is_held-kept : (n : ℕ) (cs : List (Option Cursor)) → kept_places.is_held n (map kept_place cs) ≡ list_any (holds n) cs
is_held-kept n [] = refl
is_held-kept n (place ∷ cs) = λ i. holds-kept n place i || is_held-kept n cs i

-- a place
pub at-kept : (cs : List (Option Cursor)) (k : ℕ) → kept_places.cursor_at (map kept_place cs) k ≡ kept_place (slice_index_or cs k None)
at-kept [] k = refl
at-kept (place ∷ cs) zero = refl
at-kept (place ∷ cs) (suc k) = at-kept cs k

-- the least empty place
is_none-kept : (place : Option Cursor) → is_none (kept_place place) ≡ is_none place
is_none-kept None = refl
is_none-kept (Some c) = refl

least-from : (i : ℕ) (cs : List (Option Cursor)) → position_from is_none i (map kept_place cs) ≡ position_from is_none i cs
least-from i [] = refl
least-from i (place ∷ cs) = λ j. cond (is_none-kept place j) (Some i) (least-from (i + 1) cs j)

pub least-kept : (cs : List (Option Cursor)) → kept_places.least_empty (map kept_place cs) ≡ least_empty cs
least-kept cs = position_from-zero is_none (map kept_place cs) ∙ least-from 0 cs ∙ sym (position_from-zero is_none cs)

-- the actor's cursor of a place
pub record IsCursor (book : BookView) (s : State) (actor k : ℕ) : Type 0 where
  pub cursor : Cursor
  pub at : cursor_at s k ≡ Some cursor
  pub own : cursor_of s actor k ≡ Some cursor
  pub kept : kept_places.cursor_at book.cursors k ≡ Some (kept_cursor cursor)

owned-place : (actor : ℕ) (place : Option Cursor) → IsSomeAnd (kept_place place) (λ (c : KeptCursor). c.actor ≡ actor) → (c : Cursor) × (place ≡ Some c) × (if_owned actor place ≡ Some c)
owned-place actor None own = absurd own
owned-place actor (Some c) own = (c, refl, ap (λ (b : Bool). cond b (Some c) None) (eq-eqb c.actor actor own))

foreign-place : (actor : ℕ) (place : Option Cursor) → (IsSomeAnd (kept_place place) (λ (c : KeptCursor). c.actor ≡ actor) → ⊥) → if_owned actor place ≡ None
foreign-place actor None other = refl
foreign-place actor (Some c) other = ap (λ (b : Bool). cond b (Some c) None) (ne_eqb c.actor actor other)

place-stands : (book : BookView) (s : State) (k : ℕ) → StandsFor book s → kept_places.cursor_at book.cursors k ≡ kept_place (cursor_at s k)
place-stands book s k stands = ap (λ (cs : Places). kept_places.cursor_at cs k) stands.cursors ∙ at-kept s.cursors k

pub is_cursor : (book : BookView) (s : State) (actor k : ℕ) → StandsFor book s → IsSomeAnd (kept_places.cursor_at book.cursors k) (λ (c : KeptCursor). c.actor ≡ actor) → IsCursor book s actor k
is_cursor book s actor k stands own =
    let found = owned-place actor (cursor_at s k) (subst (λ (o : Option KeptCursor). IsSomeAnd o (λ (c : KeptCursor). c.actor ≡ actor)) (place-stands book s k stands) own) in
    record { cursor = found.0; at = found.1; own = found.2; kept = place-stands book s k stands ∙ ap kept_place found.1 }

pub no_cursor : (book : BookView) (s : State) (actor k : ℕ) → StandsFor book s → (IsSomeAnd (kept_places.cursor_at book.cursors k) (λ (c : KeptCursor). c.actor ≡ actor) → ⊥)
    → cursor_of s actor k ≡ None
no_cursor book s actor k stands other =
    foreign-place actor (cursor_at s k) (λ own. other (subst (λ (o : Option KeptCursor). IsSomeAnd o (λ (c : KeptCursor). c.actor ≡ actor)) (sym (place-stands book s k stands)) own))

-- a book with other cursors
abbrev pub with_cursors : BookView → Places → BookView
with_cursors book cursors = record book { cursors = cursors }

-- a place changed
pub StandsFor-place : (book : BookView) (s : State) (k : ℕ) (place : Option Cursor) (kept : Option KeptCursor) → StandsFor book s → kept ≡ kept_place place
    → StandsFor (with_cursors book (set book.cursors k kept)) (with_place s k place)
StandsFor-place book s k place kept stands is =
    record {
      arena = stands.arena;
      sized = stands.sized;
      slots = stands.slots;
      admitted = stands.admitted;
      last = stands.last;
      rows = stands.rows;
      stored = stands.stored;
      cursors = ap (λ (cs : Places). set cs k kept) stands.cursors ∙ ap (λ (o : Option KeptCursor). set (map kept_place s.cursors) k o) is ∙ sym (map-set kept_place s.cursors k place);
      reservations = stands.reservations;
      filled = stands.filled;
    }
