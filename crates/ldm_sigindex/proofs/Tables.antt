-- Tables of signatures: where one is found, and that none stands twice.
use Rattle.std.proofs.Common.{◌≡◌, ℕ, zero, suc, ◌<◌, ◌≤◌, ◌⊎◌, inl, inr, ⊎_elim, false, List, [], ◌∷◌, length}
use Rattle.std.proofs.Common.{get_or, set, replicate, slice_get, bytes_eq, if◌then◌else◌, nat_lt, Option, Some, None, refl, sym, ap, ◌∙◌, arith}
use Rattle.std.specs.List.{position_or_len}
use Rattle.std.proofs.lemmas.Bool.{both_ways, cond-false, cond-true, false_from_ne_true, le-ltb, lt-ltb}
use Rattle.std.proofs.lemmas.Grind.{common_steps}
use Rattle.std.proofs.lemmas.List.Sums.{position_or_len_is, fails_before_first}
use Rattle.std.proofs.lemmas.Option.{slice_get_within, get_or_from_slice_get, slice_get-get_or}
use Rattle.std.proofs.lemmas.Slice.Eq.{bytes_eq-Decides}
use Rattle.ldm_sigindex.specs.Index.{Table, has, slot_of, IsOneToOne}

has_not : (bytes : List ℕ) (held : Option (List ℕ)) → (held ≡ Some bytes → ⊥) → has bytes held ≡ false
has_not bytes None other = refl
has_not bytes (Some held) other = false_from_ne_true _ (λ same. other (ap (λ b. Some b) ((bytes_eq-Decides held bytes).0 same)))

-- a signature is found in the one slot that has it
pub found : (table : Table) (bytes : List ℕ) (i : ℕ) → IsOneToOne table → slice_get table i ≡ Some (Some bytes) → slot_of table bytes ≡ Some i
found table bytes i once at =
    let inside = slice_get_within table i (Some bytes) at in
    let first : position_or_len (has bytes) table ≡ i =
    position_or_len_is (has bytes) table i None (omega arith)
    (λ k lt. has_not bytes _ (λ same. absurd (omega (arith, once k i bytes (slice_get-get_or table k None (omega arith) ∙ ap (λ held. Some held) same) at))))
    (λ _. ap (has bytes) (get_or_from_slice_get table i (Some bytes) None at) ∙ (bytes_eq-Decides bytes bytes).1 refl) in
    ap (λ k. if nat_lt k (length table) then Some k else None) first ∙ cond-true _ _ _ (lt-ltb i (length table) inside)

-- a signature that no slot has is not found
pub not_found : (table : Table) (bytes : List ℕ) → ((k : ℕ) → get_or table k None ≡ Some bytes → ⊥) → slot_of table bytes ≡ None
not_found table bytes nowhere =
    let first : position_or_len (has bytes) table ≡ length table =
    position_or_len_is (has bytes) table (length table) None (omega arith) (λ k lt. has_not bytes _ (nowhere k)) (λ lt. absurd (omega arith)) in
    cond-false _ _ _ (le-ltb (position_or_len (has bytes) table) (length table) (omega arith))

-- a signature that is not found stands nowhere
absent : (table : Table) (bytes : List ℕ) (k : ℕ) → slot_of table bytes ≡ None → slice_get table k ≡ Some (Some bytes) → ⊥
absent table bytes k none at =
    let inside = slice_get_within table k (Some bytes) at in
    let far : length table ≤ position_or_len (has bytes) table = grind (arith, common_steps) in
    let other = fails_before_first (has bytes) table k None (omega arith) in
    both_ways (bytes_eq bytes bytes) (sym (ap (has bytes) (get_or_from_slice_get table k (Some bytes) None at)) ∙ other) ((bytes_eq-Decides bytes bytes).1 refl)

-- what stands in a table with one more signature
pub was_put : (table : Table) (i a : ℕ) (bytes held : List ℕ) → slice_get (set table i (Some bytes)) a ≡ Some (Some held) → ((a ≡ i) × (bytes ≡ held)) ⊎ (slice_get table a ≡ Some (Some held))
was_put [] i a bytes held at = inr at
was_put (one ∷ rest) zero zero bytes held at = inl (refl, cc)
was_put (one ∷ rest) zero (suc a) bytes held at = inr at
was_put (one ∷ rest) (suc i) zero bytes held at = inr at
was_put (one ∷ rest) (suc i) (suc a) bytes held at = ⊎_elim (λ p. inl (ap suc p.0, p.1)) (λ there. inr there) (was_put rest i a bytes held at)

-- what stands in a table with one signature less
pub was_left : (table : Table) (i a : ℕ) (held : List ℕ) → slice_get (set table i None) a ≡ Some (Some held) → slice_get table a ≡ Some (Some held)
was_left [] i a held at = at
was_left (one ∷ rest) zero zero held at = absurd cc
was_left (one ∷ rest) zero (suc a) held at = at
was_left (one ∷ rest) (suc i) zero held at = at
was_left (one ∷ rest) (suc i) (suc a) held at = was_left rest i a held at

pub none_stands : (slots a : ℕ) (held : List ℕ) → slice_get (replicate {A = Option (List ℕ)} slots None) a ≡ Some (Some held) → ⊥
none_stands zero a held at = cc
none_stands (suc slots) zero held at = cc
none_stands (suc slots) (suc a) held at = none_stands slots a held at

pub one_to_one-put : (table : Table) (i : ℕ) (bytes : List ℕ) → slot_of table bytes ≡ None → IsOneToOne table → IsOneToOne (set table i (Some bytes))
one_to_one-put table i bytes none once a b held at-a at-b =
    ⊎_elim
    (λ p. ⊎_elim (λ q. p.0 ∙ sym q.0) (λ there. absurd (absent table bytes b none (there ∙ ap (λ s. Some (Some s)) (sym p.1)))) (was_put table i b bytes held at-b))
    (λ here. ⊎_elim (λ q. absurd (absent table bytes a none (here ∙ ap (λ s. Some (Some s)) (sym q.1)))) (λ there. once a b held here there) (was_put table i b bytes held at-b))
    (was_put table i a bytes held at-a)

pub one_to_one-left : (table : Table) (i : ℕ) → IsOneToOne table → IsOneToOne (set table i None)
one_to_one-left table i once a b held at-a at-b = once a b held (was_left table i a held at-a) (was_left table i b held at-b)

pub one_to_one-none : (slots : ℕ) → IsOneToOne (replicate slots None)
one_to_one-none slots a b held at-a at-b = absurd (none_stands slots a held at-a)

-- ---- slots that are free

pub all_free : (slots k : ℕ) → k < slots → slice_get (replicate {A = Option (List ℕ)} slots None) k ≡ Some None
all_free zero k lt = absurd (omega arith)
all_free (suc slots) zero lt = refl
all_free (suc slots) (suc k) lt = all_free slots k (omega arith)

pub get-set_other : {X : Type 0} (xs : List X) (i k : ℕ) (x : X) → (k ≡ i → ⊥) → slice_get (set xs i x) k ≡ slice_get xs k
get-set_other [] i k x apart = refl
get-set_other (one ∷ rest) zero zero x apart = absurd (apart refl)
get-set_other (one ∷ rest) zero (suc k) x apart = refl
get-set_other (one ∷ rest) (suc i) zero x apart = refl
get-set_other (one ∷ rest) (suc i) (suc k) x apart = get-set_other rest i k x (λ same. apart (ap suc same))

pub get-set_same : {X : Type 0} (xs : List X) (i : ℕ) (x : X) → i < length xs → slice_get (set xs i x) i ≡ Some x
get-set_same [] i x lt = absurd (omega arith)
get-set_same (one ∷ rest) zero x lt = refl
get-set_same (one ∷ rest) (suc i) x lt = get-set_same rest i x (omega arith)
