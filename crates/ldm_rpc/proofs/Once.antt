-- The same bytes begin with at most one record.
use Rattle.std.proofs.Common.{◌≡◌, ℕ, ◌+◌, ◌<◌, ◌^◌, Bool, true, false, cond, List, [], ◌∷◌, ◌++◌, length, take, drop, refl, sym, ap, ◌∙◌, append_assoc, arith}
use Rattle.std.specs.Prelude.{All}
use Rattle.std.specs.Int.{w32, to_be_bytes, from_be_bytes}
use Rattle.std.proofs.lemmas.Nat.{from_be_bytes-to_be_bytes_4}
use Rattle.std.proofs.lemmas.List.{append-nil, take_at, drop_at}
use Rattle.std.proofs.lemmas.List.Elements.{All-head, All-tail}
use Rattle.ldm_rpc.specs.declared.stage.TheConstants.{LAST_FRAGMENT}
use Rattle.ldm_rpc.specs.Spelling.{Record, Fits, IsShort, fragment, fragments, header, spelling}
use Rattle.ldm_rpc.proofs.Spelled.{fits_word}

-- the number of a header, from bytes that begin with it
number_of_front : (n : ℕ) (u : List ℕ) → n < 2 ^ 32 → from_be_bytes w32 (take 4 (to_be_bytes w32 n ++ u)) ≡ n
number_of_front n u lt = ap (from_be_bytes w32) (take_at (to_be_bytes w32 n) u 4 refl) ∙ from_be_bytes-to_be_bytes_4 n lt

same_number : (first second : Bool) (n m : ℕ) → n < LAST_FRAGMENT → m < LAST_FRAGMENT
    → cond first LAST_FRAGMENT 0 + n ≡ cond second LAST_FRAGMENT 0 + m → (first ≡ second) × (n ≡ m)
same_number true true n m a b e = (refl, omega arith)
same_number true false n m a b e = absurd (omega arith)
same_number false true n m a b e = absurd (omega arith)
same_number false false n m a b e = (refl, omega arith)

same_header : (first second : Bool) (n m : ℕ) (u v : List ℕ) → n < LAST_FRAGMENT → m < LAST_FRAGMENT → header first n ++ u ≡ header second m ++ v
    → (first ≡ second) × (n ≡ m) × (u ≡ v)
same_header first second n m u v a b e =
    let x = cond first LAST_FRAGMENT 0 + n in
    let y = cond second LAST_FRAGMENT 0 + m in
    let number : x ≡ y = sym (number_of_front x u (fits_word first n a)) ∙ ap (λ (z : List ℕ). from_be_bytes w32 (take 4 z)) e
    ∙ number_of_front y v (fits_word second m b) in
    let same = same_number first second n m a b number in
    (same.0, same.1, sym (drop_at (header first n) u 4 refl) ∙ ap (drop 4) e ∙ drop_at (header second m) v 4 refl)

same_front : (f g u v : List ℕ) → length f ≡ length g → f ++ u ≡ g ++ v → (f ≡ g) × (u ≡ v)
same_front f g u v len e = (
  sym (take_at f u (length f) refl) ∙ ap (take (length f)) e ∙ take_at g v (length f) (sym len),
  sym (drop_at f u (length f) refl) ∙ ap (drop (length f)) e ∙ drop_at g v (length f) (sym len),
)

same_fragment : (first second : Bool) (f g u v : List ℕ) → IsShort f → IsShort g → fragment first f ++ u ≡ fragment second g ++ v → (first ≡ second) × (f ≡ g) × (u ≡ v)
same_fragment first second f g u v a b e =
    let h = same_header first second (length f) (length g) (f ++ u) (g ++ v) a b e in
    let t = same_front f g u v h.1 h.2 in
    (h.0, t.0, t.1)

same_fragments : (xs ys : List (List ℕ)) (f g u v : List ℕ) → All IsShort xs → All IsShort ys → IsShort f → IsShort g
    → fragments xs ++ (fragment true f ++ u) ≡ fragments ys ++ (fragment true g ++ v) → (xs ≡ ys) × (f ≡ g) × (u ≡ v)
same_fragments [] [] f g u v short_a short_b a b e =
    let s = same_fragment true true f g u v a b e in
    (refl, s.1, s.2)
same_fragments [] (h ∷ ys) f g u v short_a short_b a b e =
    let s = same_fragment true false f h u (fragments ys ++ (fragment true g ++ v)) a (All-head IsShort h ys short_b) (e
    ∙ append_assoc (fragment false h) (fragments ys) (fragment true g ++ v)) in
    absurd (cc s.0)
same_fragments (h ∷ xs) [] f g u v short_a short_b a b e =
    let s = same_fragment false true h g (fragments xs ++ (fragment true f ++ u)) v (All-head IsShort h xs short_a) b (sym (append_assoc (fragment false h) (fragments xs) (fragment true f ++ u)) ∙ e) in
    absurd (cc s.0)
same_fragments (h ∷ xs) (k ∷ ys) f g u v short_a short_b a b e =
    let s = same_fragment false false h k (fragments xs ++ (fragment true f ++ u)) (fragments ys ++ (fragment true g ++ v)) (All-head IsShort h xs short_a) (All-head IsShort k ys short_b)
    (sym (append_assoc (fragment false h) (fragments xs) (fragment true f ++ u)) ∙ e ∙ append_assoc (fragment false k) (fragments ys) (fragment true g ++ v)) in
    let more = same_fragments xs ys f g u v (All-tail IsShort h xs short_a) (All-tail IsShort k ys short_b) a b s.2 in
    (rw (s.1, more.0) refl, more.1, more.2)

pub spelled_once : (limit : ℕ) (a b : Record) (x y : List ℕ) → Fits limit a → Fits limit b → spelling a ++ x ≡ spelling b ++ y → (a ≡ b) × (x ≡ y)
spelled_once limit a b x y fits_a fits_b e =
    let s = same_fragments a.before b.before a.last b.last x y fits_a.before fits_b.before fits_a.last fits_b.last
    (sym (append_assoc (fragments a.before) (fragment true a.last) x) ∙ e ∙ append_assoc (fragments b.before) (fragment true b.last) y) in
    let same : a ≡ b = rw (s.0, s.1) refl in
    (same, s.2)

pub no_longer : (limit : ℕ) (a b : Record) (rest : List ℕ) → Fits limit a → Fits limit b → spelling b ≡ spelling a ++ rest → rest ≡ []
no_longer limit a b rest fits_a fits_b e = (spelled_once limit a b rest [] fits_a fits_b (sym e ∙ sym (append-nil (spelling b)))).1
