-- A list that is changed from the front, and the products that lines had last.
use Rattle.std.proofs.Common.{◌≡◌, ℕ, zero, suc, ◌+◌, ◌<◌, ◌≤◌, Bool, true, false, cond, List, [], ◌∷◌, ◌++◌, length, take, drop, get_or, map, set, refl, sym, ◌∙◌, ap, arith, eq-eqb}
use Rattle.std.specs.Prelude.{Option, Some, None, find, option_map, replicate, reverse, slice_get}
use Rattle.std.proofs.lemmas.List.{map-set, reverse-append}
use Rattle.std.proofs.lemmas.Bool.{eqb-true}
use Rattle.ldm_types.specs.declared.signature.Signature.{Signature}
use Rattle.ldm_journal.specs.Records.{Kept}
use Rattle.ldm_recorder.specs.declared.line.Line.{Line}
use Rattle.ldm_recorder.specs.Lines.{found_in, has_last, last_in, with_note}
use Rattle.ldm_recorder.specs.Restoring.{AreFound, signatures}

-- ---- elements, one after another

-- the first elements by one function, and the others by another
abbrev pub blend : {X Y : Type 0} → (X → Y) → (X → Y) → ℕ → List X → List Y
blend f g i xs = map g (take i xs) ++ map f (drop i xs)

pub blend_set : {X Y : Type 0} (f g : X → Y) (i : ℕ) (xs : List X) (x : X) → slice_get xs i ≡ Some x → set (blend f g i xs) i (g x) ≡ blend f g (suc i) xs
blend_set f g i [] x is = absurd (cc is)
blend_set f g zero (y ∷ xs) x is = (let one : y ≡ x = cc is in ap (λ z. g z ∷ map f xs) (sym one))
blend_set f g (suc i) (y ∷ xs) x is = ap (λ l. g y ∷ l) (blend_set f g i xs x is)

pub blend_same : {X Y : Type 0} (f g : X → Y) (i : ℕ) (xs : List X) (x : X) → slice_get xs i ≡ Some x → f x ≡ g x → blend f g i xs ≡ blend f g (suc i) xs
blend_same f g i [] x is same = absurd (cc is)
blend_same f g zero (y ∷ xs) x is same =
    (let one : y ≡ x = cc is in ap (λ z. z ∷ map f xs) (ap f one ∙ same ∙ ap g (sym one)))
blend_same f g (suc i) (y ∷ xs) x is same = ap (λ l. g y ∷ l) (blend_same f g i xs x is same)

pub blend_ends : {X Y : Type 0} (f g : X → Y) (i : ℕ) (xs : List X) → length xs ≤ i → blend f g i xs ≡ map g xs
blend_ends f g zero [] le = refl
blend_ends f g (suc i) [] le = refl
blend_ends f g zero (y ∷ xs) le = absurd (omega (arith, le))
blend_ends f g (suc i) (y ∷ xs) le = ap (λ l. g y ∷ l) (blend_ends f g i xs (omega (arith, le)))

blend_at : {X : Type 0} (g : X → X) (i : ℕ) (xs : List X) (d : X) → get_or (blend (λ x. x) g i xs) i d ≡ get_or xs i d
blend_at g zero [] d = refl
blend_at g (suc i) [] d = refl
blend_at g zero (x ∷ xs) d = refl
blend_at g (suc i) (x ∷ xs) d = blend_at g i xs d

pub get_there : {X : Type 0} (xs : List X) (i : ℕ) (d : X) → i < length xs → slice_get xs i ≡ Some (get_or xs i d)
get_there [] i d within = absurd (omega (arith, within))
get_there (x ∷ xs) zero d within = refl
get_there (x ∷ xs) (suc i) d within = get_there xs i d (omega (arith, within))

pub get_none : {X : Type 0} (xs : List X) (i : ℕ) → slice_get xs i ≡ None → length xs ≤ i
get_none [] i none = omega arith
get_none (x ∷ xs) zero none = absurd (cc none)
get_none (x ∷ xs) (suc i) none = omega (arith, get_none xs i none)

-- a line more has what the note tells of it
pub noted_more : (note : List ℕ) (lines old : List Line) (i : ℕ) (d : Line) (last : ℕ) → i < length lines → old ≡ blend (λ (line : Line). line) (with_note note) i lines
    → last ≡ last_in (get_or old i d).key note → set old i (record (get_or old i d) { last = last }) ≡ blend (λ (line : Line). line) (with_note note) (i + 1) lines
noted_more note lines old i d last within so_far is =
    let x = get_or lines i d in
    let here : get_or old i d ≡ x = ap (λ (l : List Line). get_or l i d) so_far ∙ blend_at (with_note note) i lines d in
    let written : record (get_or old i d) { last = last } ≡ with_note note x =
    ap (λ (n : ℕ). record (get_or old i d) { last = n }) is ∙ ap (λ (l : Line). record l { last = last_in l.key note }) here in
    let next : suc i ≡ i + 1 = omega arith in
    ap (λ (l : Line). set old i l) written ∙ ap (λ (l : List Line). set l i (with_note note x)) so_far
    ∙ blend_set (λ (line : Line). line) (with_note note) i lines x (get_there lines i d within)
    ∙ ap (λ (n : ℕ). blend (λ (line : Line). line) (with_note note) n lines) next

-- ---- products

not_true : (b : Bool) → (b ≡ true → ⊥) → b ≡ false
not_true true not = absurd (not refl)
not_true false not = refl

last_first : (kept : List Kept) (k : Kept) → reverse (kept ++ k ∷ []) ≡ k ∷ reverse kept
last_first kept k = reverse-append kept (k ∷ [])

found_by : (last : ℕ) (kept : List Kept) (k : Kept) (b : Bool) → has_last last k ≡ b
    → found_in last (kept ++ k ∷ []) ≡ cond b (Some k.info.signature) (found_in last kept)
found_by last kept k b is =
    ap (λ (l : List Kept). option_map (λ (x : Kept). x.info.signature) (find (has_last last) l)) (last_first kept k)
    ∙ ap (λ (c : Bool). option_map (λ (x : Kept). x.info.signature) (cond c (Some k) (find (has_last last) (reverse kept)))) is ∙ by b
  where
    by : (b : Bool) → option_map (λ (x : Kept). x.info.signature) (cond b (Some k) (find (has_last last) (reverse kept)))
        ≡ cond b (Some k.info.signature) (found_in last kept)
    by true = refl
    by false = refl

pub found_now : (last : ℕ) (kept : List Kept) (k : Kept) → k.number + 1 ≡ last → found_in last (kept ++ k ∷ []) ≡ Some k.info.signature
found_now last kept k is = found_by last kept k true (eq-eqb (k.number + 1) last is)

pub found_still : (last : ℕ) (kept : List Kept) (k : Kept) → (k.number + 1 ≡ last → ⊥) → found_in last (kept ++ k ∷ []) ≡ found_in last kept
found_still last kept k not = found_by last kept k false (not_true (has_last last k) (λ is. not (eqb-true (k.number + 1) last is)))

-- ---- what is found of them

-- for the first lines the last product has been looked at, too
abbrev pub FindsOn : List Line → List (Option Signature) → ℕ → List ℕ → ℕ → List (Option Signature) → Type 0
FindsOn lines begun number signature i lasts =
    (k : Kept) (kept : List Kept) → k.number ≡ number → k.info.signature ≡ signature → AreFound lines kept begun →
    signatures lasts ≡ blend (λ (line : Line). found_in line.last kept) (λ (line : Line). found_in line.last (kept ++ k ∷ [])) i lines

pub finds_none : (lines : List Line) (begun : List (Option Signature)) (number : ℕ) (signature : List ℕ) → FindsOn lines begun number signature 0 begun
finds_none lines begun number signature k kept at is found = found

module _ (lines : List Line) (begun : List (Option Signature)) (number : ℕ) (signature : Signature) (i : ℕ) (lasts : List (Option Signature)) (line : Line) (there : slice_get lines i ≡ Some line)
    (so_far : FindsOn lines begun number signature.0 i lasts) where
  pub finds_one : number + 1 ≡ line.last → FindsOn lines begun number signature.0 (i + 1) (set lasts i (Some signature))
  finds_one is k kept at signed found =
      let f : Line → Option (List ℕ) = λ (line : Line). found_in line.last kept in
      let g : Line → Option (List ℕ) = λ (line : Line). found_in line.last (kept ++ k ∷ []) in
      let now : Some signature.0 ≡ g line = ap (λ (s : List ℕ). Some s) (sym signed) ∙ sym (found_now line.last kept k (ap (λ (n : ℕ). n + 1) at ∙ is)) in
      let next : suc i ≡ i + 1 = omega arith in
      map-set (option_map (λ (s : Signature). s.0)) lasts i (Some signature)
      ∙ ap (λ (l : List (Option (List ℕ))). set l i (Some signature.0)) (so_far k kept at signed found)
      ∙ ap (λ (o : Option (List ℕ)). set (blend f g i lines) i o) now
      ∙ blend_set f g i lines line there ∙ ap (λ (n : ℕ). blend f g n lines) next

  pub finds_other : (number + 1 ≡ line.last → ⊥) → FindsOn lines begun number signature.0 (i + 1) lasts
  finds_other other k kept at signed found =
      let f : Line → Option (List ℕ) = λ (line : Line). found_in line.last kept in
      let g : Line → Option (List ℕ) = λ (line : Line). found_in line.last (kept ++ k ∷ []) in
      let still : f line ≡ g line = sym (found_still line.last kept k (λ same. other (ap (λ (n : ℕ). n + 1) (sym at) ∙ same))) in
      let next : suc i ≡ i + 1 = omega arith in
      so_far k kept at signed found ∙ blend_same f g i lines line there still ∙ ap (λ (n : ℕ). blend f g n lines) next

pub finds_all : (lines : List Line) (begun : List (Option Signature)) (number : ℕ) (signature : List ℕ) (i : ℕ) (lasts : List (Option Signature)) → length lines ≤ i
    → FindsOn lines begun number signature i lasts → (k : Kept) (kept : List Kept) → k.number ≡ number → k.info.signature ≡ signature → AreFound lines kept begun
    → AreFound lines (kept ++ k ∷ []) lasts
finds_all lines begun number signature i lasts all so_far k kept at is found =
    so_far k kept at is found ∙ blend_ends (λ (line : Line). found_in line.last kept) (λ (line : Line). found_in line.last (kept ++ k ∷ [])) i lines all

-- none was put back
none_found : (lines : List Line) → signatures (replicate (length lines) None) ≡ map (λ (line : Line). found_in line.last []) lines
none_found [] = refl
none_found (line ∷ lines) = ap (λ (l : List (Option (List ℕ))). None ∷ l) (none_found lines)

pub found_none : (lines : List Line) (lasts : List (Option Signature)) (n : ℕ) → n ≡ length lines → lasts ≡ replicate n None → AreFound lines [] lasts
found_none lines lasts n same are =
    ap signatures (are ∙ ap (λ (m : ℕ). replicate m None) same) ∙ none_found lines

-- elements become one value, from the front
pub cleared_more : {X : Type 0} (n : ℕ) (v : X) (xs : List X) → n < length xs → set (replicate n v ++ drop n xs) n v ≡ replicate (suc n) v ++ drop (suc n) xs
cleared_more n v [] within = absurd (omega (arith, within))
cleared_more zero v (x ∷ xs) within = refl
cleared_more (suc n) v (x ∷ xs) within = ap (λ l. v ∷ l) (cleared_more n v xs (omega (arith, within)))
