-- The first line of a text.
use Rattle.std.proofs.Common.{◌≡◌, ◌≤◌, ◌==◌, ℕ, Bool, true, false, cond, List, [], ◌∷◌, length, refl, arith}
use Rattle.std.specs.List.{onto_first, slice_split}
use Rattle.ldm_text.specs.Lines.{lines_of}

-- a first part has no place to split it, and is no longer than what it is the first part of
abbrev First : (ℕ → Bool) → List ℕ → List ℕ → Type 0
First p text line = (slice_split p line ≡ line ∷ []) × (length line ≤ length text)

by_parts : (p : ℕ → Bool) (x : ℕ) (xs line : List ℕ) (others : List (List ℕ)) (b : Bool) → p x ≡ b → (parts : List (List ℕ))
    → ((part : List ℕ) (more : List (List ℕ)) → parts ≡ part ∷ more → First p xs part)
    → cond b ([] ∷ parts) (onto_first x parts) ≡ line ∷ others → First p (x ∷ xs) line
by_parts p x xs line others true e parts inner h =
    let same : line ≡ [] = cc in
    rw same (refl, omega arith)
by_parts p x xs line others false e [] inner h =
    let same : line ≡ x ∷ [] = cc in
    rw (same, e) (refl, omega arith)
by_parts p x xs line others false e (part ∷ more) inner h =
    let same : line ≡ x ∷ part = cc in
    let first = inner part more refl in
    rw (same, e, first.0) (refl, omega (arith, first.1))

first_part : (p : ℕ → Bool) (text line : List ℕ) (others : List (List ℕ)) → slice_split p text ≡ line ∷ others → First p text line
first_part p [] line others is =
    let same : line ≡ [] = cc in
    rw same (refl, omega arith)
first_part p (x ∷ xs) line others is = by_parts p x xs line others (p x) refl (slice_split p xs) (λ part more split. first_part p xs part more split) is

pub alone : (text line : List ℕ) (others : List (List ℕ)) → lines_of text ≡ line ∷ others → lines_of line ≡ line ∷ []
alone text line others is = (first_part (λ byte. byte == 10) text line others is).0

pub short : (text line : List ℕ) (others : List (List ℕ)) → lines_of text ≡ line ∷ others → length line ≤ length text
short text line others is = (first_part (λ byte. byte == 10) text line others is).1
