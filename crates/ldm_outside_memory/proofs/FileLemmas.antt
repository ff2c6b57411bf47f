-- A list of files in which the first file under a path was found, or none.
use Rattle.std.proofs.Common.{◌≡◌, ℕ, zero, suc, ◌+◌, ◌<◌, ◌∙◌, Bool, true, false, cond, List, [], ◌∷◌, ◌++◌, length, get_or, set, Some, None, refl, sym, ap, arith}
use Rattle.std.specs.Prelude.{bytes_eq}
use Rattle.std.proofs.lemmas.List.Quantifiers.{position-Some}
use Rattle.std.specs.List.{position_from}
use Rattle.std.proofs.lemmas.Iterator.Adapters.{position_from-zero}
use Rattle.ldm_outside_memory.specs.MemStore.{place_under}
use Rattle.ldm_outside.specs.Store.{File, bytes_under, with_made, with_changed}

-- whether a file stands under the path
abbrev pub under : List ℕ → File → Bool
under path file = bytes_eq file.path path

-- the file with its bytes changed
abbrev pub with_bytes : (List ℕ → List ℕ) → File → File
with_bytes change file = record { path = file.path; bytes = change file.bytes }

-- the first file under the path is at that place
abbrev IsFirstUnder : List ℕ → List File → ℕ → File → Type 0
IsFirstUnder path files i d =
    (i < length files) × (under path (get_or files i d) ≡ true) × ((k : ℕ) → k < i → under path (get_or files k d) ≡ false)

-- it is at one place less behind a file that is not the one
behind : (path : List ℕ) (file : File) (rest : List File) (i : ℕ) (d : File) → IsFirstUnder path (file ∷ rest) (suc i) d → IsFirstUnder path rest i d
behind path file rest i d first = (omega (arith, first.0), first.1, λ k h. first.2 (suc k) (omega (arith, h)))

first_bytes : (path : List ℕ) (files : List File) (i : ℕ) (d : File) → IsFirstUnder path files i d → bytes_under path files ≡ Some (get_or files i d).bytes
first_bytes path [] i d first = absurd (omega (arith, first.0))
first_bytes path (file ∷ rest) zero d first = rw (first.1) refl
first_bytes path (file ∷ rest) (suc i) d first = rw (first.2 0 (omega arith)) (first_bytes path rest i d (behind path file rest i d first))

first_made : (path : List ℕ) (files : List File) (i : ℕ) (d : File) → IsFirstUnder path files i d → with_made path files ≡ files
first_made path [] i d first = absurd (omega (arith, first.0))
first_made path (file ∷ rest) zero d first = rw (first.1) refl
first_made path (file ∷ rest) (suc i) d first = rw (first.2 0 (omega arith)) (ap (λ (files : List File). file ∷ files) (first_made path rest i d (behind path file rest i d first)))

first_changed : (path : List ℕ) (change : List ℕ → List ℕ) (files : List File) (i : ℕ) (d : File) → IsFirstUnder path files i d → with_changed path change files ≡ set files i (with_bytes change (get_or files i d))
first_changed path change [] i d first = absurd (omega (arith, first.0))
first_changed path change (file ∷ rest) zero d first = rw (first.1) refl
first_changed path change (file ∷ rest) (suc i) d first = rw (first.2 0 (omega arith)) (ap (λ (files : List File). file ∷ files) (first_changed path change rest i d (behind path file rest i d first)))

-- no file was found from a place on
none_bytes : (path : List ℕ) (files : List File) (i : ℕ) → position_from (under path) i files ≡ None → bytes_under path files ≡ None
none_bytes path [] i none = refl
none_bytes path (file ∷ rest) i none = by_test (under path file) (none_bytes path rest (i + 1)) none
  where
    by_test : (b : Bool) → (position_from (under path) (i + 1) rest ≡ None → bytes_under path rest ≡ None)
        → cond b (Some i) (position_from (under path) (i + 1) rest) ≡ None → cond b (Some file.bytes) (bytes_under path rest) ≡ None
    by_test true later none = absurd (cc)
    by_test false later none = later none

none_made : (path : List ℕ) (files : List File) (i : ℕ) → position_from (under path) i files ≡ None → with_made path files ≡ files ++ record { path = path; bytes = [] } ∷ []
none_made path [] i none = refl
none_made path (file ∷ rest) i none = by_test (under path file) (none_made path rest (i + 1)) none
  where
    by_test : (b : Bool) → (position_from (under path) (i + 1) rest ≡ None → with_made path rest ≡ rest ++ record { path = path; bytes = [] } ∷ [])
        → cond b (Some i) (position_from (under path) (i + 1) rest) ≡ None → cond b (file ∷ rest) (file ∷ with_made path rest) ≡ file ∷ (rest ++ record { path = path; bytes = [] } ∷ [])
    by_test true later none = absurd (cc)
    by_test false later none = ap (λ (files : List File). file ∷ files) (later none)

none_changed : (path : List ℕ) (change : List ℕ → List ℕ) (files : List File) (i : ℕ) → position_from (under path) i files ≡ None → with_changed path change files ≡ files
none_changed path change [] i none = refl
none_changed path change (file ∷ rest) i none = by_test (under path file) (none_changed path change rest (i + 1)) none
  where
    by_test : (b : Bool) → (position_from (under path) (i + 1) rest ≡ None → with_changed path change rest ≡ rest)
        → cond b (Some i) (position_from (under path) (i + 1) rest) ≡ None → cond b (with_bytes change file ∷ rest) (file ∷ with_changed path change rest) ≡ file ∷ rest
    by_test true later none = absurd (cc)
    by_test false later none = ap (λ (files : List File). file ∷ files) (later none)

from_start : (path : List ℕ) (files : List File) → place_under path files ≡ None → position_from (under path) 0 files ≡ None
from_start path files none = sym (position_from-zero (under path) files) ∙ none

-- a file was found
pub bytes_there : (path : List ℕ) (files : List File) (i : ℕ) (d : File) → place_under path files ≡ Some i → bytes_under path files ≡ Some (get_or files i d).bytes
bytes_there path files i d found = first_bytes path files i d (position-Some (under path) files i d found)

pub made_there : (path : List ℕ) (files : List File) (i : ℕ) → place_under path files ≡ Some i → with_made path files ≡ files
made_there path files i found = let d : File = record { path = []; bytes = [] } in first_made path files i d (position-Some (under path) files i d found)

pub changed_there : (path : List ℕ) (change : List ℕ → List ℕ) (files : List File) (i : ℕ) (d : File) → place_under path files ≡ Some i → with_changed path change files ≡ set files i (with_bytes change (get_or files i d))
changed_there path change files i d found = first_changed path change files i d (position-Some (under path) files i d found)

-- no file was found
pub bytes_nowhere : (path : List ℕ) (files : List File) → place_under path files ≡ None → bytes_under path files ≡ None
bytes_nowhere path files none = none_bytes path files 0 (from_start path files none)

pub made_behind : (path : List ℕ) (files : List File) → place_under path files ≡ None → with_made path files ≡ files ++ record { path = path; bytes = [] } ∷ []
made_behind path files none = none_made path files 0 (from_start path files none)

pub changed_nowhere : (path : List ℕ) (change : List ℕ → List ℕ) (files : List File) → place_under path files ≡ None → with_changed path change files ≡ files
changed_nowhere path change files none = none_changed path change files 0 (from_start path files none)

-- the file that was found was changed in its place
pub changed_in_place : (path : List ℕ) (change : List ℕ → List ℕ) (files : List File) (i : ℕ) (was now : File) → place_under path files ≡ Some i → was ≡ get_or files i was → now ≡ with_bytes change was → set files i now ≡ with_changed path change files
changed_in_place path change files i was now found at changed =
    ap (λ (file : File). set files i file) (changed ∙ ap (with_bytes change) at) ∙ sym (changed_there path change files i was found)

-- the file that was found has these bytes
pub bytes_in_place : (path : List ℕ) (files : List File) (i : ℕ) (was : File) (bytes : List ℕ) → place_under path files ≡ Some i → was ≡ get_or files i was → bytes ≡ was.bytes → bytes_under path files ≡ Some bytes
bytes_in_place path files i was bytes found at same =
    bytes_there path files i was found ∙ ap (λ (file : File). Some file.bytes) (sym at) ∙ ap (λ (t : List ℕ). Some t) (sym same)
