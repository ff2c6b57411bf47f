-- Files of one store come to one end.
use Rattle.std.proofs.Common.{◌≡◌, ◌⊎◌, ℕ, ◌+◌, Bool, true, false, ◌&&◌, cond, inl, inr, List, [], ◌∷◌, ◌++◌, refl, sym, subst}
use Rattle.std.specs.Prelude.{Result, Ok, Err, Option, Some, IfSome, bytes_eq}
use Rattle.std.specs.List.{All}
use Rattle.std.proofs.lemmas.Bool.{and_parts}
use Rattle.std.proofs.lemmas.List.Elements.{All-head, All-tail}
use Rattle.std.proofs.lemmas.Slice.Eq.{bytes_eq-Decides}
use Rattle.ldm_outside.specs.Store.{File, StoreRecord, bytes_under}
use Rattle.ldm_conf.specs.declared.fault.ConfKind.{ConfKind}
use Rattle.ldm_conf.specs.Causes.{IsIn, ReadsTo}
use Rattle.ldm_conf.specs.Confs.{ConfView, no_conf, with_directive}
use Rattle.ldm_conf.specs.Reading.{End, Faulty, Include, Line, Read, Wants, after_line, along, included, lines_in, may_include, reading, wanting}
use Rattle.ldm_conf.specs.Statements.{Adds, Blank, Includes, Statement, meaning_of}
use Rattle.ldm_command_files.specs.ConfFiles.{FileReadsTo}

-- the store has the file that is wanted
abbrev pub HasFile : StoreRecord → End → Type 0
HasFile store (Read conf) = ⊥
HasFile store (Faulty fault) = ⊥
HasFile store (Wants line path) = (bytes : List ℕ) × IsIn store (record { path = path; bytes = bytes })

-- two ends are one, or at one of them a file is wanted that the store has
abbrev pub Agree : StoreRecord → End → End → Type 0
Agree store a b = (a ≡ b) ⊎ (HasFile store a ⊎ HasFile store b)

module _ (store : StoreRecord) where
  agree_other : (a b : End) → Agree store a b → Agree store b a
  agree_other a b (inl same) = inl (sym same)
  agree_other a b (inr (inl has)) = inr (inr has)
  agree_other a b (inr (inr has)) = inr (inl has)

  -- What is done at an INCLUDE line agrees: so does reading lines.
  module _ (i j : Include) (at_include : (conf : ConfView) (line : Line) (path : List ℕ) (behind : List Line) → Agree store (i conf line path behind) (j conf line path behind)) where
    after_agree : (conf : ConfView) (line : Line) (lines : List Line) → ((more : ConfView) → Agree store (along i more lines) (along j more lines)) → (meaning : Result Statement ConfKind)
        → Agree store (after_line i (λ more. along i more lines) conf line lines meaning) (after_line j (λ more. along j more lines) conf line lines meaning)
    after_agree conf line lines on (Ok Blank) = on conf
    after_agree conf line lines on (Ok (Adds directive)) = on (with_directive conf directive)
    after_agree conf line lines on (Ok (Includes path)) = at_include conf line path lines
    after_agree conf line lines on (Err cause) = inl refl

    along_agree : (lines : List Line) (conf : ConfView) → Agree store (along i conf lines) (along j conf lines)
    along_agree [] conf = inl refl
    along_agree (line ∷ lines) conf = after_agree conf line lines (λ more. along_agree lines more) (meaning_of line.text)

  has_wanted : (count : ℕ) (line : Line) (path : List ℕ) (file : File) → IsIn store file → (may_include count line && bytes_eq file.path path) ≡ true → HasFile store (wanting count line path)
  has_wanted count line path file is_in test =
      let parts = and_parts (may_include count line) (bytes_eq file.path path) test in
      let same : file.path ≡ path = (bytes_eq-Decides file.path path).0 parts.1 in
      let there : IsIn store (record { path = path; bytes = file.bytes }) = subst (λ (p : List ℕ). IsIn store (record { path = p; bytes = file.bytes })) same is_in in
      rw (parts.0) (file.bytes, there)

  -- one has the file that the other wants
  wants_agree : (count : ℕ) (line : Line) (path : List ℕ) (file : File) (on : End) → IsIn store file → (test : Bool) → (may_include count line && bytes_eq file.path path) ≡ test
      → Agree store (wanting count line path) (cond test on (wanting count line path))
  wants_agree count line path file on is_in false is = inl refl
  wants_agree count line path file on is_in true is = inr (inl (has_wanted count line path file is_in is))

  module _ (files : List File) (told : store.files ≡ Some files) where
    under : (file : File) → IsIn store file → bytes_under file.path files ≡ Some file.bytes
    under file is_in = subst (λ (all : Option (List File)). IfSome all (λ fs. bytes_under file.path fs ≡ Some file.bytes)) told is_in.1

    pub same_bytes : (path a b : List ℕ) → IsIn store (record { path = path; bytes = a }) → IsIn store (record { path = path; bytes = b }) → a ≡ b
    same_bytes path a b is_a is_b =
        let one = under (record { path = path; bytes = a }) is_a in
        let other = under (record { path = path; bytes = b }) is_b in
        cc

    same_file : (path : List ℕ) (f g : File) → IsIn store f → IsIn store g → f.path ≡ path → g.path ≡ path → f.bytes ≡ g.bytes
    same_file path f g is_f is_g at_f at_g =
        same_bytes path f.bytes g.bytes (subst (λ (p : List ℕ). IsIn store (record { path = p; bytes = f.bytes })) at_f is_f)
        (subst (λ (p : List ℕ). IsIn store (record { path = p; bytes = g.bytes })) at_g is_g)

    -- both have a file
    both_agree : (count : ℕ) (conf : ConfView) (line : Line) (path : List ℕ) (behind : List Line) (i j : Include) (f g : File) → IsIn store f → IsIn store g
        → ((conf : ConfView) (line : Line) (path : List ℕ) (behind : List Line) → Agree store (i conf line path behind) (j conf line path behind))
        → (a b : Bool) → (may_include count line && bytes_eq f.path path) ≡ a → (may_include count line && bytes_eq g.path path) ≡ b
        → Agree store (cond a (along i conf (lines_in count (line.depth + 1) f.bytes ++ behind)) (wanting count line path))
        (cond b (along j conf (lines_in count (line.depth + 1) g.bytes ++ behind)) (wanting count line path))
    both_agree count conf line path behind i j f g is_f is_g agrees false false f_is g_is = inl refl
    both_agree count conf line path behind i j f g is_f is_g agrees true false f_is g_is = inr (inr (has_wanted count line path f is_f f_is))
    both_agree count conf line path behind i j f g is_f is_g agrees false true f_is g_is = inr (inl (has_wanted count line path g is_g g_is))
    both_agree count conf line path behind i j f g is_f is_g agrees true true f_is g_is =
        let f_parts = and_parts (may_include count line) (bytes_eq f.path path) f_is in
        let g_parts = and_parts (may_include count line) (bytes_eq g.path path) g_is in
        let same = same_file path f g is_f is_g ((bytes_eq-Decides f.path path).0 f_parts.1) ((bytes_eq-Decides g.path path).0 g_parts.1) in
        subst
        (λ (bytes : List ℕ). Agree store (along i conf (lines_in count (line.depth + 1) f.bytes ++ behind)) (along j conf (lines_in count (line.depth + 1) bytes ++ behind)))
        same (along_agree i j agrees (lines_in count (line.depth + 1) f.bytes ++ behind) conf)

    include_agree : (fs gs : List File) → All (IsIn store) fs → All (IsIn store) gs → (count : ℕ) (conf : ConfView) (line : Line) (path : List ℕ) (behind : List Line)
        → Agree store (included fs count conf line path behind) (included gs count conf line path behind)
    include_agree [] [] in_fs in_gs count conf line path behind = inl refl
    include_agree [] (g ∷ gs) in_fs in_gs count conf line path behind = wants_agree count line path g _ (All-head (IsIn store) g gs in_gs) (may_include count line && bytes_eq g.path path) refl
    include_agree (f ∷ fs) [] in_fs in_gs count conf line path behind =
        agree_other _ _ (wants_agree count line path f _ (All-head (IsIn store) f fs in_fs) (may_include count line && bytes_eq f.path path) refl)
    include_agree (f ∷ fs) (g ∷ gs) in_fs in_gs count conf line path behind =
        both_agree count conf line path behind (included fs (count + 1)) (included gs (count + 1)) f g (All-head (IsIn store) f fs in_fs) (All-head (IsIn store) g gs in_gs)
        (include_agree fs gs (All-tail (IsIn store) f fs in_fs) (All-tail (IsIn store) g gs in_gs) (count + 1))
        (may_include count line && bytes_eq f.path path) (may_include count line && bytes_eq g.path path) refl refl

    reading_agree : (text : List ℕ) (fs gs : List File) → All (IsIn store) fs → All (IsIn store) gs → Agree store (reading fs text) (reading gs text)
    unfolding reading
    reading_agree text fs gs in_fs in_gs = along_agree (included fs 1) (included gs 1) (include_agree fs gs in_fs in_gs 1) (lines_in 0 0 text) no_conf

    texts_agree : (text : List ℕ) (a b : End) → ReadsTo store text a → ReadsTo store text b → Agree store a b
    texts_agree text a b to_a to_b =
        let one = subst (λ (end : End). Agree store end (reading to_b.came text)) to_a.ends (reading_agree text to_a.came to_b.came to_a.told to_b.told) in
        subst (λ (end : End). Agree store a end) to_b.ends one

    pub files_agree : (path : List ℕ) (a b : End) → FileReadsTo store path a → FileReadsTo store path b → Agree store a b
    files_agree path a b to_a to_b =
        let same = same_bytes path to_b.bytes to_a.bytes to_b.first to_a.first in
        texts_agree to_a.bytes a b to_a.reads (subst (λ (bytes : List ℕ). ReadsTo store bytes b) same to_b.reads)
