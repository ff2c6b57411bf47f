-- The faults of an ldmd.conf, and what it means.
use Rattle.std.proofs.Common.{◌≡◌, ℕ, ◌+◌, inl, inr, Bool, true, false, List, [], ◌∷◌, ◌++◌, Option, Some, None, bytes_eq, refl, sym, append_assoc}
use Rattle.std.specs.Prelude.{if◌then◌else◌}
use Rattle.ldm_outside.specs.declared.store.FileRead.{FileRead}
use Rattle.ldm_outside.specs.declared.store.FileRead.TheVariants as read
use Rattle.ldm_conf.specs.declared.fault.ConfKind.{ConfKind}
use Rattle.ldm_conf.specs.declared.fault.ConfKind.TheVariants as kind
use Rattle.ldm_conf.specs.Statements.{meaning_of}
use Rattle.ldm_check.specs.ConfFaults.{Asked, Found, Include, Line, along, by_answer, faults_of, in_front, included, lines_in, may_include, with_line}
use Rattle.ldm_check.specs.Law.{LacksOne, emptied}
use Rattle.ldm_check.specs.Says.{Says, Fine, Wrong, Names, says}

module _ (line : Line) (cause : ConfKind) where
  -- one fault more in front of both
  more : (first : Line) (other : ConfKind) (a b : Option (List Found)) → LacksOne line cause a b → LacksOne line cause (in_front first other a) (in_front first other b)
  more first other a b (inl none) = inl (rw none.0 refl, rw none.1 refl)
  more first other a b (inr some) = inr (record { line = first; kind = other } ∷ some.0, some.1, rw some.2 refl, rw some.3 refl)

  -- the line itself
  gone : (a : Option (List Found)) → LacksOne line cause (in_front line cause a) a
  gone None = inl (refl, refl)
  gone (Some found) = inr ([], found, refl, refl)

  module _ (behind : List Line) (is : Wrong cause ≡ says (meaning_of line.text)) (blank : Fine ≡ says (meaning_of [])) where
    abbrev Both : (may : Line → Bool) → Include → List Line → Type 0
    Both may include before = LacksOne line cause (along may include (before ++ line ∷ behind)) (along may include (before ++ emptied line ∷ behind))

    abbrev Keeps : Include → Type 0
    Keeps include = (first : Line) (path : List ℕ) (before : List Line)
        → LacksOne line cause (include first path (before ++ line ∷ behind)) (include first path (before ++ emptied line ∷ behind))

    by_may : (may : Line → Bool) (include : Include) → Keeps include → (first : Line) (before : List Line) → Both may include before → (path : List ℕ) (b : Bool)
        → LacksOne line cause (if b then include first path (before ++ line ∷ behind) else in_front first kind.Depth (along may include (before ++ line ∷ behind)))
        (if b then include first path (before ++ emptied line ∷ behind) else in_front first kind.Depth (along may include (before ++ emptied line ∷ behind)))
    by_may may include keeps first before rest path true = keeps first path before
    by_may may include keeps first before rest path false = more first kind.Depth _ _ rest

    by_says : (may : Line → Bool) (include : Include) → Keeps include → (first : Line) (before : List Line) → Both may include before → (what : Says)
        → LacksOne line cause (with_line may include (along may include (before ++ line ∷ behind)) first (before ++ line ∷ behind) what)
        (with_line may include (along may include (before ++ emptied line ∷ behind)) first (before ++ emptied line ∷ behind) what)
    by_says may include keeps first before rest Fine = rest
    by_says may include keeps first before rest (Wrong other) = more first other _ _ rest
    by_says may include keeps first before rest (Names path) = by_may may include keeps first before rest path (may first)

    walks : (may : Line → Bool) (include : Include) → Keeps include → (before : List Line) → Both may include before
    walks may include keeps [] = rw (sym is, sym blank) (gone (along may include behind))
    walks may include keeps (first ∷ before) = by_says may include keeps first before (walks may include keeps before) (says (meaning_of first.text))

    by_one : (later : List Asked) (count : ℕ) (first : Line) (path : List ℕ) (before : List Line) → ((n : ℕ) (lines : List Line) → Both (may_include n) (included later n) lines) → (answer : FileRead)
        → LacksOne line cause (by_answer (included later) count first path (before ++ line ∷ behind) answer) (by_answer (included later) count first path (before ++ emptied line ∷ behind) answer)
    by_one later count first path before on (read.Bytes bytes) =
        let inner = lines_in path (first.depth + 1) bytes.items in
        rw (sym (append_assoc inner before (line ∷ behind)), sym (append_assoc inner before (emptied line ∷ behind))) (on (count + 1) (inner ++ before))
    by_one later count first path before on read.TooLong = more first kind.Long _ _ (on count before)
    by_one later count first path before on read.Failed = more first kind.Store _ _ (on count before)
    by_one later count first path before on read.OutOfMemory = inl (refl, refl)

    if_same : (b : Bool) (x y : Option (List Found)) → LacksOne line cause x y → LacksOne line cause (if b then x else None) (if b then y else None)
    if_same true x y lacks = lacks
    if_same false x y lacks = inl (refl, refl)

    keeps_all : (asked : List Asked) (count : ℕ) → Keeps (included asked count)
    keeps_all [] count first path before = inl (refl, refl)
    keeps_all (one ∷ later) count first path before =
        if_same (bytes_eq one.path path) _ _
        (by_one later count first path before (λ n lines. walks (may_include n) (included later n) (keeps_all later n) lines) one.answer)

    pub each_alone : (asked : List Asked) (count : ℕ) (before : List Line) → LacksOne line cause (faults_of asked count (before ++ line ∷ behind)) (faults_of asked count (before ++ emptied line ∷ behind))
    each_alone asked count before = walks (may_include count) (included asked count) (keeps_all asked count) before
