-- The first of the faults of an ldmd.conf, and the line at which reading it stops.
use Rattle.std.proofs.Common.{◌≡◌, ◌∙◌, ℕ, suc, ◌+◌, ◌&&◌, Bool, true, false, List, [], ◌∷◌, ◌++◌, map, Option, Some, None, Result, Ok, Err, bytes_eq, refl, sym, subst, arith}
use Rattle.std.specs.Prelude.{if◌then◌else◌}
use Rattle.std.proofs.lemmas.Slice.Eq.{bytes_eq-Decides}
use Rattle.ldm_outside.specs.Store.{File}
use Rattle.ldm_outside.specs.declared.store.FileRead.{FileRead}
use Rattle.ldm_outside.specs.declared.store.FileRead.TheVariants as read
use Rattle.ldm_text.specs.Lines.{lines_of}
use Rattle.ldm_conf.specs.declared.fault.ConfKind.{ConfKind}
use Rattle.ldm_conf.specs.declared.fault.ConfKind.TheVariants as kind
use Rattle.ldm_conf.specs.Confs.{ConfView, no_conf, with_directive}
use Rattle.ldm_conf.specs.Reading as conf
use Rattle.ldm_conf.specs.Reading.{End, Faulty, Read, Wants, reading}
use Rattle.ldm_conf.specs.Statements.{Statement, Blank, Adds, Includes, meaning_of}
use Rattle.ldm_check.specs.ConfFaults.{Asked, Found, Include, Line, along, by_answer, conf_faults, in_front, included, lines_in, may_include, numbered, with_line}
use Rattle.ldm_check.specs.Law.{BeginsWith, Gave, HasBytes, path_at, paths_of, unread_kind}
use Rattle.ldm_check.specs.Says.{says}

-- the same line, where files are read under these paths
record SameLine (all : List (List ℕ)) (l : conf.Line) (m : Line) : Type 0 where
  path : m.path ≡ path_at l.file all
  depth : m.depth ≡ l.depth
  number : m.number ≡ l.number
  text : m.text ≡ l.text

abbrev Same : List (List ℕ) → List conf.Line → List Line → Type 0
Same all [] [] = Unit {0}
Same all [] (m ∷ ms) = ⊥
Same all (l ∷ ls) [] = ⊥
Same all (l ∷ ls) (m ∷ ms) = SameLine all l m × Same all ls ms

same_more : (all : List (List ℕ)) (ks : List conf.Line) (ns : List Line) (ls : List conf.Line) (ms : List Line) → Same all ks ns → Same all ls ms → Same all (ks ++ ls) (ns ++ ms)
same_more all [] [] ls ms same more = more
same_more all [] (n ∷ ns) ls ms same more = absurd same
same_more all (k ∷ ks) [] ls ms same more = absurd same
same_more all (k ∷ ks) (n ∷ ns) ls ms same more = (same.0, same_more all ks ns ls ms same.1 more)

same_numbered : (all : List (List ℕ)) (file depth number : ℕ) (path : List ℕ) → path ≡ path_at file all → (texts : List (List ℕ))
    → Same all (conf.numbered file depth number texts) (numbered path depth number texts)
same_numbered all file depth number path is [] = tt
same_numbered all file depth number path is (text ∷ texts) =
    (record { path = is; depth = refl; number = refl; text = refl }, same_numbered all file depth (number + 1) path is texts)

-- the files that are still to come stand behind so many of all
abbrev Stands : List (List ℕ) → ℕ → List File → Type 0
Stands all count files = (k : ℕ) → path_at (count + k) all ≡ path_at k (map (λ (file : File). file.path) files)

stands_at : (all : List (List ℕ)) (count : ℕ) (file : File) (files : List File) → Stands all count (file ∷ files) → path_at count all ≡ file.path
stands_at all count file files stands =
    let same : count + 0 ≡ count = omega arith in
    subst (λ (n : ℕ). path_at n all ≡ file.path) same (stands 0)

stands_behind : (all : List (List ℕ)) (count : ℕ) (file : File) (files : List File) → Stands all count (file ∷ files) → Stands all (count + 1) files
stands_behind all count file files stands = λ k.
    let same : count + suc k ≡ count + 1 + k = omega arith in
    subst (λ (n : ℕ). path_at n all ≡ path_at k (map (λ (file : File). file.path) files)) same (stands (suc k))

-- a file that is wanted does not come
pub record Lacks (later : List Asked) (path : List ℕ) (cause : ConfKind) : Type 0 where
  pub one : Asked
  pub rest : List Asked
  pub first : later ≡ one ∷ rest
  pub same : one.path ≡ path
  pub is : unread_kind one.answer ≡ Some cause

-- what is found, by the end of reading, and by what the store answers later
abbrev Agrees : List (List ℕ) → List Asked → End → Option (List Found) → Type 0
Agrees all later (Read view) result = result ≡ Some []
Agrees all later (Faulty fault) result = (found : List Found) → result ≡ Some found → BeginsWith all fault found
Agrees all later (Wants line path) result = (cause : ConfKind) (found : List Found) → Lacks later path cause → result ≡ Some found
    → BeginsWith all (record { file = line.file; line = line.number; kind = cause }) found

module _ (all : List (List ℕ)) (later : List Asked) where
  -- a faulty line
  first_is : (l : conf.Line) (m : Line) (cause : ConfKind) (others : Option (List Found)) → SameLine all l m → Agrees all later (conf.faulty l cause) (in_front m cause others)
  first_is l m cause None same = λ found is. cc
  first_is l m cause (Some more) same = λ found is.
      let whole : found ≡ record { line = m; kind = cause } ∷ more = cc in
      rw whole (same.path, same.number, refl)

  -- an INCLUDE line
  abbrev At : conf.Include → (Line → Bool) → Include → Type 0
  At there may here =
      (view : ConfView) (l : conf.Line) (m : Line) (path : List ℕ) (ls : List conf.Line) (ms : List Line) → SameLine all l m → Same all ls ms
      → Agrees all later (there view l path ls) (if may m then here m path ms else in_front m kind.Depth (along may here ms))

  by_meaning : (there : conf.Include) (may : Line → Bool) (here : Include) → At there may here → (view : ConfView) (l : conf.Line) (m : Line) (ls : List conf.Line) (ms : List Line)
      → SameLine all l m → Same all ls ms → ((more : ConfView) → Agrees all later (conf.along there more ls) (along may here ms)) → (meaning : Result Statement ConfKind)
      → Agrees all later (conf.after_line there (λ more. conf.along there more ls) view l ls meaning) (with_line may here (along may here ms) m ms (says meaning))
  by_meaning there may here at view l m ls ms one same rest (Ok Blank) = rest view
  by_meaning there may here at view l m ls ms one same rest (Ok (Adds directive)) = rest (with_directive view directive)
  by_meaning there may here at view l m ls ms one same rest (Ok (Includes path)) = at view l m path ls ms one same
  by_meaning there may here at view l m ls ms one same rest (Err cause) = first_is l m cause (along may here ms) one

  walks : (there : conf.Include) (may : Line → Bool) (here : Include) → At there may here → (view : ConfView) (ls : List conf.Line) (ms : List Line) → Same all ls ms
      → Agrees all later (conf.along there view ls) (along may here ms)
  walks there may here at view [] [] same = refl
  walks there may here at view [] (m ∷ ms) same = absurd same
  walks there may here at view (l ∷ ls) [] same = absurd same
  walks there may here at view (l ∷ ls) (m ∷ ms) same =
      subst (λ (text : List ℕ). Agrees all later (conf.along there view (l ∷ ls)) (with_line may here (along may here ms) m ms (says (meaning_of text)))) (sym same.0.text)
      (by_meaning there may here at view l m ls ms same.0 same.1 (λ more. walks there may here at more ls ms same.1) (meaning_of l.text))

  -- an INCLUDE line whose file does not come
  by_unread : (rest : List Asked) (count : ℕ) (l : conf.Line) (m : Line) (path : List ℕ) (ms : List Line) → SameLine all l m → (answer : FileRead) (cause : ConfKind) → unread_kind answer ≡ Some cause
      → (found : List Found) → by_answer (included rest) count m path ms answer ≡ Some found → BeginsWith all (record { file = l.file; line = l.number; kind = cause }) found
  by_unread rest count l m path ms same (read.Bytes bytes) cause is found has = cc
  by_unread rest count l m path ms same read.TooLong cause is found has =
      let kind_is : kind.Long ≡ cause = cc in
      first_is l m cause (along (may_include count) (included rest count) ms) same found (rw kind_is at has)
  by_unread rest count l m path ms same read.Failed cause is found has =
      let kind_is : kind.Store ≡ cause = cc in
      first_is l m cause (along (may_include count) (included rest count) ms) same found (rw kind_is at has)
  by_unread rest count l m path ms same read.OutOfMemory cause is found has = cc

  unread : (count : ℕ) (l : conf.Line) (m : Line) (path : List ℕ) (ms : List Line) → SameLine all l m → Agrees all later (Wants l path) (included later count m path ms)
  unread count l m path ms same = λ cause found lacks is.
      by_unread lacks.rest count l m path ms same lacks.one.answer cause lacks.is found (rw (lacks.first, lacks.same, (bytes_eq-Decides path path).1 refl) at is)

  same_may : (count : ℕ) (l : conf.Line) (m : Line) → SameLine all l m → may_include count m ≡ conf.may_include count l
  same_may count l m same = rw same.depth refl

  wants : (count : ℕ) (l : conf.Line) (m : Line) (path : List ℕ) (b : Bool) (here others : Option (List Found)) → SameLine all l m → Agrees all later (Wants l path) here
      → Agrees all later (if b then Wants l path else conf.faulty l kind.Depth) (if b then here else in_front m kind.Depth others)
  wants count l m path true here others same agree = agree
  wants count l m path false here others same agree = first_is l m kind.Depth others same

  -- the lines of a file that came, in place of the line
  after_file : (those : List Asked) (files : List File) (count : ℕ) (view : ConfView) (l : conf.Line) (m : Line) (path bytes : List ℕ) (ls : List conf.Line) (ms : List Line) → SameLine all l m → Same all ls ms
      → At (conf.included files (count + 1)) (may_include (count + 1)) (included those (count + 1)) → path ≡ path_at count all → (answer : FileRead) → HasBytes answer bytes
      → Agrees all later (conf.along (conf.included files (count + 1)) view (conf.lines_in count (l.depth + 1) bytes ++ ls)) (by_answer (included those) count m path ms answer)
  after_file those files count view l m path bytes ls ms one same at named (read.Bytes given) has =
      rw (one.depth, has) (walks (conf.included files (count + 1)) (may_include (count + 1)) (included those (count + 1)) at view (conf.lines_in count (l.depth + 1) bytes ++ ls)
      (lines_in path (l.depth + 1) bytes ++ ms)
      (same_more all (conf.lines_in count (l.depth + 1) bytes) (lines_in path (l.depth + 1) bytes) ls ms (same_numbered all count (l.depth + 1) 1 path named (lines_of bytes)) same))
  after_file those files count view l m path bytes ls ms one same at named read.TooLong has = absurd has
  after_file those files count view l m path bytes ls ms one same at named read.Failed has = absurd has
  after_file those files count view l m path bytes ls ms one same at named read.OutOfMemory has = absurd has

  by_tests : (count : ℕ) (l : conf.Line) (m : Line) (path : List ℕ) (there : End) (here others : Option (List Found)) → SameLine all l m
      → (b : Bool) → conf.may_include count l ≡ b → (e : Bool) → (e ≡ true → Agrees all later there here)
      → Agrees all later (if b && e then there else conf.wanting count l path) (if b then (if e then here else None) else in_front m kind.Depth others)
  by_tests count l m path there here others one true is true agree = agree refl
  by_tests count l m path there here others one true is false agree = rw is (λ cause found lacks none. cc)
  by_tests count l m path there here others one false is e agree = rw is (first_is l m kind.Depth others one)

  at_include : (asked : List Asked) (came : List File) → Gave asked came → (count : ℕ) → Stands all count came → At (conf.included came count) (may_include count) (included (asked ++ later) count)
  at_include [] [] gave count stands view l m path ls ms one same =
      rw (same_may count l m one)
      (wants count l m path (conf.may_include count l) (included later count m path ms) (along (may_include count) (included later count) ms) one (unread count l m path ms one))
  at_include [] (file ∷ files) gave count stands view l m path ls ms one same = absurd gave
  at_include (asked ∷ more) [] gave count stands view l m path ls ms one same = absurd gave
  at_include (asked ∷ more) (file ∷ files) gave count stands view l m path ls ms one same =
      rw (same_may count l m one, gave.0)
      (by_tests count l m path (conf.along (conf.included files (count + 1)) view (conf.lines_in count (l.depth + 1) file.bytes ++ ls)) (by_answer (included (more ++ later)) count m path ms asked.answer)
      (along (may_include count) (included (record { path = file.path; answer = asked.answer } ∷ more ++ later) count) ms) one
      (conf.may_include count l) refl (bytes_eq file.path path)
      (λ same_path.
      let is : file.path ≡ path = (bytes_eq-Decides file.path path).0 same_path in
      let named : path ≡ path_at count all = sym is ∙ sym (stands_at all count file files stands) in
      after_file (more ++ later) files count view l m path file.bytes ls ms one same (at_include more files gave.2 (count + 1) (stands_behind all count file files stands)) named asked.answer gave.1))

pub reading_agrees : (later asked : List Asked) (came : List File) (path text : List ℕ) (end : End) → Gave asked came → reading came text ≡ end
    → Agrees (paths_of path came) later end (conf_faults (asked ++ later) path text)
unfolding reading conf_faults
reading_agrees later asked came path text end gave is =
    let all = paths_of path came in
    let stands : Stands all 1 came = λ k. let same : 1 + k ≡ suc k = omega arith in rw same refl in
    rw (sym is) (walks all later (conf.included came 1) (may_include 1) (included (asked ++ later) 1) (at_include all later asked came gave 1 stands) no_conf (conf.lines_in 0 0 text) (lines_in path 0 text)
    (same_numbered all 0 0 1 path refl (lines_of text)))
