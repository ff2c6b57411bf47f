-- How the search for faults of an ldmd.conf goes on, line by line and file by file.
use Rattle.std.proofs.Common.{◌≡◌, ◌∙◌, ℕ, ◌+◌, ◌<◌, ◌≤◌, ◌&&◌, nat_lt, true, false, List, [], ◌∷◌, ◌++◌, Bool, Option, Some, None, option_map, refl, ap, sym, append_assoc, arith}
use Rattle.std.proofs.lemmas.Bool.{and_from, lt-ltb, ltb-true}
use Rattle.std.proofs.lemmas.Slice.Eq.{bytes_eq-Decides}
use Rattle.ldm_outside.specs.Store.{StoreRecord, ReadsFile}
use Rattle.ldm_outside.specs.declared.store.FileRead.{FileRead}
use Rattle.ldm_text.specs.declared.limits.TheConstants.{LONGEST_CONFIGURATION}
use Rattle.ldm_conf.specs.declared.fault.ConfKind.{ConfKind}
use Rattle.ldm_conf.specs.declared.fault.ConfKind.TheVariants as kind
use Rattle.ldm_conf.specs.declared.limits.TheConstants.{DEEPEST_INCLUDE, MOST_FILES}
use Rattle.ldm_conf.specs.Statements.{meaning_of}
use Rattle.ldm_check.specs.ConfFaults.{Asked, Found, Line, by_answer, faults_of, in_front, included, lines_in, may_include}
use Rattle.ldm_check.specs.Files.{AsksAll, conf_line, conf_text}
use Rattle.ldm_check.specs.Says.{Fine, Wrong, Names, says}
use Rattle.ldm_check.specs.Walks.{GoesOn, GoesTo, Passes, State, tells_on}

abbrev at : Line → ConfKind → Found
at line cause = record { line = line; kind = cause }

-- the state after one fault more was told
abbrev pub with_fault : State → Line → ConfKind → State
with_fault state line cause = record state { told = state.told ++ conf_line (at line cause) }

-- a fault in front of others is told before them
told_first : (told : List ℕ) (line : Line) (cause : ConfKind) (others : Option (List Found)) →
    option_map (λ found. told ++ conf_text found) (in_front line cause others) ≡ option_map (λ found. (told ++ conf_line (at line cause)) ++ conf_text found) others
told_first told line cause None = refl
told_first told line cause (Some found) = ap (λ (text : List ℕ). Some text) (sym (append_assoc told (conf_line (at line cause)) (conf_text found)))

pub goes_nowhere : (a : State) (l : List Line) → GoesOn a l a l
goes_nowhere a l = record { on = λ asked behind. refl }

-- a line with which nothing is wrong
pub passes_fine : (a b : State) (l m : List Line) (line : Line) → GoesOn a l b (line ∷ m) → Fine ≡ says (meaning_of line.text) → GoesOn a l b m
passes_fine a b l m line on is = record { on = λ asked behind. on.on asked behind ∙ rw (sym is) refl }

-- a line that is faulty
pub passes_wrong : (a b c : State) (l m : List Line) (line : Line) (cause : ConfKind) → GoesOn a l b (line ∷ m) → Wrong cause ≡ says (meaning_of line.text)
    → c ≡ with_fault b line cause → GoesOn a l c m
passes_wrong a b c l m line cause on is told = record {
  on = λ asked behind. on.on asked behind ∙ rw (sym is, told) (told_first b.told line cause (faults_of asked b.count (m ++ behind)));
}

-- an INCLUDE line whose file may not be included
pub passes_deep : (a b c : State) (l m : List Line) (line : Line) (path : List ℕ) → GoesOn a l b (line ∷ m) → Names path ≡ says (meaning_of line.text)
    → may_include b.count line ≡ false → c ≡ with_fault b line kind.Depth → GoesOn a l c m
passes_deep a b c l m line path on is may told = record {
  on = λ asked behind. on.on asked behind ∙ rw (sym is, may, told) (told_first b.told line kind.Depth (faults_of asked b.count (m ++ behind)));
}

-- and one whose file may
pub comes_to : (a b : State) (l m : List Line) (line : Line) (path : List ℕ) → GoesOn a l b (line ∷ m) → Names path ≡ says (meaning_of line.text)
    → may_include b.count line ≡ true → GoesTo a l b line path m
comes_to a b l m line path on is may = record { on = λ asked behind. on.on asked behind ∙ rw (sym is, may) refl }

pub may : (count : ℕ) (line : Line) → line.depth < DEEPEST_INCLUDE → count < MOST_FILES → may_include count line ≡ true
may count line deep many = and_from (nat_lt line.depth DEEPEST_INCLUDE) (nat_lt count MOST_FILES) (lt-ltb line.depth DEEPEST_INCLUDE deep) (lt-ltb count MOST_FILES many)

-- a file that may not
lt_false : (a b : ℕ) → b ≤ a → nat_lt a b ≡ false
lt_false a b h = by (nat_lt a b) refl
  where
    by : (c : Bool) → nat_lt a b ≡ c → c ≡ false
    by true is = absurd (let below = ltb-true a b is in omega (arith, below, h))
    by false is = refl

and_false : (a : Bool) → (a && false) ≡ false
and_false true = refl
and_false false = refl

pub too_deep : (count : ℕ) (line : Line) → DEEPEST_INCLUDE ≤ line.depth → may_include count line ≡ false
too_deep count line deep = rw (lt_false line.depth DEEPEST_INCLUDE deep) refl

pub too_many : (count : ℕ) (line : Line) → MOST_FILES ≤ count → may_include count line ≡ false
too_many count line many = rw (lt_false count MOST_FILES many) (and_false (nat_lt line.depth DEEPEST_INCLUDE))

-- ---- the store

pub asks_more : (these those : List Asked) (a b c : StoreRecord) → AsksAll these a b → AsksAll those b c → AsksAll (these ++ those) a c
asks_more [] those a b c asks more = rw asks at more
asks_more (one ∷ these) those a b c asks more = (asks.0, asks.1, asks_more these those asks.0 b c asks.2 more)

pub passes_nothing : (store : StoreRecord) (a : State) (l : List Line) → Passes store store a l a l
passes_nothing store a l = record { asked = []; asks = refl; on = λ later behind. refl }

pub then_passes : (s t u : StoreRecord) (a b c : State) (l m k : List Line) → Passes s t a l b m → Passes t u b m c k → Passes s u a l c k
then_passes s t u a b c l m k p q = record {
  asked = p.asked ++ q.asked;
  asks = asks_more p.asked q.asked s t u p.asks q.asks;
  on = λ later behind. rw (append_assoc p.asked q.asked later) (p.on (q.asked ++ later) behind ∙ q.on later behind);
}

pub goes_on : (store : StoreRecord) (a b : State) (l m : List Line) → GoesOn a l b m → Passes store store a l b m
goes_on store a b l m on = record { asked = []; asks = refl; on = λ later behind. on.on later behind }

-- the same with more lines behind
beside : (s t : StoreRecord) (a b : State) (l k : List Line) → Passes s t a l b [] → Passes s t a (l ++ k) b k
beside s t a b l k p = record {
  asked = p.asked;
  asks = p.asks;
  on = λ later behind. rw (append_assoc l k behind) (p.on later (k ++ behind));
}

module _ (s t : StoreRecord) (a b : State) (l m : List Line) (line : Line) (path : List ℕ) (to : GoesTo a l b line path m) (answer : FileRead)
    (reads : ReadsFile answer path LONGEST_CONFIGURATION s t) where
  abbrev one : Asked
  one = record { path = path; answer = answer }

  -- what the store answers
  by_one : (later : List Asked) (behind : List Line) → tells_on (one ∷ later) a (l ++ behind)
      ≡ option_map (λ found. b.told ++ conf_text found) (by_answer (included later) b.count line path (m ++ behind) answer)
  by_one later behind = to.on (one ∷ later) behind ∙ rw ((bytes_eq-Decides path path).1 refl) refl

  -- the file does not come
  pub not_read : (c : State) (cause : ConfKind) → c ≡ with_fault b line cause
      → ((later : List Asked) (behind : List Line) → by_answer (included later) b.count line path (m ++ behind) answer ≡ in_front line cause (faults_of later b.count (m ++ behind)))
      → Passes s t a l c m
  not_read c cause told is = record {
    asked = one ∷ [];
    asks = (t, reads, refl);
    on = λ later behind. by_one later behind ∙ rw (is later behind, told) (told_first b.told line cause (faults_of later b.count (m ++ behind)));
  }

  -- the file comes, and its lines are looked at
  pub file_read : (u : StoreRecord) (bytes : List ℕ) (start c : State) (inner : List Line) → start ≡ record b { count = b.count + 1 } → inner ≡ lines_in path (line.depth + 1) bytes
      → ((later : List Asked) (behind : List Line) → by_answer (included later) b.count line path (m ++ behind) answer ≡ faults_of later (b.count + 1) (lines_in path (line.depth + 1) bytes ++ m ++ behind))
      → Passes t u start inner c [] → Passes s u a l c m
  file_read u bytes start c inner begins lines is passes =
      let inside = lines_in path (line.depth + 1) bytes in
      let onto : Passes s t a l start (inner ++ m) = record {
        asked = one ∷ [];
        asks = (t, reads, refl);
        on = λ later behind. by_one later behind ∙ rw (is later behind, begins, lines, append_assoc inside m behind) refl;
      } in
      then_passes s t u a start c l (inner ++ m) m onto (beside t u start c inner m passes)
