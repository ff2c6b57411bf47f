-- How reading goes on, line by line and file by file.
use Rattle.std.proofs.Common.{◌≡◌, ◌∙◌, ℕ, ◌+◌, ◌<◌, nat_lt, inl, inr, true, List, [], ◌∷◌, ◌++◌, Ok, refl, append_assoc, append-nil}
use Rattle.std.proofs.lemmas.Bool.{and_from, and_parts, lt-ltb, ltb-true}
use Rattle.std.proofs.lemmas.List.Elements.{All-append, All-cons, All-nil}
use Rattle.std.proofs.lemmas.Slice.Eq.{bytes_eq-Decides}
use Rattle.ldm_outside.specs.Store.{File, StoreRecord}
use Rattle.ldm_conf.specs.declared.fault.ConfFault.{ConfFault}
use Rattle.ldm_conf.specs.declared.fault.ConfKind.{ConfKind}
use Rattle.ldm_conf.specs.declared.fault.ConfKind.TheVariants.{Keyword, Fields, Feed, Pattern, Depth, Store, Long, OutOfMemory}
use Rattle.ldm_conf.specs.declared.limits.TheConstants.{DEEPEST_INCLUDE, MOST_FILES}
use Rattle.ldm_conf.specs.Causes.{HasCause, IsIn, ReadsTo}
use Rattle.ldm_conf.specs.Confs.{no_conf}
use Rattle.ldm_conf.specs.LineFaults.{IsKindOf, OnLineFault}
use Rattle.ldm_conf.specs.Reading.{End, Faulty, Read, Wants, Line, lines_in, may_include, reading, wanting}
use Rattle.ldm_conf.specs.States.{AddsLine, EndsIn, FailsIn, GoesOn, GoesTo, Passes, State, reads_on}
use Rattle.ldm_conf.specs.Statements.{Includes, meaning_of}

-- a file that may be included
pub may : (count : ℕ) (line : Line) → line.depth < DEEPEST_INCLUDE → count < MOST_FILES → may_include count line ≡ true
may count line deep many = and_from (nat_lt line.depth DEEPEST_INCLUDE) (nat_lt count MOST_FILES) (lt-ltb line.depth DEEPEST_INCLUDE deep) (lt-ltb count MOST_FILES many)

pub may_deepen : (count : ℕ) (line : Line) → may_include count line ≡ true → line.depth < DEEPEST_INCLUDE
may_deepen count line h = ltb-true line.depth DEEPEST_INCLUDE (and_parts (nat_lt line.depth DEEPEST_INCLUDE) (nat_lt count MOST_FILES) h).0

pub wanted : (count : ℕ) (line : Line) (path : List ℕ) → may_include count line ≡ true → wanting count line path ≡ Wants line path
wanted count line path h = rw h refl

pub goes_nowhere : (a : State) (l : List Line) → GoesOn a l a l
goes_nowhere a l = record { count = refl; on = λ files behind. refl }

-- a line that adds
pub adds : (a c : State) (l m : List Line) (b : State) (line : Line) → GoesOn a l b (line ∷ m) → AddsLine line.text b.conf c.conf → c.count ≡ b.count → GoesOn a l c m
adds a c l m b line on (inl blank) same = record {
  count = same ∙ on.count;
  on = λ files behind. on.on files behind ∙ rw (blank.0, blank.1, same) refl;
}
adds a c l m b line on (inr adding) same = record {
  count = same ∙ on.count;
  on = λ files behind. on.on files behind ∙ rw (adding.1, adding.2, same) refl;
}

-- a line that includes a file
pub includes : (a b : State) (l m : List Line) (line : Line) (path : List ℕ) → GoesOn a l b (line ∷ m) → meaning_of line.text ≡ Ok (Includes path) → GoesTo a l b line path m
includes a b l m line path on is = record {
  count = on.count;
  on = λ files behind. on.on files behind ∙ rw is refl;
}

-- a line that is faulty
pub fails_at : (a b : State) (l m : List Line) (line : Line) (cause : ConfKind) → GoesOn a l b (line ∷ m) → IsKindOf (meaning_of line.text) cause →
    FailsIn a l (record { file = line.file; line = line.number; kind = cause })
fails_at a b l m line Keyword on is = λ files behind. on.on files behind ∙ rw is refl
fails_at a b l m line Fields on is = λ files behind. on.on files behind ∙ rw is refl
fails_at a b l m line Feed on is = λ files behind. on.on files behind ∙ rw is refl
fails_at a b l m line Pattern on is = λ files behind. on.on files behind ∙ rw is refl
fails_at a b l m line Depth on is = is
fails_at a b l m line Store on is = is
fails_at a b l m line Long on is = is
fails_at a b l m line OutOfMemory on is = tt

-- a cause, by an end that follows from another
pub cause_by : (E F : End → Type 0) → ((end : End) → E end → F end) → (cause : ConfKind) (fault : ConfFault) (old new : StoreRecord) → HasCause E cause fault old new → HasCause F cause fault old new
cause_by E F follows Keyword fault old new is = (follows _ is.0, is.1)
cause_by E F follows Fields fault old new is = (follows _ is.0, is.1)
cause_by E F follows Feed fault old new is = (follows _ is.0, is.1)
cause_by E F follows Pattern fault old new is = (follows _ is.0, is.1)
cause_by E F follows Depth fault old new is = (follows _ is.0, is.1)
cause_by E F follows Store fault old new is = record { line = is.line; path = is.path; wanted = follows _ is.wanted; place = is.place; answered = is.answered }
cause_by E F follows Long fault old new is = record { line = is.line; path = is.path; wanted = follows _ is.wanted; place = is.place; answered = is.answered }
cause_by E F follows OutOfMemory fault old new is = is

module _ (store : StoreRecord) where
  pub passes_nothing : (a : State) (l : List Line) → Passes store a l a l
  passes_nothing a l = record { came = []; told = All-nil (IsIn store); on = λ later behind. refl }

  pub then_passes : (a b c : State) (l m k : List Line) → Passes store a l b m → Passes store b m c k → Passes store a l c k
  then_passes a b c l m k p q = record {
    came = p.came ++ q.came;
    told = All-append (IsIn store) p.came q.came p.told q.told;
    on = λ later behind. rw (append_assoc p.came q.came later) (p.on (q.came ++ later) behind ∙ q.on later behind);
  }

  pub then_ends : (a b : State) (l m : List Line) (end : End) → Passes store a l b m → EndsIn store b m end → EndsIn store a l end
  then_ends a b l m end p e = record {
    came = p.came ++ e.came;
    told = All-append (IsIn store) p.came e.came p.told e.told;
    ends = λ behind. p.on e.came behind ∙ e.ends behind;
  }

  -- the same with more lines behind
  beside : (a b : State) (l k : List Line) → Passes store a l b [] → Passes store a (l ++ k) b k
  beside a b l k p = record {
    came = p.came;
    told = p.told;
    on = λ later behind. rw (append_assoc l k behind) (p.on later (k ++ behind));
  }

  ends_beside : (a : State) (l k : List Line) (end : End) → EndsIn store a l end → EndsIn store a (l ++ k) end
  ends_beside a l k end e = record {
    came = e.came;
    told = e.told;
    ends = λ behind. rw (append_assoc l k behind) (e.ends (k ++ behind));
  }

  pub goes_on : (a b : State) (l m : List Line) → GoesOn a l b m → Passes store a l b m
  goes_on a b l m on = record { came = []; told = All-nil (IsIn store); on = λ later behind. on.on later behind }

  at_line : (a : State) (l : List Line) (fault : ConfFault) → ((files : List File) (behind : List Line) → reads_on files a (l ++ behind) ≡ Faulty fault) → EndsIn store a l (Faulty fault)
  at_line a l fault h = record { came = []; told = All-nil (IsIn store); ends = λ behind. h [] behind }

  fails_by : (a : State) (l : List Line) (fault : ConfFault) (cause : ConfKind) →
      OnLineFault cause ((files : List File) (behind : List Line) → reads_on files a (l ++ behind) ≡ Faulty fault) → HasCause (EndsIn store a l) cause fault store store
  fails_by a l fault Keyword h = (at_line a l fault h, refl)
  fails_by a l fault Fields h = (at_line a l fault h, refl)
  fails_by a l fault Feed h = (at_line a l fault h, refl)
  fails_by a l fault Pattern h = (at_line a l fault h, refl)
  fails_by a l fault Depth h = absurd h
  fails_by a l fault Store h = absurd h
  fails_by a l fault Long h = absurd h
  fails_by a l fault OutOfMemory h = refl

  -- where a line is the first faulty one
  pub fails : (a : State) (l : List Line) (fault : ConfFault) → FailsIn a l fault → HasCause (EndsIn store a l) fault.kind fault store store
  fails a l fault h = fails_by a l fault fault.kind h

  module _ (a b : State) (l m : List Line) (line : Line) (path : List ℕ) (to : GoesTo a l b line path m) where
    -- the file that a line includes has not come
    pub wants : (end : End) → wanting b.count line path ≡ end → EndsIn store a l end
    wants end is = record { came = []; told = All-nil (IsIn store); ends = λ behind. to.on [] behind ∙ is }

    module _ (bytes : List ℕ) (may : may_include b.count line ≡ true) (is_in : IsIn store (record { path = path; bytes = bytes })) where
      abbrev inner : List Line
      inner = lines_in b.count (line.depth + 1) bytes

      abbrev one_more : State
      one_more = record { count = b.count + 1; conf = b.conf }

      -- its lines stand in place of the line
      include_passes : Passes store a l one_more (inner ++ m)
      include_passes = record {
        came = record { path = path; bytes = bytes } ∷ [];
        told = All-cons (IsIn store) (record { path = path; bytes = bytes }) [] is_in (All-nil (IsIn store));
        on = λ later behind.
            to.on (record { path = path; bytes = bytes } ∷ later) behind
            ∙ rw (may, (bytes_eq-Decides path path).1 refl, append_assoc inner m behind) refl;
      }

      file_ends : (end : End) → EndsIn store one_more inner end → EndsIn store a l end
      file_ends end e = then_ends a one_more l (inner ++ m) end include_passes (ends_beside one_more inner m end e)

      module _ (now : StoreRecord) (inside : List Line) (same : now ≡ store) (is : inside ≡ inner) where
        -- and are read
        pub file_passes : (c : State) → Passes now one_more inside c [] → Passes store a l c m
        file_passes c p =
            let inside_p : Passes store one_more inner c [] = rw (same, is) at p in
            then_passes a one_more c l (inner ++ m) m include_passes (beside one_more c inner m inside_p)

        -- or one of them is faulty
        pub file_fails : (cause : ConfKind) (fault : ConfFault) (new : StoreRecord) → HasCause (EndsIn now one_more inside) cause fault now new → HasCause (EndsIn store a l) cause fault store new
        file_fails cause fault new h =
            let inside_h : HasCause (EndsIn store one_more inner) cause fault store new = rw (same, is) at h in
            cause_by (EndsIn store one_more inner) (EndsIn store a l) file_ends cause fault store new inside_h

  -- a fault behind what was read
  pub later_fails : (a b : State) (l m : List Line) (cause : ConfKind) (fault : ConfFault) (new : StoreRecord) → Passes store a l b m →
      HasCause (EndsIn store b m) cause fault store new → HasCause (EndsIn store a l) cause fault store new
  later_fails a b l m cause fault new p h = cause_by (EndsIn store b m) (EndsIn store a l) (λ end e. then_ends a b l m end p e) cause fault store new h

  -- a fault at the first faulty line
  pub line_fails : (a b : State) (l m : List Line) (fault : ConfFault) (now : StoreRecord) → now ≡ store → Passes store a l b m → FailsIn b m fault →
      HasCause (EndsIn store a l) fault.kind fault store now
  line_fails a b l m fault now same p h = rw same (later_fails a b l m fault.kind fault store p (fails b m fault h))

  -- a fault of a file that a line includes
  pub want_fails : (a b c : State) (l m k : List Line) (line : Line) (path : List ℕ) (fault : ConfFault) (now new : StoreRecord) → now ≡ store → Passes store a l b m →
      GoesTo b m c line path k → HasCause (λ end. wanting c.count line path ≡ end) fault.kind fault now new → HasCause (EndsIn store a l) fault.kind fault store new
  want_fails a b c l m k line path fault now new same p to h =
      let here : HasCause (λ end. wanting c.count line path ≡ end) fault.kind fault store new = rw same at h in
      later_fails a b l m fault.kind fault new p
      (cause_by (λ end. wanting c.count line path ≡ end) (EndsIn store b m) (wants b c m k line path to) fault.kind fault store new here)

  abbrev start : State
  start = record { count = 1; conf = no_conf }

  -- a text whose lines are all read
  pub all_read : (text : List ℕ) (a b : State) (l : List Line) → a ≡ start → l ≡ lines_in 0 0 text → Passes store a l b [] → ReadsTo store text (Read b.conf)
  unfolding reading
  all_read text a b l is lines p = record {
    came = p.came;
    told = p.told;
    ends = rw (is, lines, append-nil (lines_in 0 0 text), append-nil p.came) at (p.on [] []);
  }

  ends_there : (text : List ℕ) (a : State) (l : List Line) (end : End) → a ≡ start → l ≡ lines_in 0 0 text → EndsIn store a l end → ReadsTo store text end
  unfolding reading
  ends_there text a l end is lines e = record {
    came = e.came;
    told = e.told;
    ends = rw (is, lines, append-nil (lines_in 0 0 text)) at (e.ends []);
  }

  -- or one is faulty
  pub text_fails : (text : List ℕ) (a : State) (l : List Line) (fault : ConfFault) (new : StoreRecord) → a ≡ start → l ≡ lines_in 0 0 text →
      HasCause (EndsIn store a l) fault.kind fault store new → HasCause (ReadsTo store text) fault.kind fault store new
  text_fails text a l fault new is lines h =
      cause_by (EndsIn store a l) (ReadsTo store text) (λ end e. ends_there text a l end is lines e) fault.kind fault store new h
