-- Turns, one after another.
use Rattle.std.proofs.Common.{◌≡◌, ℕ, List, [], ◌∷◌, ◌++◌, refl, sym, ◌∙◌, ap, subst}
use Rattle.std.specs.Prelude.{IfSome, None, Option, Some, Ok, Err}
use mathlib.Core.List.{IsPrefix}
use Rattle.std.specs.List.{flat_map}
use Rattle.std.proofs.lemmas.List.{append-nil, append_assoc}
use Rattle.std.proofs.lemmas.List.Concat.{flat_map-append}
use Rattle.ldm_disk.specs.Told.{IsConsistent}
use Rattle.ldm_model.specs.declared.event.Entry.{Entry}
use Rattle.ldm_outside.specs.declared.gate.Go.{Go}
use Rattle.ldm_outside.specs.declared.gate.Go.TheVariants as go
use Rattle.ldm_outside.specs.Gate.{Idles}
use Rattle.ldm_outside.specs.Io.{SinkRecord}
use Rattle.ldm_session.specs.Exchange.{IdledAll}
use Rattle.ldm_session.proofs.CallerLemmas.{IdledAll-one, IdledAll-then}
use Rattle.ldm_recorder.specs.declared.end.RecordEnd.{RecordEnd}
use Rattle.ldm_recorder.specs.declared.end.RecordEnd.TheVariants as end
use Rattle.ldm_recorder.specs.Turns.{AreNumbered, AreTold, CaughtUp, Given, IsTold, Lost, Saved, Turn, Who, turn_work, work_of, work_then}
use Rattle.ldm_shared.specs.Passes.{IsSamePass, PassView}
use Rattle.ldm_shared.specs.declared.reader.Reader as reading
use Rattle.ldm_recorder.specs.declared.line.Line.{Line}
use Rattle.ldm_recorder.specs.declared.recorder.Recorder.{Recorder}
use Rattle.ldm_recorder.specs.Taking.{IsSameRecorder}
use Rattle.ldm_recorder.specs.Recording.{Does, IsAtEnd, Sight, Stops, TurnsBy, who_of}
use Rattle.ldm_recorder.specs.Course.{BreaksOffThen, Gated, IfStopped, RecordsBy, SavesLate, StopsWell, asks}
use Rattle.ldm_recorder.specs.Failing.{TellsFault}
use Rattle.ldm_recorder.proofs.Working.{IsSameWork, does_none, does_same, does_then}
use Rattle.ldm_recorder.proofs.Knowing.{lasts_later}
use Rattle.ldm_recorder.proofs.Telling.{work_events}

pub numbered-append : (base : ℕ) (first more : List Turn) → AreNumbered base first → AreNumbered base more → AreNumbered base (first ++ more)
numbered-append base [] more one two = two
numbered-append base (turn ∷ first) more one two = (one.0, numbered-append base first more one.1 two)

pub told-append : (seen : List Entry) (who : Who) (first more : List Turn) → AreTold seen who first → AreTold seen who more → AreTold seen who (first ++ more)
told-append seen who [] more one two = two
told-append seen who (turn ∷ first) more one two = (one.0, told-append seen who first more one.1 two)

-- what was told stays told
one_told_later : (seen later : List Entry) (who : Who) (turn : Turn) → IsPrefix seen later → IsTold seen who turn → IsTold later who turn
one_told_later seen later who (CaughtUp at (Some lasts)) begins told = lasts_later who.base at seen later who.lines lasts begins told
one_told_later seen later who (CaughtUp at None) begins told = tt
one_told_later seen later who (Lost count first last) begins told = tt
one_told_later seen later who (Given n product) begins told = tt
one_told_later seen later who Saved begins told = tt

pub told_later : (seen later : List Entry) (who : Who) (turns : List Turn) → IsPrefix seen later → AreTold seen who turns → AreTold later who turns
told_later seen later who [] begins told = tt
told_later seen later who (turn ∷ turns) begins told = (one_told_later seen later who turn begins told.0, told_later seen later who turns begins told.1)

entries-append : (who : Who) (first more : List Turn) → (work_of who first).entries ++ (work_of who more).entries ≡ (work_of who (first ++ more)).entries
entries-append who [] more = refl
entries-append who (turn ∷ first) more =
    append_assoc (turn_work who turn).entries (work_of who first).entries (work_of who more).entries
    ∙ ap (λ (l : List Entry). (turn_work who turn).entries ++ l) (entries-append who first more)

pub lines-append : (who : Who) (first more : List Turn) → (work_of who first).lines ++ (work_of who more).lines ≡ (work_of who (first ++ more)).lines
lines-append who [] more = refl
lines-append who (turn ∷ first) more =
    append_assoc (turn_work who turn).lines (work_of who first).lines (work_of who more).lines
    ∙ ap (λ (l : List ℕ). (turn_work who turn).lines ++ l) (lines-append who first more)

both_works : (who : Who) (first more : List Turn) → IsSameWork (work_then (work_of who first) (work_of who more)) (work_of who (first ++ more))
both_works who first more = record {
  entries = entries-append who first more;
  events = λ start. sym (work_events who first more start);
  lines = lines-append who first more;
}

pub turns_then : (who : Who) (first more : List Turn) (a b c : Sight) → Does who first a b → Does who more b c → Does who (first ++ more) a c
turns_then who first more a b c one two = record {
  numbered = numbered-append who.base first more one.numbered two.numbered;
  told = told-append c.pass.seen who first more (told_later b.pass.seen c.pass.seen who first two.all.calls.adds.begins one.told) two.told;
  all = does_same (work_then (work_of who first) (work_of who more)) (work_of who (first ++ more)) a c (both_works who first more) (does_then (work_of who first) (work_of who more) a b c one.all two.all);
}

pub no_turns : (who : Who) (now : Sight) → IfSome now.disk.file IsConsistent → Does who [] now now
no_turns who now consistent = record { numbered = tt; told = tt; all = does_none now consistent }

-- so far some turns are whole, and the gate was asked behind those where nothing was left
pub record CoursesOn (who : Who) (old new : Gated) : Type 0 where
  pub turns : List Turn
  pub does : Does who turns old.sight new.sight
  pub idled : IdledAll (flat_map asks turns) old.gate new.gate

pub course_begins : (who : Who) (now : Gated) → IfSome now.sight.disk.file IsConsistent → CoursesOn who now now
course_begins who now consistent = record { turns = []; does = no_turns who now.sight consistent; idled = refl }

-- turns at which the gate is not asked
pub course_quiet : (who : Who) (a b : Gated) (c : Sight) (more : List Turn) → flat_map asks more ≡ [] → CoursesOn who a b → Does who more b.sight c
    → CoursesOn who a (record { sight = c; gate = b.gate })
course_quiet who a b c more quiet so_far does = record {
  turns = so_far.turns ++ more;
  does = turns_then who so_far.turns more a.sight b.sight c so_far.does does;
  idled =
      subst (λ (gos : List Go). IdledAll gos a.gate b.gate)
      (sym (append-nil (flat_map asks so_far.turns)) ∙ ap (λ (gos : List Go). flat_map asks so_far.turns ++ gos) (sym quiet)
      ∙ sym (flat_map-append asks so_far.turns more)) so_far.idled;
}

-- nothing was left, and the gate said to go on
pub course_on : (who : Who) (a b c : Gated) (at : ℕ) (lasts : Option (List ℕ)) → CoursesOn who a b → Does who (CaughtUp at lasts ∷ []) b.sight c.sight → Idles go.On b.gate c.gate → CoursesOn who a c
course_on who a b c at lasts so_far does idles = record {
  turns = so_far.turns ++ CaughtUp at lasts ∷ [];
  does = turns_then who so_far.turns (CaughtUp at lasts ∷ []) a.sight b.sight c.sight so_far.does does;
  idled =
      subst (λ (gos : List Go). IdledAll gos a.gate c.gate) (sym (flat_map-append asks so_far.turns (CaughtUp at lasts ∷ [])))
      (IdledAll-then (flat_map asks so_far.turns) (go.On ∷ []) a.gate b.gate c.gate so_far.idled (IdledAll-one go.On b.gate c.gate idles));
}

-- it said to stop
pub course_stops : (who : Who) (a b c : Gated) (at : ℕ) (lasts : Option (List ℕ)) → CoursesOn who a b → Does who (CaughtUp at lasts ∷ []) b.sight c.sight → Idles go.Stop b.gate c.gate → StopsWell at who a c
course_stops who a b c at lasts so_far does idles = record {
  earlier = so_far.turns;
  lasts = lasts;
  does = turns_then who so_far.turns (CaughtUp at lasts ∷ []) a.sight b.sight c.sight so_far.does does;
  idled = IdledAll-then (flat_map asks so_far.turns) (go.Stop ∷ []) a.gate b.gate c.gate so_far.idled (IdledAll-one go.Stop b.gate c.gate idles);
}

-- a turn broke off, and the log was told where the journal failed
abbrev pub told_behind : Sight → SinkRecord → Gated → Gated
told_behind c log b = record { sight = record c { log = log }; gate = b.gate }

breaks_then : (why : RecordEnd) (who : Who) (a b : Gated) (c : Sight) (log : SinkRecord) → CoursesOn who a b → Stops why who b.sight c → TellsFault why c.log log
    → BreaksOffThen why who a (told_behind c log b)
breaks_then why who a b c log so_far stops told =
    record { whole = so_far.turns; mid = b.sight; does = so_far.does; log = c.log; stops = stops; told = told; idled = so_far.idled }

pub course_breaks : (why : RecordEnd) (who : Who) (a b : Gated) (c : Sight) (log : SinkRecord) → CoursesOn who a b → Stops why who b.sight c → TellsFault why c.log log
    → RecordsBy why who a (told_behind c log b)
course_breaks (end.Stopped n) who a b c log so_far stops told = absurd stops.cause
course_breaks end.DiskFault who a b c log so_far stops told = breaks_then end.DiskFault who a b c log so_far stops told
course_breaks end.NotAJournal who a b c log so_far stops told = breaks_then end.NotAJournal who a b c log so_far stops told
course_breaks end.LogFault who a b c log so_far stops told = breaks_then end.LogFault who a b c log so_far stops told
course_breaks end.Worn who a b c log so_far stops told = breaks_then end.Worn who a b c log so_far stops told
course_breaks end.NoNumbers who a b c log so_far stops told = breaks_then end.NoNumbers who a b c log so_far stops told
course_breaks end.OutOfMemory who a b c log so_far stops told = breaks_then end.OutOfMemory who a b c log so_far stops told

-- where work broke off the gate had not stopped it
pub not_stopped : (why : RecordEnd) (who : Who) (a b : Sight) (P : ℕ → Type 0) → Stops why who a b → IfStopped why P
not_stopped (end.Stopped n) who a b P stops = absurd stops.cause
not_stopped end.DiskFault who a b P stops = tt
not_stopped end.NotAJournal who a b P stops = tt
not_stopped end.LogFault who a b P stops = tt
not_stopped end.Worn who a b P stops = tt
not_stopped end.NoNumbers who a b P stops = tt
not_stopped end.OutOfMemory who a b P stops = tt

-- ---- what a turn came to

pub caught_of : (who : Who) (at : ℕ) (turn : Turn) (b c : Sight) → IsAtEnd (Some at) turn → Does who (turn ∷ []) b c
    → (lasts : Option (List ℕ)) × Does who (CaughtUp at lasts ∷ []) b c
caught_of who at (CaughtUp there lasts) b c is does =
    (let same : at ≡ there = cc is in (lasts, subst (λ (n : ℕ). Does who (CaughtUp n lasts ∷ []) b c) (sym same) does))
caught_of who at (Lost count first last) b c is does = absurd (cc is)
caught_of who at (Given n product) b c is does = absurd (cc is)
caught_of who at Saved b c is does = absurd (cc is)

pub quiet_of : (turn : Turn) → IsAtEnd None turn → flat_map asks (turn ∷ []) ≡ []
quiet_of (CaughtUp at lasts) is = absurd (cc is)
quiet_of (Lost count first last) is = refl
quiet_of (Given n product) is = refl
quiet_of Saved is = refl

-- ---- who

abbrev pub whose : ℕ → ℕ → ℕ → ℕ → List Line → Who
whose actor k base ring lines = record { actor = actor; k = k; base = base; ring = ring; lines = lines }

pub who_same : (p q : PassView) (r s : Recorder) → IsSamePass p q → IsSameRecorder r s → who_of q s ≡ who_of p r
who_same p q r s pass same =
    ap (λ (x : ℕ). whose x s.reader.k s.base s.journal.marks.ring s.lines.items) (ap (λ (v : PassView). v.actor) pass)
    ∙ ap (λ (x : reading.Reader). whose p.actor x.k s.base s.journal.marks.ring s.lines.items) same.reader
    ∙ ap (λ (x : ℕ). whose p.actor r.reader.k x s.journal.marks.ring s.lines.items) same.base
    ∙ ap (λ (x : ℕ). whose p.actor r.reader.k r.base x s.lines.items) same.ring
    ∙ ap (λ (x : List Line). whose p.actor r.reader.k r.base r.journal.marks.ring x) same.lines

pub recorder_then : (a b c : Recorder) → IsSameRecorder a b → IsSameRecorder b c → IsSameRecorder a c
recorder_then a b c one two =
    record { reader = two.reader ∙ one.reader; base = two.base ∙ one.base; lines = two.lines ∙ one.lines; ring = two.ring ∙ one.ring }

pub recorder_none : (a : Recorder) → IsSameRecorder a a
recorder_none a = record { reader = refl; base = refl; lines = refl; ring = refl }

-- ---- what the turns of a recorder come to, whose pass and whose self changed meanwhile

module _ (p q : PassView) (r s : Recorder) (of : IsSamePass p q) (same : IsSameRecorder r s) (a b : Gated) (so_far : CoursesOn (who_of p r) a b) where
  who_is : who_of q s ≡ who_of p r
  who_is = who_same p q r s of same

  caught_here : (at : ℕ) (c : Sight) → TurnsBy (Ok (Some at)) (who_of q s) b.sight c → (lasts : Option (List ℕ)) × Does (who_of p r) (CaughtUp at lasts ∷ []) b.sight c
  caught_here at c turned =
      let caught = caught_of (who_of q s) at turned.0 b.sight c turned.1 turned.3 in
      (caught.0, subst (λ (w : Who). Does w (CaughtUp at caught.0 ∷ []) b.sight c) who_is caught.1)

  pub course_caught : (at : ℕ) (c : Gated) → TurnsBy (Ok (Some at)) (who_of q s) b.sight c.sight → Idles go.On b.gate c.gate → CoursesOn (who_of p r) a c
  course_caught at c turned idles =
      let caught = caught_here at c.sight turned in course_on (who_of p r) a b c at caught.0 so_far caught.1 idles

  pub course_stopped : (at : ℕ) (c : Gated) → TurnsBy (Ok (Some at)) (who_of q s) b.sight c.sight → Idles go.Stop b.gate c.gate → StopsWell at (who_of p r) a c
  course_stopped at c turned idles =
      let caught = caught_here at c.sight turned in course_stops (who_of p r) a b c at caught.0 so_far caught.1 idles

  pub course_broken : (why : RecordEnd) (c : Sight) (log : SinkRecord) → Stops why (who_of q s) b.sight c → TellsFault why c.log log
      → RecordsBy why (who_of p r) a (told_behind c log b)
  course_broken why c log stops told =
      course_breaks why (who_of p r) a b c log so_far (subst (λ (w : Who). Stops why w b.sight c) who_is stops) told

  -- something was given, and then perhaps committed
  module _ (c : Sight) (turned : TurnsBy (Ok None) (who_of q s) b.sight c) (u : PassView) (t : Recorder) (of' : IsSamePass p u) (same' : IsSameRecorder r t) where
    given : CoursesOn (who_of p r) a (record { sight = c; gate = b.gate })
    given =
        course_quiet (who_of p r) a b c (turned.0 ∷ []) (quiet_of turned.0 turned.1) so_far
        (subst (λ (w : Who). Does w (turned.0 ∷ []) b.sight c) who_is turned.3)

    who_still : who_of u t ≡ who_of p r
    who_still = who_same p u r t of' same'

    pub course_given : (d : Sight) → SavesLate (Ok tt) (who_of u t) c d → CoursesOn (who_of p r) a (record { sight = d; gate = b.gate })
    course_given d saved =
        course_quiet (who_of p r) a (record { sight = c; gate = b.gate }) d saved.0 saved.1 given (subst (λ (w : Who). Does w saved.0 c d) who_still saved.2)

    pub course_unsaved : (why : RecordEnd) (d : Sight) (log : SinkRecord) → SavesLate (Err why) (who_of u t) c d → TellsFault why d.log log
        → RecordsBy why (who_of p r) a (told_behind d log b)
    course_unsaved why d log stops told =
        course_breaks why (who_of p r) a (record { sight = c; gate = b.gate }) d log given (subst (λ (w : Who). Stops why w c d) who_still stops) told
