-- A step of the cursor, and what follows it.
use Rattle.std.proofs.Common.{◌≡◌, ℕ, ◌+◌, ◌-◌, ◌≤◌, List, [], ◌∷◌, refl, sym, subst, arith}
use Rattle.std.specs.Prelude.{IfSome, None, Some, Result, Ok, Err, codes}
use Rattle.ldm_disk.specs.Told.{DiskRecord, IsConsistent}
use Rattle.ldm_outside.specs.Count.{Rose}
use Rattle.ldm_outside.specs.Io.{SinkRecord, Takes, WritesFront}
use Rattle.ldm_session.specs.Gaps.{gap_line}
use Rattle.ldm_types.specs.Info.{Metadata}
use Rattle.ldm_model.specs.declared.event.Event.TheVariants as event
use Rattle.ldm_model.specs.declared.event.Reply.{Reply}
use Rattle.ldm_model.specs.declared.event.Reply.TheVariants as reply
use Rattle.ldm_model.specs.Law.{with_given}
use Rattle.ldm_shared.specs.Passes.{PassView, Calls, FindsWorn, Grows, IsSamePass}
use Rattle.ldm_shared.proofs.Made.{calls_none}
use Rattle.ldm_shared.specs.declared.reader.Reader as reading
use Rattle.ldm_shared.specs.declared.reader.Held.{Held}
use Rattle.ldm_shared.specs.Reader.{HasCursor}
use Rattle.ldm_journal.specs.Runs.{Commit}
use Rattle.ldm_recorder.specs.declared.end.RecordEnd.{RecordEnd}
use Rattle.ldm_recorder.specs.declared.end.RecordEnd.TheVariants as end
use Rattle.ldm_recorder.specs.declared.recorder.Recorder.{Recorder}
use Rattle.ldm_recorder.specs.Catching.{CommitsAt}
use Rattle.ldm_recorder.specs.Numbers.{IsAhead, IsReady, KnowsLasts}
use Rattle.ldm_recorder.specs.Turns.{CaughtUp, Given, Lost, Saved, Turn, Who}
use Rattle.ldm_recorder.specs.Recording.{CauseOf, DoesAll, DoesPart, Sight, TurnsBy, sight_of, who_of}
use Rattle.ldm_recorder.specs.Saving.{SavesBy, kit_of}
use Rattle.ldm_recorder.specs.Taking.{IsSameRecorder, Numbers, WorksBy, kept_as, taking}
use Rattle.ldm_recorder.specs.Course.{SavesLate}
use Rattle.ldm_recorder.proofs.Coursing.{no_turns, recorder_none, who_same}
use Rattle.ldm_recorder.proofs.Knowing.{knows_later, knows_same}
use Rattle.ldm_recorder.proofs.Numbering.{NumbersRise, ahead_given, ahead_kept, ahead_over, ahead_still, cursor_kept}
use Rattle.ldm_recorder.proofs.Turning.{calling, does_call, part_none, stop_caught, stop_given, stop_lost, stop_saved, stop_worn, turn_caught, turn_given, turn_lost, turn_saved}

module _ (r : Recorder) (p q : PassView) (disk : DiskRecord) (log : SinkRecord) (consistent : IfSome disk.file IsConsistent) (of : IsSamePass p q) where
  abbrev who : Who
  who = who_of p r

  abbrev before : Sight
  before = sight_of p r disk log

  abbrev behind : Sight
  behind = sight_of q r disk log

  stepped : (answer : Reply) → Grows p q (event.Step r.reader.k) answer → DoesAll (calling who (event.Step r.reader.k) answer) before behind
  stepped answer grows = does_call who (event.Step r.reader.k) answer p q r.journal.marks disk log refl consistent grows

  who_is : who_of q r ≡ who
  who_is = who_same p q r r of (recorder_none r)

  -- losses were told
  pub lost : (count first last : ℕ) (log' : SinkRecord) → Grows p q (event.Step r.reader.k) (reply.Gap count first last)
      → Takes log (gap_line (codes "journal") count first last) log' → log.faults ≤ log'.faults → TurnsBy (Ok None) who before (sight_of q r disk log')
  lost count first last log' grows takes faults =
      (Lost count first last, refl, tt, turn_lost who count first last p q r.journal.marks disk log log' (stepped (reply.Gap count first last) grows) takes faults)

  pub lost_unsaid : (count first last : ℕ) (log' : SinkRecord) → Grows p q (event.Step r.reader.k) (reply.Gap count first last)
      → WritesFront log (gap_line (codes "journal") count first last) log' → log.faults ≤ log'.faults → Rose log.faults log'.faults
      → TurnsBy (Err end.LogFault) who before (sight_of q r disk log')
  lost_unsaid count first last log' grows front faults rose =
      stop_lost who count first last p q r.journal.marks disk log log' (stepped (reply.Gap count first last) grows) front faults rose

  -- a product was given
  module _ (held : Held) (body : List ℕ) (grows : Grows p q (event.Step r.reader.k) (reply.Product held.n held.time held.info)) where
    pub gave : (number : ℕ) → Numbers (Some number) r.base held.n → (c : Sight) → DoesAll (taking (who_of q r) held.n (kept_as number held body)) behind c
        → TurnsBy (Ok None) who before c
    gave number numbers c does = (
      Given held.n (kept_as number held body),
      refl,
      tt,
      turn_given who held.n (kept_as number held body) before behind c (stepped (reply.Product held.n held.time held.info) grows)
          (subst (λ (w : Who). DoesAll (taking w held.n (kept_as number held body)) behind c) who_is does) numbers.0,
    )

    cause_since : (why : RecordEnd) (turns : List Turn) (c : Sight) → CauseOf why turns behind c → CauseOf why turns before c
    cause_since (end.Stopped n) turns c cause = cause
    cause_since end.DiskFault turns c cause = cause
    cause_since end.NotAJournal turns c cause = cause
    cause_since end.LogFault turns c cause = cause
    cause_since end.Worn turns c cause = cause
    cause_since end.NoNumbers turns c cause = cause
    cause_since end.OutOfMemory turns c cause = cause

    pub gave_up : (why : RecordEnd) (number : ℕ) → Numbers (Some number) r.base held.n → (c : Sight)
        → WorksBy (Err why) (taking (who_of q r) held.n (kept_as number held body)) (Given held.n (kept_as number held body) ∷ []) behind c
        → TurnsBy (Err why) who before c
    gave_up why number numbers c works =
        stop_given why who held.n (kept_as number held body) before behind c (stepped (reply.Product held.n held.time held.info) grows)
        (subst (λ (w : Who). DoesPart (taking w held.n (kept_as number held body)) behind c) who_is works.0) numbers.0
        (cause_since why (Given held.n (kept_as number held body) ∷ []) c works.1)

    -- the journal has no such number
    pub past_numbers : Numbers None r.base held.n → TurnsBy (Err end.NoNumbers) who before behind
    past_numbers past =
        stop_given end.NoNumbers who held.n (kept_as (r.base + held.n) held body) before behind behind (stepped (reply.Product held.n held.time held.info) grows)
        (part_none (taking who held.n (kept_as (r.base + held.n) held body)) q q r.journal.marks disk log consistent (calls_none q)) refl past

  -- nothing was left
  module _ (count : ℕ) (grows : Grows p q (event.Step r.reader.k) (reply.End count)) (u : PassView) (looked : Calls q u []) (t : Recorder) (disk' : DiskRecord) where
    pub caught : CommitsAt (Ok tt) (who_of q r) count behind (sight_of u t disk' log) → TurnsBy (Ok (Some count)) who before (sight_of u t disk' log)
    caught there =
        let commits = subst (λ (w : Who). CommitsAt (Ok tt) w count behind (sight_of u t disk' log)) who_is there in (
          CaughtUp count commits.lasts,
          refl,
          commits.due,
          turn_caught who (kit_of r.journal.marks disk) (kit_of t.journal.marks disk') refl count commits.lasts p q u log (stepped (reply.End count) grows) looked commits.told
              commits.saves.0,
        )

    pub not_caught : (why : RecordEnd) → CommitsAt (Err why) (who_of q r) count behind (sight_of u t disk' log) → disk.faults ≤ disk'.faults
        → TurnsBy (Err why) who before (sight_of u t disk' log)
    not_caught why there faults =
        let commits = subst (λ (w : Who). CommitsAt (Err why) w count behind (sight_of u t disk' log)) who_is there in
        stop_caught who (kit_of r.journal.marks disk) (kit_of t.journal.marks disk') refl count commits.lasts why p q u log (stepped (reply.End count) grows) looked commits.told
        commits.saves faults

  pub not_stepped : (turns : ℕ) → FindsWorn p q turns → TurnsBy (Err end.Worn) who before behind
  not_stepped turns worn = stop_worn who p q turns r.journal.marks disk log consistent worn

-- ---- it is ready again

same_cursor : (r t : Recorder) (q : PassView) → IsSameRecorder r t → HasCursor q r.reader.k None → HasCursor q t.reader.k None
same_cursor r t q same has = subst (λ (x : reading.Reader). HasCursor q x.k None) (sym same.reader) has

pub ready_still : (r t : Recorder) (p q : PassView) (answer : Reply) → IsReady p r → Grows p q (event.Step r.reader.k) answer → ((ns : List ℕ) → with_given ns answer ≡ ns)
    → HasCursor q r.reader.k None → IsSameRecorder r t → t.lasts ≡ r.lasts → t.journal.marks.next ≡ r.journal.marks.next → IsReady q t
ready_still r t p q answer ready grows gives has same lasts next = record {
  cursor = same_cursor r t q same has;
  least = ready.least;
  ahead =
      subst (λ (x : reading.Reader). IsAhead q x.k ready.least) (sym same.reader)
      (ahead_still p q r.reader.k ready.least (event.Step r.reader.k) answer ready.ahead grows refl gives);
  numbers = omega (arith, next, same.base, ready.numbers);
  knows = knows_same q.seen r t same.base same.lines lasts (knows_later p.seen q.seen r grows.makes.adds.begins ready.knows);
}

-- nothing was left, and the lines were asked
pub ready_asked : (r t : Recorder) (p q u : PassView) (count : ℕ) → IsReady p r → Grows p q (event.Step r.reader.k) (reply.End count) → HasCursor q r.reader.k None
    → Calls q u [] → IsSameRecorder r t → (KnowsLasts q.seen r → KnowsLasts u.seen t) → t.journal.marks.next ≡ r.journal.marks.next → IsReady u t
ready_asked r t p q u count ready grows has looked same knows next = record {
  cursor = same_cursor r t u same (cursor_kept q u r.reader.k has looked);
  least = ready.least;
  ahead =
      subst (λ (x : reading.Reader). IsAhead u x.k ready.least) (sym same.reader)
      (ahead_kept q u r.reader.k ready.least looked (ahead_still p q r.reader.k ready.least (event.Step r.reader.k) (reply.End count) ready.ahead grows refl (λ ns. refl)));
  numbers = omega (arith, next, same.base, ready.numbers);
  knows = knows (knows_later p.seen q.seen r grows.makes.adds.begins ready.knows);
}

pub knows_stepped : (r : Recorder) (p q : PassView) (answer : Reply) → IsReady p r → Grows p q (event.Step r.reader.k) answer → KnowsLasts q.seen r
knows_stepped r p q answer ready grows = knows_later p.seen q.seen r grows.makes.adds.begins ready.knows

-- a product that was given may be recorded under its number
pub may_record : (law : NumbersRise) (r : Recorder) (p q : PassView) (n time : ℕ) (info : Metadata) (number : ℕ) → IsReady p r
    → Grows p q (event.Step r.reader.k) (reply.Product n time info) → Numbers (Some number) r.base n → r.journal.marks.next ≤ number
may_record law r p q n time info number ready grows numbers =
    let given = ahead_given p q r.reader.k ready.least (event.Step r.reader.k) (reply.Product n time info) ready.ahead grows law n time info refl refl in
    omega (arith, ready.numbers, numbers.0, given.0)

pub ready_behind : (law : NumbersRise) (r t : Recorder) (p q u : PassView) (held : Held) (body : List ℕ) (number : ℕ) (disk disk' : DiskRecord) (log log' : SinkRecord)
    → IsReady p r → Grows p q (event.Step r.reader.k) (reply.Product held.n held.time held.info) → Numbers (Some number) r.base held.n
    → DoesAll (taking (who_of q r) held.n (kept_as number held body)) (sight_of q r disk log) (sight_of u t disk' log')
    → HasCursor u r.reader.k None → IsSameRecorder r t → t.lasts ≡ r.lasts → t.journal.marks.next ≤ number + 1 → IsReady u t
ready_behind law r t p q u held body number disk disk' log log' ready grows numbers does has same lasts next =
    let given =
    ahead_given p q r.reader.k ready.least (event.Step r.reader.k) (reply.Product held.n held.time held.info) ready.ahead grows law held.n held.time held.info refl refl in
    record {
      cursor = same_cursor r t u same has;
      least = held.n + 1;
      ahead =
          subst (λ (x : reading.Reader). IsAhead u x.k (held.n + 1)) (sym same.reader)
          (ahead_over q u r.reader.k (held.n + 1) _ _ given.1 does.calls refl refl (λ ns. refl) (λ ns. refl));
      numbers = omega (arith, next, numbers.0, same.base);
      knows =
          knows_same u.seen r t same.base same.lines lasts
          (knows_later q.seen u.seen r does.calls.adds.begins (knows_later p.seen q.seen r grows.makes.adds.begins ready.knows));
    }

-- ---- a commit, long after the last one

module _ (r t : Recorder) (disk disk' : DiskRecord) (faults : disk.faults ≤ disk'.faults) (pass : PassView) (log : SinkRecord) where
  pub saved_late : (result : Result (Unit {0}) RecordEnd) → SavesBy result (λ start. Commit (r.journal.marks.ring - 0) start.note ∷ []) (kit_of r.journal.marks disk) (kit_of t.journal.marks disk')
      → SavesLate result (who_of pass r) (sight_of pass r disk log) (sight_of pass t disk' log)
  saved_late (Ok done) saves =
      (Saved ∷ [], refl, turn_saved (who_of pass r) (kit_of r.journal.marks disk) (kit_of t.journal.marks disk') refl pass log saves.0)
  saved_late (Err why) saves =
      stop_saved (who_of pass r) (kit_of r.journal.marks disk) (kit_of t.journal.marks disk') refl why pass log saves faults

pub saved_lately : (r : Recorder) (disk : DiskRecord) (pass : PassView) (log : SinkRecord) → IfSome disk.file IsConsistent
    → SavesLate (Ok tt) (who_of pass r) (sight_of pass r disk log) (sight_of pass r disk log)
saved_lately r disk pass log consistent = ([], refl, no_turns (who_of pass r) (sight_of pass r disk log) consistent)
