-- What is recorded of a queue that has ended.
use Rattle.std.proofs.Common.{◌≡◌, ℕ, ◌+◌, ◌-◌, ◌^◌, ◌<◌, ◌≤◌, Bool, true, false, cond, List, [], ◌∷◌, ◌++◌, length, refl, sym, ◌∙◌, ap, subst, arith}
use Rattle.std.specs.Prelude.{IfSome, Ok, Err, codes, nat_le}
use Rattle.std.proofs.lemmas.List.{append-nil, append_assoc}
use Rattle.std.proofs.lemmas.Bool.{le-leb}
use Rattle.ldm_disk.specs.Told.{DiskRecord, IsConsistent}
use Rattle.ldm_outside.specs.Io.{SinkRecord, Takes}
use Rattle.ldm_outside.proofs.CallerLemmas.{Takes-nothing}
use Rattle.ldm_session.specs.Gaps.{gap_line}
use Rattle.ldm_model.specs.declared.event.Entry.{Entry}
use Rattle.ldm_model.specs.State.{Queued}
use Rattle.ldm_shared.specs.Passes.{PassView}
use Rattle.ldm_shared.proofs.Made.{calls_none}
use Rattle.ldm_journal.specs.declared.marks.Marks.{Marks}
use Rattle.ldm_journal.specs.Records.{Kept}
use Rattle.ldm_journal.specs.Runs.{Content}
use Rattle.ldm_recorder.specs.declared.end.RecordEnd.{RecordEnd}
use Rattle.ldm_recorder.specs.declared.end.RecordEnd.TheVariants as end
use Rattle.ldm_recorder.specs.Turns.{AreNumbered, AreTold, CaughtUp, Given, Lost, Turn, Who, keep_events, large_line, note_then, work_of, work_then}
use Rattle.ldm_recorder.specs.Recording.{DoesAll, Sight}
use Rattle.ldm_recorder.specs.Catching.{CommitsAt}
use Rattle.ldm_recorder.specs.Saving.{Kit}
use Rattle.ldm_recorder.specs.Taking.{WorksBy, writing}
use Rattle.ldm_recorder.specs.Finishing.{BreaksOffIn, MakesUp, TellsLost, behind_one, kept_queued, lost_between, lost_lines, silent, turn_left}
use Rattle.ldm_recorder.proofs.Coursing.{lines-append, numbered-append, told-append, told_later}
use Rattle.ldm_recorder.proofs.Keeping.{too_long}
use Rattle.ldm_recorder.proofs.Telling.{work_events}
use Rattle.ldm_recorder.proofs.Turning.{at, cause_for, cause_here, commit_broken, commit_made, part_none}
use Rattle.ldm_recorder.proofs.Working.{IsSameWork, does_none, does_same, does_then, leaves_amid, made_same, none_made, part_same}

-- ---- turns, one after another

silent_turns : (who : Who) (first more : List Turn)
    → IsSameWork (work_then (silent (work_of who first)) (silent (work_of who more))) (silent (work_of who (first ++ more)))
silent_turns who first more = record {
  entries = refl;
  events = λ start. sym (work_events who first more start);
  lines = lines-append who first more;
}

pub up_none : (who : Who) (now : Sight) → IfSome now.disk.file IsConsistent → MakesUp who [] now now
up_none who now consistent = record { numbered = tt; told = tt; all = does_none now consistent }

pub up_then : (who : Who) (first more : List Turn) (a b c : Sight) → MakesUp who first a b → MakesUp who more b c → MakesUp who (first ++ more) a c
up_then who first more a b c one two = record {
  numbered = numbered-append who.base first more one.numbered two.numbered;
  told = told-append c.pass.seen who first more (told_later b.pass.seen c.pass.seen who first two.all.calls.adds.begins one.told) two.told;
  all =
      does_same (work_then (silent (work_of who first)) (silent (work_of who more))) (silent (work_of who (first ++ more))) a c (silent_turns who first more)
      (does_then (silent (work_of who first)) (silent (work_of who more)) a b c one.all two.all);
}

pub broken_then : (why : RecordEnd) (who : Who) (first more : List Turn) (a b c : Sight) → MakesUp who first a b → BreaksOffIn why who more b c
    → BreaksOffIn why who (first ++ more) a c
broken_then why who first more a b c one two = record {
  whole = first ++ two.whole;
  in_hand = two.in_hand;
  behind = two.behind;
  are = append_assoc first two.whole (two.in_hand ++ two.behind) ∙ ap (λ (l : List Turn). first ++ l) two.are;
  one = two.one;
  mid = two.mid;
  does = up_then who first two.whole a b two.mid one two.does;
  numbered = two.numbered;
  told = two.told;
  part = two.part;
  cause = two.cause;
}

pub broken_soon : (why : RecordEnd) (who : Who) (first more : List Turn) (a b : Sight) → BreaksOffIn why who first a b → BreaksOffIn why who (first ++ more) a b
broken_soon why who first more a b one = record {
  whole = one.whole;
  in_hand = one.in_hand;
  behind = one.behind ++ more;
  are =
      ap (λ (l : List Turn). one.whole ++ l) (sym (append_assoc one.in_hand one.behind more))
      ∙ sym (append_assoc one.whole (one.in_hand ++ one.behind) more) ∙ ap (λ (l : List Turn). l ++ more) one.are;
  one = one.one;
  mid = one.mid;
  does = one.does;
  numbered = one.numbered;
  told = one.told;
  part = one.part;
  cause = one.cause;
}

-- ---- losses

module _ (who : Who) (count first last : ℕ) where
  abbrev lost_if : Bool → List Turn
  lost_if none = cond none [] (Lost count first last ∷ [])

  lines_by : (none : Bool) → (work_of who (lost_if none)).lines ≡ cond none [] (gap_line (codes "journal") count first last)
  lines_by true = refl
  lines_by false = append-nil (gap_line (codes "journal") count first last)

  events_by : (none : Bool) (start : Content) → (work_of who (lost_if none)).events start ≡ []
  events_by true start = refl
  events_by false start = refl

  numbered_by : (none : Bool) → AreNumbered who.base (lost_if none)
  numbered_by true = tt
  numbered_by false = (tt, tt)

  told_by : (seen : List Entry) (none : Bool) → AreTold seen who (lost_if none)
  told_by seen true = tt
  told_by seen false = (tt, tt)

  one_by : (none : Bool) → length (lost_if none) ≤ 1
  one_by true = omega arith
  one_by false = omega arith

module _ (who : Who) (from to : ℕ) (pass : PassView) (marks : Marks) (disk : DiskRecord) (consistent : IfSome disk.file IsConsistent) (a b : SinkRecord) where
  abbrev none : Bool
  none = nat_le to from

  lines_are : (work_of who (lost_between from to)).lines ≡ lost_lines from to
  lines_are = lines_by who (to - from) from (to - 1) none

  numbered : AreNumbered who.base (lost_between from to)
  numbered = numbered_by who (to - from) from (to - 1) none

  told : AreTold pass.seen who (lost_between from to)
  told = told_by who (to - from) from (to - 1) pass.seen none

  pub lost_made : TellsLost (Ok tt) from to a b → MakesUp who (lost_between from to) (at pass marks disk a) (at pass marks disk b)
  lost_made tells = record {
    numbered = numbered;
    told = told;
    all = record {
      calls = calls_none pass;
      events =
          made_same (λ start. []) (work_of who (lost_between from to)).events marks marks disk.file disk.file
          (λ start. sym (events_by who (to - from) from (to - 1) none start)) (none_made marks disk.file consistent);
      lines = subst (λ (l : List ℕ). Takes a l b) (sym lines_are) tells.0;
      ring = refl;
      disk_faults = omega arith;
      log_faults = tells.1;
    };
  }

  pub lost_broken : (why : RecordEnd) → TellsLost (Err why) from to a b → BreaksOffIn why who (lost_between from to) (at pass marks disk a) (at pass marks disk b)
  lost_broken end.LogFault tells = record {
    whole = [];
    in_hand = lost_between from to;
    behind = [];
    are = append-nil (lost_between from to);
    one = one_by who (to - from) from (to - 1) none;
    mid = at pass marks disk a;
    does = up_none who (at pass marks disk a) consistent;
    numbered = numbered;
    told = told;
    part = record {
      called = [];
      not_called = [];
      calls_are = refl;
      calls = calls_none pass;
      events =
          leaves_amid (work_of who (lost_between from to)).events marks marks disk.file disk.file
          (made_same (λ start. []) (work_of who (lost_between from to)).events marks marks disk.file disk.file
          (λ start. sym (events_by who (to - from) from (to - 1) none start)) (none_made marks disk.file consistent));
      written = tells.0.0;
      not_written = tells.0.1;
      lines_are = tells.0.2 ∙ sym lines_are;
      lines = tells.0.3;
      disk_faults = omega arith;
      log_faults = tells.1;
    };
    cause = tells.2;
  }
  lost_broken (end.Stopped n) tells = absurd tells
  lost_broken end.DiskFault tells = absurd tells
  lost_broken end.NotAJournal tells = absurd tells
  lost_broken end.Worn tells = absurd tells
  lost_broken end.NoNumbers tells = absurd tells
  lost_broken end.OutOfMemory tells = absurd tells

-- ---- a product

module _ (who : Who) (n : ℕ) (k : Kept) (is : k.number ≡ who.base + n) (a b : Sight) where
  written_is : IsSameWork (writing who n k) (silent (work_of who (Given n k ∷ [])))
  written_is = record {
    entries = refl;
    events = λ start. sym (append-nil (keep_events who.ring k start));
    lines = sym (append-nil (large_line who.ring n k));
  }

  pub given_made : DoesAll (writing who n k) a b → MakesUp who (Given n k ∷ []) a b
  given_made does = record {
    numbered = (is, tt);
    told = (tt, tt);
    all = does_same (writing who n k) (silent (work_of who (Given n k ∷ []))) a b written_is does;
  }

  pub given_broken : IfSome a.disk.file IsConsistent → (why : RecordEnd) → WorksBy (Err why) (writing who n k) [] a b → BreaksOffIn why who (Given n k ∷ []) a b
  given_broken consistent why works = record {
    whole = [];
    in_hand = Given n k ∷ [];
    behind = [];
    are = refl;
    one = omega arith;
    mid = a;
    does = up_none who a consistent;
    numbered = (is, tt);
    told = (tt, tt);
    part = part_same (writing who n k) (silent (work_of who (Given n k ∷ []))) a b written_is works.0;
    cause = cause_for why (Given n k ∷ []) a b works.1;
  }

  -- the journal has no such number
  pub given_past : IfSome a.disk.file IsConsistent → 2 ^ 64 - 1 ≤ k.number → BreaksOffIn end.NoNumbers who (Given n k ∷ []) a a
  given_past consistent past = record {
    whole = [];
    in_hand = Given n k ∷ [];
    behind = [];
    are = refl;
    one = omega arith;
    mid = a;
    does = up_none who a consistent;
    numbered = (is, tt);
    told = (tt, tt);
    part = part_none (silent (work_of who (Given n k ∷ []))) a.pass a.pass a.marks a.disk a.log consistent (calls_none a.pass);
    cause = past;
  }

-- ---- a commit

module _ (who : Who) (end : ℕ) (pass : PassView) (log : SinkRecord) (old new : Kit) (ring : who.ring ≡ old.marks.ring) where
  pub caught_made : (commits : CommitsAt (Ok tt) who end (at pass old.marks old.disk log) (at pass new.marks new.disk log))
      → MakesUp who (CaughtUp end commits.lasts ∷ []) (at pass old.marks old.disk log) (at pass new.marks new.disk log)
  caught_made commits = record {
    numbered = (tt, tt);
    told = (commits.told, tt);
    all = record {
      calls = calls_none pass;
      events = commit_made who old new ring (λ start. note_then who.lines commits.lasts start.note) commits.saves.0;
      lines = Takes-nothing log log refl;
      ring = commits.saves.0.ring;
      disk_faults = commits.saves.0.faults;
      log_faults = omega arith;
    };
  }

  pub caught_broken : IfSome old.disk.file IsConsistent → (why : RecordEnd) (commits : CommitsAt (Err why) who end (at pass old.marks old.disk log) (at pass new.marks new.disk log))
      → old.disk.faults ≤ new.disk.faults → BreaksOffIn why who (CaughtUp end commits.lasts ∷ []) (at pass old.marks old.disk log) (at pass new.marks new.disk log)
  caught_broken consistent why commits faults = record {
    whole = [];
    in_hand = CaughtUp end commits.lasts ∷ [];
    behind = [];
    are = refl;
    one = omega arith;
    mid = at pass old.marks old.disk log;
    does = up_none who (at pass old.marks old.disk log) consistent;
    numbered = (tt, tt);
    told = (commits.told, tt);
    part = record {
      called = [];
      not_called = [];
      calls_are = refl;
      calls = calls_none pass;
      events = commit_broken who old new ring (λ start. note_then who.lines commits.lasts start.note) commits.saves.left;
      written = [];
      not_written = [];
      lines_are = refl;
      lines = Takes-nothing log log refl;
      disk_faults = faults;
      log_faults = omega arith;
    };
    cause = cause_here why (CaughtUp end commits.lasts ∷ []) pass pass old new log commits.saves.cause;
  }

-- ---- a queued product

pub passed_over : (base from : ℕ) (q : Queued) → q.number < from → turn_left base from q ≡ []
passed_over base from q less =
    ap (λ (b : Bool). cond b (lost_between from q.number ++ Given q.number (kept_queued base q) ∷ []) []) (too_long from q.number less)

pub stays_behind : (from : ℕ) (q : Queued) → q.number < from → from ≡ behind_one from q
stays_behind from q less = sym (ap (λ (b : Bool). cond b (q.number + 1) from) (too_long from q.number less))

pub is_left : (base from : ℕ) (q : Queued) → from ≤ q.number → turn_left base from q ≡ lost_between from q.number ++ Given q.number (kept_queued base q) ∷ []
is_left base from q le =
    ap (λ (b : Bool). cond b (lost_between from q.number ++ Given q.number (kept_queued base q) ∷ []) []) (le-leb from q.number le)

pub goes_behind : (from : ℕ) (q : Queued) → from ≤ q.number → q.number + 1 ≡ behind_one from q
goes_behind from q le = sym (ap (λ (b : Bool). cond b (q.number + 1) from) (le-leb from q.number le))
