-- The parts of a turn.
use Rattle.std.proofs.Common.{◌≡◌, ℕ, ◌+◌, ◌-◌, ◌≤◌, List, [], ◌∷◌, refl, sym, ◌∙◌, ap, subst, arith}
use Rattle.std.specs.Prelude.{IfSome, Option, codes}
use Rattle.std.proofs.lemmas.List.{append-nil}
use Rattle.ldm_disk.specs.Told.{DiskRecord, IsConsistent}
use Rattle.ldm_disk.specs.Calls.{FileChanges}
use Rattle.ldm_outside.specs.Count.{Rose}
use Rattle.ldm_outside.specs.Io.{SinkRecord, Takes, WritesFront}
use Rattle.ldm_outside.proofs.CallerLemmas.{Takes-nothing}
use Rattle.ldm_session.specs.Gaps.{gap_line}
use Rattle.ldm_model.specs.declared.event.Event.{Event}
use Rattle.ldm_model.specs.declared.event.Event.TheVariants as event
use Rattle.ldm_model.specs.declared.event.Reply.{Reply}
use Rattle.ldm_model.specs.declared.event.Reply.TheVariants as reply
use Rattle.ldm_shared.specs.Passes.{PassView, Calls, FindsWorn, Grows}
use Rattle.ldm_shared.proofs.Made.{calls_none, calls_some, calls_trans}
use Rattle.ldm_journal.specs.declared.marks.Marks.{Marks}
use Rattle.ldm_journal.specs.Records.{Kept}
use Rattle.ldm_journal.specs.Runs.{Commit, Content}
use Rattle.ldm_journal.specs.Joining.{BreaksOffAmid, MakesEvents}
use Rattle.ldm_recorder.specs.declared.end.RecordEnd.{RecordEnd}
use Rattle.ldm_recorder.specs.declared.end.RecordEnd.TheVariants as end
use Rattle.ldm_recorder.specs.Turns.{CaughtUp, Given, IsTold, Lost, Saved, Turn, Who, Work, call_of, keep_events, large_line, no_work, note_then, turn_entries, turn_work, work_of, work_then}
use Rattle.ldm_recorder.specs.Recording.{CauseOf, Does, DoesAll, DoesPart, Sight, Stops, sight_at}
use Rattle.ldm_recorder.specs.Saving.{BreaksOff, Kit, Makes, DiskCause}
use Rattle.ldm_recorder.specs.Taking.{reading, releasing, taking, writing}
use Rattle.ldm_recorder.proofs.Working.{IsSameWork, broken_early, does_same, does_then, leaves_amid, none_made, one_turn, part_early, part_same, part_then}

abbrev pub at : PassView → Marks → DiskRecord → SinkRecord → Sight
at pass marks disk log = sight_at pass marks disk log

-- one call on the queue, and nothing else
abbrev pub calling : Who → Event → Reply → Work
calling who asked answer = record { entries = call_of who asked answer ∷ []; events = λ start. []; lines = [] }

pub does_call : (who : Who) (asked : Event) (answer : Reply) (old new : PassView) (marks : Marks) (disk : DiskRecord) (log : SinkRecord) → who.actor ≡ old.actor
    → IfSome disk.file IsConsistent → Grows old new asked answer → DoesAll (calling who asked answer) (at old marks disk log) (at new marks disk log)
does_call who asked answer old new marks disk log actor consistent grows = record {
  calls = subst (λ (a : ℕ). Calls old new (record { actor = a; event = asked; reply = answer } ∷ [])) (sym actor) (calls_some old new _ grows.makes);
  events = none_made marks disk.file consistent;
  lines = Takes-nothing log log refl;
  ring = refl;
  disk_faults = omega arith;
  log_faults = omega arith;
}

-- nothing was done of some work
pub part_none : (work : Work) (old new : PassView) (marks : Marks) (disk : DiskRecord) (log : SinkRecord) → IfSome disk.file IsConsistent → Calls old new []
    → DoesPart work (at old marks disk log) (at new marks disk log)
part_none work old new marks disk log consistent calls = record {
  called = [];
  not_called = work.entries;
  calls_are = refl;
  calls = calls;
  events =
      broken_early (λ start. []) work.events marks disk.file disk.file (leaves_amid (λ start. []) marks marks disk.file disk.file (none_made marks disk.file consistent));
  written = [];
  not_written = work.lines;
  lines_are = refl;
  lines = Takes-nothing log log refl;
  disk_faults = omega arith;
  log_faults = omega arith;
}

pub calls_worn : (old new : PassView) (turns : ℕ) → FindsWorn old new turns → Calls old new []
calls_worn old new turns worn = calls_some old new [] worn.makes

pub calls_same : (old new : PassView) → new ≡ old → Calls old new []
calls_same old new same = subst (λ (p : PassView). Calls old p []) (sym same) (calls_none old)

-- ---- writing

-- a product was kept
pub written_well : (who : Who) (n : ℕ) (product : Kept) (pass : PassView) (old new : Kit) (a b : SinkRecord) → who.ring ≡ old.marks.ring
    → Makes (keep_events old.marks.ring product) old new → Takes a (large_line old.marks.ring n product) b → a.faults ≤ b.faults
    → DoesAll (writing who n product) (at pass old.marks old.disk a) (at pass new.marks new.disk b)
written_well who n product pass old new a b ring makes takes faults = record {
  calls = calls_none pass;
  events =
      subst (λ (r : ℕ). FileChanges (MakesEvents (keep_events r product) old.marks new.marks) old.disk.file new.disk.file) (sym ring) makes.made;
  lines = subst (λ (r : ℕ). Takes a (large_line r n product) b) (sym ring) takes;
  ring = makes.ring;
  disk_faults = makes.faults;
  log_faults = faults;
}

-- the log failed
pub written_unsaid : (who : Who) (n : ℕ) (product : Kept) (pass : PassView) (old new : Kit) (a b : SinkRecord) → who.ring ≡ old.marks.ring
    → Makes (keep_events old.marks.ring product) old new → WritesFront a (large_line old.marks.ring n product) b → a.faults ≤ b.faults
    → DoesPart (writing who n product) (at pass old.marks old.disk a) (at pass new.marks new.disk b)
written_unsaid who n product pass old new a b ring makes wrote faults = record {
  called = [];
  not_called = [];
  calls_are = refl;
  calls = calls_none pass;
  events =
      subst (λ (r : ℕ). FileChanges (BreaksOffAmid (keep_events r product) old.marks) old.disk.file new.disk.file) (sym ring)
      (leaves_amid (keep_events old.marks.ring product) old.marks new.marks old.disk.file new.disk.file makes.made);
  written = wrote.0;
  not_written = wrote.1;
  lines_are = wrote.2 ∙ ap (λ (r : ℕ). large_line r n product) (sym ring);
  lines = wrote.3;
  disk_faults = makes.faults;
  log_faults = faults;
}

-- the disk failed
pub written_part : (who : Who) (n : ℕ) (product : Kept) (pass : PassView) (old new : Kit) (log : SinkRecord) → who.ring ≡ old.marks.ring
    → FileChanges (BreaksOffAmid (keep_events old.marks.ring product) old.marks) old.disk.file new.disk.file → old.disk.faults ≤ new.disk.faults
    → DoesPart (writing who n product) (at pass old.marks old.disk log) (at pass new.marks new.disk log)
written_part who n product pass old new log ring broken faults = record {
  called = [];
  not_called = [];
  calls_are = refl;
  calls = calls_none pass;
  events = subst (λ (r : ℕ). FileChanges (BreaksOffAmid (keep_events r product) old.marks) old.disk.file new.disk.file) (sym ring) broken;
  written = [];
  not_written = large_line who.ring n product;
  lines_are = refl;
  lines = Takes-nothing log log refl;
  disk_faults = faults;
  log_faults = omega arith;
}

-- why, for any turn
pub cause_here : (why : RecordEnd) (turns : List Turn) (p q : PassView) (old new : Kit) (log : SinkRecord) → DiskCause why old new
    → CauseOf why turns (at p old.marks old.disk log) (at q new.marks new.disk log)
cause_here end.DiskFault turns p q old new log cause = cause
cause_here end.NotAJournal turns p q old new log cause = cause.1
cause_here (end.Stopped n) turns p q old new log cause = absurd cause
cause_here end.LogFault turns p q old new log cause = absurd cause
cause_here end.Worn turns p q old new log cause = absurd cause
cause_here end.NoNumbers turns p q old new log cause = absurd cause
cause_here end.OutOfMemory turns p q old new log cause = tt

pub cause_for : (why : RecordEnd) (turns : List Turn) (a b : Sight) → CauseOf why [] a b → CauseOf why turns a b
cause_for end.DiskFault turns a b cause = cause
cause_for end.NotAJournal turns a b cause = cause
cause_for (end.Stopped n) turns a b cause = cause
cause_for end.LogFault turns a b cause = cause
cause_for end.Worn turns a b cause = cause
cause_for end.NoNumbers turns a b cause = absurd cause
cause_for end.OutOfMemory turns a b cause = cause

-- ---- a product

-- what it is, of a turn
pub given_work : (who : Who) (n : ℕ) (product : Kept)
    → IsSameWork (work_then (calling who (event.Step who.k) (reply.Product n product.time product.info)) (taking who n product)) (work_of who (Given n product ∷ []))
given_work who n product = record {
  entries = refl;
  events = λ start. sym (append-nil (keep_events who.ring product start));
  lines = sym (append-nil (large_line who.ring n product));
}

module _ (who : Who) (n : ℕ) (product : Kept) (a b c : Sight) (read : DoesAll (reading who product) a b) where
  pub taken_unreleased : DoesPart (releasing who n) b c → DoesPart (taking who n product) a c
  taken_unreleased part =
      part_then (reading who product) (work_then (releasing who n) (writing who n product)) a b c read (part_early (releasing who n) (writing who n product) b c part)

  pub taken_unwritten : (d : Sight) → DoesAll (releasing who n) b c → DoesPart (writing who n product) c d → DoesPart (taking who n product) a d
  taken_unwritten d released part =
      part_then (reading who product) (work_then (releasing who n) (writing who n product)) a b d read (part_then (releasing who n) (writing who n product) b c d released part)

  pub taken_well : (d : Sight) → DoesAll (releasing who n) b c → DoesAll (writing who n product) c d → DoesAll (taking who n product) a d
  taken_well d released wrote =
      does_then (reading who product) (work_then (releasing who n) (writing who n product)) a b d read (does_then (releasing who n) (writing who n product) b c d released wrote)

-- ---- a turn

-- a product was given, and was taken
pub turn_given : (who : Who) (n : ℕ) (product : Kept) (a b c : Sight) → DoesAll (calling who (event.Step who.k) (reply.Product n product.time product.info)) a b
    → DoesAll (taking who n product) b c → product.number ≡ who.base + n → Does who (Given n product ∷ []) a c
turn_given who n product a b c stepped taken numbered = record {
  numbered = (numbered, tt);
  told = (tt, tt);
  all =
      does_same (work_then (calling who (event.Step who.k) (reply.Product n product.time product.info)) (taking who n product)) (work_of who (Given n product ∷ [])) a c
      (given_work who n product) (does_then (calling who (event.Step who.k) (reply.Product n product.time product.info)) (taking who n product) a b c stepped taken);
}

pub stop_given : (why : RecordEnd) (who : Who) (n : ℕ) (product : Kept) (a b c : Sight)
    → DoesAll (calling who (event.Step who.k) (reply.Product n product.time product.info)) a b → DoesPart (taking who n product) b c → product.number ≡ who.base + n
    → CauseOf why (Given n product ∷ []) a c → Stops why who a c
stop_given why who n product a b c stepped taken numbered cause = record {
  in_hand = Given n product ∷ [];
  one = omega arith;
  numbered = (numbered, tt);
  told = (tt, tt);
  part =
      part_same (work_then (calling who (event.Step who.k) (reply.Product n product.time product.info)) (taking who n product)) (work_of who (Given n product ∷ [])) a c
      (given_work who n product) (part_then (calling who (event.Step who.k) (reply.Product n product.time product.info)) (taking who n product) a b c stepped taken);
  cause = cause;
}

-- losses were told
pub turn_lost : (who : Who) (count first last : ℕ) (old new : PassView) (marks : Marks) (disk : DiskRecord) (log log' : SinkRecord)
    → DoesAll (calling who (event.Step who.k) (reply.Gap count first last)) (at old marks disk log) (at new marks disk log)
    → Takes log (gap_line (codes "journal") count first last) log' → log.faults ≤ log'.faults
    → Does who (Lost count first last ∷ []) (at old marks disk log) (at new marks disk log')
turn_lost who count first last old new marks disk log log' stepped takes faults = record {
  numbered = (tt, tt);
  told = (tt, tt);
  all =
      does_same (turn_work who (Lost count first last)) (work_of who (Lost count first last ∷ [])) (at old marks disk log) (at new marks disk log')
      (one_turn who (Lost count first last))
      (record { calls = stepped.calls; events = stepped.events; lines = takes; ring = refl; disk_faults = omega arith; log_faults = faults });
}

pub stop_lost : (who : Who) (count first last : ℕ) (old new : PassView) (marks : Marks) (disk : DiskRecord) (log log' : SinkRecord)
    → DoesAll (calling who (event.Step who.k) (reply.Gap count first last)) (at old marks disk log) (at new marks disk log)
    → WritesFront log (gap_line (codes "journal") count first last) log' → log.faults ≤ log'.faults → Rose log.faults log'.faults
    → Stops end.LogFault who (at old marks disk log) (at new marks disk log')
stop_lost who count first last old new marks disk log log' stepped wrote faults rose = record {
  in_hand = Lost count first last ∷ [];
  one = omega arith;
  numbered = (tt, tt);
  told = (tt, tt);
  part =
      part_same (turn_work who (Lost count first last)) (work_of who (Lost count first last ∷ [])) (at old marks disk log) (at new marks disk log')
      (one_turn who (Lost count first last))
      (record {
        called = (turn_work who (Lost count first last)).entries;
        not_called = [];
        calls_are = refl;
        calls = stepped.calls;
        events = leaves_amid (λ start. []) marks marks disk.file disk.file stepped.events;
        written = wrote.0;
        not_written = wrote.1;
        lines_are = wrote.2;
        lines = wrote.3;
        disk_faults = omega arith;
        log_faults = faults;
      });
  cause = rose;
}

-- ---- a commit of all

module _ (who : Who) (old new : Kit) (ring : who.ring ≡ old.marks.ring) (note : Content → List ℕ) where
  all_of_ring : old.marks.ring - 0 ≡ who.ring
  all_of_ring = omega (arith, ring)

  pub commit_made : Makes (λ start. Commit (old.marks.ring - 0) (note start) ∷ []) old new → FileChanges (MakesEvents (λ start. Commit who.ring (note start) ∷ []) old.marks new.marks) old.disk.file new.disk.file
  commit_made makes =
      subst (λ (most : ℕ). FileChanges (MakesEvents (λ start. Commit most (note start) ∷ []) old.marks new.marks) old.disk.file new.disk.file) all_of_ring makes.made

  pub commit_broken : FileChanges (BreaksOffAmid (λ start. Commit (old.marks.ring - 0) (note start) ∷ []) old.marks) old.disk.file new.disk.file
      → FileChanges (BreaksOffAmid (λ start. Commit who.ring (note start) ∷ []) old.marks) old.disk.file new.disk.file
  commit_broken broken =
      subst (λ (most : ℕ). FileChanges (BreaksOffAmid (λ start. Commit most (note start) ∷ []) old.marks) old.disk.file new.disk.file) all_of_ring broken

-- nothing was left
module _ (who : Who) (old new : Kit) (ring : who.ring ≡ old.marks.ring) (count : ℕ) (lasts : Option (List ℕ)) where
  abbrev noting : Content → List ℕ
  noting start = note_then who.lines lasts start.note

  pub turn_caught : (p q u : PassView) (log : SinkRecord) → DoesAll (calling who (event.Step who.k) (reply.End count)) (at p old.marks old.disk log) (at q old.marks old.disk log)
      → Calls q u [] → IsTold u.seen who (CaughtUp count lasts) → Makes (λ start. Commit (old.marks.ring - 0) (noting start) ∷ []) old new
      → Does who (CaughtUp count lasts ∷ []) (at p old.marks old.disk log) (at u new.marks new.disk log)
  turn_caught p q u log stepped looked told makes = record {
    numbered = (tt, tt);
    told = (told, tt);
    all =
        does_same (turn_work who (CaughtUp count lasts)) (work_of who (CaughtUp count lasts ∷ [])) (at p old.marks old.disk log) (at u new.marks new.disk log)
        (one_turn who (CaughtUp count lasts))
        (record {
          calls = calls_trans p q u (turn_entries who (CaughtUp count lasts)) [] stepped.calls looked;
          events = commit_made who old new ring noting makes;
          lines = Takes-nothing log log refl;
          ring = makes.ring;
          disk_faults = makes.faults;
          log_faults = omega arith;
        });
  }

  pub stop_caught : (why : RecordEnd) (p q u : PassView) (log : SinkRecord)
      → DoesAll (calling who (event.Step who.k) (reply.End count)) (at p old.marks old.disk log) (at q old.marks old.disk log) → Calls q u []
      → IsTold u.seen who (CaughtUp count lasts) → BreaksOff why (λ start. Commit (old.marks.ring - 0) (noting start) ∷ []) old new → old.disk.faults ≤ new.disk.faults
      → Stops why who (at p old.marks old.disk log) (at u new.marks new.disk log)
  stop_caught why p q u log stepped looked told breaks faults = record {
    in_hand = CaughtUp count lasts ∷ [];
    one = omega arith;
    numbered = (tt, tt);
    told = (told, tt);
    part =
        part_same (turn_work who (CaughtUp count lasts)) (work_of who (CaughtUp count lasts ∷ [])) (at p old.marks old.disk log) (at u new.marks new.disk log)
        (one_turn who (CaughtUp count lasts))
        (record {
          called = (turn_work who (CaughtUp count lasts)).entries;
          not_called = [];
          calls_are = refl;
          calls = calls_trans p q u (turn_entries who (CaughtUp count lasts)) [] stepped.calls looked;
          events = commit_broken who old new ring noting breaks.left;
          written = [];
          not_written = [];
          lines_are = refl;
          lines = Takes-nothing log log refl;
          disk_faults = faults;
          log_faults = omega arith;
        });
    cause = cause_here why (CaughtUp count lasts ∷ []) p u old new log breaks.cause;
  }

-- the last commit was long ago
module _ (who : Who) (old new : Kit) (ring : who.ring ≡ old.marks.ring) where
  pub turn_saved : (pass : PassView) (log : SinkRecord) → Makes (λ start. Commit (old.marks.ring - 0) start.note ∷ []) old new
      → Does who (Saved ∷ []) (at pass old.marks old.disk log) (at pass new.marks new.disk log)
  turn_saved pass log makes = record {
    numbered = (tt, tt);
    told = (tt, tt);
    all =
        does_same (turn_work who Saved) (work_of who (Saved ∷ [])) (at pass old.marks old.disk log) (at pass new.marks new.disk log) (one_turn who Saved)
        (record {
          calls = calls_none pass;
          events = commit_made who old new ring (λ start. start.note) makes;
          lines = Takes-nothing log log refl;
          ring = makes.ring;
          disk_faults = makes.faults;
          log_faults = omega arith;
        });
  }

  pub stop_saved : (why : RecordEnd) (pass : PassView) (log : SinkRecord) → BreaksOff why (λ start. Commit (old.marks.ring - 0) start.note ∷ []) old new → old.disk.faults ≤ new.disk.faults
      → Stops why who (at pass old.marks old.disk log) (at pass new.marks new.disk log)
  stop_saved why pass log breaks faults = record {
    in_hand = Saved ∷ [];
    one = omega arith;
    numbered = (tt, tt);
    told = (tt, tt);
    part =
        part_same (turn_work who Saved) (work_of who (Saved ∷ [])) (at pass old.marks old.disk log) (at pass new.marks new.disk log) (one_turn who Saved)
        (record {
          called = [];
          not_called = [];
          calls_are = refl;
          calls = calls_none pass;
          events = commit_broken who old new ring (λ start. start.note) breaks.left;
          written = [];
          not_written = [];
          lines_are = refl;
          lines = Takes-nothing log log refl;
          disk_faults = faults;
          log_faults = omega arith;
        });
    cause = cause_here why (Saved ∷ []) pass pass old new log breaks.cause;
  }

-- no turn was begun
pub stop_worn : (who : Who) (old new : PassView) (turns : ℕ) (marks : Marks) (disk : DiskRecord) (log : SinkRecord) → IfSome disk.file IsConsistent → FindsWorn old new turns
    → Stops end.Worn who (at old marks disk log) (at new marks disk log)
stop_worn who old new turns marks disk log consistent worn = record {
  in_hand = [];
  one = omega arith;
  numbered = tt;
  told = tt;
  part = part_none no_work old new marks disk log consistent (calls_worn old new turns worn);
  cause = worn.long ∙ worn.turns_are;
}
