-- The journal of a node's queue: what it kept is put back before the net listens.
use Rattle.std.specs.Prelude.{◌≡◌, ℕ, List, [], length, Option, Some, None, Result, Ok, Err}
use Rattle.ldm_types.specs.declared.signature.Signature.{Signature}
use Rattle.ldm_disk.specs.Told.{DiskRecord, FileRecord}
use Rattle.ldm_disk.specs.Calls.{Attaches, FileChanges, KeepsFile}
use Rattle.ldm_disk.specs.Desks.{DeskRecord, IsNewDesk}
use Rattle.ldm_outside.specs.Count.{Rose}
use Rattle.ldm_outside.specs.Dial.{DialRecord}
use Rattle.ldm_model.specs.declared.event.Reply.TheVariants as reply
use Rattle.ldm_shared.specs.declared.steps.TheConstants.{MOST_TURNS}
use Rattle.ldm_shared.specs.Passes.{Grows, PassView}
use Rattle.ldm_conf.specs.Confs.{ConfView}
use Rattle.ldm_journal.specs.declared.journal.Journal.{Journal}
use Rattle.ldm_journal.specs.declared.fault.JournalFault.{JournalFault}
use Rattle.ldm_journal.specs.declared.marks.Marks.{Marks}
use Rattle.ldm_journal.specs.Opening.{Opens}
use Rattle.ldm_journal.specs.Reading.{FaultRose}
use Rattle.ldm_recorder.specs.declared.end.RestoreEnd.TheVariants as restoring
use Rattle.ldm_recorder.specs.declared.line.Line.{Line}
use Rattle.ldm_recorder.specs.declared.recorder.Recorder.{Recorder}
use Rattle.ldm_recorder.specs.Opening.{OpensReady, opening}
use Rattle.ldm_recorder.specs.Restoring.{Restores, Source, source_of}
use Rattle.ldm_node.specs.Clerks.{ClerkRecord}
use Rattle.ldm_node_command.specs.declared.restoring.Reopened.{Reopened}
use Rattle.ldm_node_command.specs.declared.restoring.RestoreFault.{RestoreFault}
use Rattle.ldm_node_command.specs.declared.restoring.RestoreFault.TheVariants.{NoDesk, OutOfMemory, NotAttached, NotOpened, NotRead, Worn, AllBusy}
use Rattle.ldm_node_command.specs.Lines.{lines_for, noted}
use Rattle.ldm_node_command.specs.Setup.{Setup}

-- a pass, and the disk that has a journal
pub record Moment : Type 0 where
  pub pass : PassView
  pub disk : DiskRecord

abbrev pub moment : PassView → DiskRecord → Moment
moment pass disk = record { pass = pass; disk = disk }

-- The file was attached, and is a journal with a ring of that size.
pub record IsOpened (ring : ℕ) (marks : Marks) (old new : DiskRecord) : Type 0 where
  pub attached : DiskRecord
  pub attaches : Attaches (Ok tt) old attached
  pub opens : FileChanges (Opens (Ok marks) ring) attached.file new.file

-- What a node asks of its journal: the bytes of its ring, and the REQUEST lines of which it tells.
pub record Wanted : Type 0 where
  pub ring : ℕ
  pub lines : List Line

-- What a node goes on with: a recorder, and of each line the signature of the last product, where the journal keeps it.
pub record Reopening : Type 0 where
  pub recorder : Recorder
  pub lasts : List (Option Signature)

abbrev pub reopening_of : Recorder → List (Option Signature) → Reopening
reopening_of recorder lasts = record { recorder = recorder; lasts = lasts }

-- what is put back of a journal: the lines are told by its own note
abbrev pub source_in : Marks → Option FileRecord → Wanted → Source
source_in marks file wanted = source_of marks file (noted marks.note wanted.lines)

-- Each product that the journal keeps was put back, in order and at just its time, and a cursor was opened behind them. Of each line the
-- last product is that which the journal's own note tells, as far as the journal keeps it.
pub record PutsBack (wanted : Wanted) (made : Reopening) (old new : Moment) : Type 0 where
  pub journal : Journal
  pub opened : DiskRecord
  pub is_opened : IsOpened wanted.ring journal.marks old.disk opened
  pub count : ℕ
  pub restored : PassView
  pub restores : Restores (restoring.Restored count) (source_in journal.marks opened.file wanted) made.lasts old.pass restored
  pub file : FileChanges KeepsFile opened.file new.disk.file
  pub ready : OpensReady made.recorder journal (noted journal.marks.note wanted.lines) restored new.pass

-- Not all of it could be read.
pub record PutsFront (wanted : Wanted) (why : JournalFault) (old new : Moment) : Type 0 where
  pub marks : Marks
  pub opened : DiskRecord
  pub is_opened : IsOpened wanted.ring marks old.disk opened
  pub lasts : List (Option Signature)
  pub restores : Restores (restoring.NotRead why) (source_in marks opened.file wanted) lasts old.pass new.pass
  pub file : FileChanges KeepsFile opened.file new.disk.file
  pub fault : FaultRose why opened new.disk

-- Why nothing was put back, or not all, or no cursor was opened.
abbrev pub PutsNone : RestoreFault → Wanted → Moment → Moment → Type 0
PutsNone NoDesk wanted old new = ⊥
PutsNone OutOfMemory wanted old new = ⊥
PutsNone NotAttached wanted old new = Rose old.disk.faults new.disk.faults × (new.pass ≡ old.pass)
PutsNone (NotOpened why) wanted old new =
    (attached : DiskRecord) × Attaches (Ok tt) old.disk attached × FileChanges (Opens (Err why) wanted.ring) attached.file new.disk.file
    × FaultRose why attached new.disk × (new.pass ≡ old.pass)
PutsNone (NotRead why) wanted old new = PutsFront wanted why old new
PutsNone Worn wanted old new = length new.pass.seen ≡ MOST_TURNS
PutsNone AllBusy wanted old new = (restored : PassView) × Grows restored new.pass opening reply.AllBusy

abbrev pub PutsBackBy : Result Reopened RestoreFault → Wanted → Moment → Moment → Type 0
PutsBackBy (Ok made) wanted old new = PutsBack wanted (reopening_of made.recorder made.lasts.items) old new
PutsBackBy (Err why) wanted old new = PutsNone why wanted old new

-- a setup names a journal
abbrev pub HasJournal : Setup → Type 0
HasJournal setup = (path : List ℕ) × (setup.journal ≡ Some path)

-- what a node asks of the journal of its setup
abbrev pub wanted_for : Setup → ConfView → Wanted
wanted_for setup conf = record { ring = setup.arena; lines = lines_for setup conf }

module _ (setup : Setup) (conf : ConfView) where
  -- The net gave a desk, and what its file kept was put back.
  pub record Furnishes (old_pass pass : PassView) (clerk : ClerkRecord) (lasts : List (Option Signature)) : Type 0 where
    pub given : DeskRecord
    pub is_new : IsNewDesk setup.idles given
    pub same : clerk.desk ≡ record given { disk = clerk.desk.disk }
    pub back : PutsBack (wanted_for setup conf) (reopening_of clerk.recorder lasts) (moment old_pass given.disk) (moment pass clerk.desk.disk)

  -- What came of the journal of a setup, where it has one. Without one no last product is known.
  abbrev pub Restored : PassView → PassView → Option ClerkRecord → List (Option Signature) → Type 0
  Restored old_pass pass None lasts = (setup.journal ≡ None) × (pass ≡ old_pass) × (lasts ≡ [])
  Restored old_pass pass (Some clerk) lasts = HasJournal setup × Furnishes old_pass pass clerk lasts

-- what a net tells, and the desk that it keeps
pub record NetRecord : Type 0 where
  pub net : DialRecord
  pub desk : Option DeskRecord

abbrev pub restored_net : DialRecord → Option DeskRecord → NetRecord
restored_net net desk = record { net = net; desk = desk }

module _ (setup : Setup) (conf : ConfView) where
  -- a desk was given, and the net keeps it since
  pub record FailsAtDesk (why : RestoreFault) (old_pass : PassView) (old new : NetRecord) : Type 0 where
    pub given : DeskRecord
    pub is_new : IsNewDesk setup.idles given
    pub left : DeskRecord
    pub kept : new.desk ≡ Some left
    pub same : new.net ≡ old.net
    pub pass : PassView
    pub puts : PutsNone why (wanted_for setup conf) (moment old_pass given.disk) (moment pass left.disk)

  -- Why the journal of a setup was not put back.
  abbrev pub FailsToRestore : RestoreFault → PassView → NetRecord → NetRecord → Type 0
  FailsToRestore NoDesk old_pass old new = Rose old.net.faults new.net.faults × (new.net ≡ record old.net { faults = new.net.faults })
  FailsToRestore OutOfMemory old_pass old new = new.net ≡ old.net
  FailsToRestore why old_pass old new = FailsAtDesk why old_pass old new
