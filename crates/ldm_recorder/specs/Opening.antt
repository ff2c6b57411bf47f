-- What opening a recorder comes to.
use Rattle.std.specs.Prelude.{◌≡◌, List, length}
use Rattle.ldm_model.specs.declared.event.Event.{Event}
use Rattle.ldm_model.specs.declared.event.Event.TheVariants as event
use Rattle.ldm_model.specs.declared.event.Reply.TheVariants as reply
use Rattle.ldm_model.specs.declared.event.Start.TheVariants as start
use Rattle.ldm_shared.specs.declared.steps.TheConstants.{MOST_TURNS}
use Rattle.ldm_shared.specs.Passes.{Grows, PassView}
use Rattle.ldm_journal.specs.declared.journal.Journal.{Journal}
use Rattle.ldm_recorder.specs.declared.line.Line.{Line}
use Rattle.ldm_recorder.specs.declared.recorder.TheConstants.{EVERY_FEEDTYPE}
use Rattle.ldm_recorder.specs.declared.recorder.Opened.{Opened}
use Rattle.ldm_recorder.specs.declared.recorder.Opened.TheVariants as opened
use Rattle.ldm_recorder.specs.declared.recorder.Recorder.{Recorder}
use Rattle.ldm_recorder.specs.Numbers.{IsReady}

-- a cursor for all feedtypes, at the end of the queue
abbrev pub opening : Event
opening = event.OpenCursor (record { 0 = EVERY_FEEDTYPE }) start.Next

pub record OpensReady (recorder : Recorder) (journal : Journal) (lines : List Line) (old new : PassView) : Type 0 where
  pub grows : Grows old new opening (reply.Opened recorder.reader.k)
  pub journal_is : recorder.journal ≡ journal
  pub base : recorder.base ≡ journal.marks.next
  pub lines_are : recorder.lines.items ≡ lines
  pub ready : IsReady new recorder

abbrev pub OpensBy : Opened → Journal → List Line → PassView → PassView → Type 0
OpensBy (opened.Ready recorder) journal lines old new = OpensReady recorder journal lines old new
OpensBy opened.AllBusy journal lines old new = Grows old new opening reply.AllBusy
OpensBy opened.Worn journal lines old new = length new.seen ≡ MOST_TURNS
