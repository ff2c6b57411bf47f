-- What a node writes obeys the law of the queue: for `ObeysNodeLaw`.
use Rattle.std.proofs.Common.{◌≡◌, ◌∙◌, ◌⊎◌, ◌<◌, ℕ, List, [], map, Option, None, Some, Result, Ok, Err, inl, inr, refl, subst}
use Rattle.std.proofs.lemmas.List.{append-nil}
use Rattle.ldm_types.specs.declared.signature.Signature.{Signature}
use Rattle.ldm_outside.specs.declared.fault.Failed.{Failed}
use Rattle.ldm_outside.specs.declared.io.SinkFailed.{SinkFailed}
use Rattle.ldm_outside.specs.Count.{Rose}
use Rattle.ldm_outside.specs.Io.{SinkRecord, Takes, WritesAll, WritesFront}
use Rattle.ldm_outside.specs.Station.{StationRecord}
use Rattle.ldm_shared.specs.Passes.{PassView}
use Rattle.ldm_conf.specs.Confs.{ConfView}
use Rattle.ldm_node.specs.Causes.{NodeCause, SomeHas}
use Rattle.ldm_status.specs.declared.status.Status.{Status}
use Rattle.ldm_status.specs.declared.status.Status.TheVariants as status
use Rattle.ldm_status.specs.Status.{ReportsBecause, code_of}
use Rattle.ldm_node.specs.declared.stop.NodeStop.{NodeStop}
use Rattle.ldm_node.specs.declared.stop.NodeStop.TheVariants as stop
use Rattle.ldm_node_command.specs.declared.ending.NodeFault.{NodeFault}
use Rattle.ldm_node_command.specs.declared.ending.Ran.{Ran}
use Rattle.ldm_node_command.specs.Commands.{FailsToWait, numbers_from, with_commands}
use Rattle.ldm_node_command.specs.Ending.{NodeEnds}
use Rattle.ldm_node_command.specs.Law.{IsRecordedWhole, Leaves, LogFailed, NumberOfRun, ObeysNodeLaw}
use Rattle.ldm_node_command.specs.Node.{Attends, plan_for, stat_line}
use Rattle.ldm_node_command.specs.Outside.{Outside}
use Rattle.ldm_node_command.specs.Setup.{Setup}
use Rattle.std.specs.Prelude.{IfSome}
use Rattle.std.specs.Option.{option_map}
use Rattle.ldm_recorder.specs.declared.end.RecordEnd.{RecordEnd}
use Rattle.ldm_recorder.specs.declared.end.RecordEnd.TheVariants as recording
use Rattle.ldm_node.specs.Clerks.{LeftRecord, RecordCause}
use Rattle.ldm_node_command.specs.declared.statuses.TheConstants.{RECORDS}
use Rattle.ldm_node_command.specs.Statuses.{Tells, status_behind, status_of_node, status_of_recorded, status_of_recording, status_of_stop}
use Rattle.ldm_node_command.proofs.CommandLemmas.{faults-with_commands, faults-with_waits}

-- what was written of a line is a front of it
front_written : (result : Result (Unit {0}) SinkFailed) (line : List ℕ) (old new : SinkRecord) → WritesAll result line old new → WritesFront old line new
front_written (Ok done) line old new takes = (line, [], append-nil line, takes)
front_written (Err failed) line old new breaks = breaks.1

-- where the sink did not fail it is all of it
whole_written : (result : Result (Unit {0}) SinkFailed) (line : List ℕ) (old new : SinkRecord) → WritesAll result line old new → ¬ (Rose old.faults new.faults) → Takes old line new
whole_written (Ok done) line old new takes works = takes
whole_written (Err failed) line old new breaks works = absurd (works breaks.0)

module _ {S : Type 0} (tells : S → StationRecord) (setup : Setup) (code : ℕ) (old new : Outside S) where
  -- the log of a worker failed, or that of the clerk, or that of the program
  unlogged : (conf : ConfView) (left : Leaves) → code ≡ 76
      → SomeHas (λ station. 0 < station.log.faults) (map tells new.kept) ⊎ (LogFailed left.recorded ⊎ Rose old.log.faults new.log.faults) → NumberOfRun tells setup code conf left old new
  unlogged conf left is which = inr (inr (inr (inr (inr (inl (is, which))))))

  -- a status is told by its number, unless the log failed
  numbered : (conf : ConfView) (left : Leaves) (ending : Status) → (code ≡ code_of ending → NumberOfRun tells setup code conf left old new)
      → ReportsBecause ending code old.log new.log → NumberOfRun tells setup code conf left old new
  numbered conf left ending number (reason, is_reason, inl told) = number told.0
  numbered conf left ending number (reason, is_reason, inr failed) = unlogged conf left failed.0 (inr (inr failed.1))

  launcher_rose : (conf : ConfView) → FailsToWait (numbers_from old.launcher.next conf.commands) (with_commands conf.commands old.launcher) new.launcher
      → Rose old.launcher.faults new.launcher.faults
  launcher_rose conf fails =
      let started = with_commands conf.commands old.launcher in
      subst (λ (n : ℕ). Rose n new.launcher.faults) (faults-with_waits fails.waited started ∙ faults-with_commands conf.commands old.launcher) fails.fails.0

  -- the number of a node whose workers were all done, and the clerk
  behind : (conf : ConfView) (left : Leaves) (waited : Result (Unit {0}) Failed) (written : Result (Unit {0}) SinkFailed) → IsRecordedWhole left.recorded
      → NodeCause stop.Done (plan_for setup conf left.lasts) (map tells new.kept) left.last → Attends waited conf old.launcher new.launcher
      → WritesAll written (stat_line setup left.last.seen) old.sink new.sink → ReportsBecause (status_behind waited written) code old.log new.log
      → NumberOfRun tells setup code conf left old new
  behind conf left (Err failed) written recorded done fails writes told =
      numbered conf left status.ChildFault (λ is. inr (inr (inr (inl (is, launcher_rose conf fails))))) told
  behind conf left (Ok all) (Err failed) recorded done waits breaks told =
      numbered conf left status.SinkFault (λ is. inr (inr (inr (inr (inl (is, breaks.0)))))) told
  behind conf left (Ok all) (Ok whole) recorded done waits writes told =
      numbered conf left status.Done (λ is. inl (is, record { done = done; recorded = recorded; waited = waits; written = writes })) told

  -- the number of a node whose workers were all done, by how recording ended
  module _ (conf : ConfView) (lasts : List (Option Signature)) (last : PassView) (waited : Result (Unit {0}) Failed) (written : Result (Unit {0}) SinkFailed)
      (done : NodeCause stop.Done (plan_for setup conf lasts) (map tells new.kept) last) (attends : Attends waited conf old.launcher new.launcher)
      (writes : WritesAll written (stat_line setup last.seen) old.sink new.sink) where
    abbrev with_left : Option LeftRecord → Leaves
    with_left left = record { lasts = lasts; last = last; recorded = left }

    by_end : (l : LeftRecord) (why : RecordEnd) → l.end ≡ why → RecordCause why l.desk last
        → Tells (status_of_recording why (status_behind waited written)) code old.log new.log → NumberOfRun tells setup code conf (with_left (Some l)) old new
    by_end l (recording.Stopped at) is cause told = behind conf (with_left (Some l)) waited written (at, is) done attends writes told
    by_end l recording.DiskFault is cause told =
        numbered conf (with_left (Some l)) status.StoreFault (λ n. inr (inr (inr (inr (inr (inr (inr (inl (n, cause))))))))) told
    by_end l recording.NotAJournal is cause told =
        numbered conf (with_left (Some l)) (status.BadImage RECORDS) (λ n. inr (inr (inr (inr (inr (inr (inr (inr (n, tt))))))))) told
    by_end l recording.NoNumbers is cause told =
        numbered conf (with_left (Some l)) (status.BadImage RECORDS) (λ n. inr (inr (inr (inr (inr (inr (inr (inr (n, tt))))))))) told
    by_end l recording.LogFault is cause told = unlogged conf (with_left (Some l)) told.0 (inr (inl cause))
    by_end l recording.Worn is cause told =
        numbered conf (with_left (Some l)) status.Worn (λ n. inr (inr (inr (inr (inr (inr (inl (n, cause)))))))) told
    by_end l recording.OutOfMemory is cause told = numbered conf (with_left (Some l)) status.NoMemory (λ n. inr (inr (inl n))) told

    recorded_so : (left : Option LeftRecord) → IfSome left (λ (l : LeftRecord). RecordCause l.end l.desk last)
        → Tells (status_of_recorded (option_map (λ (l : LeftRecord). l.end) left) (status_behind waited written)) code old.log new.log
        → NumberOfRun tells setup code conf (with_left left) old new
    recorded_so None cause told = behind conf (with_left None) waited written tt done attends writes told
    recorded_so (Some l) cause told = by_end l l.end refl cause told

  number : (conf : ConfView) (lasts : List (Option Signature)) (last : PassView) (left : Option LeftRecord) (why : NodeStop) (waited : Result (Unit {0}) Failed) (written : Result (Unit {0}) SinkFailed)
      → NodeCause why (plan_for setup conf lasts) (map tells new.kept) last → IfSome left (λ (l : LeftRecord). RecordCause l.end l.desk last)
      → Attends waited conf old.launcher new.launcher → WritesAll written (stat_line setup last.seen) old.sink new.sink
      → Tells (status_of_stop why (status_of_recorded (option_map (λ (l : LeftRecord). l.end) left) (status_behind waited written))) code old.log new.log
      → NumberOfRun tells setup code conf (record { lasts = lasts; last = last; recorded = left }) old new
  number conf lasts last left stop.Done waited written cause recorded attends writes told = recorded_so conf lasts last waited written cause attends writes left recorded told
  number conf lasts last left stop.NetFault waited written cause recorded attends writes told =
      numbered conf (record { lasts = lasts; last = last; recorded = left }) status.NetFault (λ is. inr (inl (is, cause))) told
  number conf lasts last left stop.LogFault waited written cause recorded attends writes told = unlogged conf (record { lasts = lasts; last = last; recorded = left }) told.0 (inl cause)
  number conf lasts last left stop.Worn waited written cause recorded attends writes told =
      numbered conf (record { lasts = lasts; last = last; recorded = left }) status.Worn (λ is. inr (inr (inr (inr (inr (inr (inl (is, cause)))))))) told
  number conf lasts last left stop.OutOfMemory waited written cause recorded attends writes told =
      numbered conf (record { lasts = lasts; last = last; recorded = left }) status.NoMemory (λ is. inr (inr (inl is))) told

  pub node_obeys : (ending : Result Ran NodeFault) → NodeEnds tells ending setup old new → Tells (status_of_node ending) code old.log new.log → ObeysNodeLaw tells setup code old new
  node_obeys (Ok ran) (conf, taken, runs) told =
      let line = stat_line setup runs.last.seen in
      inr (record {
        stop = ran.stop;
        conf = conf;
        given = runs.given;
        lasts = runs.lasts;
        last = runs.last;
        works = runs.works;
        lawful = runs.works.lawful;
        front = front_written ran.written line old.sink new.sink runs.line;
        whole = whole_written ran.written line old.sink new.sink runs.line;
        left = runs.left;
        journal = runs.journal;
        number =
            number conf runs.lasts runs.last runs.left ran.stop ran.waited ran.written runs.works.causes runs.journal.causes runs.attends runs.line
            (subst (λ (r : Option RecordEnd). Tells (status_of_stop ran.stop (status_of_recorded r (status_behind ran.waited ran.written))) code old.log new.log) runs.recorded told);
      })
  node_obeys (Err why) (stays, nothing) told = inl (record { why = why; cause = stays; nothing = nothing; told = told })
