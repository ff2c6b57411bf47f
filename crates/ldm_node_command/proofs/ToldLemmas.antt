-- What a launcher that tells its children tells of a node's commands: for `TellsCommands`.
use Rattle.std.proofs.Common.{◌≡◌, ◌∙◌, ◌⊎◌, ℕ, List, [], ◌∷◌, ◌++◌, length, map, Option, None, Some, Result, Ok, Err, inl, inr, refl, sym, ap, subst, arith}
use Rattle.std.proofs.lemmas.List.{append-nil, map-append}
use Rattle.ldm_outside.specs.declared.fault.Failed.{Failed}
use Rattle.ldm_outside.specs.declared.io.SinkFailed.{SinkFailed}
use Rattle.ldm_outside.specs.declared.launcher.ChildNo.{ChildNo}
use Rattle.ldm_outside.specs.Io.{SinkRecord}
use Rattle.ldm_outside.specs.Launcher.{Child, LauncherRecord}
use Rattle.ldm_outside.specs.Station.{StationRecord}
use Rattle.ldm_conf.specs.Confs.{ConfView}
use Rattle.ldm_shared.specs.declared.fault.CreateFault.TheVariants as queue
use Rattle.ldm_command_files.specs.declared.conf_file.ConfNotTaken.TheVariants as untaken
use Rattle.ldm_status.specs.declared.status.Status.{Status}
use Rattle.ldm_status.specs.declared.status.Status.TheVariants as status
use Rattle.ldm_status.specs.Status.{ReportsBecause, code_of}
use Rattle.ldm_node.specs.declared.stop.NodeStop.{NodeStop}
use Rattle.ldm_node.specs.declared.stop.NodeStop.TheVariants as stop
use Rattle.ldm_node_command.specs.declared.commands.StartFault.TheVariants as start
use Rattle.ldm_node_command.specs.declared.ending.NodeFault.{NodeFault}
use Rattle.ldm_node_command.specs.declared.ending.NodeFault.TheVariants.{NotTaken, NotMade, NotRestored, NotListening, NotStarted}
use Rattle.ldm_node_command.specs.declared.ending.Ran.{Ran}
use Rattle.ldm_node_command.specs.declared.listening.ListenFault.TheVariants as listen
use Rattle.ldm_node_command.specs.Commands.{Words, child_of, with_commands, with_waits}
use Rattle.ldm_node_command.specs.Ending.{NodeEnds, StaysIdle, Takes}
use Rattle.ldm_node_command.specs.Node.{Attends}
use Rattle.ldm_node_command.specs.Outside.{IsIdle, Outside}
use Rattle.ldm_node_command.specs.Setup.{Setup}
use Rattle.ldm_journal.specs.declared.fault.JournalFault.{JournalFault}
use Rattle.ldm_journal.specs.declared.fault.JournalFault.TheVariants as journal
use Rattle.ldm_recorder.specs.declared.end.RecordEnd.{RecordEnd}
use Rattle.ldm_recorder.specs.declared.end.RecordEnd.TheVariants as recording
use Rattle.ldm_node_command.specs.declared.restoring.RestoreFault.TheVariants as restoring
use Rattle.ldm_node_command.specs.declared.statuses.TheConstants.{RECORDS}
use Rattle.ldm_node_command.specs.Statuses.{Tells, status_behind, status_of_fault, status_of_journal, status_of_node, status_of_recorded, status_of_stop}
use Rattle.ldm_node_command.specs.Told.{AreCommands, AreNone, TellsCommands}
use Rattle.ldm_node_command.proofs.ChildLemmas.{all_waited, children-fails, children-with_commands, children-with_waits, first_numbers, waited_of, words_of-child_of, words_of-some, words_of-waited_of}

-- a status with another number than 0 is not told as 0
not_zero : (ending : Status) (code : ℕ) (old new : SinkRecord) → ¬ (code_of ending ≡ 0) → ReportsBecause ending code old new → ¬ (code ≡ 0)
not_zero ending code old new failed (reason, is_reason, inl told) is = failed (sym told.0 ∙ is)
not_zero ending code old new failed (reason, is_reason, inr broken) is = omega (arith, broken.0, is)

-- no fault of a journal has the number 0
journal_code : (why : JournalFault) → ¬ (code_of (status_of_journal why) ≡ 0)
journal_code journal.NotAJournal is = omega (arith, is)
journal_code journal.OtherRing is = omega (arith, is)
journal_code journal.OtherLength is = omega (arith, is)
journal_code journal.BadHead is = omega (arith, is)
journal_code journal.BadRecord is = omega (arith, is)
journal_code journal.DiskFault is = omega (arith, is)
journal_code journal.OutOfMemory is = omega (arith, is)

-- no fault has the number 0
fault_code : (why : NodeFault) → ¬ (code_of (status_of_fault why) ≡ 0)
fault_code (NotTaken (untaken.Bad fault)) is = omega (arith, is)
fault_code (NotTaken untaken.Store) is = omega (arith, is)
fault_code (NotTaken untaken.OutOfMemory) is = omega (arith, is)
fault_code (NotMade (queue.BadArena arena)) is = omega (arith, is)
fault_code (NotMade (queue.BadSlots slots)) is = omega (arith, is)
fault_code (NotMade (queue.BadPasses passes)) is = omega (arith, is)
fault_code (NotMade queue.OutOfMemory) is = omega (arith, is)
fault_code (NotRestored restoring.NoDesk) is = omega (arith, is)
fault_code (NotRestored restoring.OutOfMemory) is = omega (arith, is)
fault_code (NotRestored restoring.NotAttached) is = omega (arith, is)
fault_code (NotRestored (restoring.NotOpened why)) is = journal_code why is
fault_code (NotRestored (restoring.NotRead why)) is = journal_code why is
fault_code (NotRestored restoring.Worn) is = omega (arith, is)
fault_code (NotRestored restoring.AllBusy) is = omega (arith, is)
fault_code (NotListening listen.Failed) is = omega (arith, is)
fault_code (NotListening listen.OutOfMemory) is = omega (arith, is)
fault_code (NotStarted start.Failed) is = omega (arith, is)
fault_code (NotStarted start.OutOfMemory) is = omega (arith, is)

-- nor has a node whose commands were not all waited for
module _ (failed : Failed) (written : Result (Unit {0}) SinkFailed) (code : ℕ) (old new : SinkRecord) where
  unrecorded_code : (recorded : Option RecordEnd) → Tells (status_of_recorded recorded (status_behind (Err failed) written)) code old new → ¬ (code ≡ 0)
  unrecorded_code None told = not_zero status.ChildFault code old new (λ is. omega (arith, is)) told
  unrecorded_code (Some (recording.Stopped at)) told = not_zero status.ChildFault code old new (λ is. omega (arith, is)) told
  unrecorded_code (Some recording.DiskFault) told = not_zero status.StoreFault code old new (λ is. omega (arith, is)) told
  unrecorded_code (Some recording.NotAJournal) told = not_zero (status.BadImage RECORDS) code old new (λ is. omega (arith, is)) told
  unrecorded_code (Some recording.NoNumbers) told = not_zero (status.BadImage RECORDS) code old new (λ is. omega (arith, is)) told
  unrecorded_code (Some recording.LogFault) told = λ is. omega (arith, told.0, is)
  unrecorded_code (Some recording.Worn) told = not_zero status.Worn code old new (λ is. omega (arith, is)) told
  unrecorded_code (Some recording.OutOfMemory) told = not_zero status.NoMemory code old new (λ is. omega (arith, is)) told

  unwaited_code : (why : NodeStop) (recorded : Option RecordEnd) → Tells (status_of_stop why (status_of_recorded recorded (status_behind (Err failed) written))) code old new → ¬ (code ≡ 0)
  unwaited_code stop.Done recorded told = unrecorded_code recorded told
  unwaited_code stop.NetFault recorded told = not_zero status.NetFault code old new (λ is. omega (arith, is)) told
  unwaited_code stop.LogFault recorded told = λ is. omega (arith, told.0, is)
  unwaited_code stop.Worn recorded told = not_zero status.Worn code old new (λ is. omega (arith, is)) told
  unwaited_code stop.OutOfMemory recorded told = not_zero status.NoMemory code old new (λ is. omega (arith, is)) told

module _ {S : Type 0} (tells : S → StationRecord) (setup : Setup) (code : ℕ) (old new : Outside S) (before : List Child) (told : old.launcher.children ≡ Some before)
    (place : length before ≡ old.launcher.next) where
  abbrev Told : Type 0
  Told = (children : List Child) × (new.launcher.children ≡ Some (before ++ children)) × (AreCommands tells setup code children old new ⊎ AreNone code children)

  no_child : new.launcher ≡ old.launcher → new.launcher.children ≡ Some (before ++ [])
  no_child same = ap (λ (l : LauncherRecord). l.children) same ∙ told ∙ ap Some (sym (append-nil before))

  -- no command was started
  none_started : (conf : ConfView) → Takes conf setup.path old.store new.store → new.launcher ≡ old.launcher → IsIdle tells setup.idles old new → ¬ (code ≡ 0) → Told
  none_started conf taken same idle failed = (
    [],
    no_child same,
    inl (record { conf = conf; taken = taken; left = conf.commands; in_order = refl; all = inr idle; waited = λ is. absurd (failed is) }),
  )

  -- no worker worked
  pub idle_of : (why : NodeFault) → StaysIdle tells why setup old new → new.sink ≡ old.sink → IsIdle tells setup.idles old new
  idle_of (NotTaken why) (none, leaves, same) nothing = record { sink = nothing; unused = inl leaves.kept }
  idle_of (NotMade fault) (conf, taken, bad, leaves, same) nothing = record { sink = nothing; unused = inl leaves.kept }
  idle_of (NotRestored why) (conf, taken, good, none, port, kept, same) nothing = record { sink = nothing; unused = inl kept }
  idle_of (NotListening why) (conf, taken, good, fails, port, kept, same, first) nothing = record { sink = nothing; unused = inl kept }
  idle_of (NotStarted why) (conf, taken, good, listens, port, stops, first) nothing = record { sink = nothing; unused = inr listens.are_new }

  pub idle_told : (why : NodeFault) → StaysIdle tells why setup old new → IsIdle tells setup.idles old new → ¬ (code ≡ 0) → Told
  idle_told (NotTaken why) (none, leaves, same) idle failed = ([], no_child same, inr (record { none = refl; failed = failed }))
  idle_told (NotMade fault) (conf, taken, bad, leaves, same) idle failed = none_started conf taken same idle failed
  idle_told (NotRestored why) (conf, taken, good, none, port, kept, same) idle failed = none_started conf taken same idle failed
  idle_told (NotListening why) (conf, taken, good, fails, port, kept, same, first) idle failed = none_started conf taken same idle failed
  idle_told (NotStarted start.Failed) (conf, taken, good, listens, port, stops, first) idle failed = (
    map child_of stops.started,
    children-fails (with_commands stops.started old.launcher) new.launcher stops.fails ∙ children-with_commands stops.started before old.launcher told,
    inl (record {
      conf = conf;
      taken = taken;
      left = stops.failing ∷ stops.left;
      in_order = ap (λ (words : List Words). words ++ stops.failing ∷ stops.left) (words_of-child_of stops.started) ∙ sym stops.in_order;
      all = inr idle;
      waited = λ is. absurd (failed is);
    }),
  )
  idle_told (NotStarted start.OutOfMemory) (conf, taken, good, listens, port, same, first) idle failed = none_started conf taken same idle failed

  -- all commands were started, and waited for as far as this tells
  pub attended : (waited : Result (Unit {0}) Failed) (conf : ConfView) → Takes conf setup.path old.store new.store → Attends waited conf old.launcher new.launcher
      → ((failed : Failed) → waited ≡ Err failed → ¬ (code ≡ 0)) → Told
  attended (Ok done) conf taken waits failed =
      let started = with_commands conf.commands old.launcher in
      let first : started.children ≡ Some (before ++ (map child_of conf.commands ++ [])) =
      children-with_commands conf.commands before old.launcher told ∙ ap (λ (children : List Child). Some (before ++ children)) (sym (append-nil (map child_of conf.commands))) in (
        map waited_of conf.commands,
        ap (λ (l : LauncherRecord). l.children) waits
            ∙ children-with_waits conf.commands before [] old.launcher.next started place first
            ∙ ap (λ (children : List Child). Some (before ++ children)) (append-nil (map waited_of conf.commands)),
        inl (record {
          conf = conf;
          taken = taken;
          left = [];
          in_order = append-nil _ ∙ words_of-waited_of conf.commands;
          all = inl refl;
          waited = λ is. (refl, all_waited conf.commands);
        }),
      )
  attended (Err why) conf taken fails failed =
      let started = with_commands conf.commands old.launcher in
      let parts = first_numbers fails.waited (fails.failing ∷ fails.left) old.launcher.next conf.commands fails.in_order in
      let front = parts.0 in
      let back = parts.1 in
      let first : started.children ≡ Some (before ++ (map child_of front ++ map child_of back)) =
      children-with_commands conf.commands before old.launcher told
      ∙ ap (λ (commands : List Words). Some (before ++ map child_of commands)) parts.2
      ∙ ap (λ (children : List Child). Some (before ++ children)) (map-append child_of front back) in (
        map waited_of front ++ map child_of back,
        children-fails (with_waits fails.waited started) new.launcher fails.fails
            ∙ ap (λ (children : List ChildNo). (with_waits children started).children) parts.3
            ∙ children-with_waits front before (map child_of back) old.launcher.next started place first,
        inl (record {
          conf = conf;
          taken = taken;
          left = [];
          in_order = append-nil _ ∙ words_of-some front back ∙ sym parts.2;
          all = inl refl;
          waited = λ is. absurd (failed why refl is);
        }),
      )

module _ {S : Type 0} (tells : S → StationRecord) (setup : Setup) (code : ℕ) (old new : Outside S) where
  -- the children of every ending
  pub tells_commands : (ending : Result Ran NodeFault) → NodeEnds tells ending setup old new → Tells (status_of_node ending) code old.log new.log → TellsCommands tells setup code old new
  tells_commands (Err why) (stays, nothing) reported before told place =
      idle_told tells setup code old new before told place why stays (idle_of tells setup code old new before told place why stays nothing)
      (not_zero (status_of_fault why) code old.log new.log (fault_code why) reported)
  tells_commands (Ok ran) (conf, taken, runs) reported before told place =
      attended tells setup code old new before told place ran.waited conf taken runs.attends
      (λ failed is. unwaited_code failed ran.written code old.log new.log ran.stop ran.recorded
      (subst (λ (waited : Result (Unit {0}) Failed). Tells (status_of_stop ran.stop (status_of_recorded ran.recorded (status_behind waited ran.written))) code old.log new.log) is
      reported))
