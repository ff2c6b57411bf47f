-- A node that nothing hinders writes its line: for `NodeCompletes`.
use Rattle.std.proofs.Common.{◌≡◌, ◌∙◌, ◌⊎◌, ◌-◌, ℕ, List, [], Option, None, Some, Result, Ok, Err, inl, inr, refl, sym, ap, subst, arith}
use Rattle.std.specs.Prelude.{IfSome}
use Rattle.ldm_types.specs.declared.signature.Signature.{Signature}
use Rattle.ldm_disk.specs.Told.{FileRecord}
use Rattle.ldm_disk.specs.Calls.{FileChanges, KeepsFile}
use Rattle.ldm_disk.specs.Desks.{DeskRecord}
use Rattle.ldm_outside.specs.declared.fault.Failed.{Failed}
use Rattle.ldm_outside.specs.declared.io.SinkFailed.{SinkFailed}
use Rattle.ldm_outside.specs.declared.launcher.ChildNo.{ChildNo}
use Rattle.ldm_outside.specs.Count.{Rose}
use Rattle.ldm_outside.specs.Io.{SinkRecord, WritesAll}
use Rattle.ldm_outside.specs.Launcher.{LauncherRecord}
use Rattle.ldm_outside.specs.Station.{StationRecord}
use Rattle.ldm_shared.specs.Passes.{PassView, new_pass}
use Rattle.ldm_journal.specs.declared.fault.JournalFault.{JournalFault}
use Rattle.ldm_journal.specs.declared.fault.JournalFault.TheVariants as journal
use Rattle.ldm_journal.specs.declared.marks.Marks.{Marks}
use Rattle.ldm_journal.specs.Records.{Kept}
use Rattle.ldm_journal.specs.Format.{Holds}
use Rattle.ldm_journal.specs.Opening.{IsRefused}
use Rattle.ldm_journal.specs.Standing.{Stands}
use Rattle.ldm_recorder.specs.declared.end.RecordEnd.TheVariants as recording
use Rattle.ldm_recorder.specs.declared.end.RestoreEnd.TheVariants as restoring_end
use Rattle.ldm_recorder.specs.Restoring.{AreOfKept, IsOfOutside}
use Rattle.ldm_conf.specs.Confs.{ConfView}
use Rattle.ldm_shared.specs.declared.fault.CreateFault.{CreateFault}
use Rattle.ldm_shared.specs.declared.fault.CreateFault.TheVariants as queue
use Rattle.ldm_shared.specs.Limits.{IsFaultOf, IsGoodPasses}
use Rattle.ldm_command_files.specs.ConfFiles.{status_of_conf}
use Rattle.ldm_status.specs.declared.status.Status.{Status}
use Rattle.ldm_status.specs.declared.status.Status.TheVariants as status
use Rattle.ldm_status.specs.Status.{ReportsBecause, code_of}
use Rattle.ldm_node.specs.declared.stop.NodeStop.{NodeStop}
use Rattle.ldm_node.specs.declared.stop.NodeStop.TheVariants as stop
use Rattle.ldm_node_command.specs.declared.commands.StartFault.TheVariants as start
use Rattle.ldm_node_command.specs.declared.ending.NodeFault.{NodeFault}
use Rattle.ldm_node_command.specs.declared.ending.NodeFault.TheVariants.{NotTaken, NotMade, NotRestored, NotListening, NotStarted}
use Rattle.ldm_node_command.specs.declared.ending.Ran.{Ran}
use Rattle.ldm_node_command.specs.declared.listening.ListenFault.TheVariants as listen
use Rattle.ldm_node_command.specs.Commands.{WaitsForAll, numbers_from, with_commands}
use Rattle.ldm_node_command.specs.declared.restoring.RestoreFault.{RestoreFault}
use Rattle.ldm_node_command.specs.declared.restoring.RestoreFault.TheVariants as restoring
use Rattle.ldm_node_command.specs.declared.statuses.TheConstants.{RECORDS}
use Rattle.ldm_node_command.specs.Complete.{IsDeskUnhindered, NodeUnhindered}
use Rattle.ldm_node_command.specs.Ending.{NodeEnds, StaysIdle, Takes}
use Rattle.ldm_node_command.specs.Node.{Journals, RunsNode, stat_line}
use Rattle.ldm_node_command.specs.Restoring.{FailsAtDesk, FailsToRestore, HasJournal, NetRecord, Restored, restored_net}
use Rattle.ldm_node_command.specs.Outside.{Outside}
use Rattle.ldm_node_command.specs.Setup.{Setup, passes_for}
use Rattle.std.specs.Option.{option_map}
use Rattle.ldm_recorder.specs.declared.end.RecordEnd.{RecordEnd}
use Rattle.ldm_node.specs.Clerks.{ClerkRecord, LeavesBehind, LeftRecord, RecordCause}
use Rattle.ldm_node_command.proofs.Journaling.{none_left}
use Rattle.ldm_node_command.specs.Statuses.{Tells, status_behind, status_of_fault, status_of_journal, status_of_node, status_of_queue, status_of_recorded, status_of_recording, status_of_restoring, status_of_stop}
use Rattle.ldm_node_command.proofs.StillStands.{StandsIn, opened_stands}
use Rattle.ldm_node_command.proofs.Unchanged.{not_changed}
use Rattle.ldm_node_command.proofs.CommandLemmas.{faults-with_commands, faults-with_waits}
use Rattle.ldm_node_command.proofs.ConfLemmas.{takes_none}

-- how a node may end nonetheless: the numbers of its journal may be used up
abbrev EndsWell : Setup → Option Status → Type 0
EndsWell setup ending =
    (ending ≡ Some status.Done) ⊎ ((ending ≡ Some status.NoMemory) ⊎ ((ending ≡ Some status.Worn) ⊎ ((ending ≡ Some (status.BadImage RECORDS)) × HasJournal setup)))

-- and why none may be run
abbrev IsIdleWell : Status → Type 0
IsIdleWell ending = (ending ≡ status.NoMemory) ⊎ (ending ≡ status.Worn)

-- a count that is 0 did not rise
unrisen : (old new : ℕ) → new ≡ 0 → ¬ (Rose old new)
unrisen old new none (inl less) = omega (arith, none, less)
unrisen old new none (inr still) = omega (arith, none, still.1)

-- a status that is reported has its number
reported_code : (ending : Status) (code : ℕ) (old new : SinkRecord) → ¬ (Rose old.faults new.faults) → ReportsBecause ending code old new → code ≡ code_of ending
reported_code ending code old new works (reason, is_reason, inl reported) = reported.0
reported_code ending code old new works (reason, is_reason, inr failed) = absurd (works failed.1)

-- a status that is told has its number
told_code : (ending : Status) (code : ℕ) (old new : SinkRecord) → ¬ (Rose old.faults new.faults) → (told : Option Status) → told ≡ Some ending → Tells told code old new → code ≡ code_of ending
told_code ending code old new works told is tells = reported_code ending code old new works (subst (λ (o : Option Status). Tells o code old new) is tells)

good_stop : (setup : Setup) (why : NodeStop) (behind : Option Status) → EndsWell setup behind → (why ≡ stop.Done) ⊎ ((why ≡ stop.Worn) ⊎ (why ≡ stop.OutOfMemory))
    → EndsWell setup (status_of_stop why behind)
good_stop setup why behind well (inl done) = subst (λ (w : NodeStop). EndsWell setup (status_of_stop w behind)) (sym done) well
good_stop setup why behind well (inr (inl worn)) = inr (inr (inl (ap (λ (w : NodeStop). status_of_stop w behind) worn)))
good_stop setup why behind well (inr (inr no_memory)) = inr (inl (ap (λ (w : NodeStop). status_of_stop w behind) no_memory))

-- where neither the launcher nor the sink failed, a node that is done ends as done
good_behind : (waited : Result (Unit {0}) Failed) (written : Result (Unit {0}) SinkFailed) (children : List ChildNo) (line : List ℕ) (old_launcher new_launcher : LauncherRecord)
    (old_sink new_sink : SinkRecord)
    → ¬ (Rose old_launcher.faults new_launcher.faults) → ¬ (Rose old_sink.faults new_sink.faults)
    → WaitsForAll waited children old_launcher new_launcher → WritesAll written line old_sink new_sink → status_behind waited written ≡ status.Done
good_behind (Err failed) written children line old_launcher new_launcher old_sink new_sink launcher_works sink_works fails writes =
    absurd (launcher_works (subst (λ (n : ℕ). Rose n new_launcher.faults) (faults-with_waits fails.waited old_launcher) fails.fails.0))
good_behind (Ok done) (Err failed) children line old_launcher new_launcher old_sink new_sink launcher_works sink_works waits breaks = absurd (sink_works breaks.0)
good_behind (Ok done) (Ok whole) children line old_launcher new_launcher old_sink new_sink launcher_works sink_works waits writes = refl

-- ---- the journal

-- a file that is a journal, or empty, was not refused
not_refused_file : (ring : ℕ) (old new : Option FileRecord) (file : FileRecord) → new ≡ Some file
    → (file.bytes ≡ []) ⊎ ((kept : List Kept) × (note : List ℕ) × Holds ring kept note file.bytes) → FileChanges (IsRefused ring) old new → ⊥
not_refused_file ring None None file told is refused = cc told
not_refused_file ring None (Some new) file told is refused = refused
not_refused_file ring (Some old) None file told is refused = refused
not_refused_file ring (Some old) (Some new) file told is refused =
    let same : file ≡ new = cc told in
    let bytes : file.bytes ≡ old.bytes = ap (λ (f : FileRecord). f.bytes) same ∙ refused.stays.bytes in
    elim is [
      | inl empty ↦ refused.not_empty (sym bytes ∙ empty)
      | inr found ↦ refused.none found.0 found.1 (subst (λ (b : List ℕ). Holds ring found.0 found.1 b) bytes found.2)
    ]

-- what an open journal keeps is read, but for a fault of the disk or want of memory
of_outside : (why : JournalFault) (marks : Marks) (products : List Kept) (old new : Option FileRecord) (file : FileRecord) → new ≡ Some file → FileChanges KeepsFile old new
    → StandsIn marks old
    → IfSome old (λ f. (kept appended : List Kept) → Stands marks kept appended f → AreOfKept (restoring_end.NotRead why) products kept) → IsOfOutside why
of_outside why marks products (Some old) new file told keeps stands reads = (reads stands.0 stands.1 stands.2).0
of_outside why marks products None (Some new) file told keeps stands reads = absurd keeps
of_outside why marks products None None file told keeps stands reads = absurd (cc told)

module _ (setup : Setup) (conf : ConfView) (old_pass : PassView) (old new : NetRecord) where
  -- the desk at which it failed
  module _ (why : RestoreFault) (works : IfSome new.desk (IsDeskUnhindered setup.arena)) (fails : FailsAtDesk setup conf why old_pass old new) where
    desk_works : IsDeskUnhindered setup.arena fails.left
    desk_works = subst (λ (desk : Option DeskRecord). IfSome desk (IsDeskUnhindered setup.arena)) fails.kept works

  refused_at : (fault : JournalFault) → IfSome new.desk (IsDeskUnhindered setup.arena) → FailsAtDesk setup conf (restoring.NotOpened fault) old_pass old new
      → IsIdleWell (status_of_journal fault)
  refused_at journal.DiskFault works fails =
      absurd (unrisen fails.puts.0.faults fails.left.disk.faults (desk_works (restoring.NotOpened journal.DiskFault) works fails).disk_works fails.puts.3)
  refused_at journal.OutOfMemory works fails = inl refl
  refused_at journal.NotAJournal works fails =
      let desk = desk_works (restoring.NotOpened journal.NotAJournal) works fails in
      absurd (not_refused_file setup.arena fails.puts.0.file fails.left.disk.file desk.file desk.told desk.is_journal fails.puts.2)
  refused_at journal.OtherRing works fails =
      let desk = desk_works (restoring.NotOpened journal.OtherRing) works fails in
      absurd (not_refused_file setup.arena fails.puts.0.file fails.left.disk.file desk.file desk.told desk.is_journal fails.puts.2)
  refused_at journal.OtherLength works fails =
      let desk = desk_works (restoring.NotOpened journal.OtherLength) works fails in
      absurd (not_refused_file setup.arena fails.puts.0.file fails.left.disk.file desk.file desk.told desk.is_journal fails.puts.2)
  refused_at journal.BadHead works fails =
      let desk = desk_works (restoring.NotOpened journal.BadHead) works fails in
      absurd (not_refused_file setup.arena fails.puts.0.file fails.left.disk.file desk.file desk.told desk.is_journal fails.puts.2)
  refused_at journal.BadRecord works fails =
      let desk = desk_works (restoring.NotOpened journal.BadRecord) works fails in
      absurd (not_refused_file setup.arena fails.puts.0.file fails.left.disk.file desk.file desk.told desk.is_journal fails.puts.2)

  outside_at : (fault : JournalFault) → IfSome new.desk (IsDeskUnhindered setup.arena) → FailsAtDesk setup conf (restoring.NotRead fault) old_pass old new → IsOfOutside fault
  outside_at fault works fails =
      let desk = desk_works (restoring.NotRead fault) works fails in
      let front = fails.puts in
      of_outside fault front.marks _ front.opened.file fails.left.disk.file desk.file desk.told front.file
      (opened_stands front.marks setup.arena front.is_opened.attached.file front.opened.file front.is_opened.opens) front.restores.products

  unread_at : (fault : JournalFault) → IfSome new.desk (IsDeskUnhindered setup.arena) → FailsAtDesk setup conf (restoring.NotRead fault) old_pass old new
      → IsIdleWell (status_of_journal fault)
  unread_at journal.DiskFault works fails =
      absurd (unrisen fails.puts.opened.faults fails.left.disk.faults (desk_works (restoring.NotRead journal.DiskFault) works fails).disk_works fails.puts.fault)
  unread_at journal.OutOfMemory works fails = inl refl
  unread_at journal.NotAJournal works fails = absurd (outside_at journal.NotAJournal works fails)
  unread_at journal.OtherRing works fails = absurd (outside_at journal.OtherRing works fails)
  unread_at journal.OtherLength works fails = absurd (outside_at journal.OtherLength works fails)
  unread_at journal.BadHead works fails = absurd (outside_at journal.BadHead works fails)
  unread_at journal.BadRecord works fails = absurd (outside_at journal.BadRecord works fails)

  -- why it was not put back nonetheless
  unrestored : (why : RestoreFault) → ¬ (Rose old.net.faults new.net.faults) → IfSome new.desk (IsDeskUnhindered setup.arena)
      → FailsToRestore setup conf why old_pass old new → IsIdleWell (status_of_restoring why)
  unrestored restoring.NoDesk net_works works fails = absurd (net_works fails.0)
  unrestored restoring.OutOfMemory net_works works fails = inl refl
  unrestored restoring.NotAttached net_works works fails =
      absurd (unrisen fails.given.disk.faults fails.left.disk.faults (desk_works restoring.NotAttached works fails).disk_works fails.puts.0)
  unrestored (restoring.NotOpened fault) net_works works fails = refused_at fault works fails
  unrestored (restoring.NotRead fault) net_works works fails = unread_at fault works fails
  unrestored restoring.Worn net_works works fails = inr refl
  unrestored restoring.AllBusy net_works works fails = inl refl

-- a node that recorded has a journal
has_journal : (setup : Setup) (conf : ConfView) (lasts : List (Option Signature)) (last : PassView) (left : LeftRecord) → Journals setup conf lasts last (Some left) → HasJournal setup
has_journal setup conf lasts last left journal = by journal.clerk journal.restored journal.recorded
  where
    by : (clerk : Option ClerkRecord) → Restored setup conf (new_pass journal.shared (journal.shared.passes - 1)) journal.pass clerk lasts
        → LeavesBehind last journal.pass clerk (Some left) → HasJournal setup
    by None restored leaves = absurd leaves
    by (Some clerk) restored leaves = restored.0

module _ (setup : Setup) (conf : ConfView) (lasts : List (Option Signature)) (last : PassView) where
  -- how recording ended nonetheless
  recorded_by : (left : LeftRecord) (why : RecordEnd) → left.end ≡ why → IsDeskUnhindered setup.arena left.desk → Journals setup conf lasts last (Some left)
      → RecordCause why left.desk last → EndsWell setup (status_of_recording why status.Done)
  recorded_by left (recording.Stopped at) is works journal cause = inl refl
  recorded_by left recording.DiskFault is works journal cause = (let none = works.disk_works in absurd (omega (arith, none, cause)))
  recorded_by left recording.NotAJournal is works journal cause = absurd (not_changed setup conf lasts last left works.file works.told journal is)
  recorded_by left recording.LogFault is works journal cause = (let none = works.log_works in absurd (omega (arith, none, cause)))
  recorded_by left recording.Worn is works journal cause = inr (inr (inl refl))
  recorded_by left recording.NoNumbers is works journal cause = inr (inr (inr (refl, has_journal setup conf lasts last left journal)))
  recorded_by left recording.OutOfMemory is works journal cause = inr (inl refl)

  recorded_well : (desk : Option DeskRecord) (left : Option LeftRecord) → (setup.journal ≡ None) ⊎ IfSome desk (IsDeskUnhindered setup.arena)
      → IfSome left (λ (l : LeftRecord). desk ≡ Some l.desk) → Journals setup conf lasts last left
      → EndsWell setup (status_of_recorded (option_map (λ (l : LeftRecord). l.end) left) status.Done)
  recorded_well desk None works kept journal = inl refl
  recorded_well desk (Some left) (inl plain) kept journal = (let none : Some left ≡ None = none_left setup conf lasts last plain (Some left) journal in absurd (cc none))
  recorded_well desk (Some left) (inr works) kept journal =
      recorded_by left left.end refl (subst (λ (d : Option DeskRecord). IfSome d (IsDeskUnhindered setup.arena)) kept works) journal journal.causes

module _ {S : Type 0} (tells : S → StationRecord) (setup : Setup) (old new : Outside S) (free : NodeUnhindered tells setup old new) where
  -- what was taken is what the files mean
  same_conf : (conf : ConfView) → Takes conf setup.path old.store new.store → free.conf ≡ conf
  same_conf conf taken = taken.sole free.files free.conf free.told free.reads free.store_works

  good_passes : (conf : ConfView) → Takes conf setup.path old.store new.store → IsGoodPasses (passes_for setup conf)
  good_passes conf taken = subst (λ (c : ConfView). IsGoodPasses (passes_for setup c)) (same_conf conf taken) free.good.passes

  made_for : (fault : CreateFault) (conf : ConfView) → Takes conf setup.path old.store new.store → IsFaultOf setup.arena setup.slots (passes_for setup conf) fault
      → status_of_queue fault ≡ status.NoMemory
  made_for (queue.BadArena arena) conf taken bad = absurd (bad.1 free.good.arena)
  made_for (queue.BadSlots slots) conf taken bad = absurd (bad.2 free.good.slots)
  made_for (queue.BadPasses passes) conf taken bad = absurd (bad.3 (good_passes conf taken))
  made_for queue.OutOfMemory conf taken bad = refl

  -- why no node is run nonetheless
  idle_for : (why : NodeFault) → StaysIdle tells why setup old new → IsIdleWell (status_of_fault why)
  idle_for (NotTaken why) (none, leaves, same) =
      inl (ap status_of_conf (takes_none why setup.path old.store new.store none free.files free.conf free.told free.reads free.store_works))
  idle_for (NotMade fault) (conf, taken, bad, leaves, same) = inl (made_for fault conf taken bad)
  idle_for (NotRestored why) (conf, taken, good, none, port, kept, same) = elim free.journal [
    | inl plain ↦ (let no : None ≡ Some none.journal.0 = sym plain ∙ none.journal.1 in absurd (cc no))
    | inr works ↦
        unrestored setup conf (new_pass none.shared (none.shared.passes - 1)) (restored_net old.net old.desk) (restored_net new.net new.desk) why free.net_works works none.fails
  ]
  idle_for (NotListening listen.Failed) (conf, taken, good, fails, port, kept, same, first) = absurd (free.net_works fails.0)
  idle_for (NotListening listen.OutOfMemory) (conf, taken, good, fails, port, kept, same, first) = inl refl
  idle_for (NotStarted start.Failed) (conf, taken, good, listens, port, stops, first) =
      absurd (free.launcher_works (subst (λ (n : ℕ). Rose n new.launcher.faults) (faults-with_commands stops.started old.launcher) stops.fails.0))
  idle_for (NotStarted start.OutOfMemory) (conf, taken, good, listens, port, stops, first) = inl refl

  ran_well : (ran : Ran) (conf : ConfView) → RunsNode tells ran setup conf old new → EndsWell setup (status_of_node (Ok ran))
  ran_well ran conf runs =
      let started = with_commands conf.commands old.launcher in
      let launcher_works : ¬ (Rose started.faults new.launcher.faults) =
      λ rose. free.launcher_works (subst (λ (n : ℕ). Rose n new.launcher.faults) (faults-with_commands conf.commands old.launcher) rose) in
      let done : status_behind ran.waited ran.written ≡ status.Done =
      good_behind ran.waited ran.written (numbers_from old.launcher.next conf.commands) (stat_line setup runs.last.seen) started new.launcher old.sink new.sink launcher_works free.sink_works
      runs.attends runs.line in
      good_stop setup ran.stop (status_of_recorded ran.recorded (status_behind ran.waited ran.written))
      (subst (λ (recorded : Option RecordEnd). EndsWell setup (status_of_recorded recorded (status_behind ran.waited ran.written))) (sym runs.recorded)
      (subst (λ (behind : Status). EndsWell setup (status_of_recorded (option_map (λ (l : LeftRecord). l.end) runs.left) behind)) (sym done)
      (recorded_well setup conf runs.lasts runs.last new.desk runs.left free.journal runs.desk runs.journal)))
      (runs.works.completes free.stations_work)

  ends_well : (ending : Result Ran NodeFault) → NodeEnds tells ending setup old new → EndsWell setup (status_of_node ending)
  ends_well (Ok ran) (conf, taken, runs) = ran_well ran conf runs
  ends_well (Err why) (stays, idle) = elim (idle_for why stays) [
    | inl no_memory ↦ inr (inl (ap Some no_memory))
    | inr worn ↦ inr (inr (inl (ap Some worn)))
  ]

  pub node_completes : (ending : Result Ran NodeFault) (code : ℕ) → NodeEnds tells ending setup old new → Tells (status_of_node ending) code old.log new.log
      → (code ≡ 0) ⊎ ((code ≡ 71) ⊎ ((code ≡ 77) ⊎ ((code ≡ 65) × HasJournal setup)))
  node_completes ending code ends told = by_end (ends_well ending ends)
    where
      by_end : EndsWell setup (status_of_node ending) → (code ≡ 0) ⊎ ((code ≡ 71) ⊎ ((code ≡ 77) ⊎ ((code ≡ 65) × HasJournal setup)))
      by_end (inl done) = inl (told_code status.Done code old.log new.log free.log_works (status_of_node ending) done told)
      by_end (inr (inl no_memory)) = inr (inl (told_code status.NoMemory code old.log new.log free.log_works (status_of_node ending) no_memory told))
      by_end (inr (inr (inl worn))) = inr (inr (inl (told_code status.Worn code old.log new.log free.log_works (status_of_node ending) worn told)))
      by_end (inr (inr (inr full))) =
          inr (inr (inr (told_code (status.BadImage RECORDS) code old.log new.log free.log_works (status_of_node ending) full.0 told, full.1)))
