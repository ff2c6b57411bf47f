-- The numbers where no node was run: for `line_is_of_a_history`.
use Rattle.std.proofs.Common.{◌≡◌, ◌∙◌, ◌⊎◌, ℕ, List, Option, Bool, true, false, inl, inr, refl, sym, ap}
use Rattle.std.specs.Prelude.{◌==◌, if◌then◌else◌}
use Rattle.ldm_types.specs.declared.signature.Signature.{Signature}
use Rattle.ldm_outside.specs.Io.{WritesFront}
use Rattle.ldm_outside.specs.Station.{StationRecord}
use Rattle.ldm_model.specs.declared.event.Entry.{Entry}
use Rattle.ldm_model.specs.Lawful.{IsLawful}
use Rattle.ldm_shared.specs.declared.fault.CreateFault.TheVariants as queue
use Rattle.ldm_shared.specs.Passes.{PassView}
use Rattle.ldm_conf.specs.Confs.{ConfView}
use Rattle.ldm_command_files.specs.declared.conf_file.ConfNotTaken.TheVariants as untaken
use Rattle.ldm_status.specs.Status.{code_of}
use Rattle.ldm_node.specs.declared.stop.NodeStop.{NodeStop}
use Rattle.ldm_node_command.specs.declared.commands.StartFault.TheVariants as start
use Rattle.ldm_node_command.specs.declared.ending.NodeFault.{NodeFault}
use Rattle.ldm_node_command.specs.declared.ending.NodeFault.TheVariants.{NotTaken, NotMade, NotRestored, NotListening, NotStarted}
use Rattle.ldm_node_command.specs.declared.listening.ListenFault.TheVariants as listen
use Rattle.ldm_node_command.specs.Law.{NodeWritesNothing, ObeysNodeLaw}
use Rattle.ldm_node_command.specs.Node.{Works, stat_line}
use Rattle.ldm_node_command.specs.Outside.{Outside}
use Rattle.ldm_node_command.specs.Setup.{Setup}
use Rattle.ldm_journal.specs.declared.fault.JournalFault.{JournalFault}
use Rattle.ldm_journal.specs.declared.fault.JournalFault.TheVariants as journal
use Rattle.ldm_node_command.specs.declared.restoring.RestoreFault.TheVariants as restoring
use Rattle.ldm_node_command.specs.Statuses.{status_of_fault, status_of_journal}

-- the numbers of a node whose line was written, whole or in part
abbrev HasLine : ℕ → Type 0
HasLine code = (code ≡ 0) ⊎ (code ≡ 75)

-- whether a number is none of them
is_other : ℕ → Bool
is_other code = if code == 0 then false else (if code == 75 then false else true)

-- no fault of a journal has one of them
journal_other : (why : JournalFault) → is_other (code_of (status_of_journal why)) ≡ true
unfolding is_other
journal_other journal.NotAJournal = refl
journal_other journal.OtherRing = refl
journal_other journal.OtherLength = refl
journal_other journal.BadHead = refl
journal_other journal.BadRecord = refl
journal_other journal.DiskFault = refl
journal_other journal.OutOfMemory = refl

-- no fault has one of them
fault_other : (why : NodeFault) → is_other (code_of (status_of_fault why)) ≡ true
unfolding is_other
fault_other (NotTaken (untaken.Bad fault)) = refl
fault_other (NotTaken untaken.Store) = refl
fault_other (NotTaken untaken.OutOfMemory) = refl
fault_other (NotMade (queue.BadArena arena)) = refl
fault_other (NotMade (queue.BadSlots slots)) = refl
fault_other (NotMade (queue.BadPasses passes)) = refl
fault_other (NotMade queue.OutOfMemory) = refl
fault_other (NotRestored restoring.NoDesk) = refl
fault_other (NotRestored restoring.OutOfMemory) = refl
fault_other (NotRestored restoring.NotAttached) = refl
fault_other (NotRestored (restoring.NotOpened why)) = journal_other why
fault_other (NotRestored (restoring.NotRead why)) = journal_other why
fault_other (NotRestored restoring.Worn) = refl
fault_other (NotRestored restoring.AllBusy) = refl
fault_other (NotListening listen.Failed) = refl
fault_other (NotListening listen.OutOfMemory) = refl
fault_other (NotStarted start.Failed) = refl
fault_other (NotStarted start.OutOfMemory) = refl

not_other : (code : ℕ) → HasLine code → is_other code ≡ false
unfolding is_other
not_other code (inl done) = ap is_other done
not_other code (inr cut) = ap is_other cut

log_failed : (code : ℕ) → code ≡ 76 → is_other code ≡ true
unfolding is_other
log_failed code is = ap is_other is

module _ {S : Type 0} (tells : S → StationRecord) (setup : Setup) (code : ℕ) (old new : Outside S) where
  none_run : HasLine code → NodeWritesNothing tells setup code old new → ⊥
  none_run has nothing = elim nothing.told.2 [
    | inl told ↦ (let no : false ≡ true = sym (not_other code has) ∙ ap is_other told.0 ∙ fault_other nothing.why in cc no)
    | inr failed ↦ (let no : false ≡ true = sym (not_other code has) ∙ log_failed code failed.0 in cc no)
  ]

  pub line_written : HasLine code → ObeysNodeLaw tells setup code old new
      → (history : List Entry)
      × (IsLawful setup.arena setup.slots history
      × WritesFront old.sink (stat_line setup history) new.sink
      × ((conf : ConfView) × (given : List S) × (lasts : List (Option Signature)) × (last : PassView) × (stop : NodeStop) × (last.seen ≡ history)
      × Works tells setup conf lasts given (record { pass = last; stations = new.kept; end = stop })))
  line_written has (inl nothing) = absurd (none_run has nothing)
  line_written has (inr run) = (run.last.seen, (run.lawful, run.front, (run.conf, run.given, run.lasts, run.last, run.stop, refl, run.works)))
