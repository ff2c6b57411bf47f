-- A journal into whose file nobody else writes is recorded without a refusal.
use Rattle.std.proofs.Common.{◌≡◌, ◌∙◌, List, ◌∷◌, [], ◌++◌, ℕ, ◌-◌, Option, None, Some, Result, Ok, Err, inl, inr, sym, ap, subst}
use Rattle.ldm_types.specs.declared.signature.Signature.{Signature}
use Rattle.ldm_disk.specs.Told.{FileRecord}
use Rattle.ldm_disk.specs.Desks.{DeskRecord}
use Rattle.ldm_model.specs.State.{State, end_of, queued}
use Rattle.ldm_model.specs.History.{after}
use Rattle.ldm_shared.specs.Passes.{PassView, new_pass}
use Rattle.ldm_journal.specs.declared.journal.Journal.{Journal}
use Rattle.ldm_recorder.specs.declared.end.RecordEnd.{RecordEnd}
use Rattle.ldm_recorder.specs.declared.end.RecordEnd.TheVariants as end
use Rattle.ldm_recorder.specs.Course.{BreaksOffThen, Gated}
use Rattle.ldm_recorder.specs.Finishing.{FinishesBy, MakesUp, silent, turns_left}
use Rattle.ldm_recorder.specs.Numbers.{KnowsLasts}
use Rattle.ldm_recorder.specs.Recording.{Does, Sight, sight_of, who_of}
use Rattle.ldm_recorder.specs.Turns.{CaughtUp, Turn, Who, work_of}
use Rattle.ldm_conf.specs.Confs.{ConfView}
use Rattle.ldm_node.specs.Clerks.{ClerkRecord, Closes, EndsWith, Finishes, LeavesBehind, LeftRecord, Records, with_pass}
use Rattle.ldm_node_command.specs.Node.{Journals}
use Rattle.ldm_node_command.specs.Restoring.{Moment, PutsBack, Reopening, Restored, Wanted}
use Rattle.ldm_node_command.specs.Setup.{Setup}
use Rattle.ldm_node_command.proofs.StillStands.{StandsIn, goes_on_in, not_refused, opened_stands, stays_in}

-- behind what was put back
puts_back_in : (wanted : Wanted) (made : Reopening) (old new : Moment) → PutsBack wanted made old new → StandsIn made.recorder.journal.marks new.disk.file
puts_back_in wanted made old new back =
    subst (λ (journal : Journal). StandsIn journal.marks new.disk.file) (sym back.ready.journal_is)
    (stays_in back.journal.marks back.opened.file new.disk.file back.file
    (opened_stands back.journal.marks wanted.ring back.is_opened.attached.file back.opened.file back.is_opened.opens))

-- behind turns
does_in : (who : Who) (turns : List Turn) (old new : Sight) → Does who turns old new → StandsIn old.marks old.disk.file → StandsIn new.marks new.disk.file
does_in who turns old new does stands = goes_on_in (work_of who turns).events old.marks new.marks old.disk.file new.disk.file does.all.events stands

makes_up_in : (who : Who) (turns : List Turn) (old new : Sight) → MakesUp who turns old new → StandsIn old.marks old.disk.file → StandsIn new.marks new.disk.file
makes_up_in who turns old new does stands =
    goes_on_in (silent (work_of who turns)).events old.marks new.marks old.disk.file new.disk.file does.all.events stands

module _ (file : FileRecord) where
  -- recording did not break off for that
  goes_on : (who : Who) (old new : Gated) → new.sight.disk.file ≡ Some file → StandsIn old.sight.marks old.sight.disk.file → BreaksOffThen end.NotAJournal who old new → ⊥
  goes_on who old new told stands breaks =
      not_refused _ breaks.mid.marks breaks.mid.disk.file new.sight.disk.file file told breaks.stops.part.events
      (does_in who breaks.whole old.sight breaks.mid breaks.does stands) breaks.stops.cause

  -- nor what was left over
  ends_well : (who : Who) (turns : List Turn) (old new : Sight) → new.disk.file ≡ Some file → StandsIn old.marks old.disk.file
      → FinishesBy (Err end.NotAJournal) who turns old new → ⊥
  ends_well who turns old new told stands (log, breaks, tells) =
      not_refused _ breaks.mid.marks breaks.mid.disk.file new.disk.file file told breaks.part.events
      (makes_up_in who breaks.whole old breaks.mid breaks.does stands) breaks.cause

  module _ (left : LeftRecord) (told : left.desk.disk.file ≡ Some file) (is : left.end ≡ end.NotAJournal) where
    -- where the gate had stopped it
    finished : (at : ℕ) (s : State) (pass : PassView) (old : ClerkRecord) → KnowsLasts pass.seen old.recorder
        → StandsIn old.recorder.journal.marks old.desk.disk.file → Finishes at s left.end old left.desk → ⊥
    finished at s pass old knows stands does = (let finishes = does.finishes pass knows in by finishes.0 does.ended does.ends finishes.1)
      where
        by : (lasts : Option (List ℕ)) (ended : Result (Unit {0}) RecordEnd) → EndsWith ended (end.Stopped at) left.end
            → FinishesBy ended (who_of pass old.recorder) (turns_left old.recorder.base (end_of s) at (queued s) ++ CaughtUp (end_of s) lasts ∷ [])
            (sight_of pass old.recorder old.desk.disk old.desk.log) (sight_of pass does.recorder left.desk.disk left.desk.log) → ⊥
        by lasts (Ok done) ends finishes = cc (sym is ∙ ends)
        by lasts (Err failed) ends fails =
            let who = who_of pass old.recorder in
            let turns = turns_left old.recorder.base (end_of s) at (queued s) ++ CaughtUp (end_of s) lasts ∷ [] in
            let before = sight_of pass old.recorder old.desk.disk old.desk.log in
            let behind = sight_of pass does.recorder left.desk.disk left.desk.log in
            ends_well who turns before behind told stands (subst (λ (why : RecordEnd). FinishesBy (Err why) who turns before behind) (sym ends ∙ is) fails)

    closed : (why : RecordEnd) (s : State) (old_pass pass : PassView) (old mid : ClerkRecord) → StandsIn old.recorder.journal.marks old.desk.disk.file
        → Records why old_pass old pass mid → Closes why s left.end mid left.desk → ⊥
    closed (end.Stopped at) s old_pass pass old mid stands records closes =
        finished at s pass mid records.knows
        (does_in (who_of old_pass old.recorder) (records.records.earlier ++ CaughtUp at records.records.lasts ∷ [])
        (sight_of old_pass old.recorder old.desk.disk old.desk.log) (sight_of pass mid.recorder mid.desk.disk mid.desk.log) records.records.does stands) closes
    closed end.NotAJournal s old_pass pass old mid stands records closes =
        goes_on (who_of old_pass old.recorder) (with_pass old_pass old) (with_pass pass mid) (ap (λ (desk : DeskRecord). desk.disk.file) (sym closes.1) ∙ told) stands
        records.records
    closed end.DiskFault s old_pass pass old mid stands records closes = cc (sym is ∙ closes.0)
    closed end.LogFault s old_pass pass old mid stands records closes = cc (sym is ∙ closes.0)
    closed end.Worn s old_pass pass old mid stands records closes = cc (sym is ∙ closes.0)
    closed end.NoNumbers s old_pass pass old mid stands records closes = cc (sym is ∙ closes.0)
    closed end.OutOfMemory s old_pass pass old mid stands records closes = cc (sym is ∙ closes.0)

-- nobody wrote into the file of a journal, where the disk tells it
pub not_changed : (setup : Setup) (conf : ConfView) (lasts : List (Option Signature)) (last : PassView) (left : LeftRecord) (file : FileRecord) → left.desk.disk.file ≡ Some file
    → Journals setup conf lasts last (Some left) → ¬ (left.end ≡ end.NotAJournal)
not_changed setup conf lasts last left file told journal is = by journal.clerk journal.restored journal.recorded
  where
    by : (clerk : Option ClerkRecord) → Restored setup conf (new_pass journal.shared (journal.shared.passes - 1)) journal.pass clerk lasts
        → LeavesBehind last journal.pass clerk (Some left) → ⊥
    by None restored leaves = leaves
    by (Some clerk) restored (inr none) = cc (sym is ∙ none.end)
    by (Some clerk) restored (inl did) =
        closed file left told is did.why (after last.arena last.slots last.seen) journal.pass did.pass clerk did.mid (puts_back_in _ _ _ _ restored.1.back) did.records
        did.closes
