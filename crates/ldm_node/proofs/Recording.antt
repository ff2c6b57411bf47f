-- Why recording ended.
use Rattle.std.proofs.Common.{◌≡◌, ℕ, ◌+◌, ◌<◌, List, [], ◌∷◌, ◌++◌, length, Option, Some, None, Result, Ok, Err, sym, ap, subst, ◌∙◌, inl, inr, arith, length-append}
use Rattle.std.specs.Prelude.{IfSome}
use Rattle.ldm_disk.specs.Desks.{DeskRecord}
use Rattle.ldm_outside.specs.Count.{Rose}
use Rattle.ldm_outside.specs.Gate.{GateRecord}
use Rattle.ldm_model.specs.State.{State, end_of, queued}
use Rattle.ldm_shared.specs.declared.steps.TheConstants.{MOST_TURNS}
use Rattle.ldm_shared.specs.Passes.{HasAllOf, IsLast, PassView, SharedView}
use Rattle.ldm_session.specs.Exchange.{IdledAll}
use Rattle.ldm_recorder.specs.declared.end.RecordEnd.{RecordEnd}
use Rattle.ldm_recorder.specs.declared.end.RecordEnd.TheVariants as end
use Rattle.ldm_recorder.specs.declared.recorder.Recorder.{Recorder}
use Rattle.ldm_recorder.specs.Course.{IfStopped, asks}
use Rattle.ldm_recorder.specs.Finishing.{FinishesBy, turns_left}
use Rattle.ldm_recorder.specs.Numbers.{KnowsLasts}
use Rattle.ldm_recorder.specs.Recording.{sight_of, who_of}
use Rattle.ldm_recorder.specs.Turns.{CaughtUp}
use Rattle.ldm_outside.specs.declared.gate.Go.{Go}
use Rattle.ldm_outside.specs.declared.gate.Go.TheVariants as go
use Rattle.std.specs.List.{flat_map}
use Rattle.ldm_node.specs.Clerks.{ClerkRecord, Closes, EndsWith, Finishes, LeavesBehind, LeftRecord, RecordCause, Records}

-- a count that rose is above 0
positive : (old new : ℕ) → Rose old new → 0 < new
positive old new (inl less) = omega (arith, less)
positive old new (inr stands) = let e = stands.1 in omega (arith, e)

-- the last pass has seen as much as another that has seen all it can
all_seen : (shared : SharedView) (last pass : PassView) → IsLast shared last → HasAllOf last pass → length pass.seen ≡ MOST_TURNS → length last.seen ≡ MOST_TURNS
all_seen shared last pass is_last has_all long =
    let begins = has_all.begins in
    let more : length last.seen ≡ length pass.seen + length begins.0 = ap length (sym begins.1) ∙ length-append pass.seen begins.0 in
    let few = is_last.has_seen.few in
    omega (arith, more, long, few)

-- a gate stopped at the last of these calls
stopped_last : (gos : List Go) (old new : GateRecord) → IdledAll (gos ++ go.Stop ∷ []) old new → 0 < new.stops
stopped_last [] old new idled = subst (λ (gate : GateRecord). 0 < gate.stops) (sym idled.2) (positive old.stops idled.0.stops idled.1.1.0)
stopped_last (one ∷ gos) old new idled = stopped_last gos idled.0 new idled.2

module _ (shared : SharedView) (last : PassView) (is_last : IsLast shared last) where
  -- why a worker stopped to record
  worked_so : (why : RecordEnd) (old_pass pass : PassView) (old new : ClerkRecord) → HasAllOf last pass → Records why old_pass old pass new → RecordCause why new.desk last
  worked_so (end.Stopped at) old_pass pass old new has_all did =
      stopped_last (flat_map asks did.records.earlier) old.desk.gate new.desk.gate did.records.idled
  worked_so end.DiskFault old_pass pass old new has_all did = positive did.records.mid.disk.faults new.desk.disk.faults did.records.stops.cause
  worked_so end.LogFault old_pass pass old new has_all did =
      let rose = positive did.records.mid.log.faults did.records.log.faults did.records.stops.cause in
      let told = did.records.told.faults in
      omega (arith, rose, told)
  worked_so end.Worn old_pass pass old new has_all did = all_seen shared last pass is_last has_all did.records.stops.cause
  worked_so end.NotAJournal old_pass pass old new has_all did = tt
  worked_so end.NoNumbers old_pass pass old new has_all did = tt
  worked_so end.OutOfMemory old_pass pass old new has_all did = tt

  -- and why what was left over was not recorded, with the pass that had recorded
  module _ (pass : PassView) (has_all : HasAllOf last pass) where
    failed_so : (why : RecordEnd) (at : ℕ) (s : State) (old : ClerkRecord) (new : DeskRecord) (recorder : Recorder) (lasts : Option (List ℕ))
        → FinishesBy (Err why) (who_of pass old.recorder) (turns_left old.recorder.base (end_of s) at (queued s) ++ CaughtUp (end_of s) lasts ∷ [])
        (sight_of pass old.recorder old.desk.disk old.desk.log) (sight_of pass recorder new.disk new.log)
        → RecordCause why new last
    failed_so (end.Stopped n) at s old new recorder lasts fails = absurd fails.1.cause
    failed_so end.DiskFault at s old new recorder lasts fails = positive fails.1.mid.disk.faults new.disk.faults fails.1.cause
    failed_so end.LogFault at s old new recorder lasts fails =
        let rose = positive fails.1.mid.log.faults fails.0.faults fails.1.cause in
        let told = fails.2.faults in
        omega (arith, rose, told)
    failed_so end.Worn at s old new recorder lasts fails = all_seen shared last pass is_last has_all fails.1.cause
    failed_so end.NotAJournal at s old new recorder lasts fails = tt
    failed_so end.NoNumbers at s old new recorder lasts fails = tt
    failed_so end.OutOfMemory at s old new recorder lasts fails = tt

    finished_so : (at : ℕ) (s : State) (why : RecordEnd) (old : ClerkRecord) (new : DeskRecord) → KnowsLasts pass.seen old.recorder → Finishes at s why old new
        → 0 < old.desk.gate.stops → RecordCause why new last
    finished_so at s why old new knows does stops = (let finishes = does.finishes pass knows in by finishes.0 does.ended does.ends finishes.1)
      where
        by : (lasts : Option (List ℕ)) (ended : Result (Unit {0}) RecordEnd) → EndsWith ended (end.Stopped at) why
            → FinishesBy ended (who_of pass old.recorder) (turns_left old.recorder.base (end_of s) at (queued s) ++ CaughtUp (end_of s) lasts ∷ [])
            (sight_of pass old.recorder old.desk.disk old.desk.log) (sight_of pass does.recorder new.disk new.log)
            → RecordCause why new last
        by lasts (Ok done) is finishes =
            subst (λ (e : RecordEnd). RecordCause e new last) (sym is) (subst (λ (gate : GateRecord). 0 < gate.stops) (sym does.gate) stops)
        by lasts (Err failed) is fails = subst (λ (e : RecordEnd). RecordCause e new last) (sym is) (failed_so failed at s old new does.recorder lasts fails)

  -- where nothing more was done
  no_more : (why : RecordEnd) (old : ClerkRecord) (left : LeftRecord) → (left.end ≡ why) × (left.desk ≡ old.desk) → RecordCause why old.desk last
      → RecordCause left.end left.desk last
  no_more why old left same cause =
      subst (λ (e : RecordEnd). RecordCause e left.desk last) (sym same.0) (subst (λ (desk : DeskRecord). RecordCause why desk last) (sym same.1) cause)

  closed_so : (why : RecordEnd) (s : State) (pass : PassView) (old : ClerkRecord) (left : LeftRecord) → HasAllOf last pass
      → IfStopped why (λ at. KnowsLasts pass.seen old.recorder) → Closes why s left.end old left.desk → RecordCause why old.desk last
      → RecordCause left.end left.desk last
  closed_so (end.Stopped at) s pass old left has_all knows closes cause = finished_so pass has_all at s left.end old left.desk knows closes cause
  closed_so end.DiskFault s pass old left has_all knows closes cause = no_more end.DiskFault old left closes cause
  closed_so end.NotAJournal s pass old left has_all knows closes cause = no_more end.NotAJournal old left closes cause
  closed_so end.LogFault s pass old left has_all knows closes cause = no_more end.LogFault old left closes cause
  closed_so end.Worn s pass old left has_all knows closes cause = no_more end.Worn old left closes cause
  closed_so end.NoNumbers s pass old left has_all knows closes cause = no_more end.NoNumbers old left closes cause
  closed_so end.OutOfMemory s pass old left has_all knows closes cause = no_more end.OutOfMemory old left closes cause

  -- why recording ended
  pub left_so : (pass : PassView) (clerk : Option ClerkRecord) (left : Option LeftRecord) → LeavesBehind last pass clerk left
      → IfSome left (λ (l : LeftRecord). RecordCause l.end l.desk last)
  left_so pass None None leaves = tt
  left_so pass (Some clerk) (Some left) (inl did) =
      closed_so did.why _ did.pass did.mid left did.has_all did.records.knows did.closes (worked_so did.why pass did.pass clerk did.mid did.has_all did.records)
  left_so pass (Some clerk) (Some left) (inr none) = subst (λ (e : RecordEnd). RecordCause e left.desk last) (sym none.end) tt
  left_so pass None (Some left) leaves = absurd leaves
  left_so pass (Some clerk) None leaves = absurd leaves
