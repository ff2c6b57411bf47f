-- What a whole gathering does to the outputs, the store and the launcher: no count falls, and what is kept is of this store and launcher still.
use Rattle.std.proofs.Common.{◌≡◌, ℕ, zero, suc, ◌≤◌, List, [], ◌∷◌, Some, None, Option, inl, inr, refl, ap, arith}
use Rattle.ldm_outside.specs.Count.{Rose}
use Rattle.ldm_outside.specs.Dial.{DialRecord, DialTakesBack}
use Rattle.ldm_outside.specs.Launcher.{LauncherRecord}
use Rattle.ldm_outside.specs.Lending.{CountsBack}
use Rattle.ldm_outside.specs.Link.{LinkRecord}
use Rattle.ldm_outside.specs.Store.{StoreRecord}
use Rattle.ldm_actions.specs.declared.answers.Done.{Done}
use Rattle.ldm_actions.specs.declared.answers.Done.TheVariants as done
use Rattle.ldm_actions.specs.declared.answers.Fault.{Fault}
use Rattle.ldm_actions.specs.declared.answers.Fault.TheVariants as fault
use Rattle.ldm_actions.specs.Effects.{Action}
use Rattle.ldm_actions.specs.Outputs.{Closes, ClosesBy, KeepsUnlessSpent, Standing, standing}
use Rattle.ldm_intake.specs.Receiving.{Receiving}
use Rattle.ldm_gather.specs.declared.end.GatherEnd.{GatherEnd}
use Rattle.ldm_gather.specs.declared.end.GatherEnd.TheVariants as gather_end
use Rattle.ldm_gather.specs.declared.end.Handled.{Handled}
use Rattle.ldm_gather.specs.Gathering.{GathersAll}
use Rattle.ldm_gather.specs.Orders.{OrderView}
use Rattle.ldm_gather.specs.Runs.{ReachesNot, Situation}
use Rattle.ldm_gather.specs.Scene.{Lent, Scene}
use Rattle.ldm_pqact.specs.declared.end.ActEnd.{ActEnd}
use Rattle.ldm_pqact.specs.declared.end.ActEnd.TheVariants as end
use Rattle.ldm_pqact.specs.Acting.{EndsSo, Sight}
use Rattle.ldm_pqact.specs.Carried.{DoesBy, Faulted, LauncherCount, StoreCount}
use Rattle.ldm_pqact.specs.Work.{Parted}
use Rattle.ldm_pqact_command.specs.ActerView.{ActerView}
use Rattle.ldm_pqact_command.specs.Handling.{ActHandles, standing_in}
use Rattle.ldm_pqact_command.specs.State.{KeepsLast, KeepsState}
use Rattle.ldm_pqact_command.proofs.Carried.{Parts, gathered_leads, parts_of}

-- ---- counts

pub rose_le : (old new : ℕ) → Rose old new → old ≤ new
rose_le old new (inl rose) = omega arith
rose_le old new (inr still) = omega (arith, still.0, still.1)

faulted_le : (why : Fault) (count count' : ℕ) (old new : Standing) → (new ≡ old → count' ≡ count) → Faulted why count count' old new → count ≤ count'
faulted_le why count count' old new same (inl rose) = rose_le count count' rose
faulted_le why count count' old new same (inr spent) = omega (arith, same spent.1)

store_le : (why : ActEnd) (old new : Standing) → StoreCount why old new → old.store.faults ≤ new.store.faults
store_le end.StoreFault old new count = faulted_le fault.Store old.store.faults new.store.faults old new (λ is. ap (λ (s : Standing). s.store.faults) is) count
store_le why old new count = omega (arith, count)

launcher_le : (why : ActEnd) (old new : Standing) → LauncherCount why old new → old.launcher.faults ≤ new.launcher.faults
launcher_le end.LaunchFault old new count =
    faulted_le fault.Launch old.launcher.faults new.launcher.faults old new (λ is. ap (λ (s : Standing). s.launcher.faults) is) count
launcher_le why old new count = omega (arith, count)

back_le : (of_link old new : ℕ) → CountsBack of_link old new → old ≤ new
back_le zero old new counts = omega (arith, counts.kept refl)
back_le (suc n) old new counts = rose_le old new (counts.rose (omega arith))

-- no count of a dial fell that a link was given back to
pub record CountsNet (old new : DialRecord) : Type 0 where
  pub net : old.faults ≤ new.faults
  pub ended : old.links.ended ≤ new.links.ended
  pub failed : old.links.failed ≤ new.links.failed

pub back_count : (link : LinkRecord) (old new : DialRecord) → DialTakesBack link old new → CountsNet old new
back_count link old new takes = record {
  net = omega (arith, ap (λ (d : DialRecord). d.faults) takes.1);
  ended = back_le link.ends old.links.ended new.links.ended takes.0.ended;
  failed = back_le link.faults old.links.failed new.links.failed takes.0.failed;
}

-- no count of the store and of the launcher fell
pub record Counted (old new : Standing) : Type 0 where
  pub store : old.store.faults ≤ new.store.faults
  pub launcher : old.launcher.faults ≤ new.launcher.faults

acts_count : (why : ActEnd) (k : ℕ) (work : Parted) (old new : Sight) → EndsSo why k work old new → Counted old.standing new.standing
acts_count end.Stopped k work old new ends =
    record { store = omega (arith, ends.0.carried.store_faults); launcher = omega (arith, ends.0.carried.launcher_faults) }
acts_count why k work old new ends = record {
  store = store_le why old.standing new.standing ends.carried.store_count;
  launcher = launcher_le why old.standing new.standing ends.carried.launcher_count;
}

pub closes_count : (answer : Done) (old new : Standing) → Closes answer old new → Counted old new
closes_count answer old new closes = by_spent old.outputs.spent answer closes
  where
    by_spent : (spent : Option Fault) (answer : Done) → ClosesBy spent answer old new → Counted old new
    by_spent (Some fault) answer closes =
        record { store = omega (arith, ap (λ (s : Standing). s.store.faults) closes.1); launcher = omega (arith, ap (λ (s : Standing). s.launcher.faults) closes.1) }
    by_spent None done.Ok closes = record { store = omega (arith, closes.0.0.store_faults); launcher = omega (arith, closes.0.0.launcher_faults) }
    by_spent None done.StoreFault closes = record {
      store = rose_le old.store.faults new.store.faults closes.0.rose;
      launcher = omega (arith, ap (λ (l : LauncherRecord). l.faults) closes.0.launcher);
    }
    by_spent None done.LaunchFault closes = record {
      store = omega (arith, closes.0.store_faults);
      launcher = rose_le old.launcher.faults new.launcher.faults closes.0.rose;
    }

-- the actions of the state touched no count but what rose
does_count : (ended : ActEnd) (deeds : List (Action × List ℕ)) (old new : Standing) → DoesBy ended deeds old new → Counted old new
does_count end.Stopped deeds old new does = record { store = omega (arith, does.store_faults); launcher = omega (arith, does.launcher_faults) }
does_count why deeds old new does =
    record { store = store_le why old new does.1.store_count; launcher = launcher_le why old new does.1.launcher_count }

counted_same : (old new : Standing) → new ≡ old → Counted old new
counted_same old new same = record {
  store = omega (arith, ap (λ (s : Standing). s.store.faults) same);
  launcher = omega (arith, ap (λ (s : Standing). s.launcher.faults) same);
}

pub counted_then : (a b c : Standing) → Counted a b → Counted b c → Counted a c
counted_then a b c one two =
    record { store = omega (arith, one.store, two.store); launcher = omega (arith, one.launcher, two.launcher) }

keeps_count : (acted ended : ActEnd) (deeds : List (Action × List ℕ)) (old new : Standing) → KeepsState acted ended deeds old new → Counted old new
keeps_count end.Stopped ended [] old new keeps = counted_same old new keeps.0
keeps_count end.Stopped ended (deed ∷ deeds) old new keeps = does_count ended (deed ∷ deeds) old new keeps
keeps_count acted ended deeds old new keeps = counted_same old new keeps.0

-- the state behind the closing of the outputs
pub last_count : (gathered : GatherEnd) (deeds : List (Action × List ℕ)) (old : Standing) (store : StoreRecord) (launcher : LauncherRecord)
    → KeepsLast gathered deeds old store launcher → (old.store.faults ≤ store.faults) × (old.launcher.faults ≤ launcher.faults)
last_count gather_end.Stopped [] old store launcher keeps =
    (omega (arith, ap (λ (s : StoreRecord). s.faults) keeps.0), omega (arith, ap (λ (l : LauncherRecord). l.faults) keeps.1))
last_count gather_end.Stopped (deed ∷ deeds) old store launcher keeps =
    let counted = does_count keeps.answer (deed ∷ deeds) old (standing keeps.left store launcher) keeps.does in (counted.store, counted.launcher)
last_count gathered deeds old store launcher keeps =
    (omega (arith, ap (λ (s : StoreRecord). s.faults) keeps.0), omega (arith, ap (λ (l : LauncherRecord). l.faults) keeps.1))

-- ---- a gathering

module _ {F L : Type 0} (store_tells : F → StoreRecord) (launcher_tells : L → LauncherRecord) where
  abbrev Side : Type 0
  Side = Parts ActerView F L

  -- the outputs, with the store and the launcher
  abbrev at : Side → Standing
  at side = standing_in store_tells launcher_tells side.handler side.first side.second

  -- no count fell, and what is kept is of this store and launcher still
  pub record Stays (old new : Side) : Type 0 where
    pub counted : Counted (at old) (at new)
    pub keeps : KeepsUnlessSpent (at old) → KeepsUnlessSpent (at new)

  stays_same : (side : Side) → Stays side side
  stays_same side = record { counted = record { store = omega arith; launcher = omega arith }; keeps = λ keeps. keeps }

  stays_then : (a b c : Side) → Stays a b → Stays b c → Stays a c
  stays_then a b c one two = record {
    counted = record { store = omega (arith, one.counted.store, two.counted.store); launcher = omega (arith, one.counted.launcher, two.counted.launcher) };
    keeps = λ keeps. two.keeps (one.keeps keeps);
  }

  stays_handled : (answer : Handled) (old new : Scene ActerView F L) → ActHandles store_tells launcher_tells answer old new → Stays (parts_of old) (parts_of new)
  stays_handled answer old new handles = record {
    counted =
        counted_then (at (parts_of old)) handles.mid (at (parts_of new)) (acts_count handles.acted _ _ _ _ handles.acts.ends)
        (keeps_count handles.acted handles.ended _ handles.mid (at (parts_of new)) handles.keeps_state);
    keeps = λ keeps. handles.keeps;
  }

  pub gathered_stays : (e : GatherEnd) (s : Receiving) (old new : Lent ActerView F L) → GathersAll (ActHandles store_tells launcher_tells) e s old new
      → Stays (parts_of old.scene) (parts_of new.scene)
  gathered_stays e s old new all = gathered_leads (ActHandles store_tells launcher_tells) Stays stays_same stays_then stays_handled e s old new all

  -- where no link was connected they are as they were
  pub unreached_counted : (order : OrderView) (old new : Situation ActerView F L) → ReachesNot order old new → Counted (at (parts_of old.scene)) (at (parts_of new.scene))
  unreached_counted order old new not =
      let same = ap (λ (s : Situation ActerView F L). at (parts_of s.scene)) not.others in
      record { store = omega (arith, ap (λ (s : Standing). s.store.faults) same); launcher = omega (arith, ap (λ (s : Standing). s.launcher.faults) same) }
