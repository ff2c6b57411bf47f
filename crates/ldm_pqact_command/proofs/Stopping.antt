-- A handler that stopped a gathering knows why.
use Rattle.std.proofs.Common.{◌≡◌, Option, Some, None, IsSome, inl, inr, ◌⊎◌, false, refl, sym, subst}
use Rattle.ldm_outside.specs.Launcher.{LauncherRecord}
use Rattle.ldm_outside.specs.Store.{StoreRecord}
use Rattle.ldm_intake.specs.Receiving.{Receiving}
use Rattle.ldm_downstream.specs.ReceiverView.{before_stream}
use Rattle.ldm_gather.specs.declared.end.GatherEnd.{GatherEnd}
use Rattle.ldm_gather.specs.declared.end.GatherEnd.TheVariants as end
use Rattle.ldm_gather.specs.declared.end.Handled.TheVariants as handled
use Rattle.ldm_gather.specs.Gathering.{Asks, BeginsNot, GathersAll}
use Rattle.ldm_gather.specs.Scene.{Lent, GatherMoment, moment_of}
use Rattle.ldm_pqact.specs.declared.end.ActEnd.{ActEnd}
use Rattle.ldm_pqact_command.specs.declared.stop.ActStop.{ActStop}
use Rattle.ldm_pqact_command.specs.ActerView.{ActerView}
use Rattle.ldm_pqact_command.specs.Handling.{ActHandles, EndsFor}
use Rattle.ldm_pqact_command.specs.Statuses.{IfStopped}

known : (why : Option ActStop) (ended : ActEnd) → EndsFor handled.Stopped why ended → IsSome why
known why ended stopped = subst (λ (w : Option ActStop). IsSome w) (sym stopped.1) refl

module _ {F L : Type 0} (store_tells : F → StoreRecord) (launcher_tells : L → LauncherRecord) where
  abbrev At : Type 0
  At = GatherMoment ActerView F L

  by_begin : (old new : At) → Asks (ActHandles store_tells launcher_tells) end.Stopped old new ⊎ BeginsNot (ActHandles store_tells launcher_tells) end.Stopped old new
      → IsSome new.scene.handler.why
  by_begin old new (inl asks) =
      known new.scene.handler.why _ asks.gathers.ends.takes.handles_it.handled.ends
  by_begin old new (inr not) = absurd not

  pub stopped_why : (e : GatherEnd) (s : Receiving) (old new : Lent ActerView F L) → GathersAll (ActHandles store_tells launcher_tells) e s old new
      → IfStopped e (IsSome new.scene.handler.why)
  stopped_why (end.Received received) s old new all = tt
  stopped_why end.Enough s old new all = tt
  stopped_why end.Stopped s old new all = by_begin (moment_of (before_stream s false) old) (moment_of all.receiver new) all.gathers
