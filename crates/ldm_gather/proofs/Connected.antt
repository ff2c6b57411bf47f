-- What was taken by a gathering with its connection.
use Rattle.std.proofs.Common.{ℕ, ◌<◌, Option, Some, None, IsSome, refl, subst, sym}
use Rattle.std.specs.Option.{ForSome}
use Rattle.ldm_gather.specs.declared.each.Each.{Each}
use Rattle.ldm_gather.specs.declared.end.GatherEnd.{GatherEnd}
use Rattle.ldm_gather.specs.declared.end.GatherEnd.TheVariants as gather_end
use Rattle.ldm_gather.specs.declared.taker.EachStop.{EachStop}
use Rattle.ldm_gather.specs.declared.taker.Taken.{Taken}
use Rattle.ldm_shared.specs.Passes.{PassView}
use Rattle.ldm_gather.specs.EachCourse.{Stage}
use Rattle.ldm_gather.specs.EachEnds.{IfStopped}
use Rattle.ldm_gather.specs.EachHandling.{EachHandles}
use Rattle.ldm_gather.specs.EachRuns.{Situation, TakesIf, stage_in, within}
use Rattle.ldm_shared.specs.Givens.{Given}
use Rattle.ldm_gather.specs.Orders.{OrderView, asks_for}
use Rattle.ldm_gather.specs.Runs.{Connects, lends}
use Rattle.ldm_gather.specs.Taking.{Hands}
use Rattle.ldm_gather.proofs.EachGathered.{gathered-all}
use Rattle.ldm_shared.proofs.Using.{RowsStay}

module _ {T A : Type 0} (takes : Taken → Given → Hands T A → Hands T A → Type 0) where
  pub took-if : (law : RowsStay) (gathered : Option GatherEnd) (order : OrderView) (each left : Each T) (first last : PassView) (old new : Situation T A)
      → ForSome each.left (λ n. 0 < n) → Connects (EachHandles takes) gathered order (within each first old) (within left last new)
      → TakesIf takes gathered each.reader.k (stage_in each first old) (stage_in left last new)
  took-if law None order each left first last old new some connects = tt
  took-if law (Some end) order each left first last old new some connects =
      let holds = connects.holds in
      gathered-all takes law end (asks_for order) (lends connects.came (within each first (record old { net = connects.lent }))) (lends holds.left (within left last new)) some
      holds.gathered.gathers

  pub why-if : (gathered : Option GatherEnd) (k : ℕ) (old new : Stage T A) → TakesIf takes gathered k old new → IfStopped gathered (IsSome new.why)
  why-if None k old new took = tt
  why-if (Some (gather_end.Received e)) k old new took = tt
  why-if (Some gather_end.Enough) k old new took = tt
  why-if (Some gather_end.Stopped) k old new took = subst (λ (why : Option EachStop). IsSome why) (sym took.ends.1) refl
