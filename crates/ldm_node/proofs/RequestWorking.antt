-- One try after another.
use Rattle.std.proofs.Common.{◌≡◌, ◌≤◌, Some, None, List, [], ◌∷◌, ◌++◌, refl, sym, subst, arith}
use Rattle.ldm_outside.specs.declared.gate.Go.TheVariants.{On, Stop}
use Rattle.ldm_outside.proofs.CallerLemmas.{Rose-later}
use Rattle.ldm_outside.specs.Gate.{Idles}
use Rattle.ldm_outside.specs.Station.{StationRecord}
use Rattle.ldm_conf.specs.Confs.{RequestView}
use Rattle.ldm_node.specs.declared.stop.NodeStop.{NodeStop}
use Rattle.ldm_node.specs.declared.stop.NodeStop.TheVariants.{Done, NetFault, LogFault, Worn, OutOfMemory}
use Rattle.ldm_node.specs.RequestMoments.{RequestMoment, KeepsRequestCounts}
use Rattle.ldm_node.specs.Tries.{Try}
use Rattle.ldm_node.specs.RequestWorks.{AreTries, StopCause, TriesAndAsks, Works}
use Rattle.ldm_node.specs.TrySteps.{TriesOne}

-- Moments of a worker, its tries up to one of them, and that no count fell.
pub record Goes (request : RequestView) (old new : RequestMoment) : Type 0 where
  pub tries : List Try
  pub each : AreTries request tries old new
  pub counts : KeepsRequestCounts old.station new.station

pub counts-same : (station : StationRecord) → KeepsRequestCounts station station
counts-same station = record { dial = omega arith; ended = omega arith; failed = omega arith; log = omega arith; stops = omega arith }

pub counts-then : (old mid new : StationRecord) → KeepsRequestCounts old mid → KeepsRequestCounts mid new → KeepsRequestCounts old new
counts-then old mid new one other = record {
  dial = (let a = one.dial in let b = other.dial in omega arith);
  ended = (let a = one.ended in let b = other.ended in omega arith);
  failed = (let a = one.failed in let b = other.failed in omega arith);
  log = (let a = one.log in let b = other.log in omega arith);
  stops = (let a = one.stops in let b = other.stops in omega arith);
}

-- an idle call keeps all counts but that of stops
counts-asked : (mid new : RequestMoment) → new ≡ record mid { station = record mid.station { gate = new.station.gate } } → mid.station.gate.stops ≤ new.station.gate.stops
    → KeepsRequestCounts mid.station new.station
counts-asked mid new same stops =
    let P : RequestMoment → Type 0 = λ m. KeepsRequestCounts mid.station m.station in
    let there : KeepsRequestCounts mid.station (record mid.station { gate = new.station.gate }) =
    record { dial = omega arith; ended = omega arith; failed = omega arith; log = omega arith; stops = stops } in
    subst P (sym same) there

tries-more : (request : RequestView) (tries : List Try) (try : Try) (old mid new : RequestMoment) → AreTries request tries old mid → TriesAndAsks On request try mid new
    → AreTries request (tries ++ try ∷ []) old new
tries-more request [] try old mid new each more =
    let P : RequestMoment → Type 0 = λ m. TriesAndAsks On request try m new in
    (new, subst P each more, refl)
tries-more request (first ∷ tries) try old mid new each more = (each.0, each.1, tries-more request tries try each.0 mid new each.2 more)

pub goes-first : (request : RequestView) (old : RequestMoment) → Goes request old old
goes-first request old = record { tries = []; each = refl; counts = counts-same old.station }

pub goes-on : (request : RequestView) (old mid between new : RequestMoment) → Goes request old mid → TriesOne None request mid between → KeepsRequestCounts mid.station between.station
    → Idles On between.station.gate new.station.gate → between.station.gate.stops ≤ new.station.gate.stops
    → new ≡ record between { station = record between.station { gate = new.station.gate } } → Goes request old new
goes-on request old mid between new goes one kept idled stops same = record {
  tries = goes.tries ++ one.0 ∷ [];
  each = tries-more request goes.tries one.0 old mid new goes.each
      (record { between = between; tries = one.1; goes_on = one.2; asks = record { idled = idled; same = same } });
  counts = counts-then old.station between.station new.station (counts-then old.station mid.station between.station goes.counts kept) (counts-asked between new same stops);
}

-- the gate said to stop
pub stops-by_gate : (request : RequestView) (old mid between new : RequestMoment) → Goes request old mid → TriesOne None request mid between
    → Idles Stop between.station.gate new.station.gate → new ≡ record between { station = record between.station { gate = new.station.gate } } → Works Done request old new
stops-by_gate request old mid between new goes one idled same = record {
  tries = goes.tries;
  before_last = mid;
  each = goes.each;
  last = one.0;
  ends = record { between = between; tries = one.1; goes_on = one.2; asks = record { idled = idled; same = same } };
}

pub cause-by_gate : (request : RequestView) (old mid between new : RequestMoment) → Goes request old mid → KeepsRequestCounts mid.station between.station
    → Idles Stop between.station.gate new.station.gate → StopCause Done new.pass old.station new.station
cause-by_gate request old mid between new goes kept idled =
    Rose-later old.station.gate.stops between.station.gate.stops new.station.gate.stops
    (counts-then old.station mid.station between.station goes.counts kept).stops idled.1.0

pub counts-by_gate : (request : RequestView) (old mid between new : RequestMoment) → Goes request old mid → KeepsRequestCounts mid.station between.station
    → between.station.gate.stops ≤ new.station.gate.stops → new ≡ record between { station = record between.station { gate = new.station.gate } }
    → KeepsRequestCounts old.station new.station
counts-by_gate request old mid between new goes kept stops same =
    counts-then old.station between.station new.station (counts-then old.station mid.station between.station goes.counts kept) (counts-asked between new same stops)

-- a try stopped it
pub stops-by_try : (stop : NodeStop) (request : RequestView) (old mid new : RequestMoment) → Goes request old mid → TriesOne (Some stop) request mid new → Works stop request old new
stops-by_try LogFault request old mid new goes one = record { tries = goes.tries; before_last = mid; each = goes.each; last = one.0; ends = one.1 }
stops-by_try Worn request old mid new goes one = record { tries = goes.tries; before_last = mid; each = goes.each; last = one.0; ends = (one.1, one.2) }
stops-by_try Done request old mid new goes one = absurd one
stops-by_try NetFault request old mid new goes one = absurd one
stops-by_try OutOfMemory request old mid new goes one = absurd one

pub cause-by_try : (stop : NodeStop) (request : RequestView) (old mid new : RequestMoment) → Goes request old mid → TriesOne (Some stop) request mid new
    → StopCause stop new.pass old.station new.station
cause-by_try LogFault request old mid new goes one =
    Rose-later old.station.log.faults mid.station.log.faults new.station.log.faults goes.counts.log one.2
cause-by_try Worn request old mid new goes one = one.3
cause-by_try Done request old mid new goes one = absurd one
cause-by_try NetFault request old mid new goes one = absurd one
cause-by_try OutOfMemory request old mid new goes one = absurd one
