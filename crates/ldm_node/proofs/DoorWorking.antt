-- One visit after another.
use Rattle.std.proofs.Common.{◌≡◌, ℕ, ◌+◌, ◌<◌, true, Some, None, List, [], ◌∷◌, ◌++◌, length, inl, inr, refl, subst, ap, ◌∙◌, arith, length-append}
use Rattle.ldm_class.specs.Rules.{Rules}
use Rattle.ldm_outside.specs.Count.{Rose}
use Rattle.ldm_outside.specs.Station.{StationRecord}
use Rattle.ldm_outside.proofs.CallerLemmas.{Rose-later}
use Rattle.ldm_node.specs.declared.stop.NodeStop.{NodeStop}
use Rattle.ldm_node.specs.declared.stop.NodeStop.TheVariants.{Done, NetFault, LogFault, Worn, OutOfMemory}
use Rattle.ldm_node.specs.ServingEnds.{stop_by}
use Rattle.ldm_node.specs.DoorMoments.{DoorMoment, KeepsDoorCounts}
use Rattle.ldm_node.specs.Visits.{Visit, Admits}
use Rattle.ldm_node.specs.DoorWorks.{AreVisits, EndCause, RoseBy, StopCause, Works}
use Rattle.ldm_node.specs.VisitSteps.{AdmitsOne}

-- Moments of a worker, its visits up to one of them, and that no count fell.
pub record Goes (rules : Rules) (held : ℕ) (old new : DoorMoment) : Type 0 where
  pub visits : List Visit
  pub many : length visits ≡ held
  pub each : AreVisits rules visits old new
  pub counts : KeepsDoorCounts old.station new.station
  pub peers : RoseBy held old.station.door.peers new.station.door.peers

counts-same : (station : StationRecord) → KeepsDoorCounts station station
counts-same station = record {
  door = omega arith;
  peers = omega arith;
  closings = omega arith;
  ended = omega arith;
  failed = omega arith;
  log = omega arith;
  stops = omega arith;
}

pub counts-then : (old mid new : StationRecord) → KeepsDoorCounts old mid → KeepsDoorCounts mid new → KeepsDoorCounts old new
counts-then old mid new one other = record {
  door = (let a = one.door in let b = other.door in omega arith);
  peers = (let a = one.peers in let b = other.peers in omega arith);
  closings = (let a = one.closings in let b = other.closings in omega arith);
  ended = (let a = one.ended in let b = other.ended in omega arith);
  failed = (let a = one.failed in let b = other.failed in omega arith);
  log = (let a = one.log in let b = other.log in omega arith);
  stops = (let a = one.stops in let b = other.stops in omega arith);
}

rose-next : (held old mid new : ℕ) → RoseBy held old mid → Rose mid new → RoseBy (held + 1) old new
rose-next held old mid new (inl rose) (inl more) = inl (omega arith)
rose-next held old mid new (inl rose) (inr still) = inr (omega (arith, still.1))
rose-next held old mid new (inr most) (inl more) = inr (omega arith)
rose-next held old mid new (inr most) (inr still) = inr (omega (arith, still.1))

visits-more : (rules : Rules) (visits : List Visit) (visit : Visit) (old mid new : DoorMoment) → AreVisits rules visits old mid → Admits true rules visit mid new
    → stop_by visit.end ≡ None → AreVisits rules (visits ++ visit ∷ []) old new
visits-more rules [] visit old mid new each more on =
    let P : DoorMoment → Type 0 = λ m. Admits true rules visit m new in
    (new, subst P each more, on, refl)
visits-more rules (first ∷ visits) visit old mid new each more on =
    (each.0, each.1, each.2, visits-more rules visits visit each.0 mid new each.3 more on)

many-more : (visits : List Visit) (visit : Visit) (held : ℕ) → length visits ≡ held → length (visits ++ visit ∷ []) ≡ held + 1
many-more visits visit held many = length-append visits (visit ∷ []) ∙ ap (λ (n : ℕ). n + 1) many

pub goes-first : (rules : Rules) (old : DoorMoment) → Goes rules 0 old old
goes-first rules old = record { visits = []; many = refl; each = refl; counts = counts-same old.station; peers = inl (omega arith) }

pub goes-on : (rules : Rules) (held : ℕ) (old mid new : DoorMoment) → Goes rules held old mid → AdmitsOne None rules mid new → KeepsDoorCounts mid.station new.station
    → Goes rules (held + 1) old new
goes-on rules held old mid new goes one kept = record {
  visits = goes.visits ++ one.0 ∷ [];
  many = many-more goes.visits one.0 held goes.many;
  each = visits-more rules goes.visits one.0 old mid new goes.each one.1 one.2;
  counts = counts-then old.station mid.station new.station goes.counts kept;
  peers = rose-next held old.station.door.peers mid.station.door.peers new.station.door.peers goes.peers one.3;
}

-- it has held all its sessions
pub works-spent : (rules : Rules) (held sessions : ℕ) (old new : DoorMoment) → held ≡ sessions → Goes rules held old new → Works Done rules sessions old new
works-spent rules held sessions old new all goes =
    record { visits = goes.visits; at_end = new; each = goes.each; ending = None; ends = refl; count = goes.many ∙ all }

pub cause-spent : (rules : Rules) (held sessions : ℕ) (old new : DoorMoment) → held ≡ sessions → Goes rules held old new
    → StopCause Done sessions new.pass old.station new.station
cause-spent rules held sessions old new all goes =
    let P : ℕ → Type 0 = λ times. RoseBy times old.station.door.peers new.station.door.peers in
    inl (subst P all goes.peers)

-- something ended it before
pub works-ended : (stop : NodeStop) (rules : Rules) (held sessions : ℕ) (old mid new : DoorMoment) → held < sessions → Goes rules held old mid
    → AdmitsOne (Some stop) rules mid new → Works stop rules sessions old new
works-ended stop rules held sessions old mid new more goes one =
    let many = goes.many in
    record { visits = goes.visits; at_end = mid; each = goes.each; ending = Some one.0; ends = one.1; count = omega (arith, many) }

pub cause-ended : (stop : NodeStop) (rules : Rules) (held sessions : ℕ) (old mid new : DoorMoment) → Goes rules held old mid → AdmitsOne (Some stop) rules mid new
    → StopCause stop sessions new.pass old.station new.station
cause-ended Done rules held sessions old mid new goes one = inr (by_cause one.2)
  where
    by_cause : EndCause Done new.pass mid.station new.station → EndCause Done new.pass old.station new.station
    by_cause (inl closed) =
        inl (Rose-later old.station.door.closings mid.station.door.closings new.station.door.closings goes.counts.closings closed)
    by_cause (inr stopped) = inr (
      Rose-later old.station.door.peers mid.station.door.peers new.station.door.peers goes.counts.peers stopped.0,
      Rose-later old.station.gate.stops mid.station.gate.stops new.station.gate.stops goes.counts.stops stopped.1,
    )
cause-ended NetFault rules held sessions old mid new goes one =
    Rose-later old.station.door.faults mid.station.door.faults new.station.door.faults goes.counts.door one.2
cause-ended LogFault rules held sessions old mid new goes one =
    Rose-later old.station.log.faults mid.station.log.faults new.station.log.faults goes.counts.log one.2
cause-ended Worn rules held sessions old mid new goes one = one.2
cause-ended OutOfMemory rules held sessions old mid new goes one = absurd one.2
