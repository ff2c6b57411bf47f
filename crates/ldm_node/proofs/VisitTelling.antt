-- What is told of visits.
use Rattle.std.proofs.Common.{◌≡◌, ◌+◌, ℕ, Bool, true, false, Option, Some, None, List, [], ◌∷◌, ◌++◌, length, suc, inl, inr, refl, sym, subst, ap, ◌∙◌, append_assoc, length-append, zero-add, arith}
use Rattle.std.proofs.lemmas.List.{append-nil}
use Rattle.std.specs.Prelude.{option_and_then}
use Rattle.std.specs.Option.{option_map}
use Rattle.ldm_class.specs.Rules.{Rules}
use Rattle.ldm_outside.specs.declared.door.Came.TheVariants.{Closed, Failed}
use Rattle.ldm_outside.specs.declared.link.Passed.{Passed}
use Rattle.ldm_outside.specs.Door.{DoorRecord}
use Rattle.ldm_outside.specs.Io.{SinkRecord, Takes}
use Rattle.ldm_outside.specs.Lending.{LinkBack, link_back}
use Rattle.ldm_outside.specs.Link.{LinkRecord}
use Rattle.ldm_outside.specs.Told.{TellsMore}
use Rattle.ldm_outside.proofs.CallerLemmas.{Takes-nothing, Takes-then}
use Rattle.ldm_sender.specs.declared.end.SendEnd.{SendEnd}
use Rattle.ldm_sender.specs.declared.end.SendEnd.TheVariants as sending
use Rattle.ldm_notify.specs.Notifies.{send_end}
use Rattle.ldm_serve.specs.declared.end.ServeEnd.{ServeEnd}
use Rattle.ldm_serve.specs.declared.end.ServeEnd.TheVariants as serving
use Rattle.ldm_serve.specs.Connection.{moment_of}
use Rattle.ldm_node.specs.declared.session_end.SessionEnd.{SessionEnd}
use Rattle.ldm_node.specs.declared.session_end.SessionEnd.TheVariants.{Stopped}
use Rattle.ldm_node.specs.declared.stop.NodeStop.{NodeStop}
use Rattle.ldm_node.specs.declared.stop.NodeStop.TheVariants.{Done, NetFault, LogFault, Worn, OutOfMemory}
use Rattle.ldm_node.specs.Lines.{session_line}
use Rattle.ldm_node.specs.ServingEnds.{end_of_sending, end_of_serving, stop_by, stop_of_sending}
use Rattle.ldm_node.specs.DoorMoments.{DoorMoment}
use Rattle.ldm_node.specs.Visits.{Visit, Admits, client_of, line_of, outside}
use Rattle.ldm_node.specs.DoorWorks.{AreVisits, ClosedDoor, Declines, Ending, EndsBy, FailedDoor, LastVisit, Works}
use Rattle.ldm_node.specs.VisitsTold.{all_visits, hosts_of, last_visit, lines_of, lines_of_each, lines_of_last, log_of, own_lines}
use Rattle.ldm_node.proofs.VisitOwning.{served-taken}
use Rattle.ldm_node.proofs.Stopping.{receiving-not_done}

-- how a worker ended, without why it stopped
abbrev EndsSo : Rules → Option Ending → DoorMoment → DoorMoment → Type 0
EndsSo rules None old new = new ≡ old
EndsSo rules (Some ClosedDoor) old new = Declines Closed old new
EndsSo rules (Some FailedDoor) old new = Declines Failed old new
EndsSo rules (Some (LastVisit visit)) old new = (whole : Bool) × Admits whole rules visit old new

ends-so : (stop : NodeStop) (rules : Rules) (ending : Option Ending) (old new : DoorMoment) → EndsBy stop rules ending old new → EndsSo rules ending old new
ends-so Done rules None old new ends = ends
ends-so Done rules (Some ClosedDoor) old new ends = ends
ends-so Done rules (Some FailedDoor) old new ends = absurd ends
ends-so Done rules (Some (LastVisit visit)) old new ends = (true, ends.0)
ends-so NetFault rules None old new ends = absurd ends
ends-so NetFault rules (Some ClosedDoor) old new ends = absurd ends
ends-so NetFault rules (Some FailedDoor) old new ends = ends
ends-so NetFault rules (Some (LastVisit visit)) old new ends = absurd ends
ends-so LogFault rules None old new ends = absurd ends
ends-so LogFault rules (Some ClosedDoor) old new ends = absurd ends
ends-so LogFault rules (Some FailedDoor) old new ends = absurd ends
ends-so LogFault rules (Some (LastVisit visit)) old new ends = (false, ends.0)
ends-so Worn rules None old new ends = absurd ends
ends-so Worn rules (Some ClosedDoor) old new ends = absurd ends
ends-so Worn rules (Some FailedDoor) old new ends = absurd ends
ends-so Worn rules (Some (LastVisit visit)) old new ends = (true, ends.0)
ends-so OutOfMemory rules None old new ends = absurd ends
ends-so OutOfMemory rules (Some ClosedDoor) old new ends = absurd ends
ends-so OutOfMemory rules (Some FailedDoor) old new ends = absurd ends
ends-so OutOfMemory rules (Some (LastVisit visit)) old new ends = absurd ends

-- ---- lists that are told, one more and then others

module _ {A : Type 0} where
  abbrev then_more : List A → Option (List A) → Option (List A)
  then_more more told = option_map (λ (before : List A). before ++ more) told

  then_more-nothing : (told : Option (List A)) → told ≡ then_more [] told
  then_more-nothing None = refl
  then_more-nothing (Some before) = ap (λ (t : List A). Some t) (sym (append-nil before))

  then_more-twice : (first second : List A) (told : Option (List A)) → then_more second (then_more first told) ≡ then_more (first ++ second) told
  then_more-twice first second None = refl
  then_more-twice first second (Some before) = ap (λ (t : List A). Some t) (append_assoc before first second)

  tells-then : (first second : List A) (old mid new : Option (List A)) → TellsMore (λ (before : List A). before ++ first) old mid
      → TellsMore (λ (before : List A). before ++ second) mid new → TellsMore (λ (before : List A). before ++ (first ++ second)) old new
  tells-then first second old mid new one (inr silent) = inr silent
  tells-then first second old mid new (inl told) (inl more) = inl (more ∙ ap (then_more second) told ∙ then_more-twice first second old)
  tells-then first second old mid new (inr silent) (inl more) = inr (more ∙ ap (then_more second) silent)

-- ---- the hosts that came

door-of : (old new : DoorMoment) → new ≡ old → new.station.door ≡ old.station.door
door-of old new same = ap (λ (m : DoorMoment). m.station.door) same

admits-host : (whole : Bool) (rules : Rules) (visit : Visit) (old new : DoorMoment) → Admits whole rules visit old new
    → new.station.door.hosts ≡ then_more (visit.host ∷ []) old.station.door.hosts
admits-host whole rules visit old new admits =
    ap (λ (d : DoorRecord). d.hosts) admits.holds.given_back.1 ∙ ap (λ (d : DoorRecord). d.hosts) admits.accepted.2

visits-hosts : (rules : Rules) (visits : List Visit) (old new : DoorMoment) → AreVisits rules visits old new
    → new.station.door.hosts ≡ then_more (hosts_of visits) old.station.door.hosts
visits-hosts rules [] old new each = ap (λ (m : DoorMoment). m.station.door.hosts) each ∙ then_more-nothing old.station.door.hosts
visits-hosts rules (visit ∷ visits) old new each =
    visits-hosts rules visits each.0 new each.3 ∙ ap (then_more (hosts_of visits)) (admits-host true rules visit old each.0 each.1)
    ∙ then_more-twice (visit.host ∷ []) (hosts_of visits) old.station.door.hosts

ends-hosts : (rules : Rules) (ending : Option Ending) (old new : DoorMoment) → EndsSo rules ending old new
    → new.station.door.hosts ≡ then_more (hosts_of (last_visit ending)) old.station.door.hosts
ends-hosts rules None old new ends = ap (λ (m : DoorMoment). m.station.door.hosts) ends ∙ then_more-nothing old.station.door.hosts
ends-hosts rules (Some ClosedDoor) old new ends = ap (λ (d : DoorRecord). d.hosts) ends.answered.1 ∙ then_more-nothing old.station.door.hosts
ends-hosts rules (Some FailedDoor) old new ends = ap (λ (d : DoorRecord). d.hosts) ends.answered.1 ∙ then_more-nothing old.station.door.hosts
ends-hosts rules (Some (LastVisit visit)) old new ends = admits-host ends.0 rules visit old new ends.1

hosts-append : (first second : List Visit) → hosts_of first ++ hosts_of second ≡ hosts_of (first ++ second)
hosts-append [] second = refl
hosts-append (visit ∷ first) second = ap (λ (hosts : List (List ℕ)). visit.host ∷ hosts) (hosts-append first second)

pub works-hosts : (stop : NodeStop) (rules : Rules) (sessions : ℕ) (old new : DoorMoment) (works : Works stop rules sessions old new)
    → new.station.door.hosts ≡ option_map (λ (before : List (List ℕ)). before ++ hosts_of (all_visits works)) old.station.door.hosts
works-hosts stop rules sessions old new works =
    let last = last_visit works.ending in
    ends-hosts rules works.ending works.at_end new (ends-so stop rules works.ending works.at_end new works.ends)
    ∙ ap (then_more (hosts_of last)) (visits-hosts rules works.visits old works.at_end works.each)
    ∙ then_more-twice (hosts_of works.visits) (hosts_of last) old.station.door.hosts
    ∙ ap (λ (hosts : List (List ℕ)). then_more hosts old.station.door.hosts) (hosts-append works.visits last)

-- ---- what the log took

admits-log : (rules : Rules) (visit : Visit) (old new : DoorMoment) (admits : Admits true rules visit old new)
    → Takes old.station.log (lines_of rules visit old new admits ++ line_of visit) new.station.log
admits-log rules visit old new admits =
    let holds = admits.holds in
    Takes-then old.station.log holds.log new.station.log (lines_of rules visit old new admits) (line_of visit)
    (served-taken visit.end (client_of rules visit.host old.pass) (moment_of old.pass (outside admits.came old.station.log old.station))
    (moment_of new.pass (outside holds.left holds.log new.station)) holds.serves) holds.logged

visits-log : (rules : Rules) (visits others : List Visit) (own : List (List ℕ)) (old mid : DoorMoment) (new : SinkRecord)
    (each : AreVisits rules visits old mid) → Takes mid.station.log (log_of others own) new
    → Takes old.station.log (log_of (visits ++ others) (lines_of_each rules visits old mid each ++ own)) new
visits-log rules [] others own old mid new each rest =
    let P : DoorMoment → Type 0 = λ m. Takes m.station.log (log_of others own) new in
    subst P each rest
visits-log rules (visit ∷ visits) others own old mid new each rest =
    Takes-then old.station.log each.0.station.log new (lines_of rules visit old each.0 each.1 ++ line_of visit)
    (log_of (visits ++ others) (lines_of_each rules visits each.0 mid each.3 ++ own)) (admits-log rules visit old each.0 each.1)
    (visits-log rules visits others own each.0 mid new each.3 rest)

log-of : (old new : DoorMoment) → new ≡ old → new.station.log.written ≡ old.station.log.written
log-of old new same = ap (λ (m : DoorMoment). m.station.log.written) same

done-log : (rules : Rules) (ending : Option Ending) (old new : DoorMoment) (ends : EndsBy Done rules ending old new)
    → Takes old.station.log (log_of (last_visit ending) (lines_of_last rules ending old new ends)) new.station.log
done-log rules None old new ends = Takes-nothing old.station.log new.station.log (log-of old new ends)
done-log rules (Some ClosedDoor) old new ends =
    Takes-nothing old.station.log new.station.log (ap (λ (m : DoorMoment). m.station.log.written) ends.same)
done-log rules (Some FailedDoor) old new ends = absurd ends
done-log rules (Some (LastVisit visit)) old new ends =
    Takes-then old.station.log new.station.log new.station.log (lines_of rules visit old new ends.0 ++ line_of visit) []
    (admits-log rules visit old new ends.0) (Takes-nothing new.station.log new.station.log refl)

pub works-log : (rules : Rules) (sessions : ℕ) (old new : DoorMoment) (works : Works Done rules sessions old new)
    → Takes old.station.log (log_of (all_visits works) (own_lines works)) new.station.log
works-log rules sessions old new works =
    visits-log rules works.visits (last_visit works.ending) (lines_of_last rules works.ending works.at_end new works.ends) old works.at_end
    new.station.log works.each (done-log rules works.ending works.at_end new works.ends)

-- ---- the last line

sending-stopped : (why : SendEnd) → stop_of_sending why ≡ Some Done → end_of_sending why ≡ Stopped
sending-stopped sending.Stopped is = refl
sending-stopped sending.Reclassed is = cc
sending-stopped (sending.Denied rule) is = cc
sending-stopped (sending.PeerEnd at) is = cc
sending-stopped sending.LinkFault is = cc
sending-stopped sending.LogFault is = cc
sending-stopped (sending.BadReply at) is = cc
sending-stopped sending.AllBusy is = cc
sending-stopped sending.Worn is = cc
sending-stopped sending.OutOfMemory is = cc

serving-stopped : (end : ServeEnd) → stop_by end ≡ Some Done → end_of_serving end ≡ Stopped
serving-stopped (serving.Feed why) is = sending-stopped why is
serving-stopped (serving.Notify why) is = sending-stopped (send_end why) is
serving-stopped (serving.Receive why) is = absurd (receiving-not_done why is)
serving-stopped serving.Ended is = cc
serving-stopped (serving.Truncated at) is = cc
serving-stopped (serving.BadFrame at) is = cc
serving-stopped (serving.Denied rule) is = cc
serving-stopped serving.LinkFault is = cc
serving-stopped serving.StreamLimit is = cc
serving-stopped serving.Worn is = cc
serving-stopped serving.OutOfMemory is = cc

-- the line of a visit that the gate stopped
stopped-log : (rules : Rules) (visit : Visit) (old new : DoorMoment) (admits : Admits true rules visit old new) → stop_by visit.end ≡ Some Done
    → Takes old.station.log (lines_of rules visit old new admits ++ session_line visit.host Stopped) new.station.log
stopped-log rules visit old new admits is =
    let P : SessionEnd → Type 0 = λ end. Takes old.station.log (lines_of rules visit old new admits ++ session_line visit.host end) new.station.log in
    subst P (serving-stopped visit.end is) (admits-log rules visit old new admits)

pub works-stopped : (rules : Rules) (sessions : ℕ) (old new : DoorMoment) (visit : Visit) (works : Works Done rules sessions old new)
    → works.ending ≡ Some (LastVisit visit) → (before : List ℕ) × Takes old.station.log (before ++ session_line visit.host Stopped) new.station.log
works-stopped rules sessions old new visit works is =
    let P : Option Ending → Type 0 = λ ending. EndsBy Done rules ending works.at_end new in
    let ends : EndsBy Done rules (Some (LastVisit visit)) works.at_end new = subst P is works.ends in
    let at_end = works.at_end.station.log in
    let front = log_of (works.visits ++ []) (lines_of_each rules works.visits old works.at_end works.each ++ []) in
    let own = lines_of rules visit works.at_end new ends.0 in
    let visited = visits-log rules works.visits [] [] old works.at_end at_end works.each (Takes-nothing at_end at_end refl) in
    let all = Takes-then old.station.log at_end new.station.log front (own ++ session_line visit.host Stopped) visited
    (stopped-log rules visit works.at_end new ends.0 ends.1) in
    let R : List ℕ → Type 0 = λ bytes. Takes old.station.log bytes new.station.log in
    (front ++ own, subst R (sym (append_assoc front own (session_line visit.host Stopped))) all)

-- ---- the links that were given back

-- So many links are told more, where the links are told.
abbrev BackMore : ℕ → (old new : Option (List LinkBack)) → Type 0
BackMore count old new = (links : List LinkBack) × (length links ≡ count) × TellsMore (λ (before : List LinkBack). before ++ links) old new

back-none : (old new : Option (List LinkBack)) → new ≡ old → BackMore 0 old new
back-none old new same = ([], refl, inl (same ∙ then_more-nothing old))

back-one : (link : LinkRecord) (told : Option (List Passed)) (old new : Option (List LinkBack))
    → new ≡ option_and_then (λ (passed : List Passed). option_map (λ (links : List LinkBack). links ++ link_back link passed ∷ []) old) told → BackMore 1 old new
back-one link None old new is = (link_back link [] ∷ [], refl, inr is)
back-one link (Some passed) old new is = (link_back link passed ∷ [], refl, inl is)

back-then : (m n : ℕ) (old mid new : Option (List LinkBack)) → BackMore m old mid → BackMore n mid new → BackMore (m + n) old new
back-then m n old mid new one more = (
  one.0 ++ more.0,
  length-append one.0 more.0 ∙ ap (λ (k : ℕ). k + length more.0) one.1 ∙ ap (λ (k : ℕ). m + k) more.1,
  tells-then one.0 more.0 old mid new one.2 more.2,
)

admits-back : (whole : Bool) (rules : Rules) (visit : Visit) (old new : DoorMoment) → Admits whole rules visit old new
    → BackMore 1 old.station.door.links.back new.station.door.links.back
admits-back whole rules visit old new admits =
    let left = admits.holds.left in
    let P : Option (List LinkBack) → Type 0 = λ told. BackMore 1 told new.station.door.links.back in
    subst P (ap (λ (d : DoorRecord). d.links.back) admits.accepted.2)
    (back-one left left.passed admits.lent.links.back new.station.door.links.back admits.holds.given_back.0.back)

visits-back : (rules : Rules) (visits : List Visit) (count : ℕ) (old mid : DoorMoment) (new : Option (List LinkBack)) → AreVisits rules visits old mid
    → BackMore count mid.station.door.links.back new → BackMore (length visits + count) old.station.door.links.back new
visits-back rules [] count old mid new each rest =
    let P : DoorMoment → Type 0 = λ m. BackMore count m.station.door.links.back new in
    let Q : ℕ → Type 0 = λ k. BackMore k old.station.door.links.back new in
    subst Q (sym (zero-add count)) (subst P each rest)
visits-back rules (visit ∷ visits) count old mid new each rest =
    let Q : ℕ → Type 0 = λ k. BackMore k old.station.door.links.back new in
    subst Q (one-more (length visits) count)
    (back-then 1 (length visits + count) old.station.door.links.back each.0.station.door.links.back new (admits-back true rules visit old each.0 each.1)
    (visits-back rules visits count each.0 mid new each.3 rest))
  where
    one-more : (m n : ℕ) → 1 + (m + n) ≡ suc m + n
    one-more m n = omega arith

ends-back : (rules : Rules) (ending : Option Ending) (old new : DoorMoment) → EndsSo rules ending old new
    → BackMore (length (last_visit ending)) old.station.door.links.back new.station.door.links.back
ends-back rules None old new ends = back-none old.station.door.links.back new.station.door.links.back (ap (λ (m : DoorMoment). m.station.door.links.back) ends)
ends-back rules (Some ClosedDoor) old new ends =
    back-none old.station.door.links.back new.station.door.links.back (ap (λ (d : DoorRecord). d.links.back) ends.answered.1)
ends-back rules (Some FailedDoor) old new ends =
    back-none old.station.door.links.back new.station.door.links.back (ap (λ (d : DoorRecord). d.links.back) ends.answered.1)
ends-back rules (Some (LastVisit visit)) old new ends = admits-back ends.0 rules visit old new ends.1

pub works-back : (stop : NodeStop) (rules : Rules) (sessions : ℕ) (old new : DoorMoment) (works : Works stop rules sessions old new)
    → (links : List LinkBack) × (length links ≡ length (all_visits works))
    × TellsMore (λ (before : List LinkBack). before ++ links) old.station.door.links.back new.station.door.links.back
works-back stop rules sessions old new works =
    let last = last_visit works.ending in
    let more = visits-back rules works.visits (length last) old works.at_end new.station.door.links.back works.each
    (ends-back rules works.ending works.at_end new (ends-so stop rules works.ending works.at_end new works.ends)) in
    (more.0, more.1 ∙ sym (length-append works.visits last), more.2)

-- ---- no link is out

visits-out : (rules : Rules) (visits : List Visit) (old new : DoorMoment) → AreVisits rules visits old new → old.station.door.links.out ≡ false → new.station.door.links.out ≡ false
visits-out rules [] old new each none = ap (λ (m : DoorMoment). m.station.door.links.out) each ∙ none
visits-out rules (visit ∷ visits) old new each none = visits-out rules visits each.0 new each.3 each.1.holds.given_back.0.out

ends-out : (rules : Rules) (ending : Option Ending) (old new : DoorMoment) → EndsSo rules ending old new → old.station.door.links.out ≡ false → new.station.door.links.out ≡ false
ends-out rules None old new ends none = ap (λ (m : DoorMoment). m.station.door.links.out) ends ∙ none
ends-out rules (Some ClosedDoor) old new ends none = ap (λ (d : DoorRecord). d.links.out) ends.answered.1 ∙ none
ends-out rules (Some FailedDoor) old new ends none = ap (λ (d : DoorRecord). d.links.out) ends.answered.1 ∙ none
ends-out rules (Some (LastVisit visit)) old new ends none = ends.1.holds.given_back.0.out

pub works-out : (stop : NodeStop) (rules : Rules) (sessions : ℕ) (old new : DoorMoment) → Works stop rules sessions old new
    → old.station.door.links.out ≡ false → new.station.door.links.out ≡ false
works-out stop rules sessions old new works none =
    ends-out rules works.ending works.at_end new (ends-so stop rules works.ending works.at_end new works.ends)
    (visits-out rules works.visits old works.at_end works.each none)
