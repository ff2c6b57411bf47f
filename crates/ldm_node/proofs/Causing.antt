-- Why a node ends.
use Rattle.std.proofs.Common.{◌≡◌, ℕ, zero, suc, ◌+◌, ◌<◌, List, [], ◌∷◌, length, map, get_or, Option, refl, sym, ap, subst, ◌∙◌, inl, inr, arith, length-append}
use Rattle.std.specs.List.{All}
use Rattle.std.proofs.lemmas.List.{length-map, get_or-map}
use Rattle.ldm_outside.specs.Count.{Rose}
use Rattle.ldm_outside.specs.Door.{DoorRecord}
use Rattle.ldm_outside.specs.Station.{StationRecord, IsNew}
use Rattle.ldm_shared.specs.declared.steps.TheConstants.{MOST_TURNS}
use Rattle.ldm_shared.specs.Passes.{SharedView, PassView, IsLast}
use Rattle.ldm_node.specs.declared.stop.NodeStop.{NodeStop}
use Rattle.ldm_node.specs.declared.stop.NodeStop.TheVariants.{Done, NetFault, LogFault, Worn, OutOfMemory}
use Rattle.ldm_node.specs.DoorWorks.{RoseBy}
use Rattle.ldm_node.specs.Causes.{Completes, MayBeDone, NodeCause, SomeHas}
use Rattle.ldm_node.specs.Node.{AllRun, Outcome, Staffs}
use Rattle.ldm_node.specs.Roles.{Plan, Role, LetsIn, Asks, Rests, role_of}
use Rattle.ldm_node.specs.Stops.{first_stop}
use Rattle.ldm_node.specs.Workers.{HasCause}

-- a count that rose from 0 is above it
pub above : (old new : ℕ) → old ≡ 0 → Rose old new → 0 < new
above old new zero_is (inl less) = omega (arith, zero_is, less)
above old new zero_is (inr stands) = let e = stands.0 in omega (arith, zero_is, e)

-- where the first stop that is not Done is Done, all are
all_done : (stops : List NodeStop) → first_stop stops ≡ Done → (i : ℕ) → i < length stops → get_or stops i Done ≡ Done
all_done [] is i less = absurd (omega (arith, less))
all_done (Done ∷ stops) is zero less = refl
all_done (Done ∷ stops) is (suc i) less = all_done stops is i (omega arith)
all_done (NetFault ∷ stops) is i less = absurd (cc is)
all_done (LogFault ∷ stops) is i less = absurd (cc is)
all_done (Worn ∷ stops) is i less = absurd (cc is)
all_done (OutOfMemory ∷ stops) is i less = absurd (cc is)

-- else it stands at some place
place_of : (stops : List NodeStop) → (first_stop stops ≡ Done → ⊥) → (i : ℕ) × (i < length stops) × (get_or stops i Done ≡ first_stop stops)
place_of [] not = absurd (not refl)
place_of (Done ∷ stops) not = let at = place_of stops not in (suc at.0, (let less = at.1 in omega (arith, less)), at.2)
place_of (NetFault ∷ stops) not = (0, omega arith, refl)
place_of (LogFault ∷ stops) not = (0, omega arith, refl)
place_of (Worn ∷ stops) not = (0, omega arith, refl)
place_of (OutOfMemory ∷ stops) not = (0, omega arith, refl)

-- what the causes of one worker's stop come to, from a new station
module _ (plan : Plan) (idles : Option ℕ) (pass : PassView) (old new : StationRecord) (is_new : IsNew idles old) where
  no_peers : old.door.peers ≡ 0
  no_peers = ap (λ (door : DoorRecord). door.peers) is_new.door.0

  no_closings : old.door.closings ≡ 0
  no_closings = ap (λ (door : DoorRecord). door.closings) is_new.door.0

  no_door_faults : old.door.faults ≡ 0
  no_door_faults = ap (λ (door : DoorRecord). door.faults) is_new.door.0

  pub done_so : (role : Role) → HasCause plan role Done pass old new → MayBeDone plan role new
  done_so LetsIn (inl rose) = inl (subst (λ (n : ℕ). RoseBy plan.sessions n new.door.peers) no_peers rose)
  done_so LetsIn (inr (inl closed)) = inr (inl (above old.door.closings new.door.closings no_closings closed))
  done_so LetsIn (inr (inr stopped)) =
      inr (inr (above old.door.peers new.door.peers no_peers stopped.0, above old.gate.stops new.gate.stops is_new.gate.0 stopped.1))
  done_so (Asks request) stopped = above old.gate.stops new.gate.stops is_new.gate.0 stopped
  done_so Rests is = tt

  pub net_failed : (role : Role) → HasCause plan role NetFault pass old new → 0 < new.door.faults
  net_failed LetsIn rose = above old.door.faults new.door.faults no_door_faults rose
  net_failed (Asks request) none = absurd none
  net_failed Rests is = absurd (cc is)

  pub log_failed : (role : Role) → HasCause plan role LogFault pass old new → 0 < new.log.faults
  log_failed LetsIn rose = above old.log.faults new.log.faults is_new.log.0 rose
  log_failed (Asks request) rose = above old.log.faults new.log.faults is_new.log.0 rose
  log_failed Rests is = absurd (cc is)

pub is_worn : (plan : Plan) (role : Role) (pass : PassView) (old new : StationRecord) → HasCause plan role Worn pass old new → length pass.seen ≡ MOST_TURNS
is_worn plan LetsIn pass old new worn = worn
is_worn plan (Asks request) pass old new worn = worn
is_worn plan Rests pass old new is = absurd (cc is)

-- the element of a place
element : {X : Type 0} (xs : List X) (i : ℕ) → i < length xs → (x : X) × ((d : X) → get_or xs i d ≡ x)
element [] i less = absurd (omega arith)
element (x ∷ xs) zero less = (x, λ d. refl)
element (x ∷ xs) (suc i) less = element xs i (omega arith)

module _ {S : Type 0} (tells : S → StationRecord) (plan : Plan) (idles : Option ℕ) (shared : SharedView) (given : List S) (left : Outcome S)
    (is_last : IsLast shared left.pass) (new : All (λ station. IsNew idles (tells station)) given) (run : AllRun tells plan shared given left) where
  told : List StationRecord
  told = map tells left.stations

  told_at : (actor : ℕ) (s : S) (d : StationRecord) → actor < length given → get_or (map tells left.stations) actor d ≡ tells (get_or left.stations actor s)
  told_at actor s d less = let count = run.count in get_or-map tells left.stations actor s d (omega (arith, less, count))

  each_done : left.end ≡ Done → (actor : ℕ) (d : StationRecord) → actor < length given
      → MayBeDone plan (role_of plan actor) (get_or (map tells left.stations) actor d)
  each_done is actor d less =
      let s = (element given actor less).0 in
      let runs = run.each actor s less in
      let count = run.count_stops in
      let stop : get_or run.stops actor Done ≡ Done = all_done run.stops (sym run.end ∙ is) actor (omega (arith, less, count)) in
      subst (MayBeDone plan (role_of plan actor)) (sym (told_at actor s d less))
      (done_so plan idles runs.pass (tells (get_or given actor s)) (tells (get_or left.stations actor s)) (new actor s less) (role_of plan actor)
      (subst (λ (stop : NodeStop). HasCause plan (role_of plan actor) stop runs.pass (tells (get_or given actor s)) (tells (get_or left.stations actor s))) stop runs.cause))

  -- the worker of the first stop that is not Done
  first_at : (stop : NodeStop) → left.end ≡ stop → (stop ≡ Done → ⊥)
      → (actor : ℕ) × (s : S) × (less : actor < length given) × HasCause plan (role_of plan actor) stop (run.each actor s less).pass (tells (get_or given actor s)) (tells (get_or left.stations actor s))
  first_at stop is not =
      let at = place_of run.stops (λ done. not (sym is ∙ run.end ∙ done)) in
      let inside : at.0 < length given = let less = at.1 in let count = run.count_stops in omega (arith, less, count) in
      let s = (element given at.0 inside).0 in
      let runs = run.each at.0 s inside in
      (at.0, s, inside, subst (λ (x : NodeStop). HasCause plan (role_of plan at.0) x runs.pass (tells (get_or given at.0 s)) (tells (get_or left.stations at.0 s))) (at.2 ∙ sym run.end ∙ is) runs.cause)

  some_has : (P : StationRecord → Type 0) (actor : ℕ) (s : S) → actor < length given → P (tells (get_or left.stations actor s)) → SomeHas P (map tells left.stations)
  some_has P actor s less has =
      let count = run.count in
      let station = tells (get_or left.stations actor s) in
      (station, (actor, omega (arith, less, count, length-map left.stations tells), told_at actor s station less), has)

  pub run_cause : length given ≡ plan.workers + length plan.requests → (stop : NodeStop) → left.end ≡ stop
      → NodeCause stop plan (map tells left.stations) left.pass
  run_cause size Done is =
      let count = run.count in
      let long : length (map tells left.stations) ≡ length given = length-map left.stations tells ∙ count in
      (long ∙ size, λ actor d less. each_done is actor d (omega (arith, less, long)))
  run_cause size NetFault is =
      let at = first_at NetFault is (λ e. absurd (cc e)) in
      let runs = run.each at.0 at.1 at.2 in
      some_has (λ station. 0 < station.door.faults) at.0 at.1 at.2
      (net_failed plan idles runs.pass (tells (get_or given at.0 at.1)) (tells (get_or left.stations at.0 at.1)) (new at.0 at.1 at.2) (role_of plan at.0) at.3)
  run_cause size LogFault is =
      let at = first_at LogFault is (λ e. absurd (cc e)) in
      let runs = run.each at.0 at.1 at.2 in
      some_has (λ station. 0 < station.log.faults) at.0 at.1 at.2
      (log_failed plan idles runs.pass (tells (get_or given at.0 at.1)) (tells (get_or left.stations at.0 at.1)) (new at.0 at.1 at.2) (role_of plan at.0) at.3)
  run_cause size Worn is =
      let at = first_at Worn is (λ e. absurd (cc e)) in
      let runs = run.each at.0 at.1 at.2 in
      let worn = is_worn plan (role_of plan at.0) runs.pass (tells (get_or given at.0 at.1)) (tells (get_or left.stations at.0 at.1)) at.3 in
      let begins = runs.has_all.begins in
      let long : length left.pass.seen ≡ length runs.pass.seen + length begins.0 = ap length (sym begins.1) ∙ length-append runs.pass.seen begins.0 in
      let few_calls = is_last.has_seen.few in
      omega (arith, long, worn, few_calls)
  run_cause size OutOfMemory is = tt

-- the cause of a node's end, by what came of its stations
pub staffs_cause : {S : Type 0} (tells : S → StationRecord) (plan : Plan) (idles : Option ℕ) (shared : SharedView) (given : List S) (left : Outcome S) → IsLast shared left.pass
    → All (λ station. IsNew idles (tells station)) given → length given ≡ plan.workers + length plan.requests → Staffs tells plan shared given left
    → NodeCause left.end plan (map tells left.stations) left.pass
staffs_cause tells plan idles shared given left is_last new size (inl run) = run_cause tells plan idles shared given left is_last new run size left.end refl
staffs_cause tells plan idles shared given left is_last new size (inr none) =
    subst (λ (end : NodeStop). NodeCause end plan (map tells left.stations) left.pass) (sym none.end) tt

-- where nothing failed
pub completes : (plan : Plan) (last : PassView) (stations : List StationRecord) (end : NodeStop) → NodeCause end plan stations last → Completes end stations
completes plan last stations Done cause = λ none. inl refl
completes plan last stations NetFault some = λ none.
    let found = some.1 in
    let zero_is : some.0.door.faults ≡ 0 = ap (λ (station : StationRecord). station.door.faults) (sym found.2) ∙ (none found.0 some.0 found.1).0 in
    let has = some.2 in
    absurd (omega (arith, zero_is, has))
completes plan last stations LogFault some = λ none.
    let found = some.1 in
    let zero_is : some.0.log.faults ≡ 0 = ap (λ (station : StationRecord). station.log.faults) (sym found.2) ∙ (none found.0 some.0 found.1).1 in
    let has = some.2 in
    absurd (omega (arith, zero_is, has))
completes plan last stations Worn cause = λ none. inr (inl refl)
completes plan last stations OutOfMemory cause = λ none. inr (inr refl)
