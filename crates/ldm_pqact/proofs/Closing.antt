-- The end of `act`: what is closed, and why it ended.
use Rattle.std.proofs.Common.{◌≡◌, ◌∙◌, ℕ, ◌≤◌, List, [], ◌∷◌, ◌++◌, inl, inr, length, map, Option, Some, None, refl, sym, ap, subst, arith}
use Rattle.std.proofs.lemmas.Bool.{cases_lt}
use Rattle.std.specs.List.{flat_map}
use Rattle.ldm_model.specs.declared.event.Event.TheVariants as event
use Rattle.ldm_model.specs.declared.event.Reply.{Reply}
use Rattle.ldm_model.specs.declared.event.Reply.TheVariants as reply
use Rattle.ldm_outside.specs.declared.gate.Go.{Go}
use Rattle.ldm_outside.specs.declared.gate.Go.TheVariants as go
use Rattle.ldm_outside.specs.Count.{Rose}
use Rattle.ldm_outside.specs.Gate.{GateRecord, Idles}
use Rattle.ldm_outside.specs.Io.{SinkRecord}
use Rattle.ldm_outside.specs.Launcher.{LauncherRecord}
use Rattle.ldm_outside.specs.Store.{StoreRecord}
use Rattle.ldm_outside.proofs.CallerLemmas.{Rose-later}
use Rattle.ldm_shared.specs.declared.steps.TheConstants.{MOST_TURNS}
use Rattle.ldm_shared.specs.Passes.{PassView, Calls, Grows}
use Rattle.ldm_shared.proofs.Made.{calls_some, calls_trans}
use Rattle.ldm_shared.specs.Reader.{HasCursor}
use Rattle.ldm_session.specs.Exchange.{IdledAll}
use Rattle.ldm_shared.proofs.Using.{RowsStay, rows_stay}
use Rattle.ldm_pqact_conf.specs.Entries.{EntryView}
use Rattle.ldm_actions.specs.declared.answers.Done.{Done}
use Rattle.ldm_actions.specs.declared.answers.Done.TheVariants as done
use Rattle.ldm_actions.specs.declared.answers.Fault.{Fault}
use Rattle.ldm_actions.specs.declared.answers.Fault.TheVariants as fault
use Rattle.ldm_actions.specs.Effects.{closed}
use Rattle.ldm_actions.specs.Outputs.{Closes, ClosesBy, OutputsView, Standing, no_outputs, standing}
use Rattle.ldm_actions.specs.World.{World}
use Rattle.ldm_pqact.specs.declared.end.ActEnd.{ActEnd}
use Rattle.ldm_pqact.specs.declared.end.ActEnd.TheVariants as end
use Rattle.ldm_pqact.specs.Acted.{ActCause, ActsOpened, IsEndAfter, KeepsActCounts, LogsBy, Situation, StandsAt, UsesOpened, closing_calls, end_after, opening, opening_call, situation_of}
use Rattle.ldm_pqact.specs.Acting.{CauseOf, EndsSo, KeepsCursor, LogCount, Sight, sight_of}
use Rattle.ldm_pqact.specs.Carried.{Carries, Faulted, LauncherCount, StoreCount}
use Rattle.ldm_pqact.specs.Course.{Follows, Gated, Stretch, course_work, gated_of, goes_of, turns_of}
use Rattle.ldm_shared.specs.Givens.{products_of}
use Rattle.ldm_shared.specs.Uses.{Uses}
use Rattle.ldm_pqact.specs.Work.{Parted, replies_of}
use Rattle.ldm_pqact.proofs.Carrying.{Deed}

-- ---- counts

rose_le : (old new : ℕ) → Rose old new → old ≤ new
rose_le old new (inl rose) = omega arith
rose_le old new (inr still) = omega (arith, still.0, still.1)

-- a count that rose earlier
rose_before : (old mid new : ℕ) → Rose old mid → mid ≤ new → Rose old new
rose_before old mid new (inl rose) later = inl (omega arith)
rose_before old mid new (inr still) later = elim (cases_lt mid new) [
  | inl lt ↦ inl (omega (arith, still.0, still.1))
  | inr ge ↦ inr (still.0, omega (arith, still.1))
]

faulted_le : (why : Fault) (count count' : ℕ) (old new : Standing) → (new ≡ old → count' ≡ count) → Faulted why count count' old new → count ≤ count'
faulted_le why count count' old new same (inl rose) = rose_le count count' rose
faulted_le why count count' old new same (inr spent) = omega (arith, same spent.1)

store_le : (why : ActEnd) (old new : Standing) → StoreCount why old new → old.store.faults ≤ new.store.faults
store_le end.StoreFault old new count = faulted_le fault.Store old.store.faults new.store.faults old new (λ is. ap (λ (s : Standing). s.store.faults) is) count
store_le why old new count = omega (arith, count)

launcher_le : (why : ActEnd) (old new : Standing) → LauncherCount why old new → old.launcher.faults ≤ new.launcher.faults
launcher_le end.LaunchFault old new count =
    faulted_le fault.Launch old.launcher.faults new.launcher.faults old new (λ is. ap (λ (s : Standing). s.launcher.faults) is) count
launcher_le why old new count = omega (arith, count)

log_le : (why : ActEnd) (old new : SinkRecord) → LogCount why old new → old.faults ≤ new.faults
log_le end.LogFault old new count = rose_le old.faults new.faults count
log_le why old new count = count

carried_store : (why : ActEnd) (whole in_hand : List Deed) (old new : Standing) → Carries why whole in_hand old new → old.store.faults ≤ new.store.faults
carried_store end.Stopped whole in_hand old new carries = omega (arith, carries.store_faults)
carried_store why whole in_hand old new carries = store_le why old new carries.store_count

carried_launcher : (why : ActEnd) (whole in_hand : List Deed) (old new : Standing) → Carries why whole in_hand old new → old.launcher.faults ≤ new.launcher.faults
carried_launcher end.Stopped whole in_hand old new carries = omega (arith, carries.launcher_faults)
carried_launcher why whole in_hand old new carries = launcher_le why old new carries.launcher_count

closes_store : (answer : Done) (old new : Standing) → Closes answer old new → old.store.faults ≤ new.store.faults
closes_store answer old new closes = by_spent old.outputs.spent answer closes
  where
    by_spent : (spent : Option Fault) (answer : Done) → ClosesBy spent answer old new → old.store.faults ≤ new.store.faults
    by_spent (Some fault) answer closes = omega (arith, ap (λ (s : Standing). s.store.faults) closes.1)
    by_spent None done.Ok closes = omega (arith, closes.0.0.store_faults)
    by_spent None done.StoreFault closes = rose_le old.store.faults new.store.faults closes.0.rose
    by_spent None done.LaunchFault closes = omega (arith, closes.0.store_faults)

closes_launcher : (answer : Done) (old new : Standing) → Closes answer old new → old.launcher.faults ≤ new.launcher.faults
closes_launcher answer old new closes = by_spent old.outputs.spent answer closes
  where
    by_spent : (spent : Option Fault) (answer : Done) → ClosesBy spent answer old new → old.launcher.faults ≤ new.launcher.faults
    by_spent (Some fault) answer closes = omega (arith, ap (λ (s : Standing). s.launcher.faults) closes.1)
    by_spent None done.Ok closes = omega (arith, closes.0.0.launcher_faults)
    by_spent None done.StoreFault closes = omega (arith, ap (λ (l : LauncherRecord). l.faults) closes.0.launcher)
    by_spent None done.LaunchFault closes = rose_le old.launcher.faults new.launcher.faults closes.0.rose

idled_le : (go : Go) (old new : GateRecord) → Idles go old new → old.stops ≤ new.stops
idled_le go.On old new idled = omega (arith, ap (λ (g : GateRecord). g.stops) idled.1)
idled_le go.Stop old new idled = rose_le old.stops new.stops idled.1.0

idled_all_le : (goes : List Go) (old new : GateRecord) → IdledAll goes old new → old.stops ≤ new.stops
idled_all_le [] old new idled = omega (arith, ap (λ (g : GateRecord). g.stops) idled)
idled_all_le (go ∷ goes) old new idled = omega (arith, idled_le go old idled.0 idled.1, idled_all_le goes idled.0 new idled.2)

-- the last answer was to stop
stops_rose : (goes : List Go) (old new : GateRecord) → IdledAll (goes ++ go.Stop ∷ []) old new → Rose old.stops new.stops
stops_rose [] old new idled = subst (λ (g : GateRecord). Rose old.stops g.stops) (sym idled.2) idled.1.1.0
stops_rose (go ∷ goes) old new idled = Rose-later old.stops idled.0.stops new.stops (idled_le go old idled.0 idled.1) (stops_rose goes idled.0 new idled.2)

-- ---- an end

abbrev EndCause : ActEnd → PassView → Type 0
EndCause end.Stopped pass = Unit {0}
EndCause why pass = CauseOf why pass

-- what is known at every end of acting on products
pub record Ended (why : ActEnd) (k : ℕ) (work : Parted) (old new : Sight) : Type 0 where
  pub uses : Uses k old.pass new.pass (replies_of work)
  pub carried : Carries why work.whole.deeds work.in_hand.deeds old.standing new.standing
  pub logged : LogsBy why work old.log new.log
  pub log_count : LogCount why old.log new.log
  pub cause : EndCause why new.pass
  pub cursor : KeepsCursor why new.pass k

ended_of : (why : ActEnd) (k : ℕ) (work : Parted) (old new : Sight) → EndsSo why k work old new → Ended why k work old new
ended_of end.Stopped k work old new ends = record {
  uses = ends.0.uses;
  carried = ends.0.carried;
  logged = ends.0.logged;
  log_count = ends.0.log_faults;
  cause = tt;
  cursor = (None, ends.1);
}
ended_of why k work old new ends = record {
  uses = ends.uses;
  carried = ends.carried;
  logged = ends.logged;
  log_count = ends.log_count;
  cause = ends.cause;
  cursor = ends.cursor;
}

keeps_cursor : (why : ActEnd) (pass : PassView) (k : ℕ) → (why ≡ end.Worn → ⊥) → KeepsCursor why pass k → (held : Option ℕ) × HasCursor pass k held
keeps_cursor end.Worn pass k not_worn keeps = absurd (not_worn refl)
keeps_cursor why pass k not_worn keeps = keeps

-- the cursor can be closed
pub still_open : (why : ActEnd) (entries : List EntryView) (k : ℕ) (old new : Gated) → Follows why entries k old new
    → (why ≡ end.Worn → ⊥) → (held : Option ℕ) × HasCursor new.sight.pass k held
still_open why entries k old new follows not_worn =
    keeps_cursor why new.sight.pass k not_worn (ended_of why k _ old.sight new.sight follows.ends).cursor

-- ---- outputs that kept nothing at first

-- no fault of an earlier call is theirs
rose_now : (why : Fault) (count count' : ℕ) (store : StoreRecord) (launcher : LauncherRecord) (new : Standing) → Faulted why count count' (standing no_outputs store launcher) new
    → Rose count count'
rose_now why count count' store launcher new (inl rose) = rose
rose_now why count count' store launcher new (inr spent) = absurd (let no : None ≡ Some why = spent.0 in cc)

closed_of : (answer : Done) (mid new : Standing) → mid.outputs.spent ≡ None → Closes answer mid new → ClosesBy None answer mid new
closed_of answer mid new none closes = subst (λ (spent : Option Fault). ClosesBy spent answer mid new) none closes

-- ---- why it ended

module _ (entries : List EntryView) (k : ℕ) (old new : Situation) (p1 p2 : PassView) (mid : Standing) (left : OutputsView) where
  abbrev FollowsTo : ActEnd → Type 0
  FollowsTo ended =
      Follows ended entries k (gated_of (sight_of p1 (standing no_outputs old.store old.launcher) old.log) old.gate) (gated_of (sight_of p2 mid new.log) new.gate)

  abbrev ClosesTo : Done → Type 0
  ClosesTo answer = Closes answer mid (standing left new.store new.launcher)

  cause_after : (ended : ActEnd) (answer : Done) → (ended ≡ end.Worn → ⊥) → FollowsTo ended → ClosesTo answer → ActCause (end_after ended answer) old new
  cause_after end.Stopped done.Ok not_worn follows closes =
      stops_rose (map (λ (stretch : Stretch). go.On) follows.course.stretches) old.gate new.gate follows.idled
  cause_after end.Stopped done.StoreFault not_worn follows closes =
      let stands = follows.ends.0.carried in
      let now = closed_of done.StoreFault mid (standing left new.store new.launcher) stands.as_before closes in
      Rose-later old.store.faults mid.store.faults new.store.faults (omega (arith, stands.store_faults)) now.0.rose
  cause_after end.Stopped done.LaunchFault not_worn follows closes =
      let stands = follows.ends.0.carried in
      let now = closed_of done.LaunchFault mid (standing left new.store new.launcher) stands.as_before closes in
      Rose-later old.launcher.faults mid.launcher.faults new.launcher.faults (omega (arith, stands.launcher_faults)) now.0.rose
  cause_after end.StoreFault answer not_worn follows closes =
      rose_before old.store.faults mid.store.faults new.store.faults
      (rose_now fault.Store old.store.faults mid.store.faults old.store old.launcher mid follows.ends.carried.store_count)
      (closes_store answer mid (standing left new.store new.launcher) closes)
  cause_after end.LaunchFault answer not_worn follows closes =
      rose_before old.launcher.faults mid.launcher.faults new.launcher.faults
      (rose_now fault.Launch old.launcher.faults mid.launcher.faults old.store old.launcher mid follows.ends.carried.launcher_count)
      (closes_launcher answer mid (standing left new.store new.launcher) closes)
  cause_after end.LogFault answer not_worn follows closes = follows.ends.log_count
  cause_after end.AllBusy answer not_worn follows closes = absurd follows.ends.cause
  cause_after end.Worn answer not_worn follows closes = absurd (not_worn refl)
  cause_after end.OutOfMemory answer not_worn follows closes = tt

  stands_after : (ended : ActEnd) (answer : Done) (follows : FollowsTo ended) → ClosesTo answer
      → StandsAt (end_after ended answer) (course_work ended entries follows.course).whole.deeds old new
  stands_after end.Stopped done.Ok follows closes =
      let stands = follows.ends.0.carried in
      let now = closed_of done.Ok mid (standing left new.store new.launcher) stands.as_before closes in
      let unpiped : World → World = λ w. record { outside = w.outside; piped = [] } in
      ap unpiped now.0.0.world_now ∙ ap closed stands.world
  stands_after end.Stopped done.StoreFault follows closes = tt
  stands_after end.Stopped done.LaunchFault follows closes = tt
  stands_after why answer follows closes = tt

is_end_after : (ended : ActEnd) (answer : Done) → IsEndAfter (end_after ended answer) ended answer
is_end_after end.Stopped done.Ok = refl
is_end_after end.Stopped done.StoreFault = refl
is_end_after end.Stopped done.LaunchFault = refl
is_end_after end.Worn answer = tt
is_end_after why answer = refl

closing_after : (ended : ActEnd) (answer : Done) (actor k : ℕ) → (ended ≡ end.Worn → ⊥)
    → closing_calls (end_after ended answer) actor k ≡ record { actor = actor; event = event.Close k; reply = reply.Closed } ∷ []
closing_after end.Stopped done.Ok actor k not_worn = refl
closing_after end.Stopped done.StoreFault actor k not_worn = refl
closing_after end.Stopped done.LaunchFault actor k not_worn = refl
closing_after end.Worn answer actor k not_worn = absurd (not_worn refl)
closing_after why answer actor k not_worn = refl

-- ---- all of it

-- the calls: the opening, the uses and the closing
uses_opened : (why : ActEnd) (k : ℕ) (p0 p1 p2 p3 : PassView) (answers : List Reply) → Grows p0 p1 opening (reply.Opened k) → Uses k p1 p2 answers
    → Calls p2 p3 (closing_calls why p2.actor k) → UsesOpened why k p0 p3 answers
uses_opened why k p0 p1 p2 p3 answers opened uses closing =
    let first = calls_some p0 p1 (opening_call p0.actor (reply.Opened k) ∷ []) opened.makes in
    let two = calls_trans p0 p1 p2 (opening_call p0.actor (reply.Opened k) ∷ []) uses.called first uses.calls in
    let actor : p2.actor ≡ p0.actor = ap (λ (p : PassView). p.actor) two.same in
    record {
      called = uses.called;
      calls =
          calls_trans p0 p2 p3 (opening_call p0.actor (reply.Opened k) ∷ uses.called) (closing_calls why p0.actor k) two
          (subst (λ (n : ℕ). Calls p2 p3 (closing_calls why n k)) actor closing);
      are_uses = uses.are_uses;
      answered = uses.answered;
    }

module _ (law : RowsStay) (entries : List EntryView) (k : ℕ) (old new : Situation) (p1 p2 : PassView) (mid : Standing) (left : OutputsView) (ended : ActEnd) (answer : Done) where
  acts_opened : (why : ActEnd) → IsEndAfter why ended answer → ActCause why old new → Grows old.pass p1 opening (reply.Opened k)
      → (follows : Follows ended entries k (gated_of (sight_of p1 (standing no_outputs old.store old.launcher) old.log) old.gate) (gated_of (sight_of p2 mid new.log) new.gate))
      → Closes answer mid (standing left new.store new.launcher) → Calls p2 new.pass (closing_calls why p2.actor k)
      → StandsAt why (course_work ended entries follows.course).whole.deeds old new → ActsOpened why entries old new
  acts_opened why is_end cause opened follows closes closing stands =
      let ends = ended_of ended k (course_work ended entries follows.course) (sight_of p1 (standing no_outputs old.store old.launcher) old.log) (sight_of p2 mid new.log) follows.ends in
      record {
        k = k;
        course = follows.course;
        ended = ended;
        answer = answer;
        is_end = is_end;
        cause = cause;
        is_in_hand = follows.is_in_hand;
        uses = uses_opened why k old.pass p1 p2 new.pass _ opened ends.uses closing;
        rows = rows_stay law p2 new.pass (closing_calls why p2.actor k) (products_of (turns_of follows.course)) closing follows.rows;
        carries = record { mid = mid; carried = ends.carried; left = left; closes = closes };
        stands = stands;
        logged = ends.logged;
        log_count = ends.log_count;
        idled = follows.idled;
      }

  module _ (kept : OutputsView) (none : kept ≡ no_outputs) (opened : Grows old.pass p1 opening (reply.Opened k)) (came : Follows ended entries k (gated_of (sight_of p1 (standing kept old.store old.launcher) old.log) old.gate) (gated_of (sight_of p2 mid new.log) new.gate)) (closes : Closes answer mid (standing left new.store new.launcher)) where
    at_first : Follows ended entries k (gated_of (sight_of p1 (standing no_outputs old.store old.launcher) old.log) old.gate) (gated_of (sight_of p2 mid new.log) new.gate)
    at_first =
        subst
        (λ (o : OutputsView). Follows ended entries k (gated_of (sight_of p1 (standing o old.store old.launcher) old.log) old.gate) (gated_of (sight_of p2 mid new.log) new.gate))
        none came

    -- the cursor was closed
    pub acts_closed : (ended ≡ end.Worn → ⊥) → Grows p2 new.pass (event.Close k) reply.Closed → ActsOpened (end_after ended answer) entries old new
    acts_closed not_worn closing =
        acts_opened (end_after ended answer) (is_end_after ended answer) (cause_after entries k old new p1 p2 mid left ended answer not_worn at_first closes) opened
        at_first closes (rw (closing_after ended answer p2.actor k not_worn) (calls_some p2 new.pass _ closing.makes))
        (stands_after entries k old new p1 p2 mid left ended answer at_first closes)

    -- the queue had had all its calls
    pub acts_worn : Calls p2 new.pass [] → length new.pass.seen ≡ MOST_TURNS → ActsOpened end.Worn entries old new
    acts_worn closing long = acts_opened end.Worn tt long opened at_first closes closing tt

-- the cause of an end at which the queue had had all its calls
pub worn_cause : (entries : List EntryView) (k : ℕ) (why : ActEnd) (old new : Gated) → Follows why entries k old new → why ≡ end.Worn
    → length new.sight.pass.seen ≡ MOST_TURNS
worn_cause entries k why old new follows is =
    subst (λ (x : ActEnd). EndCause x new.sight.pass) is (ended_of why k _ old.sight new.sight follows.ends).cause

-- ---- what all ends have in common

pub counts_opened : (why : ActEnd) (entries : List EntryView) (old new : Situation) → ActsOpened why entries old new → KeepsActCounts old new
counts_opened why entries old new acts =
    let mid = acts.carries.mid in
    let first = standing no_outputs old.store old.launcher in
    let last = standing acts.carries.left new.store new.launcher in
    let work = course_work acts.ended entries acts.course in
    record {
      store = omega (arith, carried_store acts.ended work.whole.deeds work.in_hand.deeds first mid acts.carries.carried, closes_store acts.answer mid last acts.carries.closes);
      launcher = omega (arith, carried_launcher acts.ended work.whole.deeds work.in_hand.deeds first mid acts.carries.carried, closes_launcher acts.answer mid last acts.carries.closes);
      log = log_le acts.ended old.log new.log acts.log_count;
      gate = idled_all_le (goes_of acts.ended acts.course) old.gate new.gate acts.idled;
    }

pub counts_none : (pass pass' : PassView) (store : StoreRecord) (launcher : LauncherRecord) (log : SinkRecord) (gate : GateRecord)
    → KeepsActCounts (situation_of pass store launcher log gate) (situation_of pass' store launcher log gate)
counts_none pass pass' store launcher log gate = record { store = omega arith; launcher = omega arith; log = omega arith; gate = omega arith }
