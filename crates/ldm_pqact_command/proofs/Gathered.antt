-- What a whole gathering came to: piece by piece.
use Rattle.std.proofs.Common.{◌≡◌, ◌∙◌, ℕ, ◌-◌, ◌≤◌, false, List, [], ◌∷◌, ◌++◌, length, map, Option, Some, None, inl, inr, ◌⊎◌, refl, sym, ap, subst, append_assoc, arith}
use Rattle.std.specs.Prelude.{IfSome, ◌+◌, ◌<◌}
use Rattle.std.specs.List.{flat_map}
use Rattle.std.specs.Option.{ForSome}
use Rattle.std.proofs.lemmas.List.{append-nil, length-append, map-append}
use Rattle.std.proofs.lemmas.List.Concat.{flat_map-append}
use Rattle.ldm_model.specs.declared.event.Reply.{Reply}
use Rattle.ldm_model.specs.declared.event.Reply.TheVariants as reply
use Rattle.ldm_outside.specs.Count.{Rose}
use Rattle.ldm_outside.specs.Io.{SinkRecord}
use Rattle.ldm_outside.specs.Launcher.{LauncherRecord}
use Rattle.ldm_outside.specs.Store.{StoreRecord}
use Rattle.ldm_outside.proofs.CallerLemmas.{Rose-later}
use Rattle.ldm_shared.specs.declared.steps.TheConstants.{MOST_TURNS}
use Rattle.ldm_shared.specs.Passes.{PassView}
use Rattle.ldm_actions.specs.declared.answers.Fault.{Fault}
use Rattle.ldm_actions.specs.declared.answers.Fault.TheVariants as fault
use Rattle.ldm_actions.specs.Effects.{Action}
use Rattle.ldm_actions.specs.Outputs.{Standing}
use Rattle.ldm_intake.specs.declared.end.RecvEnd.{RecvEnd}
use Rattle.ldm_intake.specs.declared.end.RecvEnd.TheVariants.{Ended, Truncated, BadFrame, Refused, LinkFault, LogFault, StreamLimit, Worn, OutOfMemory}
use Rattle.ldm_intake.specs.Receiving.{Receiving}
use Rattle.ldm_downstream.specs.Pieces.{Piece}
use Rattle.ldm_downstream.specs.ReceiverView.{before_stream}
use Rattle.ldm_gather.specs.declared.end.GatherEnd.{GatherEnd}
use Rattle.ldm_gather.specs.declared.end.GatherEnd.TheVariants as gather_end
use Rattle.ldm_gather.specs.declared.end.Handled.{Handled}
use Rattle.ldm_gather.specs.declared.end.Handled.TheVariants as handled
use Rattle.ldm_gather.specs.Gathering.{Asks, BeginsNot, Comes, EndsBy, EndsStream, GathersAll, Gathers, GoesOn, TakesPiece}
use Rattle.ldm_gather.specs.EachCourse.{Gives, told, told_by}
use Rattle.ldm_gather.specs.Quiet.{CallsQuietly}
use Rattle.ldm_gather.specs.Scene.{Lent, GatherMoment, Scene, moment_of}
use Rattle.ldm_gather.proofs.Giving.{closes-none, comes-quiet, gives-quiet, gives-then, gives-uses, live-at, quiet-none, told-end, told-none, told-turns}
use Rattle.ldm_pqact.specs.declared.end.ActEnd.{ActEnd}
use Rattle.ldm_pqact.specs.declared.end.ActEnd.TheVariants as end
use Rattle.ldm_pqact.specs.Acting.{Breaks, EndsSo, IsInHand, LogCount, Run, Sight, last_answer, parted_of, sight_of}
use Rattle.ldm_pqact.specs.Carried.{BreaksOff, Carries, DoesBy, Faulted, Stands}
use Rattle.ldm_pqact.specs.Lasting.{last_behind, last_from, last_of}
use Rattle.ldm_shared.specs.Counting.{count_given, left_behind}
use Rattle.ldm_shared.specs.Givens.{Gave, Lost, Turn, count_of, products_of, turn_product, turn_reply}
use Rattle.ldm_pqact.specs.Turns.{deeds_of, turn_deeds}
use Rattle.ldm_pqact.specs.Work.{Parted, replies_of}
use Rattle.ldm_pqact.proofs.Carrying.{Deed, breaks_off_then, stands_none, stands_then}
use Rattle.ldm_shared.proofs.Counting.{count_given-append, counted_by, left_behind-more, left_behind-none, turns-given}
use Rattle.ldm_pqact.proofs.Coursing.{called_at}
use Rattle.ldm_pqact.proofs.Lasting.{last_from-append, lasts_by}
use Rattle.ldm_shared.proofs.Using.{RowsStay, count_of-append}
use Rattle.ldm_pqact_conf.specs.Entries.{EntryView}
use Rattle.ldm_pqact_command.specs.declared.stop.ActStop.{ActStop}
use Rattle.ldm_pqact_command.specs.declared.stop.ActStop.TheVariants as stop
use Rattle.ldm_pqact_command.specs.ActerView.{ActerView}
use Rattle.ldm_pqact_command.specs.Course.{ActsAll, AreDeeds, Came, HasStopCause, IsCounted, IsEndedBy, IsRest, StopCause, turns_in}
use Rattle.ldm_pqact_command.specs.Handling.{ActHandles, EndsFor, Leaves, standing_in}
use Rattle.ldm_pqact_command.specs.State.{KeepsState, StateActions, state_deeds}
use Rattle.ldm_pqact_command.specs.Statuses.{IfStopped}
use Rattle.ldm_pqact_command.specs.Stops.{end_of}
use Rattle.ldm_pqact_command.proofs.Carried.{Parts, parts_of}
use Rattle.ldm_pqact_command.proofs.Kept.{rose_le}

-- ---- answers

told-last : (why : ActEnd) (turns : List Turn) (at : ℕ) → told (map turn_reply turns ++ last_answer why at) ≡ map turn_reply turns
told-last end.Stopped turns at = told-end turns at
told-last why turns at = told-none turns

told-run : (why : ActEnd) (run : Run) (entries : List EntryView) → told (replies_of (parted_of why entries run)) ≡ map turn_reply (run.turns ++ run.in_hand)
told-run why run entries =
    flat_map-append told_by (map turn_reply run.turns) (map turn_reply run.in_hand ++ last_answer why run.at)
    ∙ (ap (λ (xs : List Reply). xs ++ told (map turn_reply run.in_hand ++ last_answer why run.at)) (told-turns run.turns)
    ∙ (ap (λ (xs : List Reply). map turn_reply run.turns ++ xs) (told-last why run.in_hand run.at) ∙ sym (map-append turn_reply run.turns run.in_hand)))

-- a pass that is as it was made no calls
quiet-same : (pass after : PassView) → after ≡ pass → CallsQuietly pass after
quiet-same pass after same = subst (λ (p : PassView). CallsQuietly pass p) (sym same) (quiet-none pass)

-- ---- how many products were given

-- what is not told gives no product
told-by-given : (answer : Reply) → count_given (answer ∷ []) ≡ count_given (told_by answer)
told-by-given (reply.End at) = refl
told-by-given answer = refl

told-given : (answers : List Reply) → count_given answers ≡ count_given (told answers)
told-given [] = refl
told-given (answer ∷ answers) =
    count_given-append (answer ∷ []) answers
    ∙ (ap (λ (n : ℕ). n + count_given answers) (told-by-given answer)
    ∙ (ap (λ (n : ℕ). count_given (told_by answer) + n) (told-given answers) ∙ sym (count_given-append (told_by answer) (told answers))))

run-given : (why : ActEnd) (run : Run) (entries : List EntryView) → count_given (replies_of (parted_of why entries run)) ≡ count_of (run.turns ++ run.in_hand)
run-given why run entries =
    told-given (replies_of (parted_of why entries run)) ∙ (ap count_given (told-run why run entries) ∙ turns-given (run.turns ++ run.in_hand))

-- ---- the last product

last-by : (last : Option (List ℕ)) (answer : Reply) → last_behind last answer ≡ last_from last (told_by answer)
last-by last (reply.End at) = refl
last-by last answer = refl

last-told : (last : Option (List ℕ)) (answers : List Reply) → last_from last answers ≡ last_from last (told answers)
last-told last [] = refl
last-told last (answer ∷ answers) =
    ap (λ (l : Option (List ℕ)). last_from l answers) (last-by last answer)
    ∙ (last-told (last_from last (told_by answer)) answers ∙ sym (last_from-append last (told_by answer) (told answers)))

run-last : (why : ActEnd) (run : Run) (entries : List EntryView) → last_from None (replies_of (parted_of why entries run)) ≡ last_of (run.turns ++ run.in_hand)
run-last why run entries =
    last-told None (replies_of (parted_of why entries run)) ∙ ap (λ (xs : List Reply). last_from None xs) (told-run why run entries)

-- ---- a count

-- some products are left of a count, if some were before
abbrev StaysSome : Option ℕ → Option ℕ → Type 0
StaysSome left after = ForSome left (λ n. 0 < n) → ForSome after (λ n. 0 < n)

-- by what a handler answered last
abbrev LeavesBy : Handled → Option ℕ → Option ℕ → Type 0
LeavesBy handled.On left after = StaysSome left after
LeavesBy handled.Enough left after = after ≡ Some 0
LeavesBy handled.Stopped left after = Unit {0}

leaves_by : (answer : Handled) (left after : Option ℕ) → Leaves answer after → LeavesBy answer left after
leaves_by handled.On left after leaves = λ some. leaves
leaves_by handled.Enough left after leaves = leaves
leaves_by handled.Stopped left after leaves = tt

leaves_then : (answer : Handled) (left mid after : Option ℕ) → StaysSome left mid → LeavesBy answer mid after → LeavesBy answer left after
leaves_then handled.On left mid after one two = λ some. two (one some)
leaves_then handled.Enough left mid after one two = two
leaves_then handled.Stopped left mid after one two = tt

-- what the handler answered last, where a gathering ended so
abbrev answer_at : GatherEnd → Handled
answer_at (gather_end.Received received) = handled.On
answer_at gather_end.Enough = handled.Enough
answer_at gather_end.Stopped = handled.Stopped

counted_at : (e : GatherEnd) (left after : Option ℕ) (n : ℕ) → after ≡ left_behind left n → LeavesBy (answer_at e) left after → IsCounted e left n
counted_at (gather_end.Received received) left after n is leaves = λ most is_most some.
    let behind : after ≡ Some (most - n) = is ∙ ap (λ (l : Option ℕ). left_behind l n) is_most in
    let first : ForSome left (λ m. 0 < m) = λ m is_m. (
    let one : Some most ≡ Some m = sym is_most ∙ is_m in
    let same : most ≡ m = cc one in
    subst (λ (x : ℕ). 0 < x) same some) in
    let left_some : 0 < most - n = leaves first (most - n) behind in
    omega (arith, left_some)
counted_at gather_end.Enough None after n is leaves = absurd (let no : None ≡ Some 0 = sym is ∙ leaves in cc no)
counted_at gather_end.Enough (Some most) after n is leaves =
    let one : Some (most - n) ≡ Some 0 = sym is ∙ leaves in
    let none : most - n ≡ 0 = cc one in (most, refl, omega (arith, none))
counted_at gather_end.Stopped left after n is leaves = tt

-- ---- what was done, one after another

carried_at : (why : ActEnd) (k : ℕ) (work : Parted) (old new : Sight) → EndsSo why k work old new
    → Carries why work.whole.deeds work.in_hand.deeds old.standing new.standing
carried_at end.Stopped k work old new ends = ends.0.carried
carried_at why k work old new ends = ends.carried

-- the count of the log
log_count_at : (why : ActEnd) (k : ℕ) (work : Parted) (old new : Sight) → EndsSo why k work old new → LogCount why old.log new.log
log_count_at end.Stopped k work old new ends = ends.0.log_faults
log_count_at why k work old new ends = ends.log_count

le_then : (a b c : ℕ) → a ≤ b → b ≤ c → a ≤ c
le_then a b c one two = omega (arith, one, two)

log_count_then : (why : ActEnd) (a b c : SinkRecord) → a.faults ≤ b.faults → LogCount why b c → LogCount why a c
log_count_then end.LogFault a b c kept count = Rose-later a.faults b.faults c.faults kept count
log_count_then why a b c kept count = le_then a.faults b.faults c.faults kept count

carries_then : (why : ActEnd) (first second in_hand : List (Action × List ℕ)) (a b c : Standing) → Stands first a b → Carries why second in_hand b c
    → Carries why (first ++ second) in_hand a c
carries_then end.Stopped first second in_hand a b c one two = stands_then first second a b c one two
carries_then why first second in_hand a b c one two = breaks_off_then why first second in_hand a b c one two

-- ---- what the handler stopped for

-- the queue has had all its calls where acting on products ended for that
ends_worn : (ended : ActEnd) (k : ℕ) (work : Parted) (old new : Sight) → ended ≡ end.Worn → EndsSo ended k work old new → length new.pass.seen ≡ MOST_TURNS
ends_worn ended k work old new is ends =
    let broke : Breaks end.Worn k work old new = subst (λ (e : ActEnd). EndsSo e k work old new) is ends in
    broke.cause

-- What it stopped for, and how acting on products then ended.
record Stops (why : Option ActStop) (ended : ActEnd) (pass : PassView) : Type 0 where
  cause : ActStop
  is_why : why ≡ Some cause
  is_end : ended ≡ end_of cause
  worn : cause ≡ stop.Worn → length pass.seen ≡ MOST_TURNS

stops_by : (ended : ActEnd) (why : Option ActStop) (pass : PassView) → (ended ≡ end.Worn → length pass.seen ≡ MOST_TURNS) → EndsFor handled.Stopped why ended
    → Stops why ended pass
stops_by ended why pass worn stopped =
    record { cause = stopped.0; is_why = stopped.1; is_end = stopped.2; worn = λ is. worn (stopped.2 ∙ ap end_of is) }

-- the state is not what the queue has no call for
worn_of : (acted ended : ActEnd) (deeds : List Deed) (mid new : Standing) → KeepsState acted ended deeds mid new → ended ≡ end.Worn → acted ≡ end.Worn
worn_of end.Stopped ended [] mid new keeps is = sym keeps.1 ∙ is
worn_of end.Stopped ended (deed ∷ deeds) mid new keeps is =
    let no : DoesBy end.Worn (deed ∷ deeds) mid new = subst (λ (e : ActEnd). DoesBy e (deed ∷ deeds) mid new) is keeps in absurd no.0
worn_of acted ended deeds mid new keeps is = sym keeps.1 ∙ is

-- outputs that were not spent before have no earlier fault to answer again
rose_now : (why : Fault) (count count' : ℕ) (old new : Standing) → old.outputs.spent ≡ None → Faulted why count count' old new → Rose count count'
rose_now why count count' old new none (inl rose) = rose
rose_now why count count' old new none (inr spent) = absurd (let no : None ≡ Some why = sym none ∙ spent.0 in cc)

cause_at : (cause : ActStop) (whole in_hand : List (Action × List ℕ)) (old new : Sight) → old.standing.outputs.spent ≡ None
    → Carries (end_of cause) whole in_hand old.standing new.standing → LogCount (end_of cause) old.log new.log
    → (cause ≡ stop.Worn → length new.pass.seen ≡ MOST_TURNS) → StopCause cause old new
cause_at stop.StoreFault whole in_hand old new none carried count worn =
    rose_now fault.Store old.standing.store.faults new.standing.store.faults old.standing new.standing none carried.store_count
cause_at stop.LaunchFault whole in_hand old new none carried count worn =
    rose_now fault.Launch old.standing.launcher.faults new.standing.launcher.faults old.standing new.standing none carried.launcher_count
cause_at stop.LogFault whole in_hand old new none carried count worn = count
cause_at stop.Worn whole in_hand old new none carried count worn = worn refl
cause_at stop.OutOfMemory whole in_hand old new none carried count worn = tt

-- ---- batches

-- what is done with a batch, with a state or without one
abbrev done_with : Option StateActions → List EntryView → List Turn → List Deed
done_with state entries batch = deeds_of entries batch ++ state_deeds state (last_of batch)

abbrev all_done : Option StateActions → List EntryView → List (List Turn) → List Deed
all_done state entries batches = flat_map (done_with state entries) batches

-- of what a part may stand
abbrev IsBroken : Option StateActions → List EntryView → (rest held : List Turn) → List Deed → Type 0
IsBroken state entries rest held broken = (broken ≡ deeds_of entries held) ⊎ ((held ≡ []) × (broken ≡ state_deeds state (last_of rest)))

-- a fact where acting on products was broken off
abbrev AtBreak : ActEnd → Type 0 → Type 0
AtBreak end.Stopped P = Unit {0}
AtBreak why P = P

abbrev turns_by : List (List Turn) → (rest held : List Turn) → List Turn
turns_by batches rest held = turns_in batches ++ (rest ++ held)

-- What one call of the handler came to.
record Batched (state : Option StateActions) (entries : List EntryView) (ended : ActEnd) (turns : List Turn) (last : Option (List ℕ)) (old new : Standing) : Type 0 where
  batches : List (List Turn)
  rest : List Turn
  held : List Turn
  broken : List Deed
  is_rest : IsRest ended rest
  is_held : IsInHand ended held
  is_broken : IsBroken state entries rest held broken
  are_turns : turns_by batches rest held ≡ turns
  carried : Carries ended (all_done state entries batches ++ deeds_of entries rest) broken old new
  is_last : AtBreak ended (last ≡ last_of (rest ++ held))

module _ (state : Option StateActions) (entries : List EntryView) (turns held : List Turn) (last : Option (List ℕ)) (is_last : last ≡ last_of (turns ++ held)) (old : Standing) where
  -- all of it is whole
  whole_batch : (new : Standing) → held ≡ [] → Stands (deeds_of entries turns ++ state_deeds state last) old new → Batched state entries end.Stopped (turns ++ held) last old new
  whole_batch new none stands =
      let all : turns ++ held ≡ turns = ap (λ (ts : List Turn). turns ++ ts) none ∙ append-nil turns in
      let last_now : last ≡ last_of turns = is_last ∙ ap last_of all in
      let done : List Deed = done_with state entries turns in
      let now : Stands done old new =
      subst (λ (l : Option (List ℕ)). Stands (deeds_of entries turns ++ state_deeds state l) old new) last_now stands in
      record {
        batches = turns ∷ [];
        rest = [];
        held = [];
        broken = [];
        is_rest = refl;
        is_held = refl;
        is_broken = inl refl;
        are_turns = append-nil (turns ++ []) ∙ (append-nil turns ∙ sym all);
        carried = subst (λ (ds : List Deed). Stands ds old new) (sym (append-nil (done ++ []) ∙ append-nil done)) now;
        is_last = tt;
      }

  -- the state was not written, or in part
  broken_state : (why : ActEnd) (deed : Deed) (deeds : List Deed) (mid new : Standing) → held ≡ [] → deed ∷ deeds ≡ state_deeds state last
      → Stands (deeds_of entries turns) old mid → DoesBy why (deed ∷ deeds) mid new → Batched state entries why (turns ++ held) last old new
  broken_state end.Stopped deed deeds mid new none are one two =
      whole_batch new none (subst (λ (ds : List Deed). Stands (deeds_of entries turns ++ ds) old new) are (stands_then (deeds_of entries turns) (deed ∷ deeds) old mid new one two))
  broken_state why deed deeds mid new none are one two =
      let all : turns ++ held ≡ turns = ap (λ (ts : List Turn). turns ++ ts) none ∙ append-nil turns in
      let last_now : last ≡ last_of turns = is_last ∙ ap last_of all in
      let off : BreaksOff why (deeds_of entries turns) (deed ∷ deeds) old new =
      subst (λ (ds : List Deed). BreaksOff why ds (deed ∷ deeds) old new) (append-nil (deeds_of entries turns))
      (breaks_off_then why (deeds_of entries turns) [] (deed ∷ deeds) old mid new one two.1) in
      record {
        batches = [];
        rest = turns;
        held = [];
        broken = deed ∷ deeds;
        is_rest = tt;
        is_held = omega arith;
        is_broken = inr (refl, are ∙ ap (λ (l : Option (List ℕ)). state_deeds state l) last_now);
        are_turns = append-nil turns ∙ sym all;
        carried = off;
        is_last = last_now ∙ ap last_of (sym (append-nil turns));
      }

  by_state : (ended : ActEnd) (deeds : List Deed) (mid new : Standing) → held ≡ [] → deeds ≡ state_deeds state last → Stands (deeds_of entries turns) old mid
      → KeepsState end.Stopped ended deeds mid new → Batched state entries ended (turns ++ held) last old new
  by_state ended [] mid new none are stands keeps =
      let still : Stands (deeds_of entries turns) old new = subst (λ (s : Standing). Stands (deeds_of entries turns) old s) (sym keeps.0) stands in
      subst (λ (e : ActEnd). Batched state entries e (turns ++ held) last old new) (sym keeps.1)
      (whole_batch new none
      (subst (λ (ds : List Deed). Stands ds old new)
      (sym (append-nil (deeds_of entries turns)) ∙ ap (λ (ds : List Deed). deeds_of entries turns ++ ds) are) still))
  by_state ended (deed ∷ deeds) mid new none are stands keeps = broken_state ended deed deeds mid new none are stands keeps

  -- acting on products was broken off
  broken_turn : (why : ActEnd) (new : Standing) → IsInHand why held → Carries why (deeds_of entries turns) (deeds_of entries held) old new
      → AtBreak why (Batched state entries why (turns ++ held) last old new)
  broken_turn end.Stopped new few carried = tt
  broken_turn why new few carried = record {
    batches = [];
    rest = turns;
    held = held;
    broken = deeds_of entries held;
    is_rest = tt;
    is_held = few;
    is_broken = inl refl;
    are_turns = refl;
    carried = carried;
    is_last = is_last;
  }

  batched : (acted ended : ActEnd) (mid new : Standing) → IsInHand acted held → Carries acted (deeds_of entries turns) (deeds_of entries held) old mid
      → KeepsState acted ended (state_deeds state last) mid new → Batched state entries ended (turns ++ held) last old new
  batched end.Stopped ended mid new few carried keeps = by_state ended (state_deeds state last) mid new few refl carried keeps
  batched acted ended mid new few carried keeps =
      let still : Carries acted (deeds_of entries turns) (deeds_of entries held) old new =
      subst (λ (s : Standing). Carries acted (deeds_of entries turns) (deeds_of entries held) old s) (sym keeps.0) carried in
      subst (λ (e : ActEnd). Batched state entries e (turns ++ held) last old new) (sym keeps.1) (broken_turn acted new few still)

-- without a state there is nothing but what entries choose
none_done : (entries : List EntryView) (batches : List (List Turn)) → all_done None entries batches ≡ deeds_of entries (turns_in batches)
none_done entries [] = refl
none_done entries (batch ∷ batches) =
    ap (λ (ds : List Deed). ds ++ all_done None entries batches) (append-nil (deeds_of entries batch))
    ∙ (ap (λ (ds : List Deed). deeds_of entries batch ++ ds) (none_done entries batches) ∙ sym (flat_map-append (turn_deeds entries) batch (turns_in batches)))

abbrev came_of : Option StateActions → List EntryView → List (List Turn) → (rest held : List Turn) → List Deed → Came
came_of state entries batches rest held broken = record {
  turns = turns_in batches ++ rest;
  in_hand = held;
  whole = all_done state entries batches ++ deeds_of entries rest;
  broken = broken;
  last = last_of (rest ++ held);
}

none_broken : (entries : List EntryView) (rest held : List Turn) (broken : List Deed) → IsBroken None entries rest held broken → broken ≡ deeds_of entries held
none_broken entries rest held broken (inl is) = is
none_broken entries rest held broken (inr is) = is.1 ∙ ap (deeds_of entries) (sym is.0)

deeds_are : (state : Option StateActions) (entries : List EntryView) (ended : ActEnd) (batches : List (List Turn)) (rest held : List Turn) (broken : List Deed)
    → IsRest ended rest → IsBroken state entries rest held broken → AreDeeds state entries ended (came_of state entries batches rest held broken)
deeds_are None entries ended batches rest held broken is_rest is_broken = (
  ap (λ (ds : List Deed). ds ++ deeds_of entries rest) (none_done entries batches) ∙ sym (flat_map-append (turn_deeds entries) (turns_in batches) rest),
  none_broken entries rest held broken is_broken,
)
deeds_are (Some files) entries ended batches rest held broken is_rest is_broken = record {
  batches = batches;
  rest = rest;
  is_rest = is_rest;
  are_turns = refl;
  are_whole = refl;
  are_broken = is_broken;
  is_last = refl;
}

module _ {F L : Type 0} (store_tells : F → StoreRecord) (launcher_tells : L → LauncherRecord) where
  abbrev At : Type 0
  At = GatherMoment ActerView F L

  abbrev Here : Type 0
  Here = Scene ActerView F L

  abbrev Does : Handled → Here → Here → Type 0
  Does = ActHandles store_tells launcher_tells

  abbrev in_hand : Parts ActerView F L → Standing
  in_hand side = standing_in store_tells launcher_tells side.handler side.first side.second

  -- Entries acted on the products of the cursor, batch by batch and up to such an end, and the handler answered so.
  record Acted (why : ActEnd) (answer : Handled) (old new : Here) : Type 0 where
    batches : List (List Turn)
    rest : List Turn
    held : List Turn
    broken : List Deed
    is_rest : IsRest why rest
    is_held : IsInHand why held
    is_broken : IsBroken old.handler.state old.handler.entries rest held broken
    gives : Gives old.handler.k (turns_by batches rest held) old.pass new.pass
    counted : new.handler.left ≡ left_behind old.handler.left (count_of (turns_by batches rest held))
    leaves : LeavesBy answer old.handler.left new.handler.left
    carried : Carries why (all_done old.handler.state old.handler.entries batches ++ deeds_of old.handler.entries rest) broken (in_hand (parts_of old)) (in_hand (parts_of new))
    is_last : AtBreak why (new.handler.last ≡ last_of (rest ++ held))
    log_count : LogCount why old.log new.log
    same_k : new.handler.k ≡ old.handler.k
    same_entries : new.handler.entries ≡ old.handler.entries
    same_state : new.handler.state ≡ old.handler.state

  -- the log is the same still
  log_kept : (old new : Here) → new.log ≡ old.log → old.log.faults ≤ new.log.faults
  log_kept old new same = let is : new.log.faults ≡ old.log.faults = ap (λ (log : SinkRecord). log.faults) same in omega (arith, is)

  acted_quiet : (old new : Here) → parts_of new ≡ parts_of old → CallsQuietly old.pass new.pass → old.log.faults ≤ new.log.faults → Acted end.Stopped handled.On old new
  acted_quiet old new same quietly kept = record {
    batches = [];
    rest = [];
    held = [];
    broken = [];
    is_rest = refl;
    is_held = refl;
    is_broken = inl refl;
    gives = gives-quiet old.handler.k old.pass new.pass quietly;
    counted = ap (λ (p : Parts ActerView F L). p.handler.left) same ∙ left_behind-none old.handler.left;
    leaves = subst (λ (p : Parts ActerView F L). StaysSome old.handler.left p.handler.left) (sym same) (λ some. some);
    carried = subst (λ (p : Parts ActerView F L). Stands [] (in_hand (parts_of old)) (in_hand p)) (sym same) (stands_none (in_hand (parts_of old)));
    is_last = tt;
    log_count = kept;
    same_k = ap (λ (p : Parts ActerView F L). p.handler.k) same;
    same_entries = ap (λ (p : Parts ActerView F L). p.handler.entries) same;
    same_state = ap (λ (p : Parts ActerView F L). p.handler.state) same;
  }

  acted_then : (law : RowsStay) (why : ActEnd) (answer : Handled) (a b c : Here) → Acted end.Stopped handled.On a b → Acted why answer b c → Acted why answer a c
  acted_then law why answer a b c one two =
      let k = a.handler.k in
      let entries = a.handler.entries in
      let state = a.handler.state in
      let before : List Turn = turns_in one.batches in
      let later : List Turn = turns_by two.batches two.rest two.held in
      let rest_none : turns_by one.batches one.rest one.held ≡ before =
      ap (λ (ts : List Turn). before ++ (ts ++ one.held)) one.is_rest ∙ (ap (λ (ts : List Turn). before ++ ts) one.is_held ∙ append-nil before) in
      let joined : before ++ later ≡ turns_by (one.batches ++ two.batches) two.rest two.held =
      sym (append_assoc before (turns_in two.batches) (two.rest ++ two.held))
      ∙ ap (λ (ts : List Turn). ts ++ (two.rest ++ two.held)) (sym (flat_map-append (λ (batch : List Turn). batch) one.batches two.batches)) in
      let first : Gives k before a.pass b.pass = subst (λ (ts : List Turn). Gives k ts a.pass b.pass) rest_none one.gives in
      let second : Gives k later b.pass c.pass = subst (λ (n : ℕ). Gives n later b.pass c.pass) one.same_k two.gives in
      let done : List Deed = all_done state entries one.batches in
      let more : List Deed = all_done state entries two.batches in
      let over : List Deed = deeds_of entries two.rest in
      let stood : Stands done (in_hand (parts_of a)) (in_hand (parts_of b)) =
      subst (λ (ds : List Deed). Stands ds (in_hand (parts_of a)) (in_hand (parts_of b)))
      (ap (λ (ts : List Turn). done ++ deeds_of entries ts) one.is_rest ∙ append-nil done) one.carried in
      let carried : Carries why (more ++ over) two.broken (in_hand (parts_of b)) (in_hand (parts_of c)) =
      subst (λ (st : Option StateActions). Carries why (all_done st entries two.batches ++ over) two.broken (in_hand (parts_of b)) (in_hand (parts_of c))) one.same_state
      (subst
      (λ (es : List EntryView). Carries why (all_done b.handler.state es two.batches ++ deeds_of es two.rest) two.broken (in_hand (parts_of b)) (in_hand (parts_of c)))
      one.same_entries two.carried) in
      let counted : b.handler.left ≡ left_behind a.handler.left (count_of before) =
      subst (λ (ts : List Turn). b.handler.left ≡ left_behind a.handler.left (count_of ts)) rest_none one.counted in
      record {
        batches = one.batches ++ two.batches;
        rest = two.rest;
        held = two.held;
        broken = two.broken;
        is_rest = two.is_rest;
        is_held = two.is_held;
        is_broken =
            subst (λ (st : Option StateActions). IsBroken st entries two.rest two.held two.broken) one.same_state
            (subst (λ (es : List EntryView). IsBroken b.handler.state es two.rest two.held two.broken) one.same_entries two.is_broken);
        gives = subst (λ (ts : List Turn). Gives k ts a.pass c.pass) joined (gives-then law k before later a.pass b.pass c.pass first second);
        counted =
            two.counted
            ∙ (ap (λ (l : Option ℕ). left_behind l (count_of later)) counted
            ∙ (left_behind-more a.handler.left (count_of before) (count_of later)
            ∙ ap (λ (n : ℕ). left_behind a.handler.left n) (sym (count_of-append before later) ∙ ap count_of joined)));
        leaves = leaves_then answer a.handler.left b.handler.left c.handler.left one.leaves two.leaves;
        carried =
            subst (λ (ds : List Deed). Carries why ds two.broken (in_hand (parts_of a)) (in_hand (parts_of c)))
            (sym (append_assoc done more over) ∙ ap (λ (ds : List Deed). ds ++ over) (sym (flat_map-append (done_with state entries) one.batches two.batches)))
            (carries_then why done (more ++ over) two.broken (in_hand (parts_of a)) (in_hand (parts_of b)) (in_hand (parts_of c)) stood carried);
        is_last = two.is_last;
        log_count = log_count_then why a.log b.log c.log one.log_count two.log_count;
        same_k = two.same_k ∙ one.same_k;
        same_entries = two.same_entries ∙ one.same_entries;
        same_state = two.same_state ∙ one.same_state;
      }

  -- the log has no line of the state
  log_count_kept : (acted ended : ActEnd) (deeds : List Deed) (mid new : Standing) (old_log new_log : SinkRecord) → KeepsState acted ended deeds mid new
      → LogCount acted old_log new_log → LogCount ended old_log new_log
  log_count_kept end.Stopped ended [] mid new old_log new_log keeps count = subst (λ (e : ActEnd). LogCount e old_log new_log) (sym keeps.1) count
  log_count_kept end.Stopped end.LogFault (deed ∷ deeds) mid new old_log new_log keeps count = absurd keeps.0
  log_count_kept end.Stopped ended (deed ∷ deeds) mid new old_log new_log keeps count = count
  log_count_kept acted ended deeds mid new old_log new_log keeps count = subst (λ (e : ActEnd). LogCount e old_log new_log) (sym keeps.1) count

  acted_handled : (answer : Handled) (old new : Here) (does : Does answer old new) → Acted does.ended answer old new
  acted_handled answer old new does =
      let k = old.handler.k in
      let entries = old.handler.entries in
      let run = does.acts.run in
      let all : List Turn = run.turns ++ run.in_hand in
      let uses = called_at does.acted k _ _ _ does.acts.ends in
      let last : new.handler.last ≡ last_of all =
      lasts_by k old.pass new.pass _ None new.handler.last uses does.is_last ∙ run-last does.acted run entries in
      let it = batched old.handler.state entries run.turns run.in_hand new.handler.last last (in_hand (parts_of old)) does.acted does.ended does.mid (in_hand (parts_of new))
      does.acts.is_in_hand (carried_at does.acted k _ _ _ does.acts.ends) does.keeps_state in
      record {
        batches = it.batches;
        rest = it.rest;
        held = it.held;
        broken = it.broken;
        is_rest = it.is_rest;
        is_held = it.is_held;
        is_broken = it.is_broken;
        gives =
            subst (λ (ts : List Turn). Gives k ts old.pass new.pass) (sym it.are_turns)
            (gives-uses k all _ old.pass new.pass uses (told-run does.acted run entries) does.acts.rows);
        counted =
            counted_by k old.pass new.pass _ old.handler.left new.handler.left uses does.counts
            ∙ (ap (λ (n : ℕ). left_behind old.handler.left n) (run-given does.acted run entries)
            ∙ ap (λ (ts : List Turn). left_behind old.handler.left (count_of ts)) (sym it.are_turns));
        leaves = leaves_by answer old.handler.left new.handler.left does.leaves;
        carried = it.carried;
        is_last = it.is_last;
        log_count = log_count_kept does.acted does.ended _ does.mid (in_hand (parts_of new)) old.log new.log does.keeps_state (log_count_at does.acted k _ _ _ does.acts.ends);
        same_k = ap (λ (acter : ActerView). acter.k) does.others;
        same_entries = ap (λ (acter : ActerView). acter.entries) does.others;
        same_state = ap (λ (acter : ActerView). acter.state) does.others;
      }

  -- ---- pieces

  acted_come : (piece : Piece) (out notes : List ℕ) (old pushed : At) → old.receiver.end ≡ None → Comes piece out notes old pushed → Acted end.Stopped handled.On old.scene pushed.scene
  acted_come piece out notes old pushed live comes =
      acted_quiet old.scene pushed.scene (ap parts_of comes.others) (comes-quiet piece out notes old pushed live comes)
      (log_kept old.scene pushed.scene (ap (λ (s : Here). s.log) comes.others))

  acted_piece : (law : RowsStay) (piece : Piece) (answer : Handled) (old new : At) → old.receiver.end ≡ None → (takes : TakesPiece Does piece answer old new)
      → Acted takes.handles_it.handled.ended answer old.scene new.scene
  acted_piece law piece answer old new live takes =
      let does = takes.handles_it.handled in
      let told_is = ap (λ (m : At). m.scene) takes.tells.others in
      let told : Acted end.Stopped handled.On takes.pushed.scene takes.told.scene =
      acted_quiet takes.pushed.scene takes.told.scene (ap parts_of told_is)
      (quiet-same takes.pushed.scene.pass takes.told.scene.pass (ap (λ (s : Here). s.pass) told_is)) takes.tells.log_kept in
      acted_then law does.ended answer old.scene takes.pushed.scene new.scene (acted_come piece takes.out takes.notes old takes.pushed live takes.comes)
      (acted_then law does.ended answer takes.pushed.scene takes.told.scene new.scene told (acted_handled answer takes.told.scene new.scene does))

  -- a piece behind which all was acted on
  acted_on : (law : RowsStay) (piece : Piece) (answer : Handled) (old new : At) → old.receiver.end ≡ None → (takes : TakesPiece Does piece answer old new)
      → takes.handles_it.handled.ended ≡ end.Stopped → Acted end.Stopped answer old.scene new.scene
  acted_on law piece answer old new live takes is = subst (λ (why : ActEnd). Acted why answer old.scene new.scene) is (acted_piece law piece answer old new live takes)

  went : (law : RowsStay) (pieces : List Piece) (old new : At) → old.receiver.end ≡ None → GoesOn Does pieces old new → Acted end.Stopped handled.On old.scene new.scene
  went law [] old new live goes =
      acted_quiet old.scene new.scene (ap (λ (m : At). parts_of m.scene) goes) (quiet-same old.scene.pass new.scene.pass (ap (λ (m : At). m.scene.pass) goes))
      (log_kept old.scene new.scene (ap (λ (m : At). m.scene.log) goes))
  went law (piece ∷ pieces) old new live goes =
      let takes = goes.1.takes in
      acted_then law end.Stopped handled.On old.scene goes.0.scene new.scene (acted_on law piece handled.On old goes.0 live takes takes.handles_it.handled.ends.0)
      (went law pieces goes.0 new goes.1.live goes.2)

  -- ---- the end

  -- what is seen of a moment
  abbrev sight_in : Here → Sight
  sight_in now = sight_of now.pass (in_hand (parts_of now)) now.log

  -- why the handler stopped
  stops_in : (old new : Here) → (does : Does handled.Stopped old new) → Stops new.handler.why does.ended new.pass
  stops_in old new does =
      stops_by does.ended new.handler.why new.pass
      (λ is.
      ends_worn does.acted old.handler.k (parted_of does.acted old.handler.entries does.acts.run) _ _
      (worn_of does.acted does.ended _ does.mid (in_hand (parts_of new)) does.keeps_state is) does.acts.ends)
      does.ends

  -- how it ended
  record EndedBy (e : GatherEnd) (old new : Here) : Type 0 where
    ended : ActEnd
    is_ended : IsEndedBy e new.handler.why ended
    stops : IfStopped e (Stops new.handler.why ended new.pass)
    acted : Acted ended (answer_at e) old new

  received : (e : RecvEnd) (old new : Here) → Acted end.Stopped handled.On old new → EndedBy (gather_end.Received e) old new
  received e old new acted = record { ended = end.Stopped; is_ended = refl; stops = tt; acted = acted }

  over : (law : RowsStay) (e : RecvEnd) (piece : Piece) (old new : At) → old.receiver.end ≡ None → TakesPiece Does piece handled.On old new
      → EndedBy (gather_end.Received e) old.scene new.scene
  over law e piece old new live takes = received e old.scene new.scene (acted_on law piece handled.On old new live takes takes.handles_it.handled.ends.0)

  stream : (e : RecvEnd) (old new : At) → old.receiver.end ≡ None → EndsStream e old new → EndedBy (gather_end.Received e) old.scene new.scene
  stream e old new live ends =
      let scene_is = ap (λ (m : At). m.scene) ends.is_at_end.others in
      let quietly = closes-none e ends.at_end.receiver ends.at_end.scene.pass new.scene.pass (ap (λ (m : At). m.receiver.end) ends.is_at_end.others ∙ live) ends.ends in
      let from : CallsQuietly old.scene.pass new.scene.pass = subst (λ (p : PassView). CallsQuietly p new.scene.pass) (ap (λ (s : Here). s.pass) scene_is) quietly in
      received e old.scene new.scene (acted_quiet old.scene new.scene (ap (λ (m : At). parts_of m.scene) ends.others ∙ ap parts_of scene_is) from
      (log_kept old.scene new.scene (ap (λ (m : At). m.scene.log) ends.others ∙ ap (λ (s : Here). s.log) scene_is)))

  same_scene : (e : RecvEnd) (old new : At) → new.scene ≡ old.scene → EndedBy (gather_end.Received e) old.scene new.scene
  same_scene e old new same =
      received e old.scene new.scene (acted_quiet old.scene new.scene (ap parts_of same) (quiet-same old.scene.pass new.scene.pass (ap (λ (s : Here). s.pass) same))
      (log_kept old.scene new.scene (ap (λ (s : Here). s.log) same)))

  ends_by : (law : RowsStay) (e : GatherEnd) (old new : At) → old.receiver.end ≡ None → EndsBy Does e old new → EndedBy e old.scene new.scene
  ends_by law (gather_end.Received Ended) old new live ends = stream Ended old new live ends
  ends_by law (gather_end.Received (Truncated at)) old new live ends = stream (Truncated at) old new live ends
  ends_by law (gather_end.Received (BadFrame at)) old new live ends = over law (BadFrame at) ends.piece old new live ends.takes
  ends_by law (gather_end.Received (Refused answer)) old new live ends = over law (Refused answer) ends.piece old new live ends.takes
  ends_by law (gather_end.Received StreamLimit) old new live ends = over law StreamLimit ends.piece old new live ends.takes
  ends_by law (gather_end.Received OutOfMemory) old new live ends = over law OutOfMemory ends.piece old new live ends.takes
  ends_by law (gather_end.Received Worn) old new live (inl is_over) = over law Worn is_over.piece old new live is_over.takes
  ends_by law (gather_end.Received Worn) old new live (inr ends) = stream Worn old new live ends
  ends_by law (gather_end.Received LinkFault) old new live (inl none) = same_scene LinkFault old new (ap (λ (m : At). m.scene) none.others)
  ends_by law (gather_end.Received LinkFault) old new live (inr fails) =
      let scene_is = ap (λ (m : At). m.scene) fails.sends.others in
      received LinkFault old.scene new.scene
      (subst (λ (s : Here). Acted end.Stopped handled.On old.scene s) (sym scene_is) (acted_come fails.piece fails.out fails.notes old fails.pushed live fails.comes))
  ends_by law (gather_end.Received LogFault) old new live fails =
      let scene_is = ap (λ (m : At). m.scene) fails.logs.others in
      received LogFault old.scene new.scene
      (acted_then law end.Stopped handled.On old.scene fails.pushed.scene new.scene (acted_come fails.piece fails.out fails.notes old fails.pushed live fails.comes)
      (acted_quiet fails.pushed.scene new.scene (ap parts_of scene_is) (quiet-same fails.pushed.scene.pass new.scene.pass (ap (λ (s : Here). s.pass) scene_is))
      (rose_le fails.pushed.scene.log.faults new.scene.log.faults fails.logs.rose)))
  ends_by law gather_end.Enough old new live ends = record {
    ended = end.Stopped;
    is_ended = refl;
    stops = tt;
    acted = acted_on law ends.piece handled.Enough old new live ends.takes ends.takes.handles_it.handled.ends.0;
  }
  ends_by law gather_end.Stopped old new live ends =
      let does = ends.takes.handles_it.handled in
      let stops : Stops new.scene.handler.why does.ended new.scene.pass = stops_in ends.takes.told.scene new.scene does in
      record {
        ended = does.ended;
        is_ended = (stops.cause, stops.is_why, stops.is_end);
        stops = stops;
        acted = acted_piece law ends.piece handled.Stopped old new live ends.takes;
      }

  begins_not : (e : GatherEnd) (old new : At) → BeginsNot Does e old new → EndedBy e old.scene new.scene
  begins_not (gather_end.Received LinkFault) old new begins = same_scene LinkFault old new (ap (λ (m : At). m.scene) begins.others)
  begins_not _ old new begins = absurd begins

  stop_cause : (ended : ActEnd) (answer : Handled) (old new : Here) → Acted ended answer old new → Stops new.handler.why ended new.pass
      → HasStopCause new.handler.why (sight_in old) (sight_in new)
  stop_cause ended answer old new acted stops none =
      subst (λ (why : Option ActStop). IfSome why (λ (cause : ActStop). StopCause cause (sight_in old) (sight_in new))) (sym stops.is_why) (by_end stops.is_end)
    where
      whole : List Deed
      whole = all_done old.handler.state old.handler.entries acted.batches ++ deeds_of old.handler.entries acted.rest

      by_end : ended ≡ end_of stops.cause → StopCause stops.cause (sight_in old) (sight_in new)
      by_end is =
          cause_at stops.cause whole acted.broken (sight_in old) (sight_in new) none
          (subst (λ (why : ActEnd). Carries why whole acted.broken (in_hand (parts_of old)) (in_hand (parts_of new))) is acted.carried)
          (subst (λ (why : ActEnd). LogCount why old.log new.log) is acted.log_count) stops.worn

  cause_of : (e : GatherEnd) (old new : Here) → EndedBy e old new → IfStopped e (HasStopCause new.handler.why (sight_in old) (sight_in new))
  cause_of (gather_end.Received e) old new by = tt
  cause_of gather_end.Enough old new by = tt
  cause_of gather_end.Stopped old new by = stop_cause by.ended handled.Stopped old new by.acted by.stops

  at_stop : (cause : ActStop) (P : Type 0) → AtBreak (end_of cause) P → P
  at_stop stop.StoreFault P holds = holds
  at_stop stop.LaunchFault P holds = holds
  at_stop stop.LogFault P holds = holds
  at_stop stop.Worn P holds = holds
  at_stop stop.OutOfMemory P holds = holds

  last_at : (e : GatherEnd) (ended : ActEnd) (why : Option ActStop) (P : Type 0) → IsEndedBy e why ended → AtBreak ended P → IfStopped e P
  last_at (gather_end.Received e) ended why P is holds = tt
  last_at gather_end.Enough ended why P is holds = tt
  last_at gather_end.Stopped ended why P is holds = at_stop is.0 P (subst (λ (x : ActEnd). AtBreak x P) is.2 holds)

  all_of : (e : GatherEnd) (old new : Here) → EndedBy e old new → ActsAll e new.handler old.handler (sight_in old) (sight_in new)
  all_of e old new by =
      let it = by.acted in
      let turns_are : turns_by it.batches it.rest it.held ≡ (turns_in it.batches ++ it.rest) ++ it.held = sym (append_assoc (turns_in it.batches) it.rest it.held) in
      record {
        ended = by.ended;
        is_ended = by.is_ended;
        cause = cause_of e old new by;
        came = came_of old.handler.state old.handler.entries it.batches it.rest it.held it.broken;
        is_in_hand = it.is_held;
        gives = subst (λ (ts : List Turn). Gives old.handler.k ts old.pass new.pass) turns_are it.gives;
        counted =
            counted_at e old.handler.left new.handler.left (count_of ((turns_in it.batches ++ it.rest) ++ it.held))
            (it.counted ∙ ap (λ (ts : List Turn). left_behind old.handler.left (count_of ts)) turns_are) it.leaves;
        are_deeds = deeds_are old.handler.state old.handler.entries by.ended it.batches it.rest it.held it.broken it.is_rest it.is_broken;
        carried = it.carried;
        is_last = last_at e by.ended new.handler.why (new.handler.last ≡ last_of (it.rest ++ it.held)) by.is_ended it.is_last;
        same_state = it.same_state;
      }

  -- what a whole gathering came to
  pub gathered_all : (law : RowsStay) (e : GatherEnd) (s : Receiving) (old new : Lent ActerView F L) → GathersAll Does e s old new
      → ActsAll e new.scene.handler old.scene.handler (sight_in old.scene) (sight_in new.scene)
  gathered_all law e s old new all = by_begin all.gathers
    where
      first : At
      first = moment_of (before_stream s false) old

      last : At
      last = moment_of all.receiver new

      by_begin : Asks Does e first last ⊎ BeginsNot Does e first last
          → ActsAll e new.scene.handler old.scene.handler (sight_in old.scene) (sight_in new.scene)
      by_begin (inl asks) =
          let at : At = record first { link = asks.asked.link } in
          let gathers : Gathers Does e at last = subst (λ (m : At). Gathers Does e m last) asks.others asks.gathers in
          let ends = ends_by law e gathers.last last (live-at Does gathers.pieces at gathers.last refl gathers.goes_on) gathers.ends in
          all_of e old.scene new.scene (record {
            ended = ends.ended;
            is_ended = ends.is_ended;
            stops = ends.stops;
            acted = acted_then law ends.ended (answer_at e) at.scene gathers.last.scene last.scene (went law gathers.pieces at gathers.last refl gathers.goes_on) ends.acted;
          })
      by_begin (inr not) = all_of e old.scene new.scene (begins_not e first last not)
