-- The pass behind those of the stations, and the clerk that has it.
use Rattle.std.proofs.Common.{◌≡◌, ℕ, ◌+◌, ◌-◌, ◌<◌, List, [], ◌∷◌, length, map, get_or, Option, Some, None, Result, Ok, Err, refl, sym, ap, subst, ◌∙◌, inl, inr, arith, length-append}
use Rattle.std.specs.Prelude.{◌⊎◌, IfSome, OnOk, OnErr}
use Rattle.std.specs.Option.{option_map}
use Rattle.std.specs.List.{range_with_len}
use Rattle.std.proofs.lemmas.Bool.Decides.{leb_tells}
use Rattle.std.proofs.lemmas.List.{get_or-append_right, get_or-map, get_or_append_left, length-map}
use Rattle.std.proofs.lemmas.List.FromFn.{get_or-map-range_with_len, length-map-range_with_len}
use Rattle.ldm_disk.specs.declared.desk.Desk.{Desk}
use Rattle.ldm_disk.specs.Desks.{DeskRecord}
use Rattle.ldm_model.specs.History.{after}
use Rattle.ldm_model.specs.State.{State}
use Rattle.ldm_shared.specs.Passes.{SharedView, PassView, AreAllOf, HasAllOf, IsPassOf, new_pass}
use Rattle.ldm_recorder.specs.declared.recorder.Recorder.{Recorder}
use Rattle.ldm_recorder.specs.declared.end.RecordEnd.TheVariants as end
use Rattle.ldm_recorder.specs.Course.{IfStopped}
use Rattle.ldm_recorder.specs.Numbers.{IsBehind, IsReady}
use Rattle.ldm_node.specs.declared.clerk.Clerk.{Clerk}
use Rattle.ldm_node.specs.declared.clerk.Recorded as recorded
use Rattle.ldm_node.specs.declared.clerk.Seat.{Seat}
use Rattle.ldm_node.specs.Clerks.{ArePassesFor, Closes, LeavesBehind, clerk_tells, left_tells}
use Rattle.ldm_node.specs.Seats.{AreBehind, ClosesSeat, IsBehindSeat, IsFreshSeat, IsReadySeat, SeatWorks, SeatsBehind, clerk_of, recorder_of}
use Rattle.ldm_node.proofs.Gathered.{Behind}

-- ---- the passes

module _ (shared : SharedView) (passes : List PassView) (recorder : Option Recorder) (are : ArePassesFor shared passes recorder) (n : ℕ) (count : n + 1 ≡ shared.passes) where
  abbrev front : List PassView
  front = map (new_pass shared) (range_with_len 0 (shared.passes - 1))

  long : length front ≡ n
  long = omega (arith, length-map-range_with_len (new_pass shared) 0 (shared.passes - 1), count)

  pub passes_long : length passes ≡ n + 1
  passes_long = ap length are.are ∙ omega (arith, length-append front (are.behind ∷ []), long)

  pub new_at : (d : PassView) (i : ℕ) → i < n → get_or passes i d ≡ new_pass shared i
  new_at d i less =
      ap (λ (ps : List PassView). get_or ps i d) are.are ∙ get_or_append_left front (are.behind ∷ []) d i (omega (arith, less, long))
      ∙ get_or-map-range_with_len (new_pass shared) 0 (shared.passes - 1) i i d (omega (arith, less, count)) (omega arith)

  pub behind_at : (d : PassView) → get_or passes n d ≡ are.behind
  behind_at d =
      let none : n - n ≡ 0 = omega arith in
      ap (λ (ps : List PassView). get_or ps n d) are.are ∙ get_or-append_right front (are.behind ∷ []) n n d long (omega arith)
      ∙ ap (λ (i : ℕ). get_or (are.behind ∷ []) i d) none

  -- that pass, told by its place
  pub is_behind : (pass : PassView) → pass ≡ get_or passes n pass → pass ≡ are.behind
  is_behind pass is = is ∙ behind_at pass

  of_each : (k : ℕ) (d : PassView) → k < length passes → IsPassOf shared (get_or passes k d)
  of_each k d less =
      let within : k < n + 1 = omega (arith, less, passes_long) in
      elim (below_or_last k n within) [
        | inl inside ↦ subst (IsPassOf shared) (sym (new_at d k inside)) (record { queue = refl; arena = refl; slots = refl; passes = refl })
        | inr last ↦ subst (λ (i : ℕ). IsPassOf shared (get_or passes i d)) (sym last) (subst (IsPassOf shared) (sym (behind_at d)) are.of)
      ]
    where
      below_or_last : (k n : ℕ) → k < n + 1 → (k < n) ⊎ (k ≡ n)
      below_or_last k n less = elim (leb_tells (k + 1) n) [ inl within ↦ inl (omega (arith, within.1)) | inr over ↦ inr (omega (arith, over.1, less)) ]

  actor_at : (k : ℕ) → k < n + 1 → (d : PassView) → (get_or passes k d).actor ≡ k
  actor_at k less d =
      elim (leb_tells (k + 1) n) [
        | inl within ↦ ap (λ (p : PassView). p.actor) (new_at d k (omega (arith, within.1)))
        | inr over ↦
            (let is : k ≡ n = omega (arith, over.1, less) in
            ap (λ (i : ℕ). (get_or passes i d).actor) is ∙ ap (λ (p : PassView). p.actor) (behind_at d) ∙ are.actor ∙ omega (arith, is, count))
      ]

  -- they are all of the queue's
  pub all_passes : AreAllOf shared passes
  all_passes = record {
    of = of_each;
    all = λ actor less.
        (let inside : actor < length passes = omega (arith, less, count, passes_long) in
        let d = are.behind in (
          actor,
          omega (arith, inside, length-map passes (λ (p : PassView). p.actor)),
          get_or-map (λ (p : PassView). p.actor) passes actor d actor inside ∙ actor_at actor (omega (arith, inside, passes_long)) d,
        ));
  }

-- the recorder of a seat is ready, with the pass behind those of the stations
pub ready_behind : {F E C G : Type 0} (shared : SharedView) (passes : List PassView) (seat : Option (Seat F E C G)) → ArePassesFor shared passes (option_map recorder_of seat)
    → (n : ℕ) → n + 1 ≡ shared.passes → (d : PassView) → IfSome seat (IsReadySeat (get_or passes n d))
ready_behind shared passes None are n count d = tt
ready_behind shared passes (Some seat) are n count d =
    subst (λ (p : PassView). IsReady p seat.clerk.recorder) (sym (behind_at shared passes (Some seat.clerk.recorder) are n count d)) are.is_for

-- ---- the seat

module _ {F E C G : Type 0} (tells : Desk F E C G → DeskRecord) (last : PassView) where
  -- what came of it, where all workers worked
  seats_worked : (pass : PassView) (old new : Option (Seat F E C G)) → Behind (SeatWorks tells) last old pass new → SeatsBehind tells last pass old new
  seats_worked pass None None behind = subst (HasAllOf last) behind.works behind.has_all
  seats_worked pass (Some old) (Some new) behind =
      inl (record { pass = behind.pass; same = behind.same; works = behind.works; has_all = behind.has_all })
  seats_worked pass None (Some new) behind = absurd behind.works
  seats_worked pass (Some old) None behind = absurd behind.works

  -- and where none began
  pub seats_same : (pass : PassView) (old new : Option (Seat F E C G)) → new ≡ old → HasAllOf last pass → SeatsBehind tells last pass old new
  seats_same pass None None is has_all = has_all
  seats_same pass (Some old) (Some new) is has_all = (let same : new ≡ old = cc is in inr (same, has_all))
  seats_same pass None (Some new) is has_all = absurd (cc is)
  seats_same pass (Some old) None is has_all = absurd (cc is)

  pub seats_behind : (pass : PassView) (old new : Option (Seat F E C G)) {X : Type 0} (done : Result (Unit {0}) X) → OnOk done (Behind (SeatWorks tells) last old pass new)
      → OnErr done (new ≡ old) → OnErr done (HasAllOf last pass) → SeatsBehind tells last pass old new
  seats_behind pass old new (Ok done) behind same has_all = seats_worked pass old new behind
  seats_behind pass old new (Err error) behind same has_all = seats_same pass old new same has_all

  -- where the gate had stopped a worker, the journal takes what is left
  pub are_behind : (pass : PassView) (old new : Option (Seat F E C G)) → IfSome old IsFreshSeat
      → SeatsBehind tells last pass old new → AreBehind new
  are_behind pass None None fresh seats = tt
  are_behind pass (Some old) (Some new) fresh (inl worked) = worked.works.1
  are_behind pass (Some old) (Some new) fresh (inr same) =
      subst (λ (seat : Seat F E C G). IsBehindSeat seat) (sym same.0)
      (subst (λ why. IfStopped why (IsBehind old.clerk.recorder)) (sym fresh) tt)
  are_behind pass None (Some new) fresh seats = absurd seats
  are_behind pass (Some old) None fresh seats = absurd seats

  -- what recording leaves
  pub leaves_behind : (pass : PassView) (s : State) → s ≡ after last.arena last.slots last.seen → (clerk : Option (Clerk F E C G)) (old new : Option (Seat F E C G))
      (left : Option (recorded.Recorded F E C G)) → option_map clerk_of old ≡ clerk → IfSome old IsFreshSeat
      → SeatsBehind tells last pass old new → ClosesSeat tells s new left
      → LeavesBehind last pass (option_map (clerk_tells tells) clerk) (option_map (left_tells tells) left)
  leaves_behind pass s is None None None None of fresh seats closes = seats
  leaves_behind pass s is (Some clerk) (Some old) (Some new) (Some left) of fresh (inl worked) closes =
      let same : old.clerk ≡ clerk = cc of in
      subst (λ (k : Clerk F E C G). LeavesBehind last pass (Some (clerk_tells tells k)) (Some (left_tells tells left))) same
      (inl (record {
        why = new.end;
        pass = worked.pass;
        mid = clerk_tells tells new.clerk;
        same = worked.same;
        has_all = worked.has_all;
        records = worked.works.0;
        closes = subst (λ (t : State). Closes new.end t left.end (clerk_tells tells new.clerk) (tells left.desk)) is closes;
      }))
  leaves_behind pass s is (Some clerk) (Some old) (Some new) (Some left) of fresh (inr same) closes =
      let itself : old.clerk ≡ clerk = cc of in
      let here : Closes old.end s left.end (clerk_tells tells old.clerk) (tells left.desk) =
      subst (λ (seat : Seat F E C G). Closes seat.end s left.end (clerk_tells tells seat.clerk) (tells left.desk)) same.0 closes in
      let there : Closes end.OutOfMemory s left.end (clerk_tells tells old.clerk) (tells left.desk) =
      subst (λ why. Closes why s left.end (clerk_tells tells old.clerk) (tells left.desk)) fresh here in
      subst (λ (k : Clerk F E C G). LeavesBehind last pass (Some (clerk_tells tells k)) (Some (left_tells tells left))) itself
      (inr (record { end = there.0; desk = there.1; has_all = same.1 }))
  leaves_behind pass s is (Some clerk) None new left of fresh seats closes = absurd (cc of)
  leaves_behind pass s is None (Some old) new left of fresh seats closes = absurd (cc of)
  leaves_behind pass s is clerk None (Some new) left of fresh seats closes = absurd seats
  leaves_behind pass s is clerk (Some old) None left of fresh seats closes = absurd seats
  leaves_behind pass s is clerk old None (Some left) of fresh seats closes = absurd closes
  leaves_behind pass s is clerk old (Some new) None of fresh seats closes = absurd closes
