-- What is left of a queue that has ended.
use Rattle.std.proofs.Common.{◌≡◌, inl, inr, ℕ, ◌+◌, ◌-◌, ◌<◌, ◌≤◌, Bool, true, false, cond, List, [], ◌∷◌, ◌++◌, drop, filter, map, Option, refl, sym, ◌∙◌, ap, subst, arith}
use Rattle.std.specs.Prelude.{IfSome, None, Result, Some, nat_le, slice_get}
use Rattle.std.proofs.lemmas.List.{append-nil, append_assoc}
use Rattle.std.proofs.lemmas.Bool.{le-leb}
use Rattle.std.proofs.lemmas.Bool.Decides.{leb_tells}
use Rattle.ldm_disk.specs.Told.{IsConsistent}
use Rattle.ldm_model.specs.State.{Queued, Row, State, add_queued, end_of, queued, queued_from}
use Rattle.ldm_journal.specs.Records.{Kept}
use Rattle.ldm_recorder.specs.declared.end.RecordEnd.{RecordEnd}
use Rattle.ldm_recorder.specs.Turns.{CaughtUp, Given, Lost, Turn, Who}
use Rattle.ldm_shared.specs.Passes.{PassView}
use Rattle.ldm_recorder.specs.declared.recorder.Recorder.{Recorder}
use Rattle.ldm_recorder.specs.Recording.{Sight, who_of}
use Rattle.ldm_recorder.specs.Catching.{CommitsAt}
use Rattle.ldm_recorder.specs.Taking.{IsSameRecorder}
use Rattle.ldm_recorder.proofs.Coursing.{who_same}
use Rattle.ldm_recorder.specs.Told.{has_room, kept_of_turn, recorded_in}
use Rattle.ldm_recorder.specs.Finishing.{BreaksOffIn, MakesUp, behind_all, behind_one, is_from, kept_queued, lost_between, turn_left, turns_left, turns_queued}
use Rattle.ldm_recorder.proofs.Finishing.{broken_soon, broken_then, is_left, passed_over, stays_behind, goes_behind, up_none, up_then}
use Rattle.ldm_recorder.proofs.Listed.{left-some}

-- ---- one queued product after another

-- some of these turns are made up for, and others are left
pub record LeftAt (who : Who) (all left : List Turn) (old new : Sight) : Type 0 where
  pub done : List Turn
  pub are : done ++ left ≡ all
  pub does : MakesUp who done old new

pub left_begins : (who : Who) (all : List Turn) (now : Sight) → IfSome now.disk.file IsConsistent → LeftAt who all all now now
left_begins who all now consistent = record { done = []; are = refl; does = up_none who now consistent }

module _ (who : Who) (base from i : ℕ) (qs : List Queued) (q : Queued) (all : List Turn) (a b c : Sight) (at : slice_get qs i ≡ Some q)
    (so_far : LeftAt who all (turns_queued base from (drop i qs)) a b) where
  abbrev rest : List Turn
  rest = turns_queued base (behind_one from q) (drop (i + 1) qs)

  split : turns_queued base from (drop i qs) ≡ turn_left base from q ++ rest
  split = ap (λ (l : List Queued). turns_queued base from l) (left-some qs i q at)

  whole : so_far.done ++ (turn_left base from q ++ rest) ≡ all
  whole = ap (λ (l : List Turn). so_far.done ++ l) (sym split) ∙ so_far.are

  pub left_more : MakesUp who (turn_left base from q) b c → LeftAt who all rest a c
  left_more one = record {
    done = so_far.done ++ turn_left base from q;
    are = append_assoc so_far.done (turn_left base from q) rest ∙ whole;
    does = up_then who so_far.done (turn_left base from q) a b c so_far.does one;
  }

  pub left_broken : (why : RecordEnd) → BreaksOffIn why who (turn_left base from q) b c → BreaksOffIn why who all a c
  left_broken why broken =
      subst (λ (l : List Turn). BreaksOffIn why who l a c) whole
      (broken_then why who so_far.done (turn_left base from q ++ rest) a b c so_far.does (broken_soon why who (turn_left base from q) rest b c broken))

pub left_all : (who : Who) (base from : ℕ) (left : List Queued) (all : List Turn) (a b : Sight) → LeftAt who all (turns_queued base from left) a b → left ≡ []
    → MakesUp who all a b
left_all who base from left all a b so_far none =
    subst (λ (l : List Turn). MakesUp who l a b)
    (sym (append-nil so_far.done) ∙ ap (λ (l : List Queued). so_far.done ++ turns_queued base from l) (sym none) ∙ so_far.are) so_far.does

-- the same recorder has the same turns
pub still_who : (r s : Recorder) → IsSameRecorder r s → (pass : PassView) → who_of pass s ≡ who_of pass r
still_who r s same pass = who_same pass pass r s refl same

pub still_made : (r s : Recorder) (same : IsSameRecorder r s) (pass : PassView) (from : ℕ) (q : Queued) (b c : Sight) → MakesUp (who_of pass s) (turn_left s.base from q) b c
    → MakesUp (who_of pass r) (turn_left r.base from q) b c
still_made r s same pass from q b c made =
    subst (λ (n : ℕ). MakesUp (who_of pass r) (turn_left n from q) b c) same.base
    (subst (λ (w : Who). MakesUp w (turn_left s.base from q) b c) (still_who r s same pass) made)

pub still_broken : (r s : Recorder) (same : IsSameRecorder r s) (pass : PassView) (from : ℕ) (q : Queued) (b c : Sight) (why : RecordEnd)
    → BreaksOffIn why (who_of pass s) (turn_left s.base from q) b c → BreaksOffIn why (who_of pass r) (turn_left r.base from q) b c
still_broken r s same pass from q b c why broken =
    subst (λ (n : ℕ). BreaksOffIn why (who_of pass r) (turn_left n from q) b c) same.base
    (subst (λ (w : Who). BreaksOffIn why w (turn_left s.base from q) b c) (still_who r s same pass) broken)

-- a commit by the same recorder
pub still_commits : (r s : Recorder) → IsSameRecorder r s → (pass : PassView) (result : Result (Unit {0}) RecordEnd) (n m : ℕ) → n ≡ m → (b c : Sight)
    → CommitsAt result (who_of pass s) n b c → CommitsAt result (who_of pass r) m b c
still_commits r s same pass result n m is b c commits =
    subst (λ (k : ℕ). CommitsAt result (who_of pass r) k b c) is
    (subst (λ (w : Who). CommitsAt result w n b c) (still_who r s same pass) commits)

-- the number behind those that are left
pub behind_more : (from i all : ℕ) (qs : List Queued) (q : Queued) → slice_get qs i ≡ Some q → behind_all from (drop i qs) ≡ all
    → behind_all (behind_one from q) (drop (i + 1) qs) ≡ all
behind_more from i all qs q at so_far = ap (λ (l : List Queued). behind_all from l) (sym (left-some qs i q at)) ∙ so_far

pub behind_none : (from all : ℕ) (left : List Queued) → behind_all from left ≡ all → left ≡ [] → from ≡ all
behind_none from all left so_far none = ap (λ (l : List Queued). behind_all from l) (sym none) ∙ so_far

-- ---- all of it

module _ (who : Who) (from end : ℕ) (lasts : Option (List ℕ)) (qs : List Queued) (a b : Sight) (queued_made : MakesUp who (turns_queued who.base from qs) a b) where
  abbrev lost : List Turn
  lost = lost_between (behind_all from qs) end

  pub all_lost_broken : (why : RecordEnd) (c : Sight) → BreaksOffIn why who lost b c
      → BreaksOffIn why who (turns_left who.base end from qs ++ CaughtUp end lasts ∷ []) a c
  all_lost_broken why c broken =
      broken_soon why who (turns_left who.base end from qs) (CaughtUp end lasts ∷ []) a c (broken_then why who (turns_queued who.base from qs) lost a b c queued_made broken)

  module _ (c d : Sight) (lost_made : MakesUp who lost b c) where
    before : MakesUp who (turns_left who.base end from qs) a c
    before = up_then who (turns_queued who.base from qs) lost a b c queued_made lost_made

    pub all_made : MakesUp who (CaughtUp end lasts ∷ []) c d → MakesUp who (turns_left who.base end from qs ++ CaughtUp end lasts ∷ []) a d
    all_made caught = up_then who (turns_left who.base end from qs) (CaughtUp end lasts ∷ []) a c d before caught

    pub all_caught_broken : (why : RecordEnd) → BreaksOffIn why who (CaughtUp end lasts ∷ []) c d
        → BreaksOffIn why who (turns_left who.base end from qs ++ CaughtUp end lasts ∷ []) a d
    all_caught_broken why broken = broken_then why who (turns_left who.base end from qs) (CaughtUp end lasts ∷ []) a c d before broken

pub all_queued_broken : (why : RecordEnd) (who : Who) (from end : ℕ) (lasts : Option (List ℕ)) (qs : List Queued) (a b : Sight) → BreaksOffIn why who (turns_queued who.base from qs) a b
    → BreaksOffIn why who (turns_left who.base end from qs ++ CaughtUp end lasts ∷ []) a b
all_queued_broken why who from end lasts qs a b broken =
    broken_soon why who (turns_left who.base end from qs) (CaughtUp end lasts ∷ []) a b
    (broken_soon why who (turns_queued who.base from qs) (lost_between (behind_all from qs) end) a b broken)

-- ---- what is recorded of it

-- queued products of a number or later, in the order of their numbers
AreFrom : ℕ → List Queued → Type 0
AreFrom k [] = Unit {0}
AreFrom k (q ∷ qs) = (k ≤ q.number) × AreFrom (q.number + 1) qs

from_weaker : (j k : ℕ) (qs : List Queued) → j ≤ k → AreFrom k qs → AreFrom j qs
unfolding AreFrom
from_weaker j k [] le are = tt
from_weaker j k (q ∷ qs) le are = (omega (arith, le, are.0), are.1)

rows_from : (k : ℕ) (rows : List Row) → AreFrom k (queued_from k rows)
unfolding AreFrom
rows_from k [] = tt
rows_from k (row ∷ rows) = by_place row.place (rows_from (k + 1) rows)
  where
    by_place : (place : Option ℕ) → AreFrom (k + 1) (queued_from (k + 1) rows) → AreFrom k (add_queued k row place (queued_from (k + 1) rows))
    by_place None behind = from_weaker k (k + 1) (queued_from (k + 1) rows) (omega arith) behind
    by_place (Some place) behind = (omega arith, behind)

all_from : (from k : ℕ) (qs : List Queued) → from ≤ k → AreFrom k qs → filter (is_from from) qs ≡ qs
unfolding AreFrom
all_from from k [] le are = refl
all_from from k (q ∷ qs) le are =
    ap (λ (b : Bool). cond b (q ∷ filter (is_from from) qs) (filter (is_from from) qs)) (le-leb from q.number (omega (arith, le, are.0)))
    ∙ ap (λ (l : List Queued). q ∷ l) (all_from from (q.number + 1) qs (omega (arith, le, are.0)) are.1)

recorded-append : (ring : ℕ) (first more : List Turn) → recorded_in ring (first ++ more) ≡ recorded_in ring first ++ recorded_in ring more
recorded-append ring [] more = refl
recorded-append ring (turn ∷ first) more =
    ap (λ (l : List Kept). kept_of_turn ring turn ++ l) (recorded-append ring first more) ∙ sym (append_assoc (kept_of_turn ring turn) (recorded_in ring first) (recorded_in ring more))

recorded_lost : (ring from to : ℕ) → recorded_in ring (lost_between from to) ≡ []
recorded_lost ring from to = by (nat_le to from)
  where
    by : (none : Bool) → recorded_in ring (cond none [] (Lost (to - from) from (to - 1) ∷ [])) ≡ []
    by true = refl
    by false = refl

recorded_one : (ring base from : ℕ) (q : Queued) → from ≤ q.number
    → recorded_in ring (turn_left base from q) ≡ cond (has_room ring (kept_queued base q)) (kept_queued base q ∷ []) []
recorded_one ring base from q le =
    let lost = lost_between from q.number in
    let given = Given q.number (kept_queued base q) ∷ [] in
    ap (λ (l : List Turn). recorded_in ring l) (is_left base from q le) ∙ recorded-append ring lost given
    ∙ ap (λ (l : List Kept). l ++ recorded_in ring given) (recorded_lost ring from q.number)
    ∙ append-nil (kept_of_turn ring (Given q.number (kept_queued base q)))

one_kept : (k : Kept) (b : Bool) (others : List Kept) → cond b (k ∷ []) [] ++ others ≡ cond b (k ∷ others) others
one_kept k true others = refl
one_kept k false others = refl

abbrev kept_from : ℕ → ℕ → List Queued → List Kept
kept_from ring base qs = filter (has_room ring) (map (kept_queued base) qs)

recorded_all : (ring base from k : ℕ) (qs : List Queued) → AreFrom k qs → recorded_in ring (turns_queued base from qs) ≡ kept_from ring base (filter (is_from from) qs)
unfolding AreFrom
recorded_all ring base from k [] are = refl
recorded_all ring base from k (q ∷ qs) are =
    let behind = turns_queued base (behind_one from q) qs in
    let both : recorded_in ring (turn_left base from q ++ behind) ≡ recorded_in ring (turn_left base from q) ++ recorded_in ring behind =
    recorded-append ring (turn_left base from q) behind in
    elim (leb_tells from q.number) [
      | inl due ↦
          (let one = recorded_one ring base from q due.1 in
          let more : recorded_in ring behind ≡ kept_from ring base qs =
          ap (λ (n : ℕ). recorded_in ring (turns_queued base n qs)) (sym (goes_behind from q due.1))
          ∙ recorded_all ring base (q.number + 1) (q.number + 1) qs are.1
          ∙ ap (λ (l : List Queued). kept_from ring base l) (all_from (q.number + 1) (q.number + 1) qs (omega arith) are.1) in
          let there : filter (is_from from) (q ∷ qs) ≡ q ∷ qs =
          ap (λ (b : Bool). cond b (q ∷ filter (is_from from) qs) (filter (is_from from) qs)) due.0
          ∙ ap (λ (l : List Queued). q ∷ l) (all_from from (q.number + 1) qs (omega (arith, due.1)) are.1) in
          both ∙ ap (λ (l : List Kept). l ++ recorded_in ring behind) one
          ∙ ap (λ (l : List Kept). cond (has_room ring (kept_queued base q)) (kept_queued base q ∷ []) [] ++ l) more
          ∙ one_kept (kept_queued base q) (has_room ring (kept_queued base q)) (kept_from ring base qs)
          ∙ ap (λ (l : List Queued). kept_from ring base l) (sym there))
      | inr over ↦
          (let here : q.number < from = omega (arith, over.1) in
          both ∙ ap (λ (l : List Turn). recorded_in ring l ++ recorded_in ring behind) (passed_over base from q here)
          ∙ ap (λ (n : ℕ). recorded_in ring (turns_queued base n qs)) (sym (stays_behind from q here))
          ∙ recorded_all ring base from (q.number + 1) qs are.1
          ∙ ap (λ (b : Bool). kept_from ring base (cond b (q ∷ filter (is_from from) qs) (filter (is_from from) qs))) (sym over.0))
    ]

pub left_is_recorded : (ring base from : ℕ) (lasts : Option (List ℕ)) (s : State) → recorded_in ring (turns_left base (end_of s) from (queued s) ++ CaughtUp (end_of s) lasts ∷ [])
    ≡ filter (has_room ring) (map (kept_queued base) (filter (is_from from) (queued s)))
left_is_recorded ring base from lasts s =
    let end = end_of s in
    let qs = queued s in
    let lost = lost_between (behind_all from qs) end in
    recorded-append ring (turns_left base end from qs) (CaughtUp end lasts ∷ []) ∙ append-nil (recorded_in ring (turns_left base end from qs))
    ∙ recorded-append ring (turns_queued base from qs) lost
    ∙ ap (λ (l : List Kept). recorded_in ring (turns_queued base from qs) ++ l) (recorded_lost ring (behind_all from qs) end)
    ∙ append-nil (recorded_in ring (turns_queued base from qs)) ∙ recorded_all ring base from 0 qs (rows_from 0 s.rows)
