-- A feeding that broke off, where no other call stands between its own, was given no more products than are queued, and told no loss.
use Rattle.std.proofs.Common.{◌≡◌, ◌∙◌, ℕ, ◌+◌, ◌<◌, ◌≤◌, Bool, true, false, cond, List, [], ◌∷◌, ◌++◌, length, filter, refl, sym, ap, subst, inl, inr, arith, length-append}
use Rattle.std.specs.Prelude.{All}
use Rattle.std.proofs.lemmas.List.Elements.{All-nil, All-cons}
use Rattle.ldm_model.specs.declared.event.Reply.TheVariants as reply
use Rattle.ldm_model.specs.declared.event.Entry.{Entry}
use Rattle.ldm_model.specs.State.{State, Queued, queued}
use Rattle.ldm_model.specs.History.{after_entries, IsAnswered, IsLegalFrom}
use Rattle.ldm_model.proofs.Appended.{IsLegalFrom-append}
use Rattle.ldm_model.proofs.Places.{least-empty}
use Rattle.ldm_sender.specs.Asked.{Asked}
use Rattle.ldm_sender.specs.Calls.{MayBeUnmade, stepped}
use Rattle.ldm_sender.specs.Does.{Each}
use Rattle.ldm_sender.specs.Opening.{Answered, Denied, Reclassed, Busy, Opened, feeds_of, opening_entries, place_of}
use Rattle.ldm_upstream.specs.Turn.{Given, Handling, Turn, Lost, Gave, Quiet, Alive, given_reply, handling_entries, let_go, turn_entries}
use Rattle.ldm_upstream.specs.Turns.{entries_of_turns, given_in, given_in_turns}
use Rattle.ldm_upstream.specs.Feeding.{Last, GoesOn, Stopped, Unanswered, MayTurn, last_entries, last_given}
use Rattle.ldm_between_ends.specs.Alone.{is_lost}
use Rattle.ldm_between_ends.proofs.Beginning.{begun}
use Rattle.ldm_between_ends.proofs.Coming.{comes, comes-next}
use Rattle.ldm_between_ends.proofs.Cutting.{cut-twice, each-behind, each-front}
use Rattle.ldm_between_ends.proofs.Moving.{free, with_cursor}
use Rattle.ldm_between_ends.proofs.Stepping.{gap-never, product-came}
use Rattle.ldm_between_ends.proofs.Turning.{count_still, one-turn, turned}

-- the first of some entries was made, where it may not be missing
first-made : (t : State) (entry : Entry) (more part left : List Entry) → part ++ left ≡ entry ∷ more → Each MayBeUnmade left → (MayBeUnmade entry → ⊥) → IsLegalFrom t part
    → IsAnswered t entry
first-made t entry more [] left same unmade made legal = absurd (made (subst (Each MayBeUnmade) same unmade).0)
first-made t entry more (x ∷ part) left same unmade made legal = subst (IsAnswered t) (cc same) legal.0

-- where no step is missing, there was no turn more
no-turns : (actor k : ℕ) (turns : List Turn) → Each MayBeUnmade (entries_of_turns actor k turns) → turns ≡ []
no-turns actor k [] unmade = refl
no-turns actor k (Lost count first last ∷ turns) unmade = absurd unmade.0
no-turns actor k (Gave given handling ∷ turns) unmade = absurd unmade.0
no-turns actor k (Quiet end now ∷ turns) unmade = absurd unmade.0
no-turns actor k (Alive end now at ∷ turns) unmade = absurd unmade.0

no-last : (actor k : ℕ) (last : Last) → Each MayBeUnmade (last_entries actor k last) → last_given last ≡ []
no-last actor k GoesOn unmade = refl
no-last actor k (Stopped end) unmade = refl
no-last actor k (Unanswered given at) unmade = absurd unmade.0

count-filter : {A : Type 0} (test : A → Bool) (xs : List A) → length (filter test xs) ≤ length xs
count-filter test [] = omega arith
count-filter test (x ∷ xs) = by_test (test x) (count-filter test xs)
  where
    by_test : (b : Bool) → length (filter test xs) ≤ length xs → length (cond b (x ∷ filter test xs) (filter test xs)) ≤ length (x ∷ xs)
    by_test true more = omega (arith, more)
    by_test false more = omega (arith, more)

-- Turns of which a front was called, of a cursor at a position.
record Few (s : State) (feed at : ℕ) (turns : List Turn) : Type 0 where
  few : length (given_in_turns turns) ≤ count_still feed at s
  none_lost : All (λ (turn : Turn). is_lost turn ≡ false) turns

module _ (s : State) (k : ℕ) (within : k < length s.cursors) (actor feed : ℕ) where
  one-comes : (at : ℕ) (given : List ℕ) (g : Given) → IsAnswered (with_cursor s k (free actor feed at given)) (stepped actor k (given_reply g)) → 1 ≤ count_still feed at s
  one-comes at given g answered =
      let came = product-came s k within actor feed at given g.n g.time g.product.info answered.reply in
      omega (arith, ap (λ (qs : List Queued). length qs) (comes-next feed at 0 s.rows came.row came.first))

  -- of one turn a front was called
  begun-turn : (turn : Turn) (at : ℕ) (given : List ℕ) (part left : List Entry) → part ++ left ≡ turn_entries actor k turn → Each MayBeUnmade left
      → IsLegalFrom (with_cursor s k (free actor feed at given)) part → (length (given_in turn) ≤ count_still feed at s) × (is_lost turn ≡ false)
  begun-turn (Lost count first last) at given part left same unmade legal =
      let t = with_cursor s k (free actor feed at given) in
      absurd (gap-never s k within actor feed at given count first last
      (first-made t (stepped actor k (reply.Gap count first last)) [] part left same unmade (λ no. no) legal).reply)
  begun-turn (Gave g handling) at given part left same unmade legal =
      let t = with_cursor s k (free actor feed at given) in
      let more = handling_entries actor k g handling ++ let_go actor k g ∷ [] in
      (one-comes at given g (first-made t (stepped actor k (given_reply g)) more part left same unmade (λ no. no) legal), refl)
  begun-turn (Quiet end now) at given part left same unmade legal = (omega arith, refl)
  begun-turn (Alive end now sent) at given part left same unmade legal = (omega arith, refl)

  front-turned : (turns : List Turn) (at : ℕ) (given : List ℕ) (part missing : List Entry) → part ++ missing ≡ entries_of_turns actor k turns → Each MayBeUnmade missing
      → IsLegalFrom (with_cursor s k (free actor feed at given)) part → Few s feed at turns
  front-turned [] at given part missing same unmade legal = record { few = omega arith; none_lost = All-nil (λ (turn : Turn). is_lost turn ≡ false) }
  front-turned (turn ∷ turns) at given part missing same unmade legal =
      let t = with_cursor s k (free actor feed at given) in
      let first = turn_entries actor k turn in
      let rest = entries_of_turns actor k turns in
      elim (cut-twice part missing first rest same) [
        | inl w ↦ (
            let parts = (IsLegalFrom-append first w.0 t).0 (subst (IsLegalFrom t) w.1 legal) in
            let one = one-turn s k within actor feed turn at given parts.0 in
            let then_legal : IsLegalFrom (with_cursor s k (free actor feed one.position one.so_far)) w.0 = subst (λ (x : State). IsLegalFrom x w.0) one.state parts.1 in
            let more = front-turned turns one.position one.so_far w.0 missing w.2 unmade then_legal in
            record {
              few = omega (arith, one.few, more.few, length-append (given_in turn) (given_in_turns turns));
              none_lost = All-cons (λ (x : Turn). is_lost x ≡ false) turn turns one.not_lost more.none_lost;
            }
            )
        | inr w ↦ (
            let left_rest = subst (Each MayBeUnmade) w.2 unmade in
            let none = no-turns actor k turns (each-behind MayBeUnmade w.0 rest left_rest) in
            let begun_so = begun-turn turn at given part w.0 w.1 (each-front MayBeUnmade w.0 rest left_rest) legal in
            subst (λ (ts : List Turn). Few s feed at (turn ∷ ts)) (sym none) (record {
              few = omega (arith, begun_so.0, length-append (given_in turn) []);
              none_lost = All-cons (λ (x : Turn). is_lost x ≡ false) turn [] begun_so.1 (All-nil (λ (x : Turn). is_lost x ≡ false));
            })
            )
      ]

  last-few : (last : Last) (at : ℕ) (given : List ℕ) (part missing : List Entry) → part ++ missing ≡ last_entries actor k last → Each MayBeUnmade missing
      → IsLegalFrom (with_cursor s k (free actor feed at given)) part → length (last_given last) ≤ count_still feed at s
  last-few GoesOn at given part missing same unmade legal = omega arith
  last-few (Stopped end) at given part missing same unmade legal = omega arith
  last-few (Unanswered g sent) at given part missing same unmade legal =
      let t = with_cursor s k (free actor feed at given) in
      one-comes at given g (first-made t (stepped actor k (given_reply g)) [] part missing same unmade (λ no. no) legal)

-- Of a feeding a front was called: it was given no more than are queued, and told no loss.
pub record GivesFew (s : State) (turns : List Turn) (last : Last) : Type 0 where
  pub few : length (given_in_turns turns) + length (last_given last) ≤ length (queued s)
  pub none_lost : All (λ (turn : Turn). is_lost turn ≡ false) turns

nothing-given : (s : State) (turns : List Turn) (last : Last) → turns ≡ [] → last_given last ≡ [] → GivesFew s turns last
nothing-given s turns last none goes_on = record {
  few = omega (arith, ap (λ (ts : List Turn). length (given_in_turns ts)) none, ap (λ (gs : List Given). length gs) goes_on);
  none_lost = subst (All (λ (turn : Turn). is_lost turn ≡ false)) (sym none) (All-nil (λ (turn : Turn). is_lost turn ≡ false));
}

module _ (s : State) (actor : ℕ) (asked : Asked) where
  -- its calls behind those that opened the cursor
  abbrev later : ℕ → List Turn → Last → List Entry
  later k turns last = entries_of_turns actor k turns ++ last_entries actor k last

  behind-opening : (k : ℕ) (within : k < length s.cursors) (at : ℕ) (turns : List Turn) (last : Last) (part missing : List Entry) → part ++ missing ≡ later k turns last
      → Each MayBeUnmade missing → IsLegalFrom (with_cursor s k (free actor (feeds_of asked.class) at [])) part → GivesFew s turns last
  behind-opening k within at turns last part missing same unmade legal =
      let feed = feeds_of asked.class in
      let t = with_cursor s k (free actor feed at []) in
      let turning = entries_of_turns actor k turns in
      let ending = last_entries actor k last in
      let all = count-filter (comes feed at) (queued s) in
      elim (cut-twice part missing turning ending same) [
        | inl w ↦ (
            let parts = (IsLegalFrom-append turning w.0 t).0 (subst (IsLegalFrom t) w.1 legal) in
            let turns_are = turned s k within actor feed turns at [] parts.0 in
            let then_legal = subst (λ (x : State). IsLegalFrom x w.0) turns_are.state parts.1 in
            let last_is = last-few s k within actor feed last turns_are.position turns_are.so_far w.0 missing w.2 unmade then_legal in
            record { few = omega (arith, turns_are.few, last_is, all); none_lost = turns_are.none_lost }
            )
        | inr w ↦ (
            let left_rest = subst (Each MayBeUnmade) w.2 unmade in
            let front = front-turned s k within actor feed turns at [] part w.0 w.1 (each-front MayBeUnmade w.0 ending left_rest) legal in
            let none = no-last actor k last (each-behind MayBeUnmade w.0 ending left_rest) in
            record { few = omega (arith, front.few, all, ap (λ (gs : List Given). length gs) none); none_lost = front.none_lost }
            )
      ]

  pub gives-few : (answered : Answered) (turns : List Turn) (last : Last) (part missing : List Entry)
      → part ++ missing ≡ opening_entries actor asked answered ++ later (place_of answered) turns last → Each MayBeUnmade missing → IsLegalFrom s part
      → MayTurn answered turns last → GivesFew s turns last
  gives-few (Opened missed k) turns last part missing same unmade legal may =
      let opening = opening_entries actor asked (Opened missed k) in
      let rest = later k turns last in
      elim (cut-twice part missing opening rest same) [
        | inl w ↦ (
            let parts = (IsLegalFrom-append opening w.0 s).0 (subst (IsLegalFrom s) w.1 legal) in
            let begins = begun s actor asked missed k parts.0 in
            let inside = (least-empty s.cursors k begins.least).0 in
            behind-opening k inside begins.at turns last w.0 missing w.2 unmade (subst (λ (x : State). IsLegalFrom x w.0) begins.state parts.1)
            )
        | inr w ↦ (
            let behind = each-behind MayBeUnmade w.0 rest (subst (Each MayBeUnmade) w.2 unmade) in
            nothing-given s turns last (no-turns actor k turns (each-front MayBeUnmade (entries_of_turns actor k turns) (last_entries actor k last) behind))
            (no-last actor k last (each-behind MayBeUnmade (entries_of_turns actor k turns) (last_entries actor k last) behind))
            )
      ]
  gives-few (Denied rule) turns last part missing same unmade legal may = nothing-given s turns last may.0 (ap last_given may.1)
  gives-few (Reclassed class) turns last part missing same unmade legal may = nothing-given s turns last may.0 (ap last_given may.1)
  gives-few (Busy missed) turns last part missing same unmade legal may = nothing-given s turns last may.0 (ap last_given may.1)
