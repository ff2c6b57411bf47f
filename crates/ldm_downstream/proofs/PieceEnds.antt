-- What pieces come to, by the records that they complete and by what is in hand behind them.
use Rattle.std.proofs.Common.{◌≡◌, ℕ, false, List, [], ◌∷◌, ◌++◌, Option, Some, None, inl, inr, refl, ap, sym, subst, ◌∙◌}
use Rattle.std.proofs.lemmas.List.{append-nil}
use Rattle.ldm_rpc.specs.Streams.{Position}
use Rattle.ldm_model.specs.declared.event.Entry.{Entry}
use Rattle.ldm_shared.specs.Passes.{PassView, Calls}
use Rattle.ldm_intake.specs.declared.end.RecvEnd.{RecvEnd}
use Rattle.ldm_intake.specs.declared.end.RecvEnd.TheVariants.{Ended, Truncated, BadFrame, Refused, LinkFault, LogFault, StreamLimit, Worn, OutOfMemory}
use Rattle.ldm_intake.specs.Course.{Comes, Leads}
use Rattle.ldm_intake.specs.Notes.{note_lines}
use Rattle.ldm_intake.specs.Receiving.{Receiving}
use Rattle.ldm_relay.specs.Spelling.{records_of}
use Rattle.ldm_intake.specs.Taken.{Arrival, Taken, taken_none, taken}
use Rattle.ldm_intake.specs.TakesRecord.{Standing}
use Rattle.ldm_intake.specs.Turning.{HasClosed, HasKept}
use Rattle.ldm_intake.proofs.Courses.{leads-then_comes, leads-then_parts}
use Rattle.ldm_downstream.specs.Pieces.{Piece, arrivals, hand}
use Rattle.ldm_downstream.specs.Taking.{Takes, BreaksOff, GivesUp}
use Rattle.ldm_downstream.specs.Received.{end_by_bytes, end_behind, with_hand, received}
use Rattle.ldm_downstream.specs.Turns.{TakesAll, EndsIn, Stops}
use Rattle.ldm_downstream.specs.Pushing.{EndsWhole, EndsEarly, EndsWorn, Ends, Continues, ClosesIf, is_worn}
use Rattle.ldm_downstream.proofs.Arrivals.{arrivals-append, hand-append}
use Rattle.ldm_downstream.proofs.Followed.{takes-then, takes-same, breaks-then, breaks-same, breaks-here, breaks-looks, breaks-ended}

-- the records were taken, and what is in hand makes the end
pub received-of : (p : Position) (pieces : List Piece) (by end : Option RecvEnd) (a b : Standing) → Takes (taken (taken_none a.receiving) (arrivals p pieces)) by a b
    → end_behind (hand p pieces) by ≡ end → Takes (received a.receiving p pieces) end a b
received-of p pieces by end a b takes end_is = record {
  made = takes.made;
  to = with_hand (hand p pieces) takes.to;
  leads = leads-then_comes a.pass.actor (taken (taken_none a.receiving) (arrivals p pieces)) (λ (t : Taken). Comes (with_hand (hand p pieces) t)) takes.made takes.to
      (with_hand (hand p pieces) takes.to) takes.leads refl;
  end_is = ap (end_behind (hand p pieces)) takes.end_is ∙ end_is;
  calls = takes.calls;
  receiving = takes.receiving;
  sends = takes.sends;
  logs = takes.logs;
}

comes-made : {X : Type 0} (actor : ℕ) (x y : X) (made : List Entry) → Leads actor (Comes x) made y → (made ≡ []) × (y ≡ x)
comes-made actor x y [] leads = (refl, sym leads)
comes-made actor x y (entry ∷ made) leads = absurd leads

-- and back
record IsOf (p : Position) (pieces : List Piece) (end : Option RecvEnd) (a b : Standing) : Type 0 where
  by : Option RecvEnd
  takes : Takes (taken (taken_none a.receiving) (arrivals p pieces)) by a b
  is : end_behind (hand p pieces) by ≡ end

of-received : (p : Position) (pieces : List Piece) (end : Option RecvEnd) (a b : Standing) → Takes (received a.receiving p pieces) end a b → IsOf p pieces end a b
of-received p pieces end a b took =
    let course = taken (taken_none a.receiving) (arrivals p pieces) in
    let parts = leads-then_parts a.pass.actor course (λ (t : Taken). Comes (with_hand (hand p pieces) t)) took.made took.to took.leads in
    let there = comes-made a.pass.actor (with_hand (hand p pieces) parts.mid) took.to parts.more parts.second in
    let made_is : took.made ≡ parts.made = parts.all ∙ ap (λ (m : List Entry). parts.made ++ m) there.0 ∙ append-nil parts.made in
    record {
      by = parts.mid.end;
      takes = record {
        made = parts.made;
        to = parts.mid;
        leads = parts.first;
        end_is = refl;
        calls = subst (λ (m : List Entry). Calls a.pass b.pass m) made_is took.calls;
        receiving = took.receiving ∙ ap (λ (t : Taken). t.receiving) there.1;
        sends = took.sends ∙ ap (λ (t : Taken). a.out ++ records_of t.replies) there.1;
        logs = took.logs ∙ ap (λ (t : Taken). a.notes ++ note_lines t.notes) there.1;
      };
      is = sym (ap (λ (t : Taken). t.end) there.1) ∙ took.end_is;
    }

none-behind : (q : Position) (by : Option RecvEnd) → end_behind q by ≡ None → (by ≡ None) × (end_by_bytes q ≡ None)
none-behind q None is = (refl, is)
none-behind q (Some end) is = absurd (cc is)

-- all records were taken, and what is in hand does not end it
pub continues-takes : (p q : Position) (pieces : List Piece) (a b : Standing) → Continues pieces p q a b → TakesAll (arrivals p pieces) a b × (end_by_bytes (hand p pieces) ≡ None)
continues-takes p q pieces a b continues =
    let of_these = of-received p pieces None a b continues.takes in
    let none = none-behind (hand p pieces) of_these.by of_these.is in
    (subst (λ (by : Option RecvEnd). Takes (taken (taken_none a.receiving) (arrivals p pieces)) by a b) none.0 of_these.takes, none.1)

pub takes-continues : (p q : Position) (pieces : List Piece) (a b : Standing) → TakesAll (arrivals p pieces) a b → end_by_bytes (hand p pieces) ≡ None → q ≡ hand p pieces
    → Continues pieces p q a b
takes-continues p q pieces a b takes none hand_is = record { takes = received-of p pieces None None a b takes none; hand_is = hand_is }

-- ---- pieces behind others

module _ (p q : Position) (first second : List Piece) (a b : Standing) (before : Continues first p q a b) where
  arrivals-both : arrivals p first ++ arrivals q second ≡ arrivals p (first ++ second)
  arrivals-both = ap (λ (r : Position). arrivals p first ++ arrivals r second) before.hand_is ∙ sym (arrivals-append p first second)

  pub hand-both : hand q second ≡ hand p (first ++ second)
  hand-both = ap (λ (r : Position). hand r second) before.hand_is ∙ sym (hand-append p first second)

  pub received-then : (end : Option RecvEnd) (c : Standing) → Takes (received b.receiving q second) end b c → Takes (received a.receiving p (first ++ second)) end a c
  received-then end c later =
      let here = continues-takes p q first a b before in
      let there = of-received q second end b c later in
      let both = takes-same a.receiving (arrivals p first ++ arrivals q second) (arrivals p (first ++ second)) there.by a c arrivals-both
      (takes-then (arrivals p first) (arrivals q second) there.by a b c here.0 there.takes) in
      received-of p (first ++ second) there.by end a c both (ap (λ (r : Position). end_behind r there.by) (sym hand-both) ∙ there.is)

  pub continues-then : (r : Position) (c : Standing) → Continues second q r b c → Continues (first ++ second) p r a c
  continues-then r c later = record { takes = received-then None c later.takes; hand_is = later.hand_is ∙ hand-both }

  pub whole-then : (end : RecvEnd) (c : Standing) → EndsWhole end second q b c → EndsWhole end (first ++ second) p a c
  whole-then end c later = record { between = later.between; takes = received-then (Some end) later.between later.takes; gives_up = later.gives_up }

  pub breaks-behind : (c : Standing) → BreaksOff (arrivals q second) b c → BreaksOff (arrivals p (first ++ second)) a c
  breaks-behind c later =
      breaks-same (arrivals p first ++ arrivals q second) (arrivals p (first ++ second)) a c arrivals-both
      (breaks-then (arrivals p first) (arrivals q second) a b c (continues-takes p q first a b before).0 later)

  pub early-then : (c : Standing) → EndsEarly second q b c → EndsEarly (first ++ second) p a c
  early-then c later = record { between = later.between; breaks = breaks-behind later.between later.breaks; gives_up = later.gives_up }

  pub worn-then : (c : Standing) → EndsWorn second q b c → EndsWorn (first ++ second) p a c
  worn-then c later = record { breaks = breaks-behind c later.breaks; worn = later.worn }

-- ---- an end

abbrev pub closed_at : Standing → Receiving → PassView → Standing
closed_at b s pass = record b { receiving = s; pass = pass }

pub gives-up : (b : Standing) (s : Receiving) (pass : PassView) → HasClosed b.receiving s b.pass pass → GivesUp b (closed_at b s pass)
gives-up b s pass closes = record { closes = closes; sends = refl; logs = refl }

pub worn-of : (pieces : List Piece) (p : Position) (a b : Standing) (s : Receiving) (pass : PassView) → BreaksOff (arrivals p pieces) a b → HasKept b.receiving s b.pass pass
    → EndsWorn pieces p a (closed_at b s pass)
worn-of pieces p a b s pass breaks kept = record {
  breaks = breaks-looks (arrivals p pieces) a b (closed_at b s pass) breaks kept.calls (ap (λ (r : Receiving). record b { receiving = r; pass = pass }) kept.same);
  worn = kept.worn;
}

breaks-in_by : (xs : List Arrival) (a b : Standing) (by : Option RecvEnd) → Takes (taken (taken_none a.receiving) xs) by a b → BreaksOff xs a b
breaks-in_by xs a b None takes = breaks-same (xs ++ []) xs a b (append-nil xs) (breaks-here xs [] a b takes)
breaks-in_by xs a b (Some by) takes = breaks-ended xs by a b takes

breaks-in : (end : RecvEnd) (xs : List Arrival) (q : Position) (a b : Standing) → EndsIn end xs q a b → BreaksOff xs a b
breaks-in end xs q a b ends = breaks-in_by xs a b ends.by_record ends.takes

-- whatever end these pieces came to, a front of their records was taken
pub breaks-received : (p : Position) (pieces : List Piece) (end : Option RecvEnd) (a b : Standing) → Takes (received a.receiving p pieces) end a b → BreaksOff (arrivals p pieces) a b
breaks-received p pieces end a b takes =
    let of_these = of-received p pieces end a b takes in
    breaks-in_by (arrivals p pieces) a b of_these.by of_these.takes

whole-of : (end : RecvEnd) (pieces : List Piece) (p : Position) (a b : Standing) (s : Receiving) (pass : PassView) → EndsIn end (arrivals p pieces) (hand p pieces) a b
    → HasClosed b.receiving s b.pass pass → EndsWhole end pieces p a (closed_at b s pass)
whole-of end pieces p a b s pass ends closes = record {
  between = b;
  takes = received-of p pieces ends.by_record (Some end) a b ends.takes ends.end_is;
  gives_up = gives-up b s pass closes;
}

-- the end that a receiver answers: that one, or that the queue can have no call more
Ends-same : (end other : RecvEnd) (pieces : List Piece) (p : Position) (a c : Standing) → end ≡ other → Ends end pieces p a c → Ends other pieces p a c
Ends-same end other pieces p a c same ends = subst (λ (e : RecvEnd). Ends e pieces p a c) same ends

module _ (pieces : List Piece) (p : Position) (a b : Standing) (s : Receiving) (pass : PassView) where
  whole-or_worn : (end result : RecvEnd) → EndsIn end (arrivals p pieces) (hand p pieces) a b
      → (EndsWhole end pieces p a (closed_at b s pass) → Ends end pieces p a (closed_at b s pass))
      → ClosesIf false end result b.receiving s b.pass pass → Ends result pieces p a (closed_at b s pass)
  whole-or_worn end result ends whole closes = elim closes [
    | inl closed ↦ Ends-same end result pieces p a (closed_at b s pass) (sym closed.0) (whole (whole-of end pieces p a b s pass ends closed.1))
    | inr kept ↦ Ends-same Worn result pieces p a (closed_at b s pass) (sym kept.0)
        (worn-of pieces p a b s pass (breaks-in end (arrivals p pieces) (hand p pieces) a b ends) kept.1)
  ]

  pub push-ends : (end result : RecvEnd) → Stops end (arrivals p pieces) (hand p pieces) a b → ClosesIf (is_worn end) end result b.receiving s b.pass pass
      → Ends result pieces p a (closed_at b s pass)
  push-ends (BadFrame at) result stops closes = whole-or_worn (BadFrame at) result stops (λ whole. whole) closes
  push-ends (Refused answer) result stops closes = whole-or_worn (Refused answer) result stops (λ whole. whole) closes
  push-ends StreamLimit result stops closes = whole-or_worn StreamLimit result stops (λ whole. whole) closes
  push-ends OutOfMemory result stops closes = elim closes [
    | inl closed ↦ Ends-same OutOfMemory result pieces p a (closed_at b s pass) (sym closed.0)
        (record { between = b; breaks = stops; gives_up = gives-up b s pass closed.1 })
    | inr kept ↦ Ends-same Worn result pieces p a (closed_at b s pass) (sym kept.0) (worn-of pieces p a b s pass stops kept.1)
  ]
  push-ends Worn result stops closes =
      let same : closed_at b s pass ≡ b = ap (λ (r : Receiving). record b { receiving = r; pass = pass }) closes.1 ∙ ap (λ (v : PassView). record b { pass = v }) closes.2 in
      Ends-same Worn result pieces p a (closed_at b s pass) (sym closes.0)
      (subst (λ (c : Standing). EndsWorn pieces p a c) (sym same) (record { breaks = stops.0; worn = stops.1 }))
  push-ends Ended result stops closes = absurd stops
  push-ends (Truncated at) result stops closes = absurd stops
  push-ends LinkFault result stops closes = absurd stops
  push-ends LogFault result stops closes = absurd stops
