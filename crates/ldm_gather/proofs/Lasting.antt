-- What the records of a stream lead to, whoever calls the queue; and an end that is the same whatever comes behind it.
use Rattle.std.proofs.Common.{◌≡◌, ◌∙◌, ℕ, ◌-◌, ◌≤◌, leb, Bool, true, false, List, [], ◌∷◌, ◌++◌, map, Option, Some, None, refl, sym, ap, subst, arith}
use Rattle.std.proofs.lemmas.List.{append-nil}
use borrow.Author.Tests.{leb-true}
use Rattle.ldm_model.specs.declared.event.Entry.{Entry}
use Rattle.ldm_rpc.specs.declared.fault.RpcFault.{RpcFault}
use Rattle.ldm_rpc.specs.declared.stage.Stage.{Stage}
use Rattle.ldm_rpc.specs.declared.stage.Stage.TheVariants.{Header, Fragment, Whole, Faulty}
use Rattle.ldm_rpc.specs.Reading.{is_faulty, is_faulty_at, is_open_at, is_whole_at}
use Rattle.ldm_rpc.specs.Streams.{Position, records_in, in_hand}
use Rattle.ldm_rpc.proofs.CallerLemmas.{reads_none, reads_fault}
use Rattle.ldm_rpc.proofs.Pushed.{after_end}
use Rattle.ldm_intake.specs.declared.end.RecvEnd.{RecvEnd}
use Rattle.ldm_intake.specs.Course.{Course, Comes, Asks, Leads, entry_by}
use Rattle.ldm_intake.specs.Receiving.{Receiving}
use Rattle.ldm_intake.specs.Taken.{Arrival, Taken, taken_none, taken}
use Rattle.ldm_intake.proofs.Courses.{leads-then_comes, leads-then_parts}
use Rattle.ldm_intake.proofs.TakenRecords.{leads-ended}
use Rattle.ldm_session.specs.declared.limits.TheConstants.{LONGEST_STREAM}
use Rattle.ldm_downstream.specs.Pieces.{Piece, arrived, arrivals, hand, within}
use Rattle.ldm_downstream.specs.Received.{end_behind, end_by_bytes, received, with_hand}
use Rattle.ldm_downstream.proofs.Arrivals.{arrivals-append, arrivals-one, hand-append, hand-one}

-- ---- the same calls, by another actor

abbrev pub by : ℕ → List Entry → List Entry
by actor made = map (λ (entry : Entry). entry_by actor entry.event entry.reply) made

pub leads-by : {X : Type 0} (actor other : ℕ) (c : Course X) (made : List Entry) (x : X) → Leads actor c made x → Leads other c (by other made) x
leads-by actor other (Comes to) [] x leads = leads
leads-by actor other (Comes to) (entry ∷ made) x leads = absurd leads
leads-by actor other (Asks event on) [] x leads = absurd leads
leads-by actor other (Asks event on) (entry ∷ made) x leads = (
  ap (λ (e : Entry). entry_by other e.event entry.reply) leads.0,
  leads-by actor other (on entry.reply) made x leads.1,
)

-- ---- a receiving, by what its records lead to

comes-made : {X : Type 0} (actor : ℕ) (x y : X) (made : List Entry) → Leads actor (Comes x) made y → (made ≡ []) × (y ≡ x)
comes-made actor x y [] leads = (refl, sym leads)
comes-made actor x y (entry ∷ made) leads = absurd leads

-- where its records lead, the receiving leads
pub received-leads : (actor : ℕ) (s : Receiving) (p : Position) (pieces : List Piece) (made : List Entry) (u : Taken)
    → Leads actor (taken (taken_none s) (arrivals p pieces)) made u → Leads actor (received s p pieces) made (with_hand (hand p pieces) u)
received-leads actor s p pieces made u leads =
    leads-then_comes actor (taken (taken_none s) (arrivals p pieces)) (λ (t : Taken). Comes (with_hand (hand p pieces) t)) made u (with_hand (hand p pieces) u) leads refl

-- What a receiving led to is what its records led to, with what is in hand behind them.
pub record ByRecords (actor : ℕ) (s : Receiving) (p : Position) (pieces : List Piece) (made : List Entry) (t : Taken) : Type 0 where
  pub to : Taken
  pub leads : Leads actor (taken (taken_none s) (arrivals p pieces)) made to
  pub is : t ≡ with_hand (hand p pieces) to

pub by-records : (actor : ℕ) (s : Receiving) (p : Position) (pieces : List Piece) (made : List Entry) (t : Taken) → Leads actor (received s p pieces) made t
    → ByRecords actor s p pieces made t
by-records actor s p pieces made t leads =
    let course = taken (taken_none s) (arrivals p pieces) in
    let parts = leads-then_parts actor course (λ (u : Taken). Comes (with_hand (hand p pieces) u)) made t leads in
    let there = comes-made actor (with_hand (hand p pieces) parts.mid) t parts.more parts.second in
    let made_is : parts.made ≡ made = sym (parts.all ∙ ap (λ (m : List Entry). parts.made ++ m) there.0 ∙ append-nil parts.made) in
    record { to = parts.mid; leads = subst (λ (m : List Entry). Leads actor course m parts.mid) made_is parts.first; is = there.1 }

-- ---- what is in hand that ended a receiving ends it still, whatever comes

fault_at : (stage : Stage) → is_faulty_at stage ≡ true → (fault : RpcFault) × (stage ≡ Faulty fault)
fault_at (Header came number) faulty = absurd cc
fault_at (Fragment left last) faulty = absurd cc
fault_at Whole faulty = absurd cc
fault_at (Faulty fault) faulty = (fault, refl)

-- more bytes complete no record, and the end is the same
record IsOver (p : Position) (bytes : List ℕ) : Type 0 where
  none : records_in p bytes ≡ []
  same : end_by_bytes (in_hand p bytes) ≡ end_by_bytes p

faulty-over : (p : Position) (bytes : List ℕ) (fault : RpcFault) → p.reading.stage ≡ Faulty fault → IsOver p bytes
faulty-over p bytes fault stage =
    let r = after_end p.reading bytes (ap is_open_at stage) in
    let read = reads_fault p bytes [] p bytes [] p.reading fault (reads_none p bytes [] (ap is_whole_at stage)) (sym r) stage in
    let before : is_faulty p.reading ≡ true = ap is_faulty_at stage in
    let behind : is_faulty (in_hand p bytes).reading ≡ true = ap is_faulty read.1 ∙ before in
    record { none = sym read.0; same = rw (behind, before, read.2) refl }

full-over : (p : Position) (bytes : List ℕ) → leb LONGEST_STREAM p.came ≡ true → IsOver p (within p bytes)
unfolding records_in in_hand
full-over p bytes full =
    let most : LONGEST_STREAM ≤ p.came = leb-true LONGEST_STREAM p.came full in
    let none : LONGEST_STREAM - p.came ≡ 0 = omega arith in
    rw none (record { none = refl; same = refl })

over_by : (p : Position) (bytes : List ℕ) (end : RecvEnd) (faulty full : Bool) → is_faulty p.reading ≡ faulty → leb LONGEST_STREAM p.came ≡ full
    → end_by_bytes p ≡ Some end → IsOver p (within p bytes)
over_by p bytes end true full faulty_is full_is ended =
    let fault = fault_at p.reading.stage faulty_is in
    faulty-over p (within p bytes) fault.0 fault.1
over_by p bytes end false true faulty_is full_is ended = full-over p bytes full_is
over_by p bytes end false false faulty_is full_is ended =
    let none : end_by_bytes p ≡ None = rw (faulty_is, full_is) refl in
    absurd (let same : None ≡ Some end = sym none ∙ ended in cc same)

over : (p : Position) (bytes : List ℕ) (end : RecvEnd) → end_by_bytes p ≡ Some end → IsOver p (within p bytes)
over p bytes end ended = over_by p bytes end (is_faulty p.reading) (leb LONGEST_STREAM p.came) refl refl ended

-- the same entries lead to that end
pub record LeadsToEnd (actor : ℕ) (s : Receiving) (p : Position) (pieces : List Piece) (made : List Entry) (end : RecvEnd) : Type 0 where
  pub to : Taken
  pub leads : Leads actor (received s p pieces) made to
  pub end_is : to.end ≡ Some end

module _ (actor : ℕ) (s : Receiving) (p : Position) (pieces : List Piece) (piece : Piece) (made : List Entry) (u : Taken)
    (leads : Leads actor (taken (taken_none s) (arrivals p pieces)) made u) (end : RecvEnd) where
  more : List Piece
  more = pieces ++ piece ∷ []

  arrivals_are : arrivals p more ≡ arrivals p pieces ++ arrivals (hand p pieces) (piece ∷ [])
  unfolding more
  arrivals_are = arrivals-append p pieces (piece ∷ [])

  hand_is : hand p more ≡ in_hand (hand p pieces) (within (hand p pieces) piece.bytes)
  unfolding more
  hand_is = hand-append p pieces (piece ∷ []) ∙ hand-one (hand p pieces) piece

  ended_by : (by_end : Option RecvEnd) → u.end ≡ by_end → end_behind (hand p pieces) u.end ≡ Some end → LeadsToEnd actor s p more made end
  ended_by (Some other) by_is ended =
      let behind = arrivals (hand p pieces) (piece ∷ []) in
      let there : Leads actor (taken (taken_none s) (arrivals p more)) made u =
      subst (λ (xs : List Arrival). Leads actor (taken (taken_none s) xs) made u) (sym arrivals_are)
      (leads-ended actor (taken_none s) refl (arrivals p pieces) behind made u other leads by_is) in
      record {
        to = with_hand (hand p more) u;
        leads = received-leads actor s p more made u there;
        end_is = ap (end_behind (hand p more)) by_is ∙ sym (ap (end_behind (hand p pieces)) by_is) ∙ ended;
      }
  ended_by None by_is ended =
      let by_bytes : end_by_bytes (hand p pieces) ≡ Some end = sym (ap (end_behind (hand p pieces)) by_is) ∙ ended in
      let is = over (hand p pieces) piece.bytes end by_bytes in
      let none : arrivals p pieces ≡ arrivals p more =
      sym (arrivals_are ∙ ap (λ (xs : List Arrival). arrivals p pieces ++ xs) (arrivals-one (hand p pieces) piece ∙ ap (arrived piece.now) is.none) ∙ append-nil (arrivals p pieces)) in
      record {
        to = with_hand (hand p more) u;
        leads = received-leads actor s p more made u (subst (λ (xs : List Arrival). Leads actor (taken (taken_none s) xs) made u) none leads);
        end_is = ap (end_behind (hand p more)) by_is ∙ ap end_by_bytes hand_is ∙ is.same ∙ by_bytes;
      }

  pub ended-more : end_behind (hand p pieces) u.end ≡ Some end → LeadsToEnd actor s p (pieces ++ piece ∷ []) made end
  unfolding more
  ended-more ended = ended_by u.end refl ended
