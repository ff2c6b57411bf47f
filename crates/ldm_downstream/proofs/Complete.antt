-- A stream that is accepted is received to its end.
use Rattle.std.proofs.Common.{◌≡◌, ℕ, ◌-◌, ◌≤◌, leb, Bool, true, false, List, [], ◌∷◌, ◌++◌, Option, Some, None, IfSome, refl, ap, sym, subst, ◌∙◌, append_assoc, arith}
use Rattle.std.specs.Option.{option_map}
use Rattle.std.proofs.lemmas.List.{append-nil}
use Rattle.std.proofs.lemmas.List.Concat.{flat_map-append}
use borrow.Author.Tests.{leb-true}
use Rattle.ldm_outside.specs.Count.{Rose}
use Rattle.ldm_outside.specs.Session.{SessionRecord}
use Rattle.ldm_model.specs.declared.event.Entry.{Entry}
use Rattle.ldm_rpc.specs.declared.fault.RpcFault.{RpcFault}
use Rattle.ldm_rpc.specs.declared.stage.Stage.{Stage}
use Rattle.ldm_rpc.specs.declared.stage.Stage.TheVariants.{Header, Fragment, Whole, Faulty}
use Rattle.ldm_rpc.specs.Reading.{is_faulty, is_faulty_at, is_open_at, is_whole_at}
use Rattle.ldm_rpc.specs.Streams.{Position, records_in, in_hand}
use Rattle.ldm_rpc.proofs.CallerLemmas.{reads_none, reads_fault}
use Rattle.ldm_rpc.proofs.Pushed.{after_end}
use Rattle.ldm_shared.specs.Passes.{PassView, Calls}
use Rattle.ldm_shared.proofs.Made.{calls_trans}
use Rattle.ldm_intake.specs.declared.end.RecvEnd.{RecvEnd}
use Rattle.ldm_intake.specs.declared.end.RecvEnd.TheVariants.{Ended, Truncated, BadFrame, Refused, LinkFault, LogFault, StreamLimit, Worn, OutOfMemory}
use Rattle.ldm_intake.specs.Course.{Comes, Leads}
use Rattle.ldm_intake.specs.Receiving.{Receiving}
use Rattle.ldm_intake.specs.Taken.{Arrival, Taken, taken_none, taken}
use Rattle.ldm_intake.specs.TakesRecord.{Standing}
use Rattle.ldm_intake.proofs.Courses.{leads-then_comes, leads-then_parts}
use Rattle.ldm_intake.proofs.TakenRecords.{leads-ended}
use Rattle.ldm_session.specs.declared.limits.TheConstants.{LONGEST_STREAM}
use Rattle.ldm_downstream.specs.Pieces.{Piece, arrived, arrivals, beginning, hand, joined, within}
use Rattle.ldm_downstream.specs.Taking.{GivesUp}
use Rattle.ldm_downstream.specs.Received.{at_stream_end, end_behind, end_by_bytes, is_edge, received, with_hand}
use Rattle.ldm_downstream.specs.Pushing.{EndsWhole}
use Rattle.ldm_downstream.specs.Receives.{EndsStream, ReceivingHasEnded, Passed, Receives, ReceivesAll, at_first}
use Rattle.ldm_downstream.specs.Complete.{AcceptsBy, AcceptsReplied, Completes, IsComplete}
use Rattle.ldm_downstream.proofs.Arrivals.{arrivals-append, arrivals-one, hand-append, hand-one}

-- ---- what is in hand that ended a receiving ends it still, whatever comes

fault_at : (stage : Stage) → is_faulty_at stage ≡ true → (fault : RpcFault) × (stage ≡ Faulty fault)
fault_at (Header came number) faulty = absurd cc
fault_at (Fragment left last) faulty = absurd cc
fault_at Whole faulty = absurd cc
fault_at (Faulty fault) faulty = (fault, refl)

-- more bytes complete no record, and the end is the same
record IsOver (p : Position) (bytes : List ℕ) : Type 0 where
  none : records_in p bytes ≡ []
  same : end_by_bytes (in_hand p bytes) ≡ end_by_bytes p

faulty-over : (p : Position) (bytes : List ℕ) (fault : RpcFault) → p.reading.stage ≡ Faulty fault → IsOver p bytes
faulty-over p bytes fault stage =
    let r = after_end p.reading bytes (ap is_open_at stage) in
    let read = reads_fault p bytes [] p bytes [] p.reading fault (reads_none p bytes [] (ap is_whole_at stage)) (sym r) stage in
    let before : is_faulty p.reading ≡ true = ap is_faulty_at stage in
    let behind : is_faulty (in_hand p bytes).reading ≡ true = ap is_faulty read.1 ∙ before in
    record { none = sym read.0; same = rw (behind, before, read.2) refl }

full-over : (p : Position) (bytes : List ℕ) → leb LONGEST_STREAM p.came ≡ true → IsOver p (within p bytes)
unfolding records_in in_hand
full-over p bytes full =
    let most : LONGEST_STREAM ≤ p.came = leb-true LONGEST_STREAM p.came full in
    let none : LONGEST_STREAM - p.came ≡ 0 = omega arith in
    rw none (record { none = refl; same = refl })

over_by : (p : Position) (bytes : List ℕ) (end : RecvEnd) (faulty full : Bool) → is_faulty p.reading ≡ faulty → leb LONGEST_STREAM p.came ≡ full
    → end_by_bytes p ≡ Some end → IsOver p (within p bytes)
over_by p bytes end true full faulty_is full_is ended =
    let fault = fault_at p.reading.stage faulty_is in
    faulty-over p (within p bytes) fault.0 fault.1
over_by p bytes end false true faulty_is full_is ended = full-over p bytes full_is
over_by p bytes end false false faulty_is full_is ended =
    let none : end_by_bytes p ≡ None = rw (faulty_is, full_is) refl in
    absurd (let same : None ≡ Some end = sym none ∙ ended in cc same)

over : (p : Position) (bytes : List ℕ) (end : RecvEnd) → end_by_bytes p ≡ Some end → IsOver p (within p bytes)
over p bytes end ended = over_by p bytes end (is_faulty p.reading) (leb LONGEST_STREAM p.came) refl refl ended

-- ---- a receiving that ended is ended by the same end, whatever comes

comes-made : {X : Type 0} (actor : ℕ) (x y : X) (made : List Entry) → Leads actor (Comes x) made y → (made ≡ []) × (y ≡ x)
comes-made actor x y [] leads = (refl, sym leads)
comes-made actor x y (entry ∷ made) leads = absurd leads

-- where its records lead, the receiving leads
received-leads : (actor : ℕ) (s : Receiving) (p : Position) (pieces : List Piece) (made : List Entry) (u : Taken)
    → Leads actor (taken (taken_none s) (arrivals p pieces)) made u → Leads actor (received s p pieces) made (with_hand (hand p pieces) u)
received-leads actor s p pieces made u leads =
    leads-then_comes actor (taken (taken_none s) (arrivals p pieces)) (λ (t : Taken). Comes (with_hand (hand p pieces) t)) made u (with_hand (hand p pieces) u) leads refl

-- the same entries lead to that end
record LeadsToEnd (actor : ℕ) (s : Receiving) (p : Position) (pieces : List Piece) (made : List Entry) (end : RecvEnd) : Type 0 where
  to : Taken
  leads : Leads actor (received s p pieces) made to
  end_is : to.end ≡ Some end

module _ (actor : ℕ) (s : Receiving) (p : Position) (pieces : List Piece) (piece : Piece) (made : List Entry) (u : Taken)
    (leads : Leads actor (taken (taken_none s) (arrivals p pieces)) made u) (end : RecvEnd) where
  more : List Piece
  more = pieces ++ piece ∷ []

  arrivals_are : arrivals p more ≡ arrivals p pieces ++ arrivals (hand p pieces) (piece ∷ [])
  unfolding more
  arrivals_are = arrivals-append p pieces (piece ∷ [])

  hand_is : hand p more ≡ in_hand (hand p pieces) (within (hand p pieces) piece.bytes)
  unfolding more
  hand_is = hand-append p pieces (piece ∷ []) ∙ hand-one (hand p pieces) piece

  ended_by : (by : Option RecvEnd) → u.end ≡ by → end_behind (hand p pieces) u.end ≡ Some end → LeadsToEnd actor s p more made end
  ended_by (Some other) by_is ended =
      let behind = arrivals (hand p pieces) (piece ∷ []) in
      let there : Leads actor (taken (taken_none s) (arrivals p more)) made u =
      subst (λ (xs : List Arrival). Leads actor (taken (taken_none s) xs) made u) (sym arrivals_are)
      (leads-ended actor (taken_none s) refl (arrivals p pieces) behind made u other leads by_is) in
      record {
        to = with_hand (hand p more) u;
        leads = received-leads actor s p more made u there;
        end_is = ap (end_behind (hand p more)) by_is ∙ sym (ap (end_behind (hand p pieces)) by_is) ∙ ended;
      }
  ended_by None by_is ended =
      let by_bytes : end_by_bytes (hand p pieces) ≡ Some end = sym (ap (end_behind (hand p pieces)) by_is) ∙ ended in
      let is = over (hand p pieces) piece.bytes end by_bytes in
      let none : arrivals p pieces ≡ arrivals p more =
      sym (arrivals_are ∙ ap (λ (xs : List Arrival). arrivals p pieces ++ xs) (arrivals-one (hand p pieces) piece ∙ ap (arrived piece.now) is.none) ∙ append-nil (arrivals p pieces)) in
      record {
        to = with_hand (hand p more) u;
        leads = received-leads actor s p more made u (subst (λ (xs : List Arrival). Leads actor (taken (taken_none s) xs) made u) none leads);
        end_is = ap (end_behind (hand p more)) by_is ∙ ap end_by_bytes hand_is ∙ is.same ∙ by_bytes;
      }

ended-more : (actor : ℕ) (s : Receiving) (p : Position) (pieces : List Piece) (piece : Piece) (made : List Entry) (t : Taken) (end : RecvEnd)
    → Leads actor (received s p pieces) made t → t.end ≡ Some end → LeadsToEnd actor s p (pieces ++ piece ∷ []) made end
unfolding more
ended-more actor s p pieces piece made t end leads ended =
    let course = taken (taken_none s) (arrivals p pieces) in
    let parts = leads-then_parts actor course (λ (u : Taken). Comes (with_hand (hand p pieces) u)) made t leads in
    let there = comes-made actor (with_hand (hand p pieces) parts.mid) t parts.more parts.second in
    let made_is : parts.made ≡ made = sym (parts.all ∙ ap (λ (m : List Entry). parts.made ++ m) there.0 ∙ append-nil parts.made) in
    ended_by actor s p pieces piece made parts.mid (subst (λ (m : List Entry). Leads actor course m parts.mid) made_is parts.first) end parts.mid.end refl
    (sym (ap (λ (u : Taken). u.end) there.1) ∙ ended)

-- ---- completeness

joined-more : (pieces : List Piece) (now : ℕ) (rest : List ℕ) → joined (pieces ++ record { now = now; bytes = rest } ∷ []) ≡ joined pieces ++ rest
joined-more pieces now rest =
    flat_map-append (λ (piece : Piece). piece.bytes) pieces (record { now = now; bytes = rest } ∷ [])
    ∙ ap (λ (xs : List ℕ). joined pieces ++ xs) (append-nil rest)

-- what the link gave is a front of its stream
record HasRest (pieces : List Piece) (stream : List ℕ) (left : Option (List ℕ)) : Type 0 where
  rest : List ℕ
  left_is : left ≡ Some rest
  all : joined pieces ++ rest ≡ stream

rest_of : (pieces : List Piece) (stream : List ℕ) (left : Option (List ℕ)) → Some stream ≡ option_map (λ (rest : List ℕ). joined pieces ++ rest) left
    → HasRest pieces stream left
rest_of pieces stream None given = absurd (cc given)
rest_of pieces stream (Some rest) given = record { rest = rest; left_is = refl; all = let same : joined pieces ++ rest ≡ stream = cc given in same }

no_end : (t : Taken) (end : RecvEnd) → t.end ≡ Some end → t.end ≡ None → ⊥
no_end t end some none = let same : Some end ≡ None = sym some ∙ none in cc same

-- the bytes that came ahead and those that were left are those of the pieces, and those that are left still
left_behind : (ahead given all rest : List ℕ) (old new : Option (List ℕ)) → all ≡ ahead ++ given → old ≡ option_map (λ (bytes : List ℕ). given ++ bytes) new → old ≡ Some rest
    → Some (ahead ++ rest) ≡ option_map (λ (bytes : List ℕ). all ++ bytes) new
left_behind ahead given all rest old None all_is left had = let none : None ≡ Some rest = sym left ∙ had in absurd (cc none)
left_behind ahead given all rest old (Some bytes) all_is left had =
    let same : Some (given ++ bytes) ≡ Some rest = sym left ∙ had in
    let rest_is : given ++ bytes ≡ rest = cc same in
    ap (λ (xs : List ℕ). Some xs)
    (ap (λ (xs : List ℕ). ahead ++ xs) (sym rest_is) ∙ sym (append_assoc ahead given bytes) ∙ ap (λ (xs : List ℕ). xs ++ bytes) (sym all_is))

module _ (s : Receiving) (ahead : List ℕ) (old new : PassView) (before after : SessionRecord) (behind : List ℕ) (had : before.link.left ≡ Some behind)
    (accepts : AcceptsReplied s (ahead ++ behind) old new) where
  was_given : (pieces : List Piece) (sent lines : List ℕ) → Passed ahead pieces sent lines before after
      → Some (ahead ++ behind) ≡ option_map (λ (rest : List ℕ). joined pieces ++ rest) after.link.left
  was_given pieces sent lines passed =
      left_behind ahead passed.given (joined pieces) behind before.link.left after.link.left passed.all passed.exchanged.left had

  -- all that was called until the end, and what an end gives up
  accepts_by : (between at_end : Standing) (made : List Entry) → Calls old between.pass made → GivesUp between at_end → at_end.pass ≡ new
      → AcceptsBy old.actor made s (ahead ++ behind)
  accepts_by between at_end made calls gives pass_is =
      accepts made gives.closes.made (subst (λ (pass : PassView). Calls old pass (made ++ gives.closes.made)) pass_is
      (calls_trans old between.pass at_end.pass made gives.closes.made calls gives.closes.calls))

  not_whole : (end : RecvEnd) (pieces : List Piece) (at_end : Standing) → EndsWhole end pieces beginning (at_first s old) at_end → at_end.pass ≡ new
      → Some (ahead ++ behind) ≡ option_map (λ (rest : List ℕ). joined pieces ++ rest) after.link.left → ⊥
  not_whole end pieces at_end whole pass_is given =
      let takes = whole.takes in
      let front = rest_of pieces (ahead ++ behind) after.link.left given in
      let piece : Piece = record { now = 0; bytes = front.rest } in
      let longer = ended-more old.actor s beginning pieces piece takes.made takes.to end takes.leads takes.end_is in
      let fine = accepts_by whole.between at_end takes.made takes.calls whole.gives_up pass_is (pieces ++ piece ∷ []) longer.to
      (joined-more pieces 0 front.rest ∙ front.all) longer.leads in
      no_end longer.to end longer.end_is fine.0

  not_truncated : (at : ℕ) (pieces : List Piece) (at_end : Standing) → EndsStream (Truncated at) pieces beginning (at_first s old) at_end → at_end.pass ≡ new
      → Some (ahead ++ behind) ≡ option_map (λ (rest : List ℕ). joined pieces ++ rest) after.link.left → ReceivingHasEnded before after → ⊥
  not_truncated at pieces at_end ends pass_is given ended =
      let takes = ends.takes in
      let front = rest_of pieces (ahead ++ behind) after.link.left given in
      let none : front.rest ≡ [] = subst (λ (o : Option (List ℕ)). IfSome o (λ (rest : List ℕ). rest ≡ [])) front.left_is ended.1 in
      let all : joined pieces ≡ ahead ++ behind = sym (append-nil (joined pieces)) ∙ ap (λ (xs : List ℕ). joined pieces ++ xs) (sym none) ∙ front.all in
      let fine = accepts_by ends.between at_end takes.made takes.calls ends.gives_up pass_is pieces takes.to all takes.leads in
      let edge : is_edge (hand beginning pieces) ends.between.receiving ≡ true = ap (is_edge (hand beginning pieces)) takes.receiving ∙ fine.1 in
      let is : at_stream_end (hand beginning pieces) ends.between.receiving ≡ Ended = rw edge refl in
      let same : Truncated at ≡ Ended = ends.end_is ∙ is in
      cc same

  completes_by : (end : RecvEnd) (at_end : Standing) → Receives end ahead beginning (at_first s old) at_end before after → at_end.pass ≡ new
      → ¬ Rose before.link.faults after.link.faults → ¬ Rose before.log.faults after.log.faults → IsComplete end
  completes_by Ended at_end receives pass_is link log = tt
  completes_by Worn at_end receives pass_is link log = tt
  completes_by OutOfMemory at_end receives pass_is link log = tt
  completes_by (Truncated at) at_end receives pass_is link log =
      not_truncated at receives.pieces at_end receives.comes pass_is (was_given receives.pieces receives.sent receives.lines receives.passed) receives.cause
  completes_by (BadFrame at) at_end receives pass_is link log =
      not_whole (BadFrame at) receives.pieces at_end receives.comes pass_is (was_given receives.pieces receives.sent receives.lines receives.passed)
  completes_by (Refused answer) at_end receives pass_is link log =
      not_whole (Refused answer) receives.pieces at_end receives.comes pass_is (was_given receives.pieces receives.sent receives.lines receives.passed)
  completes_by StreamLimit at_end receives pass_is link log =
      not_whole StreamLimit receives.pieces at_end receives.comes pass_is (was_given receives.pieces receives.sent receives.lines receives.passed)
  completes_by LinkFault at_end receives pass_is link log = link receives.cause
  completes_by LogFault at_end receives pass_is link log = log receives.cause

pub completes : (end : RecvEnd) (last : Option (List ℕ)) (s : Receiving) (ahead : List ℕ) (old new : PassView) (before after : SessionRecord)
    → ReceivesAll end last s ahead old new before after → Completes end s ahead old new before after
completes end last s ahead old new before after all rest left accepts link log =
    completes_by s ahead old new before after rest left accepts end all.at_end all.receives all.pass_is link log
