-- A reply that does not grant what was asked for, and how it ends a receiving.
use Rattle.std.proofs.Common.{◌≡◌, ◌⊎◌, ℕ, true, false, List, [], ◌∷◌, Option, Some, None, inl, inr, refl, ap, sym, subst, ◌∙◌, arith}
use Rattle.std.specs.Prelude.{IsSome}
use Rattle.std.proofs.lemmas.List.{length-append}
use Rattle.ldm_xdr.specs.Spelling.{unsigned}
use Rattle.ldm_xdr.proofs.Lengths.{length_unsigned}
use Rattle.ldm_model.specs.declared.event.Entry.{Entry}
use Rattle.ldm_rpc.specs.Streams.{Position}
use Rattle.ldm_relay.specs.declared.message.ClassAnswer.{ClassAnswer}
use Rattle.ldm_relay.specs.declared.message.ClassAnswer.TheVariants as class_answer
use Rattle.ldm_relay.specs.Fits.{ClassAnswerFits}
use Rattle.ldm_relay.specs.Sent.{Sent}
use Rattle.ldm_relay.specs.Sent as sent
use Rattle.ldm_relay.specs.Spelling.{reply_header, written}
use Rattle.ldm_intake.specs.declared.end.RecvEnd.{RecvEnd}
use Rattle.ldm_intake.specs.declared.end.RecvEnd.TheVariants.{BadFrame, Refused}
use Rattle.ldm_intake.specs.Answered.{by_answer}
use Rattle.ldm_intake.specs.Course.{Leads}
use Rattle.ldm_intake.specs.Receiving.{Receiving}
use Rattle.ldm_intake.specs.Step.{Step, Goes, Bad, Declined}
use Rattle.ldm_intake.specs.Taken.{Arrival, Taken, after_step, taken, taken_none}
use Rattle.ldm_intake.proofs.Courses.{leads-same}
use Rattle.ldm_sender.specs.Opening.{class_answer_of}
use Rattle.ldm_downstream.specs.Pieces.{arrivals, hand}
use Rattle.ldm_downstream.specs.Received.{end_behind, end_by_bytes}
use Rattle.ldm_between_ends.specs.Passing.{CarriesAll, Passing, moments_of, record_at}
use Rattle.ldm_between_ends.specs.StreamLaws.{StreamLaws}
use Rattle.ldm_between_ends.specs.Ungranted.{EndsBy, EndsByReply, IsUngranted}
use Rattle.ldm_between_ends.proofs.Growing.{comes-made, none-taken}
use Rattle.ldm_between_ends.proofs.Leading.{CameFirst, first-came, request-fits}
use Rattle.ldm_between_ends.proofs.Messages.{Again, answer_comes, onward}
use Rattle.ldm_between_ends.proofs.Narrowing.{one_came, only-reply, short-narrower}
use Rattle.ldm_between_ends.proofs.Reaching.{First}
use Rattle.ldm_between_ends.proofs.Sizes.{IsShortMessage, reply_header-length, short-reply}

-- ---- its length

short-answer : (xid : ℕ) (answer : ClassAnswer) → ClassAnswerFits answer → IsShortMessage (sent.FeedmeReply xid answer)
unfolding written
short-answer xid class_answer.Ok fits = short-reply xid
short-answer xid (class_answer.Reclass class) fits = short-narrower xid class fits
short-answer xid class_answer.Denied fits = omega (arith, length-append (reply_header xid) (unsigned 2), reply_header-length xid, length_unsigned 2)
short-answer xid class_answer.BadPattern fits = omega (arith, length-append (reply_header xid) (unsigned 3), reply_header-length xid, length_unsigned 3)
short-answer xid class_answer.Busy fits = omega (arith, length-append (reply_header xid) (unsigned 4), reply_header-length xid, length_unsigned 4)

-- ---- what it does

step-ends : (actor : ℕ) (s : Receiving) (at : ℕ) (position : Position) (step : Step) (made : List Entry) (mid : Taken) → end_by_bytes position ≡ None
    → Leads actor (after_step (taken_none s) at (onward []) step) made mid → EndsBy step (end_behind position mid.end)
step-ends actor s at position (Goes receiving replies notes) made mid on leads =
    let comes = none-taken actor (record (taken_none s) { receiving = receiving; replies = replies; notes = notes }) made mid leads in
    ap (λ (v : Taken). end_behind position v.end) (sym comes.1) ∙ on
step-ends actor s at position Bad made mid on leads =
    let comes = comes-made actor (record (taken_none s) { end = Some (BadFrame at) }) made mid leads in
    (at, ap (λ (v : Taken). end_behind position v.end) (sym comes.1))
step-ends actor s at position (Declined answer) made mid on leads =
    let comes = comes-made actor (record (taken_none s) { end = Some (Refused answer) }) made mid leads in
    ap (λ (v : Taken). end_behind position v.end) (sym comes.1)

-- ---- the stream

module _ (laws : StreamLaws) (p : Passing) (ungranted : IsUngranted p) where
  abbrev answer : ClassAnswer
  answer = class_answer_of p.feeding.answered

  abbrev m : Sent
  m = sent.FeedmeReply p.asked.xid answer

  came : CameFirst p (m ∷ [])
  came =
      first-came laws p ungranted.carries ungranted.leads (m ∷ []) (only-reply p.asked p.feeding ungranted.is ungranted.unopened)
      (short-answer p.asked.xid answer ungranted.fits, tt)

  abbrev came_to : List Arrival
  came_to = arrivals (record_at p.at) p.pieces

  abbrev position : Position
  position = hand (record_at p.at) p.pieces

  pub replies : (again : Again) → CarriesAll p → EndsByReply p ungranted
  replies again carries =
      let s = p.begins in
      let one = one_came (moments_of p.pieces) m came_to came.behind (came.whole carries) came.first in
      let asker = ungranted.asker in
      let comes = answer_comes again s p.asked.class asker.again one.a [] p.asked.xid answer (request-fits p.asked s asker, ungranted.fits) one.content asker.phase_is asker.xid_is in
      let by = by_answer s p.asked.class asker.again answer in
      let ended = step-ends p.actor s one.a.at position by p.made came.mid came.on
      (leads-same p.actor _ _ p.made came.mid (ap (taken (taken_none s)) one.all ∙ comes) came.leads) in
      subst (λ (v : Taken). EndsBy by v.end) came.ends ended

  -- where no record came, nothing ended it
  none-ended : (arrivals : List Arrival) (made : List Entry) (mid : Taken) → arrivals ≡ [] → Leads p.actor (taken (taken_none p.begins) arrivals) made mid
      → end_behind position mid.end ≡ None
  none-ended arrivals made mid none leads =
      let is = none-taken p.actor (taken_none p.begins) made mid (subst (λ (x : List Arrival). Leads p.actor (taken (taken_none p.begins) x) made mid) none leads) in
      ap (λ (v : Taken). end_behind position v.end) (sym is.1) ∙ came.on

  -- the reply came, or no record did
  came-first : (arrivals : List Arrival) (behind : List Sent) → First (moments_of p.pieces) (m ∷ []) arrivals behind → (arrivals ≡ []) ⊎ (behind ≡ [])
  came-first [] behind is = inl refl
  came-first (a ∷ []) behind is = inr is.2
  came-first (a ∷ b ∷ arrivals) behind is = absurd is.2

  pub part-goes_on : IsSome p.came_to.end → CarriesAll p
  part-goes_on over =
      elim (came-first came_to came.behind came.first) [
        | inl none ↦ (
            let live : p.came_to.end ≡ None = ap (λ (v : Taken). v.end) (sym came.ends) ∙ none-ended came_to p.made came.mid none came.leads in
            let no : false ≡ true = subst (λ (e : Option RecvEnd). IsSome e) live over in
            absurd (cc no)
            )
        | inr none ↦ came.all none
      ]
