-- A narrower class is offered.
use Rattle.std.proofs.Common.{◌≡◌, ℕ, ◌*◌, ◌^◌, ◌<◌, ◌≤◌, Bool, true, false, List, [], ◌∷◌, ◌++◌, length, Option, None, is_none, refl, ap, sym, subst, ◌∙◌, arith}
use Rattle.std.specs.Prelude.{if◌then◌else◌}
use Rattle.std.specs.List.{flat_map, AllByRecursion}
use Rattle.std.proofs.lemmas.List.{append-nil, length-append}
use Rattle.ldm_types.specs.declared.class.ClassSpec.{ClassSpec}
use Rattle.ldm_types.specs.declared.class.Spec.{Spec}
use Rattle.ldm_xdr.specs.Spelling.{unsigned, opaque}
use Rattle.ldm_xdr.proofs.Lengths.{length_unsigned, length_opaque}
use Rattle.ldm_class.specs.Classes.{wants, bad_place}
use Rattle.ldm_relay.specs.declared.message.ClassAnswer.TheVariants as class_answer
use Rattle.ldm_relay.specs.Fits.{Fits, ClassFits, SpecFits}
use Rattle.ldm_relay.specs.Sent.{Sent}
use Rattle.ldm_relay.specs.Sent as sent
use Rattle.ldm_relay.specs.Spelling.{class_bytes, instant_bytes, reply_header, spec_bytes, written}
use Rattle.ldm_intake.specs.declared.end.RecvEnd.{RecvEnd}
use Rattle.ldm_intake.specs.declared.phase.Phase.TheVariants.{Asked as AskedFor}
use Rattle.ldm_intake.specs.Answered.{asks_again, number_of_request}
use Rattle.ldm_class.specs.Asking.{same_class}
use Rattle.ldm_intake.specs.Course.{Course}
use Rattle.ldm_intake.specs.Receiving.{Receiving}
use Rattle.ldm_intake.specs.Step.{Step, Goes, Bad, Declined}
use Rattle.ldm_intake.specs.Taken.{Arrival, Taken, after_step, taken, taken_none}
use Rattle.ldm_intake.proofs.Courses.{leads-same}
use Rattle.ldm_sender.specs.Asked.{Asked}
use Rattle.ldm_sender.specs.Opening.{Answered, Busy, Denied, Opened, Reclassed, class_answer_of}
use Rattle.ldm_upstream.specs.Turn.{Turn}
use Rattle.ldm_upstream.specs.Turns.{after_turns, messages_of_turns}
use Rattle.ldm_upstream.specs.Feeding.{Feeding, GoesOn, IsFeeding, Last, MayTurn, begun, last_messages, messages_of}
use Rattle.ldm_downstream.specs.Pieces.{arrivals, hand, joined}
use Rattle.ldm_downstream.specs.Received.{with_hand}
use Rattle.ldm_between_ends.specs.Narrowing.{IsNarrowing, Narrows, asking}
use Rattle.ldm_between_ends.specs.Passing.{Carries, HasAsked, Passing, moments_of, record_at}
use Rattle.ldm_between_ends.specs.StreamLaws.{StreamLaws}
use Rattle.ldm_between_ends.specs.Ungranted.{IsUnopened}
use Rattle.ldm_between_ends.proofs.Growing.{none-taken}
use Rattle.ldm_between_ends.proofs.Leading.{first-came}
use Rattle.ldm_between_ends.proofs.Messages.{Again, answer_comes, onward, so_far}
use Rattle.ldm_between_ends.proofs.Reaching.{First}
use Rattle.ldm_between_ends.proofs.Sizes.{IsShortMessage, reply_header-length}
use Rattle.ldm_between_ends.proofs.Taking.{some-left}

-- ---- its length

spec-length : (spec : Spec) → SpecFits spec → length (spec_bytes spec) ≤ 264
unfolding spec_bytes
spec-length spec fits =
    omega (
      arith,
      length-append (unsigned spec.feed.0) (opaque spec.pattern.items),
      length_unsigned spec.feed.0,
      length_opaque spec.pattern.items,
      fits.1,
    )

specs-length : (specs : List Spec) → AllByRecursion SpecFits specs → length (flat_map spec_bytes specs) ≤ 264 * length specs
specs-length [] fits = omega arith
specs-length (spec ∷ specs) fits =
    omega (arith, length-append (spec_bytes spec) (flat_map spec_bytes specs), spec-length spec fits.0, specs-length specs fits.1)

instant-length : (micros : ℕ) → length (instant_bytes micros) ≡ 8
unfolding instant_bytes
instant-length micros = simp (length-append, length_unsigned)

class-length : (class : ClassSpec) → ClassFits class → length (class_bytes class) ≤ 8468
unfolding class_bytes
class-length class fits =
    simp (length-append, length_unsigned, instant-length) (omega (arith, specs-length class.specs.items fits.each, fits.few))

pub short-narrower : (xid : ℕ) (class : ClassSpec) → ClassFits class → IsShortMessage (sent.FeedmeReply xid (class_answer.Reclass class))
unfolding written
short-narrower xid class fits =
    omega (
      arith,
      length-append (reply_header xid) (unsigned 1 ++ class_bytes class),
      length-append (unsigned 1) (class_bytes class),
      reply_header-length xid,
      length_unsigned 1,
      class-length class fits,
    )

-- ---- what it does

abbrev asked-again : Receiving → ClassSpec → Taken
asked-again s class = so_far (asking s class) (sent.Feedme 2 class s.max_hereis ∷ []) []

narrower_comes : (again : Again) (s : Receiving) (before class : ClassSpec) (a : Arrival) (arrivals : List Arrival) (xid : ℕ)
    → Fits (sent.FeedmeReply xid (class_answer.Reclass class)) → a.content ≡ written (sent.FeedmeReply xid (class_answer.Reclass class))
    → s.phase ≡ AskedFor before false → xid ≡ 1 → same_class class before ≡ false → bad_place class.specs.items ≡ None
    → taken (taken_none s) (a ∷ arrivals) ≡ taken (asked-again s class) arrivals
narrower_comes again s before class a arrivals xid fits is phase number other meant =
    let rest : Step → Course Taken = after_step (taken_none s) a.at (onward arrivals) in
    answer_comes again s before false a arrivals xid (class_answer.Reclass class) fits is phase number
    ∙ ap (λ (b : Bool). rest (if b then Declined (class_answer.Reclass class) else asks_again s class)) other
    ∙ ap (λ (o : Option ℕ). rest (if is_none o then Goes (asking s class) (sent.Feedme 2 class s.max_hereis ∷ []) [] else Bad)) meant

-- no turn is made
alone : (answered : Answered) (turns : List Turn) (last : Last) → IsUnopened answered → MayTurn answered turns last → (turns ≡ []) × (last ≡ GoesOn)
alone (Denied rule) turns last unopened may = may
alone (Reclassed class) turns last unopened may = may
alone (Busy missed) turns last unopened may = may
alone (Opened missed k) turns last unopened may = absurd unopened

-- the reply is the only message
pub only-reply : (asked : Asked) (feeding : Feeding) → IsFeeding asked feeding → IsUnopened feeding.answered
    → messages_of asked feeding ≡ sent.FeedmeReply asked.xid (class_answer_of feeding.answered) ∷ []
only-reply asked feeding is unopened =
    let m : Sent = sent.FeedmeReply asked.xid (class_answer_of feeding.answered) in
    let at_first = begun feeding in
    let quiet = alone feeding.answered feeding.turns feeding.last unopened is.opened in
    ap (λ (turns : List Turn). m ∷ (messages_of_turns at_first turns ++ last_messages (after_turns at_first turns).next feeding.last)) quiet.0
    ∙ ap (λ (last : Last). m ∷ last_messages at_first.next last) quiet.1

pub record OneCame (m : Sent) (came : List Arrival) : Type 0 where
  pub a : Arrival
  pub all : came ≡ a ∷ []
  pub content : a.content ≡ written m

pub one_came : (moments : List ℕ) (m : Sent) (came : List Arrival) (behind : List Sent) → behind ≡ [] → First moments (m ∷ []) came behind → OneCame m came
one_came moments m [] behind none first = absurd (some-left m [] behind first none)
one_came moments m (a ∷ []) behind none first = record { a = a; all = refl; content = first.0 }
one_came moments m (a ∷ b ∷ came) behind none first = absurd first.2

once-number : (again : Bool) → again ≡ false → number_of_request again ≡ 1
once-number true is = absurd (cc is)
once-number false is = refl

pub narrows : (again : Again) (laws : StreamLaws) (p : Passing) (class : ClassSpec) → IsNarrowing p class → Narrows p class
narrows again laws p class narrowing =
    let s = p.begins in
    let m : Sent = sent.FeedmeReply p.asked.xid (class_answer.Reclass class) in
    let same : messages_of p.asked p.feeding ≡ m ∷ [] =
    only-reply p.asked p.feeding narrowing.is (subst IsUnopened (sym narrowing.answered) tt)
    ∙ ap (λ (a : Answered). sent.FeedmeReply p.asked.xid (class_answer_of a) ∷ []) narrowing.answered in
    let carries : Carries p = record { rest = []; is = append-nil (joined p.pieces) ∙ narrowing.carries; few = narrowing.few } in
    let came = first-came laws p carries narrowing.leads (m ∷ []) same (short-narrower p.asked.xid class narrowing.fits, tt) in
    let none = came.whole narrowing.carries in
    let one = one_came (moments_of p.pieces) m (arrivals (record_at p.at) p.pieces) came.behind none came.first in
    let number : p.asked.xid ≡ 1 = narrowing.asker.xid_is ∙ once-number narrowing.asker.again narrowing.once in
    let phase : s.phase ≡ AskedFor p.asked.class false = narrowing.asker.phase_is ∙ ap (AskedFor p.asked.class) narrowing.once in
    let small : p.asked.xid < 2 ^ 32 = omega (arith, number) in
    let comes = narrower_comes again s p.asked.class class one.a [] p.asked.xid (small, narrowing.fits) one.content phase number narrowing.other narrowing.meant in
    let on = none-taken p.actor (asked-again s class) p.made came.mid (leads-same p.actor _ _ p.made came.mid (ap (taken (taken_none s)) one.all ∙ comes) came.leads) in
    let is : p.came_to ≡ asked-again s class =
    sym came.ends ∙ ap (with_hand (hand (record_at p.at) p.pieces)) (sym on.1) ∙ ap (λ (end : Option RecvEnd). record (asked-again s class) { end = end }) came.on in
    record {
      none_made = on.0;
      came_to = is;
      edge = came.edge none;
      asks = λ asked class_is xid_is. subst (λ (v : Taken). HasAsked asked v.receiving) (sym is) (record {
        again = true;
        phase_is = ap (λ (c : ClassSpec). AskedFor c true) (sym class_is);
        xid_is = xid_is;
        none_pending = narrowing.asker.none_pending;
        no_policy = narrowing.asker.no_policy;
        wanted = λ info wanted. subst (λ (c : ClassSpec). wants c info ≡ true) class_is wanted;
      });
    }
