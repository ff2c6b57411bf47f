-- What the records lead a receiver to that came of a feeding, in whatever pieces.
use Rattle.std.proofs.Common.{◌≡◌, ℕ, ◌+◌, ◌^◌, ◌<◌, Bool, true, false, List, [], ◌∷◌, ◌++◌, length, None, ap, sym, subst, ◌∙◌, arith}
use Rattle.std.specs.List.{AllByRecursion}
use Rattle.std.proofs.lemmas.List.{append-nil}
use Rattle.ldm_model.specs.declared.event.Entry.{Entry}
use Rattle.ldm_relay.specs.declared.message.ClassAnswer.{ClassAnswer}
use Rattle.ldm_relay.specs.declared.message.ClassAnswer.TheVariants as class_answer
use Rattle.ldm_relay.specs.Sent.{Sent}
use Rattle.ldm_relay.specs.Sent as sent
use Rattle.ldm_relay.specs.Spelling.{written}
use Rattle.ldm_intake.specs.Answered.{number_of_request}
use Rattle.ldm_intake.specs.Course.{Comes, Leads}
use Rattle.ldm_intake.specs.Receiving.{Receiving}
use Rattle.ldm_intake.specs.Taken.{Arrival, Taken, taken, taken_none}
use Rattle.ldm_intake.proofs.Courses.{leads-same, leads-then_parts}
use Rattle.ldm_sender.specs.Asked.{Asked}
use Rattle.ldm_sender.specs.Opening.{class_answer_of}
use Rattle.ldm_upstream.specs.Feeding.{messages_of}
use Rattle.ldm_downstream.specs.Pieces.{arrivals, hand, joined}
use Rattle.ldm_downstream.specs.Received.{end_by_bytes, received, with_hand}
use Rattle.ldm_between_ends.specs.Passing.{Carries, CarriesAll, HasAsked, IsGranted, Passing, moments_of, record_at}
use Rattle.ldm_between_ends.specs.StreamLaws.{StreamLaws}
use Rattle.ldm_between_ends.proofs.Arriving.{arrives}
use Rattle.ldm_between_ends.proofs.EachMessage.{behind_reply, holds-behind_reply}
use Rattle.ldm_between_ends.proofs.Growing.{comes-made}
use Rattle.ldm_between_ends.proofs.Messages.{Again, fed, reply_comes, so_far}
use Rattle.ldm_between_ends.proofs.Reaching.{First}
use Rattle.ldm_between_ends.proofs.Sizes.{IsShortMessage, each-short, short-reply}

-- The first of these messages came. The entries lead the receiver through their records, and behind them it stands as it does.
pub record CameFirst (p : Passing) (messages : List Sent) : Type 0 where
  pub behind : List Sent
  pub first : First (moments_of p.pieces) messages (arrivals (record_at p.at) p.pieces) behind
  pub on : end_by_bytes (hand (record_at p.at) p.pieces) ≡ None
  pub whole : CarriesAll p → behind ≡ []
  pub all : behind ≡ [] → CarriesAll p
  pub edge : behind ≡ [] → hand (record_at p.at) p.pieces ≡ record_at (p.at + length (joined p.pieces))
  pub mid : Taken
  pub leads : Leads p.actor (taken (taken_none p.begins) (arrivals (record_at p.at) p.pieces)) p.made mid
  pub ends : with_hand (hand (record_at p.at) p.pieces) mid ≡ p.came_to

module _ (laws : StreamLaws) (p : Passing) (carries : Carries p) (leads : Leads p.actor (received p.begins (record_at p.at) p.pieces) p.made p.came_to) where
  pub first-came : (messages : List Sent) → messages_of p.asked p.feeding ≡ messages → AllByRecursion IsShortMessage messages → CameFirst p messages
  first-came messages same short =
      let came_to = arrivals (record_at p.at) p.pieces in
      let position = hand (record_at p.at) p.pieces in
      let came = arrives laws p.at (messages_of p.asked p.feeding) (subst (λ (x : List Sent). AllByRecursion IsShortMessage x) (sym same) short)
      p.pieces carries.rest carries.is carries.few in
      let parts = leads-then_parts p.actor (taken (taken_none p.begins) came_to) (λ (v : Taken). Comes (with_hand position v)) p.made p.came_to leads in
      let ends = comes-made p.actor (with_hand position parts.mid) parts.more p.came_to parts.second in
      let made_is : parts.made ≡ p.made = sym (parts.all ∙ ap (λ (x : List Entry). parts.made ++ x) ends.0 ∙ append-nil parts.made) in
      record {
        behind = came.behind;
        first = subst (λ (x : List Sent). First (moments_of p.pieces) x came_to came.behind) same came.first;
        on = came.on;
        whole = came.whole;
        all = came.all;
        edge = came.edge;
        mid = parts.mid;
        leads = subst (λ (x : List Entry). Leads p.actor (taken (taken_none p.begins) came_to) x parts.mid) made_is parts.first;
        ends = ends.1;
      }

  -- of a request that was granted
  pub granted-came : IsGranted p.asked p.feeding → CameFirst p (sent.FeedmeReply p.asked.xid class_answer.Ok ∷ behind_reply p.feeding)
  granted-came granted =
      first-came (sent.FeedmeReply p.asked.xid class_answer.Ok ∷ behind_reply p.feeding)
      (ap (λ (a : ClassAnswer). sent.FeedmeReply p.asked.xid a ∷ behind_reply p.feeding) (ap class_answer_of granted.opened))
      (short-reply p.asked.xid, holds-behind_reply IsShortMessage each-short p.asked p.feeding granted)

-- ---- the reply to the request

small-request : (again : Bool) → number_of_request again < 2 ^ 32
small-request true = omega arith
small-request false = omega arith

pub request-fits : (asked : Asked) (s : Receiving) → HasAsked asked s → asked.xid < 2 ^ 32
request-fits asked s asker = subst (λ (n : ℕ). n < 2 ^ 32) (sym asker.xid_is) (small-request asker.again)

-- behind the one that grants it the receiver is in the feed
pub granted-leads : Again → (actor : ℕ) (asked : Asked) (s : Receiving) → HasAsked asked s → (a : Arrival) (came : List Arrival) (made : List Entry) (t : Taken)
    → a.content ≡ written (sent.FeedmeReply asked.xid class_answer.Ok) → Leads actor (taken (taken_none s) (a ∷ came)) made t
    → Leads actor (taken (so_far (fed s.wanting s.max_hereis s.last) [] []) came) made t
granted-leads again actor asked s asker a came made t is leads =
    leads-same actor _ _ made t
    (reply_comes again s asked.class asker.again a came asked.xid (request-fits asked s asker, tt) is asker.phase_is asker.none_pending asker.xid_is) leads
