-- A feeding that comes to a receiver that asked for it.
use Rattle.std.proofs.Common.{◌≡◌, ℕ, ◌+◌, true, List, [], ◌∷◌, length, Option, None, refl, ap, sym, subst, ◌∙◌, arith}
use Rattle.std.proofs.lemmas.Bool.{and_from}
use Rattle.std.proofs.lemmas.List.Elements.{recursion_from_All}
use Rattle.ldm_types.specs.Info.{Metadata}
use Rattle.ldm_model.specs.declared.event.Entry.{Entry}
use Rattle.ldm_class.specs.HostRules.{HostRules}
use Rattle.ldm_class.specs.Classes.{wants}
use Rattle.ldm_relay.specs.declared.message.ClassAnswer.TheVariants as class_answer
use Rattle.ldm_relay.specs.Sent.{Sent}
use Rattle.ldm_relay.specs.Sent as sent
use Rattle.ldm_intake.specs.Course.{Leads}
use Rattle.ldm_intake.specs.Receiving.{Receiving, is_wanted, may_push}
use Rattle.ldm_intake.specs.Taken.{Arrival, Taken, taken_none, taken}
use Rattle.ldm_sender.specs.Asked.{Asked}
use Rattle.ldm_upstream.specs.Feeding.{Feeding, begun, codes_of, given_of}
use Rattle.ldm_downstream.specs.Pieces.{arrivals, hand, joined}
use Rattle.ldm_downstream.specs.Received.{end_behind}
use Rattle.ldm_between_ends.specs.Codes.{Agree, soon_codes}
use Rattle.ldm_between_ends.specs.Handed.{handed}
use Rattle.ldm_between_ends.specs.Passing.{IsSound, IsGranted, HasAsked, Passing, IsPassing, CarriesAll, PassesFirst, PassesOn, PassesWhole, IsAnswered, moments_of, record_at}
use Rattle.ldm_between_ends.specs.StreamLaws.{StreamLaws}
use Rattle.ldm_between_ends.proofs.EachMessage.{behind_reply}
use Rattle.ldm_between_ends.proofs.Growing.{none-taken}
use Rattle.ldm_between_ends.proofs.Leading.{granted-came, granted-leads}
use Rattle.ldm_between_ends.proofs.Messages.{Again}
use Rattle.ldm_between_ends.proofs.Reaching.{First, Passed, begins-nothing}
use Rattle.ldm_between_ends.proofs.Taking.{some-left}
use Rattle.ldm_between_ends.proofs.Following.{follow}

module _ (again : Again) (actor : ℕ) (moments : List ℕ) (asked : Asked) (feeding : Feeding) (s : Receiving) (u : Taken) (behind : List Sent)
    (granted : IsGranted asked feeding) (asker : HasAsked asked s) (heard : Agree (codes_of feeding) (soon_codes u.replies)) where
  wanted : (info : Metadata) → wants asked.class info ≡ true → is_wanted s.wanting info ≡ true
  wanted info is = and_from (wants s.wanting.class info) (may_push s.wanting.policy info) (asker.wanted info is) (ap (λ (policy : Option HostRules). may_push policy info) asker.no_policy)

  -- all messages, from the reply to the request on
  all_by : (came : List Arrival) (made : List Entry) → First moments (sent.FeedmeReply asked.xid class_answer.Ok ∷ behind_reply feeding) came behind
      → Leads actor (taken (taken_none s) came) made u
      → Passed actor moments s.wanting s.max_hereis u s.last (handed feeding) (IsAnswered feeding.last) behind made
  all_by [] made first leads =
      let none = none-taken actor (taken_none s) made u leads in
      record {
        live = ap (λ (v : Taken). v.end) (sym none.1);
        passes = record {
          done = [];
          left = handed feeding;
          all = refl;
          made_is = record { first = []; second = []; all = none.0; is_first = refl; is_second = begins-nothing actor (handed feeding) };
          last_is = ap (λ (v : Taken). v.receiving.last) (sym none.1);
        };
        whole = λ nothing ended. absurd (some-left (sent.FeedmeReply asked.xid class_answer.Ok) (behind_reply feeding) behind first nothing);
      }
  all_by (a ∷ came) made first leads =
      follow again actor moments s.wanting s.max_hereis u asked wanted feeding.last behind feeding.turns (begun feeding) s.last [] made (omega arith)
      granted.is.turns granted.is.last (recursion_from_All IsSound (given_of feeding) granted.sound) heard
      (record { replies = []; notes = []; arrivals = came; codes_are = refl; first = first.2; leads = granted-leads again actor asked s asker a came made u first.0 leads })

-- What a passing came to.
pub record Joined (p : Passing) : Type 0 where
  pub live : p.came_to.end ≡ None
  pub passes : PassesFirst p
  pub whole : CarriesAll p → IsAnswered p.feeding.last → PassesWhole p
  pub edge : CarriesAll p → hand (record_at p.at) p.pieces ≡ record_at (p.at + length (joined p.pieces))

pub joins : (again : Again) (laws : StreamLaws) (p : Passing) → IsPassing p → Joined p
joins again laws p passing =
    let actor = p.actor in
    let feeding = p.feeding in
    let s = p.begins in
    let moments = moments_of p.pieces in
    let came = granted-came laws p passing.carries passing.leads passing.granted in
    let heard : Agree (codes_of feeding) (soon_codes came.mid.replies) =
    subst (λ (v : Taken). Agree (codes_of feeding) (soon_codes v.replies)) (sym came.ends) passing.heard in
    let all : Passed actor moments s.wanting s.max_hereis came.mid s.last (handed feeding) (IsAnswered feeding.last) came.behind p.made =
    all_by again actor moments p.asked feeding s came.mid came.behind passing.granted passing.asker heard (arrivals (record_at p.at) p.pieces) p.made came.first came.leads in
    record {
      live = ap (λ (v : Taken). v.end) (sym came.ends) ∙ ap (end_behind (hand (record_at p.at) p.pieces)) all.live ∙ came.on;
      passes = subst (λ (v : Taken). PassesOn actor moments s.last v.receiving.last (handed feeding) p.made) came.ends all.passes;
      whole = λ bytes ended.
          let is = all.whole (came.whole bytes) ended in
          record { takings = is.0; stands = ap (λ (v : Taken). v.receiving) (sym came.ends) ∙ is.1 };
      edge = λ bytes. came.edge (came.whole bytes);
    }
