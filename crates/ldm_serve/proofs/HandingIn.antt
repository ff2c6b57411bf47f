-- What a host that pushes hands in: a receiving keeps to the ACCEPT rules, and replies with nothing of a product and no figures.
use Rattle.std.proofs.Common.{◌≡◌, ℕ, ◌+◌, ◌==◌, true, nat_le, ◌&&◌, List, [], ◌∷◌, ◌++◌, length, Option, Some, None, Result, Ok, refl, sym, ap, subst, ◌∙◌}
use Rattle.std.specs.Prelude.{is_none}
use Rattle.std.proofs.lemmas.Bool.{and_parts}
use Rattle.std.proofs.lemmas.List.Elements.{Contains-push}
use Rattle.ldm_types.specs.Info.{Metadata}
use Rattle.ldm_types.specs.declared.class.ClassSpec.{ClassSpec}
use Rattle.ldm_class.specs.Classes.{wants}
use Rattle.ldm_class.specs.HostRules.{HostRules}
use Rattle.ldm_model.specs.declared.event.Reply.{Reply}
use Rattle.ldm_model.specs.declared.event.Reply.TheVariants as reply
use Rattle.ldm_model.specs.declared.event.Event.TheVariants.{Fill, Reserve}
use Rattle.ldm_model.specs.declared.event.Entry.{Entry}
use Rattle.ldm_relay.specs.declared.fault.RelayFault.{RelayFault}
use Rattle.ldm_relay.specs.declared.message.SoonAnswer.TheVariants as soon_answer
use Rattle.ldm_relay.specs.declared.message.TheConstants.{LARGEST_BLOCK}
use Rattle.ldm_relay.specs.Reading.{call_of}
use Rattle.ldm_relay.specs.Sent.{Sent}
use Rattle.ldm_relay.specs.Sent as sent
use Rattle.ldm_intake.specs.declared.phase.Pending.{Pending}
use Rattle.ldm_intake.specs.Course.{Course, Comes, entry_by}
use Rattle.ldm_intake.specs.Opening.{accepting}
use Rattle.ldm_intake.specs.Products.{hereis_wanted, commits, reserved, comingsoon_wanted, is_next, filled_in, fills, blkdata_of}
use Rattle.ldm_intake.specs.Receiving.{Receiving, is_wanted, left_of, may_push}
use Rattle.ldm_intake.specs.Record.{call_course, record_course}
use Rattle.ldm_intake.specs.Settled.{is_feeding}
use Rattle.ldm_intake.specs.Step.{Step, Goes, Bad, Declined}
use Rattle.ldm_intake.specs.Taken.{Arrival, Taken, after_step, taken, taken_none, discards}
use Rattle.ldm_intake.proofs.FeedCourses.{feeding}
use Rattle.ldm_serve.specs.Client.{Client}
use Rattle.ldm_serve.specs.Kept.{MayHandIn, WasReserved}
use Rattle.ldm_serve.proofs.MayGo.{AllMayGo, go-append}
use Rattle.ldm_serve.proofs.PuttingIn.{AsksOnly, asks-if, asks-then, reserved-more}

module _ (client : Client) where
  -- a product of which blocks are to come was reserved
  abbrev IsPending : List Entry → Option Pending → Type 0
  IsPending before None = Unit {0}
  IsPending before (Some pending) = WasReserved client before pending.r

  pending-more : (before more : List Entry) (pending : Option Pending) → IsPending before pending → IsPending (before ++ more) pending
  pending-more before more None was = tt
  pending-more before more (Some pending) was = reserved-more client before more pending.r was

  -- Where a receiving stands that keeps to the rules, behind these calls.
  pub record Keeps (before : List Entry) (s : Receiving) : Type 0 where
    pub policy : s.wanting.policy ≡ Some (record { rules = client.rules.accept; host = client.host })
    pub feeds : is_feeding s.phase ≡ true
    pub pending : IsPending before s.pending

  -- behind more calls, with another product pending
  keeps-with : (before after : List Entry) (s : Receiving) (pending : Option Pending) (last : Option (List ℕ)) → Keeps before s → IsPending after pending
      → Keeps after (record s { pending = pending; last = last })
  keeps-with before after s pending last keeps is = record { policy = keeps.policy; feeds = keeps.feeds; pending = is }

  wanted-may : (before : List Entry) (s : Receiving) (info : Metadata) → Keeps before s → is_wanted s.wanting info ≡ true → MayHandIn client info
  wanted-may before s info keeps wanted =
      ap (λ (policy : Option HostRules). may_push policy info) (sym keeps.policy) ∙ (and_parts (wants s.wanting.class info) (may_push s.wanting.policy info) wanted).1

  -- what a record comes to keeps to the rules again
  abbrev pub StepKeeps : Receiving → List Entry → Step → Type 0
  StepKeeps s before (Goes next replies notes) = Keeps before next × AllMayGo client replies
  StepKeeps s before Bad = Keeps before s
  StepKeeps s before (Declined answer) = Keeps before s

  module _ (s : Receiving) (now : ℕ) where
    commits-keeps : (origin before : List Entry) (replies : List Sent) (info : Metadata) (r : ℕ) → Keeps origin s → AllMayGo client replies → WasReserved client before r
        → AsksOnly client before (commits s now replies info r) (StepKeeps s)
    commits-keeps origin before replies info r keeps go was =
        (was, λ (answer : Reply). (keeps-with origin _ s None (Some info.signature) keeps tt, go))

    hereis-keeps : (before : List Entry) (xid : ℕ) (info : Metadata) (body : List ℕ) → Keeps before s → AsksOnly client before (call_course s now (Ok (sent.Hereis xid info body))) (StepKeeps s)
    hereis-keeps before xid info body keeps =
        asks-if client (StepKeeps s) before (is_none s.pending) _ (Comes Bad)
        (λ none. asks-if client (StepKeeps s) before (is_wanted s.wanting info) (hereis_wanted s now info body) _
        (λ wanted. (wanted-may before s info keeps wanted, λ (answer : Reply). (keeps-with before _ s None (Some info.signature) keeps tt, tt)))
        (keeps-with before before s None (Some info.signature) keeps tt, tt))
        keeps

    reserved-keeps : (before : List Entry) (xid : ℕ) (info : Metadata) (answer : Reply) → Keeps before s → MayHandIn client info
        → AsksOnly client (before ++ entry_by client.actor (Reserve info) answer ∷ []) (reserved s now xid info answer) (StepKeeps s)
    reserved-keeps before xid info (reply.Reserved r evicted) keeps may =
        let after = before ++ entry_by client.actor (Reserve info) (reply.Reserved r evicted) ∷ [] in
        let was : WasReserved client after r = record {
          info = info;
          evicted = evicted;
          made = Contains-push before (entry_by client.actor (Reserve info) (reply.Reserved r evicted));
          may = may;
        } in
        let ok = sent.ComingsoonReply xid soon_answer.Ok ∷ [] in
        let waits : Pending = record { info = info; r = r; blocks = 0 } in
        asks-if client (StepKeeps s) after (info.size == 0) (commits s now ok info r) (Comes (Goes (record s { pending = Some waits }) ok []))
        (λ empty. commits-keeps before after ok info r keeps (tt, tt) was) (keeps-with before after s (Some waits) s.last keeps was, (tt, tt))
    reserved-keeps before xid info (reply.Duplicate n) keeps may = (keeps-with before _ s None (Some info.signature) keeps tt, (tt, tt))
    reserved-keeps before xid info _ keeps may = (keeps-with before _ s None (Some info.signature) keeps tt, (tt, tt))

    comingsoon-keeps : (before : List Entry) (xid : ℕ) (info : Metadata) (block_size : ℕ) → Keeps before s
        → AsksOnly client before (call_course s now (Ok (sent.Comingsoon xid info block_size))) (StepKeeps s)
    comingsoon-keeps before xid info block_size keeps =
        asks-if client (StepKeeps s) before (is_none s.pending && (block_size == LARGEST_BLOCK)) _ (Comes Bad)
        (λ none. asks-if client (StepKeeps s) before (is_wanted s.wanting info) (comingsoon_wanted s now xid info) _
        (λ wanted. (wanted-may before s info keeps wanted, λ (answer : Reply). reserved-keeps before xid info answer keeps (wanted-may before s info keeps wanted)))
        (keeps-with before before s None (Some info.signature) keeps tt, (tt, tt)))
        keeps

    filled-keeps : (before : List Entry) (pending : Pending) (block : List ℕ) (answer : Reply) → Keeps before s → WasReserved client before pending.r
        → AsksOnly client (before ++ entry_by client.actor (Fill pending.r block) answer ∷ []) (filled_in s now pending (length block)) (StepKeeps s)
    filled-keeps before pending block answer keeps was =
        let fill = entry_by client.actor (Fill pending.r block) answer ∷ [] in
        let again = reserved-more client before fill pending.r was in
        let waits : Pending = record pending { blocks = pending.blocks + 1 } in
        asks-if client (StepKeeps s) (before ++ fill) (nat_le (left_of pending) (length block)) (commits s now [] pending.info pending.r)
        (Comes (Goes (record s { pending = Some waits }) [] []))
        (λ last. commits-keeps before (before ++ fill) [] pending.info pending.r keeps tt again) (keeps-with before (before ++ fill) s (Some waits) s.last keeps again, tt)

    block-keeps : (before : List Entry) (signature : List ℕ) (number : ℕ) (block : List ℕ) (pending : Option Pending) → Keeps before s → IsPending before pending
        → AsksOnly client before (blkdata_of s now signature number block pending) (StepKeeps s)
    block-keeps before signature number block None keeps was = keeps
    block-keeps before signature number block (Some pending) keeps was =
        asks-if client (StepKeeps s) before (is_next pending signature number block) (fills s now pending block) (Comes Bad)
        (λ next. (tt, λ (answer : Reply). filled-keeps before pending block answer keeps was)) keeps

    call-keeps : (before : List Entry) (call : Result Sent RelayFault) → Keeps before s → AsksOnly client before (call_course s now call) (StepKeeps s)
    call-keeps before (Ok (sent.Hereis xid info body)) keeps = hereis-keeps before xid info body keeps
    call-keeps before (Ok (sent.Comingsoon xid info block_size)) keeps = comingsoon-keeps before xid info block_size keeps
    call-keeps before (Ok (sent.Blkdata xid signature number block)) keeps = block-keeps before signature number block s.pending keeps keeps.pending
    call-keeps before (Ok (sent.Isalive xid)) keeps = (keeps, tt)
    call-keeps before _ keeps = keeps

    pub record-keeps : (before : List Entry) (content : List ℕ) → Keeps before s → AsksOnly client before (record_course s now content) (StepKeeps s)
    record-keeps before content keeps =
        subst (λ (c : Course Step). AsksOnly client before c (StepKeeps s)) (sym (feeding s now content keeps.feeds)) (call-keeps before (call_of content) keeps)

  -- what was taken keeps to the rules
  abbrev pub TakenKeeps : List Entry → Taken → Type 0
  TakenKeeps before t = Keeps before t.receiving × AllMayGo client t.replies

  step-keeps : (t : Taken) (at : ℕ) (rest : Taken → Course Taken)
      → ((before : List Entry) (next : Taken) → TakenKeeps before next → AsksOnly client before (rest next) TakenKeeps)
      → AllMayGo client t.replies → (before : List Entry) (step : Step) → StepKeeps t.receiving before step → AsksOnly client before (after_step t at rest step) TakenKeeps
  step-keeps t at rest behind go before (Goes s replies notes) keeps =
      behind before (record t { receiving = s; replies = t.replies ++ replies; notes = t.notes ++ notes }) (keeps.0, go-append client t.replies replies go keeps.1)
  step-keeps t at rest behind go before Bad keeps = (keeps, go)
  step-keeps t at rest behind go before (Declined answer) keeps = (keeps, go)

  pub taken-keeps : (arrivals : List Arrival) (before : List Entry) (t : Taken) → TakenKeeps before t → AsksOnly client before (taken t arrivals) TakenKeeps
  unfolding taken
  taken-keeps [] before t keeps = keeps
  taken-keeps (arrival ∷ arrivals) before t keeps =
      asks-then client (StepKeeps t.receiving) TakenKeeps (after_step t arrival.at (λ (next : Taken). taken next arrivals))
      (step-keeps t arrival.at (λ (next : Taken). taken next arrivals) (λ (b : List Entry) (next : Taken). taken-keeps arrivals b next) keeps.1)
      before (record_course t.receiving arrival.now arrival.content) (record-keeps t.receiving arrival.now before arrival.content keeps.0)

  -- an end gives up a reservation, and puts nothing in
  pub closing-keeps : (before : List Entry) (t : Taken) (pending : Option Pending) → AsksOnly client before (discards t pending) (λ (b : List Entry) (u : Taken). Unit {0})
  closing-keeps before t None = tt
  closing-keeps before t (Some pending) = (tt, λ (answer : Reply). tt)

  -- a receiving of what the host pushes begins so
  pub accepting-keeps : (before : List Entry) (class : ClassSpec) → TakenKeeps before (taken_none (accepting class client.rules client.host))
  accepting-keeps before class = (record { policy = refl; feeds = refl; pending = tt }, tt)
