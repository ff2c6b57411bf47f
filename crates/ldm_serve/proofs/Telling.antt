-- What a host is told: the answers to its records may go whatever went before, and a feeding and a session of notices keep to the ALLOW rules.
use Rattle.std.proofs.Common.{◌≡◌, ℕ, ◌+◌, ◌&&◌, nat_le, Bool, true, false, List, [], ◌∷◌, ◌++◌, None, refl, sym, subst, append_assoc, append-nil}
use Rattle.std.specs.Prelude.{if◌then◌else◌}
use Rattle.std.proofs.lemmas.Bool.{and_parts}
use Rattle.std.proofs.lemmas.List.Elements.{Contains-append_left, Contains-push}
use Rattle.ldm_types.specs.Info.{Metadata}
use Rattle.ldm_types.specs.declared.class.ClassSpec.{ClassSpec}
use Rattle.ldm_class.specs.Access.{is_yes, reduce, verdict}
use Rattle.ldm_class.specs.Classes.{wants}
use Rattle.ldm_class.specs.declared.answers.Reduced.{Reduced}
use Rattle.ldm_class.specs.declared.answers.Reduced.TheVariants.{Same, Fewer, Nothing}
use Rattle.ldm_model.specs.declared.event.Entry.{Entry}
use Rattle.ldm_model.specs.declared.event.Reply.{Reply}
use Rattle.ldm_model.specs.declared.event.Reply.TheVariants as reply
use Rattle.ldm_relay.specs.Sent.{Sent}
use Rattle.ldm_relay.specs.Sent as sent
use Rattle.ldm_relay.specs.declared.fault.RelayFault.{RelayFault}
use Rattle.ldm_relay.specs.declared.fault.RelayFault.TheVariants.{NotRpc, WrongProgram, WrongProcedure, BadMessage}
use Rattle.ldm_relay.specs.declared.message.ClassAnswer.TheVariants as class_answer
use Rattle.ldm_relay.specs.declared.message.PutAnswer.TheVariants as put_answer
use Rattle.ldm_relay.specs.declared.message.TheConstants.{LARGEST_BLOCK}
use Rattle.ldm_sender.specs.declared.standing.Standing.{Standing}
use Rattle.ldm_sender.specs.Asked.{Asked}
use Rattle.ldm_sender.specs.Calls.{later_call}
use Rattle.ldm_sender.specs.Due.{is_due}
use Rattle.ldm_sender.specs.Opening.{class_answer_of}
use Rattle.ldm_intake.specs.Course.{Comes, Leads}
use Rattle.ldm_serve.specs.declared.hiya.TheConstants.{MAX_HEREIS}
use Rattle.ldm_serve.specs.Access.{may_know, may_push}
use Rattle.ldm_serve.specs.Answering.{answering, put_replies, stat_replies}
use Rattle.ldm_serve.specs.Respond.{means_all, respond, to_call, to_fault, to_offer}
use Rattle.ldm_serve.specs.Response.{Response, Says, Puts, Figures, Feeds, Receives, Notifies, Refuses, Denies}
use Rattle.ldm_upstream.specs.Turn as feed
use Rattle.ldm_upstream.specs.Turns as feed_turns
use Rattle.ldm_upstream.specs.Feeding as feeding
use Rattle.ldm_upstream.specs.Blocks.{blocks}
use Rattle.ldm_notify.specs.Turn as notice
use Rattle.ldm_notify.specs.Turns as notice_turns
use Rattle.ldm_notify.specs.Notifying as notifying
use Rattle.ldm_serve.specs.Client.{Client}
use Rattle.ldm_serve.specs.Steps.{AreSteps, Step, messages_of, response_of}
use Rattle.ldm_serve.specs.Outlived.{Outlived, Answered, Narrowed, AreOutlived, messages_for, messages_for_all, narrower}
use Rattle.ldm_serve.specs.Connection.{Answers, messages_in}
use Rattle.ldm_serve.specs.Kept.{AllTell, MayAsk, MayHave, WasAnnounced}
use Rattle.ldm_serve.proofs.Cases.{each_response}
use Rattle.ldm_serve.proofs.MayGo.{AllMayGo, go-append}

-- ---- answers may go whatever went before

module _ (client : Client) where
  abbrev GoesAs : Response → Type 0
  GoesAs (Says messages) = AllMayGo client messages
  GoesAs (Puts xid info body) = Unit {0}
  GoesAs (Figures xid) = MayAsk client
  GoesAs (Feeds xid class max_hereis) = Unit {0}
  GoesAs (Receives class messages) = AllMayGo client messages
  GoesAs (Notifies xid class) = Unit {0}
  GoesAs (Refuses messages) = AllMayGo client messages
  GoesAs (Denies rule messages) = AllMayGo client messages

  goes-if : (test : Bool) (one other : Response) → (test ≡ true → GoesAs one) → GoesAs other → GoesAs (if test then one else other)
  goes-if true one other first second = first refl
  goes-if false one other first second = second

  goes-offer : (xid : ℕ) (class : ClassSpec) (left : Reduced) → GoesAs (to_offer xid class left)
  goes-offer xid class Same = (tt, tt)
  goes-offer xid class (Fewer fewer) = (tt, tt)
  goes-offer xid class (Nothing rule) = (tt, tt)

  goes-fault : (fault : RelayFault) → GoesAs (to_fault fault)
  goes-fault (WrongProcedure xid procedure) = (tt, tt)
  goes-fault (WrongProgram xid program version) = (tt, tt)
  goes-fault (BadMessage xid at) = (tt, tt)
  goes-fault (NotRpc at) = tt

  put-goes : (xid : ℕ) (answer : Reply) → AllMayGo client (put_replies xid answer)
  put-goes xid (reply.Admitted n time evicted) = (tt, tt)
  put-goes xid (reply.TooBig need arena) = (tt, tt)
  put-goes xid (reply.Duplicate n) = (tt, tt)
  put-goes xid reply.TimeEnd = (tt, tt)
  put-goes xid (reply.Locked held) = (tt, tt)
  put-goes xid _ = tt

  stat-goes : (xid : ℕ) (answer : Reply) → MayAsk client → AllMayGo client (stat_replies xid answer)
  stat-goes xid (reply.Stat stat) may = (may, tt)
  stat-goes xid _ may = tt

  -- what is owed at once
  comes-go : (owed messages : List Sent) (made : List Entry) → AllMayGo client owed → Leads client.actor (Comes owed) made messages → AllMayGo client messages
  comes-go owed messages [] go leads = subst (λ (sent : List Sent). AllMayGo client sent) leads go
  comes-go owed messages (entry ∷ made) go leads = absurd leads

  goes-call : (call : Sent) → GoesAs (to_call client.rules client.host call)
  goes-call (sent.Feedme xid class max_hereis) =
      goes-if (means_all class) (Feeds xid class max_hereis) (Says (sent.FeedmeReply xid class_answer.BadPattern ∷ [])) (λ means. tt) (tt, tt)
  goes-call (sent.Notifyme xid class) = goes-if (means_all class) (Notifies xid class) (Says (sent.NotifymeReply xid class_answer.BadPattern ∷ [])) (λ means. tt) (tt, tt)
  goes-call (sent.Hiya xid class) =
      goes-if (means_all class) (to_offer xid class (reduce client.rules.accept client.host class)) (Says (sent.HiyaReply xid MAX_HEREIS class_answer.BadPattern ∷ []))
      (λ means. goes-offer xid class (reduce client.rules.accept client.host class)) (tt, tt)
  goes-call (sent.Put xid info body) =
      goes-if (may_push client.rules client.host info) (Puts xid info body) (Says (sent.PutReply xid put_answer.Denied ∷ [])) (λ may. tt) (tt, tt)
  goes-call (sent.Qstat xid) = goes-if (may_know client.rules client.host) (Figures xid) (Says (sent.QstatReply xid None ∷ [])) (λ may. may) (tt, tt)
  goes-call _ = tt

  goes : (content : List ℕ) → GoesAs (respond client content)
  goes = each_response client GoesAs goes-call goes-fault (λ xid answer. (tt, tt)) tt

  answers-go : (response : Response) (now : ℕ) (made : List Entry) (messages : List Sent) → GoesAs response → Leads client.actor (answering response now) made messages
      → AllMayGo client messages
  answers-go (Says owed) now made messages go leads = comes-go owed messages made go leads
  answers-go (Puts xid info body) now [] messages go leads = absurd leads
  answers-go (Puts xid info body) now (entry ∷ made) messages go leads = comes-go (put_replies xid entry.reply) messages made (put-goes xid entry.reply) leads.1
  answers-go (Figures xid) now [] messages go leads = absurd leads
  answers-go (Figures xid) now (entry ∷ made) messages go leads = comes-go (stat_replies xid entry.reply) messages made (stat-goes xid entry.reply go) leads.1
  answers-go (Feeds xid class max_hereis) now made messages go leads = comes-go [] messages made tt leads
  answers-go (Receives class owed) now made messages go leads = comes-go owed messages made go leads
  answers-go (Notifies xid class) now made messages go leads = comes-go [] messages made tt leads
  answers-go (Refuses owed) now made messages go leads = comes-go owed messages made go leads
  answers-go (Denies rule owed) now made messages go leads = comes-go owed messages made go leads

  step-goes : (step : Step) → Leads client.actor (answering (response_of client step) step.now) step.made step.messages → AllMayGo client step.messages
  step-goes step leads = answers-go (response_of client step) step.now step.made step.messages (goes step.placed.content) leads

  steps-go : (steps : List Step) → AreSteps client steps → AllMayGo client (messages_of steps)
  steps-go [] are = tt
  steps-go (step ∷ steps) are = go-append client step.messages (messages_of steps) (step-goes step are.0) (steps-go steps are.1)

  narrower-goes : (response : Response) (fewer : ClassSpec) → AllMayGo client (narrower response fewer)
  narrower-goes (Feeds xid class max_hereis) fewer = (tt, tt)
  narrower-goes (Notifies xid class) fewer = (tt, tt)
  narrower-goes _ fewer = tt

  outlived-go : (outlived : List Outlived) → AreOutlived client outlived → AllMayGo client (messages_for_all client outlived)
  outlived-go [] are = tt
  outlived-go (Answered step ∷ others) are = go-append client step.messages (messages_for_all client others) (step-goes step are.0.0) (outlived-go others are.1)
  outlived-go (Narrowed step fewer at ∷ others) are =
      go-append client (messages_for client (Narrowed step fewer at)) (messages_for_all client others)
      (go-append client step.messages (narrower (response_of client step) fewer) (step-goes step are.0.0) (narrower-goes (response_of client step) fewer))
      (outlived-go others are.1)

  pub messages-go : (answers : Answers) → AreOutlived client answers.outlived → AreSteps client answers.last → AllMayGo client (messages_in client answers)
  messages-go answers outlived last =
      go-append client (messages_for_all client answers.outlived) (messages_of answers.last) (outlived-go answers.outlived outlived) (steps-go answers.last last)

  -- ---- messages one behind the other

  pub tell-append : (before messages more : List Sent) → AllTell client before messages → AllTell client (before ++ messages) more → AllTell client before (messages ++ more)
  tell-append before [] more first second = subst (λ (b : List Sent). AllTell client b more) (append-nil before) second
  tell-append before (message ∷ messages) more first second = (
    first.0,
    tell-append (before ++ message ∷ []) messages more first.1
        (subst (λ (b : List Sent). AllTell client b more) (sym (append_assoc before (message ∷ []) messages)) second),
  )

  -- ---- feedings

  announced-more : (messages more : List Sent) (signature : List ℕ) → WasAnnounced client messages signature → WasAnnounced client (messages ++ more) signature
  announced-more messages more signature was = record {
    xid = was.xid;
    info = was.info;
    block_size = was.block_size;
    announced = Contains-append_left messages more (sent.Comingsoon was.xid was.info was.block_size) was.announced;
    same = was.same;
    may = was.may;
  }

  blocks-tell : (before : List Sent) (next : ℕ) (signature : List ℕ) (number : ℕ) (pieces : List (List ℕ)) → WasAnnounced client before signature
      → AllTell client before (feed.block_messages next signature number pieces)
  blocks-tell before next signature number [] was = tt
  blocks-tell before next signature number (block ∷ behind) was =
      let message = sent.Blkdata next signature number block ∷ [] in
      (was, blocks-tell (before ++ message) (later_call next 1) signature (number + 1) behind (announced-more before message signature was))

  -- a product that is due is one that the host may have
  due-may : (asked : Asked) (time : ℕ) (info : Metadata) → asked.rules ≡ client.rules.allow → asked.host ≡ client.host → is_due asked time info ≡ true → MayHave client info
  due-may asked time info rules host due =
      let yes = (and_parts (nat_le time asked.class.to && wants asked.class info) (is_yes (verdict asked.rules asked.host info)) due).1 in
      rw (← rules, ← host) yes

  module _ (asked : Asked) (rules : asked.rules ≡ client.rules.allow) (host : asked.host ≡ client.host) where
    announced-tells : (before : List Sent) (next : ℕ) (given : feed.Given) → feed.IsDue asked given → WasAnnounced client (before ++ feed.announcement next given ∷ []) given.product.info.signature
    announced-tells before next given due = record {
      xid = next;
      info = given.product.info;
      block_size = LARGEST_BLOCK;
      announced = Contains-push before (feed.announcement next given);
      same = refl;
      may = due-may asked given.time given.product.info rules host due;
    }

    handling-tells : (before : List Sent) (next : ℕ) (given : feed.Given) (handling : feed.Handling) → feed.IsHandled asked given handling
        → AllTell client before (feed.handling_messages next given handling)
    handling-tells before next given feed.Passed is = tt
    handling-tells before next given (feed.Whole at) is = (due-may asked given.time given.product.info rules host is.0, tt)
    handling-tells before next given (feed.Declined at) is = (due-may asked given.time given.product.info rules host is.0, tt)
    handling-tells before next given (feed.InBlocks at blocks_at) is = (
      due-may asked given.time given.product.info rules host is.0,
      blocks-tell (before ++ feed.announcement next given ∷ []) (later_call next 1) given.product.info.signature 0 (blocks given.product.body) (announced-tells before next given is.0),
    )

    turn-tells : (before : List Sent) (standing : Standing) (turn : feed.Turn) → feed_turns.IsTurn asked standing turn → AllTell client before (feed.turn_messages standing.next turn)
    turn-tells before standing (feed.Lost count first last) is = tt
    turn-tells before standing (feed.Gave given handling) is = handling-tells before standing.next given handling is
    turn-tells before standing (feed.Quiet end now) is = tt
    turn-tells before standing (feed.Alive end now at) is = (tt, tt)

    turns-tell : (before : List Sent) (standing : Standing) (turns : List feed.Turn) → feed_turns.AreTurns asked standing turns → AllTell client before (feed_turns.messages_of_turns standing turns)
    turns-tell before standing [] are = tt
    turns-tell before standing (turn ∷ turns) are =
        tell-append before (feed.turn_messages standing.next turn) (feed_turns.messages_of_turns (feed.after_turn standing turn) turns)
        (turn-tells before standing turn are.0)
        (turns-tell (before ++ feed.turn_messages standing.next turn) (feed.after_turn standing turn) turns are.1)

    last-tells : (before : List Sent) (next : ℕ) (last : feeding.Last) → feeding.IsLast asked last → AllTell client before (feeding.last_messages next last)
    last-tells before next feeding.GoesOn is = tt
    last-tells before next (feeding.Stopped end) is = tt
    last-tells before next (feeding.Unanswered given at) is = (due-may asked given.time given.product.info rules host is.0, tt)

    pub feeding-tells : (before : List Sent) (fed : feeding.Feeding) → feeding.IsFeeding asked fed → AllTell client before (feeding.messages_of asked fed)
    feeding-tells before fed is =
        let first = before ++ sent.FeedmeReply asked.xid (class_answer_of fed.answered) ∷ [] in
        let turns = feed_turns.messages_of_turns (feeding.begun fed) fed.turns in (
          tt,
          tell-append first turns (feeding.last_messages (feeding.stands fed).next fed.last) (turns-tell first (feeding.begun fed) fed.turns is.turns)
              (last-tells (first ++ turns) (feeding.stands fed).next fed.last is.last),
        )

    -- ---- sessions of notices

    noticed-tells : (before : List Sent) (next : ℕ) (row : notice.Row) (handling : notice.Handling) → notice.IsHandled asked row handling
        → AllTell client before (notice.handling_messages next row handling)
    noticed-tells before next row notice.Passed is = tt
    noticed-tells before next row (notice.Told at) is = (due-may asked row.time row.info rules host is, tt)

    notice-tells : (before : List Sent) (standing : Standing) (turn : notice.Turn) → notice_turns.IsTurn asked standing turn → AllTell client before (notice.turn_messages standing.next turn)
    notice-tells before standing (notice.Lost count first last) is = tt
    notice-tells before standing (notice.Gave row handling) is = noticed-tells before standing.next row handling is
    notice-tells before standing (notice.Quiet end now) is = tt
    notice-tells before standing (notice.Alive end now at) is = (tt, tt)

    notices-tell : (before : List Sent) (standing : Standing) (turns : List notice.Turn) → notice_turns.AreTurns asked standing turns
        → AllTell client before (notice_turns.messages_of_turns standing turns)
    notices-tell before standing [] are = tt
    notices-tell before standing (turn ∷ turns) are =
        tell-append before (notice.turn_messages standing.next turn) (notice_turns.messages_of_turns (notice.after_turn standing turn) turns)
        (notice-tells before standing turn are.0)
        (notices-tell (before ++ notice.turn_messages standing.next turn) (notice.after_turn standing turn) turns are.1)

    last_notice-tells : (before : List Sent) (next : ℕ) (last : notifying.Last) → AllTell client before (notifying.last_messages next last)
    last_notice-tells before next notifying.GoesOn = tt
    last_notice-tells before next (notifying.Stopped end) = tt
    last_notice-tells before next (notifying.Unanswered row at) = tt

    pub notifying-tells : (before : List Sent) (told : notifying.Notifying) → notifying.IsNotifying asked told → AllTell client before (notifying.messages_of asked told)
    notifying-tells before told is =
        let first = before ++ sent.NotifymeReply asked.xid (class_answer_of told.answered) ∷ [] in
        let turns = notice_turns.messages_of_turns (notifying.begun told) told.turns in (
          tt,
          tell-append first turns (notifying.last_messages (notifying.stands told).next told.last) (notices-tell first (notifying.begun told) told.turns is.turns)
              (last_notice-tells (first ++ turns) (notifying.stands told).next told.last),
        )
