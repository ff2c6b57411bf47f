-- A connection keeps to the rules.
use Rattle.std.proofs.Common.{◌≡◌, ◌∙◌, ℕ, Bool, true, false, List, [], ◌∷◌, ◌++◌, map, refl, sym, ap, subst, append_assoc, append-nil, inl, inr}
use Rattle.std.specs.List.{Contains}
use Rattle.std.proofs.lemmas.List.{append_cancel_left}
use Rattle.std.proofs.lemmas.List.Concat.{flat_map-append}
use Rattle.std.proofs.lemmas.List.Elements.{Contains-push}
use Rattle.ldm_types.specs.Info.{Metadata}
use Rattle.ldm_model.specs.declared.event.Event.{Event}
use Rattle.ldm_model.specs.declared.event.Event.TheVariants.{Insert, Stat}
use Rattle.ldm_model.specs.declared.event.Entry.{Entry}
use Rattle.ldm_outside.specs.Link.{LinkRecord}
use Rattle.ldm_relay.specs.Sent.{Sent}
use Rattle.ldm_relay.specs.Spelling.{written, record_of, records_of}
use Rattle.ldm_session.specs.Exchange.{Exchanged}
use Rattle.ldm_session.proofs.CallerLemmas.{Exchanged-nothing, Exchanged-still, Exchanged-then}
use Rattle.ldm_shared.specs.Own.{own}
use Rattle.ldm_shared.specs.Passes.{PassView, Calls}
use Rattle.ldm_shared.proofs.Made.{calls_none, calls_trans}
use Rattle.ldm_sender.specs.declared.end.SendEnd.{SendEnd}
use Rattle.ldm_sender.specs.Acts.{is_whole}
use Rattle.ldm_sender.specs.Asked.{asked_of}
use Rattle.ldm_sender.specs.Calls.{MayBeUnmade}
use Rattle.ldm_session.specs.Part.{IsPart}
use Rattle.ldm_sender.specs.Ending.{closing_of}
use Rattle.ldm_sender.proofs.Fronts.{front_of}
use Rattle.ldm_intake.specs.declared.end.RecvEnd.{RecvEnd}
use Rattle.ldm_intake.specs.Course.{Begins, Comes, Leads}
use Rattle.ldm_intake.proofs.Courses.{leads-begins}
use Rattle.ldm_serve.specs.declared.responded.Responded.{Responded}
use Rattle.ldm_serve.specs.declared.responded.Responded.TheVariants as responded
use Rattle.ldm_serve.specs.Answering.{answering, events_of}
use Rattle.ldm_serve.specs.Respond.{respond}
use Rattle.ldm_serve.specs.Response.{Response, Says, Puts, Figures, Feeds, Receives, Notifies, Refuses, Denies}
use Rattle.ldm_serve.specs.Responds.{goes_on}
use Rattle.ldm_upstream.specs.Feeding as feeding
use Rattle.ldm_notify.specs.declared.end.NoteEnd.{NoteEnd}
use Rattle.ldm_notify.specs.Notifying as notifying
use Rattle.ldm_notify.specs.Notifies.{send_end}
use Rattle.ldm_serve.specs.declared.end.ServeEnd.{ServeEnd}
use Rattle.ldm_serve.specs.declared.end.ServeEnd.TheVariants as end
use Rattle.ldm_serve.specs.Client.{Client}
use Rattle.ldm_serve.specs.Steps.{AreSteps, IsStep, Step, entries_of, response_of}
use Rattle.ldm_serve.specs.Outlived.{AreOutlived, Outlived, Answered, Narrowed, step_of}
use Rattle.ldm_serve.specs.Connection.{Answers, ServingMoment, entries_in, messages_in, steps_in}
use Rattle.ldm_serve.specs.Becoming.{IsDenied, IsFed, IsNotified, IsReceived, IsRefused, ungated}
use Rattle.ldm_serve.specs.Serve.{EndsBy, EndsWorn, ServesAll}
use Rattle.ldm_serve.specs.Kept.{AllPutIn, AllTell, MayAsk, MayHandIn, PutsIn, SendsOnly}
use Rattle.ldm_serve.proofs.PuttingIn.{all_put-append}
use Rattle.ldm_serve.proofs.Calling.{closing-none, feeding-puts_none, none-put_in, notifying-puts_none, puts-append, puts-part}
use Rattle.ldm_serve.proofs.MayGo.{go-tell}
use Rattle.ldm_serve.proofs.Pushed.{received-pushes}
use Rattle.ldm_serve.proofs.Telling.{feeding-tells, messages-go, notifying-tells, tell-append}

-- what is known of responses: no record has a product inserted, and none has the queue asked for its figures, but by the rules
abbrev pub InsertsByRules : Client → Type 0
InsertsByRules client = (content : List ℕ) (now : ℕ) (made : List Entry) (time : ℕ) (info : Metadata) (body : List ℕ)
    → Begins client.actor (answering (respond client content) now) made → Contains (events_of made) (Insert time info body) → MayHandIn client info

abbrev pub AsksByRules : Client → Type 0
AsksByRules client = (content : List ℕ) (now : ℕ) (made : List Entry)
    → Begins client.actor (answering (respond client content) now) made → Contains (events_of made) Stat → MayAsk client

part_rest : (whole : Bool) (part all : List ℕ) → IsPart whole part all → (rest : List ℕ) × (part ++ rest ≡ all)
part_rest true part all is = ([], append-nil part ∙ is)
part_rest false part all is = is

module _ (client : Client) where
  -- ---- answers

  comes-puts : (before : List Entry) (owed messages : List Sent) (made : List Entry) → Leads client.actor (Comes owed) made messages → AllPutIn client before made
  comes-puts before owed messages [] leads = tt
  comes-puts before owed messages (entry ∷ made) leads = absurd leads

  response-puts : (before : List Entry) (response : Response) (now : ℕ) (made : List Entry) (messages : List Sent) → Leads client.actor (answering response now) made messages
      → ((time : ℕ) (info : Metadata) (body : List ℕ) → Contains (events_of made) (Insert time info body) → MayHandIn client info)
      → (Contains (events_of made) Stat → MayAsk client) → AllPutIn client before made
  response-puts before (Puts xid info body) now [] messages leads may asks = absurd leads
  response-puts before (Puts xid info body) now (entry ∷ []) messages leads may asks =
      let event : entry.event ≡ Insert now info body = ap (λ (e : Entry). e.event) leads.0 in
      let there : Contains (entry.event ∷ []) (Insert now info body) =
      subst (λ (e : Event). Contains (e ∷ []) (Insert now info body)) (sym event) (Contains-push [] (Insert now info body)) in
      (subst (λ (e : Event). PutsIn client before e) (sym event) (may now info body there), tt)
  response-puts before (Puts xid info body) now (entry ∷ other ∷ made) messages leads may asks = absurd leads.1
  response-puts before (Figures xid) now [] messages leads may asks = absurd leads
  response-puts before (Figures xid) now (entry ∷ []) messages leads may asks =
      let event : entry.event ≡ Stat = ap (λ (e : Entry). e.event) leads.0 in
      let there : Contains (entry.event ∷ []) Stat = subst (λ (e : Event). Contains (e ∷ []) Stat) (sym event) (Contains-push [] Stat) in
      (subst (λ (e : Event). PutsIn client before e) (sym event) (asks there), tt)
  response-puts before (Figures xid) now (entry ∷ other ∷ made) messages leads may asks = absurd leads.1
  response-puts before (Says owed) now made messages leads may asks = comes-puts before owed messages made leads
  response-puts before (Feeds xid class max_hereis) now made messages leads may asks = comes-puts before [] messages made leads
  response-puts before (Receives class owed) now made messages leads may asks = comes-puts before owed messages made leads
  response-puts before (Notifies xid class) now made messages leads may asks = comes-puts before [] messages made leads
  response-puts before (Refuses owed) now made messages leads may asks = comes-puts before owed messages made leads
  response-puts before (Denies rule owed) now made messages leads may asks = comes-puts before owed messages made leads

  outlived-are : (outlived : List Outlived) (last : List Step) → AreOutlived client outlived → AreSteps client last → AreSteps client (map step_of outlived ++ last)
  outlived-are [] last are behind = behind
  outlived-are (Answered step ∷ others) last are behind = (are.0.0, outlived-are others last are.1 behind)
  outlived-are (Narrowed step fewer at ∷ others) last are behind = (are.0.0, outlived-are others last are.1 behind)

  module _ (inserts : InsertsByRules client) (asks : AsksByRules client) where
    step-puts : (before : List Entry) (step : Step) → IsStep client step → AllPutIn client before step.made
    step-puts before step is =
        let response = response_of client step in
        let begins = leads-begins client.actor (answering response step.now) step.made step.messages is in
        response-puts before response step.now step.made step.messages is
        (λ (time : ℕ) (info : Metadata) (body : List ℕ) there. inserts step.placed.content step.now step.made time info body begins there)
        (λ there. asks step.placed.content step.now step.made begins there)

    steps-put : (before : List Entry) (steps : List Step) → AreSteps client steps → AllPutIn client before (entries_of steps)
    steps-put before [] are = tt
    steps-put before (step ∷ steps) are =
        all_put-append client before step.made (entries_of steps) (step-puts before step are.0) (steps-put (before ++ step.made) steps are.1)

    answers-put : (answers : Answers) → AreOutlived client answers.outlived → AreSteps client answers.last → AllPutIn client [] (entries_in answers)
    answers-put answers outlived last = steps-put [] (steps_in answers) (outlived-are answers.outlived answers.last outlived last)

  -- ---- what follows the answers

  -- Behind these calls and messages, what a connection does keeps to the rules.
  record Behind (before : List Entry) (owed : List Sent) (old new : ServingMoment) : Type 0 where
    made : List Entry
    calls : Calls old.pass new.pass made
    puts : AllPutIn client before made
    messages : List Sent
    tell : AllTell client owed messages
    sent : List ℕ
    rest : List ℕ
    front : sent ++ rest ≡ records_of messages
    given : List ℕ
    exchanged : Exchanged old.outside.link sent given new.outside.link

  module _ (before : List Entry) (owed : List Sent) (old new : ServingMoment) (by : old.pass.actor ≡ client.actor) where
    nothing : Calls old.pass new.pass [] → new.outside.link ≡ old.outside.link → Behind before owed old new
    nothing calls link = record {
      made = [];
      calls = calls;
      puts = tt;
      messages = [];
      tell = tt;
      sent = [];
      rest = [];
      front = refl;
      given = [];
      exchanged = Exchanged-nothing old.outside.link new.outside.link (ap (λ (l : LinkRecord). l.passed) link) (ap (λ (l : LinkRecord). l.left) link);
    }

    still : new ≡ old → Behind before owed old new
    still same =
        nothing (subst (λ (moment : ServingMoment). Calls old.pass moment.pass []) (sym same) (calls_none old.pass)) (ap (λ (moment : ServingMoment). moment.outside.link) same)

    fed : (why : SendEnd) (next : Responded) (ahead : List ℕ) → IsFed why next client ahead old new → Behind before owed old new
    fed why (responded.Feeds ask) ahead is =
        let feeds = is.0 in
        let asked = asked_of client.host client.rules ask in
        let all = feeding.entries_of old.pass.actor asked feeds.feeding in
        let closing = closing_of old.pass.actor why feeds.feeding.answered in
        let front = part_rest (is_whole why) feeds.sent (feeding.bytes_of asked feeds.feeding) feeds.sent_part in
        record {
          made = feeds.called ++ closing;
          calls = feeds.made;
          puts = none-put_in client before (feeds.called ++ closing)
              (puts-append feeds.called closing (puts-part (is_whole why) feeds.called all (front_of MayBeUnmade (is_whole why) feeds.called all feeds.called_part) (feeding-puts_none old.pass.actor asked feeds.feeding))
              (closing-none old.pass.actor why feeds.feeding.answered));
          messages = feeding.messages_of asked feeds.feeding;
          tell = feeding-tells client asked refl refl owed feeds.feeding feeds.is_feeding;
          sent = feeds.sent;
          rest = front.0;
          front = front.1;
          given = feeds.given;
          exchanged = feeds.exchanged;
        }
    fed why _ ahead is = absurd is

    told : (why : NoteEnd) (next : Responded) → IsNotified why next client old new → Behind before owed old new
    told why (responded.Notifies ask) is =
        let notifies = is.0 in
        let asked = notifying.asked_of client.host client.rules ask in
        let end = send_end why in
        let all = notifying.entries_of old.pass.actor asked notifies.notifying in
        let closing = closing_of old.pass.actor end notifies.notifying.answered in
        let front = part_rest (is_whole end) notifies.sent (notifying.bytes_of asked notifies.notifying) notifies.sent_part in
        record {
          made = notifies.called ++ closing;
          calls = notifies.made;
          puts = none-put_in client before (notifies.called ++ closing)
              (puts-append notifies.called closing (puts-part (is_whole end) notifies.called all (front_of MayBeUnmade (is_whole end) notifies.called all notifies.called_part) (notifying-puts_none old.pass.actor asked notifies.notifying))
              (closing-none old.pass.actor end notifies.notifying.answered));
          messages = notifying.messages_of asked notifies.notifying;
          tell = notifying-tells client asked refl refl owed notifies.notifying notifies.is_notifying;
          sent = notifies.sent;
          rest = front.0;
          front = front.1;
          given = [];
          exchanged = notifies.exchanged;
        }
    told why _ is = absurd is

    pushed : (why : RecvEnd) (next : Responded) (ahead : List ℕ) → IsReceived why next client ahead old new → Behind before owed old new
    pushed why (responded.Receives class) ahead is =
        let pushes = received-pushes client before why is.0.0 class ahead old.pass new.pass (ungated old.outside) (ungated new.outside) by is.0.1 in
        record {
          made = pushes.made;
          calls = pushes.calls;
          puts = pushes.puts;
          messages = pushes.messages;
          tell = go-tell client owed pushes.messages pushes.go;
          sent = pushes.sent;
          rest = pushes.rest;
          front = pushes.front;
          given = pushes.given;
          exchanged = pushes.exchanged;
        }
    pushed why _ ahead is = absurd is

    refused : (place : ℕ) (next : Responded) (at : ℕ) → IsRefused place next at old new → Behind before owed old new
    refused place responded.Refused at is = still is.1
    refused place _ at is = absurd is

    denied : (rule : ℕ) (next : Responded) → IsDenied rule next old new → Behind before owed old new
    denied rule (responded.Denied first) is = still is.1
    denied rule _ is = absurd is

    worn : (answers : Answers) (taken : List ℕ) → EndsWorn client answers taken old new → Behind before owed old new
    worn answers taken ends = nothing ends.runs_out.calls (ap (λ (moment : ServingMoment). moment.outside.link) ends.same)

    bad : (at : ℕ) (answers : Answers) (taken ahead : List ℕ) → EndsBy (end.BadFrame at) client answers taken ahead old new → Behind before owed old new
    bad at answers taken ahead (inl by_record) = refused at (goes_on (response_of client by_record.last)) by_record.last.placed.at by_record.becomes
    bad at answers taken ahead (inr by_length) = still by_length.same

    ends-behind : (why : ServeEnd) (answers : Answers) (taken ahead : List ℕ) → EndsBy why client answers taken ahead old new → Behind before owed old new
    ends-behind (end.Feed why) answers taken ahead ends = fed why (goes_on (response_of client ends.last)) ahead ends.becomes
    ends-behind (end.Receive why) answers taken ahead ends = pushed why (goes_on (response_of client ends.last)) ahead ends.becomes
    ends-behind (end.Notify why) answers taken ahead ends = told why (goes_on (response_of client ends.last)) ends.becomes
    ends-behind (end.Denied rule) answers taken ahead ends = denied rule (goes_on (response_of client ends.last)) ends.becomes
    ends-behind (end.BadFrame at) answers taken ahead ends = bad at answers taken ahead ends
    ends-behind end.Ended answers taken ahead ends = still ends.0.same
    ends-behind (end.Truncated at) answers taken ahead ends = still ends.0.same
    ends-behind end.StreamLimit answers taken ahead ends = still ends.0.same
    ends-behind end.LinkFault answers taken ahead ends = still ends.1
    ends-behind end.Worn answers taken ahead ends = worn answers taken ends
    ends-behind end.OutOfMemory answers taken ahead ends = still ends.1

  -- ---- the whole connection

  module _ (why : ServeEnd) (old new : ServingMoment) (serves : ServesAll why client old new) where
    actor_is : serves.between.pass.actor ≡ client.actor
    actor_is = ap (λ (pass : PassView). pass.actor) serves.reaches.calls.same ∙ serves.reaches.by

    behind : Behind (entries_in serves.answers) (messages_in client serves.answers) serves.between new
    behind = ends-behind (entries_in serves.answers) (messages_in client serves.answers) serves.between new actor_is why serves.answers serves.taken serves.ahead serves.ends

    answers_tell : AllTell client [] (messages_in client serves.answers)
    answers_tell = go-tell client [] (messages_in client serves.answers) (messages-go client serves.answers serves.reaches.outlived serves.reaches.last)

    pub puts-in : InsertsByRules client → AsksByRules client → (made : List Entry) → Calls old.pass new.pass made → AllPutIn client [] made
    puts-in inserts asks made calls =
        let first = entries_in serves.answers in
        let all = calls_trans old.pass serves.between.pass new.pass first behind.made serves.reaches.calls behind.calls in
        let put = all_put-append client [] first behind.made (answers-put inserts asks serves.answers serves.reaches.outlived serves.reaches.last) behind.puts in
        subst (λ (entries : List Entry). AllPutIn client [] entries)
        (append_cancel_left (own old.pass.actor old.pass.seen) (first ++ behind.made) made (sym all.adds.own ∙ calls.adds.own)) put

    -- all messages of the answers were sent, and then others, or a front of them
    sends-then : serves.reaches.sent ≡ records_of (messages_in client serves.answers) → SendsOnly client old.outside.link new.outside.link
    sends-then whole =
        let first = messages_in client serves.answers in
        let sent = serves.reaches.sent in
        record {
          messages = first ++ behind.messages;
          tell = tell-append client [] first behind.messages answers_tell behind.tell;
          sent = sent ++ behind.sent;
          rest = behind.rest;
          front =
              append_assoc sent behind.sent behind.rest ∙ ap (λ (bytes : List ℕ). sent ++ bytes) behind.front
              ∙ ap (λ (bytes : List ℕ). bytes ++ records_of behind.messages) whole
              ∙ sym (flat_map-append (λ (m : Sent). record_of (written m)) first behind.messages);
          given = (serves.taken ++ serves.ahead) ++ behind.given;
          exchanged =
              Exchanged-then old.outside.link serves.between.outside.link new.outside.link sent (serves.taken ++ serves.ahead) behind.sent behind.given
              serves.reaches.exchanged behind.exchanged;
        }

    -- a front of them was sent, and then nothing
    sends-still : IsPart false serves.reaches.sent (records_of (messages_in client serves.answers)) → new.outside.link ≡ serves.between.outside.link
        → SendsOnly client old.outside.link new.outside.link
    sends-still front same = record {
      messages = messages_in client serves.answers;
      tell = answers_tell;
      sent = serves.reaches.sent;
      rest = front.0;
      front = front.1;
      given = serves.taken ++ serves.ahead;
      exchanged =
          Exchanged-still old.outside.link serves.between.outside.link new.outside.link serves.reaches.sent (serves.taken ++ serves.ahead)
          serves.reaches.exchanged (ap (λ (l : LinkRecord). l.passed) same) (ap (λ (l : LinkRecord). l.left) same);
    }

  pub sends : (why : ServeEnd) (old new : ServingMoment) → ServesAll why client old new → SendsOnly client old.outside.link new.outside.link
  sends end.LinkFault old new serves =
      sends-still end.LinkFault old new serves serves.reaches.sent_part (ap (λ (moment : ServingMoment). moment.outside.link) serves.ends.1)
  sends end.Worn old new serves =
      sends-still end.Worn old new serves serves.reaches.sent_part (ap (λ (moment : ServingMoment). moment.outside.link) serves.ends.same)
  sends end.OutOfMemory old new serves =
      sends-still end.OutOfMemory old new serves serves.reaches.sent_part (ap (λ (moment : ServingMoment). moment.outside.link) serves.ends.1)
  sends (end.Feed why) old new serves = sends-then (end.Feed why) old new serves serves.reaches.sent_part
  sends (end.Receive why) old new serves = sends-then (end.Receive why) old new serves serves.reaches.sent_part
  sends (end.Notify why) old new serves = sends-then (end.Notify why) old new serves serves.reaches.sent_part
  sends (end.Denied rule) old new serves = sends-then (end.Denied rule) old new serves serves.reaches.sent_part
  sends (end.BadFrame at) old new serves = sends-then (end.BadFrame at) old new serves serves.reaches.sent_part
  sends end.Ended old new serves = sends-then end.Ended old new serves serves.reaches.sent_part
  sends (end.Truncated at) old new serves = sends-then (end.Truncated at) old new serves serves.reaches.sent_part
  sends end.StreamLimit old new serves = sends-then end.StreamLimit old new serves serves.reaches.sent_part
