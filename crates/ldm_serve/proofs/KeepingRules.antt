-- Responses keep to the rules, and so does what comes of them.
use Rattle.std.proofs.Common.{◌≡◌, ℕ, zero, suc, ◌<◌, Bool, true, false, List, [], ◌∷◌, Some, None, refl, sym, ap, ◌∙◌, arith}
use Rattle.std.specs.Prelude.{if◌then◌else◌, ◌||◌}
use Rattle.std.specs.List.{Contains, list_any}
use Rattle.ldm_types.specs.Info.{Metadata}
use Rattle.ldm_types.specs.declared.class.ClassSpec.{ClassSpec}
use Rattle.ldm_class.specs.Access.{reduce}
use Rattle.ldm_class.specs.declared.answers.Reduced.{Reduced}
use Rattle.ldm_class.specs.declared.answers.Reduced.TheVariants.{Same, Fewer, Nothing}
use Rattle.ldm_model.specs.declared.event.Entry.{Entry}
use Rattle.ldm_model.specs.declared.event.Event.{Event}
use Rattle.ldm_model.specs.declared.event.Event.TheVariants.{Insert, Stat}
use Rattle.ldm_model.specs.declared.event.Reply.{Reply}
use Rattle.ldm_model.specs.declared.event.Reply.TheVariants as reply
use Rattle.ldm_relay.specs.Sent.{Sent}
use Rattle.ldm_relay.specs.Sent as sent
use Rattle.ldm_relay.specs.declared.fault.RelayFault.{RelayFault}
use Rattle.ldm_relay.specs.declared.fault.RelayFault.TheVariants.{NotRpc, WrongProgram, WrongProcedure, BadMessage}
use Rattle.ldm_relay.specs.declared.message.ClassAnswer.TheVariants as class_answer
use Rattle.ldm_relay.specs.declared.message.PutAnswer.TheVariants as put_answer
use Rattle.ldm_model.specs.declared.stat.Stat as figures
use Rattle.ldm_serve.specs.declared.hiya.TheConstants.{MAX_HEREIS}
use Rattle.ldm_intake.specs.Course.{Comes, Begins, Leads}
use Rattle.ldm_serve.specs.Access.{may_know, may_push}
use Rattle.ldm_serve.specs.Answering.{answering, events_of, put_replies}
use Rattle.ldm_serve.specs.Client.{Client}
use Rattle.ldm_serve.specs.Respond.{means_all, respond, to_call, to_fault, to_offer}
use Rattle.ldm_serve.specs.Response.{Response, Says, Puts, Figures, Feeds, Receives, Notifies, Refuses, Denies}
use Rattle.ldm_serve.proofs.Cases.{each_response}

-- a message with the figures of the queue
abbrev tells_figures : Sent → Bool
tells_figures (sent.QstatReply xid (Some stat)) = true
tells_figures _ = false

-- a test that holds of an element
any_of : {X : Type 0} (test : X → Bool) (xs : List X) (y : X) → test y ≡ true → Contains xs y → list_any test xs ≡ true
any_of test [] y holds there = absurd (let lt : there.0 < 0 = there.1 in omega arith)
any_of {X} test (x ∷ xs) y holds (zero, lt, is) = ap (λ (z : X). test z || list_any test xs) is ∙ ap (λ (b : Bool). b || list_any test xs) holds
any_of test (x ∷ xs) y holds (suc k, lt, is) =
    let rest : list_any test xs ≡ true = any_of test xs y holds (k, omega arith, is) in
    elim (test x) as (λ (b : Bool). (b || list_any test xs) ≡ true) [
      | true ↦ refl
      | false ↦ rest
    ]

-- the only element
only_one : {X : Type 0} (x y : X) → Contains (x ∷ []) y → x ≡ y
only_one x y (zero, lt, is) = is
only_one x y (suc k, lt, is) = absurd (omega arith)

module _ (client : Client) where
  abbrev KeepsTo : Response → Type 0
  KeepsTo (Says messages) = list_any tells_figures messages ≡ false
  KeepsTo (Puts xid info body) = may_push client.rules client.host info ≡ true
  KeepsTo (Figures xid) = may_know client.rules client.host ≡ true
  KeepsTo (Feeds xid class max_hereis) = Unit {0}
  KeepsTo (Receives class messages) = list_any tells_figures messages ≡ false
  KeepsTo (Notifies xid class) = Unit {0}
  KeepsTo (Refuses messages) = list_any tells_figures messages ≡ false
  KeepsTo (Denies rule messages) = list_any tells_figures messages ≡ false

  by_test : (test : Bool) (one other : Response) → (test ≡ true → KeepsTo one) → KeepsTo other → KeepsTo (if test then one else other)
  by_test true one other first second = first refl
  by_test false one other first second = second

  keeps_offer : (xid : ℕ) (class : ClassSpec) (left : Reduced) → KeepsTo (to_offer xid class left)
  keeps_offer xid class Same = refl
  keeps_offer xid class (Fewer fewer) = refl
  keeps_offer xid class (Nothing rule) = refl

  keeps_call : (call : Sent) → KeepsTo (to_call client.rules client.host call)
  keeps_call (sent.Feedme xid class max_hereis) =
      by_test (means_all class) (Feeds xid class max_hereis) (Says (sent.FeedmeReply xid class_answer.BadPattern ∷ [])) (λ is. tt) refl
  keeps_call (sent.Notifyme xid class) =
      by_test (means_all class) (Notifies xid class) (Says (sent.NotifymeReply xid class_answer.BadPattern ∷ [])) (λ is. tt) refl
  keeps_call (sent.Hiya xid class) =
      by_test (means_all class) (to_offer xid class (reduce client.rules.accept client.host class)) (Says (sent.HiyaReply xid MAX_HEREIS class_answer.BadPattern ∷ []))
      (λ is. keeps_offer xid class (reduce client.rules.accept client.host class)) refl
  keeps_call (sent.Put xid info body) =
      by_test (may_push client.rules client.host info) (Puts xid info body) (Says (sent.PutReply xid put_answer.Denied ∷ [])) (λ is. is) refl
  keeps_call (sent.Qstat xid) = by_test (may_know client.rules client.host) (Figures xid) (Says (sent.QstatReply xid None ∷ [])) (λ is. is) refl
  keeps_call _ = refl

  keeps_fault : (fault : RelayFault) → KeepsTo (to_fault fault)
  keeps_fault (WrongProcedure xid procedure) = refl
  keeps_fault (WrongProgram xid program version) = refl
  keeps_fault (BadMessage xid at) = refl
  keeps_fault (NotRpc at) = refl

  keeps : (content : List ℕ) → KeepsTo (respond client content)
  keeps = each_response client KeepsTo keeps_call keeps_fault (λ xid answer. refl) refl

  module _ (actor now : ℕ) where
    -- nothing was asked where something is there at once
    none_asked : (P : Type 0) (messages : List Sent) (made : List Entry) (event : Event) → Begins actor (Comes messages) made → Contains (events_of made) event → P
    none_asked P messages [] event begins there = absurd (let lt : there.0 < 0 = there.1 in omega arith)
    none_asked P messages (entry ∷ made) event begins there = absurd begins

    inserts_for : (response : Response) (made : List Entry) (time : ℕ) (info : Metadata) (body : List ℕ) → KeepsTo response
        → Begins actor (answering response now) made → Contains (events_of made) (Insert time info body) → may_push client.rules client.host info ≡ true
    inserts_for (Puts xid put bytes) [] time info body kept begins there = absurd (let lt : there.0 < 0 = there.1 in omega arith)
    inserts_for (Puts xid put bytes) (entry ∷ []) time info body kept begins there =
        let same : Insert now put bytes ≡ Insert time info body = sym (ap (λ (e : Entry). e.event) begins.0) ∙ only_one entry.event (Insert time info body) there in
        let which : put ≡ info = cc in
        ap (λ (i : Metadata). may_push client.rules client.host i) (sym which) ∙ kept
    inserts_for (Puts xid put bytes) (entry ∷ other ∷ made) time info body kept begins there = absurd begins.1
    inserts_for (Figures xid) [] time info body kept begins there = absurd (let lt : there.0 < 0 = there.1 in omega arith)
    inserts_for (Figures xid) (entry ∷ []) time info body kept begins there =
        let same : Stat ≡ Insert time info body = sym (ap (λ (e : Entry). e.event) begins.0) ∙ only_one entry.event (Insert time info body) there in
        absurd (cc same)
    inserts_for (Figures xid) (entry ∷ other ∷ made) time info body kept begins there = absurd begins.1
    inserts_for (Says messages) made time info body kept begins there = none_asked (may_push client.rules client.host info ≡ true) messages made (Insert time info body) begins there
    inserts_for (Feeds xid class max_hereis) made time info body kept begins there = none_asked (may_push client.rules client.host info ≡ true) [] made (Insert time info body) begins there
    inserts_for (Receives class messages) made time info body kept begins there = none_asked (may_push client.rules client.host info ≡ true) messages made (Insert time info body) begins there
    inserts_for (Notifies xid class) made time info body kept begins there = none_asked (may_push client.rules client.host info ≡ true) [] made (Insert time info body) begins there
    inserts_for (Refuses messages) made time info body kept begins there = none_asked (may_push client.rules client.host info ≡ true) messages made (Insert time info body) begins there
    inserts_for (Denies rule messages) made time info body kept begins there = none_asked (may_push client.rules client.host info ≡ true) messages made (Insert time info body) begins there

    stats_for : (response : Response) (made : List Entry) → KeepsTo response
        → Begins actor (answering response now) made → Contains (events_of made) Stat → may_know client.rules client.host ≡ true
    stats_for (Figures xid) made kept begins there = kept
    stats_for (Puts xid put bytes) [] kept begins there = absurd (let lt : there.0 < 0 = there.1 in omega arith)
    stats_for (Puts xid put bytes) (entry ∷ []) kept begins there =
        let same : Insert now put bytes ≡ Stat = sym (ap (λ (e : Entry). e.event) begins.0) ∙ only_one entry.event Stat there in absurd (cc same)
    stats_for (Puts xid put bytes) (entry ∷ other ∷ made) kept begins there = absurd begins.1
    stats_for (Says messages) made kept begins there = none_asked (may_know client.rules client.host ≡ true) messages made Stat begins there
    stats_for (Feeds xid class max_hereis) made kept begins there = none_asked (may_know client.rules client.host ≡ true) [] made Stat begins there
    stats_for (Receives class messages) made kept begins there = none_asked (may_know client.rules client.host ≡ true) messages made Stat begins there
    stats_for (Notifies xid class) made kept begins there = none_asked (may_know client.rules client.host ≡ true) [] made Stat begins there
    stats_for (Refuses messages) made kept begins there = none_asked (may_know client.rules client.host ≡ true) messages made Stat begins there
    stats_for (Denies rule messages) made kept begins there = none_asked (may_know client.rules client.host ≡ true) messages made Stat begins there

    -- messages without figures have none
    none_told : (P : Type 0) (messages : List Sent) (xid : ℕ) (stat : figures.Stat) → list_any tells_figures messages ≡ false
        → Contains messages (sent.QstatReply xid (Some stat)) → P
    none_told P messages xid stat none there =
        absurd (let both : true ≡ false = sym (any_of tells_figures messages (sent.QstatReply xid (Some stat)) refl there) ∙ none in cc both)

    told_at_once : (P : Type 0) (owed messages : List Sent) (made : List Entry) (xid : ℕ) (stat : figures.Stat) → list_any tells_figures owed ≡ false
        → Leads actor (Comes owed) made messages → Contains messages (sent.QstatReply xid (Some stat)) → P
    told_at_once P owed messages [] xid stat none leads there =
        none_told P messages xid stat (ap (list_any tells_figures) (sym leads) ∙ none) there
    told_at_once P owed messages (entry ∷ made) xid stat none leads there = absurd leads

    put_tells_none : (xid : ℕ) (answer : Reply) → list_any tells_figures (put_replies xid answer) ≡ false
    put_tells_none xid (reply.Admitted n time evicted) = refl
    put_tells_none xid (reply.TooBig need arena) = refl
    put_tells_none xid (reply.Duplicate n) = refl
    put_tells_none xid reply.TimeEnd = refl
    put_tells_none xid (reply.Locked held) = refl
    put_tells_none xid _ = refl

    figures_for : (response : Response) (made : List Entry) (messages : List Sent) (xid : ℕ) (stat : figures.Stat) → KeepsTo response
        → Leads actor (answering response now) made messages → Contains messages (sent.QstatReply xid (Some stat)) → may_know client.rules client.host ≡ true
    figures_for (Figures call) made messages xid stat kept leads there = kept
    figures_for (Puts call put bytes) [] messages xid stat kept leads there = absurd leads
    figures_for (Puts call put bytes) (entry ∷ made) messages xid stat kept leads there =
        told_at_once (may_know client.rules client.host ≡ true) (put_replies call entry.reply) messages made xid stat (put_tells_none call entry.reply) leads.1 there
    figures_for (Says owed) made messages xid stat kept leads there = told_at_once (may_know client.rules client.host ≡ true) owed messages made xid stat kept leads there
    figures_for (Feeds call class max_hereis) made messages xid stat kept leads there = told_at_once (may_know client.rules client.host ≡ true) [] messages made xid stat refl leads there
    figures_for (Receives class owed) made messages xid stat kept leads there = told_at_once (may_know client.rules client.host ≡ true) owed messages made xid stat kept leads there
    figures_for (Notifies call class) made messages xid stat kept leads there = told_at_once (may_know client.rules client.host ≡ true) [] messages made xid stat refl leads there
    figures_for (Refuses owed) made messages xid stat kept leads there = told_at_once (may_know client.rules client.host ≡ true) owed messages made xid stat kept leads there
    figures_for (Denies rule owed) made messages xid stat kept leads there = told_at_once (may_know client.rules client.host ≡ true) owed messages made xid stat kept leads there

  pub inserts : (content : List ℕ) (now actor : ℕ) (made : List Entry) (time : ℕ) (info : Metadata) (body : List ℕ)
      → Begins actor (answering (respond client content) now) made → Contains (events_of made) (Insert time info body) → may_push client.rules client.host info ≡ true
  inserts content now actor made time info body = inserts_for actor now (respond client content) made time info body (keeps content)

  pub asks_figures : (content : List ℕ) (now actor : ℕ) (made : List Entry)
      → Begins actor (answering (respond client content) now) made → Contains (events_of made) Stat → may_know client.rules client.host ≡ true
  asks_figures content now actor made = stats_for actor now (respond client content) made (keeps content)

  pub figures_told : (content : List ℕ) (now actor : ℕ) (made : List Entry) (messages : List Sent) (xid : ℕ) (stat : figures.Stat)
      → Leads actor (answering (respond client content) now) made messages → Contains messages (sent.QstatReply xid (Some stat)) → may_know client.rules client.host ≡ true
  figures_told content now actor made messages xid stat = figures_for actor now (respond client content) made messages xid stat (keeps content)
