-- A connection whose peer sends what is lawful becomes what its records ask for.
use Rattle.std.proofs.Common.{◌≡◌, ◌∙◌, ℕ, ◌+◌, Bool, true, false, List, [], ◌∷◌, ◌++◌, ◌⊎◌, length, Option, Some, None, IfSome, inl, inr, refl, ap, sym, subst, append_assoc, arith, length-append}
use Rattle.std.specs.Prelude.{map, if◌then◌else◌}
use Rattle.std.specs.Option.{option_map}
use Rattle.ldm_types.specs.declared.class.ClassSpec.{ClassSpec}
use Rattle.ldm_class.specs.Access.{reduce}
use Rattle.ldm_class.specs.Rules.{rules_for}
use Rattle.ldm_class.specs.declared.answers.Reduced.{Reduced}
use Rattle.ldm_class.specs.declared.answers.Reduced.TheVariants.{Same, Fewer, Nothing}
use Rattle.ldm_outside.proofs.CallerLemmas.{Rose-later}
use Rattle.ldm_outside.specs.Session.{SessionRecord, KeepsFaults}
use Rattle.ldm_rpc.specs.declared.fault.RpcFault.{RpcFault}
use Rattle.ldm_rpc.specs.declared.stage.Stage.{Stage}
use Rattle.ldm_rpc.specs.declared.stage.Stage.TheVariants.{Header, Fragment, Whole, Faulty}
use Rattle.ldm_rpc.specs.Reading.{is_faulty, is_faulty_at, is_open_at, is_pending, is_whole_at}
use Rattle.ldm_rpc.specs.Streams.{Placed, Position, in_hand, records_in}
use Rattle.ldm_rpc.proofs.CallerLemmas.{reads_none, reads_fault}
use Rattle.ldm_rpc.proofs.Joined.{records-append, in_hand-append}
use Rattle.ldm_rpc.proofs.Pushed.{after_end}
use Rattle.ldm_shared.specs.Passes.{PassView}
use Rattle.ldm_sender.specs.declared.end.SendEnd.{SendEnd}
use Rattle.ldm_sender.specs.declared.end.SendEnd.TheVariants as send
use Rattle.ldm_sender.specs.Asked.{Asked, asked_of}
use Rattle.ldm_sender.specs.Opening.{Answered, IsAnswerTo}
use Rattle.ldm_sender.specs.Opening as opening
use Rattle.ldm_upstream.specs.Turn.{Turn}
use Rattle.ldm_upstream.specs.Feeding as fed
use Rattle.ldm_upstream.specs.Feeds.{Feeds as IsFedSo}
use Rattle.ldm_notify.specs.declared.end.NoteEnd.{NoteEnd}
use Rattle.ldm_notify.specs.declared.end.NoteEnd.TheVariants as notified
use Rattle.ldm_notify.specs.Turn as told_turn
use Rattle.ldm_notify.specs.Notifying as told
use Rattle.ldm_notify.specs.Notifies.{Notifies as IsNotifiedSo}
use Rattle.ldm_shared.specs.declared.steps.TheConstants.{MOST_TURNS}
use Rattle.ldm_outside.specs.Count.{Rose}
use Rattle.ldm_intake.specs.declared.end.RecvEnd.{RecvEnd}
use Rattle.ldm_intake.specs.declared.end.RecvEnd.TheVariants as received
use Rattle.ldm_downstream.specs.Receives.{Cause}
use Rattle.ldm_serve.specs.declared.end.ServeEnd.{ServeEnd}
use Rattle.ldm_serve.specs.declared.end.ServeEnd.TheVariants as end
use Rattle.ldm_serve.specs.Becoming.{Becomes, ungated}
use Rattle.ldm_serve.specs.Client.{Client}
use Rattle.ldm_serve.specs.Complete.{BecomesBy, FeedsOn, FeedsTo, IsLawful, IsLawfulBy, LacksMemory, NothingHinders, NotifiesOn, NotifiesTo, ReceivesOn, is_outlived_by, is_part, last_response}
use Rattle.ldm_serve.specs.Connection.{ServingMoment, placed_in}
use Rattle.ldm_serve.specs.Outlived.{Outlived, Answered as WasAnswered, Narrowed, AreOutlived, IsNarrowedTo, step_of}
use Rattle.ldm_serve.specs.Response.{Response, Says, Puts, Figures, Feeds, Receives, Notifies, Refuses, Denies}
use Rattle.ldm_serve.specs.Responds.{goes_on}
use Rattle.ldm_serve.specs.Serve.{EndsByRecord, ServesAll}
use Rattle.ldm_serve.specs.ServingView.{beginning}
use Rattle.ldm_serve.specs.Steps.{Step, is_on, response_of}

-- ---- the records that the session outlived

on-outlives : (client : Client) (r : Response) → is_on (goes_on r) ≡ true → is_outlived_by client r ≡ true
on-outlives client (Says messages) on = refl
on-outlives client (Puts xid info body) on = refl
on-outlives client (Figures xid) on = refl
on-outlives client (Feeds xid class max_hereis) on = absurd (cc on)
on-outlives client (Receives class messages) on = absurd (cc on)
on-outlives client (Notifies xid class) on = absurd (cc on)
on-outlives client (Refuses messages) on = absurd (cc on)
on-outlives client (Denies rule messages) on = absurd (cc on)

narrowed-outlives : (client : Client) (r : Response) (fewer : ClassSpec) → IsNarrowedTo client r fewer → is_outlived_by client r ≡ true
narrowed-outlives client (Feeds xid class max_hereis) fewer is = ap is_part is
narrowed-outlives client (Notifies xid class) fewer is = ap is_part is
narrowed-outlives client (Says messages) fewer is = absurd is
narrowed-outlives client (Puts xid info body) fewer is = absurd is
narrowed-outlives client (Figures xid) fewer is = absurd is
narrowed-outlives client (Receives class messages) fewer is = absurd is
narrowed-outlives client (Refuses messages) fewer is = absurd is
narrowed-outlives client (Denies rule messages) fewer is = absurd is

abbrev placed_of : Step → Placed
placed_of step = step.placed

-- they decide nothing
outlived-first : (client : Client) (outlived : List Outlived) (last : List Step) (others : List Placed) → AreOutlived client outlived
    → last_response client (map placed_of (map step_of outlived ++ last) ++ others) ≡ last_response client (map placed_of last ++ others)
outlived-first client [] last others are = refl
outlived-first client (WasAnswered step ∷ outlived) last others are =
    let behind = map placed_of (map step_of outlived ++ last) ++ others in
    ap (λ (b : Bool). (if b then last_response client behind else Some (response_of client step))) (on-outlives client (response_of client step) are.0.1)
    ∙ outlived-first client outlived last others are.1
outlived-first client (Narrowed step fewer at ∷ outlived) last others are =
    let behind = map placed_of (map step_of outlived ++ last) ++ others in
    ap (λ (b : Bool). (if b then last_response client behind else Some (response_of client step))) (narrowed-outlives client (response_of client step) fewer are.0.1)
    ∙ outlived-first client outlived last others are.1

-- ---- the bytes of the stream

record HasMore (taken ahead stream : List ℕ) (left : Option (List ℕ)) : Type 0 where
  more : List ℕ
  left_is : left ≡ Some more
  all : stream ≡ taken ++ (ahead ++ more)

has-more : (taken ahead stream : List ℕ) (old left : Option (List ℕ)) → old ≡ option_map (λ (bytes : List ℕ). (taken ++ ahead) ++ bytes) left → old ≡ Some stream
    → HasMore taken ahead stream left
has-more taken ahead stream old None is had = let none : None ≡ Some stream = sym is ∙ had in absurd (cc none)
has-more taken ahead stream old (Some more) is had =
    let same : Some ((taken ++ ahead) ++ more) ≡ Some stream = sym is ∙ had in
    let all : (taken ++ ahead) ++ more ≡ stream = cc same in
    record { more = more; left_is = refl; all = sym all ∙ append_assoc taken ahead more }

fault_at : (stage : Stage) → is_faulty_at stage ≡ true → (fault : RpcFault) × (stage ≡ Faulty fault)
fault_at (Header came number) faulty = absurd cc
fault_at (Fragment left last) faulty = absurd cc
fault_at Whole faulty = absurd cc
fault_at (Faulty fault) faulty = (fault, refl)

-- behind a record that is too long there is none, and it is pending still
record StaysFaulty (p : Position) (bytes : List ℕ) : Type 0 where
  none : records_in p bytes ≡ []
  pending : is_pending (in_hand p bytes).reading ≡ true

stays-faulty : (p : Position) (bytes : List ℕ) → is_faulty p.reading ≡ true → StaysFaulty p bytes
stays-faulty p bytes faulty =
    let fault = fault_at p.reading.stage faulty in
    let still = after_end p.reading bytes (ap is_open_at fault.1) in
    let read = reads_fault p bytes [] p bytes [] p.reading fault.0 (reads_none p bytes [] (ap is_whole_at fault.1)) (sym still) fault.1 in
    record { none = sym read.0; pending = rw (read.1, fault.1) refl }

-- ---- a request of which a part is left

-- it was answered by that part, and no cursor was opened
record IsReclassed (answered : Answered) : Type 0 where
  class : ClassSpec
  is : answered ≡ opening.Reclassed class

reclassed : (asked : Asked) (fewer : ClassSpec) (answered : Answered) → reduce asked.rules asked.host asked.class ≡ Fewer fewer → IsAnswerTo asked answered
    → IsReclassed answered
reclassed asked fewer (opening.Reclassed class) left is = record { class = class; is = refl }
reclassed asked fewer (opening.Denied rule) left is = let no : Fewer fewer ≡ Nothing rule = sym left ∙ is in absurd (cc no)
reclassed asked fewer (opening.Busy missed) left is = let no : Fewer fewer ≡ Same = sym left ∙ is.0 in absurd (cc no)
reclassed asked fewer (opening.Opened missed k) left is = let no : Fewer fewer ≡ Same = sym left ∙ is.0 in absurd (cc no)

-- it was answered that nothing is left
denied : (asked : Asked) (rule : ℕ) (answered : Answered) → reduce asked.rules asked.host asked.class ≡ Nothing rule → IsAnswerTo asked answered
    → answered ≡ opening.Denied rule
denied asked rule (opening.Denied place) left is =
    let same : Nothing rule ≡ Nothing place = sym left ∙ is in
    let at : place ≡ rule = cc same in
    ap (λ (n : ℕ). opening.Denied n) at
denied asked rule (opening.Reclassed class) left is = let no : Nothing rule ≡ Fewer class = sym left ∙ is in absurd (cc no)
denied asked rule (opening.Busy missed) left is = let no : Nothing rule ≡ Same = sym left ∙ is.0 in absurd (cc no)
denied asked rule (opening.Opened missed k) left is = let no : Nothing rule ≡ Same = sym left ∙ is.0 in absurd (cc no)

-- no cursor was opened
abbrev IsUnopened : Answered → Type 0
IsUnopened (opening.Opened missed k) = ⊥
IsUnopened (opening.Denied rule) = Unit {0}
IsUnopened (opening.Reclassed class) = Unit {0}
IsUnopened (opening.Busy missed) = Unit {0}

fed-none : (answered : Answered) (turns : List Turn) (last : fed.Last) → IsUnopened answered → fed.MayTurn answered turns last → last ≡ fed.GoesOn
fed-none (opening.Reclassed class) turns last is may = may.1
fed-none (opening.Denied rule) turns last is may = may.1
fed-none (opening.Busy missed) turns last is may = may.1
fed-none (opening.Opened missed k) turns last is may = absurd is

told-none : (answered : Answered) (turns : List told_turn.Turn) (last : told.Last) → IsUnopened answered → told.MayTurn answered turns last → last ≡ told.GoesOn
told-none (opening.Reclassed class) turns last is may = may.1
told-none (opening.Denied rule) turns last is may = may.1
told-none (opening.Busy missed) turns last is may = may.1
told-none (opening.Opened missed k) turns last is may = absurd is

module _ (asked : Asked) (old new : PassView) (start before after : SessionRecord) (none : NothingHinders new start after) (counts : KeepsFaults start before) where
  link-none : Rose before.link.faults after.link.faults → ⊥
  link-none rose = none.link (Rose-later start.link.faults before.link.faults after.link.faults counts.link rose)

  log-none : Rose before.log.faults after.log.faults → ⊥
  log-none rose = none.log (Rose-later start.log.faults before.log.faults after.log.faults counts.log rose)

  worn-none : length new.seen ≡ MOST_TURNS → ⊥
  worn-none worn = omega (arith, none.few, worn)

  stops-later : Rose before.gate.stops after.gate.stops → Rose start.gate.stops after.gate.stops
  stops-later rose = Rose-later start.gate.stops before.gate.stops after.gate.stops counts.stops rose

  ends-later : Rose before.link.ends after.link.ends → Rose start.link.ends after.link.ends
  ends-later rose = Rose-later start.link.ends before.link.ends after.link.ends counts.ends rose

  -- a feeding for which no cursor was opened makes no turn
  module _ (why : SendEnd) (ahead : List ℕ) (feeds : IsFedSo why asked ahead old new before after) (answered : Answered)
      (is : feeds.feeding.answered ≡ answered) (unopened : IsUnopened answered) where
    fed-goes_on : feeds.feeding.last ≡ fed.GoesOn
    fed-goes_on =
        fed-none feeds.feeding.answered feeds.feeding.turns feeds.feeding.last (subst (λ (a : Answered). IsUnopened a) (sym is) unopened) feeds.is_feeding.opened

  -- of a feeding all of whose class is left
  same-fed : reduce asked.rules asked.host asked.class ≡ Same → (why : SendEnd) (ahead : List ℕ) → IsFedSo why asked ahead old new before after
      → (why ≡ send.Reclassed → ⊥) → FeedsOn why start after ⊎ LacksMemory (end.Feed why)
  same-fed left send.Stopped ahead feeds not = inl (stops-later feeds.cause)
  same-fed left send.Reclassed ahead feeds not = absurd (not refl)
  same-fed left (send.Denied rule) ahead feeds not =
      let is = subst (λ (a : Answered). IsAnswerTo asked a) feeds.cause feeds.is_feeding.answered in
      let no : Same ≡ Nothing rule = sym left ∙ is in
      absurd (cc no)
  same-fed left (send.PeerEnd at) ahead feeds not = inl (ends-later feeds.cause)
  same-fed left send.LinkFault ahead feeds not = absurd (link-none feeds.cause)
  same-fed left send.LogFault ahead feeds not = absurd (log-none feeds.cause)
  same-fed left (send.BadReply at) ahead feeds not = inl tt
  same-fed left send.AllBusy ahead feeds not = inl tt
  same-fed left send.Worn ahead feeds not = absurd (worn-none feeds.cause)
  same-fed left send.OutOfMemory ahead feeds not = inr refl

  -- of one of whose class nothing is left
  none-fed : (rule : ℕ) → reduce asked.rules asked.host asked.class ≡ Nothing rule → (why : SendEnd) (ahead : List ℕ) → IsFedSo why asked ahead old new before after
      → (why ≡ send.Reclassed → ⊥) → (why ≡ send.Denied rule) ⊎ LacksMemory (end.Feed why)
  none-fed rule left send.Stopped ahead feeds not =
      let is = denied asked rule feeds.feeding.answered left feeds.is_feeding.answered in
      let no : fed.GoesOn ≡ fed.Stopped feeds.last.0 = sym (fed-goes_on send.Stopped ahead feeds (opening.Denied rule) is tt) ∙ feeds.last.1 in
      absurd (cc no)
  none-fed rule left send.Reclassed ahead feeds not = absurd (not refl)
  none-fed rule left (send.Denied place) ahead feeds not =
      let is = denied asked rule feeds.feeding.answered left feeds.is_feeding.answered in
      let same : opening.Denied rule ≡ opening.Denied place = sym is ∙ feeds.cause in
      let at : place ≡ rule = cc same in
      inl (ap (λ (n : ℕ). send.Denied n) at)
  none-fed rule left (send.PeerEnd at) ahead feeds not =
      let is = denied asked rule feeds.feeding.answered left feeds.is_feeding.answered in
      let no : fed.GoesOn ≡ fed.Unanswered feeds.last.0 feeds.last.1 = sym (fed-goes_on (send.PeerEnd at) ahead feeds (opening.Denied rule) is tt) ∙ feeds.last.2 in
      absurd (cc no)
  none-fed rule left send.LinkFault ahead feeds not = absurd (link-none feeds.cause)
  none-fed rule left send.LogFault ahead feeds not = absurd (log-none feeds.cause)
  none-fed rule left (send.BadReply at) ahead feeds not =
      let is = denied asked rule feeds.feeding.answered left feeds.is_feeding.answered in
      let no : fed.GoesOn ≡ fed.Unanswered feeds.last.0 feeds.last.1 = sym (fed-goes_on (send.BadReply at) ahead feeds (opening.Denied rule) is tt) ∙ feeds.last.2 in
      absurd (cc no)
  none-fed rule left send.AllBusy ahead feeds not =
      let is = denied asked rule feeds.feeding.answered left feeds.is_feeding.answered in
      let no : opening.Denied rule ≡ opening.Busy feeds.cause.0 = sym is ∙ feeds.cause.1 in
      absurd (cc no)
  none-fed rule left send.Worn ahead feeds not = absurd (worn-none feeds.cause)
  none-fed rule left send.OutOfMemory ahead feeds not = inr refl

  -- one that told which part is left broke off for want of memory
  fewer-fed : (fewer : ClassSpec) → reduce asked.rules asked.host asked.class ≡ Fewer fewer → (why : SendEnd) (ahead : List ℕ)
      → IsFedSo why asked ahead old new before after → (why ≡ send.Reclassed → ⊥) → LacksMemory (end.Feed why)
  fewer-fed fewer left send.Stopped ahead feeds not =
      let is = reclassed asked fewer feeds.feeding.answered left feeds.is_feeding.answered in
      let no : fed.GoesOn ≡ fed.Stopped feeds.last.0 = sym (fed-goes_on send.Stopped ahead feeds (opening.Reclassed is.class) is.is tt) ∙ feeds.last.1 in
      absurd (cc no)
  fewer-fed fewer left send.Reclassed ahead feeds not = absurd (not refl)
  fewer-fed fewer left (send.Denied rule) ahead feeds not =
      let is = reclassed asked fewer feeds.feeding.answered left feeds.is_feeding.answered in
      let no : opening.Reclassed is.class ≡ opening.Denied rule = sym is.is ∙ feeds.cause in
      absurd (cc no)
  fewer-fed fewer left (send.PeerEnd at) ahead feeds not =
      let is = reclassed asked fewer feeds.feeding.answered left feeds.is_feeding.answered in
      let no : fed.GoesOn ≡ fed.Unanswered feeds.last.0 feeds.last.1 =
      sym (fed-goes_on (send.PeerEnd at) ahead feeds (opening.Reclassed is.class) is.is tt) ∙ feeds.last.2 in
      absurd (cc no)
  fewer-fed fewer left send.LinkFault ahead feeds not = absurd (link-none feeds.cause)
  fewer-fed fewer left send.LogFault ahead feeds not = absurd (log-none feeds.cause)
  fewer-fed fewer left (send.BadReply at) ahead feeds not =
      let is = reclassed asked fewer feeds.feeding.answered left feeds.is_feeding.answered in
      let no : fed.GoesOn ≡ fed.Unanswered feeds.last.0 feeds.last.1 =
      sym (fed-goes_on (send.BadReply at) ahead feeds (opening.Reclassed is.class) is.is tt) ∙ feeds.last.2 in
      absurd (cc no)
  fewer-fed fewer left send.AllBusy ahead feeds not =
      let is = reclassed asked fewer feeds.feeding.answered left feeds.is_feeding.answered in
      let no : opening.Reclassed is.class ≡ opening.Busy feeds.cause.0 = sym is.is ∙ feeds.cause.1 in
      absurd (cc no)
  fewer-fed fewer left send.Worn ahead feeds not = absurd (worn-none feeds.cause)
  fewer-fed fewer left send.OutOfMemory ahead feeds not = refl

  -- by what is left
  fed-to : (left : Reduced) → reduce asked.rules asked.host asked.class ≡ left → (why : SendEnd) (ahead : List ℕ) → IsFedSo why asked ahead old new before after
      → (why ≡ send.Reclassed → ⊥) → FeedsTo left why start after ⊎ LacksMemory (end.Feed why)
  fed-to Same is why ahead feeds not = same-fed is why ahead feeds not
  fed-to (Nothing rule) is why ahead feeds not = none-fed rule is why ahead feeds not
  fed-to (Fewer fewer) is why ahead feeds not = inr (fewer-fed fewer is why ahead feeds not)

  -- ---- and of a session of notices

  module _ (why : NoteEnd) (tells : IsNotifiedSo why asked old new before after) (answered : Answered)
      (is : tells.notifying.answered ≡ answered) (unopened : IsUnopened answered) where
    told-goes_on : tells.notifying.last ≡ told.GoesOn
    told-goes_on =
        told-none tells.notifying.answered tells.notifying.turns tells.notifying.last (subst (λ (a : Answered). IsUnopened a) (sym is) unopened)
        tells.is_notifying.opened

  same-told : reduce asked.rules asked.host asked.class ≡ Same → (why : NoteEnd) → IsNotifiedSo why asked old new before after
      → (why ≡ notified.Reclassed → ⊥) → NotifiesOn why start after ⊎ LacksMemory (end.Notify why)
  same-told left notified.Stopped tells not = inl (stops-later tells.cause)
  same-told left notified.Reclassed tells not = absurd (not refl)
  same-told left (notified.Denied rule) tells not =
      let is = subst (λ (a : Answered). IsAnswerTo asked a) tells.cause tells.is_notifying.answered in
      let no : Same ≡ Nothing rule = sym left ∙ is in
      absurd (cc no)
  same-told left notified.LinkFault tells not = absurd (link-none tells.cause)
  same-told left notified.LogFault tells not = absurd (log-none tells.cause)
  same-told left notified.AllBusy tells not = inl tt
  same-told left notified.Worn tells not = absurd (worn-none tells.cause)
  same-told left notified.OutOfMemory tells not = inr refl

  none-told : (rule : ℕ) → reduce asked.rules asked.host asked.class ≡ Nothing rule → (why : NoteEnd) → IsNotifiedSo why asked old new before after
      → (why ≡ notified.Reclassed → ⊥) → (why ≡ notified.Denied rule) ⊎ LacksMemory (end.Notify why)
  none-told rule left notified.Stopped tells not =
      let is = denied asked rule tells.notifying.answered left tells.is_notifying.answered in
      let no : told.GoesOn ≡ told.Stopped tells.last.0 = sym (told-goes_on notified.Stopped tells (opening.Denied rule) is tt) ∙ tells.last.1 in
      absurd (cc no)
  none-told rule left notified.Reclassed tells not = absurd (not refl)
  none-told rule left (notified.Denied place) tells not =
      let is = denied asked rule tells.notifying.answered left tells.is_notifying.answered in
      let same : opening.Denied rule ≡ opening.Denied place = sym is ∙ tells.cause in
      let at : place ≡ rule = cc same in
      inl (ap (λ (n : ℕ). notified.Denied n) at)
  none-told rule left notified.LinkFault tells not = absurd (link-none tells.cause)
  none-told rule left notified.LogFault tells not = absurd (log-none tells.cause)
  none-told rule left notified.AllBusy tells not =
      let is = denied asked rule tells.notifying.answered left tells.is_notifying.answered in
      let no : opening.Denied rule ≡ opening.Busy tells.cause.0 = sym is ∙ tells.cause.1 in
      absurd (cc no)
  none-told rule left notified.Worn tells not = absurd (worn-none tells.cause)
  none-told rule left notified.OutOfMemory tells not = inr refl

  fewer-told : (fewer : ClassSpec) → reduce asked.rules asked.host asked.class ≡ Fewer fewer → (why : NoteEnd) → IsNotifiedSo why asked old new before after
      → (why ≡ notified.Reclassed → ⊥) → LacksMemory (end.Notify why)
  fewer-told fewer left notified.Stopped tells not =
      let is = reclassed asked fewer tells.notifying.answered left tells.is_notifying.answered in
      let no : told.GoesOn ≡ told.Stopped tells.last.0 = sym (told-goes_on notified.Stopped tells (opening.Reclassed is.class) is.is tt) ∙ tells.last.1 in
      absurd (cc no)
  fewer-told fewer left notified.Reclassed tells not = absurd (not refl)
  fewer-told fewer left (notified.Denied rule) tells not =
      let is = reclassed asked fewer tells.notifying.answered left tells.is_notifying.answered in
      let no : opening.Reclassed is.class ≡ opening.Denied rule = sym is.is ∙ tells.cause in
      absurd (cc no)
  fewer-told fewer left notified.LinkFault tells not = absurd (link-none tells.cause)
  fewer-told fewer left notified.LogFault tells not = absurd (log-none tells.cause)
  fewer-told fewer left notified.AllBusy tells not =
      let is = reclassed asked fewer tells.notifying.answered left tells.is_notifying.answered in
      let no : opening.Reclassed is.class ≡ opening.Busy tells.cause.0 = sym is.is ∙ tells.cause.1 in
      absurd (cc no)
  fewer-told fewer left notified.Worn tells not = absurd (worn-none tells.cause)
  fewer-told fewer left notified.OutOfMemory tells not = refl

  told-to : (left : Reduced) → reduce asked.rules asked.host asked.class ≡ left → (why : NoteEnd) → IsNotifiedSo why asked old new before after
      → (why ≡ notified.Reclassed → ⊥) → NotifiesTo left why start after ⊎ LacksMemory (end.Notify why)
  told-to Same is why tells not = same-told is why tells not
  told-to (Nothing rule) is why tells not = none-told rule is why tells not
  told-to (Fewer fewer) is why tells not = inr (fewer-told fewer is why tells not)

-- ---- a receiving

module _ (new : PassView) (start before after : SessionRecord) (none : NothingHinders new start after) (counts : KeepsFaults start before) where
  received-on : (why : RecvEnd) → Cause why new (ungated before) (ungated after) → ReceivesOn why start after ⊎ LacksMemory (end.Receive why)
  received-on received.Ended cause = inl (Rose-later start.link.ends before.link.ends after.link.ends counts.ends cause.0, cause.1)
  received-on (received.Truncated at) cause = inl (Rose-later start.link.ends before.link.ends after.link.ends counts.ends cause.0, cause.1)
  received-on (received.BadFrame at) cause = inl tt
  received-on (received.Refused answer) cause = inl tt
  received-on received.StreamLimit cause = inl tt
  received-on received.LinkFault cause = absurd (none.link (Rose-later start.link.faults before.link.faults after.link.faults counts.link cause))
  received-on received.LogFault cause = absurd (none.log (Rose-later start.log.faults before.log.faults after.log.faults counts.log cause))
  received-on received.Worn cause = absurd (omega (arith, none.few, cause))
  received-on received.OutOfMemory cause = inr refl

-- ---- the last record that was answered

-- what decides, where the records go on with this one
abbrev decided : Client → Response → List Placed → Option Response
decided client r others = if is_outlived_by client r then last_response client others else Some r

decided-none : (client : Client) (r : Response) (others : List Placed) → is_outlived_by client r ≡ false → decided client r others ≡ Some r
decided-none client r others is = ap (λ (b : Bool). (if b then last_response client others else Some r)) is

-- a record that asks for a feeding or a notifying decides, but where a part of the class is left
module _ (client : Client) (others : List Placed) (start after : SessionRecord) where
  fed-by : (xid : ℕ) (class : ClassSpec) (max_hereis : ℕ) (left : Reduced) → reduce (rules_for false client.rules) client.host class ≡ left
      → (why : SendEnd) → FeedsTo left why start after ⊎ LacksMemory (end.Feed why)
      → BecomesBy client (decided client (Feeds xid class max_hereis) others) (end.Feed why) start after ⊎ LacksMemory (end.Feed why)
  fed-by xid class max_hereis left is why (inr lacks) = inr lacks
  fed-by xid class max_hereis Same is why (inl fed) =
      let to : FeedsTo (reduce (rules_for false client.rules) client.host class) why start after = subst (λ (r : Reduced). FeedsTo r why start after) (sym is) fed in
      inl (subst (λ (d : Option Response). BecomesBy client d (end.Feed why) start after)
      (sym (decided-none client (Feeds xid class max_hereis) others (ap is_part is))) (why, refl, to))
  fed-by xid class max_hereis (Nothing rule) is why (inl fed) =
      let to : FeedsTo (reduce (rules_for false client.rules) client.host class) why start after = subst (λ (r : Reduced). FeedsTo r why start after) (sym is) fed in
      inl (subst (λ (d : Option Response). BecomesBy client d (end.Feed why) start after)
      (sym (decided-none client (Feeds xid class max_hereis) others (ap is_part is))) (why, refl, to))
  fed-by xid class max_hereis (Fewer fewer) is why (inl fed) = absurd fed

  told-by : (xid : ℕ) (class : ClassSpec) (left : Reduced) → reduce (rules_for false client.rules) client.host class ≡ left
      → (why : NoteEnd) → NotifiesTo left why start after ⊎ LacksMemory (end.Notify why)
      → BecomesBy client (decided client (Notifies xid class) others) (end.Notify why) start after ⊎ LacksMemory (end.Notify why)
  told-by xid class left is why (inr lacks) = inr lacks
  told-by xid class Same is why (inl tells) =
      let to : NotifiesTo (reduce (rules_for false client.rules) client.host class) why start after = subst (λ (r : Reduced). NotifiesTo r why start after) (sym is) tells in
      inl (subst (λ (d : Option Response). BecomesBy client d (end.Notify why) start after)
      (sym (decided-none client (Notifies xid class) others (ap is_part is))) (why, refl, to))
  told-by xid class (Nothing rule) is why (inl tells) =
      let to : NotifiesTo (reduce (rules_for false client.rules) client.host class) why start after = subst (λ (r : Reduced). NotifiesTo r why start after) (sym is) tells in
      inl (subst (λ (d : Option Response). BecomesBy client d (end.Notify why) start after)
      (sym (decided-none client (Notifies xid class) others (ap is_part is))) (why, refl, to))
  told-by xid class (Fewer fewer) is why (inl tells) = absurd tells

module _ (client : Client) (stream ahead : List ℕ) (start : SessionRecord) (at : ℕ) (others : List Placed) (old new : ServingMoment) (p : Position)
    (none : NothingHinders new.pass start new.outside) (counts : KeepsFaults start old.outside) where
  -- what the connection ends in by that record
  by-record : (how : ServeEnd) (r : Response) → Becomes how (goes_on r) at client ahead old new → IsLawfulBy (decided client r others) p
      → BecomesBy client (decided client r others) how start new.outside ⊎ LacksMemory how
  by-record (end.Feed why) (Feeds xid class max_hereis) becomes lawful =
      let asked = asked_of client.host client.rules (record { xid = xid; class = class; max_hereis = max_hereis }) in
      let left = reduce (rules_for false client.rules) client.host class in
      fed-by client others start new.outside xid class max_hereis left refl why
      (fed-to asked old.pass new.pass start old.outside new.outside none counts left refl why ahead becomes.0 becomes.1)
  by-record (end.Notify why) (Notifies xid class) becomes lawful =
      let asked = told.asked_of client.host client.rules (record { xid = xid; class = class }) in
      let left = reduce (rules_for false client.rules) client.host class in
      told-by client others start new.outside xid class left refl why
      (told-to asked old.pass new.pass start old.outside new.outside none counts left refl why becomes.0 becomes.1)
  by-record (end.Receive why) (Receives class messages) becomes lawful =
      let receives = becomes.0.1 in
      let cause = subst (λ (pass : PassView). Cause why pass (ungated old.outside) (ungated new.outside)) receives.pass_is receives.receives.cause in
      elim (received-on new.pass start old.outside new.outside none counts why cause) [
        | inl on ↦ inl (why, refl, on)
        | inr lacks ↦ inr lacks
      ]
  by-record (end.Denied rule) (Denies first messages) becomes lawful = inl (ap (λ (n : ℕ). end.Denied n) becomes.0)
  by-record (end.BadFrame place) (Refuses messages) becomes lawful = absurd lawful
  by-record (end.Feed why) (Says messages) becomes lawful = absurd becomes
  by-record (end.Feed why) (Puts xid info body) becomes lawful = absurd becomes
  by-record (end.Feed why) (Figures xid) becomes lawful = absurd becomes
  by-record (end.Feed why) (Receives class messages) becomes lawful = absurd becomes
  by-record (end.Feed why) (Notifies xid class) becomes lawful = absurd becomes
  by-record (end.Feed why) (Refuses messages) becomes lawful = absurd becomes
  by-record (end.Feed why) (Denies first messages) becomes lawful = absurd becomes
  by-record (end.Notify why) (Says messages) becomes lawful = absurd becomes
  by-record (end.Notify why) (Puts xid info body) becomes lawful = absurd becomes
  by-record (end.Notify why) (Figures xid) becomes lawful = absurd becomes
  by-record (end.Notify why) (Feeds xid class max_hereis) becomes lawful = absurd becomes
  by-record (end.Notify why) (Receives class messages) becomes lawful = absurd becomes
  by-record (end.Notify why) (Refuses messages) becomes lawful = absurd becomes
  by-record (end.Notify why) (Denies first messages) becomes lawful = absurd becomes
  by-record (end.Receive why) (Says messages) becomes lawful = absurd becomes
  by-record (end.Receive why) (Puts xid info body) becomes lawful = absurd becomes
  by-record (end.Receive why) (Figures xid) becomes lawful = absurd becomes
  by-record (end.Receive why) (Feeds xid class max_hereis) becomes lawful = absurd becomes
  by-record (end.Receive why) (Notifies xid class) becomes lawful = absurd becomes
  by-record (end.Receive why) (Refuses messages) becomes lawful = absurd becomes
  by-record (end.Receive why) (Denies first messages) becomes lawful = absurd becomes
  by-record (end.Denied rule) (Says messages) becomes lawful = absurd becomes
  by-record (end.Denied rule) (Puts xid info body) becomes lawful = absurd becomes
  by-record (end.Denied rule) (Figures xid) becomes lawful = absurd becomes
  by-record (end.Denied rule) (Feeds xid class max_hereis) becomes lawful = absurd becomes
  by-record (end.Denied rule) (Receives class messages) becomes lawful = absurd becomes
  by-record (end.Denied rule) (Notifies xid class) becomes lawful = absurd becomes
  by-record (end.Denied rule) (Refuses messages) becomes lawful = absurd becomes
  by-record (end.BadFrame place) (Says messages) becomes lawful = absurd becomes
  by-record (end.BadFrame place) (Puts xid info body) becomes lawful = absurd becomes
  by-record (end.BadFrame place) (Figures xid) becomes lawful = absurd becomes
  by-record (end.BadFrame place) (Feeds xid class max_hereis) becomes lawful = absurd becomes
  by-record (end.BadFrame place) (Receives class messages) becomes lawful = absurd becomes
  by-record (end.BadFrame place) (Notifies xid class) becomes lawful = absurd becomes
  by-record (end.BadFrame place) (Denies first messages) becomes lawful = absurd becomes
  by-record end.Ended r becomes lawful = absurd becomes
  by-record (end.Truncated place) r becomes lawful = absurd becomes
  by-record end.LinkFault r becomes lawful = absurd becomes
  by-record end.StreamLimit r becomes lawful = absurd becomes
  by-record end.Worn r becomes lawful = absurd becomes
  by-record end.OutOfMemory r becomes lawful = absurd becomes

-- ---- a whole connection

module _ (client : Client) (old new : ServingMoment) (stream : List ℕ) (had : old.outside.link.left ≡ Some stream) (lawful : IsLawful client stream)
    (none : NothingHinders new.pass old.outside new.outside) where
  -- the first bytes were taken, and these stand behind them
  stands : (how : ServeEnd) (serves : ServesAll how client old new) → HasMore serves.taken serves.ahead stream serves.between.outside.link.left
  stands how serves = has-more serves.taken serves.ahead stream old.outside.link.left serves.between.outside.link.left serves.reaches.exchanged.left had

  -- what decides is behind the records that the session outlived
  decides : (how : ServeEnd) (serves : ServesAll how client old new) (last : List Step) → placed_in serves.answers ≡ records_in beginning serves.taken
      → serves.answers.last ≡ last
      → last_response client (records_in beginning stream)
      ≡ last_response client (map placed_of last ++ records_in (in_hand beginning serves.taken) (serves.ahead ++ (stands how serves).more))
  unfolding stands
  decides how serves last records is =
      let more = stands how serves in
      let behind = records_in (in_hand beginning serves.taken) (serves.ahead ++ more.more) in
      ap (λ (bytes : List ℕ). last_response client (records_in beginning bytes)) more.all
      ∙ ap (last_response client) (records-append beginning serves.taken (serves.ahead ++ more.more) ∙ ap (λ (x : List Placed). x ++ behind) (sym records))
      ∙ outlived-first client serves.answers.outlived serves.answers.last behind serves.reaches.outlived
      ∙ ap (λ (l : List Step). last_response client (map placed_of l ++ behind)) is

  in_hand_is : (how : ServeEnd) (serves : ServesAll how client old new) → in_hand beginning stream ≡ in_hand (in_hand beginning serves.taken) (serves.ahead ++ (stands how serves).more)
  unfolding stands
  in_hand_is how serves =
      let more = stands how serves in
      ap (in_hand beginning) more.all ∙ in_hand-append beginning serves.taken (serves.ahead ++ more.more)

  ends-by-record : (how : ServeEnd) (serves : ServesAll how client old new) → placed_in serves.answers ≡ records_in beginning serves.taken
      → EndsByRecord how client serves.answers serves.taken serves.ahead serves.between new
      → BecomesBy client (last_response client (records_in beginning stream)) how old.outside new.outside ⊎ LacksMemory how
  ends-by-record how serves records ends =
      let others = records_in (in_hand beginning serves.taken) (serves.ahead ++ (stands how serves).more) in
      let r = response_of client ends.last in
      let is = decides how serves (ends.last ∷ []) records ends.is_last in
      let fine : IsLawfulBy (decided client r others) (in_hand beginning stream) = subst (λ (d : Option Response). IsLawfulBy d (in_hand beginning stream)) is lawful.by in
      subst (λ (d : Option Response). BecomesBy client d how old.outside new.outside ⊎ LacksMemory how) (sym is)
      (by-record client stream serves.ahead old.outside ends.last.placed.at others serves.between new (in_hand beginning stream) none serves.counts how r ends.becomes fine)

  -- the stream came to its end, and all of it was taken
  taken-all : (how : ServeEnd) (serves : ServesAll how client old new) → serves.ahead ≡ [] → new ≡ serves.between → IfSome new.outside.link.left (λ rest. rest ≡ [])
      → serves.ahead ++ (stands how serves).more ≡ []
  unfolding stands
  taken-all how serves none_ahead same at_end =
      let more = stands how serves in
      let left : new.outside.link.left ≡ Some more.more = ap (λ (m : ServingMoment). m.outside.link.left) same ∙ more.left_is in
      let nothing : more.more ≡ [] = subst (λ (o : Option (List ℕ)). IfSome o (λ (rest : List ℕ). rest ≡ [])) left at_end in
      ap (λ (x : List ℕ). x ++ more.more) none_ahead ∙ nothing

  completes-by : (how : ServeEnd) → ServesAll how client old new → BecomesBy client (last_response client (records_in beginning stream)) how old.outside new.outside ⊎ LacksMemory how
  unfolding records_in in_hand
  completes-by (end.Feed why) serves = ends-by-record (end.Feed why) serves serves.reaches.records serves.ends
  completes-by (end.Receive why) serves = ends-by-record (end.Receive why) serves serves.reaches.records serves.ends
  completes-by (end.Notify why) serves = ends-by-record (end.Notify why) serves serves.reaches.records serves.ends
  completes-by (end.Denied rule) serves = ends-by-record (end.Denied rule) serves serves.reaches.records serves.ends
  completes-by (end.BadFrame at) serves =
      elim serves.ends [
        | inl ends ↦ ends-by-record (end.BadFrame at) serves serves.reaches.records ends
        | inr long ↦
            let rest = serves.ahead ++ (stands (end.BadFrame at) serves).more in
            let still = stays-faulty (in_hand beginning serves.taken) rest long.faulty in
            let is : last_response client (records_in beginning stream) ≡ None =
            decides (end.BadFrame at) serves [] serves.reaches.records long.outlived ∙ ap (last_response client) still.none in
            let fine : is_pending (in_hand beginning stream).reading ≡ false = subst (λ (d : Option Response). IsLawfulBy d (in_hand beginning stream)) is lawful.by in
            let no : true ≡ false = sym (ap (λ (q : Position). is_pending q.reading) (in_hand_is (end.BadFrame at) serves) ∙ still.pending) ∙ fine in
            absurd (cc no)
      ]
  completes-by end.Ended serves =
      let none_behind = taken-all end.Ended serves serves.ends.0.none_ahead serves.ends.0.same serves.cause.1 in
      let is : last_response client (records_in beginning stream) ≡ None =
      decides end.Ended serves [] serves.reaches.records serves.ends.0.outlived
      ∙ ap (λ (bytes : List ℕ). last_response client (records_in (in_hand beginning serves.taken) bytes)) none_behind in
      inl (subst (λ (d : Option Response). BecomesBy client d end.Ended old.outside new.outside) (sym is) (refl, serves.cause))
  completes-by (end.Truncated at) serves =
      let none_behind = taken-all (end.Truncated at) serves serves.ends.0.none_ahead serves.ends.0.same serves.cause.1 in
      let is : last_response client (records_in beginning stream) ≡ None =
      decides (end.Truncated at) serves [] serves.reaches.records serves.ends.0.outlived
      ∙ ap (λ (bytes : List ℕ). last_response client (records_in (in_hand beginning serves.taken) bytes)) none_behind in
      let fine : is_pending (in_hand beginning stream).reading ≡ false = subst (λ (d : Option Response). IsLawfulBy d (in_hand beginning stream)) is lawful.by in
      let hand : in_hand beginning stream ≡ in_hand beginning serves.taken =
      in_hand_is (end.Truncated at) serves ∙ ap (in_hand (in_hand beginning serves.taken)) none_behind in
      let no : true ≡ false = sym serves.ends.1 ∙ sym (ap (λ (q : Position). is_pending q.reading) hand) ∙ fine in
      absurd (cc no)
  completes-by end.LinkFault serves = absurd (none.link serves.cause)
  completes-by end.StreamLimit serves =
      let more = stands end.StreamLimit serves in
      let behind = serves.ahead ++ more.more in
      absurd (let len : length stream ≡ length serves.taken + length behind = ap length more.all ∙ length-append serves.taken behind in
      omega (arith, lawful.few, len, serves.ends.1))
  completes-by end.Worn serves = absurd (omega (arith, none.few, serves.ends.runs_out.worn))
  completes-by end.OutOfMemory serves = inr tt

pub completes : (how : ServeEnd) (client : Client) (old new : ServingMoment) (stream : List ℕ) → ServesAll how client old new → old.outside.link.left ≡ Some stream
    → IsLawful client stream → NothingHinders new.pass old.outside new.outside → BecomesBy client (last_response client (records_in beginning stream)) how old.outside new.outside ⊎ LacksMemory how
completes how client old new stream serves had lawful none = completes-by client old new stream had lawful none how serves
