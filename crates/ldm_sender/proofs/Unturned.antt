-- A session that makes no turn: the request is declined, or it ends before it is answered.
use Rattle.std.proofs.Common.{◌≡◌, ◌∙◌, ℕ, List, [], ◌++◌, false, refl, sym, ap, subst, append-nil}
use Rattle.std.specs.Prelude.{Ok, Err}
use Rattle.ldm_types.specs.declared.class.ClassSpec.{ClassSpec}
use Rattle.ldm_class.specs.Access.{reduce}
use Rattle.ldm_class.specs.declared.answers.Reduced.{Reduced}
use Rattle.ldm_class.specs.declared.answers.Reduced.TheVariants as reduced
use Rattle.ldm_model.specs.declared.event.Entry.{Entry}
use Rattle.ldm_outside.specs.Clock.{ClockRecord}
use Rattle.ldm_outside.specs.Gate.{GateRecord}
use Rattle.ldm_outside.specs.Io.{SinkRecord}
use Rattle.ldm_outside.specs.Link.{LinkRecord, IsNotClosed}
use Rattle.ldm_outside.specs.Session.{SessionRecord}
use Rattle.ldm_shared.specs.Passes.{PassView, Calls}
use Rattle.ldm_shared.proofs.Made.{calls_none, calls_some}
use Rattle.ldm_session.specs.Gaps.{gap_log}
use Rattle.ldm_session.proofs.CallerLemmas.{AnsweredAll-nothing}
use Rattle.ldm_sender.specs.declared.end.SendEnd.{SendEnd}
use Rattle.ldm_sender.specs.declared.end.SendEnd.TheVariants as end
use Rattle.ldm_sender.specs.Asked.{Asked}
use Rattle.ldm_sender.specs.Opening.{Answered, Denied, Reclassed, Busy, IsAnswerTo, class_answer_of, closing_entries}
use Rattle.ldm_sender.specs.Opening.{opening_entries}
use Rattle.ldm_sender.specs.Answering.{FindsBusy, FindsWornFirst, Declines}
use Rattle.ldm_sender.specs.Calls.{MayBeUnmade}
use Rattle.ldm_sender.specs.Does.{moment_of, Breaks, Each}
use Rattle.ldm_sender.specs.Acts.{Situation, situation_of, BreaksAct, EndsAct, IsAllSent, is_whole}
use Rattle.ldm_sender.specs.Ending.{IsEndOf, IsLeft, closing_of}
use Rattle.ldm_sender.proofs.Acting.{breaks_act_of, breaks_same}
use Rattle.ldm_sender.proofs.Doing.{exchanged_nothing, keeps_link, nothing_done}
use Rattle.ldm_sender.proofs.Fronts.{each_then}
use Rattle.ldm_sender.proofs.Opened.{AnswerBroke, answer_broke, beginning, beginning_done, opening_silent}
use Rattle.ldm_sender.proofs.Opened.{opening_unmade}
use Rattle.ldm_sender.proofs.Settling.{Settles, begins, settles}
use Rattle.ldm_sender.proofs.Steps.{silent_part, then_act-none}

-- the ends at which no reply was owed, and no turn is told of
abbrev pub IsQuit : SendEnd → Type 0
IsQuit (end.Denied rule) = Unit {0}
IsQuit end.Reclassed = Unit {0}
IsQuit end.AllBusy = Unit {0}
IsQuit end.LinkFault = Unit {0}
IsQuit end.Worn = Unit {0}
IsQuit end.OutOfMemory = Unit {0}
IsQuit _ = ⊥

-- What such a session comes to.
pub record Unturned (why : SendEnd) (asked : Asked) (old new : PassView) (before after : SessionRecord) : Type 0 where
  pub answered : Answered
  pub at : ℕ
  pub is : IsAnswerTo asked answered
  pub quits : IsQuit why
  pub settles : Settles why asked.host (beginning old.actor asked answered at)
      (closing_of old.actor why answered) [] old new before after
  pub cause : IsEndOf why answered new before after

-- what the outside tells
abbrev pub tells_of : LinkRecord → SinkRecord → ClockRecord → GateRecord → SessionRecord
tells_of link log clock gate = record { link = link; log = log; clock = clock; gate = gate }

-- the same, by what the outside tells at its begin and its end
abbrev pub IsUnturned : SendEnd → Asked → (old new : PassView) → (link link' : LinkRecord)
    → (clock clock' : ClockRecord) → SinkRecord → GateRecord → Type 0
IsUnturned why asked old new link link' clock clock' log gate =
    Unturned why asked old new (tells_of link log clock gate) (tells_of link' log clock' gate)

ended : (why : SendEnd) (asked : Asked) (answered : Answered) (at : ℕ) (first pass : PassView) (link link' : LinkRecord)
    (clock clock' : ClockRecord) (out : List ℕ) (log : SinkRecord) (gate : GateRecord)
    → IsAnswerTo asked answered → IsQuit why → closing_of first.actor why answered ≡ []
    → EndsAct (is_whole why) why asked.host [] (begins first link clock log gate)
    (situation_of (moment_of pass link' clock' out) log gate) (beginning first.actor asked answered at)
    → IsAllSent (is_whole why) out → IsLeft why link'
    → IsEndOf why answered pass (tells_of link log clock gate) (tells_of link' log clock' gate)
    → IsUnturned why asked first pass link link' clock clock' log gate
ended why asked answered at first pass link link' clock clock' out log gate is quits bare ends all_sent left cause =
    let P : List Entry → Type 0 = λ entries. Calls pass pass entries in
    record {
      answered = answered;
      at = at;
      is = is;
      quits = quits;
      settles =
          settles why asked.host [] (beginning first.actor asked answered at) (closing_of first.actor why answered)
          (begins first link clock log gate)
          (situation_of (moment_of pass link' clock' out) log gate) pass link'.closed refl ends all_sent
          (subst P (sym bare) (calls_none pass)) left;
      cause = cause;
    }

-- ---- the request is declined

-- nothing of the class is left to the host
pub denied : (asked : Asked) (rule : ℕ) (pass : PassView) (link link' : LinkRecord) (clock clock' : ClockRecord)
    (log : SinkRecord) (gate : GateRecord) → IsNotClosed link
    → reduce asked.rules asked.host asked.class ≡ reduced.Nothing rule
    → Declines (Ok tt) asked.xid (class_answer_of (Denied rule)) pass link clock link' clock'
    → IsUnturned (end.Denied rule) asked pass pass link link' clock clock' log gate
denied asked rule pass link link' clock clock' log gate unclosed is declines =
    ended (end.Denied rule) asked (Denied rule) declines.0 pass pass link link' clock clock' [] log gate is tt refl
    (beginning_done asked (Denied rule) declines.0 pass pass link link' clock clock' [] log gate unclosed
    (calls_none pass) declines.1) refl declines.1.link.still_open refl

-- a part of it is
pub reclassed : (asked : Asked) (class : ClassSpec) (pass : PassView) (link link' : LinkRecord)
    (clock clock' : ClockRecord) (log : SinkRecord) (gate : GateRecord) → IsNotClosed link
    → reduce asked.rules asked.host asked.class ≡ reduced.Fewer class
    → Declines (Ok tt) asked.xid (class_answer_of (Reclassed class)) pass link clock link' clock'
    → IsUnturned end.Reclassed asked pass pass link link' clock clock' log gate
reclassed asked class pass link link' clock clock' log gate unclosed is declines =
    ended end.Reclassed asked (Reclassed class) declines.0 pass pass link link' clock clock' [] log gate is tt refl
    (beginning_done asked (Reclassed class) declines.0 pass pass link link' clock clock' [] log gate unclosed
    (calls_none pass) declines.1) refl declines.1.link.still_open (class, refl)

-- all cursors are taken
pub busy : (asked : Asked) (old new : PassView) (link link' : LinkRecord) (clock clock' : ClockRecord)
    (log : SinkRecord) (gate : GateRecord) → IsNotClosed link
    → reduce asked.rules asked.host asked.class ≡ reduced.Same → (found : FindsBusy asked old new)
    → Declines (Ok tt) asked.xid (class_answer_of (Busy found.missed)) new link clock link' clock'
    → IsUnturned end.AllBusy asked old new link link' clock clock' log gate
busy asked old new link link' clock clock' log gate unclosed is found declines =
    ended end.AllBusy asked (Busy found.missed) declines.0 old new link link' clock clock' [] log gate
    (is, found.may_miss) tt refl
    (beginning_done asked (Busy found.missed) declines.0 old new link link' clock clock' [] log gate unclosed
    (calls_some old new (opening_entries old.actor asked (Busy found.missed)) found.makes) declines.1)
    refl declines.1.link.still_open (found.missed, refl)

-- ---- it ends before

-- the act of an answer that broke off
broke_in : (why : SendEnd) (asked : Asked) (answered : Answered) (at : ℕ) (old new : Situation)
    → AnswerBroke why asked answered at old new
    → BreaksAct why asked.host [] old new (beginning old.moment.pass.actor asked answered at)
broke_in why asked answered at old new broke =
    breaks_same why asked.host [] old new _ _ (then_act-none (beginning old.moment.pass.actor asked answered at))
    (broke.breaks (record { deed = record { entries = []; bytes = []; instants = [] }; goes = [] }) tt tt)

-- it broke off in the answer
pub answer_breaks : (why : SendEnd) (asked : Asked) (answered : Answered) (old new : PassView) (link link' : LinkRecord)
    (clock clock' : ClockRecord) (log : SinkRecord) (gate : GateRecord)
    → IsNotClosed link → IsAnswerTo asked answered → ((actor : ℕ) → closing_entries actor answered ≡ [])
    → Calls old new (opening_entries old.actor asked answered)
    → Declines (Err why) asked.xid (class_answer_of answered) new link clock link' clock'
    → IsUnturned why asked old new link link' clock clock' log gate
answer_breaks end.LinkFault asked answered old new link link' clock clock' log gate unclosed is bare calls declines =
    let broke = answer_broke end.LinkFault asked answered declines.0 old new link link' clock clock' declines.1 log gate
    unclosed calls declines.2 declines.3 in
    ended end.LinkFault asked answered declines.0 old new link link' clock clock' declines.1 log gate is tt
    (bare old.actor) (broke_in end.LinkFault asked answered declines.0 _ _ broke) tt
    declines.2.link.still_open declines.3
answer_breaks end.OutOfMemory asked answered old new link link' clock clock' log gate unclosed is bare calls declines =
    let broke = answer_broke end.OutOfMemory asked answered declines.0 old new link link' clock clock' declines.1 log
    gate unclosed calls declines.2 declines.3 in
    ended end.OutOfMemory asked answered declines.0 old new link link' clock clock' declines.1 log gate is tt
    (bare old.actor) (broke_in end.OutOfMemory asked answered declines.0 _ _ broke) tt
    declines.2.link.still_open tt
answer_breaks end.Worn asked answered old new link link' clock clock' log gate unclosed is bare calls declines =
    let broke = answer_broke end.Worn asked answered declines.0 old new link link' clock clock' declines.1 log gate
    unclosed calls declines.2 declines.3 in
    ended end.Worn asked answered declines.0 old new link link' clock clock' declines.1 log gate is tt refl
    (broke_in end.Worn asked answered declines.0 _ _ broke) tt
    declines.2.link.still_open declines.3
answer_breaks end.Stopped asked answered old new link link' clock clock' log gate unclosed is bare calls declines =
    absurd declines.3
answer_breaks end.Reclassed asked answered old new link link' clock clock' log gate unclosed is bare calls declines =
    absurd declines.3
answer_breaks (end.Denied rule) asked answered old new link link' clock clock' log gate unclosed is bare calls
    declines = absurd declines.3
answer_breaks (end.PeerEnd place) asked answered old new link link' clock clock' log gate unclosed is bare calls
    declines = absurd declines.3
answer_breaks end.LogFault asked answered old new link link' clock clock' log gate unclosed is bare calls declines =
    absurd declines.3
answer_breaks (end.BadReply place) asked answered old new link link' clock clock' log gate unclosed is bare calls
    declines = absurd declines.3
answer_breaks end.AllBusy asked answered old new link link' clock clock' log gate unclosed is bare calls declines =
    absurd declines.3

-- calls that open no cursor may be left out
opening_left : (actor : ℕ) (asked : Asked) (answered : Answered) → closing_entries actor answered ≡ []
    → Each MayBeUnmade (opening_entries actor asked answered ++ [])
opening_left actor asked answered none =
    each_then MayBeUnmade (opening_entries actor asked answered) [] (opening_unmade actor asked answered none) tt

-- the queue has had all its calls before a cursor was opened
pub worn_first : (asked : Asked) (old new : PassView) (link : LinkRecord) (clock : ClockRecord) (log : SinkRecord)
    (gate : GateRecord) → IsNotClosed link
    → reduce asked.rules asked.host asked.class ≡ reduced.Same → FindsWornFirst asked old new
    → IsUnturned end.Worn asked old new link link clock clock log gate
worn_first asked old new link clock log gate unclosed same worn =
    let answered = Busy worn.missed in
    let entries = opening_entries old.actor asked answered in
    let act = beginning old.actor asked answered 0 in
    let broke : Breaks [] (moment_of old link clock []) (moment_of new link clock []) act.deed = record {
      called = worn.called;
      calls = calls_some old new worn.called worn.makes;
      called_part = (worn.part.0, worn.part.1 ∙ sym (append-nil entries));
      sent = [];
      exchanged = exchanged_nothing link;
      sent_part = (act.deed.bytes, refl);
      instants = [];
      answered = AnsweredAll-nothing clock;
      instants_part = (act.deed.instants, refl);
      link = keeps_link link unclosed;
    } in
    let silent =
    silent_part asked.host worn.called entries worn.part (opening_silent asked.host old.actor asked answered) in
    ended end.Worn asked answered 0 old new link link clock clock [] log gate (same, worn.may_miss) tt refl
    (breaks_act_of end.Worn asked.host [] (moment_of old link clock [])
    (moment_of new link clock []) log gate act.deed broke silent (opening_left old.actor asked answered refl)) tt
    unclosed worn.long

-- each request has an answer for which no cursor is opened
record HasAnswer (asked : Asked) : Type 0 where
  answered : Answered
  is : IsAnswerTo asked answered
  none : (actor : ℕ) → closing_entries actor answered ≡ []

answer_by : (asked : Asked) (by_rules : Reduced) → reduce asked.rules asked.host asked.class ≡ by_rules
    → HasAnswer asked
answer_by asked reduced.Same is = record { answered = Busy false; is = (is, tt); none = λ actor. refl }
answer_by asked (reduced.Fewer class) is = record { answered = Reclassed class; is = is; none = λ actor. refl }
answer_by asked (reduced.Nothing rule) is = record { answered = Denied rule; is = is; none = λ actor. refl }

-- there was no memory before anything was done
pub short : (asked : Asked) (pass : PassView) (link : LinkRecord) (clock : ClockRecord) (log : SinkRecord)
    (gate : GateRecord) → IsNotClosed link
    → IsUnturned end.OutOfMemory asked pass pass link link clock clock log gate
short asked pass link clock log gate unclosed =
    let has = answer_by asked (reduce asked.rules asked.host asked.class) refl in
    let act = beginning pass.actor asked has.answered 0 in
    let now = moment_of pass link clock [] in
    let entries = opening_entries pass.actor asked has.answered in
    let breaks = nothing_done now now act.deed unclosed (calls_none pass) refl refl in
    let silent = silent_part asked.host breaks.called (entries ++ []) breaks.called_part (ap (gap_log asked.host)
    (append-nil entries) ∙ opening_silent asked.host pass.actor asked has.answered) in
    ended end.OutOfMemory asked has.answered 0 pass pass link link clock clock [] log gate has.is tt
    (has.none pass.actor)
    (breaks_act_of end.OutOfMemory asked.host [] now now log gate act.deed breaks silent
    (opening_left pass.actor asked has.answered (has.none pass.actor))) tt unclosed tt
