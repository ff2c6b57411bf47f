-- Steps of a cursor, one after another: what they come to, and what stays.
use Rattle.std.proofs.Common.{◌≡◌, ◌∙◌, ℕ, List, [], ◌∷◌, ◌++◌, Bool, true, false, inl, inr, ◌⊎◌, refl, sym, ap, subst}
use Rattle.std.proofs.Common.{append_assoc, append-nil}
use Rattle.std.proofs.lemmas.List.Concat.{flat_map-append}
use Rattle.ldm_model.specs.declared.event.Entry.{Entry}
use Rattle.ldm_model.specs.declared.event.Reply.{Reply}
use Rattle.ldm_model.specs.History.{after, IsLegal}
use Rattle.ldm_model.specs.Product.{Product}
use Rattle.ldm_outside.specs.Clock.{ClockRecord}
use Rattle.ldm_outside.specs.Gate.{GateRecord}
use Rattle.ldm_outside.specs.Io.{SinkRecord}
use Rattle.ldm_outside.specs.Link.{LinkRecord, IsNotClosed}
use Rattle.ldm_outside.proofs.CallerLemmas.{Rose-later}
use Rattle.ldm_relay.specs.Sent.{Sent}
use Rattle.ldm_relay.specs.Spelling.{written, record_of}
use Rattle.ldm_shared.specs.Passes.{SharedView, PassView, IsPassOf, IsSamePass, Makes, Calls, HasSeen}
use Rattle.ldm_shared.proofs.Made.{calls_none, calls_some}
use Rattle.ldm_shared.specs.Staying.{HasRow}
use Rattle.ldm_session.specs.Gaps.{gap_log, gap_line}
use Rattle.ldm_session.proofs.CallerLemmas.{AnsweredAll-nothing, gap_log-append}
use Rattle.ldm_sender.specs.declared.end.SendEnd.{SendEnd}
use Rattle.ldm_sender.specs.declared.end.SendEnd.TheVariants as end
use Rattle.ldm_sender.specs.Asked.{Asked}
use Rattle.ldm_sender.specs.Calls.{stepped}
use Rattle.ldm_sender.specs.Deeds.{no_deed, calling, records_of}
use Rattle.ldm_sender.specs.Does.{SendingMoment, moment_of, Does}
use Rattle.ldm_session.specs.Part.{IsPart}
use Rattle.ldm_sender.specs.Acts.{Situation, situation_of, Act, then_act, ungated, Acts, EndsAct}
use Rattle.ldm_sender.specs.Ending.{StopsTurns}
use Rattle.ldm_sender.proofs.Acting.{deed_is, act_is, acts_of}
use Rattle.ldm_sender.proofs.Doing.{keeps_link, exchanged_nothing}

-- ---- what they come to, behind others

pub records-append : (first second : List Sent) → records_of (first ++ second) ≡ records_of first ++ records_of second
records-append first second = flat_map-append (λ (message : Sent). record_of (written message)) first second

pub then_act-assoc : (a b c : Act) → then_act (then_act a b) c ≡ then_act a (then_act b c)
then_act-assoc a b c =
    act_is _ _ _ _
    (deed_is _ _ _ _ _ _ (append_assoc a.deed.entries b.deed.entries c.deed.entries)
    (append_assoc a.deed.bytes b.deed.bytes c.deed.bytes)
    (append_assoc a.deed.instants b.deed.instants c.deed.instants))
    (append_assoc a.goes b.goes c.goes)

-- an act, and then nothing
pub then_act-none : (act : Act) → then_act act (ungated no_deed) ≡ act
then_act-none act =
    act_is _ _ _ _ (deed_is _ _ _ _ _ _ (append-nil act.deed.entries) (append-nil act.deed.bytes)
    (append-nil act.deed.instants)) (append-nil act.goes)

-- ---- rows stay

-- a product keeps its number, metadata, body and insertion time
abbrev pub RowsStay : Type 0
RowsStay =
    (arena slots : ℕ) (front behind : List Entry) → IsLegal arena slots (front ++ behind)
    → (n : ℕ) (product : Product) (time : ℕ)
    → HasRow n product time (after arena slots front) → HasRow n product time (after arena slots (front ++ behind))

abbrev pub HasRowIn : PassView → ℕ → Product → ℕ → Type 0
HasRowIn pass n product time = HasRow n product time (after pass.arena pass.slots pass.seen)

pub HasRowIn-stays : (law : RowsStay) (old new : PassView) (made : List Entry) (n : ℕ) (product : Product) (time : ℕ)
    → Calls old new made → HasRowIn old n product time
    → HasRowIn new n product time
HasRowIn-stays law old new made n product time calls row = by_seen calls.has_seen
  where
    arena : new.arena ≡ old.arena
    arena = ap (λ (p : PassView). p.arena) calls.same

    slots : new.slots ≡ old.slots
    slots = ap (λ (p : PassView). p.slots) calls.same

    by_seen : (new ≡ old) ⊎ HasSeen new → HasRowIn new n product time
    by_seen (inl same) = subst (λ (p : PassView). HasRowIn p n product time) (sym same) row
    by_seen (inr has) =
        let begins = calls.adds.begins in
        let P : List Entry → Type 0 = λ seen. HasRow n product time (after new.arena new.slots seen) in
        let here : HasRow n product time (after new.arena new.slots old.seen) =
        subst (λ (a : ℕ). HasRow n product time (after a new.slots old.seen)) (sym arena)
        (subst (λ (s : ℕ). HasRow n product time (after old.arena s old.seen)) (sym slots) row) in
        subst P begins.1
        (law new.arena new.slots old.seen begins.0 (subst (IsLegal new.arena new.slots)
        (sym begins.1) has.legal) n product time here)

-- ---- the pass

-- a pass of a queue stays one
pub of_same : (shared : SharedView) (old new : PassView) → IsPassOf shared old → IsSamePass old new
    → IsPassOf shared new
of_same shared old new of same = record {
  queue = ap (λ (p : PassView). p.queue) same ∙ of.queue;
  arena = ap (λ (p : PassView). p.arena) same ∙ of.arena;
  slots = ap (λ (p : PassView). p.slots) same ∙ of.slots;
  passes = ap (λ (p : PassView). p.passes) same ∙ of.passes;
}

pub same_then : (a b c : PassView) → IsSamePass a b → IsSamePass b c → IsSamePass a c
same_then a b c one two = two ∙ ap (λ (p : PassView). record p { seen = c.seen }) one

pub same_actor : (host came : List ℕ) (old new : Situation) (act : Act) → Acts host came old new act
    → new.moment.pass.actor ≡ old.moment.pass.actor
same_actor host came old new act acts = ap (λ (p : PassView). p.actor) acts.does.calls.same

-- ---- a step

-- a call was made, and nothing else happened
pub one_call : (old new : PassView) (link : LinkRecord) (clock : ClockRecord) (out : List ℕ) (entry : Entry)
    → Makes old new (entry ∷ []) → IsNotClosed link
    → Does [] (moment_of old link clock out) (moment_of new link clock out) (calling entry)
one_call old new link clock out entry makes unclosed = record {
  calls = calls_some old new (entry ∷ []) makes;
  sent = [];
  gathered = append-nil out;
  exchanged = exchanged_nothing link;
  answered = AnsweredAll-nothing clock;
  link = keeps_link link unclosed;
}

-- nothing was done
pub does_nothing : (now : SendingMoment) → IsNotClosed now.link → Does [] now now no_deed
does_nothing now unclosed = record {
  calls = calls_none now.pass;
  sent = [];
  gathered = append-nil now.out;
  exchanged = exchanged_nothing now.link;
  answered = AnsweredAll-nothing now.clock;
  link = keeps_link now.link unclosed;
}

abbrev pub step_act : ℕ → ℕ → Reply → Act
step_act actor k answer = ungated (calling (stepped actor k answer))

pub stepped_acts : (host : List ℕ) (old new : PassView) (k : ℕ) (answer : Reply) (link : LinkRecord)
    (clock : ClockRecord) (out : List ℕ) (log : SinkRecord) (gate : GateRecord)
    → gap_log host (stepped old.actor k answer ∷ []) ≡ [] → Makes old new (stepped old.actor k answer ∷ [])
    → IsNotClosed link
    → Acts host [] (situation_of (moment_of old link clock out) log gate)
    (situation_of (moment_of new link clock out) log gate) (step_act old.actor k answer)
stepped_acts host old new k answer link clock out log gate silent makes unclosed =
    acts_of host [] (moment_of old link clock out)
    (moment_of new link clock out) log gate (calling (stepped old.actor k answer)) silent
    (one_call old new link clock out (stepped old.actor k answer) makes unclosed)

-- the line of one loss is the log of it
pub one_line : (asked : Asked) (host : List ℕ) (count first last : ℕ) → asked.host ≡ host
    → gap_line host count first last ≡ gap_line asked.host count first last ++ []
one_line asked host count first last is = ap (λ (h : List ℕ). gap_line h count first last)
    (sym is) ∙ sym (append-nil (gap_line asked.host count first last))

pub none_in_front : {A : Type 0} → (front rest : List A) → front ++ rest ≡ [] → front ≡ []
none_in_front [] rest none = refl
none_in_front (x ∷ front) rest none = absurd cc

-- of calls that tell no loss a front tells none
pub silent_part : (host : List ℕ) (part all : List Entry) → IsPart false part all → gap_log host all ≡ []
    → gap_log host part ≡ []
silent_part host part all is none =
    none_in_front (gap_log host part) (gap_log host is.0)
    (sym (gap_log-append host part is.0) ∙ ap (gap_log host) is.1 ∙ none)

-- ---- the end

-- what was called at an end
pub calls_at_end : (whole : Bool) (why : SendEnd) (host came : List ℕ) (old new : Situation) (act : Act)
    → EndsAct whole why host came old new act
    → (made : List Entry) × Calls old.moment.pass new.moment.pass made
calls_at_end true why host came old new act ends = (act.deed.entries, ends.does.calls)
calls_at_end false why host came old new act ends = (ends.breaks.called, ends.breaks.calls)

-- a cause is one of what was done before, too
pub cause_later : (why : SendEnd) (host came : List ℕ) (a b c : Situation) (act : Act) → Acts host came a b act
    → StopsTurns why b c → StopsTurns why a c
cause_later end.Stopped host came a b c act acts cause =
    Rose-later a.gate.stops b.gate.stops c.gate.stops acts.beside.stops cause
cause_later (end.PeerEnd at) host came a b c act acts cause =
    Rose-later a.moment.link.ends b.moment.link.ends c.moment.link.ends acts.does.link.ends cause
cause_later (end.BadReply at) host came a b c act acts cause = tt
cause_later end.LinkFault host came a b c act acts cause =
    Rose-later a.moment.link.faults b.moment.link.faults c.moment.link.faults acts.does.link.faults cause
cause_later end.LogFault host came a b c act acts cause =
    Rose-later a.log.faults b.log.faults c.log.faults acts.beside.log cause
cause_later end.Worn host came a b c act acts cause = cause
cause_later end.OutOfMemory host came a b c act acts cause = tt
cause_later end.Reclassed host came a b c act acts cause = absurd cause
cause_later (end.Denied rule) host came a b c act acts cause = absurd cause
cause_later end.AllBusy host came a b c act acts cause = absurd cause
