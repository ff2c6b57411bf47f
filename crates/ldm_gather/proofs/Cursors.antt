-- Calls that are about no cursor leave each cursor as it is, and the calls of a receiving are such.
use Rattle.std.proofs.Common.{◌≡◌, ◌∙◌, ℕ, ◌+◌, Bool, true, false, List, [], ◌∷◌, ◌++◌, length, Option, Some, None, inl, inr, ◌⊎◌, refl, sym, ap, subst, append_assoc}
use Rattle.std.specs.Prelude.{◌&&◌, if◌then◌else◌, is_none, ◌==◌, nat_le, Result, Ok}
use Rattle.std.specs.List.{All}
use Rattle.std.proofs.lemmas.List.Elements.{All-nil, All-cons, All-append}
use Rattle.ldm_types.specs.declared.class.ClassSpec.{ClassSpec}
use Rattle.ldm_types.specs.Cursors.{is_number}
use Rattle.ldm_types.specs.Info.{Metadata}
use Rattle.ldm_model.specs.declared.event.Reply.{Reply}
use Rattle.ldm_model.specs.declared.event.Reply.TheVariants.{Reserved}
use Rattle.ldm_model.specs.declared.event.Entry.{Entry}
use Rattle.ldm_model.specs.Law.{is_close, place_of_event}
use Rattle.ldm_relay.specs.declared.fault.RelayFault.{RelayFault}
use Rattle.ldm_relay.specs.Sent.{Sent}
use Rattle.ldm_relay.specs.declared.message.SoonAnswer.TheVariants as soon_answer
use Rattle.ldm_relay.specs.declared.message.TheConstants.{LARGEST_BLOCK}
use Rattle.ldm_relay.specs.Sent as sent
use Rattle.ldm_shared.specs.OwnReaders.{is_about, over_own}
use Rattle.ldm_shared.specs.Passes.{PassView, Calls, HasSeen}
use Rattle.ldm_shared.proofs.Made.{calls_trans}
use Rattle.ldm_gather.specs.Quiet.{IsQuiet, AreQuiet, CallsQuietly}
use Rattle.ldm_shared.specs.Reader.{HasCursor}
use Rattle.ldm_intake.specs.declared.end.RecvEnd.{RecvEnd}
use Rattle.ldm_intake.specs.declared.end.RecvEnd.TheVariants.{Ended, Truncated, BadFrame, Refused, LinkFault, LogFault, StreamLimit, Worn, OutOfMemory}
use Rattle.ldm_intake.specs.declared.phase.Pending.{Pending}
use Rattle.ldm_intake.specs.declared.phase.Phase.{Phase}
use Rattle.ldm_intake.specs.declared.phase.Phase.TheVariants.{Asked, Feeding}
use Rattle.ldm_intake.specs.Course.{Course, Comes, Asks, then, Leads, Begins}
use Rattle.ldm_intake.specs.Products.{accepts, blkdata_of, comingsoon, comingsoon_wanted, commits, declines, filled_in, fills, hereis, hereis_wanted, is_next, reserved}
use Rattle.ldm_intake.specs.Notes.{Unwanted}
use Rattle.ldm_intake.specs.Receiving.{Receiving, is_wanted, left_of, with_last}
use Rattle.ldm_intake.specs.Record.{call_course, course_in, record_course, reply_course}
use Rattle.ldm_intake.specs.Step.{Step, Goes, Bad, Declined}
use Rattle.ldm_intake.specs.Taken.{Arrival, Taken, after_step, closing, discards, taken, taken_none}
use Rattle.ldm_intake.specs.TakesRecord.{Standing}
use Rattle.ldm_intake.specs.Turning.{HasClosed}
use Rattle.ldm_rpc.specs.Streams.{Position}
use Rattle.ldm_downstream.specs.Pieces.{Piece, arrivals}
use Rattle.ldm_downstream.specs.Pushing.{Pushes, EndsWhole}
use Rattle.ldm_downstream.specs.Received.{received}
use Rattle.ldm_downstream.specs.Taking.{Takes, BreaksOff, BeginsNext}

abbrev AsksQuiet : {X : Type 0} → Course X → Type 0
AsksQuiet (Comes to) = Unit {0}
AsksQuiet (Asks event on) = IsQuiet event × ((reply : Reply) → AsksQuiet (on reply))

-- ---- what a quiet course asks is quiet

leads-quiet : {X : Type 0} (actor : ℕ) (c : Course X) (entries : List Entry) (x : X) → AsksQuiet c → Leads actor c entries x → AreQuiet entries
leads-quiet actor (Comes to) [] x quiet leads = tt
leads-quiet actor (Comes to) (entry ∷ entries) x quiet leads = absurd leads
leads-quiet actor (Asks event on) [] x quiet leads = absurd leads
leads-quiet actor (Asks event on) (entry ∷ entries) x quiet leads =
    (ap (λ (e : Entry). place_of_event e.event) leads.0 ∙ quiet.0, leads-quiet actor (on entry.reply) entries x (quiet.1 entry.reply) leads.1)

begins-quiet : {X : Type 0} (actor : ℕ) (c : Course X) (entries : List Entry) → AsksQuiet c → Begins actor c entries → AreQuiet entries
begins-quiet actor (Comes to) [] quiet begins = tt
begins-quiet actor (Comes to) (entry ∷ entries) quiet begins = absurd begins
begins-quiet actor (Asks event on) [] quiet begins = tt
begins-quiet actor (Asks event on) (entry ∷ entries) quiet begins =
    (ap (λ (e : Entry). place_of_event e.event) begins.0 ∙ quiet.0, begins-quiet actor (on entry.reply) entries (quiet.1 entry.reply) begins.1)

then-quiet : {X Y : Type 0} (c : Course X) (rest : X → Course Y) → AsksQuiet c → ((x : X) → AsksQuiet (rest x)) → AsksQuiet ((then) c rest)
then-quiet (Comes to) rest quiet quiet_rest = quiet_rest to
then-quiet (Asks event on) rest quiet quiet_rest = (quiet.0, λ reply. then-quiet (on reply) rest (quiet.1 reply) quiet_rest)

if-quiet : {X : Type 0} (b : Bool) (c d : Course X) → AsksQuiet c → AsksQuiet d → AsksQuiet (if b then c else d)
if-quiet true c d quiet_c quiet_d = quiet_c
if-quiet false c d quiet_c quiet_d = quiet_d

-- ---- the courses of a receiving are quiet

reply-quiet : (s : Receiving) (class : ClassSpec) (again : Bool) (read : Result Sent RelayFault) → AsksQuiet (reply_course s class again read)
reply-quiet s class again (Ok (sent.FeedmeReply xid answer)) = tt
reply-quiet s class again _ = tt

hereis-quiet : (s : Receiving) (now : ℕ) (info : Metadata) (body : List ℕ) → AsksQuiet (hereis s now info body)
hereis-quiet s now info body =
    let wanted : AsksQuiet (hereis_wanted s now info body) = (refl, λ reply. tt) in
    let other : Course Step = Comes (Goes (with_last s info) [] (Unwanted info.ident ∷ [])) in
    if-quiet (is_none s.pending) (if is_wanted s.wanting info then hereis_wanted s now info body else other) (Comes Bad)
    (if-quiet (is_wanted s.wanting info) (hereis_wanted s now info body) other wanted tt) tt

commits-quiet : (s : Receiving) (now : ℕ) (replies : List Sent) (info : Metadata) (r : ℕ) → AsksQuiet (commits s now replies info r)
commits-quiet s now replies info r = (refl, λ reply. tt)

accepts-quiet : (s : Receiving) (now xid : ℕ) (info : Metadata) (r : ℕ) → AsksQuiet (accepts s now xid info r)
accepts-quiet s now xid info r =
    let replies : List Sent = sent.ComingsoonReply xid soon_answer.Ok ∷ [] in
    let other : Course Step = Comes (Goes (record s { pending = Some (record { info = info; r = r; blocks = 0 }) }) replies []) in
    if-quiet (info.size == 0) (commits s now replies info r) other (commits-quiet s now replies info r) tt

reserved-quiet : (s : Receiving) (now xid : ℕ) (info : Metadata) (reply : Reply) → AsksQuiet (reserved s now xid info reply)
reserved-quiet s now xid info (Reserved r evicted) = accepts-quiet s now xid info r
reserved-quiet s now xid info _ = tt

comingsoon-quiet : (s : Receiving) (now xid : ℕ) (info : Metadata) (block_size : ℕ) → AsksQuiet (comingsoon s now xid info block_size)
comingsoon-quiet s now xid info block_size =
    let wanted : AsksQuiet (comingsoon_wanted s now xid info) = (refl, λ reply. reserved-quiet s now xid info reply) in
    let other : Course Step = declines s xid info (Unwanted info.ident ∷ []) in
    if-quiet (is_none s.pending && (block_size == LARGEST_BLOCK)) (if is_wanted s.wanting info then comingsoon_wanted s now xid info else other) (Comes Bad)
    (if-quiet (is_wanted s.wanting info) (comingsoon_wanted s now xid info) other wanted tt) tt

filled-quiet : (s : Receiving) (now : ℕ) (pending : Pending) (len : ℕ) → AsksQuiet (filled_in s now pending len)
filled-quiet s now pending len =
    let other : Course Step = Comes (Goes (record s { pending = Some (record pending { blocks = pending.blocks + 1 }) }) [] []) in
    if-quiet (nat_le (left_of pending) len) (commits s now [] pending.info pending.r) other (commits-quiet s now [] pending.info pending.r) tt

blkdata-quiet : (s : Receiving) (now : ℕ) (signature : List ℕ) (number : ℕ) (block : List ℕ) (pending : Option Pending) → AsksQuiet (blkdata_of s now signature number block pending)
blkdata-quiet s now signature number block None = tt
blkdata-quiet s now signature number block (Some pending) =
    let next : AsksQuiet (fills s now pending block) = (refl, λ reply. filled-quiet s now pending (length block)) in
    if-quiet (is_next pending signature number block) (fills s now pending block) (Comes Bad) next tt

call-quiet : (s : Receiving) (now : ℕ) (read : Result Sent RelayFault) → AsksQuiet (call_course s now read)
call-quiet s now (Ok (sent.Hereis xid info body)) = hereis-quiet s now info body
call-quiet s now (Ok (sent.Comingsoon xid info block_size)) = comingsoon-quiet s now xid info block_size
call-quiet s now (Ok (sent.Blkdata xid signature number block)) = blkdata-quiet s now signature number block s.pending
call-quiet s now (Ok (sent.Isalive xid)) = tt
call-quiet s now _ = tt

in-quiet : (phase : Phase) (s : Receiving) (now : ℕ) (content : List ℕ) → AsksQuiet (course_in phase s now content)
in-quiet (Asked class again) s now content = reply-quiet s class again _
in-quiet Feeding s now content = call-quiet s now _

record-quiet : (s : Receiving) (now : ℕ) (content : List ℕ) → AsksQuiet (record_course s now content)
record-quiet s now content = in-quiet s.phase s now content

step-quiet : (t : Taken) (at : ℕ) (rest : Taken → Course Taken) → ((next : Taken) → AsksQuiet (rest next)) → (step : Step) → AsksQuiet (after_step t at rest step)
step-quiet t at rest quiet (Goes s replies notes) = quiet _
step-quiet t at rest quiet Bad = tt
step-quiet t at rest quiet (Declined answer) = tt

taken-quiet : (t : Taken) (arrivals : List Arrival) → AsksQuiet (taken t arrivals)
unfolding taken
taken-quiet t [] = tt
taken-quiet t (arrival ∷ arrivals) =
    then-quiet (record_course t.receiving arrival.now arrival.content) (after_step t arrival.at (λ next. taken next arrivals))
    (record-quiet t.receiving arrival.now arrival.content) (step-quiet t arrival.at (λ next. taken next arrivals) (λ next. taken-quiet next arrivals))

received-quiet : (s : Receiving) (p : Position) (pieces : List Piece) → AsksQuiet (received s p pieces)
received-quiet s p pieces = then-quiet (taken (taken_none s) (arrivals p pieces)) _ (taken-quiet (taken_none s) (arrivals p pieces)) (λ t. tt)

discards-quiet : (t : Taken) (pending : Option Pending) → AsksQuiet (discards t pending)
discards-quiet t None = tt
discards-quiet t (Some pending) = (refl, λ reply. tt)

next-quiet : (actor : ℕ) (s : Receiving) (arrivals : List Arrival) (made : List Entry) → BeginsNext actor s arrivals made → AreQuiet made
next-quiet actor s [] made begins = subst AreQuiet (sym begins) tt
next-quiet actor s (arrival ∷ arrivals) made begins = begins-quiet actor _ made (record-quiet s arrival.now arrival.content) begins

-- ---- quiet calls leave a cursor as it is

not-about : (k : ℕ) (entry : Entry) → IsQuiet entry.event → is_about k entry ≡ false
not-about k entry quiet = ap (is_number k) quiet

over-quiet : {A : Type 0} (k : ℕ) (change : A → Reply → A) (x : A) (made : List Entry) → AreQuiet made → over_own k change x made ≡ x
over-quiet k change x [] quiet = refl
over-quiet {A} k change x (entry ∷ made) quiet =
    ap (λ (b : Bool). over_own k change (if b then change x entry.reply else x) made) (not-about k entry quiet.0) ∙ over-quiet k change x made quiet.1

over-behind : {A : Type 0} (k : ℕ) (change : A → Reply → A) (x : A) (since made : List Entry) → AreQuiet made → over_own k change x (since ++ made) ≡ over_own k change x since
over-behind k change x [] made quiet = over-quiet k change x made quiet
over-behind k change x (entry ∷ since) made quiet = over-behind k change (if is_about k entry then change x entry.reply else x) since made quiet

others-open : (k : ℕ) (made : List Entry) → AreQuiet made → All (λ (entry : Entry). (is_about k entry && is_close entry.event) ≡ false) made
others-open k [] quiet = All-nil (λ (entry : Entry). (is_about k entry && is_close entry.event) ≡ false)
others-open k (entry ∷ made) quiet =
    All-cons (λ (entry : Entry). (is_about k entry && is_close entry.event) ≡ false) entry made
    (ap (λ (b : Bool). b && is_close entry.event) (not-about k entry quiet.0)) (others-open k made quiet.1)

seen-still : (old new : PassView) (made : List Entry) → Calls old new made → HasSeen old → HasSeen new
seen-still old new made calls has_seen = by_look calls.has_seen
  where
    by_look : (new ≡ old) ⊎ HasSeen new → HasSeen new
    by_look (inl same) = subst HasSeen (sym same) has_seen
    by_look (inr seen) = seen

quiet-keeps : (old new : PassView) (made : List Entry) (k : ℕ) (held : Option ℕ) → Calls old new made → AreQuiet made → HasCursor old k held → HasCursor new k held
quiet-keeps old new made k held calls quiet has =
    subst (λ (p : PassView). HasCursor p k held) (sym calls.same) (record {
      has_seen = subst HasSeen calls.same (seen-still old new made calls has.has_seen);
      earlier = has.earlier;
      feed = has.feed;
      start = has.start;
      since = has.since ++ made;
      own_are = calls.adds.own ∙ ap (λ (es : List Entry). es ++ made) has.own_are ∙ append_assoc has.earlier _ made;
      not_closed = All-append (λ (entry : Entry). (is_about k entry && is_close entry.event) ≡ false) has.since made has.not_closed (others-open k made quiet);
      holds = over-behind k _ _ has.since made quiet ∙ has.holds;
    })

quiet-append : (made more : List Entry) → AreQuiet made → AreQuiet more → AreQuiet (made ++ more)
quiet-append [] more quiet quiet_more = quiet_more
quiet-append (entry ∷ made) more quiet quiet_more = (quiet.0, quiet-append made more quiet.1 quiet_more)

pub quietly-then : (old mid new : PassView) → CallsQuietly old mid → CallsQuietly mid new → CallsQuietly old new
quietly-then old mid new first second = record {
  made = first.made ++ second.made;
  calls = calls_trans old mid new first.made second.made first.calls second.calls;
  quiet = quiet-append first.made second.made first.quiet second.quiet;
}

pub quietly-keeps : (old new : PassView) (k : ℕ) (held : Option ℕ) → CallsQuietly old new → HasCursor old k held → HasCursor new k held
quietly-keeps old new k held quietly has = quiet-keeps old new quietly.made k held quietly.calls quietly.quiet has

-- ---- what a push calls is about no cursor

takes-quiet : (s : Receiving) (p : Position) (pieces : List Piece) (end : Option RecvEnd) (old new : Standing) → Takes (received s p pieces) end old new → CallsQuietly old.pass new.pass
takes-quiet s p pieces end old new takes = record {
  made = takes.made;
  calls = takes.calls;
  quiet = leads-quiet old.pass.actor (received s p pieces) takes.made takes.to (received-quiet s p pieces) takes.leads;
}

pub closes-quiet : (old new : Receiving) (pass after : PassView) → HasClosed old new pass after → CallsQuietly pass after
closes-quiet old new pass after closes = record {
  made = closes.made;
  calls = closes.calls;
  quiet = leads-quiet pass.actor (closing (taken_none old)) closes.made (taken_none new) (discards-quiet _ old.pending) closes.leads;
}

breaks-quiet : (arrivals : List Arrival) (old new : Standing) → BreaksOff arrivals old new → CallsQuietly old.pass new.pass
breaks-quiet arrivals old new breaks =
    quietly-then old.pass breaks.between.pass new.pass
    (record {
      made = breaks.takes.made;
      calls = breaks.takes.calls;
      quiet = leads-quiet old.pass.actor (taken (taken_none old.receiving) breaks.front) breaks.takes.made breaks.takes.to (taken-quiet (taken_none old.receiving) breaks.front) breaks.takes.leads;
    })
    (record { made = breaks.made; calls = breaks.calls; quiet = next-quiet old.pass.actor breaks.between.receiving breaks.behind breaks.made breaks.begins })

whole-quiet : (end : RecvEnd) (pieces : List Piece) (p : Position) (old new : Standing) → EndsWhole end pieces p old new → CallsQuietly old.pass new.pass
whole-quiet end pieces p old new ends =
    quietly-then old.pass ends.between.pass new.pass (takes-quiet old.receiving p pieces (Some end) old ends.between ends.takes)
    (closes-quiet ends.between.receiving new.receiving ends.between.pass new.pass ends.gives_up.closes)

pub pushes-quiet : (end : Option RecvEnd) (piece : Piece) (p q : Position) (old new : Standing) → Pushes end piece p q old new → CallsQuietly old.pass new.pass
pushes-quiet None piece p q old new pushes = takes-quiet old.receiving p (piece ∷ []) None old new pushes.takes
pushes-quiet (Some (BadFrame at)) piece p q old new pushes = whole-quiet (BadFrame at) (piece ∷ []) p old new pushes
pushes-quiet (Some (Refused answer)) piece p q old new pushes = whole-quiet (Refused answer) (piece ∷ []) p old new pushes
pushes-quiet (Some StreamLimit) piece p q old new pushes = whole-quiet StreamLimit (piece ∷ []) p old new pushes
pushes-quiet (Some OutOfMemory) piece p q old new pushes =
    quietly-then old.pass pushes.between.pass new.pass (breaks-quiet (arrivals p (piece ∷ [])) old pushes.between pushes.breaks)
    (closes-quiet pushes.between.receiving new.receiving pushes.between.pass new.pass pushes.gives_up.closes)
pushes-quiet (Some Worn) piece p q old new pushes = breaks-quiet (arrivals p (piece ∷ [])) old new pushes.breaks
pushes-quiet (Some Ended) piece p q old new pushes = absurd pushes
pushes-quiet (Some (Truncated at)) piece p q old new pushes = absurd pushes
pushes-quiet (Some LinkFault) piece p q old new pushes = absurd pushes
pushes-quiet (Some LogFault) piece p q old new pushes = absurd pushes
