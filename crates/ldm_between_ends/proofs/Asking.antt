-- How many calls a receiver makes of its queue: a record makes two at most, and has a byte.
use Rattle.std.proofs.Common.{◌≡◌, ◌∙◌, ℕ, zero, suc, ◌+◌, ◌-◌, ◌*◌, ◌≤◌, List, [], ◌∷◌, ◌++◌, length, Option, Some, None, Result, Ok, Err, refl, sym, ap, subst, arith, length-append}
use Rattle.std.specs.Prelude.{◌==◌, ◌&&◌, Bool, nat_le, is_none}
use Rattle.std.proofs.lemmas.Bool.{cond_both}
use Rattle.std.proofs.lemmas.List.{length-map, length-take}
use Rattle.ldm_types.specs.Info.{Metadata}
use Rattle.ldm_types.specs.declared.class.ClassSpec.{ClassSpec}
use Rattle.ldm_model.specs.declared.event.Reply.{Reply}
use Rattle.ldm_model.specs.declared.event.Reply.TheVariants as reply
use Rattle.ldm_model.specs.declared.event.Entry.{Entry}
use Rattle.ldm_relay.specs.declared.fault.RelayFault.{RelayFault}
use Rattle.ldm_relay.specs.declared.message.TheConstants.{LARGEST_BLOCK}
use Rattle.ldm_relay.specs.declared.procedure.Procedure.TheVariants as procedure
use Rattle.ldm_relay.specs.Procedure.{number_of}
use Rattle.ldm_relay.specs.Reading.{call_of, reply_of}
use Rattle.ldm_relay.specs.Sent.{Sent}
use Rattle.ldm_relay.specs.Sent as sent
use Rattle.ldm_rpc.specs.Reading.{Reading, after_byte, is_whole}
use Rattle.ldm_rpc.specs.Streams.{Placed, Position, forgets, given, in_hand, records_in}
use Rattle.ldm_session.specs.declared.limits.TheConstants.{LONGEST_STREAM}
use Rattle.ldm_intake.specs.declared.phase.Pending.{Pending}
use Rattle.ldm_intake.specs.declared.phase.Phase.{Phase}
use Rattle.ldm_intake.specs.declared.phase.Phase.TheVariants.{Asked, Feeding}
use Rattle.ldm_intake.specs.Course.{Course, Comes, Asks, Begins, Leads}
use Rattle.ldm_intake.specs.Products.{accepts, blkdata_of, comingsoon, comingsoon_wanted, commits, declines, filled_in, fills, hereis, hereis_wanted, is_next, reserved}
use Rattle.ldm_intake.specs.Notes.{Note, Unwanted}
use Rattle.ldm_intake.specs.Receiving.{Receiving, is_wanted, left_of, with_last}
use Rattle.ldm_intake.specs.Record.{call_course, course_in, record_course, reply_course}
use Rattle.ldm_intake.specs.Step.{Step, Goes, Bad, Declined}
use Rattle.ldm_intake.specs.Taken.{Arrival, Taken, after_step, taken, taken_none}
use Rattle.ldm_intake.specs.TakesRecord.{Standing}
use Rattle.ldm_intake.proofs.Courses.{leads-then_parts}
use Rattle.ldm_downstream.specs.Pieces.{Piece, arrivals, arrived, joined, within}
use Rattle.ldm_downstream.specs.Received.{received, with_hand}
use Rattle.ldm_downstream.specs.Pieces.{hand}
use Rattle.ldm_downstream.specs.Taking.{BeginsNext, BreaksOff}

-- a course asks for so many events at most, whatever the replies
abbrev AsksAtMost : {X : Type 0} → ℕ → Course X → Type 0
AsksAtMost n (Comes to) = Unit {0}
AsksAtMost zero (Asks event on) = ⊥
AsksAtMost (suc n) (Asks event on) = (reply : Reply) → AsksAtMost n (on reply)

leads-few : {X : Type 0} (n actor : ℕ) (course : Course X) (made : List Entry) (x : X) → AsksAtMost n course → Leads actor course made x → length made ≤ n
leads-few n actor (Comes to) [] x few leads = omega arith
leads-few n actor (Comes to) (entry ∷ made) x few leads = absurd leads
leads-few n actor (Asks event on) [] x few leads = absurd leads
leads-few zero actor (Asks event on) (entry ∷ made) x few leads = absurd few
leads-few (suc n) actor (Asks event on) (entry ∷ made) x few leads =
    let more = leads-few n actor (on entry.reply) made x (few entry.reply) leads.1 in
    omega (arith, more)

begins-few : {X : Type 0} (n actor : ℕ) (course : Course X) (made : List Entry) → AsksAtMost n course → Begins actor course made → length made ≤ n
begins-few n actor (Comes to) [] few begins = omega arith
begins-few n actor (Comes to) (entry ∷ made) few begins = absurd begins
begins-few n actor (Asks event on) [] few begins = omega arith
begins-few zero actor (Asks event on) (entry ∷ made) few begins = absurd few
begins-few (suc n) actor (Asks event on) (entry ∷ made) few begins =
    let more = begins-few n actor (on entry.reply) made (few entry.reply) begins.1 in
    omega (arith, more)

-- ---- a record

module _ (s : Receiving) (now : ℕ) where
  few-commits : (replies : List Sent) (info : Metadata) (r : ℕ) → AsksAtMost 1 (commits s now replies info r)
  few-commits replies info r = λ reply. tt

  few-accepts : (xid : ℕ) (info : Metadata) (r : ℕ) → AsksAtMost 1 (accepts s now xid info r)
  few-accepts xid info r = cond_both (info.size == 0) _ _ (AsksAtMost 1) (λ e. λ reply. tt) (λ e. tt)

  few-reserved : (xid : ℕ) (info : Metadata) (answer : Reply) → AsksAtMost 1 (reserved s now xid info answer)
  few-reserved xid info (reply.Reserved r evicted) = few-accepts xid info r
  few-reserved xid info answer = tt

  few-filled : (pending : Pending) (len : ℕ) → AsksAtMost 1 (filled_in s now pending len)
  few-filled pending len = cond_both (nat_le (left_of pending) len) _ _ (AsksAtMost 1) (λ e. λ reply. tt) (λ e. tt)

  few-blocks : (signature : List ℕ) (number : ℕ) (block : List ℕ) (pending : Option Pending) → AsksAtMost 2 (blkdata_of s now signature number block pending)
  few-blocks signature number block None = tt
  few-blocks signature number block (Some pending) =
      cond_both (is_next pending signature number block) _ _ (AsksAtMost 2) (λ e. λ reply. few-filled pending (length block)) (λ e. tt)

  few-hereis : (info : Metadata) (body : List ℕ) → AsksAtMost 2 (hereis s now info body)
  few-hereis info body =
      cond_both (is_none s.pending) _ _ (AsksAtMost 2)
      (λ e. cond_both (is_wanted s.wanting info) _ _ (AsksAtMost 2) (λ wanted. λ reply. tt) (λ unwanted. tt))
      (λ e. tt)

  few-comingsoon : (xid : ℕ) (info : Metadata) (block_size : ℕ) → AsksAtMost 2 (comingsoon s now xid info block_size)
  few-comingsoon xid info block_size =
      cond_both (is_none s.pending && (block_size == LARGEST_BLOCK)) _ _ (AsksAtMost 2)
      (λ e. cond_both (is_wanted s.wanting info) _ _ (AsksAtMost 2) (λ wanted. λ reply. few-reserved xid info reply) (λ unwanted. tt))
      (λ e. tt)

  few-call : (read : Result Sent RelayFault) → AsksAtMost 2 (call_course s now read)
  few-call (Ok (sent.Hereis xid info body)) = few-hereis info body
  few-call (Ok (sent.Comingsoon xid info block_size)) = few-comingsoon xid info block_size
  few-call (Ok (sent.Blkdata xid signature number block)) = few-blocks signature number block s.pending
  few-call (Ok (sent.Isalive xid)) = tt
  few-call _ = tt

  few-reply : (class : ClassSpec) (again : Bool) (read : Result Sent RelayFault) → AsksAtMost 2 (reply_course s class again read)
  few-reply class again (Ok (sent.FeedmeReply xid answer)) = tt
  few-reply class again _ = tt

  few-phase : (phase : Phase) (content : List ℕ) → AsksAtMost 2 (course_in phase s now content)
  few-phase (Asked class again) content = few-reply class again (reply_of (number_of procedure.Feedme) content)
  few-phase Feeding content = few-call (call_of content)

few-record : (s : Receiving) (now : ℕ) (content : List ℕ) → AsksAtMost 2 (record_course s now content)
few-record s now content = few-phase s now s.phase content

-- ---- records

few-taken : (actor : ℕ) (u : Taken) (records : List Arrival) (made : List Entry) (t : Taken) → Leads actor (taken u records) made t → length made ≤ 2 * length records
unfolding taken
few-taken actor u [] made t leads = leads-few 0 actor (Comes u) made t tt leads
few-taken actor u (a ∷ records) made t leads =
    let onward = after_step u a.at (λ (next : Taken). taken next records) in
    let parts = leads-then_parts actor (record_course u.receiving a.now a.content) onward made t leads in
    let first = leads-few 2 actor (record_course u.receiving a.now a.content) parts.made parts.mid (few-record u.receiving a.now a.content) parts.first in
    let behind : length parts.more ≤ 2 * length records =
    (elim parts.mid as (λ (v : Step). Leads actor (onward v) parts.more t → length parts.more ≤ 2 * length records) [
      | Goes s replies notes ↦ λ later.
          few-taken actor (record u { receiving = s; replies = u.replies ++ replies; notes = u.notes ++ notes }) records parts.more t later
      | Bad ↦ λ later. (let none = leads-few 0 actor (onward Bad) parts.more t tt later in omega (arith, none))
      | Declined answer ↦ λ later. (let none = leads-few 0 actor (onward (Declined answer)) parts.more t tt later in omega (arith, none))
    ]) parts.second in
    omega (arith, first, behind, ap length parts.all, length-append parts.made parts.more)

few-next : (actor : ℕ) (s : Receiving) (records : List Arrival) (made : List Entry) → BeginsNext actor s records made → length made ≤ 2
few-next actor s [] made begins = omega (arith, ap (λ (es : List Entry). length es) begins)
few-next actor s (a ∷ records) made begins = begins-few 2 actor (record_course s a.now a.content) made (few-record s a.now a.content) begins

-- ---- bytes

few-given : (begins : ℕ) (s : Reading) → length (given begins s) ≤ 1
few-given begins s = cond_both (is_whole s) _ _ (λ (records : List Placed). length records ≤ 1) (λ e. omega arith) (λ e. omega arith)

few-records : (p : Position) (bytes : List ℕ) → length (records_in p bytes) ≤ length bytes
unfolding records_in
few-records p [] = omega arith
few-records p (byte ∷ bytes) =
    let s = after_byte p.reading byte in
    let next = forgets p.begins (p.came + 1) s in
    omega (arith, few-given p.begins s, few-records next bytes, length-append (given p.begins s) (records_in next bytes))

few-arrivals : (p : Position) (pieces : List Piece) → length (arrivals p pieces) ≤ length (joined pieces)
unfolding arrivals
few-arrivals p [] = omega arith
few-arrivals p (piece ∷ pieces) =
    let part = within p piece.bytes in
    let records = records_in p part in
    let behind = arrivals (in_hand p part) pieces in
    let came : length (arrived piece.now records) ≡ length records = length-map records _ in
    omega (
      arith,
      came,
      few-records p part,
      length-take (LONGEST_STREAM - p.came) piece.bytes,
      few-arrivals (in_hand p part) pieces,
      length-append (arrived piece.now records) behind,
      length-append piece.bytes (joined pieces),
    )

pub few-received : (actor : ℕ) (s : Receiving) (p : Position) (pieces : List Piece) (made : List Entry) (to : Taken) → Leads actor (received s p pieces) made to
    → length made ≤ 2 * length (joined pieces)
few-received actor s p pieces made to leads =
    let onward : Taken → Course Taken = λ (t : Taken). Comes (with_hand (hand p pieces) t) in
    let parts = leads-then_parts actor (taken (taken_none s) (arrivals p pieces)) onward made to leads in
    let first = few-taken actor (taken_none s) (arrivals p pieces) parts.made parts.mid parts.first in
    let none = leads-few 0 actor (onward parts.mid) parts.more to tt parts.second in
    omega (arith, first, none, few-arrivals p pieces, ap length parts.all, length-append parts.made parts.more)

-- of a receiver that broke off
pub few-broken : (p : Position) (pieces : List Piece) (old new : Standing) (breaks : BreaksOff (arrivals p pieces) old new)
    → length breaks.takes.made + length breaks.made ≤ 2 * length (joined pieces) + 2
few-broken p pieces old new breaks =
    let front = few-taken old.pass.actor (taken_none old.receiving) breaks.front breaks.takes.made breaks.takes.to breaks.takes.leads in
    let next = few-next old.pass.actor breaks.between.receiving breaks.behind breaks.made breaks.begins in
    omega (arith, front, next, few-arrivals p pieces, ap length breaks.all, length-append breaks.front breaks.behind)
