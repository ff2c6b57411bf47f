-- What a receiver replies in a feed, and what a feeder reads of it.
use Rattle.std.proofs.Common.{◌≡◌, ℕ, ◌+◌, ◌^◌, ◌<◌, Bool, true, false, List, [], ◌∷◌, ◌++◌, length, Option, Some, None, Result, Ok, refl, ap, sym, subst, ◌∙◌, append_assoc, arith}
use Rattle.std.specs.Prelude.{All, map, is_none, nat_le, ◌==◌, ◌&&◌, if◌then◌else◌}
use Rattle.std.specs.List.{flat_map, AllByRecursion}
use Rattle.std.proofs.lemmas.List.{append-nil, length-append}
use Rattle.std.proofs.lemmas.List.Elements.{All-nil, All-cons}
use Rattle.ldm_types.specs.Info.{Metadata}
use Rattle.ldm_xdr.specs.Spelling.{unsigned}
use Rattle.ldm_xdr.proofs.Lengths.{length_unsigned}
use Rattle.ldm_model.specs.declared.event.Reply.{Reply}
use Rattle.ldm_model.specs.declared.event.Reply.TheVariants.{Reserved}
use Rattle.ldm_model.specs.declared.event.Entry.{Entry}
use Rattle.ldm_rpc.specs.Spelling.{Fits as RecordFits, IsShort, spelling}
use Rattle.ldm_rpc.specs.Streams.{Placed, at_start, placed, records_in}
use Rattle.ldm_rpc.proofs.Joined.{records-append}
use Rattle.ldm_relay.specs.declared.fault.RelayFault.{RelayFault}
use Rattle.ldm_relay.specs.declared.message.TheConstants.{LARGEST_BLOCK, LARGEST_REPLY}
use Rattle.ldm_relay.specs.declared.message.ClassAnswer.TheVariants as class_answer
use Rattle.ldm_relay.specs.declared.message.SoonAnswer.{SoonAnswer}
use Rattle.ldm_relay.specs.declared.message.SoonAnswer.TheVariants as soon_answer
use Rattle.ldm_relay.specs.declared.procedure.Procedure.TheVariants as procedure
use Rattle.ldm_relay.specs.Procedure.{number_of}
use Rattle.ldm_relay.specs.Reading.{call_of, reply_of}
use Rattle.ldm_relay.specs.Sent.{Sent}
use Rattle.ldm_relay.specs.Sent as sent
use Rattle.ldm_relay.specs.Spelling.{reply_header, written, records_of}
use Rattle.ldm_session.specs.Owed.{AreReplies, Code, Said, hand_given}
use Rattle.ldm_intake.specs.declared.phase.Pending.{Pending}
use Rattle.ldm_intake.specs.declared.phase.Phase.{Phase}
use Rattle.ldm_intake.specs.declared.phase.Phase.TheVariants.{Feeding as InFeed}
use Rattle.ldm_intake.specs.Course.{Course, Comes, Asks, Leads}
use Rattle.ldm_intake.specs.Notes.{Note, Unwanted}
use Rattle.ldm_intake.specs.Products.{accepts, blkdata_of, commits, comingsoon_wanted, declines, fills, hereis_wanted, is_next, reserve_note, reserved}
use Rattle.ldm_intake.specs.Receiving.{Receiving, is_wanted, left_of, with_last}
use Rattle.ldm_intake.specs.Record.{call_course, course_in, record_course}
use Rattle.ldm_intake.specs.Step.{Step, Goes, Bad, Declined}
use Rattle.ldm_intake.specs.Taken.{Arrival, Taken, after_step, taken, taken_none}
use Rattle.ldm_intake.proofs.Courses.{leads-then_parts}
use Rattle.ldm_upstream.specs.Feeding.{codes_of}
use Rattle.ldm_downstream.specs.Pieces.{arrivals}
use Rattle.ldm_downstream.specs.Received.{received}
use Rattle.ldm_between_ends.specs.Codes.{Agree, soon_codes}
use Rattle.ldm_between_ends.specs.Passing.{Carries, HasAsked, IsGranted, Passing, moments_of, record_at}
use Rattle.ldm_between_ends.specs.StreamLaws.{StreamLaws}
use Rattle.ldm_between_ends.proofs.Arriving.{behind_first, content_first, one_record}
use Rattle.ldm_between_ends.proofs.Calling.{IsCall, NumberFits, each-call, number-fits}
use Rattle.ldm_between_ends.proofs.EachMessage.{behind_reply, holds-behind_reply}
use Rattle.ldm_between_ends.proofs.Growing.{comes-made, none-taken}
use Rattle.ldm_between_ends.proofs.Leading.{granted-came, granted-leads}
use Rattle.ldm_between_ends.proofs.Messages.{Again, fed, so_far}
use Rattle.ldm_between_ends.proofs.Reaching.{First}
use Rattle.ldm_between_ends.proofs.Sizes.{reply_header-length}

-- the reply to an announcement whose number fits
abbrev pub IsSoonReply : Sent → Type 0
IsSoonReply (sent.ComingsoonReply xid answer) = xid < 2 ^ 32
IsSoonReply _ = ⊥

abbrev pub AreSoonReplies : List Sent → Type 0
AreSoonReplies replies = AllByRecursion IsSoonReply replies

-- ---- one record of a feed

-- what a course comes to, whatever the queue replies
abbrev pub Always : (Step → Type 0) → Course Step → Type 0
Always P (Comes to) = P to
Always P (Asks event on) = (reply : Reply) → Always P (on reply)

pub always-leads : (actor : ℕ) (P : Step → Type 0) (c : Course Step) (made : List Entry) (to : Step) → Always P c → Leads actor c made to → P to
always-leads actor P (Comes x) [] to always leads = subst P leads always
always-leads actor P (Comes x) (entry ∷ made) to always leads = absurd leads
always-leads actor P (Asks event on) [] to always leads = absurd leads
always-leads actor P (Asks event on) (entry ∷ made) to always leads = always-leads actor P (on entry.reply) made to (always entry.reply) leads.1

pub by-if : (P : Step → Type 0) (b : Bool) (c d : Course Step) → Always P c → Always P d → Always P (if b then c else d)
by-if P true c d first second = first
by-if P false c d first second = second

-- a step that stays in the feed, and replies to an announcement or not
abbrev StaysInFeed : Step → Type 0
StaysInFeed (Goes s replies notes) = (s.phase ≡ InFeed) × AreSoonReplies replies
StaysInFeed Bad = Unit {0}
StaysInFeed (Declined answer) = Unit {0}

abbrev Stays : Course Step → Type 0
Stays c = Always StaysInFeed c

module _ (s : Receiving) (now : ℕ) (phase : s.phase ≡ InFeed) where
  commits-stays : (replies : List Sent) (info : Metadata) (r : ℕ) → AreSoonReplies replies → Stays (commits s now replies info r)
  commits-stays replies info r soon = λ reply. (phase, soon)

  declines-stays : (xid : ℕ) (info : Metadata) (notes : List Note) → xid < 2 ^ 32 → Stays (declines s xid info notes)
  declines-stays xid info notes small = (phase, (small, tt))

  accepts-stays : (xid : ℕ) (info : Metadata) (r : ℕ) → xid < 2 ^ 32 → Stays (accepts s now xid info r)
  accepts-stays xid info r small =
      by-if StaysInFeed (info.size == 0) (commits s now (sent.ComingsoonReply xid soon_answer.Ok ∷ []) info r)
      (Comes (Goes (record s { pending = Some (record { info = info; r = r; blocks = 0 }) }) (sent.ComingsoonReply xid soon_answer.Ok ∷ []) []))
      (commits-stays (sent.ComingsoonReply xid soon_answer.Ok ∷ []) info r (small, tt)) (phase, (small, tt))

  reserved-stays : (xid : ℕ) (info : Metadata) → xid < 2 ^ 32 → (reply : Reply) → Stays (reserved s now xid info reply)
  reserved-stays xid info small (Reserved r evicted) = accepts-stays xid info r small
  reserved-stays xid info small reply = declines-stays xid info (reserve_note info reply) small

  block-stays : (signature : List ℕ) (number : ℕ) (block : List ℕ) (pending : Option Pending) → Stays (blkdata_of s now signature number block pending)
  block-stays signature number block None = tt
  block-stays signature number block (Some pending) =
      by-if StaysInFeed (is_next pending signature number block) (fills s now pending block) (Comes Bad)
      (λ reply. by-if StaysInFeed (nat_le (left_of pending) (length block)) (commits s now [] pending.info pending.r)
      (Comes (Goes (record s { pending = Some (record pending { blocks = pending.blocks + 1 }) }) [] []))
      (commits-stays [] pending.info pending.r tt) (phase, tt)) tt

  call-stays : (r : Result Sent RelayFault) → ((xid : ℕ) (info : Metadata) (size : ℕ) → r ≡ Ok (sent.Comingsoon xid info size) → xid < 2 ^ 32) → Stays (call_course s now r)
  call-stays (Ok (sent.Hereis xid info body)) small =
      by-if StaysInFeed (is_none s.pending) (if is_wanted s.wanting info then hereis_wanted s now info body else Comes (Goes (with_last s info) [] (Unwanted info.ident ∷ []))) (Comes Bad)
      (by-if StaysInFeed (is_wanted s.wanting info) (hereis_wanted s now info body) (Comes (Goes (with_last s info) [] (Unwanted info.ident ∷ []))) (λ reply. (phase, tt)) (phase, tt)) tt
  call-stays (Ok (sent.Comingsoon xid info block_size)) small =
      let fits = small xid info block_size refl in
      by-if StaysInFeed (is_none s.pending && (block_size == LARGEST_BLOCK))
      (if is_wanted s.wanting info then comingsoon_wanted s now xid info else declines s xid info (Unwanted info.ident ∷ [])) (Comes Bad)
      (by-if StaysInFeed (is_wanted s.wanting info) (comingsoon_wanted s now xid info) (declines s xid info (Unwanted info.ident ∷ [])) (reserved-stays xid info fits)
      (declines-stays xid info (Unwanted info.ident ∷ []) fits)) tt
  call-stays (Ok (sent.Blkdata xid signature number block)) small = block-stays signature number block s.pending
  call-stays (Ok (sent.Isalive xid)) small = (phase, tt)
  call-stays r small = tt

-- ---- all records of a feed

soon-append : (first second : List Sent) → AreSoonReplies first → AreSoonReplies second → AreSoonReplies (first ++ second)
soon-append [] second firsts seconds = seconds
soon-append (m ∷ first) second firsts seconds = (firsts.0, soon-append first second firsts.1 seconds)

abbrev NumbersFit : List Arrival → Type 0
NumbersFit came = AllByRecursion (λ (a : Arrival). NumberFits a.content) came

replies-soon : (actor : ℕ) (u : Taken) (came : List Arrival) (made : List Entry) (t : Taken) → u.receiving.phase ≡ InFeed → AreSoonReplies u.replies → NumbersFit came
    → Leads actor (taken u came) made t → AreSoonReplies t.replies
unfolding taken
replies-soon actor u [] made t phase soon small leads = subst (λ (v : Taken). AreSoonReplies v.replies) (comes-made actor u made t leads).1 soon
replies-soon actor u (a ∷ came) made t phase soon small leads =
    let onward : Taken → Course Taken = λ next. taken next came in
    let parts = leads-then_parts actor (record_course u.receiving a.now a.content) (after_step u a.at onward) made t leads in
    let first : Leads actor (course_in InFeed u.receiving a.now a.content) parts.made parts.mid =
    subst (λ (p : Phase). Leads actor (course_in p u.receiving a.now a.content) parts.made parts.mid) phase parts.first in
    let stays = always-leads actor StaysInFeed (call_course u.receiving a.now (call_of a.content)) parts.made parts.mid
    (call-stays u.receiving a.now phase (call_of a.content) small.0) first in
    (elim parts.mid as (λ (v : Step). StaysInFeed v → Leads actor (after_step u a.at (λ (next : Taken). taken next came) v) parts.more t → AreSoonReplies t.replies) [
      | Goes s replies notes ↦ λ keeps later.
          replies-soon actor (record u { receiving = s; replies = u.replies ++ replies; notes = u.notes ++ notes }) came parts.more t keeps.0
          (soon-append u.replies replies soon keeps.1) small.1 later
      | Bad ↦ λ keeps later. subst (λ (v : Taken). AreSoonReplies v.replies) (comes-made actor _ parts.more t later).1 soon
      | Declined answer ↦ λ keeps later. subst (λ (v : Taken). AreSoonReplies v.replies) (comes-made actor _ parts.more t later).1 soon
    ]) stays parts.second

came-fit : Again → (moments : List ℕ) (ms : List Sent) (came : List Arrival) (behind : List Sent) → AllByRecursion IsCall ms → First moments ms came behind → NumbersFit came
came-fit again moments [] [] behind calls first = tt
came-fit again moments [] (a ∷ came) behind calls first = absurd first
came-fit again moments (m ∷ ms) [] behind calls first = tt
came-fit again moments (m ∷ ms) (a ∷ came) behind calls first =
    (subst NumberFits (sym first.0) (number-fits again m calls.0), came-fit again moments ms came behind calls.1 first.2)

-- ---- what the feeder reads

agree-said : Again → (codes : List Code) (records : List Placed) (rest : List Placed) (replies : List Sent) (at : ℕ) → placed at (map one_record replies) ≡ records ++ rest
    → AreReplies codes records → AreSoonReplies replies → Agree codes (soon_codes replies)
unfolding placed
agree-said again [] records rest replies at same are soon = tt
agree-said again (code ∷ codes) [] rest replies at same are soon = absurd are
agree-said again (code ∷ codes) (p ∷ records) rest [] at same are soon = absurd (cc same)
agree-said again (code ∷ codes) (p ∷ records) rest (sent.ComingsoonReply xid answer ∷ replies) at same are soon =
    let m : Sent = sent.ComingsoonReply xid answer in
    let content : written (sent.ComingsoonReply xid answer) ≡ p.content = ap content_first same in
    let is : ◌≡◌ {A = Result Sent RelayFault} (Ok (sent.ComingsoonReply xid answer)) (Ok (sent.ComingsoonReply code.xid code.answer)) =
    sym (again m soon.0) ∙ ap (reply_of (number_of procedure.Comingsoon)) content ∙ are.0 in
    let number : code.xid ≡ xid = cc is in
    let says : code.answer ≡ answer = cc is in
    let told : code ≡ record { xid = xid; answer = answer } =
    ap (λ (n : ℕ). record { xid = n; answer = code.answer }) number ∙ ap (λ (a : SoonAnswer). record { xid = xid; answer = a }) says in
    (told, agree-said again codes records rest replies (at + length (spelling (one_record (sent.ComingsoonReply xid answer)))) (ap behind_first same) are.1 soon.1)
agree-said again (code ∷ codes) (p ∷ records) rest (m ∷ replies) at same are soon = absurd soon.0

soon-length : (xid : ℕ) (answer : SoonAnswer) → length (written (sent.ComingsoonReply xid answer)) ≡ 28
unfolding written
soon-length xid soon_answer.Ok = omega (arith, length-append (reply_header xid) (unsigned 0), reply_header-length xid, length_unsigned 0)
soon-length xid soon_answer.DontSend = omega (arith, length-append (reply_header xid) (unsigned 1), reply_header-length xid, length_unsigned 1)

pub soon-fits : (replies : List Sent) → AreSoonReplies replies → All (RecordFits LARGEST_REPLY) (map one_record replies)
soon-fits [] soon = All-nil (RecordFits LARGEST_REPLY)
soon-fits (sent.ComingsoonReply xid answer ∷ replies) soon =
    let len = soon-length xid answer in
    All-cons (RecordFits LARGEST_REPLY) (one_record (sent.ComingsoonReply xid answer)) (map one_record replies)
    (record { before = All-nil IsShort; last = omega (arith, len); within = omega (arith, len) }) (soon-fits replies soon.1)
soon-fits (m ∷ replies) soon = absurd soon.0

pub replies-bytes : (replies : List Sent) → records_of replies ≡ flat_map spelling (map one_record replies)
replies-bytes [] = refl
replies-bytes (m ∷ replies) = ap (λ (x : List ℕ). spelling (one_record m) ++ x) (replies-bytes replies)

-- the records of all replies: those that were read as replies, those behind them, and those that the bytes behind these complete
pub placed-all : StreamLaws → (codes : List Code) (behind : List Placed) (given more : List ℕ) (replies : List Sent) (said : Said given codes behind)
    → given ++ more ≡ records_of replies → AreSoonReplies replies → placed 0 (map one_record replies) ≡ said.replies ++ (behind ++ records_in (hand_given given) more)
unfolding records_in
placed-all laws codes behind given more replies said is soon =
    let start = at_start LARGEST_REPLY in
    let all = map one_record replies in
    let rest = records_in (hand_given given) more in
    sym (append-nil (placed 0 all))
    ∙ sym (laws.records LARGEST_REPLY 0 all [] (soon-fits replies soon))
    ∙ ap (records_in start) (append-nil (flat_map spelling all) ∙ sym (replies-bytes replies) ∙ sym is)
    ∙ records-append start given more
    ∙ ap (λ (x : List Placed). x ++ rest) said.records_are
    ∙ append_assoc said.replies behind rest

pub agree-given : Again → StreamLaws → (codes : List Code) (behind : List Placed) (given more : List ℕ) (replies : List Sent) → Said given codes behind
    → given ++ more ≡ records_of replies → AreSoonReplies replies → Agree codes (soon_codes replies)
agree-given again laws codes behind given more replies said is soon =
    agree-said again codes said.replies (behind ++ records_in (hand_given given) more) replies 0
    (placed-all laws codes behind given more replies said is soon) said.each soon

-- ---- a feeding that comes to a receiver

soon-by : Again → (actor : ℕ) (moments : List ℕ) (p : Passing) (u : Taken) (behind : List Sent) → HasAsked p.asked p.begins → AllByRecursion IsCall (behind_reply p.feeding)
    → (came : List Arrival) (made : List Entry) → First moments (sent.FeedmeReply p.asked.xid class_answer.Ok ∷ behind_reply p.feeding) came behind
    → Leads actor (taken (taken_none p.begins) came) made u → AreSoonReplies u.replies
soon-by again actor moments p u behind asker calls [] made first leads =
    subst (λ (v : Taken). AreSoonReplies v.replies) (none-taken actor (taken_none p.begins) made u leads).1 tt
soon-by again actor moments p u behind asker calls (a ∷ came) made first leads =
    let s = p.begins in
    replies-soon actor (so_far (fed s.wanting s.max_hereis s.last) [] []) came made u refl tt (came-fit again moments (behind_reply p.feeding) came behind calls first.2)
    (granted-leads again actor p.asked s asker a came made u first.0 leads)

module _ (again : Again) (laws : StreamLaws) (p : Passing) (granted : IsGranted p.asked p.feeding) (asker : HasAsked p.asked p.begins) (carries : Carries p)
    (leads : Leads p.actor (received p.begins (record_at p.at) p.pieces) p.made p.came_to) where
  pub all-soon : AreSoonReplies p.came_to.replies
  all-soon =
      let came = granted-came laws p carries leads granted in
      let calls = holds-behind_reply IsCall each-call p.asked p.feeding granted in
      let soon = soon-by again p.actor (moments_of p.pieces) p came.mid came.behind asker calls (arrivals (record_at p.at) p.pieces) p.made came.first came.leads in
      subst (λ (v : Taken). AreSoonReplies v.replies) came.ends soon

  -- what was read as replies is what was replied
  pub agree-heard : (given more : List ℕ) (behind : List Placed) → Said given (codes_of p.feeding) behind → given ++ more ≡ records_of p.came_to.replies
      → Agree (codes_of p.feeding) (soon_codes p.came_to.replies)
  agree-heard given more behind said is = agree-given again laws (codes_of p.feeding) behind given more p.came_to.replies said is all-soon
