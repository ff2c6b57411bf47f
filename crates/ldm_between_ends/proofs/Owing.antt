-- A receiver replies to each announcement, and a feeder that hears these replies hears no other record.
use Rattle.std.proofs.Common.{◌≡◌, ℕ, ◌+◌, true, false, List, [], ◌∷◌, ◌++◌, length, Option, Some, None, Result, Ok, refl, ap, sym, subst, ◌∙◌, append_assoc}
use Rattle.std.specs.Prelude.{map, is_none, nat_le, ◌==◌, ◌&&◌, if◌then◌else◌}
use Rattle.std.specs.List.{flat_map, AllByRecursion}
use Rattle.std.proofs.lemmas.List.{append-nil}
use Rattle.std.proofs.lemmas.List.Concat.{flat_map-append}
use Rattle.ldm_types.specs.Info.{Metadata}
use Rattle.ldm_model.specs.declared.event.Reply.{Reply}
use Rattle.ldm_model.specs.declared.event.Reply.TheVariants.{Reserved}
use Rattle.ldm_model.specs.declared.event.Entry.{Entry}
use Rattle.ldm_rpc.specs.declared.fault.RpcFault.TheVariants.{TooLong}
use Rattle.ldm_rpc.specs.declared.stage.Stage.{Stage}
use Rattle.ldm_rpc.specs.declared.stage.Stage.TheVariants.{Faulty}
use Rattle.ldm_rpc.specs.Reading.{is_faulty, is_faulty_at}
use Rattle.ldm_rpc.specs.Spelling.{spelling}
use Rattle.ldm_rpc.specs.Streams.{Placed, Position, at_start, in_hand, placed, records_in}
use Rattle.ldm_relay.specs.declared.fault.RelayFault.{RelayFault}
use Rattle.ldm_relay.specs.declared.message.ClassAnswer.TheVariants as class_answer
use Rattle.ldm_relay.specs.declared.message.SoonAnswer.{SoonAnswer}
use Rattle.ldm_relay.specs.declared.message.SoonAnswer.TheVariants as soon_answer
use Rattle.ldm_relay.specs.declared.message.TheConstants.{LARGEST_BLOCK, LARGEST_REPLY}
use Rattle.ldm_relay.specs.declared.procedure.Procedure.TheVariants as procedure
use Rattle.ldm_relay.specs.Procedure.{number_of}
use Rattle.ldm_relay.specs.Reading.{Kind, call_of, read_as, reply_of}
use Rattle.ldm_relay.specs.Sent.{Sent}
use Rattle.ldm_relay.specs.Sent as sent
use Rattle.ldm_relay.specs.Spelling.{written, records_of}
use Rattle.ldm_session.specs.Owed.{AreReplies, Code, IsNoReply, IsReplyTo, Said, hand_given}
use Rattle.ldm_intake.specs.declared.end.RecvEnd.{RecvEnd}
use Rattle.ldm_intake.specs.declared.end.RecvEnd.TheVariants.{BadFrame, Refused}
use Rattle.ldm_intake.specs.declared.phase.Pending.{Pending}
use Rattle.ldm_intake.specs.declared.phase.Phase.{Phase}
use Rattle.ldm_intake.specs.declared.phase.Phase.TheVariants.{Feeding as InFeed}
use Rattle.ldm_intake.specs.Course.{Course, Comes, Leads}
use Rattle.ldm_intake.specs.Notes.{Unwanted}
use Rattle.ldm_intake.specs.Products.{accepts, blkdata_of, commits, comingsoon_wanted, declines, fills, hereis_wanted, is_next, reserved}
use Rattle.ldm_intake.specs.Receiving.{Receiving, is_wanted, left_of, with_last}
use Rattle.ldm_intake.specs.Record.{call_course, course_in, record_course}
use Rattle.ldm_intake.specs.Step.{Step, Goes, Bad, Declined}
use Rattle.ldm_intake.specs.Taken.{Arrival, Taken, after_step, taken, taken_none}
use Rattle.ldm_intake.proofs.Courses.{leads-then_parts}
use Rattle.ldm_sender.specs.Calls.{later_call}
use Rattle.ldm_sender.specs.declared.standing.Standing.{Standing}
use Rattle.ldm_upstream.specs.Blocks.{blocks}
use Rattle.ldm_upstream.specs.Turn.{Given, Turn, Lost, Gave, Quiet, Alive, block_messages, after_turn}
use Rattle.ldm_upstream.specs.Turn as turn
use Rattle.ldm_upstream.specs.Turns.{after_turns, codes_of_turns, messages_of_turns}
use Rattle.ldm_upstream.specs.Feeding.{Last, Unanswered, begun, codes_of, last_messages, stands}
use Rattle.ldm_downstream.specs.Pieces.{arrivals, hand}
use Rattle.ldm_downstream.specs.Received.{end_behind}
use Rattle.ldm_between_ends.specs.Passing.{CarriesAll, IsPassing, Passing, moments_of, record_at}
use Rattle.ldm_between_ends.specs.StreamLaws.{StreamLaws}
use Rattle.ldm_between_ends.proofs.Arriving.{behind_first, content_first, one_record, part-records, record_bytes}
use Rattle.ldm_between_ends.proofs.Calling.{IsCall, each-call}
use Rattle.ldm_between_ends.proofs.EachMessage.{behind_reply, holds-behind_reply}
use Rattle.ldm_between_ends.proofs.Growing.{comes-made}
use Rattle.ldm_between_ends.proofs.Joining.{joins}
use Rattle.ldm_between_ends.proofs.Leading.{granted-came, granted-leads}
use Rattle.ldm_between_ends.proofs.Messages.{Again, fed, so_far}
use Rattle.ldm_between_ends.proofs.Pieces.{rest-reads}
use Rattle.ldm_between_ends.proofs.Reaching.{First}
use Rattle.ldm_between_ends.proofs.Saying.{Always, AreSoonReplies, all-soon, always-leads, by-if, placed-all, replies-bytes, soon-fits}
use Rattle.ldm_between_ends.proofs.Splitting.{splits}
use Rattle.ldm_between_ends.proofs.Taking.{some-left}

-- ---- numbers

-- the numbers of the announcements that were replied to
abbrev number_in : Sent → List ℕ
number_in (sent.ComingsoonReply xid answer) = xid ∷ []
number_in _ = []

abbrev numbers : List Sent → List ℕ
numbers replies = flat_map number_in replies

-- the numbers of the announcements that were made
abbrev announced_in : Sent → List ℕ
announced_in (sent.Comingsoon xid info size) = xid ∷ []
announced_in _ = []

abbrev announced : List Sent → List ℕ
announced messages = flat_map announced_in messages

abbrev code_number : Code → ℕ
code_number code = code.xid

-- ---- one record of a feed

-- a step that stays in the feed, and replies to these announcements
abbrev Replies : List ℕ → Step → Type 0
Replies xids (Goes s replies notes) = (s.phase ≡ InFeed) × (numbers replies ≡ xids)
Replies xids Bad = Unit {0}
Replies xids (Declined answer) = Unit {0}

abbrev AlwaysReplies : List ℕ → Course Step → Type 0
AlwaysReplies xids c = Always (Replies xids) c

module _ (s : Receiving) (now : ℕ) (phase : s.phase ≡ InFeed) where
  accepts-replies : (xid : ℕ) (info : Metadata) (r : ℕ) → AlwaysReplies (xid ∷ []) (accepts s now xid info r)
  accepts-replies xid info r =
      by-if (Replies (xid ∷ [])) (info.size == 0) (commits s now (sent.ComingsoonReply xid soon_answer.Ok ∷ []) info r)
      (Comes (Goes (record s { pending = Some (record { info = info; r = r; blocks = 0 }) }) (sent.ComingsoonReply xid soon_answer.Ok ∷ []) []))
      (λ reply. (phase, refl)) (phase, refl)

  reserved-replies : (xid : ℕ) (info : Metadata) (reply : Reply) → AlwaysReplies (xid ∷ []) (reserved s now xid info reply)
  reserved-replies xid info (Reserved r evicted) = accepts-replies xid info r
  reserved-replies xid info reply = (phase, refl)

  block-replies : (signature : List ℕ) (number : ℕ) (block : List ℕ) (pending : Option Pending) → AlwaysReplies [] (blkdata_of s now signature number block pending)
  block-replies signature number block None = tt
  block-replies signature number block (Some pending) =
      by-if (Replies []) (is_next pending signature number block) (fills s now pending block) (Comes Bad)
      (λ reply. by-if (Replies []) (nat_le (left_of pending) (length block)) (commits s now [] pending.info pending.r)
      (Comes (Goes (record s { pending = Some (record pending { blocks = pending.blocks + 1 }) }) [] []))
      (λ answer. (phase, refl)) (phase, refl)) tt

  call-replies : (m : Sent) → AlwaysReplies (announced_in m) (call_course s now (Ok m))
  call-replies (sent.Hereis xid info body) =
      by-if (Replies []) (is_none s.pending) (if is_wanted s.wanting info then hereis_wanted s now info body else Comes (Goes (with_last s info) [] (Unwanted info.ident ∷ []))) (Comes Bad)
      (by-if (Replies []) (is_wanted s.wanting info) (hereis_wanted s now info body) (Comes (Goes (with_last s info) [] (Unwanted info.ident ∷ []))) (λ reply. (phase, refl)) (phase, refl)) tt
  call-replies (sent.Comingsoon xid info block_size) =
      by-if (Replies (xid ∷ [])) (is_none s.pending && (block_size == LARGEST_BLOCK))
      (if is_wanted s.wanting info then comingsoon_wanted s now xid info else declines s xid info (Unwanted info.ident ∷ [])) (Comes Bad)
      (by-if (Replies (xid ∷ [])) (is_wanted s.wanting info) (comingsoon_wanted s now xid info) (declines s xid info (Unwanted info.ident ∷ [])) (reserved-replies xid info)
      (phase, refl)) tt
  call-replies (sent.Blkdata xid signature number block) = block-replies signature number block s.pending
  call-replies (sent.Isalive xid) = (phase, refl)
  call-replies m = tt

-- ---- all records of a feed

goes-on : (end : Option RecvEnd) (t : Taken) (u : Taken) → u ≡ t → u.end ≡ end → t.end ≡ None → end ≡ None
goes-on end t u is over live = sym over ∙ ap (λ (v : Taken). v.end) is ∙ live

all-replied : (again : Again) (actor : ℕ) (moments : List ℕ) (ms : List Sent) (came : List Arrival) (u : Taken) (made : List Entry) (t : Taken) → u.receiving.phase ≡ InFeed
    → AllByRecursion IsCall ms → First moments ms came [] → t.end ≡ None → Leads actor (taken u came) made t → numbers t.replies ≡ numbers u.replies ++ announced ms
unfolding taken
all-replied again actor moments [] [] u made t phase calls first live leads =
    ap (λ (v : Taken). numbers v.replies) (sym (comes-made actor u made t leads).1) ∙ sym (append-nil (numbers u.replies))
all-replied again actor moments [] (a ∷ came) u made t phase calls first live leads = absurd first
all-replied again actor moments (m ∷ ms) [] u made t phase calls first live leads = absurd (some-left m ms [] first refl)
all-replied again actor moments (m ∷ ms) (a ∷ came) u made t phase calls first live leads =
    let onward : Taken → Course Taken = λ next. taken next came in
    let parts = leads-then_parts actor (record_course u.receiving a.now a.content) (after_step u a.at onward) made t leads in
    let in_feed : Leads actor (course_in InFeed u.receiving a.now a.content) parts.made parts.mid =
    subst (λ (p : Phase). Leads actor (course_in p u.receiving a.now a.content) parts.made parts.mid) phase parts.first in
    let read : call_of a.content ≡ Ok m =
    ap call_of first.0 ∙ subst (λ (k : Kind). read_as k (written m) ≡ Ok m) calls.0.call (again m calls.0.fits) in
    let of_message : Leads actor (call_course u.receiving a.now (Ok m)) parts.made parts.mid =
    subst (λ (r : Result Sent RelayFault). Leads actor (call_course u.receiving a.now r) parts.made parts.mid) read in_feed in
    let step = always-leads actor (Replies (announced_in m)) (call_course u.receiving a.now (Ok m)) parts.made parts.mid (call-replies u.receiving a.now phase m) of_message in
    (elim parts.mid as (λ (v : Step). Replies (announced_in m) v → Leads actor (after_step u a.at (λ (next : Taken). taken next came) v) parts.more t
    → numbers t.replies ≡ numbers u.replies ++ announced (m ∷ ms)) [
      | Goes s replies notes ↦ λ keeps later.
          all-replied again actor moments ms came (record u { receiving = s; replies = u.replies ++ replies; notes = u.notes ++ notes }) parts.more t keeps.0 calls.1 first.2 live later
          ∙ ap (λ (x : List ℕ). x ++ announced ms) (flat_map-append number_in u.replies replies ∙ ap (λ (x : List ℕ). numbers u.replies ++ x) keeps.1)
          ∙ append_assoc (numbers u.replies) (announced_in m) (announced ms)
      | Bad ↦ λ keeps later.
          let no = goes-on (Some (BadFrame a.at)) t _ (comes-made actor _ parts.more t later).1 refl live in absurd (cc no)
      | Declined answer ↦ λ keeps later.
          let no = goes-on (Some (Refused answer)) t _ (comes-made actor _ parts.more t later).1 refl live in absurd (cc no)
    ]) step parts.second

-- ---- the announcements of a feeding

blocks-announced : (xid : ℕ) (signature : List ℕ) (i : ℕ) (bs : List (List ℕ)) (behind : List Sent) → announced (block_messages xid signature i bs ++ behind) ≡ announced behind
blocks-announced xid signature i [] behind = refl
blocks-announced xid signature i (block ∷ bs) behind = blocks-announced (later_call xid 1) signature (i + 1) bs behind

turns-announced : (turns : List Turn) (standing : Standing) (last : Last)
    → announced (messages_of_turns standing turns ++ last_messages (after_turns standing turns).next last)
    ≡ map code_number (codes_of_turns standing turns) ++ announced (last_messages (after_turns standing turns).next last)
turns-announced [] standing last = refl
turns-announced (Lost count first final ∷ turns) standing last = turns-announced turns standing last
turns-announced (Quiet end now ∷ turns) standing last = turns-announced turns standing last
turns-announced (Alive end now at ∷ turns) standing last = turns-announced turns (after_turn standing (Alive end now at)) last
turns-announced (Gave given turn.Passed ∷ turns) standing last = turns-announced turns standing last
turns-announced (Gave given (turn.Whole at) ∷ turns) standing last = turns-announced turns (after_turn standing (Gave given (turn.Whole at))) last
turns-announced (Gave given (turn.Declined at) ∷ turns) standing last =
    ap (λ (x : List ℕ). standing.next ∷ x) (turns-announced turns (after_turn standing (Gave given (turn.Declined at))) last)
turns-announced (Gave given (turn.InBlocks at blocks_at) ∷ turns) standing last =
    let behind_it = after_turn standing (Gave given (turn.InBlocks at blocks_at)) in
    let signature = given.product.info.signature in
    let body_messages = block_messages (later_call standing.next 1) signature 0 (blocks given.product.body) in
    let others = messages_of_turns behind_it turns in
    let last_ones = last_messages (after_turns behind_it turns).next last in
    ap (λ (x : List ℕ). standing.next ∷ x)
    (ap announced (append_assoc body_messages others last_ones)
    ∙ blocks-announced (later_call standing.next 1) signature 0 (blocks given.product.body) (others ++ last_ones)
    ∙ turns-announced turns behind_it last)

-- ---- what the feeder reads

rest_of : List ℕ → List ℕ
rest_of [] = []
rest_of (n ∷ ns) = ns

-- the record behind the replies is the reply to the next announcement
next-reply : Again → (next : ℕ) (codes : List Code) (records : List Placed) (p : Placed) (rest : List Placed) (replies : List Sent) (at : ℕ)
    → placed at (map one_record replies) ≡ records ++ p ∷ rest → AreReplies codes records → AreSoonReplies replies → numbers replies ≡ map code_number codes ++ next ∷ []
    → (answer : SoonAnswer) × IsReplyTo next answer p.content
unfolding placed rest_of
next-reply again next [] [] p rest [] at same are soon all = absurd (cc all)
next-reply again next [] [] p rest (sent.ComingsoonReply xid answer ∷ replies) at same are soon all =
    let m : Sent = sent.ComingsoonReply xid answer in
    let number : xid ≡ next = cc all in
    let content : written (sent.ComingsoonReply xid answer) ≡ p.content = ap content_first same in
    (answer, subst (λ (n : ℕ). IsReplyTo n answer p.content) number (ap (reply_of (number_of procedure.Comingsoon)) (sym content) ∙ again m soon.0))
next-reply again next [] [] p rest (m ∷ replies) at same are soon all = absurd soon.0
next-reply again next [] (r ∷ records) p rest replies at same are soon all = absurd are
next-reply again next (code ∷ codes) [] p rest replies at same are soon all = absurd are
next-reply again next (code ∷ codes) (r ∷ records) p rest [] at same are soon all = absurd (cc all)
next-reply again next (code ∷ codes) (r ∷ records) p rest (sent.ComingsoonReply xid answer ∷ replies) at same are soon all =
    next-reply again next codes records p rest replies (at + length (spelling (one_record (sent.ComingsoonReply xid answer)))) (ap behind_first same) are.1 soon.1 (ap rest_of all)
next-reply again next (code ∷ codes) (r ∷ records) p rest (m ∷ replies) at same are soon all = absurd soon.0

soon-front : (front behind : List Sent) → AreSoonReplies (front ++ behind) → AreSoonReplies front
soon-front [] behind soon = tt
soon-front (m ∷ front) behind soon = (soon.0, soon-front front behind soon.1)

soon-behind : (front behind : List Sent) → AreSoonReplies (front ++ behind) → AreSoonReplies behind
soon-behind [] behind soon = soon
soon-behind (m ∷ front) behind soon = soon-behind front behind soon.1

-- a reader of whole replies has no fault
not-faulty : (stage : Stage) (place : ℕ) → is_faulty_at stage ≡ false → stage ≡ Faulty (TooLong place) → ⊥
not-faulty stage place sound is = let no : false ≡ true = sym sound ∙ ap is_faulty_at is in cc no

sound-given : (laws : StreamLaws) (replies : List Sent) (given more : List ℕ) → AreSoonReplies replies → given ++ more ≡ records_of replies
    → is_faulty (hand_given given).reading ≡ false
unfolding in_hand
sound-given laws replies given more soon is =
    let cut = splits record_bytes replies given more is in
    let records = map one_record cut.front in
    let soons : AreSoonReplies (cut.front ++ cut.behind) = subst AreSoonReplies (sym cut.all) soon in
    let front_fits = soon-fits cut.front (soon-front cut.front cut.behind soons) in
    let behind_fits = soon-fits cut.behind (soon-behind cut.front cut.behind soons) in
    let then_at = 0 + length (flat_map spelling records) in
    let reads = rest-reads laws LARGEST_REPLY then_at (map one_record cut.behind) cut.part behind_fits (part-records cut.behind cut.part cut.part_is) in
    let got_is : given ≡ flat_map spelling records ++ cut.part = cut.got_is ∙ ap (λ (x : List ℕ). x ++ cut.part) (replies-bytes cut.front) in
    ap (λ (x : List ℕ). is_faulty (in_hand (at_start LARGEST_REPLY) x).reading) got_is
    ∙ ap (λ (q : Position). is_faulty q.reading) (laws.hand LARGEST_REPLY 0 records cut.part front_fits)
    ∙ reads.sound

module _ (again : Again) (laws : StreamLaws) (codes : List Code) (next : ℕ) (given more : List ℕ) (replies : List Sent) (soon : AreSoonReplies replies)
    (all : numbers replies ≡ map code_number codes ++ next ∷ []) (is : given ++ more ≡ records_of replies) where
  -- what stands behind the replies is no other record
  no-other : (behind : List Placed) (at : ℕ) → Said given codes behind → IsNoReply next at given behind → ⊥
  no-other [] at said other = not-faulty (hand_given given).reading.stage other.1.0 (sound-given laws replies given more soon is) other.1.1
  no-other (p ∷ behind) at said other =
      let reply = next-reply again next codes said.replies p (behind ++ records_in (hand_given given) more) replies 0
      (placed-all laws codes (p ∷ behind) given more replies said is soon) said.each soon all in
      other.1 reply.0 reply.1

-- ---- a feeding that comes to a receiver

-- what bytes behind them do not end was not ended before
live-before : (q : Position) (end : Option RecvEnd) → end_behind q end ≡ None → end ≡ None
live-before q None is = refl
live-before q (Some end) is = absurd (cc is)

module _ (again : Again) (laws : StreamLaws) (p : Passing) (passing : IsPassing p) (carries : CarriesAll p) where
  numbers-by : (u : Taken) (came : List Arrival) (made : List Entry) → AllByRecursion IsCall (behind_reply p.feeding)
      → First (moments_of p.pieces) (sent.FeedmeReply p.asked.xid class_answer.Ok ∷ behind_reply p.feeding) came [] → u.end ≡ None
      → Leads p.actor (taken (taken_none p.begins) came) made u → numbers u.replies ≡ announced (behind_reply p.feeding)
  numbers-by u [] made calls first live leads = absurd (some-left (sent.FeedmeReply p.asked.xid class_answer.Ok) (behind_reply p.feeding) [] first refl)
  numbers-by u (a ∷ came) made calls first live leads =
      let s = p.begins in
      all-replied again p.actor (moments_of p.pieces) (behind_reply p.feeding) came (so_far (fed s.wanting s.max_hereis s.last) [] []) made u refl calls first.2 live
      (granted-leads again p.actor p.asked s passing.asker a came made u first.0 leads)

  all-numbers : numbers p.came_to.replies ≡ announced (behind_reply p.feeding)
  all-numbers =
      let came_to = arrivals (record_at p.at) p.pieces in
      let came = granted-came laws p passing.carries passing.leads passing.granted in
      let live = live-before (hand (record_at p.at) p.pieces) came.mid.end (ap (λ (v : Taken). v.end) came.ends ∙ (joins again laws p passing).live) in
      let first = subst (λ (x : List Sent). First (moments_of p.pieces) (sent.FeedmeReply p.asked.xid class_answer.Ok ∷ behind_reply p.feeding) came_to x)
      (came.whole carries) came.first in
      let calls = holds-behind_reply IsCall each-call p.asked p.feeding passing.granted in
      sym (ap (λ (v : Taken). numbers v.replies) came.ends) ∙ numbers-by came.mid came_to p.made calls first live came.leads

  pub answers-all : (product : Given) (sent_at at : ℕ) (given more : List ℕ) (behind : List Placed) → p.feeding.last ≡ Unanswered product sent_at
      → Said given (codes_of p.feeding) behind → given ++ more ≡ records_of p.came_to.replies → IsNoReply (stands p.feeding).next at given behind → ⊥
  answers-all product sent_at at given more behind last said is other =
      let next = (stands p.feeding).next in
      let codes = codes_of p.feeding in
      let all : numbers p.came_to.replies ≡ map code_number codes ++ next ∷ [] =
      all-numbers ∙ turns-announced p.feeding.turns (begun p.feeding) p.feeding.last
      ∙ ap (λ (l : Last). map code_number codes ++ announced (last_messages next l)) last in
      no-other again laws codes next given more p.came_to.replies (all-soon again laws p passing.granted passing.asker passing.carries passing.leads) all is behind at said other
