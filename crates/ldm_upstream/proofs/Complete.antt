-- A feeding whose announcements the peer answers ends as its request was answered.
use Rattle.std.proofs.Common.{◌≡◌, ◌∙◌, ℕ, ◌+◌, ◌^◌, ◌<◌, List, [], ◌∷◌, ◌++◌, length, Option, Some, None, Ok, inl, inr}
use Rattle.std.proofs.Common.{refl, ap, sym, subst, append_assoc, arith}
use Rattle.std.specs.Prelude.{All, map}
use Rattle.std.specs.List.{flat_map, AllByRecursion}
use Rattle.std.proofs.lemmas.List.{length-append}
use Rattle.std.proofs.lemmas.List.Elements.{All-nil, All-cons, recursion_from_All}
use Rattle.std.specs.Option.{option_map}
use Rattle.ldm_outside.specs.Session.{SessionRecord}
use Rattle.ldm_xdr.specs.Spelling.{unsigned}
use Rattle.ldm_xdr.proofs.Lengths.{length_unsigned}
use Rattle.ldm_rpc.specs.declared.fault.RpcFault.TheVariants.{TooLong}
use Rattle.ldm_rpc.specs.declared.stage.Stage.TheVariants.{Faulty}
use Rattle.ldm_rpc.specs.Reading.{is_open_at, is_whole_at}
use Rattle.ldm_rpc.specs.Spelling.{Record, Fits as RecordFits, IsShort, spelling}
use Rattle.ldm_rpc.specs.Streams.{Placed, Position, at_start, before_record, placed, records_in}
use Rattle.ldm_rpc.proofs.CallerLemmas.{reads_none, reads_fault}
use Rattle.ldm_rpc.proofs.Joined.{records-append}
use Rattle.ldm_rpc.proofs.Pushed.{after_end}
use Rattle.ldm_relay.specs.declared.message.SoonAnswer.{SoonAnswer}
use Rattle.ldm_relay.specs.declared.message.SoonAnswer.TheVariants as soon_answer
use Rattle.ldm_relay.specs.declared.message.TheConstants.{LARGEST_REPLY}
use Rattle.ldm_relay.specs.Fits.{Fits}
use Rattle.ldm_relay.specs.Reading.{kind_of, read_as}
use Rattle.ldm_relay.specs.Sent.{Sent}
use Rattle.ldm_relay.specs.Sent as sent
use Rattle.ldm_relay.specs.Spelling.{in_one, reply_header, written}
use Rattle.ldm_relay.proofs.Lengths.{length_reply_header}
use Rattle.ldm_shared.specs.Passes.{PassView}
use Rattle.ldm_session.specs.Owed.{AreReplies, Code, IsNoReply, IsReplyTo, Said, hand_given, records_given}
use Rattle.ldm_sender.specs.declared.end.SendEnd.{SendEnd}
use Rattle.ldm_sender.specs.declared.end.SendEnd.TheVariants as end
use Rattle.ldm_sender.specs.declared.standing.Standing.{Standing}
use Rattle.ldm_sender.specs.Asked.{Asked}
use Rattle.ldm_sender.specs.Calls.{later_call}
use Rattle.ldm_sender.specs.Deeds.{records_of}
use Rattle.ldm_sender.specs.Opening.{Answered, Denied, Reclassed, Busy, Opened}
use Rattle.ldm_upstream.specs.Blocks.{blocks}
use Rattle.ldm_upstream.specs.Turn.{Given, Turn, Lost, Gave, Quiet, Alive, Passed, Whole, Declined, InBlocks}
use Rattle.ldm_upstream.specs.Turn.{after_turn, block_messages}
use Rattle.ldm_upstream.specs.Turns.{after_turns, codes_of_turns, messages_of_turns}
use Rattle.ldm_upstream.specs.Feeding.{Feeding, Last, GoesOn, Stopped, Unanswered, MayTurn, begun, codes_of}
use Rattle.ldm_upstream.specs.Feeding.{last_messages, stands}
use Rattle.ldm_upstream.specs.Feeds.{Feeds}
use Rattle.ldm_upstream.specs.Complete.{HasCallsLeft, IsEndFor, NoneRose, RepliesTo, announced, announcements_of}
use Rattle.ldm_upstream.specs.Complete.{numbers_of, reply_for}

-- ---- the announcements of a feeding

abbrev all_announced : List Sent → List ℕ
all_announced messages = flat_map announced messages

blocks-announced : (xid : ℕ) (signature : List ℕ) (i : ℕ) (bs : List (List ℕ)) (behind : List Sent)
    → all_announced (block_messages xid signature i bs ++ behind) ≡ all_announced behind
blocks-announced xid signature i [] behind = refl
blocks-announced xid signature i (block ∷ bs) behind = blocks-announced (later_call xid 1) signature (i + 1) bs behind

-- those that were answered, and perhaps one that was not
turns-announced : (turns : List Turn) (standing : Standing) (last : Last)
    → all_announced (messages_of_turns standing turns ++ last_messages (after_turns standing turns).next last)
    ≡ numbers_of (codes_of_turns standing turns) ++ all_announced (last_messages (after_turns standing turns).next last)
turns-announced [] standing last = refl
turns-announced (Lost count first final ∷ turns) standing last = turns-announced turns standing last
turns-announced (Quiet end now ∷ turns) standing last = turns-announced turns standing last
turns-announced (Alive end now at ∷ turns) standing last =
    turns-announced turns (after_turn standing (Alive end now at)) last
turns-announced (Gave given Passed ∷ turns) standing last = turns-announced turns standing last
turns-announced (Gave given (Whole at) ∷ turns) standing last =
    turns-announced turns (after_turn standing (Gave given (Whole at))) last
turns-announced (Gave given (Declined at) ∷ turns) standing last =
    ap (λ (x : List ℕ). standing.next ∷ x) (turns-announced turns (after_turn standing (Gave given (Declined at))) last)
turns-announced (Gave given (InBlocks at blocks_at) ∷ turns) standing last =
    let behind_it = after_turn standing (Gave given (InBlocks at blocks_at)) in
    let signature = given.product.info.signature in
    let body_messages = block_messages (later_call standing.next 1) signature 0 (blocks given.product.body) in
    let others = messages_of_turns behind_it turns in
    let last_ones = last_messages (after_turns behind_it turns).next last in
    ap (λ (x : List ℕ). standing.next ∷ x)
    (ap all_announced (append_assoc body_messages others last_ones)
    ∙ blocks-announced (later_call standing.next 1) signature 0 (blocks given.product.body) (others ++ last_ones)
    ∙ turns-announced turns behind_it last)

-- where the last announcement was not answered
unanswered-announced : (asked : Asked) (feeding : Feeding) (given : Given) (at : ℕ) → feeding.last ≡ Unanswered given at
    → announcements_of asked feeding ≡ numbers_of (codes_of feeding) ++ (stands feeding).next ∷ []
unanswered-announced asked feeding given at last =
    turns-announced feeding.turns (begun feeding) feeding.last
    ∙ ap (λ (l : Last). numbers_of (codes_of feeding) ++ all_announced (last_messages (stands feeding).next l)) last

-- ---- what the peer sent

rest_of : List ℕ → List ℕ
rest_of [] = []
rest_of (n ∷ ns) = ns

behind_first : List Placed → List Placed
behind_first [] = []
behind_first (p ∷ ps) = ps

-- The first of these records is the reply to the announcement of that number.
record BeginsWithReply (xid : ℕ) (records : List Placed) : Type 0 where
  first : Placed
  others : List Placed
  is : records ≡ first ∷ others
  answer : SoonAnswer
  reply : IsReplyTo xid answer first.content

-- behind the replies to some announcements comes the one to the next
next-reply : (next : ℕ) (codes heard : List Code) (replies heard_replies behind tail : List Placed)
    → numbers_of codes ≡ numbers_of heard ++ next ∷ []
    → AreReplies codes replies → AreReplies heard heard_replies → replies ++ behind ≡ heard_replies ++ tail
    → BeginsWithReply next tail
unfolding rest_of behind_first
next-reply next [] [] replies heard_replies behind tail to each each_heard same = absurd (cc to)
next-reply next [] (h ∷ heard) replies heard_replies behind tail to each each_heard same = absurd (cc to)
next-reply next (code ∷ codes) [] [] heard_replies behind tail to each each_heard same = absurd each
next-reply next (code ∷ codes) [] (p ∷ replies) [] behind tail to each each_heard same =
    let number : code.xid ≡ next = cc to in
    record {
      first = p;
      others = replies ++ behind;
      is = sym same;
      answer = code.answer;
      reply = subst (λ (n : ℕ). IsReplyTo n code.answer p.content) number each.0;
    }
next-reply next (code ∷ codes) [] (p ∷ replies)
    (r ∷ heard_replies) behind tail to each each_heard same = absurd each_heard
next-reply next (code ∷ codes) (h ∷ heard) [] heard_replies behind tail to each each_heard same = absurd each
next-reply next (code ∷ codes) (h ∷ heard) (p ∷ replies) [] behind tail to each each_heard same = absurd each_heard
next-reply next (code ∷ codes) (h ∷ heard) (p ∷ replies) (r ∷ heard_replies) behind tail to each each_heard same =
    next-reply next codes heard replies heard_replies behind tail (ap rest_of to) each.1 each_heard.1
    (ap behind_first same)

-- a record that is too long is followed by none
none-behind : (p : Position) (place : ℕ) (bytes : List ℕ) → p.reading.stage ≡ Faulty (TooLong place)
    → records_in p bytes ≡ []
none-behind p place bytes faulty =
    let still = after_end p.reading bytes (ap is_open_at faulty) in
    sym (reads_fault p bytes [] p bytes [] p.reading (TooLong place) (reads_none p bytes [] (ap is_whole_at faulty))
    (sym still) faulty).0

module _ (next at : ℕ) (codes : List Code) (given more : List ℕ)
    (says : RepliesTo (numbers_of codes ++ next ∷ []) (given ++ more)) where
  next-came : (behind : List Placed) → Said given codes behind
      → BeginsWithReply next (behind ++ records_in (hand_given given) more)
  next-came behind said =
      let later = records_in (hand_given given) more in
      next-reply next says.codes codes says.said.replies said.replies says.behind (behind ++ later) says.to
      says.said.each said.each
      (sym says.said.records_are ∙ records-append (at_start LARGEST_REPLY) given more
      ∙ ap (λ (x : List Placed). x ++ later) said.records_are
      ∙ append_assoc said.replies behind later)

  -- so no other record stands behind the replies that were heard
  no-other : (behind : List Placed) → Said given codes behind → IsNoReply next at given behind → ⊥
  no-other [] said other =
      let came = next-came [] said in
      let none : [] ≡ came.first ∷ came.others = sym (none-behind (hand_given given) other.1.0 more other.1.1)
      ∙ came.is in
      cc none
  no-other (p ∷ behind) said other =
      let came = next-came (p ∷ behind) said in
      let same : p ≡ came.first = cc came.is in
      other.1 came.answer (subst (λ (q : Placed). IsReplyTo next came.answer q.content) (sym same) came.reply)

-- what the link had left is what it gave, and more
given-first : (ahead given rest : List ℕ) (old new : Option (List ℕ))
    → old ≡ option_map (λ (bytes : List ℕ). given ++ bytes) new → old ≡ Some rest
    → (more : List ℕ) × (ahead ++ rest ≡ (ahead ++ given) ++ more)
given-first ahead given rest old None left had = let none : None ≡ Some rest = sym left ∙ had in absurd (cc none)
given-first ahead given rest old (Some more) left had =
    let same : Some (given ++ more) ≡ Some rest = sym left ∙ had in
    let rest_is : given ++ more ≡ rest = cc same in
    (more, ap (λ (x : List ℕ). ahead ++ x) (sym rest_is) ∙ sym (append_assoc ahead given more))

-- ---- the answer decides the end

stopped-end : (answered : Answered) (turns : List Turn) (last : Last) (at : ℕ) → MayTurn answered turns last
    → last ≡ Stopped at → IsEndFor answered end.Stopped
stopped-end (Opened missed k) turns last at may is = inl refl
stopped-end (Denied rule) turns last at may is = let no : GoesOn ≡ Stopped at = sym may.1 ∙ is in absurd (cc no)
stopped-end (Reclassed class) turns last at may is = let no : GoesOn ≡ Stopped at = sym may.1 ∙ is in absurd (cc no)
stopped-end (Busy missed) turns last at may is = let no : GoesOn ≡ Stopped at = sym may.1 ∙ is in absurd (cc no)

memory-end : (answered : Answered) → IsEndFor answered end.OutOfMemory
memory-end (Opened missed k) = inr refl
memory-end (Denied rule) = inr refl
memory-end (Reclassed class) = inr refl
memory-end (Busy missed) = inr refl

pub completes : (why : SendEnd) (asked : Asked) (ahead rest : List ℕ) (old new : PassView)
    (before after : SessionRecord)
    → (fed : Feeds why asked ahead old new before after) → NoneRose before after → HasCallsLeft new
    → before.link.left ≡ Some rest
    → RepliesTo (announcements_of asked fed.feeding) (ahead ++ rest) → IsEndFor fed.feeding.answered why
completes end.Stopped asked ahead rest old new before after fed none few left replies =
    stopped-end fed.feeding.answered fed.feeding.turns fed.feeding.last fed.last.0 fed.is_feeding.opened fed.last.1
completes end.Reclassed asked ahead rest old new before after fed none few left replies =
    subst (λ (a : Answered). IsEndFor a end.Reclassed) (sym fed.cause.1) (inl refl)
completes (end.Denied rule) asked ahead rest old new before after fed none few left replies =
    subst (λ (a : Answered). IsEndFor a (end.Denied rule)) (sym fed.cause) (inl refl)
completes (end.PeerEnd at) asked ahead rest old new before after fed none few left replies =
    absurd (none.ends fed.cause)
completes end.LinkFault asked ahead rest old new before after fed none few left replies = absurd (none.link fed.cause)
completes end.LogFault asked ahead rest old new before after fed none few left replies = absurd (none.log fed.cause)
completes (end.BadReply at) asked ahead rest old new before after fed none few left replies =
    let feeding = fed.feeding in
    let numbers = unanswered-announced asked feeding fed.last.0 fed.last.1 fed.last.2 in
    let came = given-first ahead fed.given rest before.link.left after.link.left fed.exchanged.left left in
    let says =
    subst (λ (stream : List ℕ). RepliesTo (numbers_of (codes_of feeding) ++ (stands feeding).next ∷ []) stream) came.1
    (subst (λ (ns : List ℕ). RepliesTo ns (ahead ++ rest)) numbers replies) in
    absurd (no-other (stands feeding).next at (codes_of feeding)
    (ahead ++ fed.given) came.0 says fed.says.behind fed.says.said fed.says.is_behind)
completes end.AllBusy asked ahead rest old new before after fed none few left replies =
    subst (λ (a : Answered). IsEndFor a end.AllBusy) (sym fed.cause.1) (inl refl)
completes end.Worn asked ahead rest old new before after fed none few left replies =
    absurd (omega (arith, few, fed.cause))
completes end.OutOfMemory asked ahead rest old new before after fed none few left replies =
    memory-end fed.feeding.answered

-- ---- replies as they are spelled

abbrev one_record : Sent → Record
one_record m = in_one (written m)

reply-length : (xid : ℕ) (answer : SoonAnswer) → length (written (sent.ComingsoonReply xid answer)) ≡ 28
unfolding written
reply-length xid soon_answer.Ok = omega (
  arith,
  length-append (reply_header xid)
      (unsigned 0),
  length_reply_header xid,
  length_unsigned 0,
)
reply-length xid soon_answer.DontSend = omega (
  arith,
  length-append (reply_header xid)
      (unsigned 1),
  length_reply_header xid,
  length_unsigned 1,
)

replies-fit : (codes : List Code) → All (RecordFits LARGEST_REPLY) (map one_record (map reply_for codes))
replies-fit [] = All-nil (RecordFits LARGEST_REPLY)
replies-fit (code ∷ codes) =
    let len = reply-length code.xid code.answer in
    All-cons (RecordFits LARGEST_REPLY) (one_record (reply_for code)) (map one_record (map reply_for codes))
    (record { before = All-nil IsShort; last = omega (arith, len); within = omega (arith, len) }) (replies-fit codes)

replies-bytes : (messages : List Sent) → records_of messages ≡ flat_map spelling (map one_record messages)
replies-bytes [] = refl
replies-bytes (m ∷ messages) = ap (λ (x : List ℕ). spelling (one_record m) ++ x) (replies-bytes messages)

module _ (again : (m : Sent) → Fits m → read_as (kind_of m) (written m) ≡ Ok m)
    (read : (limit at : ℕ) (records : List Record) (rest : List ℕ) → All (RecordFits limit) records
    → records_in (before_record limit at) (flat_map spelling records ++ rest)
    ≡ placed at records ++ records_in (before_record limit (at + length (flat_map spelling records))) rest) where
  are-replies : (codes : List Code) (at : ℕ) → AllByRecursion (λ (code : Code). code.xid < 2 ^ 32) codes
      → AreReplies codes (placed at (map one_record (map reply_for codes)))
  unfolding placed
  are-replies [] at fit = tt
  are-replies (code ∷ codes) at fit =
      (again (reply_for code) fit.0, are-replies codes (at + length (spelling (one_record (reply_for code)))) fit.1)

  pub spelled : (codes : List Code) (more : List ℕ) → All (λ (code : Code). code.xid < 2 ^ 32) codes
      → RepliesTo (numbers_of codes) (records_of (map reply_for codes) ++ more)
  spelled codes more fit =
      let records = map one_record (map reply_for codes) in
      record {
        codes = codes;
        to = refl;
        behind = records_in (before_record LARGEST_REPLY (0 + length (flat_map spelling records))) more;
        said = record {
          replies = placed 0 records;
          records_are = ap (λ (x : List ℕ). records_given (x ++ more))
              (replies-bytes (map reply_for codes)) ∙ read LARGEST_REPLY 0 records more (replies-fit codes);
          each = are-replies codes 0 (recursion_from_All (λ (code : Code). code.xid < 2 ^ 32) codes fit);
        };
      }
