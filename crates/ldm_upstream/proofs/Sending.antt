-- Messages that carry a body, or a part of one: what is gathered of them step by step.
use Rattle.std.proofs.Common.{◌≡◌, ◌∙◌, ℕ, ◌+◌, ◌≤◌, List, [], ◌∷◌, ◌++◌, length, drop, refl, sym, ap, subst, arith}
use Rattle.std.proofs.Common.{append_assoc, append-nil, length-append, replicate}
use Rattle.std.proofs.lemmas.List.{length-replicate}
use Rattle.ldm_model.specs.declared.event.Entry.{Entry}
use Rattle.ldm_outside.proofs.CallerLemmas.{Rose-later}
use Rattle.ldm_outside.specs.Clock.{ClockRecord, Answers}
use Rattle.ldm_outside.specs.Link.{LinkRecord, IsNotClosed}
use Rattle.ldm_shared.specs.Passes.{PassView}
use Rattle.ldm_shared.proofs.Made.{calls_none, calls_some}
use Rattle.ldm_session.specs.Gathering as gathering
use Rattle.ldm_relay.specs.Sent as sent
use Rattle.ldm_session.proofs.CallerLemmas.{AnsweredAll-nothing}
use Rattle.ldm_sender.specs.declared.end.SendEnd.{SendEnd}
use Rattle.ldm_sender.specs.declared.end.SendEnd.TheVariants as end
use Rattle.ldm_sender.specs.declared.standing.Standing.{Standing}
use Rattle.ldm_upstream.specs.Blocks.{blocks, reads}
use Rattle.ldm_upstream.specs.Turn.{Given, last_of, block_messages}
use Rattle.ldm_sender.specs.Calls.{later_call}
use Rattle.ldm_sender.specs.Deeds.{Deed, and_then, no_deed, asking, records_of}
use Rattle.ldm_upstream.specs.ProductDeeds.{part_of, reading, blocks_deed}
use Rattle.ldm_sender.specs.Does.{SendingMoment, moment_of, Does}
use Rattle.ldm_upstream.specs.Giving.{HoldsGiven, BreaksOff, GoesOn, AppendsPart, Block, one_block_deed, GaveBlocks}
use Rattle.ldm_upstream.specs.Giving.{BreaksInBlocks}
use Rattle.ldm_sender.specs.Stopping.{StopsSending}
use Rattle.ldm_upstream.proofs.Blocks.{IsBlockAt, reads_from, messages_from, no_blocks, one_block_more}
use Rattle.ldm_sender.proofs.Doing.{Toward, all_left, toward_then, toward_same, one_done, all_done, breaks_then}
use Rattle.ldm_sender.proofs.Doing.{breaks_before, keeps_link, exchanged_nothing}
use Rattle.ldm_upstream.proofs.Reading.{reading_fails, sends_on}

-- ---- one message

-- a message was gathered, and then the clock answered
abbrev pub message_deed : List Entry → List ℕ → ℕ → Deed
message_deed entries bytes at = record { entries = entries; bytes = bytes; instants = at ∷ [] }

-- the body of a message, which these calls read
abbrev pub body_deed : List Entry → List ℕ → Deed
body_deed entries body = record { entries = entries; bytes = body; instants = [] }

-- what was gathered grew, and nothing else changed
gathered_more : (pass : PassView) (link : LinkRecord) (clock : ClockRecord) (out out' : List ℕ) (left all : Deed)
    → IsNotClosed link
    → left.entries ≡ all.entries → left.instants ≡ all.instants → out' ++ left.bytes ≡ out ++ all.bytes
    → Toward [] (moment_of pass link clock out) (moment_of pass link clock out') left all
gathered_more pass link clock out out' left all unclosed entries instants bytes = record {
  made = [];
  calls = calls_none pass;
  entries = entries;
  sent = [];
  exchanged = exchanged_nothing link;
  bytes = bytes;
  asked = [];
  answered = AnsweredAll-nothing clock;
  instants = instants;
  link = keeps_link link unclosed;
}

-- what stands before the body was gathered
pub head_gathered : (pass : PassView) (link : LinkRecord) (clock : ClockRecord) (out out' body zeros whole : List ℕ)
    (entries : List Entry) (at : ℕ) → IsNotClosed link
    → out' ++ (body ++ zeros) ≡ out ++ whole
    → Toward [] (moment_of pass link clock out) (moment_of pass link clock out')
    (and_then (body_deed entries body) (message_deed [] zeros at)) (message_deed entries whole at)
head_gathered pass link clock out out' body zeros whole entries at unclosed is =
    gathered_more pass link clock out out' (and_then (body_deed entries body) (message_deed [] zeros at))
    (message_deed entries whole at) unclosed (append-nil entries) refl is

-- the zero bytes behind the body were
pub zeros_gathered : (pass : PassView) (link : LinkRecord) (clock : ClockRecord) (out out' zeros : List ℕ) (at : ℕ)
    → IsNotClosed link → out' ≡ out ++ zeros
    → Toward [] (moment_of pass link clock out) (moment_of pass link clock out') (asking at) (message_deed [] zeros at)
zeros_gathered pass link clock out out' zeros at unclosed is =
    gathered_more pass link clock out out' (asking at)
    (message_deed [] zeros at) unclosed refl refl (append-nil out' ∙ is)

-- the clock answered
pub clock_answered : (pass : PassView) (link : LinkRecord) (clock clock' : ClockRecord) (out : List ℕ) (at : ℕ)
    → IsNotClosed link → Answers at clock clock'
    → Toward [] (moment_of pass link clock out) (moment_of pass link clock' out) no_deed (asking at)
clock_answered pass link clock clock' out at unclosed answered = record {
  made = [];
  calls = calls_none pass;
  entries = refl;
  sent = [];
  exchanged = exchanged_nothing link;
  bytes = refl;
  asked = at ∷ [];
  answered = answered;
  instants = refl;
  link = keeps_link link unclosed;
}

-- a part was read and gathered
pub part_done : (old new : PassView) (link : LinkRecord) (clock : ClockRecord) (out out' part : List ℕ) (k : ℕ)
    (given : Given) (offset : ℕ) → IsNotClosed link
    → AppendsPart k given offset part old new out out'
    → Does [] (moment_of old link clock out) (moment_of new link clock out') (reading old.actor k offset part)
part_done old new link clock out out' part k given offset unclosed appends = record {
  calls = calls_some old new _ appends.makes;
  sent = [];
  gathered = sym appends.appended;
  exchanged = exchanged_nothing link;
  answered = AnsweredAll-nothing clock;
  link = keeps_link link unclosed;
}

-- The body was gathered: the zero bytes and the answer of the clock are left.
pub body_gathered : (old mid new : SendingMoment) (entries : List Entry) (body zeros whole : List ℕ) (at : ℕ)
    → Toward [] old mid (and_then (body_deed entries body) (message_deed [] zeros at)) (message_deed entries whole at)
    → Does [] mid new (body_deed entries body)
    → Toward [] old new (message_deed [] zeros at) (message_deed entries whole at)
body_gathered old mid new entries body zeros whole at toward does =
    toward_then [] [] old mid new (message_deed [] zeros at)
    (and_then (body_deed entries body) (message_deed [] zeros at)) (message_deed entries whole at) toward
    (one_done [] mid new (body_deed entries body) (message_deed [] zeros at) does)

-- Then these were gathered.
pub message_gathered : (old : SendingMoment) (pass : PassView) (link : LinkRecord) (clock : ClockRecord)
    (out out' zeros : List ℕ) (at : ℕ) (all : Deed) → IsNotClosed link → out' ≡ out ++ zeros
    → Toward [] old (moment_of pass link clock out) (message_deed [] zeros at) all
    → Toward [] old (moment_of pass link clock out') (asking at) all
message_gathered old pass link clock out out' zeros at all unclosed is toward =
    toward_then [] [] old (moment_of pass link clock out) (moment_of pass link clock out') (asking at)
    (message_deed [] zeros at) all toward
    (zeros_gathered pass link clock out out' zeros at unclosed is)

-- Then the clock was asked.
pub clock_asked : (old : SendingMoment) (pass : PassView) (link : LinkRecord) (clock clock' : ClockRecord) (out : List ℕ)
    (at : ℕ) (all : Deed) → IsNotClosed link → Answers at clock clock'
    → Toward [] old (moment_of pass link clock out) (asking at) all
    → Toward [] old (moment_of pass link clock' out) no_deed all
clock_asked old pass link clock clock' out at all unclosed answered toward =
    toward_then [] [] old (moment_of pass link clock out)
    (moment_of pass link clock' out) no_deed (asking at) all toward
    (clock_answered pass link clock clock' out at unclosed answered)

-- all of it was gathered
pub whole_gathered : (old : SendingMoment) (pass : PassView) (link : LinkRecord) (clock clock' : ClockRecord)
    (out out' zeros : List ℕ) (at : ℕ) (all : Deed) → IsNotClosed link → out' ≡ out ++ zeros
    → Answers at clock clock' → Toward [] old (moment_of pass link clock out) (message_deed [] zeros at) all
    → Toward [] old (moment_of pass link clock' out') no_deed all
whole_gathered old pass link clock clock' out out' zeros at all unclosed is answered toward =
    clock_asked old pass link clock clock' out' at all unclosed answered
    (message_gathered old pass link clock out out' zeros at all unclosed is toward)

-- it goes out with what is gathered, and the product is held still
pub message_given : (old : SendingMoment) (pass : PassView) (link new_link : LinkRecord) (clock : ClockRecord)
    (out out' : List ℕ) (k : ℕ) (given : Given) (all : Deed) → IsNotClosed link
    → HoldsGiven pass k given → gathering.MovesOn out link out' new_link
    → Toward [] old (moment_of pass link clock out) no_deed all
    → GoesOn k given old (moment_of pass new_link clock out') all
message_given old pass link new_link clock out out' k given all unclosed holds moves toward = record {
  does = all_done [] old (moment_of pass new_link clock out') all
      (sends_on old pass link new_link clock out out' no_deed all unclosed moves toward);
  holds = holds;
}

-- ---- where it breaks off

-- there is no memory
pub no_memory : (old : SendingMoment) (pass : PassView) (link : LinkRecord) (clock : ClockRecord) (out out' : List ℕ) (k : ℕ)
    (given : Given) (left all : Deed) → IsNotClosed link
    → HoldsGiven pass k given → Toward [] old (moment_of pass link clock out) left all
    → BreaksOff end.OutOfMemory k old (moment_of pass link clock out') all
no_memory old pass link clock out out' k given left all unclosed holds toward =
    reading_fails end.OutOfMemory old pass pass link clock out out' k given left all unclosed holds refl toward

stops_later : (why : SendEnd) (old mid new : SendingMoment) → old.link.faults ≤ mid.link.faults → StopsSending why mid new
    → StopsSending why old new
stops_later end.LinkFault old mid new later stops =
    Rose-later old.link.faults mid.link.faults new.link.faults later stops
stops_later end.Worn old mid new later stops = stops
stops_later end.OutOfMemory old mid new later stops = stops
stops_later end.Stopped old mid new later stops = stops
stops_later end.Reclassed old mid new later stops = stops
stops_later (end.Denied rule) old mid new later stops = stops
stops_later (end.PeerEnd at) old mid new later stops = stops
stops_later end.LogFault old mid new later stops = stops
stops_later (end.BadReply at) old mid new later stops = stops
stops_later end.AllBusy old mid new later stops = stops

-- it breaks off in the first of what is left
pub breaks_off_then : (why : SendEnd) (k : ℕ) (old mid new : SendingMoment) (first second all : Deed)
    → Toward [] old mid (and_then first second) all → BreaksOff why k mid new first
    → BreaksOff why k old new all
breaks_off_then why k old mid new first second all toward breaks = record {
  breaks = breaks_then [] [] old mid new (and_then first second) all toward
      (breaks_before [] mid new first second breaks.breaks);
  cause = stops_later why old mid new toward.link.faults breaks.cause;
  cursor = breaks.cursor;
}

-- ---- block after block

-- the blocks from a place on, the first of which has that number, and after each the clock answers one of these
abbrev pub blocks_left : ℕ → ℕ → ℕ → Given → ℕ → ℕ → List ℕ → Deed
blocks_left actor k next given number at instants = record {
  entries = reads actor k at (blocks (drop at given.product.body));
  bytes = records_of (block_messages next given.product.info.signature number (blocks (drop at given.product.body)));
  instants = instants;
}

abbrev pub block_at : Given → ℕ → ℕ → ℕ → Block
block_at given number at len = record { offset = at; number = number; bytes = part_of at len given.product.body }

-- one block, and those behind it
pub one_of_blocks : (actor k next next' : ℕ) (given : Given) (number at len instant : ℕ) (later : List ℕ)
    → IsBlockAt given.product.body at len → next' ≡ later_call next 1
    → and_then (one_block_deed actor k next given (block_at given number at len) instant)
    (blocks_left actor k next' given (number + 1) (at + len) later)
    ≡ blocks_left actor k next given number at (instant ∷ later)
one_of_blocks actor k next next' given number at len instant later is next_is =
    let body = given.product.body in
    let signature = given.product.info.signature in
    let one = one_block_deed actor k next given (block_at given number at len) instant in
    ap (λ n. and_then one (blocks_left actor k n given (number + 1) (at + len) later)) next_is
    ∙ ap (λ (es : List Entry). record {
      entries = es;
      bytes = one.bytes ++ records_of (block_messages (later_call next 1) signature (number + 1)
          (blocks (drop (at + len) body)));
      instants = instant ∷ later;
    }) (sym (reads_from actor k body at len is))
    ∙ ap (λ (ms : List sent.Sent). record {
      entries = reads actor k at (blocks (drop at body));
      bytes =
          records_of ms;
      instants = instant ∷ later;
    })
    (sym (messages_from next signature number body at len is))

-- Blocks were given up to a place, so many as the clock answered since.
pub record HasGiven (k : ℕ) (given : Given) (standing standing' : Standing) (old new : SendingMoment)
    (number at : ℕ) : Type 0 where
  pub blocks_at : List ℕ
  pub each : length blocks_at + length (blocks (drop at given.product.body)) ≡ length (blocks given.product.body)
  pub next : standing'.next ≡ later_call standing.next (length blocks_at)
  pub sent_at : standing'.sent_at ≡ last_of standing.sent_at blocks_at
  pub toward : (later : List ℕ) → Toward [] old new (blocks_left old.pass.actor k standing'.next given number at later)
      (blocks_deed old.pass.actor k standing.next given (blocks_at ++ later))

pub none_given : (k : ℕ) (given : Given) (standing : Standing) (now : SendingMoment) → IsNotClosed now.link
    → standing.next ≡ later_call standing.next 0 → HasGiven k given standing standing now now 0 0
none_given k given standing now unclosed small = record {
  blocks_at = [];
  each = omega arith;
  next = small;
  sent_at = refl;
  toward = λ later. all_left now (blocks_deed now.pass.actor k standing.next given later) unclosed;
}

last_of-more : (before at : ℕ) (instants : List ℕ) → last_of before (instants ++ at ∷ []) ≡ at
last_of-more before at [] = refl
last_of-more before at (instant ∷ instants) = last_of-more instant at instants

-- what is left before one more is given
block_toward : (k : ℕ) (given : Given) (standing mid_standing : Standing) (old mid : SendingMoment)
    (number at len instant next' : ℕ) (later : List ℕ) → mid.pass.actor ≡ old.pass.actor
    → IsBlockAt given.product.body at len → next' ≡ later_call mid_standing.next 1
    → (has : HasGiven k given standing mid_standing old mid number at)
    → Toward [] old mid
    (and_then (one_block_deed mid.pass.actor k mid_standing.next given (block_at given number at len) instant)
    (blocks_left old.pass.actor k next' given (number + 1) (at + len) later))
    (blocks_deed old.pass.actor k standing.next given (has.blocks_at ++ instant ∷ later))
block_toward k given standing mid_standing old mid number at len instant next' later by is next_is has =
    let actor = old.pass.actor in
    let left = blocks_left actor k next' given (number + 1) (at + len) later in
    let all = blocks_deed actor k standing.next given (has.blocks_at ++ instant ∷ later) in
    let same : blocks_left actor k mid_standing.next given number at (instant ∷ later)
    ≡ and_then (one_block_deed mid.pass.actor k mid_standing.next given (block_at given number at len) instant) left =
    sym (one_of_blocks actor k mid_standing.next next' given number at len instant later is next_is)
    ∙ ap (λ a. and_then (one_block_deed a k mid_standing.next given (block_at given number at len) instant) left)
    (sym by) in
    toward_same [] old mid (blocks_left actor k mid_standing.next given number at (instant ∷ later)) _ all same
    (has.toward (instant ∷ later))

-- one more was given
pub one_more_given : (k : ℕ) (given : Given) (standing mid_standing standing' : Standing) (old mid new : SendingMoment)
    (number at len : ℕ) → mid.pass.actor ≡ old.pass.actor
    → IsBlockAt given.product.body at len → HasGiven k given standing mid_standing old mid number at
    → GoesOn k given mid new
    (one_block_deed mid.pass.actor k mid_standing.next given (block_at given number at len) standing'.sent_at)
    → standing'.next ≡ later_call mid_standing.next 1
    → HasGiven k given standing standing' old new (number + 1) (at + len)
one_more_given k given standing mid_standing standing' old mid new number at len by is has goes next_is =
    let actor = old.pass.actor in
    let instant = standing'.sent_at in
    let one = one_block_deed mid.pass.actor k mid_standing.next given (block_at given number at len) instant in
    let count : length (has.blocks_at ++ instant ∷ []) ≡ length has.blocks_at + 1 =
    length-append has.blocks_at (instant ∷ []) in
    record {
      blocks_at = has.blocks_at ++ instant ∷ [];
      each = omega (arith, count, has.each, one_block_more given.product.body at len is);
      next = omega (arith, next_is, has.next, count);
      sent_at = sym (last_of-more standing.sent_at instant has.blocks_at);
      toward = λ later.
          let left = blocks_left actor k standing'.next given (number + 1) (at + len) later in
          let all = blocks_deed actor k standing.next given (has.blocks_at ++ instant ∷ later) in
          subst (λ (x : List ℕ). Toward [] old new left (blocks_deed actor k standing.next given x))
          (sym (append_assoc has.blocks_at (instant ∷ []) later))
          (toward_then [] [] old mid new left (and_then one left) all
          (block_toward k given standing mid_standing old mid number at len instant standing'.next later by is next_is
          has) (one_done [] mid new one left goes.does));
    }

-- it breaks off in one
pub breaks_in_block : (why : SendEnd) (k : ℕ) (given : Given) (standing mid_standing : Standing) (old mid new : SendingMoment)
    (number at len instant : ℕ) → mid.pass.actor ≡ old.pass.actor
    → IsBlockAt given.product.body at len → HasGiven k given standing mid_standing old mid number at
    → BreaksOff why k mid new
    (one_block_deed mid.pass.actor k mid_standing.next given (block_at given number at len) instant)
    → BreaksInBlocks why k given standing old new
breaks_in_block why k given standing mid_standing old mid new number at len instant by is has breaks =
    let actor = old.pass.actor in
    let later = replicate {A = ℕ} (length (blocks (drop (at + len) given.product.body))) 0 in
    let next' = later_call mid_standing.next 1 in
    let left = blocks_left actor k next' given (number + 1) (at + len) later in
    record {
      blocks_at = has.blocks_at ++ instant ∷ later;
      each =
          omega (
            arith,
            has.each,
            length-append has.blocks_at (instant ∷ later),
            length-replicate {A = ℕ} (length (blocks (drop (at + len) given.product.body))) 0,
            one_block_more given.product.body at len is,
          );
      breaks_off =
          breaks_off_then why k old mid new
          (one_block_deed mid.pass.actor k mid_standing.next given (block_at given number at len) instant) left
          (blocks_deed actor k standing.next given (has.blocks_at ++ instant ∷ later))
          (block_toward k given standing mid_standing old mid number at len instant next' later by is refl has) breaks;
    }

-- all were given
pub all_given : (k : ℕ) (given : Given) (standing standing' : Standing) (old new : SendingMoment) (number at : ℕ)
    → length given.product.body ≤ at → HoldsGiven new.pass k given
    → HasGiven k given standing standing' old new number at → GaveBlocks k given standing standing' old new
all_given k given standing standing' old new number at behind holds has =
    let actor = old.pass.actor in
    let none : blocks (drop at given.product.body) ≡ [] = no_blocks given.product.body at behind in
    let count : length has.blocks_at ≡ length (blocks given.product.body) =
    omega (arith, has.each, ap (λ (x : List (List ℕ)). length x) none) in
    let all = blocks_deed actor k standing.next given has.blocks_at in
    let nothing : blocks_left actor k standing'.next given number at [] ≡ no_deed =
    ap (λ (x : List (List ℕ)). record {
      entries = reads actor k at x;
      bytes =
          records_of (block_messages standing'.next given.product.info.signature number x);
      instants = [];
    }) none in
    record {
      blocks_at = has.blocks_at;
      each = count;
      goes_on = record {
        does =
            all_done [] old new all
            (toward_same [] old new (blocks_left actor k standing'.next given number at []) no_deed all nothing
            (subst (λ (x : List ℕ). Toward [] old new (blocks_left actor k standing'.next given number at [])
            (blocks_deed actor k standing.next given x)) (append-nil has.blocks_at) (has.toward [])));
        holds = holds;
      };
      next = has.next ∙ ap (later_call standing.next) count;
      sent_at = has.sent_at;
    }
