-- A feeding as far as its announcements were answered is a feeding, and owes the first of the bytes.
use Rattle.std.proofs.Common.{◌≡◌, ℕ, zero, suc, List, [], ◌∷◌, ◌++◌, take, refl, ap, sym, ◌∙◌, append_assoc}
use Rattle.std.specs.Prelude.{All}
use Rattle.std.specs.List.{flat_map, AllByRecursion}
use Rattle.std.proofs.lemmas.List.{append-nil}
use Rattle.std.proofs.lemmas.List.Concat.{flat_map-append}
use Rattle.std.proofs.lemmas.List.Elements.{All-from_recursion, All-same, recursion_from_All}
use Rattle.ldm_relay.specs.declared.message.SoonAnswer.TheVariants as soon
use Rattle.ldm_relay.specs.Sent.{Sent}
use Rattle.ldm_relay.specs.Sent as sent
use Rattle.ldm_session.specs.Owed.{Code}
use Rattle.ldm_sender.specs.declared.standing.Standing.{Standing}
use Rattle.ldm_sender.specs.Asked.{Asked}
use Rattle.ldm_upstream.specs.Blocks.{blocks}
use Rattle.ldm_sender.specs.Opening.{Answered, Denied, Reclassed, Busy, Opened, class_answer_of}
use Rattle.ldm_upstream.specs.Turn.{Given, Passed, Whole, Declined, InBlocks, Turn, Lost, Gave, Quiet, Alive, after_turn, block_messages, turn_messages}
use Rattle.ldm_sender.specs.Calls.{later_call}
use Rattle.ldm_upstream.specs.Turns.{AreTurns, after_turns, codes_of_turns, given_in_turns, messages_of_turns}
use Rattle.ldm_upstream.specs.Feeding.{Feeding, GoesOn, IsFeeding, IsLast, Last, MayTurn, begun, bytes_of, given_of, last_given, last_messages, messages_of}
use Rattle.ldm_between_ends.specs.Hearing.{heard_so_far, turns_heard}
use Rattle.ldm_between_ends.specs.Passing.{IsGranted, IsSound}
use Rattle.ldm_between_ends.proofs.Arriving.{record_bytes}

-- all messages of turns, with those of the last one
abbrev all_messages : Standing → List Turn → Last → List Sent
all_messages standing turns last = messages_of_turns standing turns ++ last_messages (after_turns standing turns).next last

record IsFront {X : Type 0} (front all : List X) : Type 0 where
  rest : List X
  is : front ++ rest ≡ all

-- messages in front of both
in-front : (first front all : List Sent) → IsFront front all → IsFront (first ++ front) (first ++ all)
in-front first front all is = record { rest = is.rest; is = append_assoc first front is.rest ∙ ap (λ (x : List Sent). first ++ x) is.is }

-- What is heard of turns, from a standing on.
record IsHeard (asked : Asked) (standing : Standing) (turns : List Turn) (last : Last) (replies : ℕ) : Type 0 where
  are : AreTurns asked standing (turns_heard turns last replies).turns
  is : IsLast asked (turns_heard turns last replies).last
  codes : codes_of_turns standing (turns_heard turns last replies).turns ≡ take replies (codes_of_turns standing turns)
  messages : IsFront (all_messages standing (turns_heard turns last replies).turns (turns_heard turns last replies).last) (all_messages standing turns last)
  givens : IsFront (given_in_turns (turns_heard turns last replies).turns ++ last_given (turns_heard turns last replies).last) (given_in_turns turns ++ last_given last)

-- the messages of a turn and of those behind it
turn-front : (first front last all all_last : List Sent) → IsFront (front ++ last) (all ++ all_last) → IsFront ((first ++ front) ++ last) ((first ++ all) ++ all_last)
turn-front first front last all all_last is =
    let there = in-front first (front ++ last) (all ++ all_last) is in
    record { rest = there.rest; is = ap (λ (x : List Sent). x ++ there.rest) (append_assoc first front last) ∙ there.is ∙ sym (append_assoc first all all_last) }

on-front : (turn : Turn) (standing : Standing) (turns heard : List Turn) (last heard_last : Last)
    → IsFront (all_messages (after_turn standing turn) heard heard_last) (all_messages (after_turn standing turn) turns last)
    → IsFront (all_messages standing (turn ∷ heard) heard_last) (all_messages standing (turn ∷ turns) last)
on-front turn standing turns heard last heard_last is =
    let then_at = after_turn standing turn in
    turn-front (turn_messages standing.next turn) (messages_of_turns then_at heard) (last_messages (after_turns then_at heard).next heard_last)
    (messages_of_turns then_at turns) (last_messages (after_turns then_at turns).next last) is

one-more : (given : Given) (front all : List Given) → IsFront front all → IsFront (given ∷ front) (given ∷ all)
one-more given front all is = record { rest = is.rest; is = ap (λ (x : List Given). given ∷ x) is.is }

take-none : (replies : ℕ) → take {A = Code} replies [] ≡ []
take-none zero = refl
take-none (suc replies) = refl

is-heard : (asked : Asked) (turns : List Turn) (standing : Standing) (last : Last) (replies : ℕ) → AreTurns asked standing turns → IsLast asked last
    → IsHeard asked standing turns last replies
is-heard asked [] standing last replies are is =
    record { are = tt; is = is; codes = sym (take-none replies); messages = record { rest = []; is = append-nil (last_messages standing.next last) }; givens = record { rest = []; is = append-nil (last_given last) } }
is-heard asked (Lost count first final ∷ turns) standing last replies are is =
    let rest = is-heard asked turns standing last replies are.1 is in
    record { are = (tt, rest.are); is = rest.is; codes = rest.codes; messages = rest.messages; givens = rest.givens }
is-heard asked (Quiet end now ∷ turns) standing last replies are is =
    let rest = is-heard asked turns standing last replies are.1 is in
    record { are = (are.0, rest.are); is = rest.is; codes = rest.codes; messages = rest.messages; givens = rest.givens }
is-heard asked (Alive end now at ∷ turns) standing last replies are is =
    let rest = is-heard asked turns (after_turn standing (Alive end now at)) last replies are.1 is in
    record { are = (are.0, rest.are); is = rest.is; codes = rest.codes; messages = on-front (Alive end now at) standing turns (turns_heard turns last replies).turns last (turns_heard turns last replies).last rest.messages; givens = rest.givens }
is-heard asked (Gave given Passed ∷ turns) standing last replies are is =
    let rest = is-heard asked turns standing last replies are.1 is in
    record { are = (are.0, rest.are); is = rest.is; codes = rest.codes; messages = rest.messages; givens = one-more given (given_in_turns (turns_heard turns last replies).turns ++ last_given (turns_heard turns last replies).last) (given_in_turns turns ++ last_given last) rest.givens }
is-heard asked (Gave given (Whole at) ∷ turns) standing last replies are is =
    let rest = is-heard asked turns (after_turn standing (Gave given (Whole at))) last replies are.1 is in
    record { are = (are.0, rest.are); is = rest.is; codes = rest.codes; messages = on-front (Gave given (Whole at)) standing turns (turns_heard turns last replies).turns last (turns_heard turns last replies).last rest.messages; givens = one-more given (given_in_turns (turns_heard turns last replies).turns ++ last_given (turns_heard turns last replies).last) (given_in_turns turns ++ last_given last) rest.givens }
is-heard asked (Gave given (Declined at) ∷ turns) standing last zero are is =
    record { are = tt; is = are.0; codes = refl; messages = record { rest = all_messages (after_turn standing (Gave given (Declined at))) turns last; is = refl }; givens = record { rest = given_in_turns turns ++ last_given last; is = refl } }
is-heard asked (Gave given (Declined at) ∷ turns) standing last (suc left) are is =
    let code : Code = record { xid = standing.next; answer = soon.DontSend } in
    let rest = is-heard asked turns (after_turn standing (Gave given (Declined at))) last left are.1 is in
    record { are = (are.0, rest.are); is = rest.is; codes = ap (λ (x : List Code). code ∷ x) rest.codes; messages = on-front (Gave given (Declined at)) standing turns (turns_heard turns last left).turns last (turns_heard turns last left).last rest.messages; givens = one-more given (given_in_turns (turns_heard turns last left).turns ++ last_given (turns_heard turns last left).last) (given_in_turns turns ++ last_given last) rest.givens }
is-heard asked (Gave given (InBlocks at blocks_at) ∷ turns) standing last zero are is =
    let behind_it = after_turn standing (Gave given (InBlocks at blocks_at)) in
    let body_messages = block_messages (later_call standing.next 1) given.product.info.signature 0 (blocks given.product.body) in
    record {
      are = tt;
      is = (are.0.0, are.0.1);
      codes = refl;
      messages = record {
        rest = (body_messages ++ messages_of_turns behind_it turns) ++ last_messages (after_turns behind_it turns).next last;
        is = refl;
      };
      givens = record { rest = given_in_turns turns ++ last_given last; is = refl };
    }
is-heard asked (Gave given (InBlocks at blocks_at) ∷ turns) standing last (suc left) are is =
    let code : Code = record { xid = standing.next; answer = soon.Ok } in
    let rest = is-heard asked turns (after_turn standing (Gave given (InBlocks at blocks_at))) last left are.1 is in
    record { are = (are.0, rest.are); is = rest.is; codes = ap (λ (x : List Code). code ∷ x) rest.codes; messages = on-front (Gave given (InBlocks at blocks_at)) standing turns (turns_heard turns last left).turns last (turns_heard turns last left).last rest.messages; givens = one-more given (given_in_turns (turns_heard turns last left).turns ++ last_given (turns_heard turns last left).last) (given_in_turns turns ++ last_given last) rest.givens }

none-heard : (turns : List Turn) (last : Last) (replies : ℕ) → turns ≡ [] → last ≡ GoesOn
    → ((turns_heard turns last replies).turns ≡ []) × ((turns_heard turns last replies).last ≡ GoesOn)
none-heard [] last replies none is = (refl, is)
none-heard (turn ∷ turns) last replies none is = absurd (cc none)

-- only an opened cursor makes turns
may-turn : (answered : Answered) (turns : List Turn) (last : Last) (replies : ℕ) → MayTurn answered turns last
    → MayTurn answered (turns_heard turns last replies).turns (turns_heard turns last replies).last
may-turn (Opened missed k) turns last replies may = tt
may-turn (Denied rule) turns last replies may = none-heard turns last replies may.0 may.1
may-turn (Reclassed class) turns last replies may = none-heard turns last replies may.0 may.1
may-turn (Busy missed) turns last replies may = none-heard turns last replies may.0 may.1

pub feeding-heard : (asked : Asked) (feeding : Feeding) (replies : ℕ) → IsFeeding asked feeding → IsFeeding asked (heard_so_far replies feeding)
feeding-heard asked feeding replies is =
    let heard = is-heard asked feeding.turns (begun feeding) feeding.last replies is.turns is.last in
    record { answered = is.answered; turns = heard.are; last = heard.is; opened = may-turn feeding.answered feeding.turns feeding.last replies is.opened }

all-front : (front rest all : List Given) → front ++ rest ≡ all → All IsSound all → All IsSound front
all-front front rest all is sound = All-from_recursion IsSound front (by front (recursion_from_All IsSound (front ++ rest) (All-same IsSound (front ++ rest) all is sound)))
  where
    by : (xs : List Given) → AllByRecursion IsSound (xs ++ rest) → AllByRecursion IsSound xs
    by [] each = tt
    by (x ∷ xs) each = (each.0, by xs each.1)

pub granted-heard : (asked : Asked) (feeding : Feeding) (replies : ℕ) → IsGranted asked feeding → IsGranted asked (heard_so_far replies feeding)
granted-heard asked feeding replies granted =
    let givens = (is-heard asked feeding.turns (begun feeding) feeding.last replies granted.is.turns granted.is.last).givens in
    record {
      is = feeding-heard asked feeding replies granted.is;
      missed = granted.missed;
      k = granted.k;
      opened = granted.opened;
      sound = all-front (given_of (heard_so_far replies feeding)) givens.rest (given_of feeding) givens.is granted.sound;
    }

pub codes-heard : (asked : Asked) (feeding : Feeding) (replies : ℕ) → IsFeeding asked feeding
    → codes_of_turns (begun feeding) (heard_so_far replies feeding).turns ≡ take replies (codes_of_turns (begun feeding) feeding.turns)
codes-heard asked feeding replies is = (is-heard asked feeding.turns (begun feeding) feeding.last replies is.turns is.last).codes

pub bytes-heard : (asked : Asked) (feeding : Feeding) (replies : ℕ) → IsFeeding asked feeding
    → (rest : List ℕ) × (bytes_of asked (heard_so_far replies feeding) ++ rest ≡ bytes_of asked feeding)
bytes-heard asked feeding replies is =
    let front = (is-heard asked feeding.turns (begun feeding) feeding.last replies is.turns is.last).messages in
    let some = messages_of asked (heard_so_far replies feeding) in
    let same : some ++ front.rest ≡ messages_of asked feeding = first-same front.is in
    (flat_map record_bytes front.rest, sym (flat_map-append record_bytes some front.rest) ∙ ap (flat_map record_bytes) same)
  where
    first-same : {x y : List Sent} → x ≡ y → sent.FeedmeReply asked.xid (class_answer_of feeding.answered) ∷ x ≡ sent.FeedmeReply asked.xid (class_answer_of feeding.answered) ∷ y
    first-same same = ap (λ (x : List Sent). sent.FeedmeReply asked.xid (class_answer_of feeding.answered) ∷ x) same
