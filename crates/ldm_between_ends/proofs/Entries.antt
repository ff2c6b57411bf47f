-- How many calls a feeding has.
use Rattle.std.proofs.Common.{◌≡◌, ◌∙◌, ℕ, zero, suc, ◌+◌, ◌*◌, ◌/◌, ◌≤◌, true, false, List, [], ◌∷◌, ◌++◌, length, Option, Some, None, refl, sym, ap, arith, length-append}
use Rattle.std.specs.Prelude.{All, Bool, drop}
use Rattle.std.proofs.lemmas.List.Elements.{All-nil, All-cons, All-head, All-tail}
use Rattle.ldm_types.specs.declared.limits.TheConstants.{LARGEST_ARENA}
use Rattle.ldm_model.specs.declared.event.Reply.{Reply}
use Rattle.ldm_model.specs.declared.event.Reply.TheVariants as reply
use Rattle.ldm_model.specs.declared.event.Entry.{Entry}
use Rattle.ldm_class.specs.Classes.{resumed}
use Rattle.ldm_relay.specs.declared.message.TheConstants.{LARGEST_BLOCK}
use Rattle.ldm_sender.specs.declared.end.SendEnd.{SendEnd}
use Rattle.ldm_sender.specs.declared.end.SendEnd.TheVariants as end
use Rattle.ldm_sender.specs.Asked.{Asked}
use Rattle.ldm_sender.specs.Ending.{closing_of}
use Rattle.ldm_sender.specs.Opening.{Answered, Denied, Reclassed, Busy, Opened, opening_calls, opening_entries, closing_entries}
use Rattle.ldm_upstream.specs.Blocks.{blocks, count_blocks, cut, reads}
use Rattle.ldm_upstream.specs.Turn.{Given, Handling, Passed, Whole, Declined, InBlocks, Turn, Lost, Gave, Quiet, Alive, handling_entries, let_go, turn_entries, turn_goes}
use Rattle.ldm_upstream.specs.Turns.{entries_of_turns, given_in, given_in_turns, goes_of_turns}
use Rattle.ldm_upstream.specs.Feeding.{Last, GoesOn, Stopped, Unanswered, last_entries}
use Rattle.ldm_between_ends.specs.Alone.{is_lost}

-- a body that is no longer than an arena can be
abbrev pub IsShort : Given → Type 0
IsShort given = length given.product.body ≤ LARGEST_ARENA

count-cut : (count : ℕ) (body : List ℕ) → length (cut count body) ≡ count
count-cut zero body = refl
count-cut (suc count) body = ap (λ (n : ℕ). suc n) (count-cut count (drop LARGEST_BLOCK body))

few-blocks : (size : ℕ) → count_blocks size ≤ size
few-blocks size = omega arith

count-reads : (actor k offset : ℕ) (parts : List (List ℕ)) → length (reads actor k offset parts) ≡ length parts
count-reads actor k offset [] = refl
count-reads actor k offset (part ∷ parts) = ap (λ (n : ℕ). suc n) (count-reads actor k (offset + length part) parts)

-- it is read by no more calls than it has bytes
few-reads : (actor k : ℕ) (body : List ℕ) → length (reads actor k 0 (blocks body)) ≤ length body
few-reads actor k body = omega (arith, count-reads actor k 0 (blocks body), count-cut (count_blocks (length body)) body, few-blocks (length body))

few-handling : (actor k : ℕ) (given : Given) (handling : Handling) → length (handling_entries actor k given handling) ≤ length given.product.body
few-handling actor k given Passed = omega arith
few-handling actor k given (Whole at) = few-reads actor k given.product.body
few-handling actor k given (Declined at) = omega arith
few-handling actor k given (InBlocks at blocks_at) = few-reads actor k given.product.body

few-turn : (actor k : ℕ) (turn : Turn) → is_lost turn ≡ false → All IsShort (given_in turn)
    → length (turn_entries actor k turn) ≤ length (turn_goes turn) + length (given_in turn) * (LARGEST_ARENA + 2)
few-turn actor k (Lost count first last) kept short = absurd (cc kept)
few-turn actor k (Gave given handling) kept short =
    let body : length given.product.body ≤ LARGEST_ARENA = All-head IsShort given [] short in
    omega (arith, few-handling actor k given handling, body, length-append (handling_entries actor k given handling) (let_go actor k given ∷ []))
few-turn actor k (Quiet end now) kept short = omega arith
few-turn actor k (Alive end now at) kept short = omega arith

pub all-front : {A : Type 0} (P : A → Type 0) (xs ys : List A) → All P (xs ++ ys) → All P xs
all-front P [] ys all = All-nil P
all-front P (x ∷ xs) ys all = All-cons P x xs (All-head P x (xs ++ ys) all) (all-front P xs ys (All-tail P x (xs ++ ys) all))

pub all-behind : {A : Type 0} (P : A → Type 0) (xs ys : List A) → All P (xs ++ ys) → All P ys
all-behind P [] ys all = all
all-behind P (x ∷ xs) ys all = all-behind P xs ys (All-tail P x (xs ++ ys) all)

pub few-turns : (actor k : ℕ) (turns : List Turn) → All (λ (turn : Turn). is_lost turn ≡ false) turns → All IsShort (given_in_turns turns)
    → length (entries_of_turns actor k turns) ≤ length (goes_of_turns turns) + length (given_in_turns turns) * (LARGEST_ARENA + 2)
few-turns actor k [] kept short = omega arith
few-turns actor k (turn ∷ turns) kept short =
    let one = few-turn actor k turn (All-head (λ (t : Turn). is_lost t ≡ false) turn turns kept) (all-front IsShort (given_in turn) (given_in_turns turns) short) in
    let more = few-turns actor k turns (All-tail (λ (t : Turn). is_lost t ≡ false) turn turns kept) (all-behind IsShort (given_in turn) (given_in_turns turns) short) in
    omega (
      arith,
      one,
      more,
      length-append (turn_entries actor k turn) (entries_of_turns actor k turns),
      length-append (turn_goes turn) (goes_of_turns turns),
      length-append (given_in turn) (given_in_turns turns),
    )

few-calls : (actor : ℕ) (asked : Asked) (signature : Option (List ℕ)) (missed : Bool) (answer : Reply) → length (opening_calls actor asked signature missed answer) ≤ 2
few-calls actor asked None missed answer = omega arith
few-calls actor asked (Some signature) false answer = omega arith
few-calls actor asked (Some signature) true answer = omega arith

pub few-opening : (actor : ℕ) (asked : Asked) (answered : Answered) → length (opening_entries actor asked answered) ≤ 2
few-opening actor asked (Denied rule) = omega arith
few-opening actor asked (Reclassed class) = omega arith
few-opening actor asked (Busy missed) = few-calls actor asked (resumed asked.class.specs.items) missed reply.AllBusy
few-opening actor asked (Opened missed k) = few-calls actor asked (resumed asked.class.specs.items) missed (reply.Opened k)

pub few-last : (actor k : ℕ) (last : Last) → length (last_entries actor k last) ≤ 1
few-last actor k GoesOn = omega arith
few-last actor k (Stopped end) = omega arith
few-last actor k (Unanswered given at) = omega arith

few-closed : (actor : ℕ) (answered : Answered) → length (closing_entries actor answered) ≤ 1
few-closed actor (Denied rule) = omega arith
few-closed actor (Reclassed class) = omega arith
few-closed actor (Busy missed) = omega arith
few-closed actor (Opened missed k) = omega arith

pub few-closing : (actor : ℕ) (why : SendEnd) (answered : Answered) → length (closing_of actor why answered) ≤ 1
few-closing actor end.Worn answered = omega arith
few-closing actor why answered = few-closed actor answered
