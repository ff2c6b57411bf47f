-- What holds of each message of a feed of sound products, behind the reply to its request.
use Rattle.std.proofs.Common.{◌≡◌, ℕ, zero, suc, ◌+◌, ◌^◌, ◌<◌, ◌≤◌, min, List, [], ◌∷◌, ◌++◌, length, take, drop, sym, subst, append_assoc, arith}
use Rattle.std.specs.List.{AllByRecursion}
use Rattle.std.proofs.lemmas.List.{length-take}
use Rattle.std.proofs.lemmas.List.Elements.{recursion_from_All}
use Rattle.ldm_relay.specs.declared.message.TheConstants.{LARGEST_BLOCK}
use Rattle.ldm_relay.specs.Sent.{Sent}
use Rattle.ldm_relay.specs.Sent as sent
use Rattle.ldm_sender.specs.Asked.{Asked}
use Rattle.ldm_sender.specs.Calls.{later_call}
use Rattle.ldm_sender.specs.declared.standing.Standing.{Standing}
use Rattle.ldm_upstream.specs.Blocks.{cut, count_blocks, blocks}
use Rattle.ldm_upstream.specs.Turn.{Given, Turn, Lost, Gave, Quiet, Alive, announcement, block_messages, after_turn}
use Rattle.ldm_upstream.specs.Turn as turn
use Rattle.ldm_upstream.specs.Turns.{after_turns, messages_of_turns, given_in_turns}
use Rattle.ldm_upstream.specs.Feeding.{Feeding, Last, GoesOn, Stopped, Unanswered, begun, given_of, last_messages, last_given, stands}
use Rattle.ldm_between_ends.specs.Passing.{IsGranted, IsSound}

-- the messages behind the reply to the request
abbrev pub behind_reply : Feeding → List Sent
behind_reply feeding = messages_of_turns (begun feeding) feeding.turns ++ last_messages (stands feeding).next feeding.last

-- It holds of one of each kind, whatever its number.
pub record HoldsOfEach (P : Sent → Type 0) : Type 0 where
  pub alive : (next : ℕ) → next < 2 ^ 32 → P (sent.Isalive next)
  pub whole : (next : ℕ) (given : Given) → next < 2 ^ 32 → IsSound given → P (sent.Hereis next given.product.info given.product.body)
  pub announced : (next : ℕ) (given : Given) → next < 2 ^ 32 → IsSound given → P (announcement next given)
  pub block : (next i : ℕ) (signature block : List ℕ) → next < 2 ^ 32 → i < 2 ^ 32 → length signature ≡ 16 → length block ≤ LARGEST_BLOCK
      → P (sent.Blkdata next signature i block)

few-blocks : (size : ℕ) → size < 2 ^ 32 → 0 + count_blocks size < 2 ^ 32
few-blocks size small = omega (arith, small)

module _ (P : Sent → Type 0) (each : HoldsOfEach P) where
  of-blocks : (count next i : ℕ) (signature body : List ℕ) (behind : List Sent) → length signature ≡ 16 → next < 2 ^ 32 → i + count < 2 ^ 32 → AllByRecursion P behind
      → AllByRecursion P (block_messages next signature i (cut count body) ++ behind)
  of-blocks zero next i signature body behind signed number few all = all
  of-blocks (suc count) next i signature body behind signed number few all =
      let len : length (take LARGEST_BLOCK body) ≡ min LARGEST_BLOCK (length body) = length-take LARGEST_BLOCK body in (
        each.block next i signature (take LARGEST_BLOCK body) number (omega (arith, few)) signed (omega (arith, len)),
        of-blocks count (later_call next 1) (i + 1) signature (drop LARGEST_BLOCK body) behind signed (omega arith) (omega (arith, few)) all,
      )

  of-last : (last_turn : Last) (next : ℕ) → next < 2 ^ 32 → AllByRecursion IsSound (last_given last_turn) → AllByRecursion P (last_messages next last_turn)
  of-last GoesOn next number sound = tt
  of-last (Stopped end) next number sound = tt
  of-last (Unanswered given at) next number sound = (each.announced next given number sound.0, tt)

  of-turns : (turns : List Turn) (standing : Standing) (last_turn : Last) → standing.next < 2 ^ 32 → AllByRecursion IsSound (given_in_turns turns ++ last_given last_turn)
      → AllByRecursion P (messages_of_turns standing turns ++ last_messages (after_turns standing turns).next last_turn)
  of-turns [] standing last_turn number sound = of-last last_turn standing.next number sound
  of-turns (Lost count first final ∷ turns) standing last_turn number sound = of-turns turns standing last_turn number sound
  of-turns (Quiet end now ∷ turns) standing last_turn number sound = of-turns turns standing last_turn number sound
  of-turns (Alive end now at ∷ turns) standing last_turn number sound =
      (each.alive standing.next number, of-turns turns (after_turn standing (Alive end now at)) last_turn (omega arith) sound)
  of-turns (Gave given turn.Passed ∷ turns) standing last_turn number sound = of-turns turns standing last_turn number sound.1
  of-turns (Gave given (turn.Whole at) ∷ turns) standing last_turn number sound =
      (each.whole standing.next given number sound.0, of-turns turns (after_turn standing (Gave given (turn.Whole at))) last_turn (omega arith) sound.1)
  of-turns (Gave given (turn.Declined at) ∷ turns) standing last_turn number sound =
      (each.announced standing.next given number sound.0, of-turns turns (after_turn standing (Gave given (turn.Declined at))) last_turn (omega arith) sound.1)
  of-turns (Gave given (turn.InBlocks at blocks_at) ∷ turns) standing last_turn number sound =
      let behind_it = after_turn standing (Gave given (turn.InBlocks at blocks_at)) in
      let body = given.product.body in
      let signature = given.product.info.signature in
      let body_messages = block_messages (later_call standing.next 1) signature 0 (blocks body) in
      let others = messages_of_turns behind_it turns in
      let last_ones = last_messages (after_turns behind_it turns).next last_turn in
      let few = few-blocks (length body) (omega (arith, sound.0.sized, sound.0.info.size)) in
      let all : AllByRecursion P (body_messages ++ (others ++ last_ones)) =
      of-blocks (count_blocks (length body)) (later_call standing.next 1) 0 signature body (others ++ last_ones) sound.0.info.signature.0 (omega arith) few
      (of-turns turns behind_it last_turn (omega arith) sound.1) in
      (each.announced standing.next given number sound.0, subst (λ (x : List Sent). AllByRecursion P x) (sym (append_assoc body_messages others last_ones)) all)

  pub holds-behind_reply : (asked : Asked) (feeding : Feeding) → IsGranted asked feeding → AllByRecursion P (behind_reply feeding)
  holds-behind_reply asked feeding granted =
      of-turns feeding.turns (begun feeding) feeding.last (omega arith) (recursion_from_All IsSound (given_of feeding) granted.sound)
