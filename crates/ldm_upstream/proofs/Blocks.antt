-- The blocks of a body from a place on: one of them, and those behind it.
use Rattle.std.proofs.Common.{◌≡◌, ℕ, suc, ◌+◌, ◌-◌, ◌<◌, ◌≤◌, min, List, [], ◌∷◌, ◌++◌, length, take, drop, ap, sym}
use Rattle.std.proofs.Common.{◌∙◌, inl, inr, arith, length-drop}
use Rattle.std.proofs.lemmas.List.{take-append-drop, length-take-le, drop-drop, take_all}
use Rattle.std.proofs.lemmas.Bool.{cases_lt}
use Rattle.std.proofs.Math.ListN.{drop_of_length-le}
use Rattle.ldm_relay.specs.declared.message.TheConstants.{LARGEST_BLOCK}
use Rattle.ldm_relay.specs.Sent as sent
use Rattle.ldm_upstream.specs.Blocks.{cut, count_blocks, blocks, reads}
use Rattle.ldm_sender.specs.Calls.{later_call}
use Rattle.ldm_upstream.specs.Turn.{block_messages}
use Rattle.ldm_upstream.specs.ProductDeeds.{part_of, read_entry}

-- bytes that are some make a block more than those behind the first block
count_more : (size : ℕ) → 0 < size → count_blocks size ≡ suc (count_blocks (size - LARGEST_BLOCK))
count_more size some = omega arith

blocks_more : (body : List ℕ) → 0 < length body
    → blocks body ≡ take LARGEST_BLOCK body ∷ blocks (drop LARGEST_BLOCK body)
blocks_more body some =
    ap (λ n. cut n body) (count_more (length body) some)
    ∙ ap (λ n. take LARGEST_BLOCK body ∷ cut (count_blocks n) (drop LARGEST_BLOCK body))
    (sym (length-drop LARGEST_BLOCK body))

-- so many bytes, or all where there are fewer
take_least : (bytes : List ℕ) (most len : ℕ) → len ≡ min most (length bytes) → take most bytes ≡ take len bytes
take_least bytes most len is =
    elim (cases_lt (length bytes) most) [
      | inl short ↦ take_all most bytes (omega arith) ∙ sym (take_all len bytes (omega arith))
      | inr long ↦ let same : most ≡ len = omega arith in ap (λ n. take n bytes) same
    ]

drop_least : (bytes : List ℕ) (most len : ℕ) → len ≡ min most (length bytes) → drop most bytes ≡ drop len bytes
drop_least bytes most len is =
    elim (cases_lt (length bytes) most) [
      | inl short ↦ drop_of_length-le bytes (omega arith) ∙ sym (drop_of_length-le bytes (omega arith))
      | inr long ↦ let same : most ≡ len = omega arith in ap (λ n. drop n bytes) same
    ]

-- a block of so many bytes begins at that place of a body
pub record IsBlockAt (body : List ℕ) (at len : ℕ) : Type 0 where
  pub within : at < length body
  pub len_is : len ≡ min LARGEST_BLOCK (length body - at)

pub blocks_from : (body : List ℕ) (at len : ℕ) → IsBlockAt body at len
    → blocks (drop at body) ≡ part_of at len body ∷ blocks (drop (at + len) body)
blocks_from body at len is =
    let rest : len ≡ min LARGEST_BLOCK (length (drop at body)) = is.len_is ∙ ap (min LARGEST_BLOCK)
    (sym (length-drop at body)) in
    blocks_more (drop at body) (omega (arith, is.within, length-drop at body))
    ∙ ap (λ (x : List ℕ). x ∷ blocks (drop LARGEST_BLOCK (drop at body)))
    (take_least (drop at body) LARGEST_BLOCK len rest)
    ∙ ap (λ (x : List ℕ). part_of at len body ∷ blocks x)
    (drop_least (drop at body) LARGEST_BLOCK len rest ∙ drop-drop len at body)

-- behind the last byte there is none
pub no_blocks : (body : List ℕ) (at : ℕ) → length body ≤ at → blocks (drop at body) ≡ []
no_blocks body at behind = ap blocks (drop_of_length-le body behind)

pub nothing_left : (body : List ℕ) (at : ℕ) → length body ≤ at → drop at body ≡ []
nothing_left body at behind = drop_of_length-le body behind

pub length_part : (body : List ℕ) (at len : ℕ) → at + len ≤ length body → length (part_of at len body) ≡ len
length_part body at len within = length-take-le len (drop at body) (omega (arith, length-drop at body))

-- what is left of a body is a part, and what is left then
pub rest_of_body : (body : List ℕ) (at len : ℕ) → part_of at len body ++ drop (at + len) body ≡ drop at body
rest_of_body body at len = ap (λ (x : List ℕ). part_of at len body ++ x)
    (sym (drop-drop len at body)) ∙ take-append-drop len (drop at body)

pub reads_from : (actor k : ℕ) (body : List ℕ) (at len : ℕ) → IsBlockAt body at len
    → reads actor k at (blocks (drop at body)) ≡ read_entry actor k at (part_of at len body) ∷ reads actor k (at + len)
    (blocks (drop (at + len) body))
reads_from actor k body at len is =
    ap (reads actor k at) (blocks_from body at len is)
    ∙ ap (λ n. read_entry actor k at (part_of at len body) ∷ reads actor k (at + n) (blocks (drop (at + len) body)))
    (length_part body at len (omega (arith, is.within, is.len_is)))

pub messages_from : (next : ℕ) (signature : List ℕ) (number : ℕ) (body : List ℕ) (at len : ℕ) → IsBlockAt body at len
    → block_messages next signature number (blocks (drop at body))
    ≡ sent.Blkdata next signature number (part_of at len body) ∷ block_messages (later_call next 1) signature
    (number + 1) (blocks (drop (at + len) body))
messages_from next signature number body at len is = ap (block_messages next signature number)
    (blocks_from body at len is)

-- calls that come later, and then more
pub later_again : (next calls more : ℕ) → later_call (later_call next calls) more ≡ later_call next (calls + more)
later_again next calls more = omega arith

pub one_block_more : (body : List ℕ) (at len : ℕ) → IsBlockAt body at len
    → length (blocks (drop at body)) ≡ 1 + length (blocks (drop (at + len) body))
one_block_more body at len is = ap (λ (x : List (List ℕ)). length x) (blocks_from body at len is) ∙ omega arith
