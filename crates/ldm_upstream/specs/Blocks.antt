-- A body in blocks.
use Rattle.std.specs.Prelude.{ℕ, zero, suc, ◌+◌, ◌-◌, ◌/◌, List, [], ◌∷◌, length, take, drop}
use Rattle.ldm_model.specs.declared.event.Event.TheVariants.{Read}
use Rattle.ldm_model.specs.declared.event.Reply.TheVariants.{Bytes}
use Rattle.ldm_model.specs.declared.event.Entry.{Entry}
use Rattle.ldm_relay.specs.declared.message.TheConstants.{LARGEST_BLOCK}

-- so many blocks from the front, each of 16,384 bytes or what is left
abbrev pub cut : ℕ → List ℕ → List (List ℕ)
cut zero body = []
cut (suc count) body = take LARGEST_BLOCK body ∷ cut count (drop LARGEST_BLOCK body)

-- how many blocks so many bytes make
abbrev pub count_blocks : ℕ → ℕ
count_blocks size = (size + LARGEST_BLOCK - 1) / LARGEST_BLOCK

-- the blocks of a body: each has 16,384 bytes, and the last one what is left
abbrev pub blocks : List ℕ → List (List ℕ)
blocks body = cut (count_blocks (length body)) body

-- the calls that read these blocks one after another, from an offset on
abbrev pub reads : ℕ → ℕ → ℕ → List (List ℕ) → List Entry
reads actor k offset [] = []
reads actor k offset (block ∷ behind) =
    record { actor = actor; event = Read k offset (length block); reply = Bytes block } ∷ reads actor k
    (offset + length block) behind
