-- What it comes to that a product is handled, as deeds.
use Rattle.std.specs.Prelude.{ℕ, List, [], ◌∷◌, length, take, drop}
use Rattle.ldm_model.specs.declared.event.Event.TheVariants.{Read}
use Rattle.ldm_model.specs.declared.event.Reply.TheVariants.{Bytes}
use Rattle.ldm_model.specs.declared.event.Entry.{Entry}
use Rattle.ldm_relay.specs.Sent as sent
use Rattle.ldm_relay.specs.Spelling.{written, record_of}
use Rattle.ldm_sender.specs.Deeds.{Deed, records_of}
use Rattle.ldm_upstream.specs.Blocks.{blocks, reads}
use Rattle.ldm_sender.specs.Handling as sender
use Rattle.ldm_upstream.specs.Turn.{Given, Handling, block_messages, feeding_kind}

-- a part of a body
abbrev pub part_of : ℕ → ℕ → List ℕ → List ℕ
part_of offset len body = take len (drop offset body)

-- the call that reads it
abbrev pub read_entry : ℕ → ℕ → ℕ → List ℕ → Entry
read_entry actor k offset part = record { actor = actor; event = Read k offset (length part); reply = Bytes part }

-- a part of a body is read, and the peer is owed it
abbrev pub reading : ℕ → ℕ → ℕ → List ℕ → Deed
reading actor k offset part = record { entries = read_entry actor k offset part ∷ []; bytes = part; instants = [] }

-- a whole body is
abbrev pub reading_all : ℕ → ℕ → List ℕ → Deed
reading_all actor k body = record { entries = reads actor k 0 (blocks body); bytes = body; instants = [] }

-- what is done with a product, between the step that gives it and its release
abbrev pub handling_deed : ℕ → ℕ → ℕ → Given → Handling → Deed
handling_deed actor k next given handling = sender.handling_deed feeding_kind actor k next given handling

-- and its release
abbrev pub product_deed : ℕ → ℕ → ℕ → Given → Handling → Deed
product_deed actor k next given handling = sender.product_deed feeding_kind actor k next given handling

-- one block is read and sent
abbrev pub block_deed : ℕ → ℕ → ℕ → List ℕ → ℕ → ℕ → List ℕ → ℕ → Deed
block_deed actor k next signature offset number block at = record {
  entries = read_entry actor k offset block ∷ [];
  bytes = record_of (written (sent.Blkdata next signature number block));
  instants = at ∷ [];
}

-- all blocks of a product are
abbrev pub blocks_deed : ℕ → ℕ → ℕ → Given → List ℕ → Deed
blocks_deed actor k next given blocks_at = record {
  entries = reads actor k 0 (blocks given.product.body);
  bytes = records_of (block_messages next given.product.info.signature 0 (blocks given.product.body));
  instants = blocks_at;
}
