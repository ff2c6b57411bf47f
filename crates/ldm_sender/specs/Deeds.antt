-- What a part of a sending comes to, as plain data: the calls that were made on the queue, the bytes that the peer is
-- owed, and what
-- the clock answered.
use Rattle.std.specs.Prelude.{ℕ, List, [], ◌∷◌, ◌++◌}
use Rattle.std.specs.List.{flat_map}
use Rattle.ldm_model.specs.declared.event.Entry.{Entry}
use Rattle.ldm_relay.specs.Sent.{Sent}
use Rattle.ldm_relay.specs.Spelling.{written, record_of}

pub record Deed : Type 0 where
  pub entries : List Entry
  pub bytes : List ℕ
  pub instants : List ℕ

-- one deed, and then another
abbrev pub and_then : Deed → Deed → Deed
and_then first second = record {
  entries = first.entries ++ second.entries;
  bytes = first.bytes ++ second.bytes;
  instants = first.instants ++ second.instants;
}

abbrev pub no_deed : Deed
no_deed = record { entries = []; bytes = []; instants = [] }

-- a call on the queue
abbrev pub calling : Entry → Deed
calling entry = record { entries = entry ∷ []; bytes = []; instants = [] }

-- bytes that the peer is owed
abbrev pub owing : List ℕ → Deed
owing bytes = record { entries = []; bytes = bytes; instants = [] }

-- an answer of the clock
abbrev pub asking : ℕ → Deed
asking at = record { entries = []; bytes = []; instants = at ∷ [] }

-- the records of messages, one behind the other
abbrev pub records_of : List Sent → List ℕ
records_of messages = flat_map (λ message. record_of (written message)) messages
