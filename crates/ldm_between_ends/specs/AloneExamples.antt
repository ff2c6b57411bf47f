-- A sample queue, a sample request and a sample feeding for the worked examples.
use Rattle.std.specs.Prelude.{ℕ, false, List, [], ◌∷◌, map, codes, replicate}
use Rattle.ldm_types.specs.declared.class.Spec.{Spec}
use Rattle.ldm_model.specs.declared.event.Reply.{Reply}
use Rattle.ldm_model.specs.declared.event.Entry.{Entry}
use Rattle.ldm_model.specs.Examples.{by, insert_for, sample_info}
use Rattle.ldm_model.specs.State.{State, empty}
use Rattle.ldm_model.specs.Next.{Call}
use Rattle.ldm_model.specs.History.{after, entries_of}
use Rattle.ldm_class.specs.Rules.{open_rule}
use Rattle.ldm_sender.specs.Asked.{Asked}
use Rattle.ldm_sender.specs.Opening.{Opened}
use Rattle.ldm_upstream.specs.Turn.{Given, Turn, Gave, Quiet, Whole}
use Rattle.ldm_upstream.specs.Feeding.{Feeding, Last, Stopped, entries_of as feeding_entries}

-- a queue with two products of 4 bytes: one of feed 2, inserted at 100 microseconds, and one of feed 4, inserted at 101
abbrev pub sample_queue : State
sample_queue = after 4096 10 (entries_of (empty 4096 10) (by 0 (insert_for 2 1 4) ∷ by 0 (insert_for 4 2 4) ∷ []))

-- the first of them
abbrev pub first_product : Given
first_product = record { n = 0; time = 100; product = record { info = sample_info 1 4; body = replicate 4 65 } }

-- feed 2, and any ident
abbrev pub sample_spec : Spec
sample_spec = record { feed = record { 0 = 2 }; pattern = record { items = codes ".*" } }

-- host `h` asks for that up to an instant
abbrev pub asks_up_to : ℕ → Asked
asks_up_to last = record {
  host = codes "h";
  rules = open_rule ∷ [];
  xid = 1;
  class = record { from = 0; to = last; specs = record { items = sample_spec ∷ [] } };
  max_hereis = 16384;
}

-- a cursor at place 0, and these turns
abbrev pub sample_feeding : List Turn → Last → Feeding
sample_feeding turns last = record { answered = Opened false 0; answered_at = 7; turns = turns; last = last }

-- it gives the first product, waits once, and stops
abbrev pub sample_calls : List Entry
sample_calls = feeding_entries 3 (asks_up_to 500) (sample_feeding (Gave first_product (Whole 8) ∷ Quiet 2 9 ∷ []) (Stopped 2))

-- what entries call, and what they are answered
abbrev pub calls_of : List Entry → List Call
calls_of entries = map (λ (entry : Entry). record { actor = entry.actor; event = entry.event }) entries

abbrev pub answers_of : List Entry → List Reply
answers_of entries = map (λ (entry : Entry). entry.reply) entries
