-- A sample request, a sample product and sample feedings for the worked examples.
use Rattle.std.specs.Prelude.{ℕ, false, List, [], ◌∷◌, map, codes, replicate}
use Rattle.ldm_types.specs.Info.{Metadata}
use Rattle.ldm_types.specs.declared.limits.TheConstants.{GREATEST_INSTANT}
use Rattle.ldm_types.specs.declared.class.Spec.{Spec}
use Rattle.ldm_model.specs.declared.event.Reply.{Reply}
use Rattle.ldm_model.specs.declared.event.Entry.{Entry}
use Rattle.ldm_model.specs.declared.event.Event.{Event}
use Rattle.ldm_model.specs.declared.event.Event.TheVariants.{OpenCursor}
use Rattle.ldm_model.specs.declared.event.Start.{Start}
use Rattle.ldm_class.specs.Rules.{open_rule}
use Rattle.ldm_sender.specs.Asked.{Asked}
use Rattle.ldm_sender.specs.Opening.{Opened}
use Rattle.ldm_upstream.specs.Turn.{Given, Turn}
use Rattle.ldm_upstream.specs.Feeding.{Feeding, Last}

abbrev pub spec_for : ℕ → List ℕ → Spec
spec_for feed pattern = record { feed = record { 0 = feed }; pattern = record { items = pattern } }

-- host `h` asks for feed 2 from an instant on, as call 1
abbrev pub asks_for : ℕ → List Spec → Asked
asks_for from specs = record {
  host = codes "h";
  rules = open_rule ∷ [];
  xid = 1;
  class = record { from = from; to = GREATEST_INSTANT; specs = record { items = specs } };
  max_hereis = 16384;
}

abbrev pub sample_asked : Asked
sample_asked = asks_for 0 (spec_for 2 (codes ".*") ∷ [])

-- origin h, ident p, feed 2, sequence number 1
abbrev pub sample_info : Metadata
sample_info = record {
  arrival = 100;
  signature = replicate 16 1;
  origin = 104 ∷ [];
  feed = 2;
  seqno = 1;
  ident =
      112 ∷ [];
  size = 4;
}

-- product 0, inserted at 100 microseconds, with the body `ABCD`
abbrev pub sample : Given
sample = record { n = 0; time = 100; product = record { info = sample_info; body = 65 ∷ 66 ∷ 67 ∷ 68 ∷ [] } }

-- a cursor at place 5, and these turns
abbrev pub feeding_of : List Turn → Last → Feeding
feeding_of turns last = record { answered = Opened false 5; answered_at = 7; turns = turns; last = last }

abbrev pub replies_of : List Entry → List Reply
replies_of entries = map (λ (entry : Entry). entry.reply) entries

abbrev pub events_of : List Entry → List Event
events_of entries = map (λ (entry : Entry). entry.event) entries

-- a cursor for feed 2
abbrev pub opens_at : Start → Event
opens_at from = OpenCursor (record { 0 = 2 }) from

abbrev pub sample_signature : List ℕ
sample_signature = replicate 16 1
