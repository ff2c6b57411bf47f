-- A sample request, a sample product and sample sessions of notices for the worked examples.
use Rattle.std.specs.Prelude.{ℕ, false, List, [], ◌∷◌, map, codes, replicate}
use Rattle.ldm_types.specs.Info.{Metadata}
use Rattle.ldm_types.specs.declared.limits.TheConstants.{GREATEST_INSTANT}
use Rattle.ldm_types.specs.declared.class.Spec.{Spec}
use Rattle.ldm_model.specs.declared.event.Reply.{Reply}
use Rattle.ldm_model.specs.declared.event.Entry.{Entry}
use Rattle.ldm_class.specs.Rules.{open_rule}
use Rattle.ldm_sender.specs.Asked.{Asked}
use Rattle.ldm_sender.specs.Opening.{Opened}
use Rattle.ldm_notify.specs.Turn.{Row, Turn}
use Rattle.ldm_notify.specs.Notifying.{Notifying, Last}

abbrev pub spec_for : ℕ → List ℕ → Spec
spec_for feed pattern = record { feed = record { 0 = feed }; pattern = record { items = pattern } }

-- host `h` asks for notices of feed 2, of products that were inserted up to that instant, as call 1
abbrev pub asks_up_to : ℕ → Asked
asks_up_to instant = record {
  host = codes "h";
  rules = open_rule ∷ [];
  xid = 1;
  class = record { from = 0; to = instant; specs = record { items = spec_for 2 (codes ".*") ∷ [] } };
  max_hereis = 0;
}

abbrev pub sample_asked : Asked
sample_asked = asks_up_to GREATEST_INSTANT

-- origin h, ident p, feed 2, sequence number 1
abbrev pub sample_info : Metadata
sample_info = record {
  arrival = 100;
  signature = replicate 16 1;
  origin = 104 ∷ [];
  feed = 2;
  seqno = 1;
  ident =
      112 ∷ [];
  size = 4;
}

-- product 0, inserted at 100 microseconds
abbrev pub sample : Row
sample = record { n = 0; time = 100; info = sample_info }

-- a cursor at place 5, and these turns
abbrev pub notifying_of : List Turn → Last → Notifying
notifying_of turns last = record { answered = Opened false 5; answered_at = 7; turns = turns; last = last }

abbrev pub replies_of : List Entry → List Reply
replies_of entries = map (λ (entry : Entry). entry.reply) entries
