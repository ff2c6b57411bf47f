-- A sample session for the worked examples: of four products one is not due, the first one is sent whole, and two are announced.
use Rattle.std.specs.Prelude.{ℕ, Bool, false, List, [], ◌∷◌, map, take, drop, codes, None, Some}
use Rattle.ldm_model.specs.declared.event.Start.TheVariants.{Oldest}
use Rattle.ldm_model.specs.declared.event.Entry.{Entry}
use Rattle.ldm_model.specs.declared.event.Event.TheVariants.{Expire, Step}
use Rattle.ldm_model.specs.Examples.{after_signature, by, insert_of, open_from, signature_of}
use Rattle.ldm_model.specs.History.{entries_of}
use Rattle.ldm_model.specs.Law.{Point}
use Rattle.ldm_model.specs.Next.{Call}
use Rattle.ldm_model.specs.State.{Row, empty}
use Rattle.ldm_shared.specs.Passes.{PassView}
use Rattle.ldm_class.specs.Asking.{resuming}
use Rattle.ldm_intake.specs.Opening.{requesting}
use Rattle.ldm_intake.specs.Receiving.{Receiving}
use Rattle.ldm_intake.specs.Taken.{taken_none}
use Rattle.ldm_sender.specs.Asked.{Asked}
use Rattle.ldm_sender.specs.Opening.{Opened}
use Rattle.ldm_upstream.specs.Turn.{Given, Gave, Passed, Whole, Declined, InBlocks}
use Rattle.ldm_upstream.specs.Feeding.{Feeding, GoesOn}
use Rattle.ldm_upstream.specs.Examples.{asks_for, sample, sample_asked, spec_for, feeding_of}
use Rattle.ldm_between_ends.specs.Life.{gives}
use Rattle.ldm_between_ends.specs.Session.{Session}

abbrev pub numbered : ℕ → Given
numbered n = record sample { n = n }

abbrev pub sample_feeding : Feeding
sample_feeding = feeding_of (Gave (numbered 0) (Whole 8) ∷ Gave (numbered 3) Passed ∷ Gave (numbered 5) (Declined 9)
    ∷ Gave (numbered 7) (InBlocks 9 (9 ∷ [])) ∷ []) GoesOn

abbrev pub sample_receiver : Receiving
sample_receiver = requesting sample_asked.class None 16384

-- the feeder's queue does not matter here
abbrev pub sample_pass : PassView
sample_pass = record { queue = None; arena = 4096; slots = 10; passes = 1; actor = 0; seen = [] }

abbrev pub sample_life : Point
sample_life = record { arena = 4096; slots = 10; before = []; owner = 0; feed = 2; start = Oldest; k = 5; since = [] }

-- where the receiver asked its queue this
abbrev pub session_with : List Entry → Session
session_with made = record {
  pass = sample_pass;
  life = sample_life;
  passing = record {
    asked = sample_asked;
    feeding = sample_feeding;
    begins = sample_receiver;
    at = 0;
    pieces = [];
    actor = 3;
    made = made;
    came_to = taken_none sample_receiver;
  };
}

-- the same request, for what was inserted at 99 microseconds at the latest
abbrev pub asks_before : Asked
asks_before = record sample_asked { class = record sample_asked.class { to = 99 } }

-- the sample, inserted at 100
abbrev pub sample_row : Row
sample_row = record { product = sample.product; time = 100; place = Some 0 }

-- which of these calls gave a product
abbrev pub givings : List Entry → List Bool
givings entries = map (λ (entry : Entry). gives entry.reply) entries

-- ---- a session that goes on behind product 0

-- Products 0 and 1 are inserted, and actor 3 opens a cursor behind product 0. Both are evicted, product 2 is inserted, and the cursor
-- is told of product 1, and then given product 2.
abbrev pub resumed_calls : List Call
resumed_calls =
    by 0 (insert_of 100 1 4) ∷ by 0 (insert_of 100 2 4) ∷ by 3 (open_from (after_signature 1)) ∷ by 0 Expire ∷ by 0 Expire
    ∷ by 0 (insert_of 100 3 4) ∷ by 3 (Step 0) ∷ by 3 (Step 0) ∷ []

abbrev pub resumed_entries : List Entry
resumed_entries = entries_of (empty 4096 10) resumed_calls

abbrev pub resumed_life : Point
resumed_life = record {
  arena = 4096;
  slots = 10;
  before = take 2 resumed_entries;
  owner = 3;
  feed = 2;
  start = after_signature 1;
  k = 0;
  since = drop 3 resumed_entries;
}

-- the class names the signature of product 0
abbrev pub asks_behind : Asked
asks_behind = asks_for 0 (spec_for 2 (codes ".*") ∷ resuming (signature_of 1) ∷ [])

abbrev pub resumed_session : Session
resumed_session =
    let plain = session_with [] in
    record {
      pass = record sample_pass { actor = 3; seen = resumed_entries };
      life = resumed_life;
      passing = record plain.passing { asked = asks_behind; feeding = record sample_feeding { answered = Opened false 0 } };
    }
