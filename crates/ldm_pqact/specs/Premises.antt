-- What the promises to complete ask for can be: one product was queued, and its body went to a file, over a store, a
-- launcher, a log and a gate of memory.
use Rattle.std.specs.Prelude.{ℕ, List, [], ◌∷◌, take, Some, None, codes}
use Rattle.ldm_model.specs.declared.event.Entry.{Entry}
use Rattle.ldm_model.specs.declared.event.Event.TheVariants.{Close, Read, Release, Step}
use Rattle.ldm_model.specs.State.{empty}
use Rattle.ldm_model.specs.History.{entries_of}
use Rattle.ldm_model.specs.Examples.{by, insert_of}
use Rattle.ldm_outside.specs.Store.{File, StoreRecord}
use Rattle.ldm_shared.specs.Passes.{PassView}
use Rattle.ldm_pqact.specs.Acted.{Situation, opening}

-- The product is queued by actor 1. Actor 0 opens a cursor, is given it, reads its four bytes, lets it go, comes to the
-- end of the queue and closes the cursor.
abbrev pub entries_acted : List Entry
entries_acted =
    entries_of (empty 168 10)
    (by 1 (insert_of 100 1 4) ∷ by 0 opening ∷ by 0 (Step 0) ∷ by 0 (Read 0 0 4)
    ∷ by 0 (Release 0) ∷ by 0 (Step 0) ∷ by 0 (Close 0) ∷ [])

-- the pass of actor 0, and what it has seen
abbrev pub pass_at : List Entry → PassView
pass_at seen = record { queue = None; arena = 168; slots = 10; passes = 2; actor = 0; seen = seen }

-- a store that failed never, with these files, of which so many were opened
abbrev pub store_at : ℕ → List (List ℕ) → List File → StoreRecord
store_at next opened files = record {
  faults = 0;
  long = 0;
  next = next;
  paths = [];
  opened = Some opened;
  files = Some files;
  flushed = Some [];
}

-- before and after
abbrev pub before_filing : Situation
before_filing = record {
  pass = pass_at (take 1 entries_acted);
  store = store_at 0 [] [];
  launcher = record { faults = 0; next = 0; running = []; children = Some [] };
  log = record { written = Some []; faults = 0 };
  gate = record { stops = 0; idles = Some (Some 0); calls = Some [] };
}

abbrev pub after_filing : Situation
after_filing = record before_filing {
  pass = pass_at entries_acted;
  store = store_at 1 (codes "filed" ∷ []) (record { path = codes "filed"; bytes = 65 ∷ 65 ∷ 65 ∷ 65 ∷ [] } ∷ []);
  gate = record { stops = 1; idles = Some (Some 0); calls = Some [] };
}
