-- What the promise to complete asks for can be: over one link a product came, and its body went to a file, over a net, a
-- store, a launcher, a log and a clock of memory.
use Rattle.std.specs.Prelude.{ℕ, List, [], ◌∷◌, Some, None, codes, false}
use Rattle.ldm_outside.specs.Launcher.{LauncherRecord}
use Rattle.ldm_outside.specs.Store.{File, StoreRecord}
use Rattle.ldm_pqact_command.specs.PqactRuns.{PqactLent}

-- a store that failed never, with these files, of which so many were opened
abbrev pub store_at : ℕ → List (List ℕ) → List File → StoreRecord
store_at next opened files = record {
  faults = 0;
  long = 0;
  next = next;
  paths = [];
  opened = Some opened;
  files = Some files;
  flushed = Some [];
}

-- the pqact.conf
abbrev pub conf_file : File
conf_file = record { path = codes "pqact.conf"; bytes = codes "ANY\t^.*\tFILE\tfiled\n" }

-- before and after
abbrev pub before_filing : PqactLent StoreRecord LauncherRecord
before_filing = record {
  net = record { faults = 0; asked = Some []; links = record { out = false; ended = 0; failed = 0; back = Some [] } };
  store = store_at 0 [] (conf_file ∷ []);
  launcher = record { faults = 0; next = 0; running = []; children = Some [] };
  log = record { written = Some []; faults = 0 };
  clock = record { answers = Some [] };
}

abbrev pub after_filing : PqactLent StoreRecord LauncherRecord
after_filing = record before_filing {
  net = record {
    faults = 0;
    asked = Some (record { host = codes "localhost"; port = 388 } ∷ []);
    links = record { out = false; ended = 1; failed = 0; back = None };
  };
  store = store_at 1 (codes "filed" ∷ []) (conf_file ∷ record { path = codes "filed"; bytes = 65 ∷ 65 ∷ 65 ∷ 65 ∷ [] } ∷ []);
  clock = record { answers = Some (1 ∷ []) };
}
