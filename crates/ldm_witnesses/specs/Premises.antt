-- What each command's promise to complete asks for can be: a script of one line over memory, a configuration of a
-- comment, one class, and an outside of which nothing failed.
use Rattle.std.specs.Prelude.{ℕ, false, true, nat_lt, length, List, [], ◌∷◌, ◌++◌, Some, None, codes}
use Rattle.ldm_types.specs.declared.class.ClassSpec.{ClassSpec}
use Rattle.ldm_types.specs.declared.limits.TheConstants.{GREATEST_INSTANT}
use Rattle.ldm_disk.specs.Desks.{DeskRecord}
use Rattle.ldm_outside.specs.Io.{SourceRecord, SinkRecord}
use Rattle.ldm_outside.specs.Clock.{ClockRecord}
use Rattle.ldm_outside.specs.Dial.{DialRecord}
use Rattle.ldm_outside.specs.Door.{DoorRecord}
use Rattle.ldm_outside.specs.Gate.{GateRecord}
use Rattle.ldm_outside.specs.Launcher.{LauncherRecord}
use Rattle.ldm_outside.specs.Lending.{LendingRecord}
use Rattle.ldm_outside.specs.Station.{StationRecord}
use Rattle.ldm_outside.specs.Store.{StoreRecord}
use Rattle.ldm_status.specs.Streams.{StreamsRecord}
use Rattle.ldm_play.specs.Complete.{Unhindered}
use Rattle.ldm_crowd.specs.Complete.{CrowdUnhindered}
use Rattle.ldm_chain.specs.Work.{ChainWork, ChainOutside}
use Rattle.ldm_chain.specs.Complete.{ChainUnhindered}
use Rattle.ldm_node_command.specs.Outside.{Outside}
use Rattle.ldm_node_command.specs.Setup.{Setup}
use Rattle.ldm_node_command.specs.Complete.{NodeUnhindered}

abbrev pub line : List ℕ → List ℕ
line text = text ++ 10 ∷ []

-- a source of memory with this left, that failed never
abbrev pub source_of : List ℕ → ℕ → SourceRecord
source_of left ends = record { left = Some left; faults = 0; ends = ends }

-- a sink of memory that took this, and failed never
abbrev pub sink_of : List ℕ → SinkRecord
sink_of written = record { written = Some written; faults = 0 }

-- the streams of a command, before its script is read
abbrev pub streams_before : StreamsRecord
streams_before = record { source = source_of (line (codes "0 stat")) 0; sink = sink_of []; log = sink_of [] }

-- and after its text was written
abbrev pub streams_after : List ℕ → StreamsRecord
streams_after text = record { source = source_of [] 1; sink = sink_of text; log = sink_of [] }

abbrev pub PlayIsUnhindered : Type 0
PlayIsUnhindered =
    Unhindered (record { arena = 64; slots = 1 }) streams_before (streams_after (line (codes "stat 0 0 0 0 64")))

abbrev pub CrowdIsUnhindered : Type 0
CrowdIsUnhindered =
    CrowdUnhindered (record { arena = 64; slots = 1; workers = 1 }) streams_before
    (streams_after (line (codes "0 stat 0 0 0 0 64")))

-- a store of memory with one file
abbrev pub store : StoreRecord
store = record {
  faults = 0;
  long = 0;
  next = 0;
  paths = [];
  opened = Some [];
  files = Some (record { path = codes "ldmd.conf"; bytes = line (codes "# all") } ∷ []);
  flushed = Some [];
}

-- the class of all products whose feedtypes have the second bit
abbrev pub class : ClassSpec
class = record {
  from = 0;
  to = GREATEST_INSTANT;
  specs = record { items = record { feed = record { 0 = 2 }; pattern = record { items = codes ".*" } } ∷ [] };
}

abbrev pub work : ChainWork
work = record { arena = 64; slots = 1; max_hereis = 16384; conf = None; classes = class ∷ [] }

abbrev pub chain_before : ChainOutside
chain_before = record { streams = streams_before; clock = record { answers = Some [] }; store = store }

abbrev pub chain_after : ChainOutside
chain_after = record { streams = streams_after []; clock = record { answers = Some [] }; store = store }

abbrev pub ChainIsUnhindered : Type 0
ChainIsUnhindered = ChainUnhindered work chain_before chain_after

abbrev pub unlent : LendingRecord
unlent = record { out = false; ended = 0; failed = 0; back = Some [] }

abbrev pub dial : DialRecord
dial = record { faults = 0; asked = Some []; links = unlent }

-- a station of which nothing failed
abbrev pub station : StationRecord
station = record {
  door = record { faults = 0; peers = 0; closings = 1; hosts = Some []; links = unlent };
  dial = dial;
  log = sink_of [];
  clock = record { answers = Some [] };
  gate = record { stops = 1; idles = Some (Some 0); calls = Some [] };
}

abbrev pub launcher : LauncherRecord
launcher = record { faults = 0; next = 0; running = []; children = Some [] }

abbrev pub setup : Setup
setup = record { port = 388; arena = 64; slots = 1; workers = 1; sessions = 1; idles = Some 0; path = codes "ldmd.conf"; journal = None }

-- a node with one station, as its own record
abbrev pub node_before : Outside StationRecord
node_before = record {
  sink = sink_of [];
  log = sink_of [];
  store = store;
  launcher = launcher;
  net = dial;
  kept = [];
  port = None;
  desk = None;
}

abbrev pub node_after : Outside StationRecord
node_after = record node_before { kept = station ∷ []; port = Some setup.port }

abbrev pub NodeIsUnhindered : Type 0
NodeIsUnhindered = NodeUnhindered (λ (it : StationRecord). it) setup node_before node_after

-- a desk of which nothing failed, whose disk has an empty file
abbrev pub desk : DeskRecord
desk = record {
  disk = record {
    faults = 0;
    attached = true;
    file = Some (record { bytes = []; moment = 0; may_leave = λ left. nat_lt (length left) 1; left_since = λ since left. nat_lt (length left) 1 });
  };
  log = sink_of [];
  clock = record { answers = Some [] };
  gate = record { stops = 1; idles = Some (Some 0); calls = Some [] };
}

-- the same node with a journal
abbrev pub JournalIsUnhindered : Type 0
JournalIsUnhindered =
    NodeUnhindered (λ (it : StationRecord). it) (record setup { journal = Some (codes "queue") }) node_before
    (record node_after { desk = Some desk })
