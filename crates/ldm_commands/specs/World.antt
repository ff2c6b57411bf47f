-- What contracts see of the world of the program.
use Rattle.std.specs.Prelude.{◌≡◌, ◌≤◌, ℕ, List, Option}
use Rattle.std.specs.Option.{option_map}
use Rattle.ldm_disk.specs.declared.desk.Desk.{Desk}
use Rattle.ldm_disk.specs.Desks.{DeskRecord}
use Rattle.ldm_disk.specs.Told.{DiskRecord}
use Rattle.ldm_outside.specs.Clock.{ClockRecord}
use Rattle.ldm_outside.specs.Dial.{DialRecord}
use Rattle.ldm_outside.specs.Io.{SourceRecord, SinkRecord}
use Rattle.ldm_outside.specs.Launcher.{LauncherRecord}
use Rattle.ldm_outside.specs.Station.{StationRecord}
use Rattle.ldm_outside.specs.Store.{StoreRecord}
use Rattle.ldm_status.specs.Streams.{StreamsRecord, KeepsFaults}
use Rattle.ldm_commands.specs.declared.world.World.{World}

-- A world at a moment: what its parts tell. The sink, the store and the launcher stand as they are, since a command may lend them on.
pub record WorldView (K F L T : Type 0) : Type 0 where
  pub source : SourceRecord
  pub sink : K
  pub log : SinkRecord
  pub clock : ClockRecord
  pub store : F
  pub launcher : L
  pub net : DialRecord
  -- the stations that the net keeps
  pub kept : List T
  -- the port that the net was asked for last
  pub port : Option ℕ
  -- the desk that the net keeps
  pub desk : Option DeskRecord
  pub disk : DiskRecord

-- what the desk tells that a net keeps
abbrev pub kept_desk_of : {N F E C G : Type 0} → (N → Option (Desk F E C G)) → (Desk F E C G → DeskRecord) → N → Option DeskRecord
kept_desk_of kept tells net = option_map tells (kept net)

abbrev pub world_view : {S K E C F L N D T : Type 0} → (S → SourceRecord) → (E → SinkRecord) → (C → ClockRecord) → (N → DialRecord) → (N → List T)
    → (N → Option ℕ) → (N → Option DeskRecord) → (D → DiskRecord) → World S K E C F L N D → WorldView K F L T
world_view source log clock net kept port desk disk world = record {
  source = source world.streams.source;
  sink = world.streams.sink;
  log = log world.streams.log;
  clock = clock world.clock;
  store = world.store;
  launcher = world.launcher;
  net = net world.net;
  kept = kept world.net;
  port = port world.net;
  desk = desk world.net;
  disk = disk world.disk;
}

-- what the sink, the store, the launcher and a station tell
pub record Tells (K F L T : Type 0) : Type 0 where
  pub sink : K → SinkRecord
  pub store : F → StoreRecord
  pub launcher : L → LauncherRecord
  pub station : T → StationRecord

abbrev pub tells_of : {K F L T : Type 0} → (K → SinkRecord) → (F → StoreRecord) → (L → LauncherRecord) → (T → StationRecord) → Tells K F L T
tells_of sink store launcher station = record { sink = sink; store = store; launcher = launcher; station = station }

-- Nothing but the streams was touched.
pub record OnlyStreams {K F L T : Type 0} (old new : WorldView K F L T) : Type 0 where
  pub clock : new.clock ≡ old.clock
  pub store : new.store ≡ old.store
  pub launcher : new.launcher ≡ old.launcher
  pub net : new.net ≡ old.net
  pub kept : new.kept ≡ old.kept
  pub port : new.port ≡ old.port
  pub desk : new.desk ≡ old.desk
  pub disk : new.disk ≡ old.disk

-- ---- a world of which some parts are those of another: what a command leaves that is lent just these

module _ {K F L T : Type 0} where
  -- the sink and the log
  abbrev pub with_sinks : WorldView K F L T → WorldView K F L T → WorldView K F L T
  with_sinks other world = record world { sink = other.sink; log = other.log }

  -- these and the net
  abbrev pub with_net : WorldView K F L T → WorldView K F L T → WorldView K F L T
  with_net other world = record (with_sinks other world) { net = other.net; kept = other.kept; port = other.port; desk = other.desk }

  -- these and the clock
  abbrev pub with_cat : WorldView K F L T → WorldView K F L T → WorldView K F L T
  with_cat other world = record (with_net other world) { clock = other.clock }

  -- these and the source
  abbrev pub with_ingest : WorldView K F L T → WorldView K F L T → WorldView K F L T
  with_ingest other world = record (with_cat other world) { source = other.source }

  -- sinks, net, clock and store
  abbrev pub with_put : WorldView K F L T → WorldView K F L T → WorldView K F L T
  with_put other world = record (with_cat other world) { store = other.store }

  -- the streams, the clock and the store
  abbrev pub with_chain : WorldView K F L T → WorldView K F L T → WorldView K F L T
  with_chain other world = record (with_sinks other world) { source = other.source; clock = other.clock; store = other.store }

  -- the sink, the log and the disk
  abbrev pub with_check : WorldView K F L T → WorldView K F L T → WorldView K F L T
  with_check other world = record (with_sinks other world) { disk = other.disk }

  -- the sink, the log and the store
  abbrev pub with_files : WorldView K F L T → WorldView K F L T → WorldView K F L T
  with_files other world = record (with_sinks other world) { store = other.store }

  -- the streams and the disk
  abbrev pub with_saving : WorldView K F L T → WorldView K F L T → WorldView K F L T
  with_saving other world = record (with_check other world) { source = other.source }

  -- log, net, clock, store and launcher
  abbrev pub with_act : WorldView K F L T → WorldView K F L T → WorldView K F L T
  with_act other world = record world {
    log = other.log;
    net = other.net;
    kept = other.kept;
    port = other.port;
    desk = other.desk;
    clock = other.clock;
    store = other.store;
    launcher = other.launcher;
  }

  -- sink, log, net, store and launcher
  abbrev pub with_node : WorldView K F L T → WorldView K F L T → WorldView K F L T
  with_node other world = record (with_net other world) { store = other.store; launcher = other.launcher }

module _ {K F L T : Type 0} (tells : Tells K F L T) where
  abbrev pub streams_of : WorldView K F L T → StreamsRecord
  streams_of world = record { source = world.source; sink = tells.sink world.sink; log = world.log }

  -- No count of faults fell.
  pub record KeepsAllFaults (old new : WorldView K F L T) : Type 0 where
    pub streams : KeepsFaults (streams_of old) (streams_of new)
    pub store : (tells.store old.store).faults ≤ (tells.store new.store).faults
    pub launcher : (tells.launcher old.launcher).faults ≤ (tells.launcher new.launcher).faults
    pub net : old.net.faults ≤ new.net.faults
    pub disk : old.disk.faults ≤ new.disk.faults
