-- What each command is told by the form of its words, and what it is lent of a world.
use Rattle.std.specs.Prelude.{◌≡◌, Bool, true, false, None}
use Rattle.ldm_outside.specs.Dial.{Asked}
use Rattle.ldm_conf.specs.Addresses.{Address}
use Rattle.ldm_chain.specs.Work.{ChainOutside, ChainWork}
use Rattle.ldm_check.specs.Runs as files
use Rattle.ldm_node_command.specs.Outside as node_command
use Rattle.ldm_node_command.specs.Setup.{Setup}
use Rattle.ldm_watch.specs.Notifyme.{Wanted}
use Rattle.ldm_gather.specs.Orders.{OrderView}
use Rattle.ldm_pqact_command.specs.PqactRuns.{ActPaths, PqactLent, pqact_lent}
use Rattle.ldm_gather.specs.Cats.{CatLent, cat_lent}
use Rattle.ldm_tools.specs.Inserting.{Inserting}
use Rattle.ldm_tools.specs.Inserts.{InsertRecord}
use Rattle.ldm_play.specs.Ending.{Size}
use Rattle.ldm_play.specs.Outside as saving
use Rattle.ldm_tools.specs.Every as pqmon
use Rattle.ldm_tools.specs.Mon.{MonRecord}
use Rattle.ldm_pqstats.specs.Runs as pqstats
use Rattle.ldm_pqstats.specs.declared.asked.StatsAsked.{StatsAsked}
use Rattle.ldm_watch.specs.declared.form.NoticeForm.{NoticeForm}
use Rattle.ldm_watch.specs.declared.form.NoticeForm.TheVariants.{Numbers, Names}
use Rattle.ldm_wmo.specs.declared.framing.Framing.{Framing}
use Rattle.ldm_wmo.specs.declared.framing.Framing.TheVariants.{Line, Socket}
use Rattle.ldm_wmo.specs.Ingesting.{Ingesting}
use Rattle.ldm_wmo.specs.Moments as wmo_command
use Rattle.ldm_words.specs.Forms.{ActForm, CatForm, ChainForm, InsertForm, NodeForm, NoticesForm, SaveForm, StatsForm, WmoForm}
use Rattle.ldm_commands.specs.World.{Tells, WorldView, streams_of}

-- ---- what it is told

abbrev pub asked_of : Address → Asked
asked_of peer = record { host = peer.host; port = peer.port }

-- how the lines of notices are written: for people, or as numbers
abbrev pub form_of : Bool → NoticeForm
form_of true = Names
form_of false = Numbers

abbrev pub wanted_of : NoticesForm → Wanted
wanted_of notices = record {
  peer = asked_of notices.peer;
  sought = record { class = notices.class; count = notices.count; form = form_of notices.text };
}

abbrev pub inserting_of : InsertForm → Inserting
inserting_of insert = record {
  peer = asked_of insert.peer;
  feed = insert.feed;
  origin = insert.origin;
  ident = insert.ident;
  sign_ident = insert.sign_ident;
  files = insert.files;
}

-- how bulletins stand in a stream: on a line, or in frames
abbrev pub framing_of : Bool → Framing
framing_of true = Socket
framing_of false = Line

abbrev pub ingesting_of : WmoForm → Ingesting
ingesting_of wmo = record { framing = framing_of wmo.socket; peer = asked_of wmo.peer; feed = wmo.feed; origin = wmo.origin }

-- the size of the queue that is saved
abbrev pub size_of : SaveForm → Size
size_of save = record { arena = save.arena; slots = save.slots }

-- what `pqstats` is asked for is what words say
pub record IsAskedFor (stats : StatsForm) (asked : StatsAsked) : Type 0 where
  pub host : asked.host.now ≡ stats.peer.host
  pub port : asked.port ≡ stats.peer.port
  pub class : asked.class.now ≡ stats.class
  pub count : asked.count ≡ stats.count
  pub hours : asked.hours ≡ stats.hours
  pub send : asked.send ≡ stats.send

abbrev pub work_of : ChainForm → ChainWork
work_of chain = record {
  arena = chain.arena;
  slots = chain.slots;
  max_hereis = chain.max_hereis;
  conf = chain.conf;
  classes = chain.classes;
}

abbrev pub order_by : ActForm → OrderView
order_by act =
    record { peer = asked_of act.peer; class = act.class; last = None; count = act.count; arena = act.arena; slots = act.slots }

abbrev pub paths_in : ActForm → ActPaths
paths_in act = record { conf = act.conf; state = act.state }

abbrev pub order_of : CatForm → OrderView
order_of cat =
    record { peer = asked_of cat.peer; class = cat.class; last = None; count = cat.count; arena = cat.arena; slots = cat.slots }

abbrev pub setup_of : NodeForm → Setup
setup_of node = record {
  port = node.port;
  arena = node.arena;
  slots = node.slots;
  workers = node.workers;
  sessions = node.sessions;
  idles = node.idles;
  path = node.conf;
  journal = node.journal;
}

-- ---- what it is lent

module _ {K F L T : Type 0} where
  abbrev pub cat_of : WorldView K F L T → CatLent K
  cat_of world = cat_lent world.net world.sink world.log world.clock

  abbrev pub act_of : WorldView K F L T → PqactLent F L
  act_of world = pqact_lent world.net world.store world.launcher world.log world.clock

module _ {K F L T : Type 0} (tells : Tells K F L T) where
  abbrev pub chain_of : WorldView K F L T → ChainOutside
  chain_of world = record { streams = streams_of tells world; clock = world.clock; store = tells.store world.store }

  abbrev pub mon_of : WorldView K F L T → MonRecord
  mon_of world = record { net = world.net; sink = tells.sink world.sink; log = world.log }

  abbrev pub every_of : WorldView K F L T → pqmon.AskingMoment
  every_of world = pqmon.moment_of (mon_of world) world.clock

  abbrev pub insert_of : WorldView K F L T → InsertRecord
  insert_of world = record {
    outside = record { store = tells.store world.store; net = world.net; sink = tells.sink world.sink; clock = world.clock };
    log = world.log;
  }

  abbrev pub stats_of : WorldView K F L T → pqstats.Lent
  stats_of world = pqstats.lent_of world.net (tells.sink world.sink) world.log world.clock

  abbrev pub saving_of : WorldView K F L T → saving.OutsideRecord
  saving_of world = saving.outside_tells (streams_of tells world) world.disk

  abbrev pub check_of : WorldView K F L T → saving.CheckRecord
  check_of world = saving.check_tells (tells.sink world.sink) world.log world.disk

  abbrev pub files_of : WorldView K F L T → files.CheckOutside
  files_of world = files.check_tells (tells.store world.store) (tells.sink world.sink) world.log

  abbrev pub ingest_of : WorldView K F L T → wmo_command.Outside
  ingest_of world = record { streams = streams_of tells world; net = world.net; clock = world.clock }

  abbrev pub node_of : WorldView K F L T → node_command.Outside T
  node_of world = record {
    sink = tells.sink world.sink;
    log = world.log;
    store = tells.store world.store;
    launcher = tells.launcher world.launcher;
    net = world.net;
    kept = world.kept;
    port = world.port;
    desk = world.desk;
  }
