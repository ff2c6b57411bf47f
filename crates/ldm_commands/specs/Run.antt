-- How the program ends, by what its words ask for.
use Rattle.std.specs.Prelude.{◌≡◌, ◌⊎◌, ℕ, Bool, true, false, List, [], ◌∷◌, Option, Some, None}
use Rattle.ldm_outside.specs.Dial.{Asked}
use Rattle.ldm_outside.specs.Io.{SinkRecord}
use Rattle.ldm_status.specs.Streams.{IsUntouched}
use Rattle.ldm_status.specs.declared.status.Status.TheVariants as status
use Rattle.ldm_status.specs.Status.{Reports, ReportsBecause}
use Rattle.ldm_play.specs.Run.{Plays}
use Rattle.ldm_chain.specs.Run.{RunsChain}
use Rattle.ldm_check.specs.Runs.{CheckRuns as ChecksFiles}
use Rattle.ldm_crowd.specs.Run.{CrowdRuns}
use Rattle.ldm_exercise.specs.Run.{Exercises}
use Rattle.ldm_node_command.specs.Run.{NodeRuns}
use Rattle.ldm_node_command.specs.Told.{TellsCommands}
use Rattle.ldm_watch.specs.Notifyme.{Notifies}
use Rattle.ldm_pqact_command.specs.PqactRuns.{Pqacts}
use Rattle.ldm_gather.specs.Cats.{Cats}
use Rattle.ldm_tools.specs.Inserts.{Inserts}
use Rattle.ldm_tools.specs.Every.{AsksOn}
use Rattle.ldm_pqstats.specs.Runs.{Pqstats}
use Rattle.ldm_pqstats.specs.declared.asked.StatsAsked.{StatsAsked}
use Rattle.ldm_play.specs.Runs.{CheckRuns, ResumeRuns, SaveRuns}
use Rattle.ldm_tools.specs.Mon.{Mons}
use Rattle.ldm_wmo.specs.Ingests.{Ingests}
use Rattle.ldm_commands.specs.Command.{Form, has_options, take_memory}
use Rattle.ldm_commands.specs.Command as form
use Rattle.ldm_commands.specs.Lent.{IsAskedFor, act_of, asked_of, cat_of, chain_of, check_of, every_of, files_of, ingest_of, ingesting_of, insert_of, inserting_of, mon_of, node_of}
use Rattle.ldm_commands.specs.Lent.{order_by, order_of, paths_in, saving_of, setup_of, size_of, stats_of, wanted_of, work_of}
use Rattle.ldm_commands.specs.World.{OnlyStreams, Tells, WorldView, streams_of, with_act, with_cat, with_chain, with_check, with_files, with_ingest, with_net, with_node, with_put, with_saving}

-- Words that are no form of a command were reported, with a reason or without one.
abbrev pub ReportsUsageIf : Bool → ℕ → SinkRecord → SinkRecord → Type 0
ReportsUsageIf true code old new = ReportsBecause status.Usage code old new
ReportsUsageIf false code old new = Reports status.Usage code old new

-- Words that are no form of a command were reported. Only where the first one is that of a command with options, or of one about
-- files, there is perhaps a reason.
abbrev pub ReportsUsage : List (List ℕ) → ℕ → SinkRecord → SinkRecord → Type 0
ReportsUsage [] code old new = Reports status.Usage code old new
ReportsUsage (first ∷ others) code old new = ReportsUsageIf (has_options first) code old new

module _ {K F L T : Type 0} (tells : Tells K F L T) where
  -- Nothing was done, but for what the log took.
  abbrev pub IsIdle : WorldView K F L T → WorldView K F L T → Type 0
  IsIdle old new = IsUntouched (streams_of tells old) (streams_of tells new) × OnlyStreams old new

  -- There was no memory to read the words, which takes some, and nothing was done.
  abbrev pub LacksMemory : Bool → ℕ → WorldView K F L T → WorldView K F L T → Type 0
  LacksMemory takes_memory code old new = (takes_memory ≡ true) × IsIdle old new × Reports status.NoMemory code old.log new.log

  -- The node was asked for its figures once; or again and again, and then the clock was lent too.
  abbrev pub Monitors : Asked → (every : Option ℕ) → ℕ → WorldView K F L T → WorldView K F L T → Type 0
  Monitors peer None code old new = Mons code peer (mon_of tells old) (mon_of tells new) × (new ≡ with_net new old)
  Monitors peer (Some seconds) code old new = AsksOn code peer seconds (every_of tells old) (every_of tells new) × (new ≡ with_cat new old)

  -- What a command does, the number that the program ends with, and what is changed until then. What a command is not lent stays as it is.
  abbrev pub Does : Form → ℕ → WorldView K F L T → WorldView K F L T → Type 0
  Does (form.Play arena slots) code old new =
      Plays (record { arena = arena; slots = slots }) code (streams_of tells old) (streams_of tells new) × OnlyStreams old new
  Does (form.Crowd arena slots workers) code old new =
      CrowdRuns (record { arena = arena; slots = slots; workers = workers }) code (streams_of tells old) (streams_of tells new) × OnlyStreams old new
  Does (form.Exercise number count) code old new = Exercises number count code (streams_of tells old) (streams_of tells new) × OnlyStreams old new
  Does (form.Chain chain) code old new = RunsChain (work_of chain) code (chain_of tells old) (chain_of tells new) × (new ≡ with_chain new old)
  Does (form.Node node) code old new =
      NodeRuns tells.station (setup_of node) code (node_of tells old) (node_of tells new)
      × TellsCommands tells.station (setup_of node) code (node_of tells old) (node_of tells new) × (new ≡ with_node new old)
  Does (form.Pqact act) code old new =
      Pqacts tells.store tells.launcher code (order_by act) (paths_in act) (act_of old) (act_of new) × (new ≡ with_act new old)
  Does (form.Pqinsert insert) code old new = Inserts code (inserting_of insert) (insert_of tells old) (insert_of tells new) × (new ≡ with_put new old)
  Does (form.Pqcat cat) code old new =
      Cats tells.sink code (order_of cat) (cat_of old) (cat_of new) × (new ≡ with_cat new old)
  Does (form.Notifyme notices) code old new = Notifies code (wanted_of notices) (mon_of tells old) (mon_of tells new) × (new ≡ with_net new old)
  Does (form.Pqmon mon) code old new = Monitors (asked_of mon.peer) mon.every code old new
  Does (form.Wmo wmo) code old new = Ingests code (ingesting_of wmo) (ingest_of tells old) (ingest_of tells new) × (new ≡ with_ingest new old)
  Does (form.Pqstats stats) code old new =
      ((asked : StatsAsked) × IsAskedFor stats asked × Pqstats code asked (stats_of tells old) (stats_of tells new)) × (new ≡ with_cat new old)
  Does (form.Save save) code old new = SaveRuns (size_of save) code (saving_of tells old) (saving_of tells new) × (new ≡ with_saving new old)
  Does (form.Resume file) code old new = ResumeRuns code (saving_of tells old) (saving_of tells new) × (new ≡ with_saving new old)
  Does (form.Pqcheck file) code old new = CheckRuns code (check_of tells old) (check_of tells new) × (new ≡ with_check new old)
  Does (form.Check check) code old new =
      ChecksFiles code check.confs check.pqacts (files_of tells old) (files_of tells new) × (new ≡ with_files new old)

  -- What was asked for, by which words, the number that the program ends with, and what is changed until then.
  abbrev pub RunEnds : Option Form → List (List ℕ) → ℕ → WorldView K F L T → WorldView K F L T → Type 0
  -- the words are no form of a command
  RunEnds None words code old new = (IsIdle old new × ReportsUsage words code old.log new.log) ⊎ LacksMemory (take_memory words) code old new
  RunEnds (Some form) words code old new = Does form code old new ⊎ LacksMemory (take_memory words) code old new
