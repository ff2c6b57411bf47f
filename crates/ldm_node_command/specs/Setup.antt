-- What a node is set up with.
use Rattle.std.specs.Prelude.{ℕ, ◌+◌, List, length, min, Option}
use Rattle.std.specs.Option.{option_copied}
use Rattle.ldm_conf.specs.Confs.{ConfView}
use Rattle.ldm_book.specs.Limits.{IsGoodArena, IsGoodSlots}
use Rattle.ldm_shared.specs.Limits.{IsGoodPasses}
use Rattle.ldm_node_command.specs.declared.passes.TheConstants.{MOST_PASSES}
use Rattle.ldm_node_command.specs.declared.setup.NodeSetup.{NodeSetup}

-- What the words of a command line say of a node.
pub record Setup : Type 0 where
  -- the port where it lets peers in
  pub port : ℕ
  -- bytes of the arena
  pub arena : ℕ
  pub slots : ℕ
  -- how many workers let peers in, and after how many sessions each of them is done
  pub workers : ℕ
  pub sessions : ℕ
  -- after how many idle calls a gate stops
  pub idles : Option ℕ
  -- the path of its configuration
  pub path : List ℕ
  -- the path of the journal of its queue, if it keeps one
  pub journal : Option (List ℕ)

abbrev pub setup_of : NodeSetup → Setup
setup_of setup = record {
  port = setup.options.port;
  arena = setup.arena;
  slots = setup.slots;
  workers = setup.options.workers;
  sessions = setup.options.sessions;
  idles = setup.options.idles;
  path = setup.conf.now;
  journal = option_copied setup.journal;
}

-- how many passes the queue is made with: one for each worker that lets peers in, one for each request, and one for the last look at it
abbrev pub passes_for : Setup → ConfView → ℕ
passes_for setup conf = min (setup.workers + length conf.requests + 1) MOST_PASSES

-- there is such a queue
pub record IsGoodSize (setup : Setup) (conf : ConfView) : Type 0 where
  pub arena : IsGoodArena setup.arena
  pub slots : IsGoodSlots setup.slots
  pub passes : IsGoodPasses (passes_for setup conf)
