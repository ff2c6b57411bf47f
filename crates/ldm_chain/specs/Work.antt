-- What a chain is asked to do, and what the outside of it tells.
use Rattle.std.specs.Prelude.{ℕ, ◌≤◌, List, Option}
use Rattle.std.specs.Option.{option_copied}
use Rattle.ldm_types.specs.declared.class.ClassSpec.{ClassSpec}
use Rattle.ldm_outside.specs.Clock.{ClockRecord}
use Rattle.ldm_outside.specs.Store.{StoreRecord}
use Rattle.ldm_book.specs.Limits.{IsGoodArena, IsGoodSlots}
use Rattle.ldm_status.specs.Streams.{StreamsRecord}
use Rattle.ldm_chain.specs.declared.setup.ChainSetup.{ChainSetup}
use Rattle.ldm_chain.specs.declared.setup.TheConstants.{LARGEST_CHAIN_ARENA}

pub record ChainWork : Type 0 where
  -- bytes of the arena and product slots of each queue
  pub arena : ℕ
  pub slots : ℕ
  -- the size of the largest product that is to come whole
  pub max_hereis : ℕ
  -- the path of the configuration, where one is given
  pub conf : Option (List ℕ)
  -- what each node from 1 on asks of the node before it
  pub classes : List ClassSpec

abbrev pub work_of : ChainSetup → ChainWork
work_of setup = record {
  arena = setup.arena;
  slots = setup.slots;
  max_hereis = setup.max_hereis;
  conf = option_copied setup.conf;
  classes = setup.classes.items;
}

-- There are such queues, and no arena is too large for a chain.
pub record IsGoodSize (work : ChainWork) : Type 0 where
  pub arena : IsGoodArena work.arena
  pub most : work.arena ≤ LARGEST_CHAIN_ARENA
  pub slots : IsGoodSlots work.slots

-- What the outside of a chain tells at a moment.
pub record ChainOutside : Type 0 where
  pub streams : StreamsRecord
  pub clock : ClockRecord
  pub store : StoreRecord

abbrev pub chain_outside : StreamsRecord → ClockRecord → StoreRecord → ChainOutside
chain_outside streams clock store = record { streams = streams; clock = clock; store = store }
