-- How the command `chain` ends.
use Rattle.std.specs.Prelude.{ℕ, ◌≤◌, Result}
use Rattle.ldm_status.specs.Streams.{KeepsFaults}
use Rattle.ldm_status.specs.Status.{Reports}
use Rattle.ldm_chain.specs.declared.fault.ChainFault.{ChainFault}
use Rattle.ldm_chain.specs.Work.{ChainOutside, ChainWork}
use Rattle.ldm_chain.specs.CommandEnding.{ChainEnds}
use Rattle.ldm_chain.specs.Statuses.{status_of_chain}

-- A chain went as far as it says, and the number and the log tell how it ended.
abbrev pub RunsChain : ChainWork → ℕ → ChainOutside → ChainOutside → Type 0
RunsChain work code old new =
    (ending : Result (Unit {0}) ChainFault) × ChainEnds ending work old new × Reports (status_of_chain ending) code old.streams.log new.streams.log

-- No count of faults fell.
pub record KeepsChainCounts (old new : ChainOutside) : Type 0 where
  pub streams : KeepsFaults old.streams new.streams
  pub store : old.store.faults ≤ new.store.faults
  pub long : old.store.long ≤ new.store.long
