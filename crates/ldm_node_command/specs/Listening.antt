-- What the net gives a node.
use Rattle.std.specs.Prelude.{◌≡◌, ◌+◌, List, length}
use Rattle.std.specs.List.{All}
use Rattle.ldm_outside.specs.Count.{Rose}
use Rattle.ldm_outside.specs.Dial.{DialRecord}
use Rattle.ldm_outside.specs.Station.{StationRecord, IsNew}
use Rattle.ldm_conf.specs.Confs.{ConfView}
use Rattle.ldm_node_command.specs.declared.listening.ListenFault.{ListenFault}
use Rattle.ldm_node_command.specs.declared.listening.ListenFault.TheVariants.{Failed, OutOfMemory}
use Rattle.ldm_node_command.specs.Setup.{Setup}

module _ {S : Type 0} (tells : S → StationRecord) where
  -- The net gave a new station for each worker, and did nothing else.
  pub record Listens (setup : Setup) (conf : ConfView) (given : List S) (old new : DialRecord) : Type 0 where
    pub count : length given ≡ setup.workers + length conf.requests
    pub are_new : All (λ station. IsNew setup.idles (tells station)) given
    pub same : new ≡ old

-- Why the net gave no stations.
abbrev pub FailsToListen : ListenFault → DialRecord → DialRecord → Type 0
-- the net failed
FailsToListen Failed old new = Rose old.faults new.faults × (new ≡ record old { faults = new.faults })
FailsToListen OutOfMemory old new = new ≡ old
