-- The rules of a chain.
use Rattle.std.specs.Prelude.{◌≡◌, ℕ, List, Option, Some, None, Ok, Err}
use Rattle.ldm_outside.specs.Store.{StoreRecord}
use Rattle.ldm_class.specs.Rules.{Rules, no_rules, open_rule, with_allow}
use Rattle.ldm_conf.specs.declared.conf.Conf.{Conf}
use Rattle.ldm_command_files.specs.declared.conf_file.ConfNotTaken.{ConfNotTaken}
use Rattle.ldm_command_files.specs.ConfFiles.{CompletesConf, TakesConf}
use Rattle.ldm_chain.specs.declared.fault.ChainFault.{ChainFault}
use Rattle.ldm_chain.specs.declared.fault.ChainFault.TheVariants as stop

-- each host may be fed all
abbrev pub all_allowed : Rules
all_allowed = with_allow no_rules open_rule

-- the rules are those of the configuration, where one is given, and else all is allowed
abbrev pub TakesRules : Option (List ℕ) → Rules → StoreRecord → StoreRecord → Type 0
TakesRules None rules old new = (rules ≡ all_allowed) × (new ≡ old)
TakesRules (Some path) rules old new = (conf : Conf) × TakesConf (Ok conf) path old new × (rules ≡ conf.policy)

-- a configuration is given, and was not taken
abbrev pub TakesNoRules : ConfNotTaken → Option (List ℕ) → StoreRecord → StoreRecord → Type 0
TakesNoRules why None old new = ⊥
TakesNoRules why (Some path) old new = TakesConf (Err why) path old new

-- why no rules were taken
abbrev pub IsUntaken : ChainFault → Option (List ℕ) → StoreRecord → StoreRecord → Type 0
IsUntaken (stop.ConfNotTaken why) conf old new = TakesNoRules why conf old new
IsUntaken stop.OutOfMemory conf old new = new ≡ old
IsUntaken _ conf old new = ⊥

-- where the store tells its files and did not fail, a configuration that was not taken is none, or there was no memory
abbrev pub NotTakenCompletes : ConfNotTaken → Option (List ℕ) → StoreRecord → StoreRecord → Type 0
NotTakenCompletes why None old new = Unit {0}
NotTakenCompletes why (Some path) old new = CompletesConf (Err why) path old new

abbrev pub UntakenCompletes : ChainFault → Option (List ℕ) → StoreRecord → StoreRecord → Type 0
UntakenCompletes (stop.ConfNotTaken why) conf old new = NotTakenCompletes why conf old new
UntakenCompletes _ conf old new = Unit {0}
