-- The commands of a node, as a launcher tells them.
use Rattle.std.specs.Prelude.{◌≡◌, ◌⊎◌, ℕ, true, List, [], ◌++◌, length, map, Some}
use Rattle.std.specs.List.{All}
use Rattle.ldm_outside.specs.Launcher.{Child}
use Rattle.ldm_outside.specs.Station.{StationRecord}
use Rattle.ldm_conf.specs.Confs.{ConfView}
use Rattle.ldm_node_command.specs.Commands.{Words}
use Rattle.ldm_node_command.specs.Ending.{Takes}
use Rattle.ldm_node_command.specs.Outside.{IsIdle, Outside}
use Rattle.ldm_node_command.specs.Setup.{Setup}

abbrev pub words_of : Child → Words
words_of child = child.words

module _ {S : Type 0} (tells : S → StationRecord) where
  -- These are the children that were started: those of the first commands of the configuration, in order. They are all of them, unless no
  -- node was run; and where the number is 0 each was waited for.
  pub record AreCommands (setup : Setup) (code : ℕ) (children : List Child) (old new : Outside S) : Type 0 where
    pub conf : ConfView
    pub taken : Takes conf setup.path old.store new.store
    pub left : List Words
    pub in_order : map words_of children ++ left ≡ conf.commands
    pub all : (left ≡ []) ⊎ IsIdle tells setup.idles old new
    pub waited : code ≡ 0 → (left ≡ []) × All (λ child. child.waited ≡ true) children

-- no configuration was taken, and no child was started
pub record AreNone (code : ℕ) (children : List Child) : Type 0 where
  pub none : children ≡ []
  pub failed : ¬ (code ≡ 0)

-- Where the launcher tells its children, each at the place of its number, it tells those of the commands behind them.
abbrev pub TellsCommands : {S : Type 0} → (S → StationRecord) → Setup → ℕ → Outside S → Outside S → Type 0
TellsCommands tells setup code old new =
    (before : List Child) → old.launcher.children ≡ Some before → length before ≡ old.launcher.next
    → (children : List Child) × (new.launcher.children ≡ Some (before ++ children)) × (AreCommands tells setup code children old new ⊎ AreNone code children)
