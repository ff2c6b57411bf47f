-- What the functions inside say of the bytes of a file. No caller needs it.
use Rattle.std.specs.Prelude.{◌≡◌, ℕ, List, Result, Ok, Err}
use Rattle.ldm_outside.specs.Store.{StoreRecord}
use Rattle.ldm_conf.specs.declared.conf.Conf.{Conf}
use Rattle.ldm_conf.specs.declared.fault.ConfFault.{ConfFault}
use Rattle.ldm_conf.specs.declared.fault.ConfKind.{ConfKind}
use Rattle.ldm_conf.specs.declared.fault.ConfKind.TheVariants as kind
use Rattle.ldm_conf.specs.Causes.{ReadsConf}
use Rattle.ldm_pqact_conf.specs.declared.fault.PqactKind.TheVariants as pqact
use Rattle.ldm_pqact_conf.specs.Entries.{EntryView, pqact_entries}
use Rattle.ldm_command_files.specs.declared.conf_file.ConfNotTaken.{ConfNotTaken}
use Rattle.ldm_command_files.specs.declared.conf_file.ConfNotTaken.TheVariants.{Bad, Store, OutOfMemory}
use Rattle.ldm_command_files.specs.declared.pqact_file.EntriesNotTaken.{EntriesNotTaken}
use Rattle.ldm_command_files.specs.declared.pqact_file.EntriesNotTaken.TheVariants as entries

-- why no configuration was taken, by the kind of the fault of its lines
abbrev pub by_kind : ConfKind → ConfFault → ConfNotTaken
by_kind kind.Keyword fault = Bad fault
by_kind kind.Fields fault = Bad fault
by_kind kind.Feed fault = Bad fault
by_kind kind.Pattern fault = Bad fault
by_kind kind.Depth fault = Bad fault
by_kind kind.Long fault = Bad fault
by_kind kind.Store fault = Store
by_kind kind.OutOfMemory fault = OutOfMemory

abbrev pub not_taken : ConfFault → ConfNotTaken
not_taken fault = by_kind fault.kind fault

-- the bytes of a first file were read, and the fault says why no configuration was taken
abbrev pub ReadsText : Result Conf ConfNotTaken → List ℕ → StoreRecord → StoreRecord → Type 0
ReadsText (Ok conf) text old new = ReadsConf (Ok conf) text old new
ReadsText (Err why) text old new = (fault : ConfFault) × (why ≡ not_taken fault) × ReadsConf (Err fault) text old new

-- the bytes of a file were read as entries
abbrev pub ReadsEntries : Result (List EntryView) EntriesNotTaken → List ℕ → Type 0
ReadsEntries (Ok read) text = pqact_entries text ≡ Ok read
ReadsEntries (Err (entries.Bad fault)) text = (pqact_entries text ≡ Err fault) × ¬ (fault.kind ≡ pqact.OutOfMemory)
ReadsEntries (Err entries.OutOfMemory) text = Unit {0}
ReadsEntries (Err entries.TooLong) text = ⊥
ReadsEntries (Err entries.Store) text = ⊥
