-- Looking for programs.
use Rattle.std.specs.Prelude.{◌≡◌, List, [], ◌∷◌}
use Rattle.ldm_outside.specs.Store.{StoreRecord, ReadsFile}
use Rattle.ldm_check.specs.ConfFaults.{Asked}

-- The store was asked for these files, one after the other, and answered so. The limit is 0, so that no byte of them is read.
abbrev pub AsksFor : List Asked → StoreRecord → StoreRecord → Type 0
AsksFor [] old new = new ≡ old
AsksFor (one ∷ more) old new = (mid : StoreRecord) × ReadsFile one.answer one.path 0 old mid × AsksFor more mid new

-- the store was asked for some programs, and for nothing else
abbrev pub LooksFor : StoreRecord → StoreRecord → Type 0
LooksFor old new = (asked : List Asked) × AsksFor asked old new
