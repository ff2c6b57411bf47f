-- Pieces that are written whole, or a front of one, where a call fails.
use Rattle.std.specs.Prelude.{◌≡◌, ℕ, List, ◌++◌, option_map, Result, Ok, Err}
use Rattle.ldm_outside.specs.declared.fault.Failed.{Failed}
use Rattle.ldm_outside.specs.declared.launcher.ChildNo.{ChildNo}
use Rattle.ldm_outside.specs.declared.store.FileNo.{FileNo}
use Rattle.ldm_outside.specs.Launcher.{LauncherRecord, LauncherFails, with_fed}
use Rattle.ldm_outside.specs.Store.{StoreRecord, StoreFails, path_of, with_file}

-- the store after bytes were written at the end of an open file
abbrev pub with_appended : FileNo → List ℕ → StoreRecord → StoreRecord
with_appended file bytes old =
    record old { files = option_map (with_file (path_of file old) (λ before. before ++ bytes)) old.files }

-- a front of a piece was written, and then the store failed
pub record AppendsFront (file : FileNo) (piece : List ℕ) (old new : StoreRecord) : Type 0 where
  pub front : List ℕ
  pub rest : List ℕ
  pub is_front : front ++ rest ≡ piece
  pub fails : StoreFails (with_appended file front old) new

-- What writing a whole piece did: all of it was written; or the store failed, after a front of it.
abbrev pub AppendsAll : Result (Unit {0}) Failed → FileNo → List ℕ → StoreRecord → StoreRecord → Type 0
AppendsAll (Ok done) file piece old new = new ≡ with_appended file piece old
AppendsAll (Err failed) file piece old new = AppendsFront file piece old new

-- the launcher after a child was given bytes
abbrev pub with_given : ChildNo → List ℕ → LauncherRecord → LauncherRecord
with_given child bytes old = record old { children = option_map (with_fed child bytes) old.children }

-- a front of a piece was given, and then the launcher failed
pub record FeedsFront (child : ChildNo) (piece : List ℕ) (old new : LauncherRecord) : Type 0 where
  pub front : List ℕ
  pub rest : List ℕ
  pub is_front : front ++ rest ≡ piece
  pub fails : LauncherFails (with_given child front old) new

-- What giving a whole piece did: all of it was given; or the launcher failed, after a front of it.
abbrev pub FeedsAll : Result (Unit {0}) Failed → ChildNo → List ℕ → LauncherRecord → LauncherRecord → Type 0
FeedsAll (Ok done) child piece old new = new ≡ with_given child piece old
FeedsAll (Err failed) child piece old new = FeedsFront child piece old new
