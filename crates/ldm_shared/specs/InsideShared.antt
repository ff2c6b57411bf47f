-- What a shared queue keeps.
use Rattle.std.specs.Prelude.{◌≡◌, ◌<◌}
use Rattle.ldm_book.specs.Limits.{IsGoodArena}
use Rattle.ldm_shared.specs.Passes.{SharedView}
use Rattle.ldm_shared.specs.declared.shared.Shared.TheInside.{Inside}

abbrev pub view_of_shared : Inside → SharedView
view_of_shared s = record {
  queue = s.table.shared.table_id;
  arena = s.arena;
  slots = s.table.shared.key.slots;
  passes = s.table.shared.key.passes;
}

-- two words, six that are not used, one for each of 64 actors, and one slot, an arena that a queue can have, and some pass
pub record IsShared (s : Inside) : Type 0 where
  pub words : s.table.shared.table_id.words ≡ 72
  pub slots : s.table.shared.table_id.slots ≡ 1
  pub arena : s.table.shared.key.arena ≡ s.arena
  pub good : IsGoodArena s.arena
  pub passes : 0 < s.table.shared.key.passes
