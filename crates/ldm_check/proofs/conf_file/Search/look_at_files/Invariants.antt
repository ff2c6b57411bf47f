use Rattle.std.proofs.Common.{◌≤◌, length}
use Rattle.ldm_check.specs.Files.{Scene, TellsFiles}
use Rattle.ldm_check.specs.Runs.{texts_of}
use Rattle.ldm_check.specs.Walks.{scene_of, tells_by}
use Rattle.ldm_check.proofs.conf_file.Search.look_at_files.Given as goal

abbrev pub invariant-loop-left : goal.invariant-loop-left
invariant-loop-left g l = record {
  told : (end : Scene) → TellsFiles (tells_by l.form) (texts_of l.left) (scene_of (g.F.Store.tells l.store) l.self) end
      → TellsFiles (tells_by l.form) (texts_of l.initial.paths) (scene_of (g.F.Store.tells l.initial.store) l.initial.self) end;
  faults_kept : (g.F.Store.tells l.initial.store).faults ≤ (g.F.Store.tells l.store).faults;
}

abbrev pub decreases-loop-left : goal.decreases-loop-left
decreases-loop-left g l = length l.left
