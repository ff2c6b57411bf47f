use Rattle.ldm_check.specs.Walks.{scene_of}
use Rattle.ldm_check.proofs.command.find_all.Goals as goal

pub returns-clause-found : goal.returns-clause-found
returns-clause-found g c = record {
  read = g.F.Store.tells c.look_at_files-2.new.store;
  tells = record {
    between = scene_of (g.F.Store.tells c.look_at_files.new.store) c.look_at_files.new.self;
    confs_told = rw c.new.ensures.items at c.in_ok-look_at_files.ensures.told;
    pqacts_told = c.in_ok-look_at_files-2.ensures.told;
  };
  programs = c.in_ok-look_for_programs.ensures.asked;
}
