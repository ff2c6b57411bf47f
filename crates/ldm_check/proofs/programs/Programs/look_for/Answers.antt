use Rattle.std.proofs.Common.{[], ◌∷◌, refl, arith}
use Rattle.ldm_check.proofs.programs.Programs.look_for.Goals as goal

pub loop-one-preserved : goal.loop-one-preserved
loop-one-preserved g c = record {
  asked = λ end more asks.
      c.loop-one.invariant.asked end (record { path = c.as_str.result.now; answer = c.read_file.result } ∷ more) (g.F.Store.tells c.read_file.new.self, c.read_file.ensures.read, asks);
  faults_kept = omega (arith, c.loop-one.invariant.faults_kept, c.read_file.ensures.faults_kept);
}

pub returns-clause-asked : goal.returns-clause-asked
returns-clause-asked g c = c.loop-one.invariant.asked (g.F.Store.tells c.loop-one.store) [] refl
