use Rattle.std.proofs.Common.{arith}
use Rattle.ldm_recorder.proofs.recorder.Recorder.last_of.Goals as goal

pub returns-in-Some-number_of-clause-put : goal.returns-in-Some-number_of-clause-put
returns-in-Some-number_of-clause-put c = record {
  n = c.in-Some.n;
  below = omega arith;
  put = c.in-Some.ensures.put;
  is = omega (arith, c.in-Some-number_of.ensures.0);
}
