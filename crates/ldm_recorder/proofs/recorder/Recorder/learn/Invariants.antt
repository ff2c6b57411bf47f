use Rattle.std.proofs.Common.{[]}
use Rattle.ldm_shared.specs.Passes.{Calls, IsSamePass}
use Rattle.ldm_recorder.specs.Catching.{IsSameButLasts}
use Rattle.ldm_recorder.specs.Numbers.{KnowsLasts}
use Rattle.ldm_recorder.proofs.recorder.Recorder.learn.Given as goal

abbrev pub invariant-loop-i : goal.invariant-loop-i
invariant-loop-i l = record {
  of : IsSamePass l.fn.pass l.pass;
  calls : Calls l.fn.pass l.pass [];
  same : IsSameButLasts l.fn.self l.self;
  knows : KnowsLasts l.fn.pass.seen l.fn.self → KnowsLasts l.pass.seen l.self;
}
