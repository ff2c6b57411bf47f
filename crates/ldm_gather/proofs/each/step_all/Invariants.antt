use Rattle.std.proofs.Common.{None}
use Rattle.ldm_shared.specs.Reader.{HasCursor}
use Rattle.ldm_gather.specs.EachHandling.{IsGoing, IsSameEach, tap_in}
use Rattle.ldm_gather.specs.Stepping.{sight_of}
use Rattle.ldm_gather.specs.Taking.{hands_of}
use Rattle.ldm_gather.proofs.StepTurns.{KeepsOn}
use Rattle.ldm_gather.proofs.each.step_all.Given as goal

abbrev pub invariant-loop : goal.invariant-loop
invariant-loop g l = record {
  keeps : KeepsOn g.T.Taker.takes (tap_in l.initial.each)
      (sight_of l.initial.each.left (hands_of l.initial.each.taker l.initial.lent) l.initial.pass (g.E.Sink.tells l.initial.log))
      (sight_of l.each.left (hands_of l.each.taker l.lent) l.pass (g.E.Sink.tells l.log));
  same : IsSameEach l.initial.each l.each;
  going : IsGoing l.each;
  cursor : HasCursor l.pass l.each.reader.k None;
  may : g.T.Taker.begins l.each.taker l.lent;
}
