use Rattle.std.proofs.Common.{◌+◌, ◌-◌, length}
use Rattle.ldm_outside.specs.Link.{IsNotClosed}
use Rattle.ldm_session.specs.declared.limits.TheConstants.{LONGEST_STREAM}
use Rattle.ldm_tools.proofs.Heard.{HearsOn}
use Rattle.ldm_tools.proofs.reader.LinkReader.hear.Given as goal

abbrev pub invariant-loop-self : goal.invariant-loop-self
invariant-loop-self g l = record {
  so_far : HearsOn l.fn.self l.self (g.K.Link.tells l.fn.link) (g.K.Link.tells l.link);
  not_closed : IsNotClosed (g.K.Link.tells l.link);
}

abbrev pub decreases-loop-self : goal.decreases-loop-self
decreases-loop-self g l = LONGEST_STREAM - (l.self.came + length l.self.waiting)
