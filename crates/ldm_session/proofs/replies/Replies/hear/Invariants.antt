use Rattle.ldm_outside.specs.Link.{IsNotClosed}
use Rattle.ldm_session.proofs.HearingLemmas.{HearsOn}
use Rattle.ldm_session.proofs.replies.Replies.hear.Given as goal

abbrev pub invariant-loop : goal.invariant-loop
invariant-loop g l = record {
  so_far : HearsOn l.initial.self l.self (g.K.Link.tells l.initial.link) (g.K.Link.tells l.link);
  not_closed : IsNotClosed (g.K.Link.tells l.link);
}
