use Rattle.std.proofs.Common.{ℕ, List, subst}
use Rattle.ldm_outside.specs.Io.{Takes}
use Rattle.ldm_shared.proofs.Using.{uses_read}
use Rattle.ldm_gather.proofs.body.write_piece.Goals as goal

pub returns-in-Ok-clause-reads : goal.returns-in-Ok-clause-reads
returns-in-Ok-clause-reads g c body holds = (
  record {
    uses = uses_read c.args.reader.now.k _ _ _ _ _ c.in_default.ensures.done;
    written =
        subst (λ (x : List ℕ). Takes (g.K.Sink.tells c.args.sink.now) x (g.K.Sink.tells c.write_all.new.sink)) (c.in_default.ensures.bytes body holds)
        c.in-Ok.ensures.written;
    kept = c.in-Ok.ensures.faults_kept;
  },
  c.in_default.ensures.holds body holds,
)
