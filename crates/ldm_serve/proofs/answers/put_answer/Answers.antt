use Rattle.std.proofs.Common.{sym, ◌∙◌, arith}
use Rattle.ldm_serve.proofs.Lengths.{put_record_len, ok_not_err}
use Rattle.ldm_serve.proofs.answers.put_answer.Goals as goal

pub unreachable-requires : goal.unreachable-requires
unreachable-requires c =
    ok_not_err c.write_put_reply.result (c.write_put_reply.ensures.enough (omega (arith, c.requires, put_record_len c.args.xid c.args.answer)))
    (sym c.is_err.ensures.value ∙ c.if-is_err.true)
