use Rattle.std.proofs.Common.{◌∙◌, ap, arith}
use Rattle.ldm_feedtype.specs.FeedSets.{set_of, meet}
use Rattle.ldm_feedtype.proofs.Sets.{set_of-or, set_of-and, without-complement}
use Rattle.ldm_feedtype.proofs.reader.join.Goals as goal

pub returns-in-Union : goal.returns-in-Union
returns-in-Union c = rw c.in-Union.is (set_of-or c.args.left c.args.right)

pub returns-in-Meet : goal.returns-in-Meet
returns-in-Meet c = rw c.in-Meet.is (set_of-and c.args.left c.args.right)

pub returns-in-Without : goal.returns-in-Without
returns-in-Without c =
    rw c.in-Without.is
    (set_of-and c.args.left c.complement.result ∙ ap (meet (set_of c.args.left)) c.complement.ensures
    ∙ without-complement c.args.left (set_of c.args.right) (omega arith))
