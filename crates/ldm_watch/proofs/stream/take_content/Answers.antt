use Rattle.ldm_watch.specs.Taking.{standing}
use Rattle.ldm_watch.proofs.Followed.{takes-none}
use Rattle.ldm_watch.proofs.stream.take_content.Goals as goal

pub returns-in_err-content : goal.returns-in_err-content
returns-in_err-content c = rw (c.from_residual.ensures, c.in_err-content.was) (takes-none (standing c.args.watching.now c.args.out.now c.args.lines.now))
