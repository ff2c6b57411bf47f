use Rattle.ldm_watch.specs.Taking.{standing}
use Rattle.ldm_watch.proofs.Moved.{moves-finds}
use Rattle.ldm_watch.proofs.watching.Watching.take_record.Goals as goal

pub returns-in-Ok : goal.returns-in-Ok
returns-in-Ok c =
    moves-finds c.go.result c.in-Ok.step c.args.at c.args.content.now (standing c.args.self.now c.args.out.now c.args.lines.now)
    (standing c.go.new.self c.go.new.out c.go.new.lines) c.in-Ok.ensures c.go.ensures
