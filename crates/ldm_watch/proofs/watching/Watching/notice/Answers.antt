use Rattle.std.proofs.Common.{ℕ}
use Rattle.std.specs.Global.{Vec}
use Rattle.ldm_watch.proofs.Moved.{noticed}
use Rattle.ldm_watch.proofs.watching.Watching.notice.Goals as goal

pub returns-in-Ok : goal.returns-in-Ok
returns-in-Ok c = λ (at : ℕ) (out : Vec ℕ).
    noticed c.args.info.now at c.args.self.now c.count.new.self out.items c.args.lines.now.items c.put_notice.new.lines.items c.in-Ok.ensures c.count.result c.count.ensures
