use Rattle.ldm_play.proofs.OpenLemmas.{attached_opens, attached_comes, attached_closed, opened_ready}
use Rattle.ldm_play.proofs.files.open_file.Goals as goal

pub returns-in-Ok-clause-opened : goal.returns-in-Ok-clause-opened
returns-in-Ok-clause-opened g c =
    attached_opens (g.D.Disk.tells c.args.disk.now) (g.D.Disk.tells c.attach.new.self) (g.D.Disk.tells c.open_image.new.disk)
    (g.met.D.Disk.consistent c.args.disk.now) (g.met.D.Disk.consistent c.attach.new.self) (g.met.D.Disk.consistent c.open_image.new.disk)
    c.in-Ok.ensures.attached c.in-Ok.ensures.failed c.open_image.result c.open_image.ensures.opens

pub returns-in-Ok-clause-completes : goal.returns-in-Ok-clause-completes
returns-in-Ok-clause-completes g c =
    attached_comes (g.D.Disk.tells c.args.disk.now) (g.D.Disk.tells c.attach.new.self) (g.D.Disk.tells c.open_image.new.disk)
    (g.met.D.Disk.consistent c.args.disk.now) (g.met.D.Disk.consistent c.attach.new.self) (g.met.D.Disk.consistent c.open_image.new.disk)
    c.in-Ok.ensures.attached c.in-Ok.ensures.failed c.open_image.result c.open_image.ensures.opens

pub returns-in-Ok-clause-closed : goal.returns-in-Ok-clause-closed
returns-in-Ok-clause-closed g c =
    attached_closed (g.D.Disk.tells c.args.disk.now) (g.D.Disk.tells c.attach.new.self) (g.D.Disk.tells c.open_image.new.disk)
    (g.met.D.Disk.consistent c.args.disk.now) (g.met.D.Disk.consistent c.attach.new.self) (g.met.D.Disk.consistent c.open_image.new.disk)
    c.in-Ok.ensures.attached c.in-Ok.ensures.failed c.open_image.result c.open_image.ensures.opens

pub returns-in-Ok-clause-ready : goal.returns-in-Ok-clause-ready
returns-in-Ok-clause-ready g c =
    opened_ready (g.D.Disk.tells c.args.disk.now) (g.D.Disk.tells c.attach.new.self) (g.D.Disk.tells c.open_image.new.disk)
    (g.met.D.Disk.consistent c.args.disk.now) (g.met.D.Disk.consistent c.attach.new.self) (g.met.D.Disk.consistent c.open_image.new.disk)
    c.in-Ok.ensures.attached c.in-Ok.ensures.failed c.open_image.result c.open_image.ensures.opens c.open_image.ensures.kept
