use Rattle.ldm_gather.proofs.Opened.{no-busy}
use Rattle.ldm_gather.proofs.gatherer.open_cursor.Goals as goal

pub unreachable-requires : goal.unreachable-requires
unreachable-requires g c =
    let at = rw c.in-Done-AllBusy.field-0-is at c.in-Done-AllBusy.ensures in
    no-busy c.one_pass.ensures.since_opening c.args.own.now.shared c.args.own.now.pass c.open.new.pass c.requires.first c.requires.passes at.done
