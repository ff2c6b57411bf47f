use Rattle.std.proofs.Common.{◌<◌, length, rules}
use Rattle.ldm_feedtype.specs.declared.reader.TheConstants.{MOST_OPEN}
use Rattle.ldm_feedtype.proofs.Stack.{opened-push}
use Rattle.ldm_feedtype.proofs.reader.Reader.take_front.Goals as goal

pub returns-in-40-2 : goal.returns-in-40-2
returns-in-40-2 c =
    let room : length c.args.self.now.outer.items < MOST_OPEN = search rules in
    rw (c.in-40.is, c.requires) (opened-push c.args.at c.args.self.now.outer.items c.push.new.self.items c.args.pending room c.push.ensures.items)
