use Rattle.ldm_watch.proofs.Members.{no-name}
use Rattle.ldm_watch.proofs.names.put_member.Goals as goal

pub unreachable-requires : goal.unreachable-requires
unreachable-requires c = no-name c.args.bit c.requires.bit c.name_of.result c.name_of.ensures.name c.in_default.is
