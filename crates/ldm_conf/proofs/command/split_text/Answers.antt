use Rattle.std.proofs.Common.{◌∙◌, map, string_bytes, sym}
use Rattle.ldm_conf.proofs.Commands.{all_read}
use Rattle.ldm_conf.specs.Commands.{parts_of}
use Rattle.ldm_conf.proofs.command.split_text.Goals as goal

pub returns : goal.returns
returns c =
    all_read (map string_bytes c.loop-rest.parts.items) c.loop-rest.rest.now (parts_of c.args.command.now)
    (sym c.is_empty.ensures ∙ c.loop-rest-test.false) c.loop-rest.invariant.1
