use Rattle.std.specs.Str.{IsUtf8}
use Rattle.ldm_text.proofs.CallerLemmas.{no_blank}
use Rattle.ldm_conf.proofs.Commands.{cut_behind_blanks, skip}
use Rattle.ldm_conf.proofs.command.skip_blanks.Goals as goal

pub split_at-requires : goal.split_at-requires
split_at-requires c =
    let utf8 : IsUtf8 c.args.text.now = rw c.as_bytes.ensures.value at c.as_bytes.ensures.utf8 in
    rw (c.count_blanks.ensures.count, c.as_bytes.ensures.value) (cut_behind_blanks c.args.text.now utf8)

pub returns-clause-parts : goal.returns-clause-parts
returns-clause-parts c = rw (c.split_at.ensures.back, c.count_blanks.ensures.count, c.as_bytes.ensures.value) (skip c.args.text.now)

pub returns-clause-begins : goal.returns-clause-begins
returns-clause-begins c = rw (c.split_at.ensures.back, c.count_blanks.ensures.count, c.as_bytes.ensures.value) (no_blank c.args.text.now)
