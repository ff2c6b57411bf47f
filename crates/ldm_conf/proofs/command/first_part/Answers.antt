use Rattle.std.proofs.Common.{◌≤◌, length}
use Rattle.std.specs.List.{position_or_len}
use Rattle.ldm_text.specs.Blanks.{is_blank}
use Rattle.ldm_conf.proofs.Commands.{cut_before_blank, first_part}
use Rattle.ldm_conf.proofs.command.first_part.Goals as goal

pub split_at-requires : goal.split_at-requires
split_at-requires c =
    let inside : position_or_len is_blank c.args.text.now ≤ length c.args.text.now =
    rw (c.place_of_blank.ensures.place, c.as_bytes.ensures.value) at c.place_of_blank.ensures.inside in
    rw (c.place_of_blank.ensures.place, c.as_bytes.ensures.value) (cut_before_blank c.args.text.now inside)

pub returns-clause-parts : goal.returns-clause-parts
returns-clause-parts c =
    rw (c.split_at.ensures.front, c.split_at.ensures.back, c.place_of_blank.ensures.place, c.as_bytes.ensures.value)
    (first_part c.args.text.now c.requires.some c.requires.begins)
