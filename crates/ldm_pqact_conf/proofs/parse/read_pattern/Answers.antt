use Rattle.std.proofs.Common.{sym, ◌∙◌, refl}
use Rattle.ldm_pqact_conf.specs.Entries.{pattern_of}
use Rattle.ldm_pqact_conf.proofs.parse.read_pattern.Goals as goal

pub returns-then-is_else : goal.returns-then-is_else
unfolding pattern_of
returns-then-is_else c = rw (sym c.is_else.ensures ∙ c.if-is_else.true) refl

pub returns-in-Ok : goal.returns-in-Ok
unfolding pattern_of
returns-in-Ok c = rw (sym c.is_else.ensures ∙ c.if-is_else.false, c.in-Ok.ensures.1, c.in-Ok.ensures.0) refl

pub returns-in-Err-Meaningless : goal.returns-in-Err-Meaningless
unfolding pattern_of
returns-in-Err-Meaningless c =
    let nothing = rw c.in-Err-Meaningless.field-0-is at c.in-Err-Meaningless.ensures in
    rw (sym c.is_else.ensures ∙ c.if-is_else.false, nothing) refl
