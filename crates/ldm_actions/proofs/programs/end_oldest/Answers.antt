use Rattle.std.proofs.Common.{List, sym, subst}
use Rattle.ldm_actions.specs.Programs.{ChangesOr, KeepsPrograms, last_parts, program_side, with_last_over}
use Rattle.ldm_actions.proofs.KeptLemmas.{Entry}
use Rattle.ldm_actions.proofs.ProgramSteps.{ends_oldest}
use Rattle.ldm_actions.proofs.programs.end_oldest.Goals as goal

pub returns-in-Some : goal.returns-in-Some
returns-in-Some g c =
    let old = g.L.Launcher.tells c.args.launcher.now in
    let new = g.L.Launcher.tells c.end.new.launcher in
    let kept = c.take_oldest.new.self in
    subst
    (λ (all : List Entry). KeepsPrograms (program_side all old) → ChangesOr c.end.result with_last_over last_parts (program_side all old) (program_side kept new))
    (sym c.in-Some.ensures.1)
    (ends_oldest c.end.result (c.in-Some.ensures.0, c.in-Some.number) kept old new c.end.ensures)
    c.requires
