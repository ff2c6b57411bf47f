use Rattle.std.proofs.Common.{ℕ, Option, Ok, Err, subst}
use Rattle.ldm_actions.specs.Kept.{staying}
use Rattle.ldm_actions.specs.Programs.{StartsAfter}
use Rattle.ldm_actions.proofs.KeptLemmas.{numbered}
use Rattle.ldm_actions.proofs.ProgramSteps.{starts_failed, starts_reserved}
use Rattle.ldm_actions.proofs.programs.use_new.Goals as goal

pub returns-in-Ok-start : goal.returns-in-Ok-start
returns-in-Ok-start g c =
    let old = g.L.Launcher.tells c.args.launcher.now in
    let new = g.L.Launcher.tells c.start.new.launcher in
    let kept = c.args.programs.now in
    let words = c.args.program.now in
    let command = c.args.command.now in
    let child = c.in-Ok-start.child in
    starts_reserved words command child kept c.set_number.new.self old new c.requires.its_own c.requires.unknown c.requires.keeps
    (subst (λ (gone : Option ℕ). StartsAfter (Ok child) gone words old new) c.in-Ok.ensures.gone c.in-Ok-start.ensures)
    (numbered command child.0 0 (staying kept) c.reserve.new.self c.set_number.new.self c.in-Ok.ensures.reserved c.set_number.ensures)

pub returns-in-Err : goal.returns-in-Err
returns-in-Err g c =
    let old = g.L.Launcher.tells c.args.launcher.now in
    let new = g.L.Launcher.tells c.start.new.launcher in
    let words = c.args.program.now in
    let failed = c.in-Err.field-0 in
    starts_failed failed words c.args.command.now c.args.programs.now c.reserve.new.self old new c.requires.its_own c.requires.unknown c.requires.keeps
    (subst (λ (gone : Option ℕ). StartsAfter (Err failed) gone words old new) c.in-Ok.ensures.gone c.in-Err.ensures)
