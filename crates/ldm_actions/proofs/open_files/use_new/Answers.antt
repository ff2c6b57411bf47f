use Rattle.std.proofs.Common.{ℕ, Option, Ok, Err, subst}
use Rattle.ldm_actions.specs.Kept.{staying}
use Rattle.ldm_actions.specs.OpenFiles.{OpensAfter}
use Rattle.ldm_actions.proofs.FileSteps.{opens_failed, opens_reserved}
use Rattle.ldm_actions.proofs.KeptLemmas.{numbered}
use Rattle.ldm_actions.proofs.open_files.use_new.Goals as goal

pub returns-in-Ok-open : goal.returns-in-Ok-open
returns-in-Ok-open g c =
    let old = g.F.Store.tells c.args.store.now in
    let new = g.F.Store.tells c.open.new.store in
    let kept = c.args.files.now in
    let path = c.args.path.now in
    let file = c.in-Ok-open.file in
    opens_reserved path file.0 kept c.set_number.new.self old new c.requires.unknown c.requires.keeps
    (subst (λ (gone : Option ℕ). OpensAfter (Ok file) gone path old new) c.in-Ok.ensures.gone c.in-Ok-open.ensures)
    (numbered path file.0 0 (staying kept) c.reserve.new.self c.set_number.new.self c.in-Ok.ensures.reserved c.set_number.ensures)

pub returns-in-Err : goal.returns-in-Err
returns-in-Err g c =
    let old = g.F.Store.tells c.args.store.now in
    let new = g.F.Store.tells c.open.new.store in
    let path = c.args.path.now in
    let failed = c.in-Err.field-0 in
    opens_failed failed path c.args.files.now c.reserve.new.self old new c.requires.keeps
    (subst (λ (gone : Option ℕ). OpensAfter (Err failed) gone path old new) c.in-Ok.ensures.gone c.in-Err.ensures)
