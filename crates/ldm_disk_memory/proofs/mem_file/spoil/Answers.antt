use Rattle.std.proofs.Common.{◌+◌, ◌-◌, ◌≤◌, length, inl, inr, ⊎_elim, refl, arith}
use Rattle.ldm_disk_memory.proofs.Pieces.{fits_outside}
use Rattle.ldm_disk_memory.proofs.MemFiles.{put_outside, length-put}
use Rattle.ldm_disk_memory.proofs.mem_file.spoil.Goals as goal

pub returns-then-change-end-clause-fits : goal.returns-then-change-end-clause-fits
returns-then-change-end-clause-fits c stays fit =
    let start = c.args.change.start in
    let k = c.min-end.result - start in
    let within : start + k ≤ length c.args.bytes.now = omega arith in
    fits_outside start c.args.change.end stays c.args.bytes.now _ fit
    (λ place there outside. (
      omega (arith, length-put start k c.args.bytes.now c.fill.new.self within (omega arith)),
      put_outside start k c.args.bytes.now c.fill.new.self within (omega arith) place (⊎_elim (λ below. inl below) (λ above. inr (omega arith)) outside),
    ))

pub returns-else-change-end-clause-fits : goal.returns-else-change-end-clause-fits
returns-else-change-end-clause-fits c stays fit =
    fits_outside c.args.change.start c.args.change.end stays c.args.bytes.now c.args.bytes.now fit (λ place within outside. (within, refl))
