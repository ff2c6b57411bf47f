use Rattle.std.proofs.Common.{◌≡◌, drop}
use Rattle.ldm_wmo.specs.Headings.{fits}
use Rattle.ldm_wmo.proofs.heading.fits.Given as goal

abbrev pub invariant-loop-i : goal.invariant-loop-i
invariant-loop-i l = fits (drop l.i l.form) (drop l.i l.bytes) ≡ fits l.form l.bytes
