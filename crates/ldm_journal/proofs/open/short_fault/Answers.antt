use Rattle.std.proofs.Common.{◌<◌, length}
use Rattle.std.specs.Prelude.{Err}
use Rattle.ldm_journal.specs.declared.places.TheConstants.{RING}
use Rattle.ldm_journal.specs.Opening.{JudgesFile}
use Rattle.ldm_journal.proofs.Stays.{in_bytes}
use Rattle.ldm_journal.proofs.OpenLemmas.{short_judged, of_file_rose}
use Rattle.ldm_journal.proofs.open.short_fault.Goals as goal

pub returns-in-Ok-clause-judged : goal.returns-in-Ok-clause-judged
returns-in-Ok-clause-judged g c =
    let ring = c.args.ring in
    let fault = c.fault_behind.result in
    in_bytes (λ bytes. length bytes < RING) (λ bytes. JudgesFile (Err fault) ring bytes) (g.D.Disk.tells c.args.disk.now).file (λ bytes short. short_judged fault ring bytes short) c.requires

pub returns-in-Err-clause-judged : goal.returns-in-Err-clause-judged
returns-in-Err-clause-judged g c =
    let ring = c.args.ring in
    let fault = c.in-Err.fault in
    in_bytes (λ bytes. length bytes < RING) (λ bytes. JudgesFile (Err fault) ring bytes) (g.D.Disk.tells c.args.disk.now).file (λ bytes short. short_judged fault ring bytes short) c.requires

pub returns-in-Ok-clause-failed : goal.returns-in-Ok-clause-failed
returns-in-Ok-clause-failed g c =
    of_file_rose c.fault_behind.result (g.D.Disk.tells c.args.disk.now) (g.D.Disk.tells c.fill.new.disk) c.fault_behind.ensures
