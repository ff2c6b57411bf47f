use Rattle.std.proofs.Common.{[], ◌∷◌}
use Rattle.std.specs.Prelude.{Ok, Err}
use Rattle.ldm_disk.specs.Told.{IsConsistent}
use Rattle.ldm_disk.specs.Calls.{WritesFile, SyncsFile}
use Rattle.ldm_journal.specs.declared.places.TheConstants.{SELECT}
use Rattle.ldm_journal.specs.Committing.{Selects, select_byte}
use Rattle.ldm_disk.proofs.Told.{mapped, chained}
use Rattle.ldm_journal.proofs.CommitLemmas.{selected_now, select_failed}
use Rattle.ldm_journal.proofs.commit.select.Goals as goal

pub returns-in-Ok-clause-selected : goal.returns-in-Ok-clause-selected
returns-in-Ok-clause-selected g c =
    let tells = g.D.Disk.tells in
    let odd = c.args.odd in
    let done = c.in-Ok.field-0 in
    let result = c.sync.result in
    chained IsConsistent IsConsistent (WritesFile (Ok done) SELECT (select_byte odd ∷ [])) (SyncsFile result) (Selects result odd)
    (λ old mid new s t wrote sync. selected_now result done odd old mid new s wrote sync) (tells c.args.disk.now).file (tells c.write_at.new.self).file (tells c.sync.new.self).file
    (g.met.D.Disk.consistent c.args.disk.now) (g.met.D.Disk.consistent c.write_at.new.self)
    (rw c.select_byte.ensures at c.in-Ok.ensures.written) c.sync.ensures.synced

pub returns-in-Err-clause-selected : goal.returns-in-Err-clause-selected
returns-in-Err-clause-selected g c =
    let tells = g.D.Disk.tells in
    let odd = c.args.odd in
    let failed = c.in-Err.failed in
    mapped IsConsistent (WritesFile (Err failed) SELECT (select_byte odd ∷ [])) (Selects (Err failed) odd)
    (λ old new s goes. select_failed failed odd old new s goes) (tells c.args.disk.now).file (tells c.write_at.new.self).file
    (g.met.D.Disk.consistent c.args.disk.now) (rw c.select_byte.ensures at c.in-Err.ensures.written)
