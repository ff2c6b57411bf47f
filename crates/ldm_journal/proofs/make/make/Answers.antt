use Rattle.std.specs.Prelude.{Ok, Err}
use Rattle.ldm_journal.specs.Making.{Lays, Widens, Makes}
use Rattle.ldm_disk.proofs.Told.{one_call, two_calls}
use Rattle.ldm_journal.proofs.MakeLemmas.{makes, not_made}
use Rattle.ldm_journal.proofs.make.make.Goals as goal

pub returns-in-Ok-clause-made : goal.returns-in-Ok-clause-made
returns-in-Ok-clause-made g c =
    let tells = g.D.Disk.tells in
    let ring = c.args.ring in
    let done = c.in-Ok.field-0 in
    let result = c.widen.result in
    two_calls (Lays (Ok done) ring) (Widens result ring) (Makes result ring) (λ old mid new lays widens. makes result done ring old mid new c.requires.some lays widens)
    (tells c.args.disk.now).file (tells c.lay.new.disk).file (tells c.widen.new.disk).file c.in-Ok.ensures.laid c.widen.ensures.widened

pub returns-in-Err-clause-made : goal.returns-in-Err-clause-made
returns-in-Err-clause-made g c =
    let tells = g.D.Disk.tells in
    let ring = c.args.ring in
    let failed = c.in-Err.failed in
    one_call (Lays (Err failed) ring) (Makes (Err failed) ring) (λ old new lays. not_made failed ring old new c.requires.some lays) (tells c.args.disk.now).file
    (tells c.lay.new.disk).file c.in-Err.ensures.laid
