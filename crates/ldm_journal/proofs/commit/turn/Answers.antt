use Rattle.std.proofs.Common.{◌≡◌, not, length, subst, sym, arith}
use Rattle.std.specs.Prelude.{Ok, Err}
use Rattle.ldm_disk.specs.Told.{IsConsistent}
use Rattle.ldm_disk.specs.Calls.{FileChanges}
use Rattle.ldm_journal.specs.declared.places.TheConstants.{NOTE}
use Rattle.ldm_journal.specs.declared.marks.Marks.{Marks}
use Rattle.ldm_journal.specs.Committing.{Turns, WritesHead, Selects, turned}
use Rattle.ldm_disk.proofs.Told.{mapped, chained}
use Rattle.ldm_journal.proofs.TurnLemmas.{turns, turns_not_selected, turns_not_written}
use Rattle.ldm_journal.proofs.commit.turn.Goals as goal

pub returns-in-Ok-select-clause-turned : goal.returns-in-Ok-select-clause-turned
returns-in-Ok-select-clause-turned g c =
    let tells = g.D.Disk.tells in
    let marks = c.args.marks.now in
    let dropped = c.args.dropped in
    let note = c.args.note.now in
    let noted : length note ≡ NOTE = omega arith in
    let done = c.in-Ok.field-0 in
    let so = c.in-Ok-select.field-0 in
    let e = c.marks_after-next.ensures in
    let old = (tells c.args.disk.now).file in
    let mid = (tells c.write_head.new.disk).file in
    let new = (tells c.select.new.disk).file in
    subst (λ (m : Marks). FileChanges (Turns (Ok so) dropped note marks m) old new) (sym e)
    (chained IsConsistent IsConsistent (WritesHead (Ok done) (turned dropped note marks)) (Selects (Ok so) (not marks.odd)) (Turns (Ok so) dropped note marks (turned dropped note marks))
    (λ a b d s t wrote selects. turns dropped note noted marks done so a b d c.requires.sound c.requires.within s t wrote selects) old mid new (g.met.D.Disk.consistent c.args.disk.now)
    (g.met.D.Disk.consistent c.write_head.new.disk) (subst (λ (m : Marks). FileChanges (WritesHead (Ok done) m) old mid) e c.in-Ok.ensures.written)
    (subst (λ (m : Marks). FileChanges (Selects (Ok so) m.odd) mid new) e c.in-Ok-select.ensures.selected))

pub returns-in-Err-select-clause-turned : goal.returns-in-Err-select-clause-turned
returns-in-Err-select-clause-turned g c =
    let tells = g.D.Disk.tells in
    let marks = c.args.marks.now in
    let dropped = c.args.dropped in
    let note = c.args.note.now in
    let noted : length note ≡ NOTE = omega arith in
    let done = c.in-Ok.field-0 in
    let failed = c.in-Err-select.failed in
    let e = c.marks_after-next.ensures in
    let old = (tells c.args.disk.now).file in
    let mid = (tells c.write_head.new.disk).file in
    let new = (tells c.select.new.disk).file in
    chained IsConsistent IsConsistent (WritesHead (Ok done) (turned dropped note marks)) (Selects (Err failed) (not marks.odd)) (Turns (Err failed) dropped note marks marks)
    (λ a b d s t wrote selects. turns_not_selected dropped note noted marks marks done failed a b d c.requires.sound c.requires.within s t wrote selects) old mid new
    (g.met.D.Disk.consistent c.args.disk.now) (g.met.D.Disk.consistent c.write_head.new.disk)
    (subst (λ (m : Marks). FileChanges (WritesHead (Ok done) m) old mid) e c.in-Ok.ensures.written)
    (subst (λ (m : Marks). FileChanges (Selects (Err failed) m.odd) mid new) e c.in-Err-select.ensures.selected)

pub returns-in-Err-clause-turned : goal.returns-in-Err-clause-turned
returns-in-Err-clause-turned g c =
    let tells = g.D.Disk.tells in
    let marks = c.args.marks.now in
    let dropped = c.args.dropped in
    let note = c.args.note.now in
    let noted : length note ≡ NOTE = omega arith in
    let failed = c.in-Err.failed in
    let old = (tells c.args.disk.now).file in
    let new = (tells c.write_head.new.disk).file in
    mapped IsConsistent (WritesHead (Err failed) (turned dropped note marks)) (Turns (Err failed) dropped note marks marks)
    (λ a d s wrote. turns_not_written dropped note noted marks marks failed a d c.requires.sound c.requires.within s wrote) old new (g.met.D.Disk.consistent c.args.disk.now)
    (subst (λ (m : Marks). FileChanges (WritesHead (Err failed) m) old new) c.marks_after-next.ensures c.in-Err.ensures.written)
