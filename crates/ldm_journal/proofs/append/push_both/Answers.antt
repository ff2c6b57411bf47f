use Rattle.std.proofs.Common.{◌++◌, length, subst}
use Rattle.std.specs.Prelude.{Ok}
use Rattle.ldm_disk.specs.Calls.{FileChanges}
use Rattle.ldm_journal.specs.declared.marks.Marks.{Marks}
use Rattle.ldm_journal.specs.Pushing.{Pushes, grown}
use Rattle.ldm_disk.proofs.Told.{two_calls}
use Rattle.ldm_journal.proofs.PushLemmas.{both_pushed}
use Rattle.ldm_journal.proofs.append.push_both.Goals as goal

pub returns-in-Ok-clause-pushed : goal.returns-in-Ok-clause-pushed
returns-in-Ok-clause-pushed g c =
    let tells = g.D.Disk.tells in
    let marks = c.args.marks.now in
    let first = c.args.first.now in
    let rest = c.args.rest.now in
    let result = c.push-in-Ok.result in
    let old = (tells c.args.disk.now).file in
    let mid = (tells c.push.new.disk).file in
    let new = (tells c.push-in-Ok.new.disk).file in
    two_calls (Pushes (Ok c.in-Ok.field-0) marks first) (Pushes result (grown (length first) marks) rest) (Pushes result marks (first ++ rest))
    (λ old mid new one next. both_pushed result marks first rest c.in-Ok.field-0 old mid new one next) old mid new c.in-Ok.ensures.pushed
    (subst (λ (m : Marks). FileChanges (Pushes result m rest) mid new) c.in-Ok.ensures.grown c.push-in-Ok.ensures.pushed)
