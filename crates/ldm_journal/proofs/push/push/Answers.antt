use Rattle.std.proofs.Common.{List, ℕ, ◌++◌, length, subst, sym}
use Rattle.std.specs.Prelude.{Ok}
use Rattle.ldm_disk.specs.Calls.{FileChanges}
use Rattle.ldm_journal.specs.declared.marks.Marks.{Marks}
use Rattle.ldm_journal.specs.Pushing.{Pushes, grown}
use Rattle.ldm_disk.proofs.Told.{two_calls}
use Rattle.ldm_journal.proofs.PushLemmas.{both_pushed}
use Rattle.ldm_journal.proofs.push.push.Goals as goal

pub returns-in-Ok-clause-pushed : goal.returns-in-Ok-clause-pushed
returns-in-Ok-clause-pushed g c =
    let tells = g.D.Disk.tells in
    let marks = c.args.marks.now in
    let first = c.split_at.result.0.now in
    let rest = c.split_at.result.1.now in
    let result = c.push_part-in-Ok.result in
    let old = (tells c.args.disk.now).file in
    let mid = (tells c.push_part-2.new.disk).file in
    let new = (tells c.push_part-in-Ok.new.disk).file in
    subst (λ (l : List ℕ). FileChanges (Pushes result marks l) old new) (sym c.split_at.ensures.by_index.0)
    (two_calls (Pushes (Ok c.in-Ok.field-0) marks first) (Pushes result (grown (length first) marks) rest) (Pushes result marks (first ++ rest))
    (λ old mid new one next. both_pushed result marks first rest c.in-Ok.field-0 old mid new one next) old mid new c.in-Ok.ensures.pushed
    (subst (λ (m : Marks). FileChanges (Pushes result m rest) mid new) c.in-Ok.ensures.grown c.push_part-in-Ok.ensures.pushed))
