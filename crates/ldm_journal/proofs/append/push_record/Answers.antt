use Rattle.std.proofs.Common.{ℕ, List, ◌++◌, length, ap, subst, sym, ◌∙◌, length-append}
use Rattle.std.specs.Prelude.{Ok}
use Rattle.ldm_disk.specs.Calls.{FileChanges}
use Rattle.md5.specs.Md5.{md5}
use Rattle.ldm_journal.specs.declared.marks.Marks.{Marks}
use Rattle.ldm_journal.specs.Pushing.{Pushes, grown}
use Rattle.ldm_disk.proofs.Told.{two_calls}
use Rattle.ldm_journal.proofs.PushLemmas.{both_pushed}
use Rattle.ldm_journal.proofs.append.push_record.Goals as goal

pub returns-in-Ok-clause-pushed : goal.returns-in-Ok-clause-pushed
returns-in-Ok-clause-pushed g c =
    let tells = g.D.Disk.tells in
    let marks = c.args.marks.now in
    let head = c.args.head.now in
    let body = c.args.body.now in
    let first = head ++ body in
    let result = c.push.result in
    let old = (tells c.args.disk.now).file in
    let mid = (tells c.push_both.new.disk).file in
    let new = (tells c.push.new.disk).file in
    let e = c.in-Ok.ensures.grown ∙ ap (λ (n : ℕ). grown n marks) (sym (length-append head body)) in
    two_calls (Pushes (Ok c.in-Ok.field-0) marks first) (Pushes result (grown (length first) marks) (md5 first)) (Pushes result marks (first ++ md5 first))
    (λ a b d one next. both_pushed result marks first (md5 first) c.in-Ok.field-0 a b d one next) old mid new c.in-Ok.ensures.pushed
    (subst (λ (l : List ℕ). FileChanges (Pushes result (grown (length first) marks) l) mid new) c.sum_of-sum.ensures
    (subst (λ (m : Marks). FileChanges (Pushes result m c.sum_of-sum.result) mid new) e c.push.ensures.pushed))
