use Rattle.std.proofs.Common.{ℕ, List, [], ◌∷◌, arith, refl, subst, sym}
use Rattle.ldm_book.specs.Listing.{queued_of}
use Rattle.ldm_recorder.specs.declared.end.RecordEnd.TheVariants as end
use Rattle.ldm_recorder.specs.Finishing.{BreaksOffIn, MakesUp, kept_queued, lost_between}
use Rattle.ldm_recorder.specs.Recording.{DoesAll, sight_at, who_of}
use Rattle.ldm_recorder.specs.Taking.{WorksBy, writing}
use Rattle.ldm_recorder.specs.Turns.{Given, Turn}
use Rattle.std.specs.Prelude.{Err}
use Rattle.ldm_recorder.proofs.Finishing.{broken_soon, broken_then, given_broken, given_made, given_past, is_left, lost_broken, lost_made, passed_over, up_none, up_then}
use Rattle.ldm_recorder.proofs.recorder.Recorder.write_queued.Goals as goal

pub returns-then-n-next-clause-wrote : goal.returns-then-n-next-clause-wrote
returns-then-n-next-clause-wrote g c = λ pass.
    let r = c.args.self.now in
    let q = queued_of c.args.product.now in
    let here = sight_at pass r.journal.marks (g.D.Disk.tells c.args.disk.now) (g.E.Sink.tells c.args.log.now) in
    subst (λ (l : List Turn). MakesUp (who_of pass r) l here here) (sym (passed_over r.base c.args.next q (omega (arith, c.if-n-next.true))))
    (up_none (who_of pass r) here (g.met.D.Disk.consistent c.args.disk.now))

pub returns-in-Err-clause-wrote : goal.returns-in-Err-clause-wrote
returns-in-Err-clause-wrote g c = λ pass.
    let r = c.args.self.now in
    let who = who_of pass r in
    let q = queued_of c.args.product.now in
    let disk = g.D.Disk.tells c.args.disk.now in
    let lines = g.E.Sink.tells in
    let here = sight_at pass r.journal.marks disk (lines c.args.log.now) in
    let there = sight_at pass r.journal.marks disk (lines c.tell_lost.new.log) in
    let lost = lost_between c.args.next q.number in
    let given = Given q.number (kept_queued r.base q) ∷ [] in
    subst (λ (l : List Turn). BreaksOffIn c.in-Err.why who l here there) (sym (is_left r.base c.args.next q (omega (arith, c.if-n-next.false))))
    (broken_soon c.in-Err.why who lost given here there
    (lost_broken who c.args.next q.number pass r.journal.marks disk (g.met.D.Disk.consistent c.args.disk.now) (lines c.args.log.now) (lines c.tell_lost.new.log) c.in-Err.why c.in-Err.ensures.told))

pub returns-in_default-clause-wrote : goal.returns-in_default-clause-wrote
returns-in_default-clause-wrote g c = λ pass.
    let r = c.args.self.now in
    let who = who_of pass r in
    let q = queued_of c.args.product.now in
    let disk = g.D.Disk.tells c.args.disk.now in
    let consistent = g.met.D.Disk.consistent c.args.disk.now in
    let lines = g.E.Sink.tells in
    let here = sight_at pass r.journal.marks disk (lines c.args.log.now) in
    let there = sight_at pass r.journal.marks disk (lines c.tell_lost.new.log) in
    let lost = lost_between c.args.next q.number in
    let k = kept_queued r.base q in
    subst (λ (l : List Turn). BreaksOffIn end.NoNumbers who l here there) (sym (is_left r.base c.args.next q (omega (arith, c.if-n-next.false))))
    (broken_then end.NoNumbers who lost (Given q.number k ∷ []) here there there
    (lost_made who c.args.next q.number pass r.journal.marks disk consistent (lines c.args.log.now) (lines c.tell_lost.new.log) c.in-Ok.ensures.told)
    (given_past who q.number k refl there there consistent c.in_default.ensures))

pub returns-in-Ok-write-clause-wrote : goal.returns-in-Ok-write-clause-wrote
returns-in-Ok-write-clause-wrote g c = λ pass.
    let r = c.args.self.now in
    let who = who_of pass r in
    let q = queued_of c.args.product.now in
    let disk = g.D.Disk.tells c.args.disk.now in
    let lines = g.E.Sink.tells in
    let here = sight_at pass r.journal.marks disk (lines c.args.log.now) in
    let there = sight_at pass r.journal.marks disk (lines c.tell_lost.new.log) in
    let behind = sight_at pass c.write.new.journal.marks (g.D.Disk.tells c.write.new.disk) (lines c.write.new.log) in
    let lost = lost_between c.args.next q.number in
    let k = kept_queued r.base q in
    let wrote : DoesAll (writing who q.number k) there behind =
    subst (λ (m : ℕ). DoesAll (writing who q.number (record { number = m; time = q.time; info = q.product.info; body = q.product.body })) there behind) c.in-Some.ensures.0
    (c.in-Ok-write.ensures.written who pass refl) in
    subst (λ (l : List Turn). MakesUp who l here behind) (sym (is_left r.base c.args.next q (omega (arith, c.if-n-next.false))))
    (up_then who lost (Given q.number k ∷ []) here there behind
    (lost_made who c.args.next q.number pass r.journal.marks disk (g.met.D.Disk.consistent c.args.disk.now) (lines c.args.log.now) (lines c.tell_lost.new.log) c.in-Ok.ensures.told)
    (given_made who q.number k refl there behind wrote))

pub returns-in-Err-write-clause-wrote : goal.returns-in-Err-write-clause-wrote
returns-in-Err-write-clause-wrote g c = λ pass.
    let r = c.args.self.now in
    let who = who_of pass r in
    let q = queued_of c.args.product.now in
    let disk = g.D.Disk.tells c.args.disk.now in
    let consistent = g.met.D.Disk.consistent c.args.disk.now in
    let lines = g.E.Sink.tells in
    let why = c.in-Err-write.why in
    let here = sight_at pass r.journal.marks disk (lines c.args.log.now) in
    let there = sight_at pass r.journal.marks disk (lines c.tell_lost.new.log) in
    let behind = sight_at pass c.write.new.journal.marks (g.D.Disk.tells c.write.new.disk) (lines c.write.new.log) in
    let lost = lost_between c.args.next q.number in
    let k = kept_queued r.base q in
    let wrote : WorksBy (Err why) (writing who q.number k) [] there behind =
    subst (λ (m : ℕ). WorksBy (Err why) (writing who q.number (record { number = m; time = q.time; info = q.product.info; body = q.product.body })) [] there behind) c.in-Some.ensures.0
    (c.in-Err-write.ensures.written who pass refl) in
    subst (λ (l : List Turn). BreaksOffIn why who l here behind) (sym (is_left r.base c.args.next q (omega (arith, c.if-n-next.false))))
    (broken_then why who lost (Given q.number k ∷ []) here there behind
    (lost_made who c.args.next q.number pass r.journal.marks disk consistent (lines c.args.log.now) (lines c.tell_lost.new.log) c.in-Ok.ensures.told)
    (given_broken who q.number k refl there behind consistent why wrote))
