use Rattle.std.proofs.Common.{◌∙◌, refl}
use Rattle.ldm_shared.proofs.Using.{same_then}
use Rattle.ldm_sender.proofs.Steps.{of_same}
use Rattle.ldm_shared.proofs.Counting.{counts_none, counts_then}
use Rattle.ldm_pqact.specs.Parts.{signature_of}
use Rattle.ldm_pqact.proofs.Lasting.{lasts_none, lasts_then}
use Rattle.ldm_pqact.proofs.Coursing.{course_begins, course_ends, course_goes_on}
use Rattle.ldm_pqact.proofs.carrier.Carrier.turns.Goals as goal

pub loop-init : goal.loop-init
loop-init g c = (
  course_begins _ _ _ c.requires.cursor c.requires.keeps,
  refl,
  c.requires.room,
  counts_none c.args.pass.now c.args.self.now.left,
  lasts_none c.args.pass.now (signature_of c.args.self.now.last),
)

pub turn-requires-clause-of : goal.turn-requires-clause-of
turn-requires-clause-of g c = of_same _ _ _ c.requires.of c.loop.invariant.0.same

pub turn-requires-clause-cursor : goal.turn-requires-clause-cursor
turn-requires-clause-cursor g c = c.loop.invariant.0.some.cursor

pub turn-requires-clause-keeps : goal.turn-requires-clause-keeps
turn-requires-clause-keeps g c = c.loop.invariant.0.keeps

pub loop-preserved : goal.loop-preserved
loop-preserved g c = (
  course_goes_on c.products_stay.ensures.stays _ _ _ _ _ c.loop.invariant.0 c.in-Ok.ensures.kept c.in-Ok.ensures.keeps
      (rw c.loop.invariant.1 at c.in-Ok.ensures.turns),
  c.in-Ok.ensures.entries ∙ c.loop.invariant.1,
  c.in-Ok.ensures.room,
  counts_then _ _ _ _ _ _ c.loop.invariant.3 c.in-Ok.ensures.counts,
  lasts_then _ _ _ _ _ _ c.loop.invariant.4 c.in-Ok.ensures.last,
)

pub returns-in-Err-clause-kept : goal.returns-in-Err-clause-kept
returns-in-Err-clause-kept g c = same_then c.args.pass.now c.loop.pass c.turn.new.pass c.loop.invariant.0.same c.in-Err.ensures.kept

pub returns-in-Err-clause-acts : goal.returns-in-Err-clause-acts
returns-in-Err-clause-acts g c =
    course_ends c.products_stay.ensures.stays _ _ _ _ _ _ c.loop.invariant.0 (rw c.loop.invariant.1 at c.in-Err.ensures.turns)

pub returns-in-Err-clause-counts : goal.returns-in-Err-clause-counts
returns-in-Err-clause-counts g c = counts_then _ _ _ _ _ _ c.loop.invariant.3 c.in-Err.ensures.counts

pub returns-in-Err-clause-last : goal.returns-in-Err-clause-last
returns-in-Err-clause-last g c = lasts_then _ _ _ _ _ _ c.loop.invariant.4 c.in-Err.ensures.last
