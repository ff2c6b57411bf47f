use Rattle.std.proofs.Common.{Bool, subst}
use Rattle.ldm_journal.specs.Records.{Kept}
use Rattle.ldm_recorder.specs.Restoring.{AnswersLast}
use Rattle.ldm_recorder.proofs.PuttingBack.{frees_more, frees_none, grows_queued, of_same, puts_last, puts_none, puts_part, puts_tried, same_none, same_then}
use Rattle.ldm_recorder.proofs.restoring.put_back.Goals as goal

pub loop-init : goal.loop-init
loop-init g c = (same_none c.args.pass.now, λ number. frees_none _ c.args.pass.now)

pub insert-requires-clause-of : goal.insert-requires-clause-of
insert-requires-clause-of g c = of_same c.args.shared.now c.args.pass.now c.loop.pass c.requires.of c.loop.invariant.0

pub returns-in-Worn-clause-kept : goal.returns-in-Worn-clause-kept
returns-in-Worn-clause-kept g c = same_then c.args.pass.now c.loop.pass c.insert.new.pass c.loop.invariant.0 c.in-Worn.ensures.kept

pub returns-in-Worn-clause-puts : goal.returns-in-Worn-clause-puts
returns-in-Worn-clause-puts g c = λ number.
    let k : Kept = record { number = number; time = c.args.time; info = c.args.info.now; body = c.args.body.now } in
    puts_part k _ _ _ _ (c.loop.invariant.1 number) c.in-Worn.ensures.worn

pub returns-then-is_last-clause-kept : goal.returns-then-is_last-clause-kept
returns-then-is_last-clause-kept g c = same_then c.args.pass.now c.loop.pass c.insert.new.pass c.loop.invariant.0 c.in-Done.ensures.kept

pub returns-then-is_last-clause-puts : goal.returns-then-is_last-clause-puts
returns-then-is_last-clause-puts g c = λ number.
    let k : Kept = record { number = number; time = c.args.time; info = c.args.info.now; body = c.args.body.now } in
    puts_last k _ _ _ c.in-Done.reply (subst (λ (b : Bool). AnswersLast b c.in-Done.reply) c.if-is_last.true c.is_last.ensures) (c.loop.invariant.1 number) c.in-Done.ensures.done

pub expire-requires : goal.expire-requires
expire-requires g c = of_same c.args.shared.now c.args.pass.now c.insert.new.pass c.requires.of (same_then c.args.pass.now c.loop.pass c.insert.new.pass c.loop.invariant.0 c.in-Done.ensures.kept)

pub loop-preserved : goal.loop-preserved
loop-preserved g c =
    let at = rw c.in-Done-Expired.field-0-is at c.in-Done-Expired.ensures in (
      same_then c.args.pass.now c.insert.new.pass c.expire.new.pass (same_then c.args.pass.now c.loop.pass c.insert.new.pass c.loop.invariant.0 c.in-Done.ensures.kept) at.kept,
      λ number.
          (let k : Kept = record { number = number; time = c.args.time; info = c.args.info.now; body = c.args.body.now } in
          let tried = grows_queued k _ _ c.in-Done.reply (subst (λ (b : Bool). AnswersLast b c.in-Done.reply) c.if-is_last.false c.is_last.ensures) c.in-Done.ensures.done in
          frees_more k _ _ _ _ tried.0 _ (c.loop.invariant.1 number) tried.1 at.done),
    )

pub returns-in-Done-Nothing-clause-kept : goal.returns-in-Done-Nothing-clause-kept
returns-in-Done-Nothing-clause-kept g c =
    let at = rw c.in-Done-Nothing.field-0-is at c.in-Done-Nothing.ensures in same_then c.args.pass.now c.insert.new.pass c.expire.new.pass (same_then c.args.pass.now c.loop.pass c.insert.new.pass c.loop.invariant.0 c.in-Done.ensures.kept) at.kept

pub returns-in-Done-Nothing-clause-puts : goal.returns-in-Done-Nothing-clause-puts
returns-in-Done-Nothing-clause-puts g c = λ number.
    let at = rw c.in-Done-Nothing.field-0-is at c.in-Done-Nothing.ensures in
    let k : Kept = record { number = number; time = c.args.time; info = c.args.info.now; body = c.args.body.now } in
    let tried = grows_queued k _ _ c.in-Done.reply (subst (λ (b : Bool). AnswersLast b c.in-Done.reply) c.if-is_last.false c.is_last.ensures) c.in-Done.ensures.done in
    puts_none k _ _ _ _ tried.0 (c.loop.invariant.1 number) tried.1 at.done

pub returns-in-Worn-expire-clause-kept : goal.returns-in-Worn-expire-clause-kept
returns-in-Worn-expire-clause-kept g c =
    same_then c.args.pass.now c.insert.new.pass c.expire.new.pass (same_then c.args.pass.now c.loop.pass c.insert.new.pass c.loop.invariant.0 c.in-Done.ensures.kept) c.in-Worn-expire.ensures.kept

pub returns-in-Worn-expire-clause-puts : goal.returns-in-Worn-expire-clause-puts
returns-in-Worn-expire-clause-puts g c = λ number.
    let k : Kept = record { number = number; time = c.args.time; info = c.args.info.now; body = c.args.body.now } in
    let tried = grows_queued k _ _ c.in-Done.reply (subst (λ (b : Bool). AnswersLast b c.in-Done.reply) c.if-is_last.false c.is_last.ensures) c.in-Done.ensures.done in
    puts_tried k _ _ _ _ tried.0 _ (c.loop.invariant.1 number) tried.1 c.in-Worn-expire.ensures.worn
