use Rattle.std.proofs.Common.{[], Some, length, sym, ap, subst, ◌∙◌, append-nil, arith}
use Rattle.ldm_model.specs.Answers.{fill_answer}
use Rattle.ldm_model.specs.declared.event.Event.TheVariants.{Fill}
use Rattle.ldm_intake.specs.declared.phase.Pending.{Pending}
use Rattle.ldm_intake.specs.Course.{Course}
use Rattle.ldm_intake.specs.Products.{filled_in}
use Rattle.ldm_intake.specs.Step.{Step}
use Rattle.ldm_intake.specs.TakesRecord.{TakesRecord, stands}
use Rattle.ldm_intake.specs.Turning.{end_of_turn}
use Rattle.ldm_intake.proofs.Calling.{goes_by_one, takes_after}
use Rattle.ldm_intake.proofs.Filling.{waits, last_block, next_block}
use Rattle.ldm_intake.proofs.intake.Intake.fill.Goals as goal

pub returns-then-left-block : goal.returns-then-left-block
returns-then-left-block g c = λ out.
    let self = c.args.self.now in
    let pending = c.args.pending in
    let len = length c.args.block.now in
    let mid = stands self c.fill.new.pass out c.args.notes.now.items in
    let new = stands c.commit.new.self c.commit.new.pass out c.commit.new.notes.items in
    let course = last_block self c.args.now pending len (omega (arith, c.left.ensures, c.if-left-block.true)) in
    takes_after (Fill pending.r c.args.block.now) (λ reply. filled_in self c.args.now pending len) (stands self c.args.pass.now out c.args.notes.now.items)
    c.calls_made.ensures.more (fill_answer c.in-Done.field-0) c.fill.new.pass c.commit.result new c.in-Done.ensures.done
    (subst (λ (k : Course Step). TakesRecord (end_of_turn c.commit.result) k mid new) (sym course) (c.commit.ensures out))

pub returns-else-left-block : goal.returns-else-left-block
returns-else-left-block g c = λ out.
    let self = c.args.self.now in
    let pending = c.args.pending in
    let len = length c.args.block.now in
    let notes = c.args.notes.now.items in
    let s = waits self pending in
    goes_by_one self c.wait_for.new.self s [] [] out out notes notes
    (c.wait_for.ensures ∙ ap (λ (p : Pending). record self { pending = Some p }) c.next.ensures) (sym (append-nil out)) (sym (append-nil notes))
    (Fill pending.r c.args.block.now) (λ reply. filled_in self c.args.now pending len) (fill_answer c.in-Done.field-0) c.args.pass.now c.fill.new.pass c.in-Done.ensures.done
    (next_block self c.args.now pending len (omega (arith, c.left.ensures, c.if-left-block.false)))
