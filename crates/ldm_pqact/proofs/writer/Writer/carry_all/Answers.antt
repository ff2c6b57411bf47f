use Rattle.std.proofs.Common.{rules, ◌≡◌, ◌∙◌, sym}
use Rattle.std.proofs.lemmas.Result.{err_from_is_err_and}
use Rattle.ldm_pqact.proofs.Finishing.{chosen_begins, chosen_breaks, chosen_goes_on, chosen_whole}
use Rattle.ldm_pqact.proofs.writer.Writer.carry_all.Goals as goal

pub loop-it-init : goal.loop-it-init
loop-it-init g c =
    let same : c.into_iter-it-iterator.result.rest.items ≡ c.args.chosen.items = search rules in
    (chosen_begins c.args.holding.now c.args.chosen.items _ _ same c.requires.keeps, c.requires.room)

pub returns-in_err-carry-clause-does : goal.returns-in_err-carry-clause-does
returns-in_err-carry-clause-does g c =
    let why = err_from_is_err_and c.from_residual.result c.from_residual.ensures.1 in
    rw (why.1, why.2)
    (chosen_breaks _ c.args.holding.now c.args.chosen.items c.next.new.self.rest.items c.in-Some.it _ _ _ (rw c.in-Some.ensures.steps.0 at c.loop-it.invariant.0)
    c.in_err-carry.ensures.does)

pub loop-it-preserved : goal.loop-it-preserved
loop-it-preserved g c = (
  chosen_goes_on c.args.holding.now c.args.chosen.items c.next.new.self.rest.items c.in-Some.it _ _ _ (rw c.in-Some.ensures.steps.0 at c.loop-it.invariant.0)
      c.in_ok-carry.ensures.kept c.in_ok-carry.ensures.keeps c.in_ok-carry.ensures.does,
  c.in_ok-carry.ensures.room,
)

pub returns-clause-does : goal.returns-clause-does
returns-clause-does g c =
    let rest = c.loop-it.it-iterator.rest in
    chosen_whole c.args.holding.now c.args.chosen.items rest.items _ _ (sym rest.ok.0 ∙ c.in-None.ensures.steps.0) c.loop-it.invariant.0
