use Rattle.std.proofs.Common.{sym, subst}
use Rattle.ldm_model.specs.declared.event.Reply.{Reply}
use Rattle.ldm_model.specs.declared.event.Event.TheVariants as event
use Rattle.ldm_shared.specs.Passes.{Grows}
use Rattle.ldm_shared.proofs.Readers.{gives-some, stepped-cursor}
use Rattle.ldm_shared.proofs.reader.Reader.step.Goals as goal

pub came_of-requires : goal.came_of-requires
came_of-requires g c = gives-some _ _ _ _ c.in-Done.ensures.done c.requires.cursor

pub returns-in-Done-clause-cursor : goal.returns-in-Done-clause-cursor
returns-in-Done-clause-cursor g c = stepped-cursor _ _ _ c.came_of.result
    (subst (λ (r : Reply). Grows c.args.pass.now c.step.new.pass (event.Step c.args.self.now.k) r) (sym c.came_of.ensures) c.in-Done.ensures.done) c.requires.cursor
