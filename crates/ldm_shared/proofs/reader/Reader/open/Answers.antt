use Rattle.std.proofs.Common.{sym, subst}
use Rattle.ldm_model.specs.declared.event.Reply.{Reply}
use Rattle.ldm_model.specs.declared.event.Event.TheVariants as event
use Rattle.ldm_shared.specs.Passes.{Grows}
use Rattle.ldm_shared.proofs.Readers.{opened-cursor, opened-named}
use Rattle.ldm_shared.proofs.reader.Reader.open.Goals as goal

pub returns-in-Done-clause-cursor : goal.returns-in-Done-clause-cursor
returns-in-Done-clause-cursor g c = opened-cursor _ _ _ c.args.start c.opening_of.result
    (subst (λ (r : Reply). Grows c.args.pass.now c.open_cursor.new.pass (event.OpenCursor c.args.feed c.args.start) r) (sym c.opening_of.ensures) c.in-Done.ensures.done)

pub returns-in-Done-clause-named : goal.returns-in-Done-clause-named
returns-in-Done-clause-named g c = opened-named _ _ _ c.args.start c.opening_of.result
    (subst (λ (r : Reply). Grows c.args.pass.now c.open_cursor.new.pass (event.OpenCursor c.args.feed c.args.start) r) (sym c.opening_of.ensures) c.in-Done.ensures.done)
