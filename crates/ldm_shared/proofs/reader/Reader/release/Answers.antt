use Rattle.std.proofs.Common.{subst}
use Rattle.ldm_model.specs.declared.event.Reply.{Reply}
use Rattle.ldm_model.specs.declared.event.Event.TheVariants as event
use Rattle.ldm_shared.specs.Passes.{Grows}
use Rattle.ldm_shared.proofs.Readers.{releases, released}
use Rattle.ldm_shared.proofs.reader.Reader.release.Goals as goal

pub unreachable-requires : goal.unreachable-requires
unreachable-requires g c =
    let done = (rw c.in-Done-NoCursor.field-0-is at c.in-Done-NoCursor.ensures).done in
    cc (releases _ _ _ _ _ done c.requires.holds)

pub unreachable-requires-in-Done-NotHeld : goal.unreachable-requires-in-Done-NotHeld
unreachable-requires-in-Done-NotHeld g c =
    let done = (rw c.in-Done-NotHeld.field-0-is at c.in-Done-NotHeld.ensures).done in
    cc (releases _ _ _ _ _ done c.requires.holds)

pub returns-in-Done-Released-clause-done : goal.returns-in-Done-Released-clause-done
returns-in-Done-Released-clause-done g c =
    let done = (rw c.in-Done-Released.field-0-is at c.in-Done-Released.ensures).done in
    subst (λ (r : Reply). Grows c.args.pass.now c.release.new.pass (event.Release c.args.self.now.k) r) (releases _ _ _ _ _ done c.requires.holds) done

pub returns-in-Done-Released-clause-cursor : goal.returns-in-Done-Released-clause-cursor
returns-in-Done-Released-clause-cursor g c =
    let done = (rw c.in-Done-Released.field-0-is at c.in-Done-Released.ensures).done in
    released _ _ _ _ (subst (λ (r : Reply). Grows c.args.pass.now c.release.new.pass (event.Release c.args.self.now.k) r) (releases _ _ _ _ _ done c.requires.holds) done) c.requires.holds
