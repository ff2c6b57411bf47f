use Rattle.ldm_model.specs.declared.event.Event.TheVariants as event
use Rattle.ldm_shared.proofs.Readers.{no_cursor, itself}
use Rattle.ldm_shared.proofs.reader.Reader.close.Goals as goal

pub unreachable-requires : goal.unreachable-requires
unreachable-requires g c =
    let done = (rw c.in-Done-NoCursor.field-0-is at c.in-Done-NoCursor.ensures).done in
    no_cursor _ _ _ (event.Close c.args.self.k) _ (itself _) done c.requires.cursor.1
