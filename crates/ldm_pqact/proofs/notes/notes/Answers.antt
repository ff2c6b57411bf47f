use Rattle.std.proofs.Common.{sym}
use Rattle.ldm_pqact.proofs.NoteLines.{notes_more, notes_whole}
use Rattle.ldm_pqact.proofs.notes.notes.Goals as goal

pub loop-it-preserved : goal.loop-it-preserved
loop-it-preserved c =
    rw (c.in_ok-put_note.ensures, c.loop-it.invariant, c.ident.ensures.value)
    (sym (notes_more c.args.info.now.ident c.args.chosen.now c.loop-it.it-index c.it-item.result c.loop-it-test.true c.it-item.is))

pub returns : goal.returns
returns c = notes_whole c.args.info.now.ident c.args.chosen.now c.loop-it.it-index c.loop-it.notes.items c.loop-it.invariant c.loop-it-test.false
