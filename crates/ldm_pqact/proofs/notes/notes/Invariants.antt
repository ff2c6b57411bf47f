use Rattle.std.proofs.Common.{◌≡◌, take}
use Rattle.ldm_pqact.specs.Notes.{notes_of}
use Rattle.ldm_pqact.proofs.notes.notes.Given as goal

abbrev pub invariant-loop-it : goal.invariant-loop-it
invariant-loop-it l = l.notes.items ≡ notes_of l.info.ident (take l.it-index l.chosen)
