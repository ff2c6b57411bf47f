use Rattle.std.proofs.Common.{◌≡◌, ◌∙◌, ◌+◌, ℕ, List, Some, ap, arith, subst, sym}
use Rattle.std.specs.Prelude.{slice_get}
use Rattle.ldm_recorder.specs.declared.line.Line.{Line}
use Rattle.ldm_recorder.specs.declared.line.TheConstants.{MOST_LINES}
use Rattle.ldm_recorder.proofs.Finding.{get_there}
use Rattle.ldm_recorder.proofs.Noting.{NotesSome, notes_end, notes_more, notes_out}
use Rattle.ldm_recorder.proofs.note.note_of.Goals as goal

pub returns-in_default : goal.returns-in_default
returns-in_default c =
    notes_out c.args.lines.now c.args.lasts.now c.loop-i.i c.loop-i.note (omega arith) c.in_default.ensures.lookup.3 c.loop-i.invariant

pub loop-i-preserved : goal.loop-i-preserved
loop-i-preserved c =
    let lines = c.args.lines.now in
    let lasts = c.args.lasts.now in
    let at = c.in-Some.ensures.lookup in
    let there : slice_get lines c.loop-i.i ≡ Some c.in-Some.line.now =
    get_there lines c.loop-i.i c.in-Some.line.now at.3.0 ∙ ap (λ (l : Line). Some l) (sym at.1) in
    subst (λ (note : List ℕ). NotesSome lines lasts (c.loop-i.i + 1) note) (sym c.write_entry.ensures.written)
    (notes_more lines lasts c.loop-i.i c.in-Some.line.now c.loop-i.note (omega arith) there (omega (arith, c.told-lasts)) c.write_entry.ensures.long c.loop-i.invariant)

pub returns : goal.returns
returns c =
    let end : c.loop-i.i ≡ MOST_LINES = omega arith in
    notes_end c.args.lines.now c.args.lasts.now c.loop-i.note c.told-lasts (subst (λ (n : ℕ). NotesSome c.args.lines.now c.args.lasts.now n c.loop-i.note) end c.loop-i.invariant)
