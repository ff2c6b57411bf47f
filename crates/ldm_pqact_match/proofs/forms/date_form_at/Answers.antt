use Rattle.std.proofs.Common.{sym, arith, drop, length-drop}
use Rattle.std.proofs.lemmas.List.{take_rest}
use Rattle.ldm_pqact_match.proofs.Found.{part_inside}
use Rattle.ldm_pqact_match.proofs.forms.date_form_at.Goals as goal

pub returns-clause-inside : goal.returns-clause-inside
returns-clause-inside c =
    let within = simp take_rest at (part_inside _ c.in_ok-part.part (sym c.in_ok-part.ensures)) in
    let group = simp take_rest at c.in_ok-group.ensures.inside in
    rw c.spelling.ensures (omega (arith, within, group, length-drop 2 (drop 1 c.args.text.now), length-drop 1 c.args.text.now))
