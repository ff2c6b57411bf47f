use Rattle.std.proofs.Common.{◌+◌, arith, length-drop}
use Rattle.std.proofs.lemmas.List.{take_rest}
use Rattle.ldm_text.proofs.Scans.{first_and_others, one_line}
use Rattle.ldm_text.proofs.lines.first_line.Goals as goal

pub returns-then-at-text : goal.returns-then-at-text
returns-then-at-text c =
    let text = c.args.text.now in
    let at = c.place_of-at.result in
    let within = rw c.place_of-at.ensures.place at c.if-at-text.true in
    record {
      lines = rw (take_rest, c.place_of-at.ensures.place) (first_and_others text within);
      shorter = rw take_rest (omega (arith, length-drop (at + 1) text, c.if-at-text.true));
    }

pub returns-else-at-text : goal.returns-else-at-text
returns-else-at-text c = record {
  lines = one_line c.args.text.now (rw c.place_of-at.ensures.place at c.if-at-text.false);
  shorter = omega arith;
}
