use Rattle.std.proofs.lemmas.List.{take_rest}
use Rattle.ldm_script.proofs.Splitting.{cuts-none, lacks-front, whole-some}
use Rattle.ldm_script.proofs.split.split_first.Goals as goal

pub returns-in-None : goal.returns-in-None
returns-in-None c = cuts-none c.args.separator c.args.text.now c.in-None.ensures

pub returns-in-Some : goal.returns-in-Some
returns-in-Some c = record {
  lacks = lacks-front c.args.separator c.args.text.now c.in-Some.at c.in-Some.ensures;
  whole = rw take_rest (whole-some c.args.separator c.args.text.now c.in-Some.at c.in-Some.ensures);
}
