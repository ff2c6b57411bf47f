use Rattle.ldm_text.proofs.Scans.{place_is, length_is}
use Rattle.ldm_text.proofs.scan.place_of.Goals as goal

pub returns-in-Some-clause-place : goal.returns-in-Some-clause-place
returns-in-Some-clause-place c = place_is c.args.byte c.args.text.now c.in-Some.at c.in-Some.ensures

pub returns-in-None-clause-place : goal.returns-in-None-clause-place
returns-in-None-clause-place c = length_is c.args.byte c.args.text.now c.in-None.ensures
