use Rattle.std.proofs.Common.{sym}
use Rattle.std.proofs.lemmas.List.{take_rest}
use Rattle.ldm_conf.proofs.Ports.{last_at, none_at}
use Rattle.ldm_conf.proofs.addresses.at_last_colon.Goals as goal

pub returns-in-Some : goal.returns-in-Some
returns-in-Some c =
    let is = c.in-Some.ensures in
    rw take_rest (sym (last_at c.args.word.now c.in-Some.at is.0.high is.1 is.0.after))

pub returns-in-None : goal.returns-in-None
returns-in-None c = sym (none_at c.args.word.now c.in-None.ensures)
