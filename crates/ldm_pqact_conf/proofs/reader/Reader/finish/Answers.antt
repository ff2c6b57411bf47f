use Rattle.std.proofs.Common.{◌≡◌, ap}
use Rattle.std.proofs.lemmas.Result.{err_from_is_err_and}
use Rattle.ldm_pqact_conf.specs.Kept.{Reading}
use Rattle.ldm_pqact_conf.proofs.Readings.{at_the_end, bad_end}
use Rattle.ldm_pqact_conf.proofs.reader.Reader.finish.Goals as goal

pub returns-in_err-end_entry : goal.returns-in_err-end_entry
returns-in_err-end_entry c =
    let why = err_from_is_err_and c.from_residual.result c.from_residual.ensures.1 in
    rw (why.1, why.2) (bad_end c.args.self c.in_err-end_entry.field-0.0 c.in_err-end_entry.ensures)

pub returns : goal.returns
returns c =
    let same : c.self.inside.entries.items ≡ c.end_entry.new.self.entries = ap (λ (r : Reading). r.entries) c.self.view_is in
    rw same (at_the_end c.args.self c.end_entry.new.self c.in_ok-end_entry.ensures)
