use Rattle.std.proofs.Common.{◌∙◌, sym}
use Rattle.std.proofs.lemmas.Result.{err_from_is_err_and}
use Rattle.ldm_pqact_conf.proofs.Readings.{ends_badly}
use Rattle.ldm_pqact_conf.proofs.reader.Reader.take_line.Goals as goal

pub returns-in_err-end_entry-clause-means : goal.returns-in_err-end_entry-clause-means
returns-in_err-end_entry-clause-means c = λ lines.
    let why = err_from_is_err_and c.from_residual.result c.from_residual.ensures.1 in
    let reads = sym c.is_skipped.ensures ∙ c.if-is_skipped.false in
    let first = sym c.begins_with.ensures ∙ c.if-begins_with.false in
    rw (why.1, why.2) (ends_badly c.args.line.now reads c.args.self.now c.in_err-end_entry.field-0.0 first c.in_err-end_entry.ensures lines)
