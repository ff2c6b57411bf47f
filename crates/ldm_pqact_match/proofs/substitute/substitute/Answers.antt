use Rattle.std.proofs.Common.{◌∙◌}
use Rattle.std.proofs.lemmas.List.{take_rest}
use Rattle.std.proofs.lemmas.Result.{err_from_is_err_and}
use Rattle.ldm_pqact_match.specs.Views.{meanings_of}
use Rattle.ldm_pqact_match.proofs.Words.{piece_stops, piece_taken, word_ends}
use Rattle.ldm_pqact_match.proofs.substitute.substitute.Goals as goal

pub returns-in_err-append : goal.returns-in_err-append
returns-in_err-append c =
    let why = err_from_is_err_and c.from_residual.result c.from_residual.ensures.1 in
    rw (why.1, why.2)
    (piece_stops (meanings_of c.args.sources.now) c.loop-form.text c.loop-form.rest.now c.args.word.now c.in-Some.form c.in_err-append.field-0.0
    c.in-Some.ensures c.loop-form.invariant c.in_err-append.ensures)

pub loop-form-preserved : goal.loop-form-preserved
loop-form-preserved c =
    rw take_rest
    (piece_taken (meanings_of c.args.sources.now) c.loop-form.text c.append.new.text c.loop-form.rest.now c.in-Some.form c.in-Some.ensures
    c.in_ok-append.ensures ∙ c.loop-form.invariant)

pub returns : goal.returns
returns c =
    let so_far = rw c.in_default.ensures at c.loop-form.invariant in
    word_ends (meanings_of c.args.sources.now) c.loop-form.text c.args.word.now so_far
