use Rattle.std.proofs.Common.{◌∙◌, ◌+◌, drop}
use Rattle.std.proofs.lemmas.List.{drop_all}
use Rattle.std.proofs.lemmas.Result.{err_from_is_err_and}
use Rattle.ldm_pqact_match.specs.Views.{meanings_of}
use Rattle.ldm_pqact_match.proofs.Words.{word_split, word_stops, word_taken, words_end}
use Rattle.ldm_pqact_match.proofs.substitute.substitute_all.Goals as goal

pub returns-in_err-substitute : goal.returns-in_err-substitute
returns-in_err-substitute c =
    let why = err_from_is_err_and c.from_residual.result c.from_residual.ensures.1 in
    let words = c.args.words.now in
    let at = c.loop-word.word-index in
    let split = word_split words at c.word-item.result c.loop-word-test.true c.word-item.is in
    let so_far = rw split at c.loop-word.invariant in
    let stop = rw c.bytes.ensures at c.in_err-substitute.ensures in
    rw (why.1, why.2)
    (word_stops (meanings_of c.args.sources.now) c.loop-word.texts.items c.word-item.result (drop (at + 1) words) words c.in_err-substitute.field-0.0 so_far stop)

pub loop-word-preserved : goal.loop-word-preserved
loop-word-preserved c =
    let words = c.args.words.now in
    let at = c.loop-word.word-index in
    let split = word_split words at c.word-item.result c.loop-word-test.true c.word-item.is in
    let so_far = rw split at c.loop-word.invariant in
    let is = rw c.bytes.ensures at c.in_ok-substitute.ensures in
    rw c.in_ok-push.ensures.items
    (word_taken (meanings_of c.args.sources.now) c.loop-word.texts.items c.in_ok-substitute.field-0 c.word-item.result (drop (at + 1) words) is ∙ so_far)

pub returns : goal.returns
returns c =
    let words = c.args.words.now in
    let so_far = rw (drop_all c.loop-word.word-index words c.loop-word-test.false) at c.loop-word.invariant in
    words_end (meanings_of c.args.sources.now) c.loop-word.texts.items words so_far
