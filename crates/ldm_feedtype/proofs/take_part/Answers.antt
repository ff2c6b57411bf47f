use Rattle.std.proofs.Common.{ℕ, List, ◌≡◌, ◌+◌, ◌-◌, ◌∙◌, ap, sym, length, drop, take, arith, Result}
use Rattle.std.proofs.Math.Seq.{take-length}
use Rattle.std.proofs.lemmas.List.{length-drop}
use Rattle.std.proofs.lemmas.Result.{err_from_is_err_and}
use Rattle.ldm_feedtype.specs.declared.fault.FeedFault.{FeedFault}
use Rattle.ldm_feedtype.specs.Reading.{State, and_then}
use Rattle.ldm_feedtype.specs.Kept.{read_on, state_of}
use Rattle.ldm_feedtype.specs.Parts.{word_length}
use Rattle.ldm_feedtype.proofs.Texts.{read_on-word}
use Rattle.ldm_feedtype.proofs.take_part.Goals as goal

-- the rest of a text, as the code cuts it
rest_whole : (text : List ℕ) (at n : ℕ) → n ≡ word_length (take (length text - at) (drop at text))
    → n ≡ word_length (drop at text)
rest_whole text at n is =
    is ∙ ap word_length (ap (λ (m : ℕ). take m (drop at text)) (sym (length-drop at text)) ∙ take-length (drop at text))

pub returns-in_err-take_word-clause-read : goal.returns-in_err-take_word-clause-read
returns-in_err-take_word-clause-read c =
    let fault = err_from_is_err_and c.from_residual-in_err-take_word.result c.from_residual-in_err-take_word.ensures.1 in
    let next =
    read_on-word c.args.text.now c.args.at c.word_length-length.result (c.args.at + c.word_length-length.result - c.args.at)
    (state_of c.args.reader.now)
    (rest_whole c.args.text.now c.args.at c.word_length-length.result c.word_length-length.ensures.value)
    c.if-length-eq0.false (omega arith) in
    rw (fault.1, fault.2) (next ∙ ap (λ (step : Result State FeedFault). and_then step (read_on c.args.text.now (c.args.at + c.word_length-length.result))) c.in_err-take_word.ensures)

pub returns-clause-read : goal.returns-clause-read
returns-clause-read c =
    let next =
    read_on-word c.args.text.now c.args.at c.word_length-length.result (c.args.at + c.word_length-length.result - c.args.at)
    (state_of c.args.reader.now)
    (rest_whole c.args.text.now c.args.at c.word_length-length.result c.word_length-length.ensures.value)
    c.if-length-eq0.false (omega arith) in
    next ∙ ap (λ (step : Result State FeedFault). and_then step (read_on c.args.text.now (c.args.at + c.word_length-length.result))) c.in_ok-take_word.ensures
