use Rattle.std.proofs.Common.{◌≡◌, ◌∙◌, true, sym}
use Rattle.ldm_text.specs.Words.{words_of}
use Rattle.ldm_text.specs.declared.words.Comments.TheVariants.{Hash}
use Rattle.ldm_text.proofs.CallerLemmas.{no_word}
use Rattle.ldm_conf.specs.Kept.{lent}
use Rattle.ldm_conf.specs.Lines.{without_return}
use Rattle.ldm_conf.proofs.Parsing.{bad, blank, by_keyword, no_keyword, wrong}
use Rattle.ldm_conf.proofs.parse.read_statement.Goals as goal

pub returns-then-is_empty : goal.returns-then-is_empty
returns-then-is_empty c =
    let same : words_of Hash (without_return c.args.line.now) ≡ words_of Hash c.to_word-text.result.now = rw c.without_return.ensures at (sym c.to_word-text.ensures.words) in
    blank c.args.line.now (same ∙ no_word Hash c.to_word-text.result.now (sym c.is_empty.ensures ∙ c.if-is_empty.true))

pub returns-in_default : goal.returns-in_default
returns-in_default c =
    let same : words_of Hash (without_return c.args.line.now) ≡ words_of Hash c.to_word-text.result.now = rw c.without_return.ensures at (sym c.to_word-text.ensures.words) in
    wrong c.args.line.now (same ∙ c.in_default.ensures)

pub returns-in_default-of_name : goal.returns-in_default-of_name
returns-in_default-of_name c =
    let same : words_of Hash (without_return c.args.line.now) ≡ words_of Hash c.to_word-text.result.now = rw c.without_return.ensures at (sym c.to_word-text.ensures.words) in
    no_keyword c.args.line.now c.in-Some.keyword.now (words_of Hash c.in-Some.behind.now) (same ∙ c.in-Some.ensures.words) (sym c.in_default-of_name.ensures)

pub returns-in_default-read_words : goal.returns-in_default-read_words
returns-in_default-read_words c =
    let same : words_of Hash (without_return c.args.line.now) ≡ words_of Hash c.to_word-text.result.now = rw c.without_return.ensures at (sym c.to_word-text.ensures.words) in
    let behind = words_of Hash c.in-Some.behind.now in
    by_keyword c.args.line.now c.in-Some.keyword.now behind (same ∙ c.in-Some.ensures.words) c.in-Some-of_name.keyword (sym c.in-Some-of_name.ensures)
    ∙ bad c.in-Some-of_name.keyword behind c.in_default-read_words.ensures

pub returns : goal.returns
returns c =
    let same : words_of Hash (without_return c.args.line.now) ≡ words_of Hash c.to_word-text.result.now = rw c.without_return.ensures at (sym c.to_word-text.ensures.words) in
    let read : words_of Hash c.in-Some.behind.now ≡ record { words = lent c.in-Ok.words.items; sound = true } = c.in-Ok.ensures in
    let meaning = rw read at (by_keyword c.args.line.now c.in-Some.keyword.now (words_of Hash c.in-Some.behind.now) (same ∙ c.in-Some.ensures.words) c.in-Some-of_name.keyword (sym c.in-Some-of_name.ensures)) in
    rw meaning (rw c.as_slice.ensures.value at c.read_words_of.ensures)
