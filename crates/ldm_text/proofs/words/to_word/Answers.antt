use Rattle.std.proofs.Common.{◌≡◌, ◌∙◌, true, drop, sym}
use Rattle.std.proofs.lemmas.List.{take_rest}
use Rattle.std.specs.List.{prefix_len}
use Rattle.ldm_text.specs.Blanks.{is_blank}
use Rattle.ldm_text.specs.Words.{begins_in_comment}
use Rattle.ldm_text.proofs.Wording.{begins, comment, nothing, nothing_begins, skip}
use Rattle.ldm_text.proofs.words.to_word.Goals as goal

pub returns-then-begins_in_comment-clause-words : goal.returns-then-begins_in_comment-clause-words
returns-then-begins_in_comment-clause-words c =
    let comments = c.args.comments in
    let text = c.args.text.now in
    let starts : begins_in_comment comments (drop (prefix_len is_blank text) text) ≡ true = rw (take_rest, c.count_blanks.ensures.count) at (sym c.begins_in_comment.ensures ∙ c.if-begins_in_comment.true) in
    nothing comments ∙ sym (comment comments (drop (prefix_len is_blank text) text) starts) ∙ skip comments text

pub returns-then-begins_in_comment-clause-begins : goal.returns-then-begins_in_comment-clause-begins
returns-then-begins_in_comment-clause-begins c = nothing_begins c.args.comments

pub returns-clause-words : goal.returns-clause-words
returns-clause-words c = rw (take_rest, c.count_blanks.ensures.count) (skip c.args.comments c.args.text.now)

pub returns-clause-begins : goal.returns-clause-begins
returns-clause-begins c =
    rw (take_rest, c.count_blanks.ensures.count)
    (begins c.args.comments c.args.text.now (rw (take_rest, c.count_blanks.ensures.count) at (sym c.begins_in_comment.ensures ∙ c.if-begins_in_comment.false)))
