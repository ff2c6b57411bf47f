use Rattle.std.proofs.Common.{◌≡◌, drop, false, None, Some, sym, ◌∙◌}
use Rattle.std.proofs.lemmas.List.{take_rest}
use Rattle.std.specs.Prelude.{MatchOption}
use Rattle.ldm_text.specs.Words.{Between, Quoted, HasWord, none_left, words_from, words_of}
use Rattle.ldm_text.proofs.Wording.{begins_quoted, front_quoted, plain_word}
use Rattle.ldm_text.proofs.words.first_word.Goals as goal

pub returns-then-begins_with : goal.returns-then-begins_with
returns-then-begins_with c =
    let comments = c.args.comments in
    let text = c.args.text.now in
    let quote = sym c.begins_with.ensures ∙ c.if-begins_with.true in
    elim c.quoted_word.result as (λ o. MatchOption o (words_from comments Quoted (drop 1 text) ≡ none_left false) (λ found. HasWord comments Quoted (drop 1 text) found.0.now found.1.now) →
    MatchOption o (words_of comments text ≡ none_left false) (λ found. HasWord comments Between text found.0.now found.1.now)) [
      | None ↦ λ none. begins_quoted comments text quote ∙ none
      | Some found ↦ λ is. front_quoted comments text found.0.now found.1.now quote is
    ] (rw take_rest at c.quoted_word.ensures)

pub returns : goal.returns
returns c =
    rw (take_rest, c.place_of_blank-end.ensures.place)
    (plain_word c.args.comments c.args.text.now c.requires.some c.requires.begins (sym c.begins_with.ensures ∙ c.if-begins_with.false))
