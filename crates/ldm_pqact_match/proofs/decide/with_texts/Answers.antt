use Rattle.std.proofs.Common.{◌∙◌, sym, refl, map, string_bytes}
use Rattle.std.proofs.lemmas.List.{length-map}
use Rattle.ldm_pqact_match.proofs.Utf8Words.{all_taken, first_bad, no_bad, taken}
use Rattle.ldm_pqact_match.proofs.decide.with_texts.Goals as goal

pub returns-in_default : goal.returns-in_default
returns-in_default c =
    let inv = c.loop-text.invariant in
    let all = rw c.in-Some.ensures.steps.0 at inv.0 in
    let words = map string_bytes c.loop-text.words.items in
    let place = first_bad words c.in-Some.text c.next.new.self.rest.items inv.1 c.in_default.ensures.value in
    rw (c.place_number.ensures, c.len.ensures, c.loop-text.words.ok.0, ← all, place, length-map c.loop-text.words.items string_bytes) refl

pub loop-text-preserved : goal.loop-text-preserved
loop-text-preserved c =
    let inv = c.loop-text.invariant in
    let all = rw c.in-Some.ensures.steps.0 at inv.0 in
    let word = c.in-Some-into_word.ensures in
    taken string_bytes c.loop-text.words.items c.push.new.self.items c.in-Some-into_word.word c.in-Some.text c.next.new.self.rest.items c.args.texts.items
    c.in_ok-push.ensures.items word.value all inv.1 word.text

pub returns : goal.returns
returns c =
    let inv = c.loop-text.invariant in
    let rest = c.loop-text.text-iterator.rest in
    let all = all_taken (map string_bytes c.loop-text.words.items) rest.items c.args.texts.items inv.0 (sym rest.ok.0 ∙ c.in-None.ensures.steps.0) in
    rw (all, no_bad (map string_bytes c.loop-text.words.items) inv.1, c.action.ensures, c.options.ensures) refl
