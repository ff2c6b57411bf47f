use Rattle.std.proofs.Common.{◌<◌, length, sym, ◌∙◌, arith}
use Rattle.std.proofs.lemmas.List.{take_rest}
use Rattle.ldm_text.proofs.Wording.{open_quote, closed_quote, stuck_quote}
use Rattle.ldm_text.proofs.words.quoted_word.Goals as goal

pub returns-then-end-text : goal.returns-then-end-text
returns-then-end-text c = open_quote c.args.comments c.args.text.now (sym c.place_of-end.ensures.place ∙ c.if-end-text.true)

pub returns-then-may_end : goal.returns-then-may_end
returns-then-may_end c =
    let within : c.place_of-end.result < length c.args.text.now = (let inside = c.place_of-end.ensures.inside in omega arith) in
    let ends = rw take_rest at (sym c.may_end.ensures ∙ c.if-may_end.true) in
    rw (take_rest, c.place_of-end.ensures.place)
    (closed_quote c.args.comments c.args.text.now (rw c.place_of-end.ensures.place at within) (rw c.place_of-end.ensures.place at ends))

pub returns-else-may_end : goal.returns-else-may_end
returns-else-may_end c =
    let within : c.place_of-end.result < length c.args.text.now = (let inside = c.place_of-end.ensures.inside in omega arith) in
    let stuck = rw take_rest at (sym c.may_end.ensures ∙ c.if-may_end.false) in
    stuck_quote c.args.comments c.args.text.now (rw c.place_of-end.ensures.place at within) (rw c.place_of-end.ensures.place at stuck)
