use Rattle.std.proofs.Common.{◌∷◌, [], ◌++◌, arith}
use Rattle.std.proofs.lemmas.List.{length_push}
use Rattle.ldm_answers.proofs.Unspelling.{one_more, too_many}
use Rattle.ldm_answers.proofs.texts.unspell.Goals as goal

pub returns-then-len-most : goal.returns-then-len-most
returns-then-len-most c =
    let text = c.loop-at.text.items in
    let byte = c.in_ok-byte.byte in
    let more = one_more c.args.field.now text c.loop-at.at byte c.in_ok-byte.next c.loop-at.invariant.so_far c.in_ok-byte.ensures.2 in
    too_many c.args.most c.args.field.now (text ++ byte ∷ []) c.in_ok-byte.next more (omega (arith, length_push text byte))

pub loop-at-preserved : goal.loop-at-preserved
loop-at-preserved c =
    let text = c.loop-at.text.items in
    let more = one_more c.args.field.now text c.loop-at.at c.in_ok-byte.byte c.in_ok-byte.next c.loop-at.invariant.so_far c.in_ok-byte.ensures.2 in
    record { within = c.in_ok-byte.ensures.1; short = omega arith; so_far = rw c.push.ensures.items more }
