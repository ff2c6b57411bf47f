use Rattle.std.proofs.Common.{sym, ◌∙◌, arith, replicate}
use Rattle.ldm_script.proofs.Appending.{length-digits, read_back-digits, length-body_text-some, read_back-fill}
use Rattle.std.proofs.lemmas.List.{length-replicate}
use Rattle.ldm_script.proofs.write.append_body.Goals as goal

pub append_digits-requires-clause-room : goal.append_digits-requires-clause-room
append_digits-requires-clause-room c =
    let size = rw c.in-Hex.is at c.requires.size in
    let room = rw c.in-Hex.is at c.requires.room in
    let len = length-digits c.in-Hex.digits.now (λ none. c.if-size-eq0.false (sym size ∙ none)) in
    omega arith

pub append_fill-requires : goal.append_fill-requires
append_fill-requires c =
    let size = rw c.in-Fill.is at c.requires.size in
    let room = rw c.in-Fill.is at c.requires.room in
    let len = length-body_text-some (replicate c.in-Fill.count c.in-Fill.byte) (λ none. c.if-size-eq0.false (sym size ∙ none)) in
    let count = length-replicate c.in-Fill.count c.in-Fill.byte in
    omega arith

pub returns-in-Hex-clause-read_back : goal.returns-in-Hex-clause-read_back
returns-in-Hex-clause-read_back c =
    let size = rw c.in-Hex.is at c.requires.size in
    rw c.in-Hex.is (read_back-digits c.in-Hex.digits.now (λ none. c.if-size-eq0.false (sym size ∙ none)))

pub returns-in-Fill-clause-read_back : goal.returns-in-Fill-clause-read_back
returns-in-Fill-clause-read_back c = rw c.in-Fill.is (read_back-fill c.in-Fill.count c.in-Fill.byte c.append_fill.ensures.byte)
