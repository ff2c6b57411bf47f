use Rattle.std.proofs.Common.{◌≡◌, ℕ, ◌+◌, ◌-◌, take, drop, Ok, sym, ap, ◌∙◌, arith}
use Rattle.hex.specs.Hex.{decode_sized}
use Rattle.ldm_answers.proofs.Unspelling.{ok_of, short_at, escape_found}
use Rattle.ldm_answers.proofs.texts.byte_at.Goals as goal

pub returns-then-field-at-lt3 : goal.returns-then-field-at-lt3
returns-then-field-at-lt3 c = short_at c.args.field.now c.args.at c.requires (omega arith) c.if-field-at-ne37.false

pub returns : goal.returns
returns c =
    let field = c.args.field.now in
    let at = c.args.at in
    let two : at + 3 - (at + 1) ≡ 2 = omega arith in
    let read : decode_sized (take 2 (drop (at + 1) field)) 1 ≡ Ok c.in_ok-byte.field-0 =
    ap (λ (k : ℕ). decode_sized (take k (drop (at + 1) field)) 1) (sym two) ∙ sym c.from_hex.ensures
    ∙ ok_of c.from_hex.result c.in_ok-byte.field-0 (sym c.ok.ensures.value ∙ c.in_ok-byte.was) in
    (omega arith, omega arith, escape_found field at c.in_ok-byte.field-0 (omega arith) c.if-field-at-ne37.false read)
