use Rattle.std.proofs.Common.{◌∙◌, sym}
use Rattle.ldm_conf.proofs.Ports.{digits_are_text, port_is, parsed, some_port}
use Rattle.ldm_conf.proofs.addresses.read_port.Goals as goal

pub returns-in-Ok : goal.returns-in-Ok
returns-in-Ok c =
    let no_zero = sym c.begins_with_zero.ensures ∙ c.if-begins_with_zero.false in
    let digits = sym c.are_digits.ensures ∙ c.if-not-are_digits.false in
    let value = c.ok.ensures.value ∙ port_is c.args.text.now c.parse.result no_zero digits (parsed c.args.text.now c.parse.result digits (rw c.in-Ok.ensures.cases.0 at c.parse.ensures.value.0)) in
    record { value = value; some = rw value (some_port c.args.text.now) }

pub returns-in-Err : goal.returns-in-Err
returns-in-Err c =
    let digits = sym c.are_digits.ensures ∙ c.if-not-are_digits.false in
    absurd (c.in-Err.ensures.cases.0 (digits_are_text c.args.text.now digits))
