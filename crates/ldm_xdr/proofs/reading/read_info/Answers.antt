use Rattle.std.proofs.Common.{◌∙◌, sym, arith}
use Rattle.std.proofs.lemmas.Result.{IfOk-weaker}
use Rattle.ldm_xdr.proofs.Whole.{was_found, length-spelling, front_again}
use Rattle.ldm_xdr.proofs.reading.read_info.Goals as goal

pub returns-clause-found : goal.returns-clause-found
returns-clause-found c = IfOk-weaker c.read_front.result _ _ (λ x h. h.begins) (was_found c.args.bytes.now c.read_front.result (λ i. omega (arith, c.type_inv.bytes i)) c.read_front.ensures)

pub returns-clause-len : goal.returns-clause-len
returns-clause-len c = IfOk-weaker c.read_front.result _ _ (λ x h. (h.len_is, h.len_is ∙ sym (length-spelling x.0 h.fits.signature), h.within))
    (was_found c.args.bytes.now c.read_front.result (λ i. omega (arith, c.type_inv.bytes i)) c.read_front.ensures)

pub returns-clause-fits : goal.returns-clause-fits
returns-clause-fits c = IfOk-weaker c.read_front.result _ _ (λ x h. (h.fits, h.are_bytes))
    (was_found c.args.bytes.now c.read_front.result (λ i. omega (arith, c.type_inv.bytes i)) c.read_front.ensures)

pub returns-clause-only : goal.returns-clause-only
returns-clause-only c info rest fits e = c.read_front.ensures ∙ front_again c.args.bytes.now info rest fits e
