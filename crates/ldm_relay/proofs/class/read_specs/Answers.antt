use Rattle.std.proofs.Common.{◌∷◌, [], arith}
use Rattle.std.proofs.lemmas.Result.{err_from_is_err_and}
use Rattle.std.proofs.lemmas.List.{length-append}
use Rattle.std.proofs.lemmas.List.Elements.{All-push, recursion_from_All}
use Rattle.ldm_relay.specs.Classes.{specs_in}
use Rattle.ldm_relay.specs.Fits.{SpecFits}
use Rattle.ldm_relay.proofs.Specs.{goes_on, stops, is_done}
use Rattle.ldm_relay.proofs.class.read_specs.Goals as goal

pub returns-in_err-spec-clause-read : goal.returns-in_err-spec-clause-read
returns-in_err-spec-clause-read c =
    let p = err_from_is_err_and c.from_residual.result c.from_residual.ensures.1 in
    rw (p.1, p.2) (stops c.loop.specs.items c.args.count c.loop.counter c.loop.fields c.in_err-spec.field-0.0 (specs_in c.args.count c.args.fields.now) c.loop-test.true c.in_err-spec.ensures.read c.loop.invariant.read)

pub loop-preserved : goal.loop-preserved
loop-preserved c =
    let spec = c.in_ok-spec.spec in
    record {
      read = rw c.push.ensures.items (goes_on c.loop.specs.items c.args.count c.loop.counter c.loop.fields spec c.read_spec.new.fields (specs_in c.args.count c.args.fields.now) c.loop-test.true c.in_ok-spec.ensures.read c.loop.invariant.read);
      len = rw c.push.ensures.items (omega (arith, length-append c.loop.specs.items (spec ∷ []), c.loop.invariant.len));
      each = rw c.push.ensures.items (All-push SpecFits c.loop.specs.items spec c.loop.invariant.each c.in_ok-spec.ensures.fits);
    }

pub returns-clause-fits : goal.returns-clause-fits
returns-clause-fits c = recursion_from_All SpecFits c.loop.specs.items c.loop.invariant.each

pub returns-clause-read : goal.returns-clause-read
returns-clause-read c = is_done c.loop.specs.items c.args.count c.loop.counter c.loop.fields (specs_in c.args.count c.args.fields.now) c.loop-test.false c.loop.invariant.read
