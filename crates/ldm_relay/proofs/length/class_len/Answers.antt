use Rattle.std.proofs.Common.{rules, ◌≡◌, ◌+◌, length, get_or, take, sym, ap, subst, ◌∙◌, List, arith}
use Rattle.std.proofs.lemmas.List.{take_all}
use Rattle.std.proofs.lemmas.List.Elements.{All-more, All-same, recursion_from_All}
use Rattle.std.specs.List.{flat_map}
use Rattle.ldm_types.specs.declared.class.Spec.{Spec}
use Rattle.ldm_relay.specs.Fits.{SpecFits}
use Rattle.ldm_relay.specs.Spelling.{spec_bytes}
use Rattle.ldm_relay.proofs.Lengths.{one_more_spec, length_class}
use Rattle.ldm_relay.proofs.length.class_len.Goals as goal

pub loop-spec-preserved : goal.loop-spec-preserved
loop-spec-preserved c =
    let specs = c.as_slice-spec-items.result.now in
    let more = one_more_spec specs c.loop-spec.spec-index c.spec-item.result c.loop-spec-test.true in
    let item : length c.spec-item.result.pattern.items ≡ length (get_or specs c.loop-spec.spec-index c.spec-item.result).pattern.items = ap (λ (spec : Spec). length spec.pattern.items) c.spec-item.is in
    record {
      value = omega (arith, more, item, c.spec_len-len.ensures.value, c.loop-spec.invariant.value);
      bound = omega (arith, c.spec_len-len.ensures.bound, c.loop-spec.invariant.bound);
      each = All-more SpecFits specs c.loop-spec.spec-index c.spec-item.result c.loop-spec-test.true c.loop-spec.invariant.each (subst SpecFits c.spec-item.is c.spec_len-len.ensures.fits);
    }

pub returns-clause-value : goal.returns-clause-value
returns-clause-value c =
    let specs = c.as_slice-spec-items.result.now in
    let all : take c.loop-spec.spec-index specs ≡ c.args.class.now.specs.items = take_all c.loop-spec.spec-index specs c.loop-spec-test.false ∙ c.as_slice-spec-items.ensures.value in
    c.loop-spec.invariant.value ∙ ap (λ (xs : List Spec). 20 + length (flat_map spec_bytes xs)) all ∙ sym (length_class c.args.class.now)

pub returns-clause-fits : goal.returns-clause-fits
returns-clause-fits c =
    let specs = c.as_slice-spec-items.result.now in
    let all : take c.loop-spec.spec-index specs ≡ c.args.class.now.specs.items = take_all c.loop-spec.spec-index specs c.loop-spec-test.false ∙ c.as_slice-spec-items.ensures.value in
    record {
      from = search rules;
      to = search rules;
      few = search rules;
      each = recursion_from_All SpecFits c.args.class.now.specs.items (All-same SpecFits c.args.class.now.specs.items (take c.loop-spec.spec-index specs) (sym all) c.loop-spec.invariant.each);
    }
