use Rattle.std.proofs.Common.{rules, ◌≡◌, take, sym, subst, ◌∙◌}
use Rattle.std.proofs.lemmas.List.{take_all}
use Rattle.std.proofs.lemmas.List.Elements.{All-more, All-same, recursion_from_All}
use Rattle.ldm_relay.specs.Fits.{SpecFits}
use Rattle.ldm_chain.proofs.writable.class_fits.Goals as goal

pub loop-spec-preserved : goal.loop-spec-preserved
loop-spec-preserved c =
    All-more SpecFits c.as_slice-spec-items.result.now c.loop-spec.spec-index c.spec-item.result c.loop-spec-test.true c.loop-spec.invariant
    (subst SpecFits c.spec-item.is c.spec_fits.ensures)

pub returns : goal.returns
returns c =
    let specs = c.as_slice-spec-items.result.now in
    let all : take c.loop-spec.spec-index specs ≡ c.args.class.now.specs.items = take_all c.loop-spec.spec-index specs c.loop-spec-test.false ∙ c.as_slice-spec-items.ensures.value in
    record {
      from = search rules;
      to = search rules;
      few = search rules;
      each = recursion_from_All SpecFits c.args.class.now.specs.items (All-same SpecFits c.args.class.now.specs.items (take c.loop-spec.spec-index specs) (sym all) c.loop-spec.invariant);
    }
