use Rattle.std.proofs.Common.{◌∙◌, Some, sym, ap}
use Rattle.std.specs.BTreeMap.{is_at}
use Rattle.std.specs.Ordering.{nat_cmp}
use Rattle.std.proofs.lemmas.Map.Steps.{set_value_same}
use Rattle.ldm_outside.specs.Launcher.{Running}
use Rattle.ldm_adapters.proofs.children.close_input.Goals as goal

pub returns-in-Some : goal.returns-in-Some
returns-in-Some c =
    (c.get_mut.follows.holds c.close_input.new.self).0
    ∙ set_value_same (is_at (nat_cmp c.args.child.0)) c.args.children.now.entries c.close_input.new.self
    (sym c.in-Some.ensures.value ∙ ap (λ (it : Running). Some it) (sym c.close_input.ensures))
