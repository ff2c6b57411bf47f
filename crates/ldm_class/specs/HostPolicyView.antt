-- What a `HostPolicy` keeps.
use Rattle.std.specs.Prelude.{◌≡◌}
use Rattle.ldm_class.specs.HostRules.{HostRules}
use Rattle.ldm_class.specs.KeptRules.{rules_about}
use Rattle.ldm_class.specs.declared.host_policy.HostPolicy.TheInside.{Inside}

abbrev pub host_rules_of : Inside → HostRules
host_rules_of policy = record { rules = policy.rules.now; host = policy.host.items }

-- of all rules, those that are about the host
abbrev pub KeepsRules : Inside → Type 0
KeepsRules policy = policy.kept.items ≡ rules_about policy.host.items 1 policy.rules.now
