-- What a contract sees of a `Policy`.
use Rattle.ldm_class.specs.Rules.{Rules}
use Rattle.ldm_class.specs.declared.policy.Policy.TheInside.{Inside}

abbrev pub rules_of : Inside → Rules
rules_of policy = record { allow = policy.allow.items; accept = policy.accept.items }
