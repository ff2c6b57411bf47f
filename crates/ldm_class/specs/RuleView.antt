-- What a contract sees of a `Rule`.
use Rattle.ldm_class.specs.Rules.{Rule}
use Rattle.ldm_class.specs.declared.rule.Rule.TheInside.{Inside}

abbrev pub rule_of : Inside → Rule
rule_of rule = record { feed = rule.feed.0; host = rule.host; ok = rule.ok; not = rule.not }
