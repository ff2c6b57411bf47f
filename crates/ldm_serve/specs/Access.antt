-- What the rules let a host ask of a server.
use Rattle.std.specs.Prelude.{ℕ, Bool, true, false, List}
use Rattle.std.specs.List.{list_any}
use Rattle.ldm_types.specs.Info.{Metadata}
use Rattle.ldm_class.specs.Access.{is_about, is_yes, verdict}
use Rattle.ldm_class.specs.Rules.{Rules, rules_for}

-- whether a host may push a product: the verdict of the ACCEPT rules
abbrev pub may_push : Rules → List ℕ → Metadata → Bool
may_push rules host info = is_yes (verdict (rules_for true rules) host info)

-- whether a host may know the figures of the queue: some ALLOW rule is about it
abbrev pub may_know : Rules → List ℕ → Bool
may_know rules host = list_any (is_about host) (rules_for false rules)
