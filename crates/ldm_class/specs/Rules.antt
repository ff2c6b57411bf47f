-- The rules of a policy. Each comes from a line of ldmd.conf.
use Rattle.std.specs.Prelude.{ℕ, Bool, List, [], ◌∷◌, ◌++◌, Option, Some, None, if◌then◌else◌}

pub record Rule : Type 0 where
  -- a set of feedtypes, as a number whose bits are the members
  pub feed : ℕ
  -- the pattern that is to be found in the host's name, if there is one
  pub host : Option (List ℕ)
  -- the pattern that is to be found in the ident, if there is one
  pub ok : Option (List ℕ)
  -- the pattern that is not to be found in the ident, if there is one
  pub not : Option (List ℕ)

-- the rules of ALLOW lines, which say who may be fed what, and those of ACCEPT lines, which say who may push what, each in order
pub record Rules : Type 0 where
  pub allow : List Rule
  pub accept : List Rule

-- no rules
abbrev pub no_rules : Rules
no_rules = record { allow = []; accept = [] }

-- the rule that is about each host and lets each product pass whose feedtypes are not the empty set
abbrev pub open_rule : Rule
open_rule = record { feed = 0xffff_ffff; host = None; ok = None; not = None }

-- the rule of the line `ALLOW feed host [ok [not]]`
abbrev pub allow_rule : ℕ → List ℕ → Option (List ℕ) → Option (List ℕ) → Rule
allow_rule feed host ok not = record { feed = feed; host = Some host; ok = ok; not = not }

-- the rule of the line `ACCEPT feed pattern host`
abbrev pub accept_rule : ℕ → List ℕ → List ℕ → Rule
accept_rule feed pattern host = record { feed = feed; host = Some host; ok = Some pattern; not = None }

-- one ALLOW rule more
abbrev pub with_allow : Rules → Rule → Rules
with_allow rules rule = record rules { allow = rules.allow ++ rule ∷ [] }

-- one ACCEPT rule more
abbrev pub with_accept : Rules → Rule → Rules
with_accept rules rule = record rules { accept = rules.accept ++ rule ∷ [] }

-- the rules that a question is put to: the ACCEPT rules for a push, and else the ALLOW rules
abbrev pub rules_for : Bool → Rules → List Rule
rules_for push rules = if push then rules.accept else rules.allow
