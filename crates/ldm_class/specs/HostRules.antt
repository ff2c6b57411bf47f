-- What contracts see of a `HostPolicy`.
use Rattle.std.specs.Prelude.{ℕ, List}
use Rattle.ldm_class.specs.Rules.{Rule}

-- the rules that questions are put to, and the host that they are about
pub record HostRules : Type 0 where
  pub rules : List Rule
  pub host : List ℕ
