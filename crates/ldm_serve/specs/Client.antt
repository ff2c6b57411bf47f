-- Who is served.
use Rattle.std.specs.Prelude.{ℕ, List}
use Rattle.ldm_class.specs.Rules.{Rules}

-- Who is served: the rules of access, the host, the actor that calls the queue for it, and the arena of that queue.
pub record Client : Type 0 where
  pub rules : Rules
  pub host : List ℕ
  pub actor : ℕ
  pub arena : ℕ
