-- What contracts see of whom code serves.
use Rattle.std.specs.Prelude.{◌≡◌, ℕ, true, List, Option, IfSome}
use Rattle.ldm_class.specs.Rules.{Rules, rules_for}
use Rattle.ldm_class.specs.HostRules.{HostRules}
use Rattle.ldm_serve.specs.Client.{Client}
use Rattle.ldm_serve.specs.declared.client.Client.TheInside.{Inside}

-- The rules of access, the host, and the arena of the queue.
pub record ClientView : Type 0 where
  pub rules : Rules
  pub host : List ℕ
  pub arena : ℕ

abbrev pub client_of : Inside → ClientView
client_of s = record { rules = s.policy.now; host = s.host.now; arena = s.arena }

-- what is kept of the ACCEPT rules is that of these rules and this host
abbrev pub IsKeptOf : Option HostRules → Rules → List ℕ → Type 0
IsKeptOf kept rules host = IfSome kept (λ pushing. pushing ≡ record { rules = rules_for true rules; host = host })

abbrev pub KeepsRules : Inside → Type 0
KeepsRules s = IsKeptOf s.pushing s.policy.now s.host.now

-- who is served, where that actor calls the queue
abbrev pub client_by : ClientView → ℕ → Client
client_by view actor = record { rules = view.rules; host = view.host; actor = actor; arena = view.arena }
