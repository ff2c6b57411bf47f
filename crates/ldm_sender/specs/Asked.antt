-- What the sending end of a session is asked, and by whose rules.
use Rattle.std.specs.Prelude.{◌≡◌, ℕ, List, false}
use Rattle.ldm_types.specs.declared.class.ClassSpec.{ClassSpec}
use Rattle.ldm_class.specs.HostRules.{HostRules}
use Rattle.ldm_class.specs.Rules.{Rule, Rules, rules_for}
use Rattle.ldm_relay.specs.declared.message.Feedme.{Feedme}

pub record Asked : Type 0 where
  -- who asks
  pub host : List ℕ
  -- the ALLOW rules
  pub rules : List Rule
  -- the number of the call that asks
  pub xid : ℕ
  pub class : ClassSpec
  -- the size of the largest product that is to come whole; who asks for notices asks for none, and this is 0
  pub max_hereis : ℕ

abbrev pub asked_of : List ℕ → Rules → Feedme → Asked
asked_of host rules ask =
    record { host = host; rules = rules_for false rules; xid = ask.xid; class = ask.class; max_hereis = ask.max_hereis }

-- It is asked for this class, by this host and under these rules.
pub record IsAskedOf (asked : Asked) (class : ClassSpec) (rules : HostRules) : Type 0 where
  pub class_is : asked.class ≡ class
  pub rules_are : asked.rules ≡ rules.rules
  pub host_is : asked.host ≡ rules.host
