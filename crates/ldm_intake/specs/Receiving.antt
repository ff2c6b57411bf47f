-- Where a receiving stands between two records.
use Rattle.std.specs.Prelude.{ℕ, ◌-◌, ◌*◌, Bool, true, ◌&&◌, List, Option, Some, None}
use Rattle.ldm_types.specs.Info.{Metadata}
use Rattle.ldm_types.specs.declared.class.ClassSpec.{ClassSpec}
use Rattle.ldm_relay.specs.declared.message.TheConstants.{LARGEST_BLOCK}
use Rattle.ldm_class.specs.HostRules.{HostRules}
use Rattle.ldm_class.specs.Access.{is_yes, verdict}
use Rattle.ldm_class.specs.Classes.{wants}
use Rattle.ldm_intake.specs.declared.phase.Phase.{Phase}
use Rattle.ldm_intake.specs.declared.phase.Pending.{Pending}

-- Which products are wanted: the class in force and, on a connection that began with HIYA, the ACCEPT rules and the host.
pub record Wanting : Type 0 where
  pub class : ClassSpec
  pub policy : Option HostRules

pub record Receiving : Type 0 where
  pub wanting : Wanting
  -- the size of the largest product that is to come whole, which a FEEDME asks for
  pub max_hereis : ℕ
  pub phase : Phase
  -- the product that was announced and answered OK, while blocks of it are to come
  pub pending : Option Pending
  -- the signature of the last product that was offered to the queue or declined
  pub last : Option (List ℕ)

-- whether the peer may push a product
abbrev pub may_push : Option HostRules → Metadata → Bool
may_push None info = true
may_push (Some policy) info = is_yes (verdict policy.rules policy.host info)

abbrev pub is_wanted : Wanting → Metadata → Bool
is_wanted wanting info = wants wanting.class info && may_push wanting.policy info

-- how many bytes of a pending product are to come
abbrev pub left_of : Pending → ℕ
left_of pending = pending.info.size - pending.blocks * LARGEST_BLOCK

-- the product was offered to the queue or declined
abbrev pub with_last : Receiving → Metadata → Receiving
with_last s info = record s { pending = None; last = Some info.signature }
