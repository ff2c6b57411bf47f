-- Why not each node was fed, in terms of the classes that the nodes ask for and of the rules.
use Rattle.std.specs.Prelude.{◌≡◌, ℕ, ◌+◌, false, Some, IsSome, slice_get}
use Rattle.ldm_types.specs.declared.class.ClassSpec.{ClassSpec}
use Rattle.ldm_class.specs.Access.{reduce}
use Rattle.ldm_class.specs.Classes.{bad_place}
use Rattle.ldm_class.specs.Rules.{Rules, rules_for}
use Rattle.ldm_class.specs.declared.answers.Reduced.TheVariants.{Fewer, Nothing}
use Rattle.ldm_relay.specs.declared.message.ClassAnswer.{ClassAnswer}
use Rattle.ldm_relay.specs.declared.message.ClassAnswer.TheVariants as class_answer
use Rattle.ldm_intake.specs.declared.end.RecvEnd.{RecvEnd}
use Rattle.ldm_intake.specs.declared.end.RecvEnd.TheVariants as received
use Rattle.ldm_sender.specs.declared.end.SendEnd.{SendEnd}
use Rattle.ldm_sender.specs.declared.end.SendEnd.TheVariants as fed
use Rattle.ldm_chain.specs.declared.node.ChainEnd.{ChainEnd}
use Rattle.ldm_chain.specs.declared.node.ChainEnd.TheVariants as chain_end
use Rattle.ldm_chain.specs.Linking.{host_name}
use Rattle.ldm_chain.specs.Work.{ChainWork}

-- the node of that number asks for the class
abbrev pub AsksFor : ChainWork → ℕ → ClassSpec → Type 0
AsksFor work node class = (at : ℕ) × (node ≡ at + 1) × (slice_get work.classes at ≡ Some class)

-- The rules leave a node nothing of its class.
pub record LeavesNothing (rules : Rules) (work : ChainWork) : Type 0 where
  pub node : ℕ
  pub class : ClassSpec
  pub asks : AsksFor work node class
  pub rule : ℕ
  pub left : reduce (rules_for false rules) (host_name node) class ≡ Nothing rule

-- The rules leave a node a part of its class, and a pattern in it means nothing.
pub record LeavesUnmeant (rules : Rules) (work : ChainWork) : Type 0 where
  pub node : ℕ
  pub class : ClassSpec
  pub asks : AsksFor work node class
  pub fewer : ClassSpec
  pub left : reduce (rules_for false rules) (host_name node) class ≡ Fewer fewer
  pub bad : IsSome (bad_place fewer.specs.items)

-- the feeder of a node ended so; its queue has calls left
abbrev pub FeedCause : SendEnd → Type 0
FeedCause fed.OutOfMemory = Unit {0}
FeedCause _ = ⊥

-- the request of the node of that number was declined by this answer; a node finds a cursor place
abbrev pub RefusedCause : ClassAnswer → Rules → ChainWork → ℕ → Type 0
RefusedCause class_answer.Denied rules work node = (cause : LeavesNothing rules work) × (cause.node ≡ node)
RefusedCause _ rules work node = ⊥

-- its receiver ended so
abbrev pub ReceiveCause : RecvEnd → Rules → ChainWork → ℕ → Type 0
ReceiveCause (received.Refused answer) rules work node = RefusedCause answer rules work node
ReceiveCause (received.BadFrame at) rules work node = (cause : LeavesUnmeant rules work) × (cause.node ≡ node)
ReceiveCause _ rules work node = ⊥

-- that node was not fed, and it ended so
abbrev pub UnfedCause : ChainEnd → Rules → ChainWork → ℕ → Type 0
UnfedCause chain_end.Done rules work node = ⊥
UnfedCause (chain_end.Feed end) rules work node = FeedCause end
UnfedCause (chain_end.Receive end) rules work node = ReceiveCause end rules work node
UnfedCause chain_end.OutOfMemory rules work node = Unit {0}
