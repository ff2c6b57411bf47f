-- Why a chain ended before each node was fed: the cause of each end, at the node that it came from.
use Rattle.std.specs.Prelude.{◌≡◌, ℕ, ◌+◌, ◌*◌, ◌≤◌, true, List, [], ◌∷◌, ◌++◌, length, IsSome, is_some}
use Rattle.std.specs.List.{list_all}
use Rattle.ldm_types.specs.declared.class.ClassSpec.{ClassSpec}
use Rattle.ldm_types.specs.declared.feed.Feed.{Feed}
use Rattle.ldm_model.specs.declared.event.Start.{Start}
use Rattle.ldm_model.specs.declared.event.Event.TheVariants.{OpenCursor}
use Rattle.ldm_model.specs.declared.event.Reply.TheVariants.{AllBusy}
use Rattle.ldm_model.specs.declared.event.Entry.{Entry}
use Rattle.ldm_model.specs.State.{State}
use Rattle.ldm_model.specs.History.{IsLegal}
use Rattle.ldm_class.specs.Access.{reduce}
use Rattle.ldm_class.specs.Classes.{bad_place}
use Rattle.ldm_class.specs.Rules.{Rules}
use Rattle.ldm_class.specs.declared.answers.Reduced.TheVariants.{Fewer, Nothing}
use Rattle.ldm_relay.specs.declared.message.ClassAnswer.{ClassAnswer}
use Rattle.ldm_relay.specs.declared.message.ClassAnswer.TheVariants as class_answer
use Rattle.ldm_shared.specs.declared.steps.TheConstants.{MOST_TURNS}
use Rattle.ldm_shared.specs.Passes.{PassView}
use Rattle.ldm_intake.specs.declared.end.RecvEnd.{RecvEnd}
use Rattle.ldm_intake.specs.declared.end.RecvEnd.TheVariants as receive
use Rattle.ldm_sender.specs.declared.end.SendEnd.{SendEnd}
use Rattle.ldm_sender.specs.declared.end.SendEnd.TheVariants as feed
use Rattle.ldm_sender.specs.Asked.{Asked}
use Rattle.ldm_session.specs.declared.limits.TheConstants.{LONGEST_STREAM}
use Rattle.ldm_between_ends.specs.Counts.{most_fed}
use Rattle.ldm_between_ends.specs.OnePass.{state_of}
use Rattle.ldm_chain.specs.declared.node.ChainEnd.{ChainEnd}
use Rattle.ldm_chain.specs.declared.node.ChainEnd.TheVariants as chain_end
use Rattle.ldm_chain.specs.declared.node.ChainNode.{ChainNode}
use Rattle.ldm_chain.specs.Linking.{asked_by, host_name}

-- ---- how often a chain calls a queue, at most

-- where it feeds the queue: a record asks for two calls at most, and a mirror takes fewer bytes than a stream may have
abbrev pub most_received : ℕ
most_received = 2 * LONGEST_STREAM + 2

-- and where the next one is fed from it, by a class or by what is left of it
abbrev pub most_called : ℕ → ℕ
most_called slots = most_received + 2 * most_fed 0 slots

-- ---- at one node

-- The queue of a pass has had all the calls that it can have, nearly all of them before the chain began, when the pass stood as `found`.
pub record HadAllCalls (found pass : PassView) : Type 0 where
  pub legal : IsLegal pass.arena pass.slots pass.seen
  pub all : length pass.seen ≡ MOST_TURNS
  pub before : MOST_TURNS ≤ length found.seen + most_called pass.slots

-- each of the 64 cursor places of a queue is taken
abbrev pub AreAllTaken : State → Type 0
AreAllTaken s = list_all is_some s.cursors ≡ true

-- Nothing of what was asked for is left by the rules.
abbrev pub IsDenied : Asked → Type 0
IsDenied asked = (rule : ℕ) × (reduce asked.rules asked.host asked.class ≡ Nothing rule)

-- A part of what was asked for is left by the rules, and a pattern in it means nothing.
pub record MeansNothing (asked : Asked) : Type 0 where
  pub fewer : ClassSpec
  pub left : reduce asked.rules asked.host asked.class ≡ Fewer fewer
  pub bad : IsSome (bad_place fewer.specs.items)

-- A cursor was to be opened in the queue of a pass, and all were taken. They were so before the chain began, when the pass stood as
-- `found`: so the queue is that of the first node.
pub record HadNoCursor (found pass : PassView) : Type 0 where
  pub taken : AreAllTaken (state_of found)
  pub before : List Entry
  pub behind : List Entry
  pub actor : ℕ
  pub feed : Feed
  pub start : Start
  pub all : pass.seen ≡ before ++ record { actor = actor; event = OpenCursor feed start; reply = AllBusy } ∷ behind

-- What a feeding finds of a pass that stood as `found` when the chain began.
pub record StoodSo (found pass : PassView) : Type 0 where
  -- since then it made no more calls than feeding its queue makes
  pub calls : length pass.seen ≤ length found.seen + most_received
  -- where all cursors are taken, they were so then
  pub taken : AreAllTaken (state_of pass) → AreAllTaken (state_of found)

-- `from` is the pass of the node before as the chain left it, and `found` as the chain found it.

-- the feeder ended so
abbrev pub FeedCause : SendEnd → (found from : PassView) → Type 0
FeedCause feed.Worn found from = HadAllCalls found from
FeedCause feed.OutOfMemory found from = Unit {0}
FeedCause _ found from = ⊥

-- the request of the receiver was declined by this answer
abbrev pub RefusedCause : ClassAnswer → Asked → (found from : PassView) → Type 0
RefusedCause class_answer.Denied asked found from = IsDenied asked
RefusedCause class_answer.Busy asked found from = HadNoCursor found from
RefusedCause _ asked found from = ⊥

-- the receiver ended so
abbrev pub ReceiveCause : RecvEnd → Asked → (found from : PassView) → Type 0
ReceiveCause (receive.Refused answer) asked found from = RefusedCause answer asked found from
ReceiveCause (receive.BadFrame at) asked found from = MeansNothing asked
ReceiveCause _ asked found from = ⊥

-- the chain ended so, while this node was fed
abbrev pub CauseAt : ChainEnd → Asked → (found from : PassView) → Type 0
CauseAt chain_end.Done asked found from = ⊥
CauseAt (chain_end.Feed end) asked found from = FeedCause end found from
CauseAt (chain_end.Receive end) asked found from = ReceiveCause end asked found from
CauseAt chain_end.OutOfMemory asked found from = Unit {0}

-- ---- at one of some nodes

-- The chain ended so while a node was fed: that of the last instant. The second of these nodes has that number, and was fed from the first
-- at the first instant; and so on.
abbrev pub CauseEach : ℕ → Rules → ChainEnd → (olds news : List ChainNode) → List ℕ → Type 0
CauseEach i rules end (found ∷ old ∷ olds) (from ∷ new ∷ news) (now ∷ []) =
    CauseAt end (asked_by (host_name i) rules 1 old.class old.max_hereis) found.pass from.pass
CauseEach i rules end (found ∷ old ∷ olds) (from ∷ new ∷ news) (now ∷ next ∷ instants) =
    CauseEach (i + 1) rules end (old ∷ olds) (new ∷ news) (next ∷ instants)
CauseEach i rules end olds news instants = ⊥
