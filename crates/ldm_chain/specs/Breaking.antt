-- What a feeding over a mirror came to where it broke the chain, as plain data: `Causes.antt` says why, in terms of the queues and the rules.
use Rattle.std.specs.Prelude.{◌≡◌, ◌⊎◌, ℕ, ◌+◌, ◌<◌, ◌≤◌, List, [], ◌∷◌, length, Option, Some, None, IsSome}
use Rattle.ldm_types.specs.declared.class.ClassSpec.{ClassSpec}
use Rattle.ldm_types.specs.declared.limits.TheConstants.{LARGEST_ARENA}
use Rattle.ldm_class.specs.Classes.{bad_place}
use Rattle.ldm_class.specs.Rules.{Rules}
use Rattle.ldm_outside.specs.Link.{bytes_sent}
use Rattle.ldm_relay.specs.Fits.{ClassFits}
use Rattle.ldm_shared.specs.Passes.{PassView}
use Rattle.ldm_session.specs.declared.limits.TheConstants.{LONGEST_STREAM}
use Rattle.ldm_intake.specs.declared.end.RecvEnd.{RecvEnd}
use Rattle.ldm_intake.specs.declared.end.RecvEnd.TheVariants.{BadFrame}
use Rattle.ldm_sender.specs.declared.end.SendEnd.{SendEnd}
use Rattle.ldm_sender.specs.declared.end.SendEnd.TheVariants.{Stopped, Reclassed}
use Rattle.ldm_sender.specs.Asked.{Asked}
use Rattle.ldm_downstream.specs.Receives.{at_first}
use Rattle.ldm_chain.specs.declared.node.Break.{Break}
use Rattle.ldm_chain.specs.declared.node.Break.TheVariants as broken
use Rattle.ldm_chain.specs.declared.node.ChainEnd.{ChainEnd}
use Rattle.ldm_chain.specs.declared.node.ChainNode.{ChainNode}
use Rattle.ldm_chain.specs.Beginning.{Beginning}
use Rattle.ldm_chain.specs.Causes.{MeansNothing}
use Rattle.ldm_chain.specs.Ending.{by_receiver, end_by}
use Rattle.ldm_chain.specs.Linking.{Fed, FedAll, FedFewer, FedRest, Links, asked_by, asking, host_name, request_read}
use Rattle.ldm_chain.specs.MirrorView.{MirrorView}
use Rattle.ldm_chain.specs.Nodes.{KeepsNode}
use Rattle.ldm_chain.specs.Reflecting.{Reflects}

-- ---- building what is left

-- a class is not built: a pattern means nothing, or there is no memory
abbrev pub IsUnbuilt : ClassSpec → Break → Type 0
IsUnbuilt class (broken.Feed why) = ⊥
IsUnbuilt class (broken.Receive (BadFrame at)) = IsSome (bad_place class.specs.items)
IsUnbuilt class (broken.Receive _) = ⊥
IsUnbuilt class broken.OutOfMemory = Unit {0}

-- what is left is not built
abbrev pub LeavesNothing : RecvEnd → Asked → Type 0
LeavesNothing (BadFrame at) asked = MeansNothing asked
LeavesNothing _ asked = ⊥

-- ---- feeding

-- how feeding what is left came out
abbrev pub CameRest : Option Break → Asked → (old new : PassView) → (before after : MirrorView) → Type 0
CameRest None asked old new before after = FedRest Stopped asked old new before after
CameRest (Some (broken.Feed why)) asked old new before after = (why ≡ Stopped → ⊥) × FedRest why asked old new before after
CameRest (Some (broken.Receive end)) asked old new before after = LeavesNothing end asked × (new ≡ old) × (after ≡ before)
CameRest (Some broken.OutOfMemory) asked old new before after = (new ≡ old) × (after ≡ before)

-- A feeding ended so. Where a part of the class was left, the receiver was over.
pub record FedFirst (why : SendEnd) (asked : Asked) (old new : PassView) (before after : MirrorView) : Type 0 where
  pub fed : Fed why asked old new before after
  pub over : why ≡ Reclassed → IsSome after.receiver.end

-- The node was told that a part of its class is left, and goes on; that part was not fed.
pub record IsToldPart (asked : Asked) (old new : PassView) (before after : MirrorView) : Type 0 where
  pub fed : Fed Reclassed asked old new before after
  pub goes_on : after.receiver.end ≡ None

-- how feeding a class, or what is left of it, came out
abbrev pub Came : Option Break → Beginning → Asked → (old new : PassView) → (before after : MirrorView) → Type 0
Came None b asked old new before after = FedAll b asked old new before after
Came (Some (broken.Feed why)) b asked old new before after =
    (why ≡ Stopped → ⊥) × (FedFirst why asked old new before after ⊎ FedFewer why b asked old new before after)
Came (Some (broken.Receive end)) b asked old new before after = LeavesNothing end asked × IsToldPart asked old new before after
Came (Some broken.OutOfMemory) b asked old new before after = IsToldPart asked old new before after

-- ---- a link

-- Feeding a node broke the chain so. `old` and `new` are the pass of the node before, and `before` and `after` that of the node.
pub record BreaksSo (why : Break) (asked : Asked) (old new before after : PassView) : Type 0 where
  pub b : Beginning
  pub first : b.first ≡ at_first (asking asked.class asked.max_hereis) before
  -- the class can be written, and products are no larger than an arena
  pub fits : ClassFits asked.class
  pub small : old.arena ≤ LARGEST_ARENA
  pub fed : Option Break
  pub end : MirrorView
  pub came : Came fed b asked old new (request_read (asking asked.class asked.max_hereis) before) end
  pub reflects : Reflects b end
  pub few : length (bytes_sent end.passed) < LONGEST_STREAM
  pub pass_is : end.pass ≡ after
  pub is : by_receiver end.receiver.end fed ≡ Some why

-- There was no memory for the receiver, and nothing was done.
abbrev pub IsUnasked : Break → (old new before after : PassView) → Type 0
IsUnasked (broken.Feed why) old new before after = ⊥
IsUnasked (broken.Receive end) old new before after = ⊥
IsUnasked broken.OutOfMemory old new before after = (new ≡ old) × (after ≡ before)

-- Want of memory is of the feeder, or of a receiver that did not end by what it was told; or it came before either began.
abbrev pub Breaks : Break → Asked → (old new before after : PassView) → Type 0
Breaks why asked old new before after = IsUnasked why old new before after ⊎ BreaksSo why asked old new before after

-- ---- some nodes

-- Feeding this node broke the chain so.
pub record BreaksAt (end : ChainEnd) (asked : Asked) (old new before after : PassView) : Type 0 where
  pub why : Break
  pub is : end ≡ end_by why
  pub breaks : Breaks why asked old new before after

-- The second of these nodes, which has that number, was fed from the first, and each behind it from the one before, up to one whose feeding
-- broke the chain so: that of the last instant. Those behind that one are as they were.
abbrev pub BreaksEach : ℕ → Rules → ChainEnd → (olds news : List ChainNode) → List ℕ → Type 0
BreaksEach i rules end (from ∷ old ∷ olds) (to ∷ new ∷ news) (now ∷ []) =
    BreaksAt end (asked_by (host_name i) rules 1 old.class old.max_hereis) from.pass to.pass old.pass new.pass × (news ≡ olds)
BreaksEach i rules end (from ∷ old ∷ olds) (to ∷ new ∷ news) (now ∷ next ∷ instants) =
    (fed : ChainNode) × KeepsNode old fed
    × Links (asked_by (host_name i) rules 1 old.class old.max_hereis) now from.pass to.pass old.pass fed.pass
    × BreaksEach (i + 1) rules end (fed ∷ olds) (new ∷ news) (next ∷ instants)
BreaksEach i rules end olds news instants = ⊥
