-- Why not each node was fed, and what was fed before: for `AreFedUpTo`.
use Rattle.std.proofs.Common.{◌≡◌, ◌∙◌, ℕ, ◌+◌, ◌<◌, ◌≤◌, List, [], ◌∷◌, ◌++◌, length, map, Some, refl, ap, sym, subst, append_assoc, length-append, zero-add, arith}
use Rattle.std.specs.Prelude.{remove, slice_get, slice_index_or}
use Rattle.std.specs.List.{AllByRecursion}
use Rattle.ldm_types.specs.declared.class.ClassSpec.{ClassSpec}
use Rattle.ldm_types.specs.declared.limits.TheConstants.{MOST_SLOTS}
use Rattle.ldm_model.specs.State.{Queued, State, empty}
use Rattle.ldm_model.specs.History.{after, IsLegal}
use Rattle.ldm_outside.specs.Clock.{ClockRecord}
use Rattle.ldm_model.specs.declared.event.Entry.{Entry}
use Rattle.ldm_model.specs.Insert.{insert}
use Rattle.ldm_class.specs.Rules.{Rules}
use Rattle.ldm_relay.specs.declared.message.ClassAnswer.{ClassAnswer}
use Rattle.ldm_relay.specs.declared.message.ClassAnswer.TheVariants as class_answer
use Rattle.ldm_shared.specs.Passes.{IsSamePass, PassView}
use Rattle.ldm_intake.specs.declared.end.RecvEnd.{RecvEnd}
use Rattle.ldm_intake.specs.declared.end.RecvEnd.TheVariants as received
use Rattle.ldm_sender.specs.declared.end.SendEnd.{SendEnd}
use Rattle.ldm_sender.specs.declared.end.SendEnd.TheVariants as fed
use Rattle.ldm_session.specs.Exchange.{AnsweredAll}
use Rattle.ldm_between_ends.specs.OnePass.{IsOnlyPass, state_of}
use Rattle.ldm_chain.specs.Listing.{listed}
use Rattle.ldm_chain.specs.Putting.{inserted_all}
use Rattle.ldm_chain.specs.Script.{script_played}
use Rattle.ldm_chain.specs.declared.node.ChainEnd.{ChainEnd}
use Rattle.ldm_chain.specs.declared.node.ChainEnd.TheVariants as chain_end
use Rattle.ldm_chain.specs.declared.node.ChainNode.{ChainNode}
use Rattle.ldm_chain.specs.Causes as chained
use Rattle.ldm_chain.specs.Causes.{AreAllTaken, CauseAt, CauseEach, HadAllCalls}
use Rattle.ldm_chain.specs.Linking.{asked_by, host_name}
use Rattle.ldm_chain.specs.Nodes.{KeepsNode, KeepsNodes}
use Rattle.ldm_chain.specs.Queues.{QueuesAll, QueuesEach}
use Rattle.ldm_chain.specs.Standing.{StandsUpTo}
use Rattle.ldm_chain.proofs.Cursors.{insert-taken, taken-same, taken_places}
use Rattle.ldm_chain.specs.Work.{ChainWork}
use Rattle.ldm_chain.specs.CommandEnding.{IsLegalQueue}
use Rattle.ldm_chain.specs.CommandQueues.{first_queue, next_queue, queues_from}
use Rattle.ldm_chain.specs.Unfed.{AsksFor, FeedCause, ReceiveCause, RefusedCause, UnfedCause}
use Rattle.ldm_chain.specs.CommandNodes.{AreFedUpTo, AreNew, IsFirst, IsNew, queue_of}
use Rattle.ldm_chain.proofs.NodeLemmas.{next-queue-is}

-- ---- cursors

-- a queue before its first call has no cursor
none-taken : (arena slots : ℕ) → AreAllTaken (empty arena slots) → ⊥
none-taken arena slots all = cc all

inserted-taken : (qs : List Queued) (s : State) → taken_places (inserted_all qs s) ≡ taken_places s
inserted-taken [] s = refl
inserted-taken (q ∷ behind) s = inserted-taken behind (insert s q.time q.product).state ∙ insert-taken s q.time q.product

-- nor has the first one, which only took products
first-not_taken : (arena slots : ℕ) (script : List ℕ) → AreAllTaken (first_queue arena slots script) → ⊥
first-not_taken arena slots script all =
    let qs = listed (script_played arena slots script).playing.state in
    none-taken arena slots (taken-same (first_queue arena slots script) (empty arena slots) (inserted-taken qs (empty arena slots)) all)

-- ---- one node

-- the pass is of a queue of that size
record IsSized (work : ChainWork) (pass : PassView) : Type 0 where
  arena : pass.arena ≡ work.arena
  slots : pass.slots ≡ work.slots

same-sized : (work : ChainWork) (old new : PassView) → IsSized work old → IsSamePass old new → IsSized work new
same-sized work old new sized same = record {
  arena = ap (λ (p : PassView). p.arena) same ∙ sized.arena;
  slots = ap (λ (p : PassView). p.slots) same ∙ sized.slots;
}

-- a queue that had few calls before the chain began has calls left
not-worn : (work : ChainWork) (found from : PassView) → work.slots ≤ MOST_SLOTS → IsSized work from → length found.seen ≤ work.slots → HadAllCalls found from → ⊥
not-worn work found from most sized few had = omega (arith, most, sized.slots, few, had.before)

module _ (rules : Rules) (work : ChainWork) (i max_hereis : ℕ) (class : ClassSpec) (asks : AsksFor work i class) (found from : PassView) (most : work.slots ≤ MOST_SLOTS)
    (sized : IsSized work from) (few : length found.seen ≤ work.slots) (free : AreAllTaken (state_of found) → ⊥) where
  refused-at : (answer : ClassAnswer) → chained.RefusedCause answer (asked_by (host_name i) rules 1 class max_hereis) found from → RefusedCause answer rules work i
  refused-at class_answer.Denied cause = (record { node = i; class = class; asks = asks; rule = cause.0; left = cause.1 }, refl)
  refused-at class_answer.Busy cause = absurd (free cause.taken)
  refused-at class_answer.Ok cause = absurd cause
  refused-at (class_answer.Reclass fewer) cause = absurd cause
  refused-at class_answer.BadPattern cause = absurd cause

  received-at : (end : RecvEnd) → chained.ReceiveCause end (asked_by (host_name i) rules 1 class max_hereis) found from → ReceiveCause end rules work i
  received-at (received.Refused answer) cause = refused-at answer cause
  received-at (received.BadFrame at) cause = (record { node = i; class = class; asks = asks; fewer = cause.fewer; left = cause.left; bad = cause.bad }, refl)
  received-at received.Worn cause = absurd cause
  received-at received.Ended cause = absurd cause
  received-at (received.Truncated at) cause = absurd cause
  received-at received.LinkFault cause = absurd cause
  received-at received.LogFault cause = absurd cause
  received-at received.StreamLimit cause = absurd cause
  received-at received.OutOfMemory cause = absurd cause

  fed-at : (end : SendEnd) → chained.FeedCause end found from → FeedCause end
  fed-at fed.Worn cause = absurd (not-worn work found from most sized few cause)
  fed-at fed.OutOfMemory cause = tt
  fed-at fed.Stopped cause = absurd cause
  fed-at fed.Reclassed cause = absurd cause
  fed-at (fed.Denied rule) cause = absurd cause
  fed-at (fed.PeerEnd at) cause = absurd cause
  fed-at fed.LinkFault cause = absurd cause
  fed-at fed.LogFault cause = absurd cause
  fed-at (fed.BadReply at) cause = absurd cause
  fed-at fed.AllBusy cause = absurd cause

  unfed-at : (end : ChainEnd) → CauseAt end (asked_by (host_name i) rules 1 class max_hereis) found from → UnfedCause end rules work i
  unfed-at chain_end.Done cause = absurd cause
  unfed-at (chain_end.Feed end) cause = fed-at end cause
  unfed-at (chain_end.Receive end) cause = received-at end cause
  unfed-at chain_end.OutOfMemory cause = tt

-- ---- all nodes

class-behind : (front : List ClassSpec) (class : ClassSpec) (behind : List ClassSpec) → slice_get (front ++ class ∷ behind) (length front) ≡ Some class
class-behind [] class behind = refl
class-behind (first ∷ front) class behind = class-behind front class behind

new-sized : (work : ChainWork) (class : ClassSpec) (node : ChainNode) → IsNew work.arena work.slots work.max_hereis class node → IsSized work node.pass
new-sized work class node new = record { arena = new.of.arena ∙ new.arena_is; slots = new.of.slots ∙ new.slots_is }

new-not_taken : (work : ChainWork) (class : ClassSpec) (node : ChainNode) → IsNew work.arena work.slots work.max_hereis class node → AreAllTaken (state_of node.pass) → ⊥
new-not_taken work class node new all =
    let uncalled : node.pass.seen ≡ [] = ap (λ (p : PassView). p.seen) new.pass in
    none-taken node.pass.arena node.pass.slots (subst (λ (seen : List Entry). AreAllTaken (after node.pass.arena node.pass.slots seen)) uncalled all)

new-few : (work : ChainWork) (class : ClassSpec) (node : ChainNode) → IsNew work.arena work.slots work.max_hereis class node → length node.pass.seen ≤ work.slots
new-few work class node new = omega (arith, ap (λ (p : PassView). length p.seen) new.pass)

module _ (rules : Rules) (work : ChainWork) (most : work.slots ≤ MOST_SLOTS) (end : ChainEnd) where
  each-unfed : (front classes : List ClassSpec) → front ++ classes ≡ work.classes → (found from : ChainNode) (olds news : List ChainNode) (instants : List ℕ) → IsSized work from.pass
      → length found.pass.seen ≤ work.slots → (AreAllTaken (state_of found.pass) → ⊥) → AreNew work.arena work.slots work.max_hereis classes olds → KeepsNodes olds news
      → CauseEach (length front + 1) rules end (found ∷ olds) (from ∷ news) instants → UnfedCause end rules work (length front + length instants)
  each-unfed front classes is found from [] news instants sized few free new kept cause = absurd cause
  each-unfed front [] is found from (old ∷ olds) news instants sized few free new kept cause = absurd new
  each-unfed front (class ∷ classes) is found from (old ∷ olds) [] instants sized few free new kept cause = absurd kept
  each-unfed front (class ∷ classes) is found from (old ∷ olds) (now ∷ news) [] sized few free new kept cause = absurd cause
  each-unfed front (class ∷ classes) is found from (old ∷ olds) (now ∷ news) (at ∷ []) sized few free new kept cause =
      let i = length front + 1 in
      let there : slice_get work.classes (length front) ≡ Some class = ap (λ (cs : List ClassSpec). slice_get cs (length front)) (sym is) ∙ class-behind front class classes in
      unfed-at rules work i old.max_hereis class (length front, refl, there) found.pass from.pass most sized few free end
      (subst (λ (c : ClassSpec). CauseAt end (asked_by (host_name i) rules 1 c old.max_hereis) found.pass from.pass) new.0.class_is cause)
  each-unfed front (class ∷ classes) is found from (old ∷ olds) (now ∷ news) (at ∷ next ∷ instants) sized few free new kept cause =
      let more : length (front ++ class ∷ []) ≡ length front + 1 = length-append front (class ∷ []) in
      let sized_now = same-sized work old.pass now.pass (new-sized work class old new.0) kept.0.pass in
      let node : length (front ++ class ∷ []) + length (next ∷ instants) ≡ length front + length (at ∷ next ∷ instants) = omega (arith, more) in
      subst (λ (n : ℕ). UnfedCause end rules work n) node
      (each-unfed (front ++ class ∷ []) classes (append_assoc front (class ∷ []) classes ∙ is) old now olds news (next ∷ instants) sized_now (new-few work class old new.0)
      (new-not_taken work class old new.0) new.1 kept.1
      (subst (λ (n : ℕ). CauseEach (n + 1) rules end (old ∷ olds) (now ∷ news) (next ∷ instants)) (sym more) cause))

  -- a node was not fed
  pub unfed : (script : List ℕ) (first : ChainNode) (others news : List ChainNode) (instants : List ℕ) → KeepsNodes (first ∷ others) news
      → AreNew work.arena work.slots work.max_hereis work.classes others → IsFirst work.arena work.slots script first → CauseEach 1 rules end (first ∷ others) news instants
      → UnfedCause end rules work (length instants)
  unfed script first others [] instants kept new is_first cause = absurd kept
  unfed script first others (now ∷ news) instants kept new is_first cause =
      let sized : IsSized work first.pass = record { arena = is_first.arena_is; slots = is_first.slots_is } in
      let unfed_cause = each-unfed [] work.classes refl first now others news instants
      (same-sized work first.pass now.pass sized kept.0.pass) is_first.few
      (λ all. first-not_taken work.arena work.slots script (subst AreAllTaken is_first.state all)) new kept.1 cause in
      subst (λ (n : ℕ). UnfedCause end rules work n) (zero-add (length instants)) unfed_cause

-- ---- what was fed before

-- queues of some nodes, fed one after another behind one that stood so
record PartQueues (rules : Rules) (work : ChainWork) (i : ℕ) (from : State) (classes : List ClassSpec) (news : List ChainNode) (moments : List ℕ) : Type 0 where
  are : map queue_of news ≡ queues_from i rules work from classes moments
  one_each : length (map queue_of news) ≡ length moments
  legal : AllByRecursion (IsLegalQueue work) (map queue_of news)

-- the calls of the queue of a node are a legal history
node-legal : (work : ChainWork) (class : ClassSpec) (old new : ChainNode) → IsNew work.arena work.slots work.max_hereis class old → KeepsNode old new → IsOnlyPass new.pass
    → IsLegalQueue work (queue_of new)
node-legal work class old new is_new kept only =
    let sized = same-sized work old.pass new.pass (new-sized work class old is_new) kept.pass in
    let pass = new.pass in
    record {
      history = pass.seen;
      legal = subst (λ (a : ℕ). IsLegal a work.slots pass.seen) sized.arena (subst (λ (n : ℕ). IsLegal pass.arena n pass.seen) sized.slots only.has_seen.legal);
      state = ap (λ (a : ℕ). after a pass.slots pass.seen) sized.arena ∙ ap (λ (n : ℕ). after work.arena n pass.seen) sized.slots;
    }

no-queues : (rules : Rules) (work : ChainWork) (i : ℕ) (from : State) (classes : List ClassSpec) → [] ≡ queues_from i rules work from classes []
no-queues rules work i from [] = refl
no-queues rules work i from (class ∷ classes) = refl

module _ (rules : Rules) (work : ChainWork) where
  part-queues : (i : ℕ) (from : State) (classes : List ClassSpec) (front behind fed : List ChainNode) (moments : List ℕ)
      → AreNew work.arena work.slots work.max_hereis classes (front ++ behind) → KeepsNodes front fed → AllByRecursion (λ (node : ChainNode). IsOnlyPass node.pass) fed
      → QueuesEach i rules from front fed moments → PartQueues rules work i from classes fed moments
  part-queues i from classes [] behind [] [] new kept only each = record { are = no-queues rules work i from classes; one_each = refl; legal = tt }
  part-queues i from classes [] behind [] (now ∷ moments) new kept only each = absurd each
  part-queues i from classes [] behind (node ∷ fed) moments new kept only each = absurd kept
  part-queues i from classes (old ∷ front) behind [] moments new kept only each = absurd kept
  part-queues i from classes (old ∷ front) behind (node ∷ fed) [] new kept only each = absurd each
  part-queues i from [] (old ∷ front) behind (node ∷ fed) (now ∷ moments) new kept only each = absurd new
  part-queues i from (class ∷ classes) (old ∷ front) behind (node ∷ fed) (now ∷ moments) new kept only each =
      let here : queue_of node ≡ next_queue i rules work from class now = each.0 ∙ next-queue-is rules work i from class now old new.0 in
      let rest = part-queues (i + 1) (queue_of node) classes front behind fed moments new.1 kept.1 only.1 each.1 in
      record {
        are = ap (λ (ss : List State). queue_of node ∷ ss) rest.are ∙ ap (λ (s : State). s ∷ queues_from (i + 1) rules work s classes moments) here;
        one_each = omega (arith, rest.one_each);
        legal = (node-legal work class old node new.0 kept.0 only.0, rest.legal);
      }

  -- the queues of those that were fed before one was not
  up-to : (script : List ℕ) (first : ChainNode) (others front fed : List ChainNode) (broken : ChainNode) (behind : List ChainNode) (moments : List ℕ)
      → first ∷ others ≡ front ++ broken ∷ behind → 0 < length front → KeepsNodes front fed → AllByRecursion (λ (node : ChainNode). IsOnlyPass node.pass) fed
      → QueuesAll 1 rules front fed moments
      → AreNew work.arena work.slots work.max_hereis work.classes others → IsFirst work.arena work.slots script first
      → (nodes : List ChainNode) × PartQueues rules work 1 (first_queue work.arena work.slots script) work.classes nodes moments
  up-to script first others [] fed broken behind moments is some kept only queues new is_first = absurd (omega (arith, some))
  up-to script first others (old ∷ front) [] broken behind moments is some kept only queues new is_first = absurd kept
  up-to script first others (old ∷ front) (node ∷ fed) broken behind moments is some kept only queues new is_first =
      let same : first ≡ old = ap (λ (ns : List ChainNode). slice_index_or ns 0 first) is in
      let rest : others ≡ front ++ broken ∷ behind = ap (λ (ns : List ChainNode). remove ns 0) is in
      let state : state_of old.pass ≡ first_queue work.arena work.slots script = ap (λ (n : ChainNode). state_of n.pass) (sym same) ∙ is_first.state in (
        fed,
        part-queues 1 (first_queue work.arena work.slots script) work.classes front (broken ∷ behind) fed moments
            (subst (λ (ns : List ChainNode). AreNew work.arena work.slots work.max_hereis work.classes ns) rest new) kept.1 only.1
            (subst (λ (s : State). QueuesEach 1 rules s front fed moments) state queues.1),
      )

-- what `chain` says where a node was not fed
abbrev pub IsBroken : ChainEnd → Rules → (olds news : List ChainNode) → (clock clock' : ClockRecord) → Type 0
IsBroken end rules olds news clock clock' =
    (instants : List ℕ) × AnsweredAll instants clock clock' × CauseEach 1 rules end olds news instants × StandsUpTo rules olds news instants

module _ (rules : Rules) (work : ChainWork) (most : work.slots ≤ MOST_SLOTS) (end : ChainEnd) (script : List ℕ) (clock clock' : ClockRecord) where
  fed-up-to : (first : ChainNode) (others news : List ChainNode) → KeepsNodes (first ∷ others) news → AreNew work.arena work.slots work.max_hereis work.classes others
      → IsFirst work.arena work.slots script first → IsBroken end rules (first ∷ others) news clock clock' → AreFedUpTo end work rules script clock clock'
  fed-up-to first others news kept new is_first broke =
      let stands = broke.3 in
      let part = up-to rules work script first others stands.front stands.fed stands.broken stands.behind stands.moments stands.olds_are stands.some stands.same stands.only stands.queues
      new is_first in
      let cause = unfed rules work most end script first others news broke.0 kept new is_first broke.2 in
      let count : length broke.0 ≡ length stands.moments + 1 = ap (λ (ns : List ℕ). length ns) stands.instants_are ∙ length-append stands.moments (stands.last ∷ []) in
      record {
        played = is_first.played;
        legal = is_first.legal;
        instants = stands.moments;
        last = stands.last;
        answered = subst (λ (ns : List ℕ). AnsweredAll ns clock clock') stands.instants_are broke.1;
        queues = map queue_of part.0;
        one_each = part.1.one_each;
        queues_are = part.1.are;
        queues_legal = part.1.legal;
        cause = subst (λ (n : ℕ). UnfedCause end rules work n) count cause;
      }

  pub not-fed : (first : ChainNode) (others olds news : List ChainNode) → olds ≡ first ∷ others → KeepsNodes olds news
      → AreNew work.arena work.slots work.max_hereis work.classes others → IsFirst work.arena work.slots script first → IsBroken end rules olds news clock clock'
      → AreFedUpTo end work rules script clock clock'
  not-fed first others olds news is kept new is_first broke =
      fed-up-to first others news (subst (λ (ns : List ChainNode). KeepsNodes ns news) is kept) new is_first
      (subst (λ (ns : List ChainNode). IsBroken end rules ns news clock clock') is broke)
