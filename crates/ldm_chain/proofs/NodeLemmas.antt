-- The nodes of a chain, and their queues.
use Rattle.std.proofs.Common.{◌≡◌, ◌∙◌, ℕ, suc, ◌+◌, ◌<◌, ◌≤◌, List, [], ◌∷◌, ◌++◌, length, map, refl, sym, ap, subst, append_assoc, append-nil, arith}
use Rattle.std.specs.Prelude.{remove, slice_index_or}
use Rattle.ldm_types.specs.declared.class.ClassSpec.{ClassSpec}
use Rattle.std.specs.List.{AllByRecursion}
use Rattle.ldm_model.specs.declared.event.Entry.{Entry}
use Rattle.ldm_model.specs.Always.{Always, HasSlots}
use Rattle.ldm_model.specs.State.{State, empty, queued}
use Rattle.ldm_model.specs.History.{after, IsLegal}
use Rattle.ldm_book.specs.Limits.{IsGoodSlots}
use Rattle.ldm_book.specs.View.{BookView}
use Rattle.ldm_book.specs.Stands.{StandsFor}
use Rattle.ldm_chain.specs.Listing.{listed}
use Rattle.ldm_chain.specs.Script.{HasPlayed, script_played}
use Rattle.ldm_chain.specs.Putting.{StandsAfter, inserted_all}
use Rattle.ldm_class.specs.Rules.{Rules}
use Rattle.ldm_shared.specs.Passes.{HasSeen, IsPassOf, IsSamePass, PassView, SharedView, new_pass}
use Rattle.ldm_between_ends.specs.OnePass.{IsOnlyPass, state_of}
use Rattle.ldm_between_ends.proofs.Slots.{few-queued}
use Rattle.ldm_outside.specs.Clock.{ClockRecord}
use Rattle.ldm_session.specs.Exchange.{AnsweredAll}
use Rattle.ldm_chain.specs.declared.node.ChainNode.{ChainNode}
use Rattle.ldm_chain.specs.Linking.{asked_by, host_name}
use Rattle.ldm_chain.specs.Nodes.{AreNodes, KeepsNodes}
use Rattle.ldm_chain.specs.Queues.{AreToBeFed, IsChain, IsForAllTimes, QueuesAll, QueuesEach, fed_from, new_queue}
use Rattle.ldm_chain.specs.Work.{ChainWork}
use Rattle.ldm_chain.specs.CommandQueues.{next_queue, queues_from}
use Rattle.ldm_chain.specs.CommandNodes.{AreFed, AreNew, AreSole, IsFirst, IsNew, queue_of}

module _ (arena slots max_hereis : ℕ) where
  -- one node more
  pub new-more : (classes : List ClassSpec) (nodes : List ChainNode) (class : ClassSpec) (node : ChainNode) → AreNew arena slots max_hereis classes nodes
      → IsNew arena slots max_hereis class node → AreNew arena slots max_hereis (classes ++ class ∷ []) (nodes ++ node ∷ [])
  new-more [] [] class node all one = (one, tt)
  new-more [] (other ∷ nodes) class node all one = absurd all
  new-more (other ∷ classes) [] class node all one = absurd all
  new-more (other ∷ classes) (first ∷ nodes) class node all one = (all.0, new-more classes nodes class node all.1 one)

  pub new-length : (classes : List ClassSpec) (nodes : List ChainNode) → AreNew arena slots max_hereis classes nodes → length nodes ≡ length classes
  new-length [] [] all = refl
  new-length [] (node ∷ nodes) all = absurd all
  new-length (class ∷ classes) [] all = absurd all
  new-length (class ∷ classes) (node ∷ nodes) all = ap (λ (n : ℕ). suc n) (new-length classes nodes all.1)

  -- they are nodes
  pub new-nodes : (classes : List ClassSpec) (nodes : List ChainNode) → AreNew arena slots max_hereis classes nodes → AreNodes nodes
  new-nodes [] [] all = tt
  new-nodes [] (node ∷ nodes) all = absurd all
  new-nodes (class ∷ classes) [] all = absurd all
  new-nodes (class ∷ classes) (node ∷ nodes) all = (all.0.of, new-nodes classes nodes all.1)

  -- that are to be fed
  pub new-to_be_fed : (seen : (shared : SharedView) (actor : ℕ) → HasSeen (new_pass shared actor)) (classes : List ClassSpec) (nodes : List ChainNode)
      → AreNew arena slots max_hereis classes nodes → AllByRecursion IsForAllTimes classes → AreToBeFed nodes
  new-to_be_fed seen [] [] all times = tt
  new-to_be_fed seen [] (node ∷ nodes) all times = absurd all
  new-to_be_fed seen (class ∷ classes) [] all times = absurd all
  new-to_be_fed seen (class ∷ classes) (node ∷ nodes) all times = (
    record {
      only = record {
        passes = ap (λ (p : PassView). p.passes) all.0.pass ∙ all.0.passes_is;
        actor = ap (λ (p : PassView). p.actor) all.0.pass;
        has_seen = subst HasSeen (sym all.0.pass) (seen node.shared 0);
      };
      not_called = ap (λ (p : PassView). p.seen) all.0.pass;
      class = subst IsForAllTimes (sym all.0.class_is) times.0;
    },
    new-to_be_fed seen classes nodes all.1 times.1,
  )

  -- the same nodes, whose passes may have seen more, are the only ones of queues of that size
  pub kept-sole : (classes : List ClassSpec) (olds news : List ChainNode) → AreNew arena slots max_hereis classes olds → KeepsNodes olds news → AreSole arena slots news
  kept-sole [] [] [] all kept = tt
  kept-sole [] [] (new ∷ news) all kept = absurd kept
  kept-sole [] (old ∷ olds) news all kept = absurd all
  kept-sole (class ∷ classes) [] news all kept = absurd all
  kept-sole (class ∷ classes) (old ∷ olds) [] all kept = absurd kept
  kept-sole (class ∷ classes) (old ∷ olds) (new ∷ news) all kept =
      let same = kept.0.pass in
      let shared : new.shared ≡ old.shared = ap (λ (n : ChainNode). n.shared) kept.0.rest in
      let of : IsPassOf old.shared new.pass = record {
        queue = ap (λ (p : PassView). p.queue) same ∙ all.0.of.queue;
        arena = ap (λ (p : PassView). p.arena) same ∙ all.0.of.arena;
        slots = ap (λ (p : PassView). p.slots) same ∙ all.0.of.slots;
        passes = ap (λ (p : PassView). p.passes) same ∙ all.0.of.passes;
      } in (
        record {
          of = subst (λ (s : SharedView). IsPassOf s new.pass) (sym shared) of;
          passes = ap (λ (p : PassView). p.passes) same ∙ all.0.of.passes ∙ all.0.passes_is;
          actor = ap (λ (p : PassView). p.actor) same ∙ ap (λ (p : PassView). p.actor) all.0.pass;
          arena_is = ap (λ (p : PassView). p.arena) same ∙ all.0.of.arena ∙ all.0.arena_is;
          slots_is = ap (λ (p : PassView). p.slots) same ∙ all.0.of.slots ∙ all.0.slots_is;
        },
        kept-sole classes olds news all.1 kept.1,
      )

-- the queues that stand in nodes that were new, one for each instant
pub record AreQueues (i : ℕ) (rules : Rules) (work : ChainWork) (from : State) (classes : List ClassSpec) (news : List ChainNode) (instants : List ℕ) : Type 0 where
  pub queues : map queue_of news ≡ queues_from i rules work from classes instants
  pub one_each : length instants ≡ length classes

module _ (rules : Rules) (work : ChainWork) where
  new-queue-is : (class : ClassSpec) (node : ChainNode) → IsNew work.arena work.slots work.max_hereis class node → new_queue node ≡ empty work.arena work.slots
  new-queue-is class node new =
      ap (λ (a : ℕ). empty a node.pass.slots) (new.of.arena ∙ new.arena_is) ∙ ap (empty work.arena) (new.of.slots ∙ new.slots_is)

  pub next-queue-is : (i : ℕ) (from : State) (class : ClassSpec) (now : ℕ) (node : ChainNode) → IsNew work.arena work.slots work.max_hereis class node
      → fed_from from (asked_by (host_name i) rules 1 node.class node.max_hereis) now (new_queue node) ≡ next_queue i rules work from class now
  next-queue-is i from class now node new =
      ap (fed_from from (asked_by (host_name i) rules 1 node.class node.max_hereis) now) (new-queue-is class node new)
      ∙ ap (λ (c : ClassSpec). fed_from from (asked_by (host_name i) rules 1 c node.max_hereis) now (empty work.arena work.slots)) new.class_is
      ∙ ap (λ (m : ℕ). fed_from from (asked_by (host_name i) rules 1 class m) now (empty work.arena work.slots)) new.max_is

  pub queues-are : (i : ℕ) (from : State) (classes : List ClassSpec) (olds news : List ChainNode) (instants : List ℕ)
      → AreNew work.arena work.slots work.max_hereis classes olds → QueuesEach i rules from olds news instants → AreQueues i rules work from classes news instants
  queues-are i from [] [] [] [] all each = record { queues = refl; one_each = refl }
  queues-are i from [] [] [] (now ∷ instants) all each = absurd each
  queues-are i from [] [] (new ∷ news) instants all each = absurd each
  queues-are i from [] (old ∷ olds) news instants all each = absurd all
  queues-are i from (class ∷ classes) [] news instants all each = absurd all
  queues-are i from (class ∷ classes) (old ∷ olds) [] instants all each = absurd each
  queues-are i from (class ∷ classes) (old ∷ olds) (new ∷ news) [] all each = absurd each
  queues-are i from (class ∷ classes) (old ∷ olds) (new ∷ news) (now ∷ instants) all each =
      let here : queue_of new ≡ next_queue i rules work from class now = each.0 ∙ next-queue-is i from class now old all.0 in
      let rest = queues-are (i + 1) (queue_of new) classes olds news instants all.1 each.1 in
      record {
        queues =
            ap (λ (ss : List State). queue_of new ∷ ss) rest.queues
            ∙ ap (λ (s : State). s ∷ queues_from (i + 1) rules work s classes instants) here;
        one_each = ap (λ (n : ℕ). suc n) rest.one_each;
      }

-- ---- nodes that are made one after another

pub first-taken : {A : Type 0} (xs : List A) (x : A) → 0 < length xs → x ≡ slice_index_or xs 0 x → xs ≡ x ∷ remove xs 0
first-taken [] x some is = absurd (omega arith)
first-taken (y ∷ ys) x some is = ap (λ (z : _). z ∷ ys) (sym is)

-- Nodes were made for some classes, and these are left.
pub record MadeTo (arena slots max_hereis : ℕ) (first : ChainNode) (all : List ClassSpec) (nodes : List ChainNode) (left : List ClassSpec) : Type 0 where
  pub done : List ClassSpec
  pub others : List ChainNode
  pub classes_are : done ++ left ≡ all
  pub nodes_are : nodes ≡ first ∷ others
  pub new : AreNew arena slots max_hereis done others

pub made-more : (arena slots max_hereis : ℕ) (first : ChainNode) (all : List ClassSpec) (nodes new_nodes : List ChainNode) (left : List ClassSpec) (class : ClassSpec) (behind : List ClassSpec)
    (node : ChainNode) → MadeTo arena slots max_hereis first all nodes left → left ≡ class ∷ behind → new_nodes ≡ nodes ++ node ∷ [] → IsNew arena slots max_hereis class node
    → MadeTo arena slots max_hereis first all new_nodes behind
made-more arena slots max_hereis first all nodes new_nodes left class behind node so_far is nodes_is one = record {
  done = so_far.done ++ class ∷ [];
  others = so_far.others ++ node ∷ [];
  classes_are = append_assoc so_far.done (class ∷ []) behind ∙ sym (ap (λ (cs : List ClassSpec). so_far.done ++ cs) is) ∙ so_far.classes_are;
  nodes_are = nodes_is ∙ ap (λ (ns : List ChainNode). ns ++ node ∷ []) so_far.nodes_are;
  new = new-more arena slots max_hereis so_far.done so_far.others class node so_far.new one;
}

pub made-all : (arena slots max_hereis : ℕ) (first : ChainNode) (all : List ClassSpec) (nodes : List ChainNode) (left : List ClassSpec)
    → MadeTo arena slots max_hereis first all nodes left → length left ≡ 0 → (others : List ChainNode) × (nodes ≡ first ∷ others) × AreNew arena slots max_hereis all others
made-all arena slots max_hereis first all nodes [] so_far none =
    (so_far.others, so_far.nodes_are, subst (λ (cs : List ClassSpec). AreNew arena slots max_hereis cs so_far.others) (sym (append-nil so_far.done) ∙ so_far.classes_are) so_far.new)
made-all arena slots max_hereis first all nodes (class ∷ left) so_far none = absurd (omega arith)

-- ---- nodes that were fed

kept-length : (olds news : List ChainNode) → KeepsNodes olds news → length news ≡ length olds
kept-length [] [] kept = refl
kept-length [] (new ∷ news) kept = absurd kept
kept-length (old ∷ olds) [] kept = absurd kept
kept-length (old ∷ olds) (new ∷ news) kept = ap (λ (n : ℕ). suc n) (kept-length olds news kept.1)

-- what `chain` says of the queues
abbrev pub HaveQueues : Rules → List ChainNode → List ChainNode → ClockRecord → ClockRecord → Type 0
HaveQueues rules olds news clock clock' = (instants : List ℕ) × AnsweredAll instants clock clock' × QueuesAll 1 rules olds news instants

module _ (rules : Rules) (work : ChainWork) (script : List ℕ) (clock clock' : ClockRecord) where
  fed-from : (first : ChainNode) (others news : List ChainNode) → KeepsNodes (first ∷ others) news → AreNew work.arena work.slots work.max_hereis work.classes others
      → IsFirst work.arena work.slots script first → HaveQueues rules (first ∷ others) news clock clock' → length work.classes ≤ 7
      → AreFed work rules script (remove news 0) clock clock'
  fed-from first others [] kept new is_first have few = absurd kept
  fed-from first others (node ∷ news) kept new is_first have few =
      let each : QueuesEach 1 rules (state_of first.pass) others news have.0 = have.2.1 in
      let are = queues-are rules work 1 (state_of first.pass) work.classes others news have.0 new each in
      record {
        played = is_first.played;
        legal = is_first.legal;
        few = omega (arith, few, kept-length others news kept.1, new-length work.arena work.slots work.max_hereis work.classes others new);
        instants = have.0;
        one_each = are.one_each;
        answered = have.1;
        sole = kept-sole work.arena work.slots work.max_hereis work.classes others news new kept.1;
        queues = are.queues ∙ ap (λ (s : State). queues_from 1 rules work s work.classes have.0) is_first.state;
      }

  pub are-fed : (first : ChainNode) (others olds news : List ChainNode) → olds ≡ first ∷ others → KeepsNodes olds news
      → AreNew work.arena work.slots work.max_hereis work.classes others → IsFirst work.arena work.slots script first → HaveQueues rules olds news clock clock'
      → length work.classes ≤ 7 → AreFed work rules script (remove news 0) clock clock'
  are-fed first others olds news is kept new is_first have few =
      fed-from first others news (subst (λ (ns : List ChainNode). KeepsNodes ns news) is kept) new is_first
      (subst (λ (ns : List ChainNode). HaveQueues rules ns news clock clock') is have) few

-- ---- what `chain` asks for

pub asks : (arena slots max_hereis : ℕ) (seen : (shared : SharedView) (actor : ℕ) → HasSeen (new_pass shared actor)) (script : List ℕ) (classes : List ClassSpec) (first : ChainNode)
    (others nodes : List ChainNode) → nodes ≡ first ∷ others → IsFirst arena slots script first → AreNew arena slots max_hereis classes others → AllByRecursion IsForAllTimes classes
    → AreNodes nodes × IsChain nodes
asks arena slots max_hereis seen script classes first others nodes is is_first new times =
    subst (λ (ns : List ChainNode). AreNodes ns × IsChain ns) (sym is) (
      (is_first.of, new-nodes arena slots max_hereis classes others new),
      (is_first.only, new-to_be_fed arena slots max_hereis seen classes others new times),
    )

pub asks-few : (arena slots max_hereis : ℕ) (classes : List ClassSpec) (first : ChainNode) (others nodes : List ChainNode) → nodes ≡ first ∷ others
    → AreNew arena slots max_hereis classes others → length classes ≤ 7 → length nodes ≤ 8
asks-few arena slots max_hereis classes first others nodes is new few =
    omega (arith, ap length is, new-length arena slots max_hereis classes others new, few)

-- ---- the first node

-- what is asked for where products are put into its queue
pub new-only : (seen : (shared : SharedView) (actor : ℕ) → HasSeen (new_pass shared actor)) (arena slots max_hereis : ℕ) (class : ClassSpec) (node : ChainNode)
    → IsNew arena slots max_hereis class node → IsOnlyPass node.pass
new-only seen arena slots max_hereis class node new = record {
  passes = ap (λ (p : PassView). p.passes) new.pass ∙ new.passes_is;
  actor = ap (λ (p : PassView). p.actor) new.pass;
  has_seen = subst HasSeen (sym new.pass) (seen node.shared 0);
}

pub played-stands : (arena slots : ℕ) (script : List ℕ) (book : BookView) → HasPlayed arena slots script book → StandsAfter book
played-stands arena slots script book played = record {
  arena = arena;
  slots = slots;
  history = (script_played arena slots script).playing.history;
  legal = played.legal.legal;
  stands = subst (StandsFor book) played.legal.state played.stands;
}

-- what `put_products` says
abbrev pub Puts : BookView → PassView → PassView → Type 0
Puts book old new = (s : State) → StandsFor book s → state_of new ≡ inserted_all (listed s) (state_of old)

pub first-is : (arena slots max_hereis : ℕ) (script : List ℕ) (class : ClassSpec) (book : BookView) (node : ChainNode) (later : PassView) → Always HasSlots
    → HasPlayed arena slots script book
    → IsNew arena slots max_hereis class node → IsOnlyPass node.pass → IsSamePass node.pass later → HasSeen later → Puts book node.pass later
    → ((s : State) → StandsFor book s → length later.seen ≤ length (queued s)) → IsFirst arena slots script (record node { pass = later })
first-is arena slots max_hereis script class book node later has_slots played new only same seen puts few =
    let p = (script_played arena slots script).playing in
    let stands : StandsFor book (after arena slots p.history) = subst (StandsFor book) played.legal.state played.stands in
    let old_state : state_of node.pass ≡ empty arena slots =
    ap state_of new.pass ∙ ap (λ (a : ℕ). empty a node.shared.slots) new.arena_is ∙ ap (empty arena) new.slots_is in
    record {
      played = played.to_end;
      legal = played.legal.legal;
      arena_is = ap (λ (p : PassView). p.arena) same ∙ new.of.arena ∙ new.arena_is;
      slots_is = ap (λ (p : PassView). p.slots) same ∙ new.of.slots ∙ new.slots_is;
      of = record {
        queue = ap (λ (p : PassView). p.queue) same ∙ new.of.queue;
        arena = ap (λ (p : PassView). p.arena) same ∙ new.of.arena;
        slots = ap (λ (p : PassView). p.slots) same ∙ new.of.slots;
        passes = ap (λ (p : PassView). p.passes) same ∙ new.of.passes;
      };
      only = record {
        passes = ap (λ (p : PassView). p.passes) same ∙ only.passes;
        actor = ap (λ (p : PassView). p.actor) same ∙ only.actor;
        has_seen = seen;
      };
      state = puts p.state played.stands ∙ ap (inserted_all (listed p.state)) old_state;
      few = omega (arith, few (after arena slots p.history) stands, few-queued has_slots arena slots p.history played.legal.legal);
    }
