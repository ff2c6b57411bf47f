-- What stands in the queues of nodes that are fed one after another.
use Rattle.std.proofs.Common.{◌≡◌, ℕ, ◌+◌, ◌≤◌, List, [], ◌∷◌, length, refl, ap, sym, subst, ◌∙◌}
use Rattle.ldm_class.specs.Rules.{Rules}
use Rattle.ldm_outside.specs.Clock.{ClockRecord}
use Rattle.ldm_model.specs.State.{State}
use Rattle.ldm_model.specs.History.{after}
use Rattle.ldm_model.specs.declared.event.Entry.{Entry}
use Rattle.ldm_shared.specs.Passes.{PassView}
use Rattle.ldm_session.specs.Exchange.{AnsweredAll}
use Rattle.ldm_sender.specs.Asked.{Asked}
use Rattle.ldm_between_ends.specs.OnePass.{IsOnlyPass, state_of}
use Rattle.ldm_chain.specs.declared.node.ChainNode.{ChainNode}
use Rattle.ldm_chain.specs.Causes.{most_received}
use Rattle.ldm_chain.specs.Linking.{Links, asked_by, host_name}
use Rattle.ldm_chain.specs.Nodes.{LinksEach, LinksAll}
use Rattle.ldm_chain.specs.Queues.{AreToBeFed, IsChain, IsForAllTimes, QueuesAll, QueuesEach, fed_from, new_queue}

-- the law of a link
pub record LinkLaw : Type 0 where
  pub queue : (asked : Asked) (now : ℕ) (old new before after' : PassView) → Links asked now old new before after' → asked.xid ≡ 1 → IsOnlyPass old → IsOnlyPass before
      → IsForAllTimes asked.class → state_of after' ≡ fed_from (state_of old) asked now (state_of before)
  pub unchanged : (asked : Asked) (now : ℕ) (old new before after' : PassView) → Links asked now old new before after' → asked.xid ≡ 1 → IsOnlyPass old → IsOnlyPass before
      → IsForAllTimes asked.class → state_of new ≡ state_of old
  pub only : (asked : Asked) (now : ℕ) (old new before after' : PassView) → Links asked now old new before after' → asked.xid ≡ 1 → IsOnlyPass old → IsOnlyPass before
      → IsForAllTimes asked.class → IsOnlyPass after'
  pub calls : (asked : Asked) (now : ℕ) (old new before after' : PassView) → Links asked now old new before after' → asked.xid ≡ 1 → IsOnlyPass old → IsOnlyPass before
      → IsForAllTimes asked.class → length after'.seen ≤ length before.seen + most_received

module _ (law : LinkLaw) (rules : Rules) where
  pub queues-each : (i : ℕ) (from to : PassView) (olds news : List ChainNode) (instants : List ℕ) → LinksEach i rules from to olds news instants → IsOnlyPass from
      → AreToBeFed olds → (state_of to ≡ state_of from) × QueuesEach i rules (state_of from) olds news instants
  queues-each i from to [] [] [] links only fed = (ap state_of (sym links), tt)
  queues-each i from to [] [] (now ∷ instants) links only fed = absurd links
  queues-each i from to [] (new ∷ news) instants links only fed = absurd links
  queues-each i from to (old ∷ olds) [] instants links only fed = absurd links
  queues-each i from to (old ∷ olds) (new ∷ news) [] links only fed = absurd links
  queues-each i from to (old ∷ olds) (new ∷ news) (now ∷ instants) links only fed =
      let asked = asked_by (host_name i) rules 1 old.class old.max_hereis in
      let link = links.1 in
      let queue = law.queue asked now from to old.pass links.0 link refl only fed.0.only fed.0.class in
      let same = law.unchanged asked now from to old.pass links.0 link refl only fed.0.only fed.0.class in
      let next = law.only asked now from to old.pass links.0 link refl only fed.0.only fed.0.class in
      let rest = queues-each (i + 1) links.0 new.pass olds news instants links.2 next fed.1 in
      let empty_queue : state_of old.pass ≡ new_queue old = ap (λ (seen : List Entry). after old.pass.arena old.pass.slots seen) fed.0.not_called in (
        same,
        (
          rest.0 ∙ queue ∙ ap (fed_from (state_of from) asked now) empty_queue,
          subst (λ (s : State). QueuesEach (i + 1) rules s olds news instants) (sym rest.0) rest.1,
        ),
      )

  pub queues-all : (olds news : List ChainNode) (instants : List ℕ) → LinksAll 1 rules olds news instants → IsChain olds → QueuesAll 1 rules olds news instants
  queues-all [] [] instants links fed = links
  queues-all [] (new ∷ news) instants links fed = absurd links
  queues-all (old ∷ olds) [] instants links fed = absurd links
  queues-all (old ∷ olds) (new ∷ news) instants links fed = queues-each 1 old.pass new.pass olds news instants links fed.0 fed.1

  -- the same, where the nodes are given by the first one and the others
  pub queues-of : (all : List ChainNode) (first : ChainNode) (others : List ChainNode) (new : ChainNode) (news : List ChainNode) (clock clock' : ClockRecord) → all ≡ first ∷ others → IsChain all
      → (instants : List ℕ) × AnsweredAll instants clock clock' × LinksEach 1 rules first.pass new.pass others news instants
      → (instants : List ℕ) × AnsweredAll instants clock clock' × QueuesAll 1 rules all (new ∷ news) instants
  queues-of all first others new news clock clock' is fed done =
      let there : IsChain (first ∷ others) = subst IsChain is fed in (
        done.0,
        done.1,
        subst (λ (ns : List ChainNode). QueuesAll 1 rules ns (new ∷ news) done.0) (sym is) (queues-all (first ∷ others) (new ∷ news) done.0 done.2 there),
      )
