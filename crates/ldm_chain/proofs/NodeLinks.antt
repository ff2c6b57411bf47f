-- Nodes of a chain that are fed one after another.
use Rattle.std.proofs.Common.{◌≡◌, ℕ, ◌+◌, List, [], ◌∷◌, length, refl, ap, sym, subst, ◌∙◌, arith}
use Rattle.ldm_class.specs.Rules.{Rules}
use Rattle.ldm_outside.specs.Clock.{ClockRecord, Answers}
use Rattle.ldm_shared.specs.Passes.{PassView, IsPassOf}
use Rattle.ldm_session.specs.Exchange.{AnsweredAll}
use Rattle.ldm_session.proofs.CallerLemmas.{AnsweredAll-nothing, AnsweredAll-one, AnsweredAll-then}
use Rattle.ldm_chain.specs.declared.node.ChainNode.{ChainNode}
use Rattle.ldm_chain.specs.declared.node.ChainEnd.{ChainEnd}
use Rattle.ldm_chain.specs.declared.node.ChainEnd.TheVariants as chain_end
use Rattle.ldm_chain.specs.declared.node.Break.{Break}
use Rattle.ldm_chain.specs.declared.node.Break.TheVariants as broken
use Rattle.ldm_chain.specs.Ending.{end_by}
use Rattle.ldm_chain.specs.Linking.{Links, asked_by, host_name}
use Rattle.ldm_chain.specs.Nodes.{AreNodes, IsNode, KeepsNode, KeepsNodes, LinksEach}
use Rattle.ldm_chain.proofs.Mirroring.{of-same, same-then}

-- ---- nodes

pub keeps-same : (node : ChainNode) → KeepsNode node node
keeps-same node = record { rest = refl; pass = refl }

pub keeps-then : (old mid new : ChainNode) → KeepsNode old mid → KeepsNode mid new → KeepsNode old new
keeps-then old mid new before later = record {
  rest = later.rest ∙ ap (λ (n : ChainNode). record n { pass = new.pass }) before.rest;
  pass = same-then old.pass mid.pass new.pass before.pass later.pass;
}

pub node-then : (old new : ChainNode) → IsNode old → KeepsNode old new → IsNode new
node-then old new is keeps =
    let there : new.shared ≡ old.shared = ap (λ (n : ChainNode). n.shared) keeps.rest in
    subst (λ s. IsPassOf s new.pass) (sym there) (of-same old.shared old.pass new.pass is keeps.pass)

pub keeps-all : (nodes : List ChainNode) → KeepsNodes nodes nodes
keeps-all [] = tt
keeps-all (node ∷ nodes) = (keeps-same node, keeps-all nodes)

-- ---- one after another

-- each was fed, at instants that the clock answered
abbrev pub IsDone : ℕ → Rules → (from to : PassView) → (olds news : List ChainNode) → (clock clock' : ClockRecord) → Type 0
IsDone i rules from to olds news clock clock' = (instants : List ℕ) × AnsweredAll instants clock clock' × LinksEach i rules from to olds news instants

pub done-none : (i : ℕ) (rules : Rules) (from : PassView) (nodes : List ChainNode) (clock : ClockRecord) → length nodes ≡ 0 → IsDone i rules from from nodes nodes clock clock
done-none i rules from [] clock none = ([], AnsweredAll-nothing clock, refl)
done-none i rules from (node ∷ nodes) clock none = absurd (omega (arith, none))

pub done-more : (i now : ℕ) (rules : Rules) (from from' : PassView) (to to' to'' : ChainNode) (olds news : List ChainNode) (clock mid clock' : ClockRecord)
    → Links (asked_by (host_name i) rules 1 to.class to.max_hereis) now from from' to.pass to'.pass → Answers now clock mid
    → IsDone (i + 1) rules to'.pass to''.pass olds news mid clock' → IsDone i rules from from' (to ∷ olds) (to'' ∷ news) clock clock'
done-more i now rules from from' to to' to'' olds news clock mid clock' links answers done =
    (now ∷ done.0, AnsweredAll-then (now ∷ []) done.0 clock mid clock' (AnsweredAll-one now clock mid answers) done.1, (to'.pass, links, done.2))

pub not-done : (why : Break) (end : ChainEnd) → end ≡ end_by why → end ≡ chain_end.Done → ⊥
not-done (broken.Feed fed) end is done = cc
not-done (broken.Receive got) end is done = cc
not-done broken.OutOfMemory end is done = cc

-- ---- the first of some nodes

pub first-kept : (all : List ChainNode) (old new : ChainNode) (olds news : List ChainNode) → all ≡ old ∷ olds → KeepsNode old new → KeepsNodes olds news → KeepsNodes all (new ∷ news)
first-kept all old new olds news is keeps rest = subst (λ (ns : List ChainNode). KeepsNodes ns (new ∷ news)) (sym is) (keeps, rest)

pub first-nodes : (all : List ChainNode) (first : ChainNode) (others : List ChainNode) → all ≡ first ∷ others → AreNodes all → IsNode first × AreNodes others
first-nodes all first others is nodes = subst AreNodes is nodes

pub first-done : (i now : ℕ) (host : List ℕ) (rules : Rules) (from from' : PassView) (all : List ChainNode) (to to' to'' : ChainNode) (olds news : List ChainNode) (clock mid clock' : ClockRecord)
    → all ≡ to ∷ olds → host ≡ host_name i → Links (asked_by host rules 1 to.class to.max_hereis) now from from' to.pass to'.pass → Answers now clock mid
    → IsDone (i + 1) rules to'.pass to''.pass olds news mid clock' → IsDone i rules from from' all (to'' ∷ news) clock clock'
first-done i now host rules from from' all to to' to'' olds news clock mid clock' is named links answers done =
    subst (λ (ns : List ChainNode). IsDone i rules from from' ns (to'' ∷ news) clock clock') (sym is)
    (done-more i now rules from from' to to' to'' olds news clock mid clock'
    (subst (λ (name : List ℕ). Links (asked_by name rules 1 to.class to.max_hereis) now from from' to.pass to'.pass) named links) answers done)
