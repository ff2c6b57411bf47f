-- The nodes of a chain.
use Rattle.std.specs.Prelude.{◌≡◌, ℕ, ◌+◌, List, [], ◌∷◌}
use Rattle.ldm_class.specs.Rules.{Rules}
use Rattle.ldm_shared.specs.Passes.{PassView, IsPassOf, IsSamePass}
use Rattle.ldm_chain.specs.declared.node.ChainNode.{ChainNode}
use Rattle.ldm_chain.specs.Linking.{Links, asked_by, host_name}

-- its pass is of its queue
abbrev pub IsNode : ChainNode → Type 0
IsNode node = IsPassOf node.shared node.pass

abbrev pub AreNodes : List ChainNode → Type 0
AreNodes [] = Unit {0}
AreNodes (node ∷ nodes) = IsNode node × AreNodes nodes

-- It is the same node, and its pass may have seen more.
pub record KeepsNode (old new : ChainNode) : Type 0 where
  pub rest : new ≡ record old { pass = new.pass }
  pub pass : IsSamePass old.pass new.pass

abbrev pub KeepsNodes : List ChainNode → List ChainNode → Type 0
KeepsNodes [] [] = Unit {0}
KeepsNodes [] (node ∷ news) = ⊥
KeepsNodes (node ∷ olds) [] = ⊥
KeepsNodes (old ∷ olds) (new ∷ news) = KeepsNode old new × KeepsNodes olds news

-- Each of these nodes was fed from the one before it, the first of them, which has that number, from one whose pass went from there to
-- there. Each was fed at one of these instants, and then fed the next one.
abbrev pub LinksEach : ℕ → Rules → (from to : PassView) → (olds news : List ChainNode) → List ℕ → Type 0
LinksEach i rules from to [] [] [] = from ≡ to
LinksEach i rules from to (old ∷ olds) (new ∷ news) (now ∷ instants) =
    (fed : PassView) × Links (asked_by (host_name i) rules 1 old.class old.max_hereis) now from to old.pass fed × LinksEach (i + 1) rules fed new.pass olds news instants
LinksEach i rules from to olds news instants = ⊥

-- the nodes behind the first one
abbrev pub LinksAll : ℕ → Rules → (olds news : List ChainNode) → List ℕ → Type 0
LinksAll i rules [] [] instants = instants ≡ []
LinksAll i rules (old ∷ olds) (new ∷ news) instants = LinksEach i rules old.pass new.pass olds news instants
LinksAll i rules olds news instants = ⊥
