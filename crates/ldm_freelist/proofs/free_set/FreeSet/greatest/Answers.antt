use Rattle.std.proofs.Common.{◌≡◌, ℕ, ◌+◌, ◌-◌, ◌^◌, ◌≤◌, ap, ◌∙◌, sym, subst, arith}
use Rattle.std.specs.FinSet as set
use Rattle.ldm_freelist.specs.Nodes.{pair_at}
use Rattle.ldm_freelist.proofs.Kept.{some_tree, none_there, last_within, last_in_use, greatest, one_step}
use Rattle.ldm_freelist.proofs.free_set.FreeSet.greatest.Goals as goal

pub returns-then-self-clause-greatest : goal.returns-then-self-clause-greatest
returns-then-self-clause-greatest g c = none_there c.self.inside.table c.self.inside.root c.self.inside.free c.self.invariant c.args.self.now c.self.view_is c.if-self.true

pub last-node-requires-clause-tree : goal.last-node-requires-clause-tree
last-node-requires-clause-tree g c = some_tree c.self.inside.table c.self.inside.root c.self.inside.free c.self.invariant c.args.self.now c.self.view_is

pub compare-extent-requires-clause-node : goal.compare-extent-requires-clause-node
compare-extent-requires-clause-node g c = last_within c.self.inside.table c.self.inside.root c.self.inside.free c.self.invariant c.args.self.now c.self.view_is c.last-node.result c.last-node.ensures

pub compare-extent-requires-clause-in_use : goal.compare-extent-requires-clause-in_use
compare-extent-requires-clause-in_use g c = last_in_use c.self.inside.table c.self.inside.root c.self.inside.free c.self.invariant c.args.self.now c.self.view_is c.last-node.result c.last-node.ensures

same : {a b : ℕ} {p : ℕ × ℕ} → a ≡ p.0 → b ≡ p.1 → ◌≡◌ {A = ℕ × ℕ} (a, b) p
same {a} {b} {p} first second = ap (λ (n : ℕ). let q : ℕ × ℕ = (n, b) in q) first ∙ ap (λ (n : ℕ). let q : ℕ × ℕ = (p.0, n) in q) second

pub returns-clause-greatest : goal.returns-clause-greatest
returns-clause-greatest g c =
    let told = c.compare-extent in
    let is : ◌≡◌ {A = ℕ × ℕ} (told.result.1, told.result.2) (pair_at c.self.inside.table c.last-node.result) = same told.ensures.extent told.ensures.offset in
    greatest c.self.inside.table c.self.inside.root c.self.inside.free c.self.invariant c.args.self.now c.self.view_is c.last-node.result (told.result.1, told.result.2) c.last-node.ensures is

pub returns-clause-logarithm : goal.returns-clause-logarithm
returns-clause-logarithm g c =
    let one : c.compare-extent.new.steps - c.args.steps.now ≡ 1 = omega (arith, c.compare-extent.ensures.step) in
    subst (λ n. 2 ^ n ≤ (set.len c.args.self.now.members + 1) ^ 2) (sym one) (one_step c.self.inside.table c.self.inside.root c.self.inside.free c.self.invariant c.args.self.now
    c.self.view_is c.if-self.false)
