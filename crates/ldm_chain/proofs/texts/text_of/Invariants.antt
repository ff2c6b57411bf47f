use Rattle.std.proofs.Common.{ℕ, ◌+◌, ◌≤◌, length}
use Rattle.ldm_chain.specs.CommandNodes.{AreSole}
use Rattle.ldm_chain.proofs.TextLemmas.{WrittenTo}
use Rattle.ldm_chain.proofs.texts.text_of.Given as goal

abbrev pub invariant-loop-alloc : goal.invariant-loop-alloc
invariant-loop-alloc l = record {
  written : WrittenTo l.fn.nodes.items l.text.items l.i l.nodes.items;
  sole : (arena slots : ℕ) × AreSole arena slots l.nodes.items;
  few : l.i + length l.nodes.items ≤ 8;
}

abbrev pub decreases-loop-alloc : goal.decreases-loop-alloc
decreases-loop-alloc l = length l.nodes.items
