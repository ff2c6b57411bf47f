use Rattle.std.proofs.Common.{◌≡◌, ◌∙◌, ◌<◌, ℕ, List, ◌∷◌, ◌++◌, length, map, sym, ap, subst, arith}
use Rattle.std.proofs.lemmas.Bool.{eqb-true}
use Rattle.ldm_chain.specs.declared.node.ChainNode.{ChainNode}
use Rattle.ldm_chain.specs.CommandQueues.{nodes_text}
use Rattle.ldm_chain.specs.CommandNodes.{AreSole, queue_of}
use Rattle.ldm_chain.proofs.TextLemmas.{WrittenTo, first-taken, written-all, written-more}
use Rattle.ldm_chain.proofs.texts.text_of.Goals as goal

pub loop-alloc-init : goal.loop-alloc-init
loop-alloc-init c = record {
  written = record { text_is = ap (λ (t : List ℕ). t ++ nodes_text 1 (map queue_of c.args.nodes.items)) c.new-text.ensures.items; legal = λ legal. legal };
  sole = c.requires.sole;
  few = omega (arith, c.requires.few);
}

pub loop-alloc-preserved : goal.loop-alloc-preserved
loop-alloc-preserved c =
    let so_far = c.loop-alloc.invariant in
    let left = c.loop-alloc.nodes.items in
    let node = c.remove-node.result in
    let behind = c.remove-node.new.self.items in
    let some : 0 < length left = omega (arith, c.remove-node.ensures.len, c.loop-alloc.nodes.ok.0) in
    let is : left ≡ node ∷ behind = first-taken left node some c.remove-node.ensures.value ∙ ap (λ (ns : List ChainNode). node ∷ ns) (sym c.remove-node.ensures.items) in
    let sole = so_far.sole in
    record {
      written = written-more c.args.nodes.items c.loop-alloc.text.items c.loop-alloc.i node behind c.add_node.new.text.items
          (subst (λ (ns : List ChainNode). WrittenTo c.args.nodes.items c.loop-alloc.text.items c.loop-alloc.i ns) is so_far.written)
          c.in_ok-add_node.ensures.text c.in_ok-add_node.ensures.legal;
      sole = (sole.0, sole.1, (subst (λ (ns : List ChainNode). AreSole sole.0 sole.1 ns) is sole.2).1);
      few = omega (arith, so_far.few, ap length is);
    }

pub add_node-requires : goal.add_node-requires
add_node-requires c =
    let left = c.loop-alloc.nodes.items in
    let node = c.remove-node.result in
    let some : 0 < length left = omega (arith, c.remove-node.ensures.len, c.loop-alloc.nodes.ok.0) in
    let is : left ≡ node ∷ c.remove-node.new.self.items =
    first-taken left node some c.remove-node.ensures.value ∙ ap (λ (ns : List ChainNode). node ∷ ns) (sym c.remove-node.ensures.items) in
    let sole = c.loop-alloc.invariant.sole in
    (sole.0, sole.1, (subst (λ (ns : List ChainNode). AreSole sole.0 sole.1 ns) is sole.2).0)

pub returns-clause-text : goal.returns-clause-text
returns-clause-text c =
    (written-all c.args.nodes.items c.loop-alloc.text.items c.loop-alloc.i c.loop-alloc.nodes.items c.loop-alloc.invariant.written
    (sym c.loop-alloc.nodes.ok.0 ∙ eqb-true c.loop-alloc.nodes.len 0 (sym c.is_empty.ensures ∙ c.loop-alloc-test.false))).0

pub returns-clause-legal : goal.returns-clause-legal
returns-clause-legal c =
    (written-all c.args.nodes.items c.loop-alloc.text.items c.loop-alloc.i c.loop-alloc.nodes.items c.loop-alloc.invariant.written
    (sym c.loop-alloc.nodes.ok.0 ∙ eqb-true c.loop-alloc.nodes.len 0 (sym c.is_empty.ensures ∙ c.loop-alloc-test.false))).1
