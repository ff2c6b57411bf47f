use Rattle.std.proofs.Common.{◌≡◌, ◌∙◌, ◌<◌, List, [], ◌∷◌, ◌++◌, length, refl, sym, ap, arith}
use Rattle.std.proofs.lemmas.Bool.{eqb-true}
use Rattle.ldm_types.specs.declared.class.ClassSpec.{ClassSpec}
use Rattle.ldm_chain.specs.declared.node.ChainNode.{ChainNode}
use Rattle.ldm_chain.proofs.NodeLemmas.{first-taken, made-all, made-more}
use Rattle.ldm_chain.proofs.nodes.all_nodes.Goals as goal

pub loop-alloc-init : goal.loop-alloc-init
loop-alloc-init c = record {
  done = [];
  others = [];
  classes_are = refl;
  nodes_are = c.in_ok-push.ensures.items ∙ ap (λ (ns : List ChainNode). ns ++ c.args.first ∷ []) c.new-nodes.ensures.items;
  new = tt;
}

pub loop-alloc-preserved : goal.loop-alloc-preserved
loop-alloc-preserved c =
    let left = c.loop-alloc.classes.items in
    let class = c.remove-class.result in
    let some : 0 < length left = omega (arith, c.remove-class.ensures.len, c.loop-alloc.classes.ok.0) in
    let is : left ≡ class ∷ c.remove-class.new.self.items =
    first-taken left class some c.remove-class.ensures.value ∙ ap (λ (cs : List ClassSpec). class ∷ cs) (sym c.remove-class.ensures.items) in
    made-more c.args.arena c.args.slots c.args.max_hereis c.args.first c.args.classes.items c.loop-alloc.nodes.items c.push-in-loop-alloc.new.self.items left class
    c.remove-class.new.self.items c.in_ok-node.node c.loop-alloc.invariant is c.in_ok-push-2.ensures.items c.in_ok-node.ensures

pub returns : goal.returns
returns c =
    made-all c.args.arena c.args.slots c.args.max_hereis c.args.first c.args.classes.items c.loop-alloc.nodes.items c.loop-alloc.classes.items c.loop-alloc.invariant
    (sym c.loop-alloc.classes.ok.0 ∙ eqb-true c.loop-alloc.classes.len 0 (sym c.is_empty.ensures ∙ c.loop-alloc-test.false))
