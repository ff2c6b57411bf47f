use Rattle.std.proofs.Common.{◌≡◌, ℕ, List, ap, ◌∙◌, ◌+◌, max, slice_set}
use Rattle.ldm_freelist.specs.Nodes.{node_at, height_at, joined}
use Rattle.ldm_freelist.specs.declared.node_table.Node.{Node}
use Rattle.ldm_freelist.proofs.node_table.NodeTable.join.Goals as goal

-- a node that is put where it was read, with new sides and a new height
put : List Node → ℕ → ℕ → ℕ → Node → ℕ → List Node
put nodes number left right stored high = slice_set nodes number (record { extent = stored.extent; offset = stored.offset; left = left; right = right; height = high + 1 })

pub returns : goal.returns
unfolding joined put
returns c =
    let nodes = c.args.self.now in
    let high : c.max-height.result ≡ max (height_at nodes c.args.left) (height_at nodes c.args.right) = c.max-height.ensures ∙ ap (λ h. max h c.height-2.result) c.height.ensures
    ∙ ap (max (height_at nodes c.args.left)) c.height-2.ensures in
    ap (λ (ns : List Node). put ns c.args.node c.args.left c.args.right c.node-stored.result c.max-height.result) c.self.view_is
    ∙ ap (λ (n : Node). put nodes c.args.node c.args.left c.args.right n c.max-height.result) c.node-stored.ensures
    ∙ ap (λ h. put nodes c.args.node c.args.left c.args.right (node_at nodes c.args.node) h) high
