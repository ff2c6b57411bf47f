use Rattle.std.proofs.Common.{◌≡◌, ◌++◌, drop}
use Rattle.std.specs.List.{flat_map}
use Rattle.ldm_model.specs.State.{State, queued}
use Rattle.ldm_book.specs.Stands.{StandsFor}
use Rattle.ldm_chain.specs.CommandQueues.{product_line}
use Rattle.ldm_chain.proofs.texts.add_products.Given as goal

abbrev pub invariant-loop-i : goal.invariant-loop-i
invariant-loop-i l = (s : State) → StandsFor l.book s
    → l.text.items ++ flat_map product_line (drop l.i (queued s)) ≡ l.fn.text.items ++ flat_map product_line (queued s)
