use Rattle.ldm_chain.specs.CommandNodes.{queue_of}
use Rattle.ldm_chain.proofs.TextLemmas.{on-ok}
use Rattle.ldm_chain.proofs.texts.add_node.Goals as goal

pub returns-clause-text : goal.returns-clause-text
returns-clause-text c = on-ok c.add_book.result (λ added. added (queue_of c.args.node) c.in_ok-book.ensures.stands) c.add_book.ensures
