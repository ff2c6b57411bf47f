use Rattle.ldm_shared.proofs.OwnPoints.{point_seen}
use Rattle.ldm_shared.proofs.OwnLaw.{FrontsAreLegal, agrees, served, in_order, of_its_feeds, answered, gives_admitted, reads_admitted, holding, product_after_all, end_after_all, gap_tells_all}
use Rattle.ldm_shared.proofs.laws.own_readers.Goals as goal

pub returns-clause-in_order : goal.returns-clause-in_order
returns-clause-in_order c = in_order c.fifo.ensures.obeys_law

pub returns-clause-of_its_feeds : goal.returns-clause-of_its_feeds
returns-clause-of_its_feeds c =
    let fronts : FrontsAreLegal = λ arena slots front behind legal. ((c.histories_append.ensures.legal arena slots front behind).0 legal).0 in
    of_its_feeds c.fifo.ensures.obeys_law c.products_were_admitted.ensures fronts

pub returns-clause-gives_admitted : goal.returns-clause-gives_admitted
returns-clause-gives_admitted c = λ pass has q at entry later next about. gives_admitted pass has q at entry later next about c.fifo.ensures.obeys_law

pub returns-clause-reads_admitted : goal.returns-clause-reads_admitted
returns-clause-reads_admitted c = λ pass has q at entry later next about. reads_admitted pass has q at entry later next about c.fifo.ensures.obeys_law

pub returns-clause-gap_tells_all : goal.returns-clause-gap_tells_all
returns-clause-gap_tells_all c = λ pass has q at entry later next about. gap_tells_all pass has q at entry later next about c.fifo.ensures.obeys_law

pub returns-clause-product_after_all : goal.returns-clause-product_after_all
returns-clause-product_after_all c = λ pass has q at entry later next about. product_after_all pass has q at entry later next about c.fifo.ensures.obeys_law

pub returns-clause-end_after_all : goal.returns-clause-end_after_all
returns-clause-end_after_all c = λ pass has q at entry later next about. end_after_all pass has q at entry later next about c.fifo.ensures.obeys_law

pub returns-clause-holding : goal.returns-clause-holding
returns-clause-holding c = λ pass has q at entry later next about. holding pass has q at entry later next about c.fifo.ensures.obeys_law

pub returns-clause-seen : goal.returns-clause-seen
returns-clause-seen c = λ pass has q at. point_seen pass q at

pub returns-clause-agrees : goal.returns-clause-agrees
returns-clause-agrees c = λ pass has q at. agrees pass q

pub returns-clause-served : goal.returns-clause-served
returns-clause-served c = served c.fifo.ensures.obeys_law

pub returns-clause-answered : goal.returns-clause-answered
returns-clause-answered c = λ pass has q at entry later next about. answered pass has q at entry later next about c.fifo.ensures.obeys_law
