use Rattle.std.proofs.Common.{sym, subst, List}
use Rattle.ldm_upstream.specs.Feeding.{begun}
use Rattle.ldm_between_ends.specs.Handed.{Handed, handed}
use Rattle.ldm_between_ends.specs.Passing.{moments_of}
use Rattle.ldm_between_ends.proofs.Moments.{moments-at}
use Rattle.ldm_between_ends.proofs.Queueing.{HaveSizes, sizes-handed, sizes-front, after-takings}
use Rattle.ldm_between_ends.proofs.passing_laws.a_queue_is_passed_on.Goals as goal

pub returns-clause-whole : goal.returns-clause-whole
returns-clause-whole c = λ p now queue passing bytes ended at legal.
    let is = passing.granted.is in
    let passes = c.products_are_passed_on.ensures.whole p passing bytes ended in
    after-takings p.actor p.asked.max_hereis now (moments_of p.pieces) (moments-at now p.pieces at) (handed p.feeding) p.made queue
    (sizes-handed p.asked p.feeding.turns (begun p.feeding) p.feeding.last is.turns is.last) passes.takings legal

pub returns-clause-first : goal.returns-clause-first
returns-clause-first c = λ p now queue is at passes legal.
    let most = p.asked.max_hereis in
    let sizes = sizes-handed p.asked p.feeding.turns (begun p.feeding) p.feeding.last is.turns is.last in
    let front = sizes-front most passes.done passes.left (subst (λ (x : List Handed). HaveSizes most x) (sym passes.all) sizes) in
    after-takings p.actor most now (moments_of p.pieces) (moments-at now p.pieces at) passes.done passes.made_is.first queue front
    passes.made_is.is_first legal
