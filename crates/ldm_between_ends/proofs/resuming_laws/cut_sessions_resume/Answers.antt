use Rattle.std.proofs.Common.{◌≡◌, ◌∙◌, List, ◌++◌, ap, sym, subst}
use Rattle.std.specs.Prelude.{Contains}
use Rattle.ldm_between_ends.specs.Handed.{Handed, handed, last_of}
use Rattle.ldm_between_ends.specs.Passing.{PassesFirst, moments_of}
use Rattle.ldm_between_ends.specs.Session.{Session, IsSession}
use Rattle.ldm_between_ends.specs.Offered.{IsAskedFor, offered_products, products_left}
use Rattle.ldm_between_ends.proofs.Behind.{QueueLaws, all-above, all-next}
use Rattle.ldm_between_ends.proofs.BlocksCame.{came-or-declined}
use Rattle.ldm_between_ends.proofs.Counting.{done-settled, left-unsettled}
use Rattle.ldm_between_ends.proofs.FindingLast.{EndsLaw, are-resumed}
use Rattle.ldm_between_ends.proofs.Handing.{offered-first}
use Rattle.ldm_between_ends.proofs.Resuming.{resumed-rise}
use Rattle.ldm_between_ends.proofs.resuming_laws.cut_sessions_resume.Goals as goal

-- what the laws say that are called
abbrev queue_laws : goal.After-reads_what_is_written → QueueLaws
queue_laws c = record {
  readers = c.every_reader_is_served.ensures.obeys_law;
  signatures = c.signatures_differ.ensures;
  stays = c.products_stay.ensures.stays;
}

passes_first : goal.After-reads_what_is_written → (s : Session) → IsSession s → PassesFirst s.passing
passes_first c s is = c.products_are_passed_on.ensures.in_order s.passing is.passing

pub returns-clause-first : goal.returns-clause-first
returns-clause-first c = offered-first

-- the products that were taken are those that were offered, and the others are left
done-offered : (s : Session) (done left : List Handed) → done ++ left ≡ handed s.passing.feeding → IsAskedFor s.passing done left → offered_products s ≡ done
done-offered s done left all fits = done-settled s.passing.actor (moments_of s.passing.pieces) (handed s.passing.feeding) s.passing.made done left all fits

left-over : (s : Session) (done left : List Handed) → done ++ left ≡ handed s.passing.feeding → IsAskedFor s.passing done left → products_left s ≡ left
left-over s done left all fits = left-unsettled s.passing.actor (moments_of s.passing.pieces) (handed s.passing.feeding) s.passing.made done left all fits

pub returns-clause-taken : goal.returns-clause-taken
returns-clause-taken c = λ s is.
    let passes = passes_first c s is in
    let done = done-offered s passes.done passes.left passes.all passes.made_is in
    let left = left-over s passes.done passes.left passes.all passes.made_is in
    coe 0 1 (i. IsAskedFor s.passing (sym done i) (sym left i)) passes.made_is

pub returns-clause-no_others : goal.returns-clause-no_others
returns-clause-no_others c = λ s done left all fits. sym (done-offered s done left all fits)

last_is : goal.After-reads_what_is_written → EndsLaw
last_is c = λ s is.
    let passes = passes_first c s is in
    passes.last_is ∙ ap (last_of s.passing.begins.last) (sym (done-offered s passes.done passes.left passes.all passes.made_is))

pub returns-clause-last : goal.returns-clause-last
returns-clause-last c = last_is c

pub returns-clause-in_blocks : goal.returns-clause-in_blocks
returns-clause-in_blocks c = λ s is product there large some.
    let passes = passes_first c s is in
    let done = done-offered s passes.done passes.left passes.all passes.made_is in
    came-or-declined s.passing is.passing passes product (subst (λ (hs : List Handed). Contains hs product) done there) large some

pub returns-clause-behind : goal.returns-clause-behind
returns-clause-behind c = λ s n is b. all-above (queue_laws c) s is n b

pub returns-clause-passes_over : goal.returns-clause-passes_over
returns-clause-passes_over c = λ s n is b. all-next (queue_laws c) s is n b

pub returns-clause-rising : goal.returns-clause-rising
returns-clause-rising c = resumed-rise (queue_laws c)

pub returns-clause-resumed : goal.returns-clause-resumed
returns-clause-resumed c = λ class sessions can are finds.
    are-resumed c.products_stay.ensures.stays c.reads_what_is_written.ensures (λ s is. last_is c s is) class can sessions are finds
