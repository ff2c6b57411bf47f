use Rattle.std.proofs.Common.{◌+◌, length, ap, ◌∙◌}
use Rattle.std.proofs.lemmas.List.Elements.{All-from_recursion}
use Rattle.ldm_model.specs.declared.event.Entry.{Entry}
use Rattle.ldm_rpc.specs.Streams.{Position}
use Rattle.ldm_intake.specs.Receiving.{Receiving}
use Rattle.ldm_downstream.specs.Pieces.{joined}
use Rattle.ldm_downstream.specs.Received.{at_stream_end}
use Rattle.ldm_between_ends.specs.Handed.{handed}
use Rattle.ldm_between_ends.specs.Passing.{Passing, IsPassing, moments_of, record_at}
use Rattle.ldm_between_ends.specs.Takings.{IsAt}
use Rattle.ldm_between_ends.proofs.Joining.{Joined, joins}
use Rattle.ldm_between_ends.proofs.Moments.{passes-are, moments-at}
use Rattle.ldm_between_ends.proofs.passing_laws.products_are_passed_on.Goals as goal

by_laws : goal.After-streams_are_read → (p : Passing) → IsPassing p → Joined p
by_laws c = joins c.what_is_written_is_read.ensures c.streams_are_read.ensures

pub returns-clause-goes_on : goal.returns-clause-goes_on
returns-clause-goes_on c = λ p passing. (by_laws c p passing).live

pub returns-clause-in_order : goal.returns-clause-in_order
returns-clause-in_order c = λ p passing. (by_laws c p passing).passes

pub returns-clause-whole : goal.returns-clause-whole
returns-clause-whole c = λ p passing. (by_laws c p passing).whole

pub returns-clause-edge : goal.returns-clause-edge
returns-clause-edge c = λ p passing. (by_laws c p passing).edge

pub returns-clause-ends : goal.returns-clause-ends
returns-clause-ends c = λ p passing bytes ended.
    let all = by_laws c p passing in
    ap (λ (q : Position). at_stream_end q p.came_to.receiving) (all.edge bytes)
    ∙ ap (λ (s : Receiving). at_stream_end (record_at (p.at + length (joined p.pieces))) s) (all.whole bytes ended).stands

pub returns-clause-at_once : goal.returns-clause-at_once
returns-clause-at_once c = λ p now passing at.
    All-from_recursion (λ (entry : Entry). IsAt now entry.event) p.made
    (passes-are now p.actor (moments_of p.pieces) (moments-at now p.pieces at) p.begins.last p.came_to.receiving.last (handed p.feeding) p.made
    (by_laws c p passing).passes)
