use Rattle.std.proofs.Common.{◌∙◌, sym}
use Rattle.ldm_wmo.proofs.BulletinLemmas.{begun, closed, no_first_line, no_heading_there, no_number_there, no_second_line, not_begun, not_closed, numbered}
use Rattle.ldm_wmo.proofs.bulletin.read_bulletin.Goals as goal

pub returns-in_err-rest-clause-read : goal.returns-in_err-rest-clause-read
returns-in_err-rest-clause-read c = rw c.from_residual.ensures (not_begun c.args.kind c.args.bytes.now c.in_err-rest.ensures)

pub returns-in_err-first-clause-read : goal.returns-in_err-first-clause-read
returns-in_err-first-clause-read c =
    rw c.from_residual-in_err-first.ensures
    (begun c.args.kind c.args.bytes.now c.in_ok-rest.rest.now c.in_ok-rest.ensures ∙ no_first_line c.args.kind c.in_ok-rest.rest.now c.in_err-first.ensures.rest)

pub returns-in_err-seqno-clause-read : goal.returns-in_err-seqno-clause-read
returns-in_err-seqno-clause-read c =
    rw c.from_residual-in_err-seqno.ensures
    (begun c.args.kind c.args.bytes.now c.in_ok-rest.rest.now c.in_ok-rest.ensures
    ∙ no_number_there c.args.kind c.in_ok-rest.rest.now c.in_ok-first.first.line.now c.in_ok-first.first.rest.now c.in_ok-first.ensures.rest c.in_ok-first.ensures.line c.in_err-seqno.ensures)

pub returns-in_err-second-clause-read : goal.returns-in_err-second-clause-read
returns-in_err-second-clause-read c =
    rw c.from_residual-in_err-second.ensures
    (begun c.args.kind c.args.bytes.now c.in_ok-rest.rest.now c.in_ok-rest.ensures
    ∙ numbered c.args.kind c.in_ok-rest.rest.now c.in_ok-first.first.line.now c.in_ok-first.first.rest.now c.in_ok-seqno.seqno c.in_ok-first.ensures.rest c.in_ok-first.ensures.line c.in_ok-seqno.ensures
    ∙ no_second_line c.args.kind c.in_ok-first.first.rest.now c.in_ok-seqno.seqno c.in_err-second.ensures.rest)

pub returns-in_err-heading-clause-read : goal.returns-in_err-heading-clause-read
returns-in_err-heading-clause-read c =
    rw c.from_residual-in_err-heading.ensures
    (begun c.args.kind c.args.bytes.now c.in_ok-rest.rest.now c.in_ok-rest.ensures
    ∙ numbered c.args.kind c.in_ok-rest.rest.now c.in_ok-first.first.line.now c.in_ok-first.first.rest.now c.in_ok-seqno.seqno c.in_ok-first.ensures.rest c.in_ok-first.ensures.line c.in_ok-seqno.ensures
    ∙ no_heading_there c.args.kind c.in_ok-first.first.rest.now c.in_ok-second.second.line.now c.in_ok-second.second.rest.now c.in_ok-seqno.seqno c.in_ok-second.ensures.rest c.in_ok-second.ensures.line
    c.in_err-heading.ensures.heading)

pub returns-then-not-is_closed_text-clause-read : goal.returns-then-not-is_closed_text-clause-read
returns-then-not-is_closed_text-clause-read c =
    begun c.args.kind c.args.bytes.now c.in_ok-rest.rest.now c.in_ok-rest.ensures
    ∙ numbered c.args.kind c.in_ok-rest.rest.now c.in_ok-first.first.line.now c.in_ok-first.first.rest.now c.in_ok-seqno.seqno c.in_ok-first.ensures.rest c.in_ok-first.ensures.line c.in_ok-seqno.ensures
    ∙ not_closed c.args.kind c.in_ok-first.first.rest.now c.in_ok-second.second.line.now c.in_ok-second.second.rest.now c.in_ok-heading.heading.now c.in_ok-seqno.seqno c.in_ok-second.ensures.rest
    c.in_ok-second.ensures.line c.in_ok-heading.ensures.heading (sym c.is_closed_text.ensures ∙ c.if-not-is_closed_text.true)

pub returns-clause-read : goal.returns-clause-read
returns-clause-read c =
    begun c.args.kind c.args.bytes.now c.in_ok-rest.rest.now c.in_ok-rest.ensures
    ∙ numbered c.args.kind c.in_ok-rest.rest.now c.in_ok-first.first.line.now c.in_ok-first.first.rest.now c.in_ok-seqno.seqno c.in_ok-first.ensures.rest c.in_ok-first.ensures.line c.in_ok-seqno.ensures
    ∙ closed c.args.kind c.in_ok-first.first.rest.now c.in_ok-second.second.line.now c.in_ok-second.second.rest.now c.in_ok-heading.heading.now c.in_ok-seqno.seqno c.in_ok-second.ensures.rest
    c.in_ok-second.ensures.line c.in_ok-heading.ensures.heading (sym c.is_closed_text.ensures ∙ c.if-not-is_closed_text.false)
