use Rattle.std.proofs.Common.{◌∙◌, ◌^◌, ◌<◌, sym, arith}
use Rattle.ldm_book.specs.View.{Kept}
use Rattle.ldm_book.specs.Products.{at_number}
use Rattle.ldm_book.specs.RowKept.{row_kept}
use Rattle.ldm_book.proofs.MeetingLemmas.{at_least, found_all, meets_here, meets_later, meets_none}
use Rattle.ldm_book.proofs.products.Products.first_meeting.Goals as goal

pub returns-then-meets : goal.returns-then-meets
returns-then-meets c =
    let meets = sym c.meets.ensures.value ∙ c.if-meets.true in
    sym (meets_here c.args.feed.0 c.loop-row.at c.args.self.now.rows (row_kept c.in-Some.row) (sym c.in-Some.ensures.first) meets) ∙ c.loop-row.invariant

pub overflow_add-at : goal.overflow_add-at
overflow_add-at c = omega (arith, found_all (λ (k : Kept). k.number < 2 ^ 63) (at_number c.loop-row.at) c.args.self.now.rows (row_kept c.in-Some.row) c.requires (sym c.in-Some.ensures.first))

pub loop-row-smaller : goal.loop-row-smaller
loop-row-smaller c =
    let below = found_all (λ (k : Kept). k.number < 2 ^ 63) (at_number c.loop-row.at) c.args.self.now.rows (row_kept c.in-Some.row) c.requires (sym c.in-Some.ensures.first) in
    let above = at_least c.loop-row.at c.args.self.now.rows (row_kept c.in-Some.row) (sym c.in-Some.ensures.first) in
    omega arith

pub loop-row-preserved : goal.loop-row-preserved
loop-row-preserved c =
    let apart = sym c.meets.ensures.value ∙ c.if-meets.false in
    sym (meets_later c.args.feed.0 c.loop-row.at c.args.self.now.rows (row_kept c.in-Some.row) c.in-Some.ensures.rising (sym c.in-Some.ensures.first) apart) ∙ c.loop-row.invariant

pub returns : goal.returns
returns c = sym (meets_none c.args.feed.0 c.loop-row.at c.args.self.now.rows (sym c.in_default.ensures.first)) ∙ c.loop-row.invariant
