use Rattle.std.proofs.Common.{◌∙◌, ◌^◌, ◌<◌, ℕ, Bool, cond, sym, ap, arith}
use Rattle.ldm_book.specs.View.{Kept}
use Rattle.ldm_book.specs.Products.{at_number}
use Rattle.ldm_book.specs.RowKept.{row_kept}
use Rattle.ldm_book.proofs.MeetingLemmas.{at_least, found_all, count_later, count_none}
use Rattle.ldm_book.proofs.products.Products.count_meeting.Goals as goal
use Rattle.ldm_book.proofs.products.Products.count_meeting.Goals.{then-meets, else-meets}

abbrev one_if : Bool → ℕ
one_if b = cond b 1 0

pub overflow_add-count : goal.overflow_add-count
overflow_add-count c =
    let below = found_all (λ (k : Kept). k.number < 2 ^ 63) (at_number c.loop-row.at) c.args.self.now.rows (row_kept c.in-Some.row) c.requires (sym c.in-Some.ensures.first) in
    let above = at_least c.loop-row.at c.args.self.now.rows (row_kept c.in-Some.row) (sym c.in-Some.ensures.first) in
    omega (arith, c.loop-row.invariant.few)

pub overflow_add-at : goal.overflow_add-at
overflow_add-at c = omega (arith, found_all (λ (k : Kept). k.number < 2 ^ 63) (at_number c.loop-row.at) c.args.self.now.rows (row_kept c.in-Some.row) c.requires (sym c.in-Some.ensures.first))

pub loop-row-smaller : goal.loop-row-smaller
loop-row-smaller c =
    let below = found_all (λ (k : Kept). k.number < 2 ^ 63) (at_number c.loop-row.at) c.args.self.now.rows (row_kept c.in-Some.row) c.requires (sym c.in-Some.ensures.first) in
    let above = at_least c.loop-row.at c.args.self.now.rows (row_kept c.in-Some.row) (sym c.in-Some.ensures.first) in
    omega arith

pub loop-row-preserved : goal.loop-row-preserved
loop-row-preserved c =
    let later = count_later c.args.feed.0 c.loop-row.at c.args.self.now.rows (row_kept c.in-Some.row) c.in-Some.ensures.rising (sym c.in-Some.ensures.first) in
    let above = at_least c.loop-row.at c.args.self.now.rows (row_kept c.in-Some.row) (sym c.in-Some.ensures.first) in
    let test = c.meets.ensures.value in
    elim c.if-meets.branch [
      | then-meets w ↦ (
          let one = ap (λ (b : Bool). one_if b) (sym test ∙ w.if-meets.true) in
          record { counted = omega (arith, later, one, w.count-is, c.loop-row.invariant.counted); few = omega (arith, c.loop-row.invariant.few, w.count-is) })
      | else-meets w ↦ (
          let none = ap (λ (b : Bool). one_if b) (sym test ∙ w.if-meets.false) in
          record { counted = omega (arith, later, none, w.count-is, c.loop-row.invariant.counted); few = omega (arith, c.loop-row.invariant.few, w.count-is) })
    ]

pub returns : goal.returns
returns c = omega (arith, count_none c.args.feed.0 c.loop-row.at c.args.self.now.rows (sym c.in_default.ensures.first), c.loop-row.invariant.counted)
