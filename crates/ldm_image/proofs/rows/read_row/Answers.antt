use Rattle.std.proofs.Common.{◌≡◌, ◌+◌, refl, arith}
use Rattle.ldm_image.proofs.TableLemmas.{bad_number, good_number, no_time, bad_time, good_time, no_place, bad_place, row_is}
use Rattle.ldm_image.proofs.rows.read_row.Goals as goal
use Rattle.ldm_image.proofs.rows.read_row.Goals.{then-n-number-via-then-n-number, then-n-number-via-else-n-number+then-n-sizes}
use Rattle.ldm_image.proofs.rows.read_row.Goals.{then-end-time-via-then-end-time, then-end-time-via-else-end-time+then-end-sizes}
use Rattle.ldm_image.proofs.rows.read_row.Goals.{else-n-sizes-2-via-then-n-sizes-2+else-end-sizes-2, else-n-sizes-2-via-else-n-sizes-2}

pub returns-then-n-number-clause-judged : goal.returns-then-n-number-clause-judged
returns-then-n-number-clause-judged c =
    λ file holds from.
    let n = c.in-Some.n in
    let has = c.in-Some.ensures in
    bad_number c.args.table.now file c.args.sizes.now holds c.args.number c.args.time c.args.row from c.requires n has
    (λ le less.
    elim c.then-n-number.branch [
      | then-n-number-via-then-n-number w ↦ omega (arith, le, w.if-n-number.true)
      | then-n-number-via-else-n-number+then-n-sizes w ↦ omega (arith, less, w.if-n-sizes.true)
    ])

pub returns-in_default-number_in-clause-judged : goal.returns-in_default-number_in-clause-judged
returns-in_default-number_in-clause-judged c =
    λ file holds from.
    let n = c.in-Some.n in
    let has = c.in-Some.ensures in
    let good = good_number c.args.table.now file c.args.sizes.now holds c.args.number c.args.time c.args.row from c.requires n has (omega (arith, c.if-n-number.false)) (omega (arith, c.if-n-sizes.false)) in
    no_time c.args.table.now file c.args.sizes.now holds c.args.number c.args.time c.args.row from c.requires good c.in_default-number_in.ensures

pub returns-then-end-time-clause-judged : goal.returns-then-end-time-clause-judged
returns-then-end-time-clause-judged c =
    λ file holds from.
    let n = c.in-Some.n in
    let has = c.in-Some.ensures in
    let good = good_number c.args.table.now file c.args.sizes.now holds c.args.number c.args.time c.args.row from c.requires n has (omega (arith, c.if-n-number.false)) (omega (arith, c.if-n-sizes.false)) in
    let end = c.in-Some-number_in.end in
    let ends = c.in-Some-number_in.ensures in
    bad_time c.args.table.now file c.args.sizes.now holds c.args.number c.args.time c.args.row from c.requires n end has good ends
    (λ le less newest.
    elim c.then-end-time.branch [
      | then-end-time-via-then-end-time w ↦ omega (arith, le, w.if-end-time.true)
      | then-end-time-via-else-end-time+then-end-sizes w ↦ omega (arith, less, w.if-end-sizes.true)
    ])

pub returns-then-end-sizes-2-clause-judged : goal.returns-then-end-sizes-2-clause-judged
returns-then-end-sizes-2-clause-judged c =
    λ file holds from.
    let n = c.in-Some.n in
    let has = c.in-Some.ensures in
    let good = good_number c.args.table.now file c.args.sizes.now holds c.args.number c.args.time c.args.row from c.requires n has (omega (arith, c.if-n-number.false)) (omega (arith, c.if-n-sizes.false)) in
    let end = c.in-Some-number_in.end in
    let ends = c.in-Some-number_in.ensures in
    bad_time c.args.table.now file c.args.sizes.now holds c.args.number c.args.time c.args.row from c.requires n end has good ends
    (λ le less newest. let last = newest (omega (arith, c.if-n-sizes-2.true)) in omega (arith, last, c.if-end-sizes-2.true))

pub returns-in_default-number_in-2-clause-judged : goal.returns-in_default-number_in-2-clause-judged
returns-in_default-number_in-2-clause-judged c =
    λ file holds from.
    let n = c.in-Some.n in
    let has = c.in-Some.ensures in
    let good = good_number c.args.table.now file c.args.sizes.now holds c.args.number c.args.time c.args.row from c.requires n has (omega (arith, c.if-n-number.false)) (omega (arith, c.if-n-sizes.false)) in
    let end = c.in-Some-number_in.end in
    let ends = c.in-Some-number_in.ensures in
    let newest : n + 1 ≡ c.args.sizes.now.admitted → end + 1 ≡ c.args.sizes.now.end =
    elim c.else-n-sizes-2.branch [
      | else-n-sizes-2-via-then-n-sizes-2+else-end-sizes-2 w ↦ (λ is. omega (arith, w.if-end-sizes-2.false))
      | else-n-sizes-2-via-else-n-sizes-2 w ↦ (λ is. absurd (omega (arith, is, w.if-n-sizes-2.false)))
    ] in
    let timed = good_time c.args.table.now file c.args.sizes.now holds c.args.number c.args.time c.args.row from c.requires n end has ends (omega (arith, c.if-end-time.false)) (omega (arith, c.if-end-sizes.false)) newest in
    no_place c.args.table.now file c.args.sizes.now holds c.args.number c.args.time c.args.row from c.requires good timed c.in_default-number_in-2.ensures

pub returns-then-place-ne0-clause-judged : goal.returns-then-place-ne0-clause-judged
returns-then-place-ne0-clause-judged c =
    λ file holds from.
    let n = c.in-Some.n in
    let has = c.in-Some.ensures in
    let good = good_number c.args.table.now file c.args.sizes.now holds c.args.number c.args.time c.args.row from c.requires n has (omega (arith, c.if-n-number.false)) (omega (arith, c.if-n-sizes.false)) in
    let end = c.in-Some-number_in.end in
    let ends = c.in-Some-number_in.ensures in
    let newest : n + 1 ≡ c.args.sizes.now.admitted → end + 1 ≡ c.args.sizes.now.end =
    elim c.else-n-sizes-2.branch [
      | else-n-sizes-2-via-then-n-sizes-2+else-end-sizes-2 w ↦ (λ is. omega (arith, w.if-end-sizes-2.false))
      | else-n-sizes-2-via-else-n-sizes-2 w ↦ (λ is. absurd (omega (arith, is, w.if-n-sizes-2.false)))
    ] in
    let timed = good_time c.args.table.now file c.args.sizes.now holds c.args.number c.args.time c.args.row from c.requires n end has ends (omega (arith, c.if-end-time.false)) (omega (arith, c.if-end-sizes.false)) newest in
    let place = c.in-Some-number_in-2.place in
    let places = c.in-Some-number_in-2.ensures in
    bad_place c.args.table.now file c.args.sizes.now holds c.args.number c.args.time c.args.row from c.requires place places good timed (λ whole. omega (arith, whole, c.if-place-ne0.true))

pub returns-in-Some-new-clause-judged : goal.returns-in-Some-new-clause-judged
returns-in-Some-new-clause-judged c =
    λ file holds from.
    let n = c.in-Some.n in
    let has = c.in-Some.ensures in
    let good = good_number c.args.table.now file c.args.sizes.now holds c.args.number c.args.time c.args.row from c.requires n has (omega (arith, c.if-n-number.false)) (omega (arith, c.if-n-sizes.false)) in
    let end = c.in-Some-number_in.end in
    let ends = c.in-Some-number_in.ensures in
    let newest : n + 1 ≡ c.args.sizes.now.admitted → end + 1 ≡ c.args.sizes.now.end =
    elim c.else-n-sizes-2.branch [
      | else-n-sizes-2-via-then-n-sizes-2+else-end-sizes-2 w ↦ (λ is. omega (arith, w.if-end-sizes-2.false))
      | else-n-sizes-2-via-else-n-sizes-2 w ↦ (λ is. absurd (omega (arith, is, w.if-n-sizes-2.false)))
    ] in
    let timed = good_time c.args.table.now file c.args.sizes.now holds c.args.number c.args.time c.args.row from c.requires n end has ends (omega (arith, c.if-end-time.false)) (omega (arith, c.if-end-sizes.false)) newest in
    let place = c.in-Some-number_in-2.place in
    let places = c.in-Some-number_in-2.ensures in
    row_is c.args.table.now file c.args.sizes.now holds c.args.number c.args.time c.args.row from c.requires n end place (record { n = n; time = c.in-Some-new.time; place = place }) has ends places good timed (omega (arith, c.if-place-ne0.false)) refl (c.in-Some-new.ensures.1) refl
