use Rattle.std.proofs.Common.{arith}
use Rattle.jiff_core.proofs.SignedLemmas.{signed_arith}
use Rattle.ldm_pqact_match.proofs.Moments.{moment_shown, year_shown}
use Rattle.ldm_pqact_match.proofs.moment.Moment.of.Goals as goal

pub invariant_of-result : goal.invariant_of-result
invariant_of-result c =
    let year = year_shown c.shown_at-shown.result c.args.instant c.shown_at-shown.ensures.bound c.shown_at-shown.ensures.shown in
    rw year.1 (omega (arith, signed_arith, year.2, year.3), omega (arith, signed_arith, year.2, year.3))

pub invariant_of-result-2 : goal.invariant_of-result-2
invariant_of-result-2 c =
    let year = year_shown c.shown_at-shown.result c.args.instant c.shown_at-shown.ensures.bound c.shown_at-shown.ensures.shown in
    rw year.1 (record { first = omega (arith, year.2); last = omega (arith, year.3) })

pub returns : goal.returns
returns c = moment_shown c.shown_at-shown.result c.args.instant c.shown_at-shown.ensures.bound c.shown_at-shown.ensures.shown
