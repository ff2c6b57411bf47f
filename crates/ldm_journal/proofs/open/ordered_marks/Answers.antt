use Rattle.std.proofs.Common.{◌≡◌, ◌⊎◌, inl, inr, ◌<◌, ◌≤◌, Bool, length, subst, arith}
use Rattle.std.specs.Prelude.{IsTrue}
use Rattle.std.proofs.lemmas.Bool.{cases_lt}
use Rattle.ldm_journal.specs.declared.places.TheConstants.{NOTE}
use Rattle.ldm_journal.specs.Opening.{HasNumbers}
use Rattle.ldm_journal.specs.Format.{selected}
use Rattle.ldm_journal.proofs.OpenLemmas.{bad_head, front_judged}
use Rattle.std.proofs.lemmas.Bool.{both_ways}
use Rattle.ldm_journal.proofs.open.ordered_marks.Goals as goal

pub returns-then-is_ordered-clause-judged : goal.returns-then-is_ordered-clause-judged
returns-then-is_ordered-clause-judged c = λ file is long.
    let front = c.args.front.now in
    let marks = c.marks_at-marks.result in
    front_judged marks c.args.ring front file is c.requires.opened long (subst (λ (o : Bool). HasNumbers marks c.args.ring o front) c.is_odd.ensures c.marks_at-marks.ensures)

pub returns-then-is_ordered-clause-sound : goal.returns-then-is_ordered-clause-sound
returns-then-is_ordered-clause-sound c =
    let held : IsTrue c.is_ordered.result = c.if-is_ordered.true in
    let ordered = c.is_ordered.ensures.0 held in
    let numbers = c.marks_at-marks.ensures in
    let noted : length c.marks_at-marks.result.note ≡ NOTE = omega arith in
    (omega (arith, numbers.ring, c.requires.sized), ordered.0, omega (arith, ordered.1, numbers.appended), numbers.small, noted)

pub returns-else-is_ordered-clause-judged : goal.returns-else-is_ordered-clause-judged
returns-else-is_ordered-clause-judged c = λ file is long.
    let front = c.args.front.now in
    let ring = c.args.ring in
    let marks = c.marks_at-marks.result in
    let numbers : HasNumbers marks ring (selected front) front = subst (λ (o : Bool). HasNumbers marks ring o front) c.is_odd.ensures c.marks_at-marks.ensures in
    let out : (ring ≤ marks.front) ⊎ (ring < marks.used) =
    elim (cases_lt marks.front ring) [
      | inl low ↦ elim (cases_lt ring marks.used) [
        | inl over ↦ inr over
        | inr fits ↦ absurd (both_ways c.is_ordered.result c.if-is_ordered.false (c.is_ordered.ensures.1 (omega (arith, low, numbers.ring), omega (arith, fits, numbers.ring))))
      ]
      | inr over ↦ inl over
    ] in
    bad_head marks ring file (front_judged marks ring front file is c.requires.opened long numbers) out
