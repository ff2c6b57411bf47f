use Rattle.std.proofs.Common.{refl}
use Rattle.ldm_pqact_match.proofs.Choices.{all_chosen, nothing_chosen, turn_acts, turn_passes}
use Rattle.ldm_pqact_match.proofs.choice.choose.Goals.{in-Some+in_ok-push, in_default}
use Rattle.ldm_pqact_match.proofs.choice.choose.Goals as goal

pub loop-place-init : goal.loop-place-init
loop-place-init c = (nothing_chosen c.as_slice-all.result.now c.args.info.now c.args.time c.new-chosen.result.items c.new-chosen.ensures.items, refl)

pub loop-place-preserved : goal.loop-place-preserved
loop-place-preserved c =
    let all = c.as_slice-all.result.now in
    let entry = c.index-all-place.result in
    let chosen = c.loop-place.chosen.items in
    let inv = c.loop-place.invariant in
    elim c.match-branch-2.branch [
      | in-Some+in_ok-push w ↦
          let choice = rw w.in-Some.is at c.in_ok-decision.ensures in
          rw (w.chosen-is, w.matched-is)
          (turn_acts all c.args.info.now c.args.time c.loop-place.place entry chosen w.push.new.self.items c.loop-place.matched w.has_matched-matched.result
          w.place_number.result w.in-Some.decision c.loop-place-test.true c.index-all-place.is inv.0 inv.1 choice.0 choice.1 w.place_number.ensures
          w.in_ok-push.ensures.items w.has_matched-matched.ensures)
      | in_default w ↦
          let pass = rw w.in_default.is at c.in_ok-decision.ensures in
          rw (w.chosen-is, w.matched-is)
          (turn_passes all c.args.info.now c.args.time c.loop-place.place entry chosen c.loop-place.matched c.loop-place-test.true c.index-all-place.is inv.0 inv.1 pass)
    ]

pub returns : goal.returns
returns c =
    let all = all_chosen c.as_slice-all.result.now c.args.info.now c.args.time c.loop-place.place c.loop-place.chosen.items c.loop-place-test.false c.loop-place.invariant.0 in
    record { chosen = rw c.as_slice-all.ensures at all }
