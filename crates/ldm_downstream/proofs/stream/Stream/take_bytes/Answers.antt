use Rattle.std.proofs.Common.{◌≡◌, ℕ, true, eqb, List, [], ◌∷◌, length, Option, refl, sym, subst, ◌∙◌, arith}
use Rattle.std.proofs.lemmas.Bool.{both_ways, ne_eqb}
use Rattle.ldm_intake.specs.declared.end.RecvEnd.{RecvEnd}
use Rattle.ldm_downstream.specs.ReceiverView.{moment}
use Rattle.ldm_downstream.specs.Turns.{Turns, turned}
use Rattle.ldm_downstream.proofs.Running.{runs-none, runs-more, runs-all, ends-all, none_written}
use Rattle.ldm_downstream.proofs.stream.Stream.take_bytes.Goals as goal

is_empty : (bytes : List ℕ) → true ≡ eqb (length bytes) 0 → bytes ≡ []
is_empty [] e = refl
is_empty (byte ∷ bytes) e = absurd (both_ways (eqb (length (byte ∷ bytes)) 0) (ne_eqb (length (byte ∷ bytes)) 0 (omega arith)) (sym e))

pub loop-rest-init : goal.loop-rest-init
loop-rest-init g c = (
  runs-none c.args.now c.args.self.now.hand c.args.bytes.now (moment c.args.self.now.receiving c.args.pass.now c.args.out.now c.args.notes.now)
      (rw (← c.self.view_is) c.self.invariant.ready) c.requires.sound,
  refl,
)

pub loop-rest-preserved : goal.loop-rest-preserved
loop-rest-preserved g c =
    let none = none_written c.take_first-count.new.end (sym c.is_some.ensures ∙ c.if-is_some.false) in
    let new = moment c.take_first-count.new.self.receiving c.take_first-count.new.pass c.take_first-count.new.out c.take_first-count.new.notes in (
      runs-more c.args.now c.args.self.now.hand c.args.bytes.now (moment c.args.self.now.receiving c.args.pass.now c.args.out.now c.args.notes.now)
          c.loop-rest.self.hand c.loop-rest.rest.now (moment c.loop-rest.self.receiving c.loop-rest.pass c.loop-rest.out c.loop-rest.notes) c.loop-rest.invariant.0
          c.take_first-count.result c.take_first-count.new.self.hand new
          (subst (λ (end : Option RecvEnd). Turns (turned c.take_first-count.result end) c.args.now c.loop-rest.rest.now c.loop-rest.self.hand c.take_first-count.new.self.hand
          (moment c.loop-rest.self.receiving c.loop-rest.pass c.loop-rest.out c.loop-rest.notes) new) none c.take_first-count.ensures.turns) _ refl,
      none,
    )

pub returns-then-is_some-clause-runs : goal.returns-then-is_some-clause-runs
returns-then-is_some-clause-runs g c =
    ends-all c.args.now c.args.self.now.hand c.args.bytes.now (moment c.args.self.now.receiving c.args.pass.now c.args.out.now c.args.notes.now)
    c.loop-rest.self.hand c.loop-rest.rest.now (moment c.loop-rest.self.receiving c.loop-rest.pass c.loop-rest.out c.loop-rest.notes) c.loop-rest.invariant.0
    c.take_first-count.result c.take_first-count.new.self.hand (moment c.take_first-count.new.self.receiving c.take_first-count.new.pass c.take_first-count.new.out c.take_first-count.new.notes)
    c.take_first-count.new.end _ (sym c.is_some.ensures ∙ c.if-is_some.true) c.take_first-count.ensures.turns

pub returns-clause-runs : goal.returns-clause-runs
returns-clause-runs g c =
    runs-all c.args.now c.args.self.now.hand c.args.bytes.now (moment c.args.self.now.receiving c.args.pass.now c.args.out.now c.args.notes.now)
    c.loop-rest.self.hand c.loop-rest.rest.now (moment c.loop-rest.self.receiving c.loop-rest.pass c.loop-rest.out c.loop-rest.notes) c.loop-rest.invariant.0
    (is_empty c.loop-rest.rest.now c.loop-rest-test.ensures)
