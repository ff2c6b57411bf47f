use Rattle.std.proofs.Common.{◌∙◌, sym}
use Rattle.std.proofs.lemmas.Result.{err_from_is_err_and}
use Rattle.ldm_actions.specs.Effects.{in_hand}
use Rattle.ldm_actions.specs.Hands.{action_of}
use Rattle.ldm_actions.specs.Outputs.{standing}
use Rattle.ldm_pqact.specs.Handling.{bodied, lent}
use Rattle.ldm_pqact.proofs.Finishing.{HasBody, body_left, body_read, finished_by, has_begun, has_hand, not_begun, not_given}
use Rattle.ldm_pqact.proofs.writer.Writer.carry_out.Goals.{then-takes_body+in_ok-give_body, else-takes_body}
use Rattle.ldm_pqact.proofs.writer.Writer.carry_out.Goals as goal

pub returns-in_err-begun-clause-does : goal.returns-in_err-begun-clause-does
returns-in_err-begun-clause-does g c body holds =
    let why = err_from_is_err_and c.from_residual.result c.from_residual.ensures.1 in
    rw (why.1, why.2)
    (not_begun _ c.begin.result (bodied c.args.holding.now body) (action_of c.args.action.now) c.args.pass.now _ _ (sym c.begun.ensures ∙ c.in_err-begun.was) c.begin.ensures.begun holds)

pub give_body-requires-clause-in_hand : goal.give_body-requires-clause-in_hand
give_body-requires-clause-in_hand g c =
    let began = has_begun c.begin.result (action_of c.args.action.now) _ _ (sym c.begun.ensures ∙ c.in_ok-begun.was) c.begin.ensures.begun in (in_hand (action_of c.args.action.now), began.in_hand)

pub returns-in_err-give_body-clause-does : goal.returns-in_err-give_body-clause-does
returns-in_err-give_body-clause-does g c body holds =
    let why = err_from_is_err_and c.from_residual-in_err-give_body.result c.from_residual-in_err-give_body.ensures.1 in
    let action = action_of c.args.action.now in
    let began = has_begun c.begin.result action _ _ (sym c.begun.ensures ∙ c.in_ok-begun.was) c.begin.ensures.begun in
    rw (why.1, why.2)
    (not_given _ (bodied c.args.holding.now body) action _ _ _ began (c.in_err-give_body.ensures.reads (in_hand action) body holds began.in_hand))

pub finish-requires-clause-in_hand : goal.finish-requires-clause-in_hand
finish-requires-clause-in_hand g c =
    let action = action_of c.args.action.now in
    let body = c.requires.holds.0 in
    let it = bodied c.args.holding.now body in
    let began = has_begun c.begin.result action _ _ (sym c.begun.ensures ∙ c.in_ok-begun.was) c.begin.ensures.begun in
    elim c.if-takes_body.branch [
      | then-takes_body+in_ok-give_body w ↦
          rw w.self-is (has_hand it action _ _ (body_read it action _ _ _ began (w.in_ok-give_body.ensures.reads (in_hand action) body c.requires.holds.1 began.in_hand)))
      | else-takes_body w ↦
          rw w.self-is (has_hand it action _ _ (body_left it action c.args.pass.now _ _ c.takes_body.result c.takes_body.ensures w.if-takes_body.false began c.requires.holds.1))
    ]

pub returns-clause-does : goal.returns-clause-does
returns-clause-does g c body holds =
    let action = action_of c.args.action.now in
    let it = bodied c.args.holding.now body in
    let began = has_begun c.begin.result action _ _ (sym c.begun.ensures ∙ c.in_ok-begun.was) c.begin.ensures.begun in
    let a = lent c.args.pass.now (standing c.args.self.now.outputs (g.F.Store.tells c.args.store.now) (g.L.Launcher.tells c.args.launcher.now)) in
    let now = lent c.if-takes_body.pass (standing c.if-takes_body.self.outputs (g.F.Store.tells c.if-takes_body.store) (g.L.Launcher.tells c.if-takes_body.launcher)) in
    let has : HasBody it action a now =
    elim c.if-takes_body.branch [
      | then-takes_body+in_ok-give_body w ↦
          rw (w.pass-is, w.self-is, w.store-is, w.launcher-is) (body_read it action _ _ _ began (w.in_ok-give_body.ensures.reads (in_hand action) body holds began.in_hand))
      | else-takes_body w ↦
          rw (w.pass-is, w.self-is, w.store-is, w.launcher-is)
          (body_left it action c.args.pass.now _ _ c.takes_body.result c.takes_body.ensures w.if-takes_body.false began holds)
    ] in
    rw c.done.ensures (finished_by c.finish.result it action a now _ has c.finish.ensures.finished)
