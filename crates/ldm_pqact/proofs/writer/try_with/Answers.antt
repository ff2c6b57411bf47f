use Rattle.std.proofs.Common.{◌∙◌, sym}
use Rattle.std.proofs.lemmas.Result.{err_from_is_err_and}
use Rattle.ldm_actions.specs.Hands.{action_of}
use Rattle.ldm_pqact.proofs.Finishing.{began_hand, finished_with, given_whole, has_begun, unbegun, ungiven, whole_hand}
use Rattle.ldm_pqact.proofs.writer.try_with.Goals as goal

pub returns-in_err-begun-clause-does : goal.returns-in_err-begun-clause-does
returns-in_err-begun-clause-does g c =
    let why = err_from_is_err_and c.from_residual.result c.from_residual.ensures.1 in
    rw (why.1, why.2)
    (unbegun _ c.begin.result (action_of c.args.action.now) c.args.bytes.now _ _ (sym c.begun.ensures ∙ c.in_err-begun.was) c.begin.ensures.begun)

pub piece-requires-clause-in_hand : goal.piece-requires-clause-in_hand
piece-requires-clause-in_hand g c =
    began_hand (action_of c.args.action.now) _ _
    (has_begun c.begin.result (action_of c.args.action.now) _ _ (sym c.begun.ensures ∙ c.in_ok-begun.was) c.begin.ensures.begun)

pub returns-in_err-done-clause-does : goal.returns-in_err-done-clause-does
returns-in_err-done-clause-does g c =
    let action = action_of c.args.action.now in
    let why = err_from_is_err_and c.from_residual-in_err-done.result c.from_residual-in_err-done.ensures.1 in
    let began = has_begun c.begin.result action _ _ (sym c.begun.ensures ∙ c.in_ok-begun.was) c.begin.ensures.begun in
    rw (why.1, why.2) (ungiven _ c.piece.result action c.args.bytes.now _ _ _ (sym c.done.ensures ∙ c.in_err-done.was) began c.piece.ensures.given)

pub finish-requires-clause-in_hand : goal.finish-requires-clause-in_hand
finish-requires-clause-in_hand g c =
    let action = action_of c.args.action.now in
    let began = has_begun c.begin.result action _ _ (sym c.begun.ensures ∙ c.in_ok-begun.was) c.begin.ensures.begun in
    whole_hand action c.args.bytes.now _ _
    (given_whole c.piece.result action c.args.bytes.now _ _ _ (sym c.done.ensures ∙ c.in_ok-done.was) began c.piece.ensures.given)

pub returns-clause-does : goal.returns-clause-does
returns-clause-does g c =
    let action = action_of c.args.action.now in
    let began = has_begun c.begin.result action _ _ (sym c.begun.ensures ∙ c.in_ok-begun.was) c.begin.ensures.begun in
    let whole = given_whole c.piece.result action c.args.bytes.now _ _ _ (sym c.done.ensures ∙ c.in_ok-done.was) began c.piece.ensures.given in
    rw c.done-2.ensures (finished_with c.finish.result action c.args.bytes.now _ _ _ whole c.finish.ensures.finished)
