use Rattle.std.proofs.Common.{List, ℕ, [], refl, subst}
use Rattle.std.proofs.lemmas.Result.{err_from_is_err_and}
use Rattle.std.specs.Prelude.{Err}
use Rattle.ldm_shared.proofs.Made.{calls_none}
use Rattle.ldm_sender.specs.Answering.{AnswersClass, answer_deed}
use Rattle.ldm_sender.specs.Does.{moment_of}
use Rattle.ldm_sender.proofs.Doing.{nothing_done}
use Rattle.ldm_sender.proofs.declining.decline.Goals as goal

pub returns-in_err-out-clause-declines : goal.returns-in_err-out-clause-declines
returns-in_err-out-clause-declines g c = λ pass.
    let now = moment_of pass (g.K.Link.tells c.args.link.now) (g.C.Clock.tells c.args.clock.now) [] in
    let why = err_from_is_err_and c.from_residual.result c.from_residual.ensures.1 in
    rw (why.1, why.2)
    (0, [], nothing_done now now (answer_deed c.args.xid c.args.answer 0) c.requires (calls_none pass) refl refl, tt)

pub returns-in_err-answer_class-clause-declines : goal.returns-in_err-answer_class-clause-declines
returns-in_err-answer_class-clause-declines g c = λ pass.
    let link = g.K.Link.tells c.args.link.now in
    let link' = g.K.Link.tells c.answer_class.new.link in
    let clock = g.C.Clock.tells c.args.clock.now in
    let clock' = g.C.Clock.tells c.answer_class.new.clock in
    let out' = c.answer_class.new.out.items in
    let P : List ℕ → Type 0 =
    λ out. AnswersClass (Err c.in_err-answer_class.field-0.0) c.args.xid c.args.answer (moment_of pass link clock out)
    (moment_of pass link' clock' out') in
    let answers = subst P c.in_ok-out.ensures.empty (c.in_err-answer_class.ensures.answers pass) in
    let why =
    err_from_is_err_and c.from_residual-in_err-answer_class.result c.from_residual-in_err-answer_class.ensures.1 in
    rw (why.1, why.2) (answers.0, out', answers.1, answers.2)
