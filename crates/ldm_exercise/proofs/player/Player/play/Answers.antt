use Rattle.std.proofs.Common.{◌++◌, [], ◌∷◌, sym, subst}
use Rattle.ldm_model.specs.declared.event.Reply.{Reply}
use Rattle.ldm_answers.specs.Answer.{reply_of}
use Rattle.ldm_exercise.specs.Kept.{Keeps, PlayerView, HasPlayed}
use Rattle.ldm_exercise.proofs.PlayedLemmas.{after_call}
use Rattle.ldm_exercise.proofs.player.Player.play.Goals as goal

pub returns-clause-played : goal.returns-clause-played
returns-clause-played c = λ e has.
    let here = subst (λ (v : PlayerView). HasPlayed v e) (sym c.self.view_is) has in
    let order = c.args.order.now in
    let reply = reply_of c.in-Ok.answer in
    let came = after_call e.playing order.actor order.request c.self.inside.book c.call.new.book reply has.legal has.state here.stands c.in-Ok.ensures.made in
    record {
      legal = came.legal;
      state = came.state;
      stands = came.stands;
      keeps = subst (λ (r : Reply). Keeps c.add.new.self (e.replies ++ r ∷ [])) came.is_reply (c.add.ensures.kept e.replies here.keeps);
    }
