use Rattle.std.proofs.Common.{refl, sym, subst}
use Rattle.ldm_model.specs.History.{after}
use Rattle.ldm_book.specs.View.{BookView}
use Rattle.ldm_play.specs.OnBook.{PlaysOn, play_from, beside}
use Rattle.ldm_play.specs.PlayerView.{PlayerView, StandsForPlay}
use Rattle.ldm_play.proofs.CompletesLemmas.{script_done}
use Rattle.ldm_play.proofs.LawLemmas.{plays}
use Rattle.ldm_play.proofs.on_book.play_on.Goals as goal

pub returns-clause-plays : goal.returns-clause-plays
returns-clause-plays g c = λ s history log_before log_after stands.
    let p = play_from s history in
    let old = beside log_before (g.S.Source.tells c.args.source.now) (g.K.Sink.tells c.args.sink.now) in
    let new = beside log_after (g.S.Source.tells c.play_script-end.new.source) (g.K.Sink.tells c.play_script-end.new.sink) in
    let player = subst (λ (v : PlayerView). StandsForPlay v p) (sym c.in_ok-player.ensures) (record { state = stands; last = refl }) in
    subst (λ (book : BookView). PlaysOn c.play_script-end.result p book old new) (sym c.into_book.ensures) (c.play_script-end.ensures.plays p log_before log_after player)

pub returns-clause-law : goal.returns-clause-law
returns-clause-law g c = λ arena slots history log_before log_after legal stands.
    let s = after arena slots history in
    let p = play_from s history in
    let old = beside log_before (g.S.Source.tells c.args.source.now) (g.K.Sink.tells c.args.sink.now) in
    let new = beside log_after (g.S.Source.tells c.play_script-end.new.source) (g.K.Sink.tells c.play_script-end.new.sink) in
    let player = subst (λ (v : PlayerView). StandsForPlay v p) (sym c.in_ok-player.ensures) (record { state = stands; last = refl }) in
    plays c.histories_are_lawful.ensures (record { arena = arena; slots = slots }) p (record { legal = legal; state = refl }) old new c.play_script-end.result
    (c.play_script-end.ensures.plays p log_before log_after player).plays

pub returns-clause-completes : goal.returns-clause-completes
returns-clause-completes g c = λ s history log_before log_after stands free.
    let p = play_from s history in
    let old = beside log_before (g.S.Source.tells c.args.source.now) (g.K.Sink.tells c.args.sink.now) in
    let new = beside log_after (g.S.Source.tells c.play_script-end.new.source) (g.K.Sink.tells c.play_script-end.new.sink) in
    let player = subst (λ (v : PlayerView). StandsForPlay v p) (sym c.in_ok-player.ensures) (record { state = stands; last = refl }) in
    script_done p old new free c.play_script-end.result (c.play_script-end.ensures.plays p log_before log_after player).plays
