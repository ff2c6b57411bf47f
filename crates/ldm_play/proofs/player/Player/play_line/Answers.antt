use Rattle.std.proofs.Common.{◌≡◌, ◌∙◌, refl, sym, ap, subst, Ok, Some, List, ℕ}
use Rattle.std.specs.Option.{option_map}
use Rattle.ldm_script.specs.Grammar.{read_line}
use Rattle.ldm_script.specs.OrderView.{order_of, order_with}
use Rattle.ldm_script.specs.Resolve.{answer_order}
use Rattle.ldm_play.specs.PlayerView.{PlayerView, StandsForPlay, AnswersOrder}
use Rattle.ldm_play.proofs.PlayLineLemmas.{skipped, stops_at, answered_whole, answered_front}
use Rattle.ldm_play.proofs.player.Player.play_line.Goals as goal
use Rattle.ldm_play.proofs.player.Player.play_line.Goals.{in-Ok, in-Err-write_all}

pub returns-in-Ok-None-clause-played : goal.returns-in-Ok-None-clause-played
returns-in-Ok-None-clause-played g c = λ p stands.
    let here = subst (λ (v : PlayerView). StandsForPlay v p) (sym c.self.view_is) stands in
    skipped c.args.number p c.args.line.now (record { book = c.self.inside.book; last = c.self.inside.last }) (g.K.Sink.tells c.args.sink.now)
    (c.in-Ok-None.ensures.read ∙ ap (λ o. Ok (option_map (λ order. order_of (order_with c.read_line_into.new.info order)) o)) c.in-Ok-None.field-0-is) here

pub returns-in-Err-clause-played : goal.returns-in-Err-clause-played
returns-in-Err-clause-played g c = λ p stands. (stops_at c.args.number p c.args.line.now c.in-Err.bad.column c.in-Err.ensures.read, refl)

pub returns-clause-played : goal.returns-clause-played
returns-clause-played g c = λ p stands.
    let old = g.K.Sink.tells c.args.sink.now in
    let new = g.K.Sink.tells c.write_all.new.sink in
    let line = c.args.line.now in
    let order = order_of (order_with c.read_line_into.new.info c.in-Ok-Some.order) in
    let here = subst (λ (v : PlayerView). StandsForPlay v p) (sym c.self.view_is) stands in
    let is : read_line 64 line ≡ Ok (Some order) = c.in-Ok-Some.ensures.read ∙ ap (λ o. Ok (option_map (λ order. order_of (order_with c.read_line_into.new.info order)) o)) c.in-Ok-Some.field-0-is in
    let player : PlayerView = record { book = c.answer.new.book; last = c.answer.new.last } in
    let answers = subst (λ (t : List ℕ). AnswersOrder p (answer_order p order) player t) (sym c.text.ensures.text) (c.answer.ensures p here) in
    elim c.match-write_all.branch [
      | in-Ok w ↦ rw w.result-is (answered_whole c.args.number p line order is player c.text.result.now answers old new w.in-Ok.ensures.written)
      | in-Err-write_all w ↦
          let failed = w.in-Err-write_all.ensures.written in
          rw w.result-is (answered_front c.args.number p line order is player c.text.result.now answers old new failed.0 failed.1)
    ]
