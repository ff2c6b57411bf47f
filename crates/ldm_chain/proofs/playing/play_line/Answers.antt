use Rattle.std.proofs.Common.{◌≡◌, ◌∙◌, Ok, Err, Some, None, sym, ap, subst}
use Rattle.std.specs.Option.{option_map}
use Rattle.ldm_script.specs.Grammar.{read_line}
use Rattle.ldm_script.specs.OrderView.{order_of}
use Rattle.ldm_play.specs.Play.{Played, answer_written, nothing_played, play_line}
use Rattle.ldm_play.specs.PlayerView.{PlayerView}
use Rattle.ldm_script.specs.Resolve.{answer_order}
use Rattle.ldm_chain.specs.Steps.{Follows}
use Rattle.ldm_play.proofs.PlayLineLemmas.{play_line-reading}
use Rattle.ldm_chain.proofs.playing.play_line.Goals as goal

pub returns-in-Ok-Some : goal.returns-in-Ok-Some
returns-in-Ok-Some c = λ p stands.
    let line = c.args.line.now in
    let order = order_of c.in-Ok-Some.order in
    let is : read_line 64 line ≡ Ok (Some order) = c.in-Ok-Some.ensures.read ∙ ap (λ o. Ok (option_map order_of o)) c.in-Ok-Some.field-0-is in
    let played : play_line c.args.number p line ≡ answer_written (answer_order p order) = play_line-reading c.args.number p line (Ok (Some order)) is in
    let player : PlayerView = record { book = c.answer.new.book; last = c.answer.new.last } in
    (ap (λ (x : Played). x.stop) played, subst (λ (x : Played). Follows p x.playing player) (sym played) (c.answer.ensures p stands))

pub returns-in-Ok-None : goal.returns-in-Ok-None
returns-in-Ok-None c = λ p stands.
    let line = c.args.line.now in
    let is : read_line 64 line ≡ Ok None = c.in-Ok-None.ensures.read ∙ ap (λ o. Ok (option_map order_of o)) c.in-Ok-None.field-0-is in
    let played : play_line c.args.number p line ≡ nothing_played p = play_line-reading c.args.number p line (Ok None) is in
    let player : PlayerView = record { book = c.args.book.now; last = c.args.last.now } in
    let follows : Follows p p player = record { stands = stands; legal = λ arena slots legal. legal } in
    (ap (λ (x : Played). x.stop) played, subst (λ (x : Played). Follows p x.playing player) (sym played) follows)

pub returns-in-Err : goal.returns-in-Err
returns-in-Err c = λ p stands. ap (λ (x : Played). x.stop) (play_line-reading c.args.number p c.args.line.now (Err c.in-Err.bad.column) c.in-Err.ensures.read)
