use Rattle.std.proofs.Common.{◌≡◌, ◌∙◌, ℕ, List, Ok, Err, Result, sym, subst, eqb, true, false, length}
use Rattle.ldm_outside.specs.Io.{SinkRecord}
use Rattle.ldm_script.specs.Resolve.{Playing}
use Rattle.ldm_play.specs.declared.player.LineFault.{LineFault}
use Rattle.ldm_script.specs.Lines.{whole_lines}
use Rattle.ldm_play.specs.Play.{play, play_line}
use Rattle.ldm_play.specs.PlayerView.{PlayerView}
use Rattle.ldm_play.specs.PendingView.{PendingView}
use Rattle.ldm_play.specs.Step.{GoesOn, LineGives, EndGives}
use Rattle.ldm_play.proofs.GoesOnLemmas.{nothing_left, last_ends, last_stops}
use Rattle.ldm_play.proofs.play_command.play_rest.Goals as goal

-- the end of the script, by what its last line gave
end_gives : (result : Result (Unit {0}) LineFault) (p : Playing) (script : List ℕ) (player played : PlayerView) (pending : PendingView) (before now after : SinkRecord) → GoesOn p script player pending before now
    → eqb (length pending.bytes) 0 ≡ false
    → (number : ℕ) (line : List ℕ) → number ≡ pending.number → line ≡ pending.bytes
    → LineGives result (play 1 p (whole_lines script)).playing (play_line number (play 1 p (whole_lines script)).playing line) played now after → EndGives result p script played before after
end_gives (Ok done) p script player played pending before now after on some number line n-is l-is gives =
    let same = subst (λ (n : ℕ). LineGives (Ok done) (play 1 p (whole_lines script)).playing (play_line n (play 1 p (whole_lines script)).playing pending.bytes) played now after) n-is
    (subst (λ (l : List ℕ). LineGives (Ok done) (play 1 p (whole_lines script)).playing (play_line number (play 1 p (whole_lines script)).playing l) played now after) l-is gives) in
    last_ends p script player pending before now on played after some same.0 same.1 same.2 same.3
end_gives (Err why) p script player played pending before now after on some number line n-is l-is gives =
    last_stops p script player pending before now on why after some
    (subst (λ (n : ℕ). LineGives (Err why) (play 1 p (whole_lines script)).playing (play_line n (play 1 p (whole_lines script)).playing pending.bytes) played now after) n-is
    (subst (λ (l : List ℕ). LineGives (Err why) (play 1 p (whole_lines script)).playing (play_line number (play 1 p (whole_lines script)).playing l) played now after) l-is gives))

pub returns-then-is_empty-clause-played : goal.returns-then-is_empty-clause-played
returns-then-is_empty-clause-played g c = λ p script before on.
    let none : eqb (length c.args.pending.now.bytes) 0 ≡ true = sym c.is_empty.ensures ∙ c.if-is_empty.true in
    nothing_left p script c.args.player.now c.args.pending.now before (g.K.Sink.tells c.args.sink.now) on none

pub returns-clause-played : goal.returns-clause-played
returns-clause-played g c = λ p script before on.
    let some : eqb (length c.args.pending.now.bytes) 0 ≡ false = sym c.is_empty.ensures ∙ c.if-is_empty.false in
    end_gives c.play_line.result p script c.args.player.now c.play_line.new.self c.args.pending.now before (g.K.Sink.tells c.args.sink.now) (g.K.Sink.tells c.play_line.new.sink) on some
    c.number.result c.as_slice.result.now c.number.ensures c.as_slice.ensures.value (c.play_line.ensures.played _ on.stands)
