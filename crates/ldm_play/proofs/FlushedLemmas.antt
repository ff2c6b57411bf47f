-- Answers that are handed on behind lines that were played: for `IsFlushed`.
use Rattle.std.proofs.Common.{◌≡◌, ℕ, ◌≤◌, List, [], Ok, Err, Result, inl, inr, sym, subst, false, true}
use Rattle.std.proofs.lemmas.List.{append-nil}
use Rattle.ldm_outside.specs.Count.{Rose}
use Rattle.ldm_outside.specs.Io.{SinkRecord, Takes, WritesFront}
use Rattle.ldm_outside.proofs.CallerLemmas.{Rose-later, Takes-same}
use Rattle.ldm_script.specs.Resolve.{Playing}
use Rattle.ldm_play.specs.declared.player.LineFault.{LineFault}
use Rattle.ldm_play.specs.declared.player.LineFault.TheVariants as stop
use Rattle.ldm_play.specs.Lines.{known_lines}
use Rattle.ldm_play.specs.Play.{play}
use Rattle.ldm_play.specs.PlayerView.{PlayerView}
use Rattle.ldm_play.specs.PendingView.{PendingView}
use Rattle.ldm_play.specs.Ending.{StopsAt}
use Rattle.ldm_play.specs.Legal.{StaysLegal}
use Rattle.ldm_play.specs.Step.{PieceGives, EndGives, IsFlushed}
use Rattle.ldm_play.proofs.GoesOnLemmas.{answers_known_lines}

-- the sink failed, and took no more
abbrev FailedOnly : SinkRecord → SinkRecord → Type 0
FailedOnly now after = Rose now.faults after.faults × (after.written ≡ now.written)

front_same : (before now after : SinkRecord) (text : List ℕ) → WritesFront before text now → after.written ≡ now.written → WritesFront before text after
front_same before now after text (front, rest, parts, taken) same = (front, rest, parts, Takes-same before now after front taken same)

all_front : (before now : SinkRecord) (text : List ℕ) → Takes before text now → WritesFront before text now
all_front before now text taken = (text, [], append-nil text, taken)

-- lines that are answered, and whose answers were not all handed on
answered : (p : Playing) (lines : List (List ℕ)) (before now after : SinkRecord) → Takes before (play 1 p lines).text now → StaysLegal p (play 1 p lines).playing
    → before.faults ≤ now.faults → FailedOnly now after → StopsAt stop.SinkFault p lines before after
answered p lines before now after taken legal kept failed =
    let front = front_same before now after (play 1 p lines).text (all_front before now (play 1 p lines).text taken) failed.1 in (
      Rose-later before.faults now.faults after.faults kept failed.0,
      front,
      record { first = lines; rest = []; are = append-nil lines; written = front; legal = legal },
    )

stopped : (why : LineFault) (p : Playing) (lines : List (List ℕ)) (before now after : SinkRecord) → StopsAt why p lines before now → before.faults ≤ now.faults → FailedOnly now after
    → StopsAt stop.SinkFault p lines before after
stopped (stop.BadLine line column) p lines before now after stops kept failed = answered p lines before now after stops.1 stops.2 kept failed
stopped stop.SinkFault p lines before now after stops kept failed = (
  Rose-later before.faults now.faults after.faults kept failed.0,
  front_same before now after (play 1 p lines).text stops.1 failed.1,
  let first = stops.2 in
      record {
        first = first.first;
        rest = first.rest;
        are = first.are;
        written = front_same before now after (play 1 p first.first).text first.written failed.1;
        legal = first.legal;
      },
)

-- what was handed on was played before
pub flushed_same : (done : Unit {0}) (played : Result (Unit {0}) LineFault) (now after : SinkRecord) → IsFlushed (Ok done) played now after → after ≡ now
flushed_same done played now after (inl same) = same.1
flushed_same done played now after (inr failed) = let e = failed.0 in absurd cc

-- a piece of a script was played, and its answers were handed on
pub piece_flushed : (result played : Result (Unit {0}) LineFault) (p : Playing) (script : List ℕ) (player : PlayerView) (pending : PendingView) (before now after : SinkRecord)
    → before.faults ≤ now.faults → PieceGives played p script player pending before now → IsFlushed result played now after → PieceGives result p script player pending before after
piece_flushed result played p script player pending before now after kept gives (inl same) =
    subst (λ (r : Result (Unit {0}) LineFault). PieceGives r p script player pending before after) (sym same.0)
    (subst (λ (s : SinkRecord). PieceGives played p script player pending before s) (sym same.1) gives)
piece_flushed result (Ok done) p script player pending before now after kept gives (inr failed) =
    let known = answers_known_lines p script player pending before now gives in
    subst (λ (r : Result (Unit {0}) LineFault). PieceGives r p script player pending before after) (sym failed.0)
    (answered p (known_lines false script) before now after known.written known.legal kept (failed.1, failed.2))
piece_flushed result (Err why) p script player pending before now after kept gives (inr failed) =
    subst (λ (r : Result (Unit {0}) LineFault). PieceGives r p script player pending before after) (sym failed.0)
    (stopped why p (known_lines false script) before now after gives kept (failed.1, failed.2))

-- the end of a script was played, and its answers were handed on
pub end_flushed : (result played : Result (Unit {0}) LineFault) (p : Playing) (script : List ℕ) (player : PlayerView) (before now after : SinkRecord)
    → before.faults ≤ now.faults → EndGives played p script player before now → IsFlushed result played now after → EndGives result p script player before after
end_flushed result played p script player before now after kept gives (inl same) =
    subst (λ (r : Result (Unit {0}) LineFault). EndGives r p script player before after) (sym same.0)
    (subst (λ (s : SinkRecord). EndGives played p script player before s) (sym same.1) gives)
end_flushed result (Ok done) p script player before now after kept gives (inr failed) =
    subst (λ (r : Result (Unit {0}) LineFault). EndGives r p script player before after) (sym failed.0)
    (answered p (known_lines true script) before now after gives.written gives.legal kept (failed.1, failed.2))
end_flushed result (Err why) p script player before now after kept gives (inr failed) =
    subst (λ (r : Result (Unit {0}) LineFault). EndGives r p script player before after) (sym failed.0)
    (stopped why p (known_lines true script) before now after gives kept (failed.1, failed.2))
