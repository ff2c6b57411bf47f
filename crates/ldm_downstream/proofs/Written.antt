-- What sending and writing came to, and the turn that it ends.
use Rattle.std.proofs.Common.{◌≡◌, ℕ, true, false, List, [], Option, Some, refl, ap, subst, ◌∙◌}
use Rattle.std.specs.Prelude.{Result, Ok, Err, is_err}
use Rattle.ldm_rpc.specs.Streams.{Position}
use Rattle.ldm_outside.specs.declared.io.SinkFailed.{SinkFailed}
use Rattle.ldm_outside.specs.declared.link.LinkFailed.{LinkFailed}
use Rattle.ldm_outside.specs.Count.{Rose}
use Rattle.ldm_outside.specs.Io.{SinkRecord, WritesAll}
use Rattle.ldm_outside.specs.Link.{LinkRecord, SendsAll, Sent}
use Rattle.ldm_outside.specs.Session.{SessionRecord}
use Rattle.ldm_shared.specs.Passes.{PassView}
use Rattle.ldm_session.proofs.CallerLemmas.{Exchanged-front, Exchanged-sent}
use Rattle.ldm_intake.specs.declared.end.RecvEnd.{RecvEnd}
use Rattle.ldm_intake.specs.declared.end.RecvEnd.TheVariants.{Ended, Truncated, BadFrame, Refused, LinkFault, LogFault, StreamLimit, Worn, OutOfMemory}
use Rattle.ldm_intake.specs.Receiving.{Receiving}
use Rattle.ldm_intake.specs.TakesRecord.{Standing}
use Rattle.ldm_downstream.specs.Pieces.{Piece}
use Rattle.ldm_downstream.specs.ReceiverView.{ReceiverView}
use Rattle.ldm_downstream.specs.Pushing.{Pushes, FailsAt}
use Rattle.ldm_downstream.specs.Sessions.{HasCome, Writes, WritesAt, FailsToSend, FailsToLog, RunsOut, settled}
use Rattle.ldm_downstream.proofs.Linked.{TakesBytes-nothing}
use Rattle.ldm_downstream.proofs.Rounds.{front-all, front-none, link_fault, log_fault, round-failed}

pub sends-failed : (result : Result (Unit {0}) LinkFailed) (piece out : List ℕ) (old new : LinkRecord) (log : SinkRecord) → is_err result ≡ true → piece ≡ out
    → SendsAll result piece old new → FailsToSend out old new log log
sends-failed (Ok done) piece out old new log failed same sends = absurd (cc failed)
sends-failed (Err why) piece out old new log failed same sends =
    let there = Exchanged-front old new sends.0 sends.3 in
    record {
      sent = sends.0;
      front = record { rest = sends.1; is = sends.2 ∙ same };
      writes = record { exchanged = there.0; sends = ap (λ (link : LinkRecord). link.passed) sends.3.1; logged = TakesBytes-nothing log log refl };
      rose = there.1;
    }

pub sends-all : (result : Result (Unit {0}) LinkFailed) (piece : List ℕ) (old new : LinkRecord) → is_err result ≡ false → SendsAll result piece old new → Sent old piece new
sends-all (Ok done) piece old new went sends = sends
sends-all (Err why) piece old new went sends = absurd (cc went)

pub writes-failed : (result : Result (Unit {0}) SinkFailed) (piece notes out : List ℕ) (old new : LinkRecord) (log after : SinkRecord) → is_err result ≡ true → piece ≡ notes
    → Sent old out new → WritesAll result piece log after → FailsToLog out notes old new log after
writes-failed (Ok done) piece notes out old new log after failed same sent writes = absurd (cc failed)
writes-failed (Err why) piece notes out old new log after failed same sent writes = record {
  lines = writes.1.0;
  front = record { rest = writes.1.1; is = writes.1.2 ∙ same };
  writes = record { exchanged = Exchanged-sent old new out sent; sends = ap (λ (link : LinkRecord). link.passed) sent; logged = writes.1.3 };
  rose = writes.0;
}

pub writes-all : (result : Result (Unit {0}) SinkFailed) (notes out : List ℕ) (old new : LinkRecord) (log after : SinkRecord) → is_err result ≡ false
    → Sent old out new → WritesAll result notes log after → Writes out notes old new log after
writes-all (Ok done) notes out old new log after went sent writes =
    record { exchanged = Exchanged-sent old new out sent; sends = ap (λ (link : LinkRecord). link.passed) sent; logged = writes }
writes-all (Err why) notes out old new log after went sent writes = absurd (cc went)

-- ---- a fault

-- behind a piece
pub failed-round : (fault : RecvEnd) (end : Option RecvEnd) (result : RecvEnd) (ahead : List ℕ) (piece : Piece) (p : Position) (s : Receiving) (v : PassView) (b : Standing)
    (was is_now : ReceiverView) (pass : PassView) (begins before after : SessionRecord) → HasCome ahead piece begins before → after.clock ≡ before.clock
    → WritesAt (Some fault) b.out b.notes before.link after.link before.log after.log → b.receiving ≡ was.receiving
    → Pushes end piece p was.hand (settled s v) b → FailsAt end fault result was is_now b.pass pass → RunsOut result ahead is_now pass p (settled s v) begins after
failed-round LinkFault end result ahead piece p s v b was is_now pass begins before after come clock writes receiving pushes fails =
    round-failed ahead piece p s v writes.sent [] begins before after come clock writes.writes b writes.front (front-none b.notes) LinkFault link_fault
    end result was is_now pass receiving pushes fails (subst (λ (n : ℕ). Rose n after.link.faults) come.faults writes.rose)
failed-round LogFault end result ahead piece p s v b was is_now pass begins before after come clock writes receiving pushes fails =
    round-failed ahead piece p s v b.out writes.lines begins before after come clock writes.writes b (front-all b.out) writes.front LogFault log_fault
    end result was is_now pass receiving pushes fails (subst (λ (s : SinkRecord). Rose s.faults after.log.faults) come.log writes.rose)
failed-round Ended end result ahead piece p s v b was is_now pass begins before after come clock writes receiving pushes fails = absurd writes
failed-round (Truncated at) end result ahead piece p s v b was is_now pass begins before after come clock writes receiving pushes fails = absurd writes
failed-round (BadFrame at) end result ahead piece p s v b was is_now pass begins before after come clock writes receiving pushes fails = absurd writes
failed-round (Refused answer) end result ahead piece p s v b was is_now pass begins before after come clock writes receiving pushes fails = absurd writes
failed-round StreamLimit end result ahead piece p s v b was is_now pass begins before after come clock writes receiving pushes fails = absurd writes
failed-round Worn end result ahead piece p s v b was is_now pass begins before after come clock writes receiving pushes fails = absurd writes
failed-round OutOfMemory end result ahead piece p s v b was is_now pass begins before after come clock writes receiving pushes fails = absurd writes
