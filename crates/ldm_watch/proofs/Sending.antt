-- What sending and writing came to.
use Rattle.std.proofs.Common.{◌≡◌, ℕ, true, false, List, [], refl, sym, subst, ◌∙◌}
use Rattle.std.specs.Prelude.{Result, Ok, Err, is_err}
use Rattle.ldm_outside.specs.declared.io.SinkFailed.{SinkFailed}
use Rattle.ldm_outside.specs.declared.link.LinkFailed.{LinkFailed}
use Rattle.ldm_outside.specs.Io.{SinkRecord, WritesAll}
use Rattle.ldm_outside.specs.Link.{LinkRecord, SendsAll, Sent}
use Rattle.ldm_outside.proofs.CallerLemmas.{Takes-nothing}
use Rattle.ldm_session.proofs.CallerLemmas.{Exchanged-front, Exchanged-sent}
use Rattle.ldm_watch.specs.Sessions.{Writes, FailsToSend, FailsToWrite}

pub sends-failed : (result : Result (Unit {0}) LinkFailed) (piece out : List ℕ) (old new : LinkRecord) (sink : SinkRecord) → is_err result ≡ true → piece ≡ out
    → SendsAll result piece old new → FailsToSend out (record { link = old; sink = sink }) (record { link = new; sink = sink })
sends-failed (Ok done) piece out old new sink failed same sends = absurd (cc failed)
sends-failed (Err why) piece out old new sink failed same sends =
    let there = Exchanged-front old new sends.0 sends.3 in
    record {
      sent = sends.0;
      rest = sends.1;
      all = sends.2 ∙ same;
      writes = record { exchanged = there.0; written = Takes-nothing sink sink refl };
      rose = there.1;
    }

pub sends-all : (result : Result (Unit {0}) LinkFailed) (piece : List ℕ) (old new : LinkRecord) → is_err result ≡ false → SendsAll result piece old new → Sent old piece new
sends-all (Ok done) piece old new went sends = sends
sends-all (Err why) piece old new went sends = absurd (cc went)

pub writes-failed : (result : Result (Unit {0}) SinkFailed) (piece lines out : List ℕ) (old new : LinkRecord) (sink after : SinkRecord) → is_err result ≡ true → piece ≡ lines
    → Sent old out new → WritesAll result piece sink after → FailsToWrite out lines (record { link = old; sink = sink }) (record { link = new; sink = after })
writes-failed (Ok done) piece lines out old new sink after failed same sent writes = absurd (cc failed)
writes-failed (Err why) piece lines out old new sink after failed same sent writes = record {
  front = writes.1.0;
  rest = writes.1.1;
  all = writes.1.2 ∙ same;
  writes = record { exchanged = Exchanged-sent old new out sent; written = writes.1.3 };
  rose = writes.0;
}

pub writes-all : (result : Result (Unit {0}) SinkFailed) (lines out : List ℕ) (old new : LinkRecord) (sink after : SinkRecord) → is_err result ≡ false
    → Sent old out new → WritesAll result lines sink after → Writes out lines (record { link = old; sink = sink }) (record { link = new; sink = after })
writes-all (Ok done) lines out old new sink after went sent writes = record { exchanged = Exchanged-sent old new out sent; written = writes }
writes-all (Err why) lines out old new sink after went sent writes = absurd (cc went)
