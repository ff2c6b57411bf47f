-- How a gathering begins and ends.
use Rattle.std.proofs.Common.{◌≡◌, ◌∙◌, ℕ, Bool, true, false, List, Option, None, inl, inr, refl, sym, subst}
use Rattle.std.specs.Prelude.{if◌then◌else◌, Result, Ok, Err, is_err}
use Rattle.ldm_outside.specs.declared.link.LinkFailed.{LinkFailed}
use Rattle.ldm_outside.specs.Link.{LinkRecord, SendsAll}
use Rattle.ldm_shared.specs.Passes.{PassView}
use Rattle.ldm_intake.specs.declared.end.RecvEnd.{RecvEnd}
use Rattle.ldm_intake.specs.declared.end.RecvEnd.TheVariants.{Ended, Truncated, BadFrame, Refused, LinkFault, LogFault, StreamLimit, Worn, OutOfMemory}
use Rattle.ldm_intake.specs.Opening.{request_of}
use Rattle.ldm_intake.specs.Receiving.{Receiving}
use Rattle.ldm_relay.specs.Spelling.{records_of}
use Rattle.ldm_downstream.specs.Pushing.{ClosesIf, EndsAt}
use Rattle.ldm_downstream.specs.Received.{at_stream_end, is_edge}
use Rattle.ldm_downstream.specs.ReceiverView.{ReceiverView, before_stream}
use Rattle.ldm_gather.specs.declared.end.GatherEnd.{GatherEnd}
use Rattle.ldm_gather.specs.declared.end.GatherEnd.TheVariants as end
use Rattle.ldm_gather.specs.declared.end.Handled.{Handled}
use Rattle.ldm_gather.specs.Gathering.{EndsBy, EndsStream, Gathers, GathersAll}
use Rattle.ldm_gather.specs.Scene.{Lent, GatherMoment, Scene, moment_of}
use Rattle.ldm_gather.specs.Turning.{RunsToEnd}

-- an end that a stream's end can lead to
abbrev IsStreamEnd : RecvEnd → Type 0
IsStreamEnd Ended = Unit {0}
IsStreamEnd (Truncated at) = Unit {0}
IsStreamEnd Worn = Unit {0}
IsStreamEnd (BadFrame at) = ⊥
IsStreamEnd (Refused answer) = ⊥
IsStreamEnd LinkFault = ⊥
IsStreamEnd LogFault = ⊥
IsStreamEnd StreamLimit = ⊥
IsStreamEnd OutOfMemory = ⊥

by-edge : (edge : Bool) (at : ℕ) → IsStreamEnd (if edge then Ended else Truncated at)
by-edge true at = tt
by-edge false at = tt

stream-end : (result : RecvEnd) (receiver : ReceiverView) (pass after : PassView) → receiver.end ≡ None → EndsAt receiver.end result receiver pass after → IsStreamEnd result
stream-end result receiver pass after live ends = by_close at_end.1
  where
    at_end : EndsAt None result receiver pass after
    at_end = subst (λ (end : Option RecvEnd). EndsAt end result receiver pass after) live ends

    by_close : ClosesIf false (at_stream_end receiver.hand receiver.receiving) result receiver.receiving at_end.0 pass after → IsStreamEnd result
    by_close (inl closed) = subst IsStreamEnd (sym closed.0) (by-edge (is_edge receiver.hand receiver.receiving) receiver.hand.came)
    by_close (inr kept) = subst IsStreamEnd (sym kept.0) tt

module _ {W A B : Type 0} (handles : Handled → Scene W A B → Scene W A B → Type 0) where
  ends-stream : (result : RecvEnd) (last new : GatherMoment W A B) → IsStreamEnd result → EndsStream result last new → EndsBy handles (end.Received result) last new
  ends-stream Ended last new is ends = ends
  ends-stream (Truncated at) last new is ends = ends
  ends-stream Worn last new is ends = inr ends
  ends-stream (BadFrame at) last new is ends = absurd is
  ends-stream (Refused answer) last new is ends = absurd is
  ends-stream LinkFault last new is ends = absurd is
  ends-stream LogFault last new is ends = absurd is
  ends-stream StreamLimit last new is ends = absurd is
  ends-stream OutOfMemory last new is ends = absurd is

  -- pieces came, and the receiver came to its end with the stream
  pub ran-out : (result : RecvEnd) (old at_end : GatherMoment W A B) (after : PassView) → RunsToEnd handles old at_end → at_end.receiver.end ≡ None
      → EndsAt at_end.receiver.end result at_end.receiver at_end.scene.pass after
      → Gathers handles (end.Received result) old (record at_end { scene = record at_end.scene { pass = after } })
  ran-out result old at_end after runs live ends = record {
    pieces = runs.pieces;
    last = runs.last;
    goes_on = runs.goes_on;
    ends =
        ends-stream result runs.last (record at_end { scene = record at_end.scene { pass = after } })
        (stream-end result at_end.receiver at_end.scene.pass after live ends)
        (record { at_end = at_end; is_at_end = runs.is_at_end; ends = ends; others = refl });
  }

  pub unsent : (s : Receiving) (result : Result (Unit {0}) LinkFailed) (piece out : List ℕ) (old : Lent W A B) (link : LinkRecord) → is_err result ≡ true → piece ≡ out
      → out ≡ records_of (request_of s) → SendsAll result piece old.link link → GathersAll handles (end.Received LinkFault) s old (record old { link = link })
  unsent s (Ok done) piece out old link failed same owed sends = absurd (cc failed)
  unsent s (Err why) piece out old link failed same owed sends = record {
    receiver = before_stream s false;
    gathers = inr (record { front = sends.0; rest = sends.1; all = sends.2 ∙ (same ∙ owed); failing = sends.3; others = refl });
  }

  pub asked : (end : GatherEnd) (s : Receiving) (result : Result (Unit {0}) LinkFailed) (piece out : List ℕ) (first last : ReceiverView) (old new : Lent W A B) (link : LinkRecord)
      → is_err result ≡ false → piece ≡ out → out ≡ records_of (request_of s) → SendsAll result piece old.link link → first ≡ before_stream s false
      → Gathers handles end (moment_of first (record old { link = link })) (moment_of last new) → GathersAll handles end s old new
  asked end s (Err why) piece out first last old new link went same owed sends begins gathers = absurd (cc went)
  asked end s (Ok done) piece out first last old new link went same owed sends begins gathers = record {
    receiver = last;
    gathers = inl (record {
      asked = moment_of (before_stream s false) (record old { link = link });
      sent = subst (λ (bytes : List ℕ). SendsAll (Ok done) bytes old.link link) (same ∙ owed) sends;
      others = refl;
      gathers = subst (λ (receiver : ReceiverView). Gathers handles end (moment_of receiver (record old { link = link })) (moment_of last new)) begins gathers;
    });
  }
