-- A link that was connected, watched and given back.
use Rattle.std.proofs.Common.{◌≡◌, ◌⊎◌, ℕ, ◌<◌, inl, inr, refl, ap, subst, arith}
use Rattle.ldm_outside.specs.declared.dial.Dialled.TheVariants.{Linked}
use Rattle.ldm_outside.specs.Count.{Rose}
use Rattle.ldm_outside.specs.Dial.{DialRecord, ConnectGives, DialTakesBack}
use Rattle.ldm_outside.specs.Io.{SinkRecord}
use Rattle.ldm_outside.specs.Lending.{CountsBack}
use Rattle.ldm_outside.specs.Link.{LinkRecord, IsNotClosed}
use Rattle.ldm_status.specs.declared.status.Status.TheVariants as status
use Rattle.ldm_tools.specs.Asking.{IsLinked}
use Rattle.ldm_watch.specs.declared.end.WatchEnd.{WatchEnd}
use Rattle.ldm_watch.specs.declared.end.WatchEnd.TheVariants.{Ended, Counted, Truncated, BadFrame, Refused, LinkFault, SinkFault, StreamLimit, OutOfMemory}
use Rattle.ldm_watch.specs.Complete.{IsComplete}
use Rattle.ldm_watch.specs.Held.{Holds}
use Rattle.ldm_watch.specs.Notifyme.{Wanted, WatchesPeer, status_of_watch}

-- a count that rose from 0 is above it
above : (n : ℕ) → Rose 0 n → 0 < n
above n (inl some) = some
above n (inr still) = absurd (omega (arith, still.0))

counted : (came left lent old new : ℕ) → came ≡ 0 → lent ≡ old → CountsBack left lent new → Rose came left → Rose old new
counted came left lent old new none same counts rose =
    let P : ℕ → Type 0 = λ n. Rose n left in
    let Q : ℕ → Type 0 = λ n. Rose n new in
    subst Q same (counts.rose (above left (subst P none rose)))

complete_status : (end : WatchEnd) → IsComplete end → (status_of_watch end ≡ status.Done) ⊎ (end ≡ OutOfMemory)
complete_status Ended is = inl refl
complete_status Counted is = inl refl
complete_status OutOfMemory is = inr refl
complete_status (Truncated at) is = absurd is
complete_status (BadFrame at) is = absurd is
complete_status (Refused answer) is = absurd is
complete_status LinkFault is = absurd is
complete_status SinkFault is = absurd is
complete_status StreamLimit is = absurd is

module _ (end : WatchEnd) (wanted : Wanted) (came : LinkRecord) (old lent new : DialRecord) (old_sink new_sink : SinkRecord)
    (dialled : ConnectGives (λ (link : LinkRecord). link) (Linked came) wanted.peer old lent) where
  linked : (left : LinkRecord) → IsNotClosed left → DialTakesBack left lent new → IsLinked wanted.peer came left old new
  linked left not_closed back = record {
    lent = lent;
    dialled = dialled;
    not_closed = not_closed;
    given_back = back;
    ended = counted came.ends left.ends lent.links.ended old.links.ended new.links.ended dialled.0.no_ends (ap (λ (d : DialRecord). d.links.ended) dialled.1) back.0.ended;
    failed = counted came.faults left.faults lent.links.failed old.links.failed new.links.failed dialled.0.no_faults (ap (λ (d : DialRecord). d.links.failed) dialled.1) back.0.failed;
  }

  pub watches_peer : Holds end wanted.sought came lent new old_sink new_sink → WatchesPeer end wanted old new old_sink new_sink
  watches_peer holds =
      let is = linked holds.left holds.not_closed holds.given_back in
      record {
        came = came;
        left = holds.left;
        linked = is;
        watches = holds.watches;
        completes = λ stream left accepts no_link no_sink. complete_status end (holds.completes stream left accepts (λ rose. no_link (is.failed rose)) no_sink);
      }
