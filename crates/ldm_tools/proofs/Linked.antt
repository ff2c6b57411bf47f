-- A link that was connected and given back.
use Rattle.std.proofs.Common.{◌≡◌, ℕ, ◌<◌, false, inl, inr, ap, subst, arith}
use Rattle.std.specs.Prelude.{Result, Ok, Err}
use Rattle.ldm_outside.specs.declared.dial.Dialled.TheVariants.{Linked}
use Rattle.ldm_outside.specs.Count.{Rose}
use Rattle.ldm_outside.specs.Dial.{Asked, DialRecord, ConnectGives, DialTakesBack}
use Rattle.ldm_outside.specs.Io.{SinkRecord}
use Rattle.ldm_outside.specs.Lending.{CountsBack}
use Rattle.ldm_outside.specs.Link.{LinkRecord}
use Rattle.ldm_tools.specs.declared.mon.MonFault.{MonFault}
use Rattle.ldm_tools.specs.declared.mon.MonFault.TheVariants.{Unreached, NoStat, Denied, SinkFault}
use Rattle.ldm_tools.specs.Asking.{IsLinked}
use Rattle.ldm_tools.specs.Held.{HoldsStat}
use Rattle.ldm_tools.specs.Mon.{AsksStat, MonEnds, stat_call}
use Rattle.ldm_tools.specs.Replies.{IsStatReply}
use Rattle.ldm_tools.proofs.Completed.{completes, one_stat}

-- a count that rose from 0 is above it
above : (n : ℕ) → Rose 0 n → 0 < n
above n (inl some) = some
above n (inr still) = absurd (omega (arith, still.0))

counted : (came left lent old new : ℕ) → came ≡ 0 → lent ≡ old → CountsBack left lent new → Rose came left → Rose old new
counted came left lent old new none same counts rose =
    let P : ℕ → Type 0 = λ n. Rose n left in
    let Q : ℕ → Type 0 = λ n. Rose n new in
    subst Q same (counts.rose (above left (subst P none rose)))

pub linked : (peer : Asked) (came left : LinkRecord) (old lent new : DialRecord) → ConnectGives (λ (link : LinkRecord). link) (Linked came) peer old lent
    → left.closed ≡ false → DialTakesBack left lent new → IsLinked peer came left old new
linked peer came left old lent new dialled not_closed back = record {
  lent = lent;
  dialled = dialled;
  not_closed = not_closed;
  given_back = back;
  ended = counted came.ends left.ends lent.links.ended old.links.ended new.links.ended dialled.0.no_ends (ap (λ (d : DialRecord). d.links.ended) dialled.1) back.0.ended;
  failed = counted came.faults left.faults lent.links.failed old.links.failed new.links.failed dialled.0.no_faults (ap (λ (d : DialRecord). d.links.failed) dialled.1) back.0.failed;
}

asks_stat : (result : Result (Unit {0}) MonFault) (peer : Asked) (came : LinkRecord) (old lent new : DialRecord) (old_sink new_sink : SinkRecord)
    → ConnectGives (λ (link : LinkRecord). link) (Linked came) peer old lent → HoldsStat result came lent new old_sink new_sink → AsksStat result peer old new old_sink new_sink
asks_stat result peer came old lent new old_sink new_sink dialled holds =
    let is = linked peer came holds.left old lent new dialled holds.not_closed holds.given_back in
    record {
      asked = holds.asked;
      asks = record {
        came = came;
        left = holds.left;
        linked = is;
        asks = holds.asks;
        completes = completes (IsStatReply 1) (one_stat 1) holds.asked stat_call came holds.left old new holds.asks is.failed;
      };
      tells = holds.tells;
    }

pub mon_ends : (result : Result (Unit {0}) MonFault) (peer : Asked) (came : LinkRecord) (old lent new : DialRecord) (old_sink new_sink : SinkRecord)
    → ConnectGives (λ (link : LinkRecord). link) (Linked came) peer old lent → HoldsStat result came lent new old_sink new_sink → MonEnds result peer old new old_sink new_sink
mon_ends (Ok done) peer came old lent new old_sink new_sink dialled holds = asks_stat (Ok done) peer came old lent new old_sink new_sink dialled holds
mon_ends (Err Unreached) peer came old lent new old_sink new_sink dialled holds = absurd holds.tells
mon_ends (Err (NoStat why)) peer came old lent new old_sink new_sink dialled holds = asks_stat (Err (NoStat why)) peer came old lent new old_sink new_sink dialled holds
mon_ends (Err Denied) peer came old lent new old_sink new_sink dialled holds = asks_stat (Err Denied) peer came old lent new old_sink new_sink dialled holds
mon_ends (Err SinkFault) peer came old lent new old_sink new_sink dialled holds = asks_stat (Err SinkFault) peer came old lent new old_sink new_sink dialled holds
