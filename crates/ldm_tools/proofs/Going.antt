-- One asking after another.
use Rattle.std.proofs.Common.{◌≡◌, ℕ, ◌+◌, ◌*◌, ◌<◌, ◌≤◌, List, [], ◌∷◌, inl, inr, refl, subst, arith}
use Rattle.std.specs.Prelude.{Some, Option, Result, Ok, Err}
use Rattle.ldm_outside.specs.Clock.{Answers, ClockRecord}
use Rattle.ldm_outside.specs.Dial.{Asked}
use Rattle.ldm_outside.specs.Io.{Takes}
use Rattle.ldm_outside.proofs.CallerLemmas.{Takes-nothing, Takes-then}
use Rattle.ldm_model.specs.declared.stat.Stat.{Stat}
use Rattle.ldm_status.specs.Status.{ReportsFor, code_of}
use Rattle.ldm_tools.specs.declared.mon.MonFault.{MonFault}
use Rattle.ldm_tools.specs.declared.mon.MonFault.TheVariants.{Unreached, NoStat, Denied, SinkFault}
use Rattle.ldm_tools.specs.declared.no_reply.NoReply.{NoReply}
use Rattle.ldm_tools.specs.declared.no_reply.NoReply.TheVariants.{BadFrame, StreamLimit, LinkFault, OutOfMemory}
use Rattle.ldm_tools.specs.Asking.{AsksPeer}
use Rattle.ldm_tools.specs.Mon.{KeepsMonCounts, MonEnds, MonRecord, Mons, stat_call, stat_line, status_of_mon}
use Rattle.ldm_tools.specs.Replies.{IsStatReply}
use Rattle.ldm_tools.specs.Every.{AreAsked, Asking, AsksOn, IsDue, AskingMoment, lines_of, moment_of}

pub counts_same : (mon : MonRecord) → KeepsMonCounts mon mon
counts_same mon = record { net = omega arith; ended = omega arith; failed = omega arith; sink = omega arith; log = omega arith }

pub counts_then : (old mid new : MonRecord) → KeepsMonCounts old mid → KeepsMonCounts mid new → KeepsMonCounts old new
counts_then old mid new one other = record {
  net = (let a = one.net in let b = other.net in omega arith);
  ended = (let a = one.ended in let b = other.ended in omega arith);
  failed = (let a = one.failed in let b = other.failed in omega arith);
  sink = (let a = one.sink in let b = other.sink in omega arith);
  log = (let a = one.log in let b = other.log in omega arith);
}

-- ---- an asking whose number is 0 went well

pub record GoesWell (peer : Asked) (old new : MonRecord) : Type 0 where
  pub stat : Stat
  pub asks : AsksPeer (IsStatReply 1) (Ok (Some stat)) stat_call peer old.net new.net
  pub written : Takes old.sink (stat_line stat) new.sink
  pub unlogged : Takes old.log [] new.log

not_well : (why : MonFault) → ¬ (0 ≡ code_of (status_of_mon (Err why)))
not_well Unreached is = cc
not_well (NoStat (BadFrame at)) is = cc
not_well (NoStat StreamLimit) is = cc
not_well (NoStat LinkFault) is = cc
not_well (NoStat OutOfMemory) is = cc
not_well Denied is = cc
not_well SinkFault is = cc

by_end : (ending : Result (Unit {0}) MonFault) (reason : List ℕ) (peer : Asked) (old new : MonRecord) → MonEnds ending peer old.net new.net old.sink new.sink
    → ReportsFor reason (status_of_mon ending) 0 old.log new.log → GoesWell peer old new
by_end ending reason peer old new ends (inr failed) = absurd (let is = failed.0 in cc)
by_end (Err why) reason peer old new ends (inl reported) = absurd (not_well why reported.0)
by_end (Ok done) reason peer old new ends (inl reported) =
    let P : Result (Option Stat) NoReply → Type 0 = λ asked. AsksPeer (IsStatReply 1) asked stat_call peer old.net new.net in
    record {
      stat = ends.tells.stat;
      asks = subst P ends.tells.came ends.asks;
      written = ends.tells.written;
      unlogged = reported.1;
    }

pub goes_well : (peer : Asked) (old new : MonRecord) → Mons 0 peer old new → GoesWell peer old new
goes_well peer old new mons = by_end mons.ending mons.reports.0 peer old new mons.ends mons.reports.2

-- ---- the askings so far

-- The peer was asked so far, each time well, and at this instant, which the clock told since, one more asking is due.
pub record GoesOn (peer : Asked) (seconds instant : ℕ) (old now : AskingMoment) : Type 0 where
  pub askings : List Asking
  pub clock : ClockRecord
  pub each : AreAsked peer seconds askings old (moment_of now.mon clock)
  pub written : Takes old.mon.sink (lines_of askings) now.mon.sink
  pub due : IsDue seconds askings instant
  pub told : Answers instant clock now.clock

module _ (peer : Asked) (seconds instant : ℕ) (old : AskingMoment) where
  pub goes_first : (now : ClockRecord) → Answers instant old.clock now → GoesOn peer seconds instant old (moment_of old.mon now)
  goes_first now told = record {
    askings = [];
    clock = old.clock;
    each = refl;
    written = Takes-nothing old.mon.sink old.mon.sink refl;
    due = tt;
    told = told;
  }

  -- the asking that is due did not go well
  pub fails_at : (mid : AskingMoment) (code : ℕ) (mon : MonRecord) → GoesOn peer seconds instant old mid → ¬ (code ≡ 0) → Mons code peer mid.mon mon
      → AsksOn code peer seconds old (moment_of mon mid.clock)
  fails_at mid code mon goes failed mons = record {
    askings = goes.askings;
    mid = moment_of mid.mon goes.clock;
    each = goes.each;
    written = goes.written;
    instant = instant;
    told = goes.told;
    ends = inl (record { due = goes.due; failed = failed; asks = mons });
  }

  module _ (mid : AskingMoment) (mon : MonRecord) (goes : GoesOn peer seconds instant old mid) (well : GoesWell peer mid.mon mon) where
    abbrev latest : Asking
    latest = record { instant = instant; stat = well.stat }

    asked : AreAsked peer seconds (latest ∷ goes.askings) old (moment_of mon mid.clock)
    asked = (moment_of mid.mon goes.clock, goes.each, goes.due, record { told = goes.told; asks = well.asks; written = well.written; unlogged = well.unlogged })

    lines : Takes old.mon.sink (lines_of (latest ∷ goes.askings)) mon.sink
    lines = Takes-then old.mon.sink mid.mon.sink mon.sink (lines_of goes.askings) (stat_line well.stat) goes.written well.written

    -- it went well, and one more is due
    pub goes_again : (next : ℕ) (now : ClockRecord) → instant + seconds * 1000000 ≤ next → Answers next mid.clock now
        → GoesOn peer seconds next old (moment_of mon now)
    goes_again next now due told = record {
      askings = latest ∷ goes.askings;
      clock = mid.clock;
      each = asked;
      written = lines;
      due = due;
      told = told;
    }

    -- it went well, and no other is due
    pub stands_at : (next : ℕ) (now : ClockRecord) → next < instant + seconds * 1000000 → Answers next mid.clock now
        → AsksOn 0 peer seconds old (moment_of mon now)
    stands_at next now early told = record {
      askings = latest ∷ goes.askings;
      mid = moment_of mon mid.clock;
      each = asked;
      written = lines;
      instant = next;
      told = told;
      ends = inr (record { done = refl; last = latest; earlier = goes.askings; askings_are = refl; early = early; same = refl });
    }
