-- What the bytes that a link gave come to.
use Rattle.std.specs.Prelude.{ℕ, ◌-◌, Bool, true, false, ◌&&◌, not, nat_le, List, take, Option, Some, None, if◌then◌else◌}
use Rattle.ldm_relay.specs.declared.front.TheConstants.{LONGEST_CALL}
use Rattle.ldm_rpc.specs.Reading.{is_faulty, is_pending}
use Rattle.ldm_rpc.specs.Streams.{Position, at_start, records_in, in_hand}
use Rattle.ldm_watch.specs.declared.end.WatchEnd.{WatchEnd}
use Rattle.ldm_watch.specs.declared.end.WatchEnd.TheVariants.{Ended, Truncated, BadFrame, StreamLimit}
use Rattle.ldm_session.specs.declared.limits.TheConstants.{LONGEST_STREAM}
use Rattle.ldm_watch.specs.declared.watching.Phase.{Phase}
use Rattle.ldm_watch.specs.declared.watching.Phase.TheVariants.{Asked, Told}
use Rattle.ldm_watch.specs.Sought.{Sought}
use Rattle.ldm_watch.specs.Watched.{Watched, opening, watched}

-- before the first byte of a stream
abbrev pub beginning : Position
beginning = at_start LONGEST_CALL

-- what is taken of bytes that come: all, up to the limit of a stream
abbrev pub within : Position → List ℕ → List ℕ
within p bytes = take (LONGEST_STREAM - p.came) bytes

-- what is in hand of a stream behind its whole records
abbrev pub hand : List ℕ → Position
hand given = in_hand beginning (within beginning given)

-- How the bytes behind the last whole record end a watching: they begin a record that is too long, which is refused, or the stream has
-- come to its limit.
abbrev pub end_by_bytes : Position → Option WatchEnd
end_by_bytes p =
    if is_faulty p.reading then Some (BadFrame p.begins)
    else (if nat_le LONGEST_STREAM p.came then Some StreamLimit else None)

abbrev pub end_behind : Position → Option WatchEnd → Option WatchEnd
end_behind p None = end_by_bytes p
end_behind p (Some end) = Some end

-- what was taken of records, and what is in hand behind them
abbrev pub with_hand : Position → Watched → Watched
with_hand p t = record t { end = end_behind p t.end }

-- One watches the products of a class, up to so many where a count was given: what these bytes of the peer come to, up to a record that
-- ends it, or else to the end that the bytes behind the last record make.
abbrev pub told : Sought → List ℕ → Watched
told sought given = with_hand (hand given) (watched (opening sought) (records_in beginning (within beginning given)))

abbrev pub is_told : Phase → Bool
is_told (Asked again) = false
is_told Told = true

-- whether a stream may end there: behind a record, with no reply to a NOTIFYME owed
abbrev pub is_edge : Position → Phase → Bool
is_edge p phase = not (is_pending p.reading) && is_told phase

-- how a watching ends where the stream ends
abbrev pub at_stream_end : Position → Phase → WatchEnd
at_stream_end p phase = if is_edge p phase then Ended else Truncated p.came
