-- What the pieces of a stream come to.
use Rattle.std.specs.Prelude.{◌≡◌, Bool, ◌&&◌, ◌||◌, is_some, not, nat_le, List, Option, Some, None, if◌then◌else◌}
use Rattle.ldm_rpc.specs.Reading.{is_faulty, is_pending}
use Rattle.ldm_rpc.specs.Streams.{Position}
use Rattle.ldm_intake.specs.declared.end.RecvEnd.{RecvEnd}
use Rattle.ldm_intake.specs.declared.end.RecvEnd.TheVariants.{Ended, Truncated, BadFrame, StreamLimit}
use Rattle.ldm_intake.specs.Course.{Course, Comes, then}
use Rattle.ldm_intake.specs.Receiving.{Receiving}
use Rattle.ldm_intake.specs.Settled.{is_feeding, is_settled}
use Rattle.ldm_intake.specs.Taken.{Taken, taken_none, taken}
use Rattle.ldm_session.specs.declared.limits.TheConstants.{LONGEST_STREAM}
use Rattle.ldm_downstream.specs.Pieces.{Piece, arrivals, hand}

-- How the bytes behind the last whole record end a receiving: they begin a record that is too long, which is refused, or the stream has
-- come to its limit.
abbrev pub end_by_bytes : Position → Option RecvEnd
end_by_bytes p =
    if is_faulty p.reading then Some (BadFrame p.begins)
    else (if nat_le LONGEST_STREAM p.came then Some StreamLimit else None)

abbrev pub end_behind : Position → Option RecvEnd → Option RecvEnd
end_behind p None = end_by_bytes p
end_behind p (Some end) = Some end

-- what was taken of records, and what is in hand behind them
abbrev pub with_hand : Position → Taken → Taken
with_hand p t = record t { end = end_behind p t.end }

-- The course of a receiving over the pieces that come from that place on: that of the records that they complete, and the end that
-- the bytes behind them make, if a record made none.
abbrev pub received : Receiving → Position → List Piece → Course Taken
received s p pieces = (then) (taken (taken_none s) (arrivals p pieces)) (λ (t : Taken). Comes (with_hand (hand p pieces) t))

-- Whether a record, or in a feed a product in blocks, was begun there and is not complete. Where the reply to a request is owed, no product is.
abbrev pub is_within : Position → Receiving → Bool
is_within p s = is_pending p.reading || (is_feeding s.phase && is_some s.pending)

-- whether a stream may end there: behind a record, with no product pending and no reply to a request owed
abbrev pub is_edge : Position → Receiving → Bool
is_edge p s = not (is_pending p.reading) && is_settled s

-- how a receiving ends where the stream ends
abbrev pub at_stream_end : Position → Receiving → RecvEnd
at_stream_end p s = if is_edge p s then Ended else Truncated p.came

-- a receiving that has this in hand goes on, unless it ended
abbrev pub GoesOnAt : Option RecvEnd → Position → Type 0
GoesOnAt None p = end_by_bytes p ≡ None
GoesOnAt (Some end) p = Unit {0}
