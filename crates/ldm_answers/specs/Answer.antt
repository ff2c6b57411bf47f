-- What is written for a reply: one line; and the answers that are replies.
use Rattle.std.specs.Prelude.{ℕ, List, [], ◌∷◌, ◌++◌, codes, decimal, ◌≤◌, length}
use Rattle.hex.specs.Hex.{encode_lower}
use Rattle.ldm_types.specs.Info.{Metadata}
use Rattle.ldm_feedtype.specs.Text.{feed_digits}
use Rattle.ldm_model.specs.declared.event.Reply.{Reply}
use Rattle.ldm_model.specs.declared.event.Reply.TheVariants as reply
use Rattle.ldm_answers.specs.Texts.{spelled, body_text}
use Rattle.ldm_answers.specs.declared.answer.TheConstants.{LONGEST_READ}
use Rattle.ldm_answers.specs.declared.answer.Answer.{Answer}
use Rattle.ldm_answers.specs.declared.answer.Answer.TheVariants as answer

-- a blank, and a field
abbrev pub blank_field : List ℕ → List ℕ
blank_field field = 32 ∷ field

-- a blank, and a number in decimal digits
abbrev pub blank_number : ℕ → List ℕ
blank_number n = blank_field (decimal n)

-- `SIG FEED SEQNO ORIGIN IDENT`, a blank before each
abbrev pub product_text : Metadata → List ℕ
product_text info =
    blank_field (encode_lower info.signature) ++ blank_field (feed_digits info.feed) ++ blank_number info.seqno
    ++ blank_field (spelled info.origin) ++ blank_field (spelled info.ident)

-- `ARRIVAL SIG FEED SEQNO ORIGIN IDENT SIZE`, a blank before each
abbrev pub info_text : Metadata → List ℕ
info_text info = blank_number info.arrival ++ product_text info ++ blank_number info.size

-- without its newline
unfoldable pub reply_text : Reply → List ℕ
reply_text (reply.Admitted n time evicted) = codes "admitted" ++ blank_number n ++ blank_number time ++ blank_number evicted
reply_text (reply.TooBig need arena) = codes "toobig" ++ blank_number need ++ blank_number arena
reply_text (reply.Duplicate n) = codes "duplicate" ++ blank_number n
reply_text reply.TimeEnd = codes "timeend"
reply_text (reply.Locked held) = codes "locked" ++ blank_number held
reply_text (reply.Opened k) = codes "opened" ++ blank_number k
reply_text reply.AllBusy = codes "allbusy"
reply_text reply.NotQueued = codes "notqueued"
reply_text (reply.Product n time info) = codes "product" ++ blank_number n ++ blank_number time ++ info_text info
reply_text (reply.Gap count first last) = codes "gap" ++ blank_number count ++ blank_number first ++ blank_number last
reply_text (reply.End at) = codes "end" ++ blank_number at
reply_text reply.NoCursor = codes "nocursor"
reply_text (reply.Holding n) = codes "holding" ++ blank_number n
reply_text (reply.Bytes bytes) = codes "bytes" ++ blank_field (body_text bytes)
reply_text reply.NotHeld = codes "notheld"
reply_text (reply.BadOffset size) = codes "badoffset" ++ blank_number size
reply_text (reply.Released n) = codes "released" ++ blank_number n
reply_text reply.Closed = codes "closed"
reply_text (reply.Queued n time) = codes "queued" ++ blank_number n ++ blank_number time
reply_text reply.Absent = codes "absent"
reply_text (reply.Expired n) = codes "expired" ++ blank_number n
reply_text reply.Nothing = codes "nothing"
reply_text (reply.Tally given lost left) = codes "tally" ++ blank_number given ++ blank_number lost ++ blank_number left
reply_text (reply.Stat stat) = codes "stat" ++ blank_number stat.admitted ++ blank_number stat.queued ++ blank_number stat.held ++ blank_number stat.used
    ++ blank_number stat.largest_free
reply_text (reply.Reserved r evicted) = codes "reserved" ++ blank_number r ++ blank_number evicted
reply_text reply.AllReserved = codes "allreserved"
reply_text reply.NoReservation = codes "noreservation"
reply_text (reply.Filled left) = codes "filled" ++ blank_number left
reply_text (reply.Overfill left) = codes "overfill" ++ blank_number left
reply_text (reply.Unfilled left) = codes "unfilled" ++ blank_number left
reply_text (reply.Committed n time) = codes "committed" ++ blank_number n ++ blank_number time
reply_text reply.Discarded = codes "discarded"

-- with its newline
unfoldable pub answer_line : Reply → List ℕ
answer_line r = reply_text r ++ 10 ∷ []

-- the reply that an answer is
abbrev pub reply_of : Answer → Reply
reply_of (answer.Admitted n time evicted) = reply.Admitted n time evicted
reply_of (answer.TooBig need arena) = reply.TooBig need arena
reply_of (answer.Duplicate n) = reply.Duplicate n
reply_of answer.TimeEnd = reply.TimeEnd
reply_of (answer.Locked held) = reply.Locked held
reply_of (answer.Opened k) = reply.Opened k
reply_of answer.AllBusy = reply.AllBusy
reply_of answer.NotQueued = reply.NotQueued
reply_of (answer.Product n time info) = reply.Product n time info
reply_of (answer.Gap count first last) = reply.Gap count first last
reply_of (answer.End at) = reply.End at
reply_of answer.NoCursor = reply.NoCursor
reply_of (answer.Holding n) = reply.Holding n
reply_of (answer.Bytes bytes) = reply.Bytes bytes.now
reply_of answer.NotHeld = reply.NotHeld
reply_of (answer.BadOffset size) = reply.BadOffset size
reply_of (answer.Released n) = reply.Released n
reply_of answer.Closed = reply.Closed
reply_of (answer.Queued n time) = reply.Queued n time
reply_of answer.Absent = reply.Absent
reply_of (answer.Expired n) = reply.Expired n
reply_of answer.Nothing = reply.Nothing
reply_of (answer.Tally given lost left) = reply.Tally given lost left
reply_of (answer.Stat stat) = reply.Stat stat
reply_of (answer.Reserved r evicted) = reply.Reserved r evicted
reply_of answer.AllReserved = reply.AllReserved
reply_of answer.NoReservation = reply.NoReservation
reply_of (answer.Filled left) = reply.Filled left
reply_of (answer.Overfill left) = reply.Overfill left
reply_of (answer.Unfilled left) = reply.Unfilled left
reply_of (answer.Committed n time) = reply.Committed n time
reply_of answer.Discarded = reply.Discarded

-- no more bytes were read than a line can ask for
abbrev pub FitsAnswer : Answer → Type 0
FitsAnswer (answer.Bytes bytes) = length bytes.now ≤ LONGEST_READ
FitsAnswer _ = Unit {0}
