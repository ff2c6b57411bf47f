-- What the calls of a queue answer, as replies of its definition.
use Rattle.std.specs.Prelude.{ℕ, ◌-◌, ◌^◌, List, take, min}
use Rattle.ldm_model.specs.declared.event.Reply.{Reply}
use Rattle.ldm_model.specs.declared.event.Reply.TheVariants as reply
use Rattle.ldm_model.specs.declared.replies.InsertReply.{InsertReply}
use Rattle.ldm_model.specs.declared.replies.InsertReply.TheVariants as insert
use Rattle.ldm_model.specs.declared.replies.LookReply.{LookReply}
use Rattle.ldm_model.specs.declared.replies.LookReply.TheVariants as look
use Rattle.ldm_model.specs.declared.replies.ExpireReply.{ExpireReply}
use Rattle.ldm_model.specs.declared.replies.ExpireReply.TheVariants as expire
use Rattle.ldm_model.specs.declared.stat.Stat.{Stat}
use Rattle.ldm_model.specs.declared.replies.OpenReply.{OpenReply}
use Rattle.ldm_model.specs.declared.replies.OpenReply.TheVariants as opening
use Rattle.ldm_model.specs.declared.replies.StepReply.{StepReply}
use Rattle.ldm_model.specs.declared.replies.StepReply.TheVariants as stepping
use Rattle.ldm_model.specs.declared.replies.ReadReply.{ReadReply}
use Rattle.ldm_model.specs.declared.replies.ReadReply.TheVariants as reading
use Rattle.ldm_model.specs.declared.replies.ReleaseReply.{ReleaseReply}
use Rattle.ldm_model.specs.declared.replies.ReleaseReply.TheVariants as releasing
use Rattle.ldm_model.specs.declared.replies.CloseReply.{CloseReply}
use Rattle.ldm_model.specs.declared.replies.CloseReply.TheVariants as closing
use Rattle.ldm_model.specs.declared.replies.TallyReply.{TallyReply}
use Rattle.ldm_model.specs.declared.replies.TallyReply.TheVariants as tallying
use Rattle.ldm_model.specs.declared.replies.ReserveReply.{ReserveReply}
use Rattle.ldm_model.specs.declared.replies.ReserveReply.TheVariants as reserving
use Rattle.ldm_model.specs.declared.replies.FillReply.{FillReply}
use Rattle.ldm_model.specs.declared.replies.FillReply.TheVariants as filling
use Rattle.ldm_model.specs.declared.replies.CommitReply.{CommitReply}
use Rattle.ldm_model.specs.declared.replies.CommitReply.TheVariants as committing
use Rattle.ldm_model.specs.declared.replies.DiscardReply.{DiscardReply}
use Rattle.ldm_model.specs.declared.replies.DiscardReply.TheVariants as discarding

abbrev pub insert_answer : InsertReply → Reply
insert_answer (insert.Admitted n time evicted) = reply.Admitted n time evicted
insert_answer (insert.TooBig need arena) = reply.TooBig need arena
insert_answer (insert.Duplicate n) = reply.Duplicate n
insert_answer insert.TimeEnd = reply.TimeEnd
insert_answer (insert.Locked held) = reply.Locked held

abbrev pub look_answer : LookReply → Reply
look_answer (look.Queued n time) = reply.Queued n time
look_answer look.Absent = reply.Absent

abbrev pub expire_answer : ExpireReply → Reply
expire_answer (expire.Expired n) = reply.Expired n
expire_answer expire.Nothing = reply.Nothing

abbrev pub stat_answer : Stat → Reply
stat_answer stat = reply.Stat stat

abbrev pub open_answer : OpenReply → Reply
open_answer (opening.Opened k) = reply.Opened k
open_answer opening.AllBusy = reply.AllBusy
open_answer opening.NotQueued = reply.NotQueued

abbrev pub step_answer : StepReply → Reply
step_answer stepping.NoCursor = reply.NoCursor
step_answer (stepping.Holding n) = reply.Holding n
step_answer (stepping.Gap count first last) = reply.Gap count first last
step_answer (stepping.Product n time info) = reply.Product n time info
step_answer (stepping.End at) = reply.End at

-- with the bytes at the front of the buffer
abbrev pub read_answer : ReadReply → List ℕ → Reply
read_answer reading.NoCursor into = reply.NoCursor
read_answer reading.NotHeld into = reply.NotHeld
read_answer (reading.BadOffset size) into = reply.BadOffset size
read_answer (reading.Bytes len) into = reply.Bytes (take len into)

-- how many bytes of the buffer a call of `read` wrote
abbrev pub bytes_read : ReadReply → ℕ
bytes_read (reading.Bytes len) = len
bytes_read _ = 0

-- how many bytes a call of `read` asks for with a buffer of that length
abbrev pub asked_bytes : ℕ → ℕ
asked_bytes len = min len (2 ^ 32 - 1)

abbrev pub release_answer : ReleaseReply → Reply
release_answer releasing.NoCursor = reply.NoCursor
release_answer releasing.NotHeld = reply.NotHeld
release_answer (releasing.Released n) = reply.Released n

abbrev pub close_answer : CloseReply → Reply
close_answer closing.NoCursor = reply.NoCursor
close_answer closing.Closed = reply.Closed

abbrev pub tally_answer : TallyReply → Reply
tally_answer tallying.NoCursor = reply.NoCursor
tally_answer (tallying.Tally given lost left) = reply.Tally given lost left

abbrev pub reserve_answer : ReserveReply → Reply
reserve_answer (reserving.TooBig need arena) = reply.TooBig need arena
reserve_answer (reserving.Duplicate n) = reply.Duplicate n
reserve_answer reserving.AllReserved = reply.AllReserved
reserve_answer (reserving.Locked held) = reply.Locked held
reserve_answer (reserving.Reserved r evicted) = reply.Reserved r evicted

abbrev pub fill_answer : FillReply → Reply
fill_answer filling.NoReservation = reply.NoReservation
fill_answer (filling.Overfill left) = reply.Overfill left
fill_answer (filling.Filled left) = reply.Filled left

abbrev pub commit_answer : CommitReply → Reply
commit_answer committing.NoReservation = reply.NoReservation
commit_answer (committing.Unfilled left) = reply.Unfilled left
commit_answer (committing.Duplicate n) = reply.Duplicate n
commit_answer committing.TimeEnd = reply.TimeEnd
commit_answer (committing.Committed n time) = reply.Committed n time

abbrev pub discard_answer : DiscardReply → Reply
discard_answer discarding.NoReservation = reply.NoReservation
discard_answer discarding.Discarded = reply.Discarded

-- a refusal changes nothing
abbrev pub IfRefused : InsertReply → Type 0 → Type 0
IfRefused (insert.Admitted n time evicted) P = Unit {0}
IfRefused (insert.TooBig need arena) P = P
IfRefused (insert.Duplicate n) P = P
IfRefused insert.TimeEnd P = P
IfRefused (insert.Locked held) P = P

abbrev pub IfNothing : ExpireReply → Type 0 → Type 0
IfNothing (expire.Expired n) P = Unit {0}
IfNothing expire.Nothing P = P

abbrev pub IfNotOpened : OpenReply → Type 0 → Type 0
IfNotOpened (opening.Opened k) P = Unit {0}
IfNotOpened _ P = P

abbrev pub IfNotStepped : StepReply → Type 0 → Type 0
IfNotStepped stepping.NoCursor P = P
IfNotStepped (stepping.Holding n) P = P
IfNotStepped _ P = Unit {0}

abbrev pub IfNotReleased : ReleaseReply → Type 0 → Type 0
IfNotReleased (releasing.Released n) P = Unit {0}
IfNotReleased _ P = P

abbrev pub IfNotClosed : CloseReply → Type 0 → Type 0
IfNotClosed closing.NoCursor P = P
IfNotClosed closing.Closed P = Unit {0}

abbrev pub IfNotReserved : ReserveReply → Type 0 → Type 0
IfNotReserved (reserving.Reserved r evicted) P = Unit {0}
IfNotReserved _ P = P

abbrev pub IfNotFilled : FillReply → Type 0 → Type 0
IfNotFilled (filling.Filled left) P = Unit {0}
IfNotFilled _ P = P

-- a reservation that does not end is left as it was
abbrev pub IfNotEnded : CommitReply → Type 0 → Type 0
IfNotEnded committing.NoReservation P = P
IfNotEnded (committing.Unfilled left) P = P
IfNotEnded _ P = Unit {0}

-- a commit that is refused although its body is whole ends the reservation
abbrev pub IfEndedOnly : CommitReply → Type 0 → Type 0
IfEndedOnly (committing.Duplicate n) P = P
IfEndedOnly committing.TimeEnd P = P
IfEndedOnly _ P = Unit {0}

abbrev pub IfNotDiscarded : DiscardReply → Type 0 → Type 0
IfNotDiscarded discarding.NoReservation P = P
IfNotDiscarded discarding.Discarded P = Unit {0}
