-- The results of replies, by the procedures that were called.
use Rattle.std.specs.Prelude.{ℕ, List, length, ◌==◌, Option, Some, None, Result, Ok, Err, if◌then◌else◌}
use Rattle.std.specs.Int.{w64}
use Rattle.ldm_relay.specs.declared.procedure.Answered.{Answered}
use Rattle.ldm_relay.specs.declared.procedure.Answered.TheVariants as answered
use Rattle.ldm_relay.specs.declared.message.PutAnswer.{PutAnswer}
use Rattle.ldm_relay.specs.declared.message.PutAnswer.TheVariants as put_answer
use Rattle.ldm_relay.specs.declared.message.SoonAnswer.TheVariants as soon_answer
use Rattle.ldm_model.specs.declared.stat.Stat.{Stat}
use Rattle.ldm_relay.specs.declared.header.TheConstants.{SUCCESS}
use Rattle.ldm_relay.specs.Sent.{Sent}
use Rattle.ldm_relay.specs.Sent as sent
use Rattle.ldm_xdr.specs.Fields.{◌>>=◌, unsigned_in, number_in, exactly_in}
use Rattle.ldm_relay.specs.Classes.{class_answer_in}

unfoldable pub feedme_reply_in : ℕ → List ℕ → Result (Sent × List ℕ) ℕ
feedme_reply_in xid left = do
  answer ← class_answer_in left
  Ok (sent.FeedmeReply xid answer.0, answer.1)

unfoldable pub hiya_reply_in : ℕ → List ℕ → Result (Sent × List ℕ) ℕ
hiya_reply_in xid left = do
  max_hereis ← unsigned_in left
  answer ← class_answer_in max_hereis.1
  Ok (sent.HiyaReply xid max_hereis.0 answer.0, answer.1)

-- 0 or 1
unfoldable pub comingsoon_reply_in : ℕ → List ℕ → Result (Sent × List ℕ) ℕ
comingsoon_reply_in xid left = do
  code ← unsigned_in left
  if code.0 == 0 then Ok (sent.ComingsoonReply xid soon_answer.Ok, code.1)
      else (if code.0 == 1 then Ok (sent.ComingsoonReply xid soon_answer.DontSend, code.1) else Err (length left))

-- five numbers of eight bytes
unfoldable pub figures_in : List ℕ → Result (Stat × List ℕ) ℕ
figures_in left = do
  admitted ← number_in w64 left
  queued ← number_in w64 admitted.1
  held ← number_in w64 queued.1
  used ← number_in w64 held.1
  largest ← number_in w64 used.1
  Ok (record { admitted = admitted.0; queued = queued.0; held = held.0; used = used.0; largest_free = largest.0 }, largest.1)

unfoldable pub told_in : List ℕ → Result (Option Stat × List ℕ) ℕ
told_in left = do
  figures ← figures_in left
  Ok (Some figures.0, figures.1)

-- 0 and the figures, or 2
unfoldable pub stat_in : List ℕ → Result (Option Stat × List ℕ) ℕ
stat_in left = do
  code ← unsigned_in left
  if code.0 == 0 then told_in code.1 else (if code.0 == 2 then Ok (None, code.1) else Err (length left))

unfoldable pub qstat_reply_in : ℕ → List ℕ → Result (Sent × List ℕ) ℕ
qstat_reply_in xid left = do
  stat ← stat_in left
  Ok (sent.QstatReply xid stat.0, stat.1)

unfoldable pub admitted_in : List ℕ → Result (PutAnswer × List ℕ) ℕ
admitted_in left = do
  n ← number_in w64 left
  time ← number_in w64 n.1
  evicted ← number_in w64 time.1
  Ok (put_answer.Admitted n.0 time.0 evicted.0, evicted.1)

unfoldable pub too_big_in : List ℕ → Result (PutAnswer × List ℕ) ℕ
too_big_in left = do
  need ← number_in w64 left
  arena ← number_in w64 need.1
  Ok (put_answer.TooBig need.0 arena.0, arena.1)

unfoldable pub duplicate_in : List ℕ → Result (PutAnswer × List ℕ) ℕ
duplicate_in left = do
  n ← number_in w64 left
  Ok (put_answer.Duplicate n.0, n.1)

unfoldable pub locked_in : List ℕ → Result (PutAnswer × List ℕ) ℕ
locked_in left = do
  held ← number_in w64 left
  Ok (put_answer.Locked held.0, held.1)

-- the answer that a code begins, or how much was left at the code
abbrev pub coded_put_answer : ℕ → ℕ → List ℕ → Result (PutAnswer × List ℕ) ℕ
coded_put_answer field code left =
    if code == 0 then admitted_in left
    else (if code == 1 then too_big_in left
    else (if code == 2 then duplicate_in left
    else (if code == 3 then Ok (put_answer.TimeEnd, left)
    else (if code == 4 then locked_in left
    else (if code == 5 then Ok (put_answer.Denied, left) else Err field)))))

unfoldable pub put_answer_in : List ℕ → Result (PutAnswer × List ℕ) ℕ
put_answer_in left = do
  code ← unsigned_in left
  coded_put_answer (length left) code.0 code.1

unfoldable pub put_reply_in : ℕ → List ℕ → Result (Sent × List ℕ) ℕ
put_reply_in xid left = do
  answer ← put_answer_in left
  Ok (sent.PutReply xid answer.0, answer.1)

unfoldable pub notifyme_reply_in : ℕ → List ℕ → Result (Sent × List ℕ) ℕ
notifyme_reply_in xid left = do
  answer ← class_answer_in left
  Ok (sent.NotifymeReply xid answer.0, answer.1)

-- what stands behind the accept status
abbrev pub result_in : Answered → ℕ → List ℕ → Result (Sent × List ℕ) ℕ
result_in answered.Feedme xid left = feedme_reply_in xid left
result_in answered.Hiya xid left = hiya_reply_in xid left
result_in answered.Comingsoon xid left = comingsoon_reply_in xid left
result_in answered.Qstat xid left = qstat_reply_in xid left
result_in answered.Put xid left = put_reply_in xid left
result_in answered.Notifyme xid left = notifyme_reply_in xid left

-- a reply from its accept status on: success, and the result
unfoldable pub accepted_in : Answered → ℕ → List ℕ → Result (Sent × List ℕ) ℕ
accepted_in procedure xid left = do
  success ← exactly_in SUCCESS left
  result_in procedure xid success.1
