-- The lengths of the answers that the queue decides.
use Rattle.std.proofs.Common.{◌≡◌, ℕ, ◌+◌, ◌≤◌, length, arith, true, Result, Ok, Err, Option, Some, None}
use Rattle.std.proofs.lemmas.List.{length-append}
use Rattle.std.specs.Prelude.{IsOk}
use Rattle.std.specs.Result.{is_err}
use Rattle.std.specs.Int.{to_be_bytes, w32}
use Rattle.ldm_xdr.proofs.Lengths.{length_unsigned, length_hyper}
use Rattle.ldm_relay.specs.declared.message.PutAnswer.{PutAnswer}
use Rattle.ldm_relay.specs.declared.message.PutAnswer.TheVariants as put_answer
use Rattle.ldm_model.specs.declared.stat.Stat.{Stat}
use Rattle.ldm_relay.specs.Sent.{Sent}
use Rattle.ldm_relay.specs.Sent as sent
use Rattle.ldm_relay.specs.Spelling.{written, record_of, reply_header, accepted_header, no_authentication}

ruleset lengths = (length-append, length_unsigned, length_hyper)

put_len : (xid : ℕ) (answer : PutAnswer) → length (written (sent.PutReply xid answer)) ≤ 68
unfolding written reply_header accepted_header no_authentication
put_len xid (put_answer.Admitted n time evicted) = simp lengths (omega arith)
put_len xid (put_answer.TooBig need arena) = simp lengths (omega arith)
put_len xid (put_answer.Duplicate n) = simp lengths (omega arith)
put_len xid put_answer.TimeEnd = simp lengths (omega arith)
put_len xid (put_answer.Locked held) = simp lengths (omega arith)
put_len xid put_answer.Denied = simp lengths (omega arith)

stat_len : (xid : ℕ) (stat : Option Stat) → length (written (sent.QstatReply xid stat)) ≤ 68
unfolding written reply_header accepted_header no_authentication
stat_len xid (Some stat) = simp lengths (omega arith)
stat_len xid None = simp lengths (omega arith)

record_len : (m : Sent) → length (written m) ≤ 68 → length (record_of (written m)) ≤ 72
record_len m len = omega (arith, length-append (to_be_bytes w32 (2147483648 + length (written m))) (written m))

pub put_record_len : (xid : ℕ) (answer : PutAnswer) → length (record_of (written (sent.PutReply xid answer))) ≤ 72
put_record_len xid answer = record_len (sent.PutReply xid answer) (put_len xid answer)

pub stat_record_len : (xid : ℕ) (stat : Option Stat) → length (record_of (written (sent.QstatReply xid stat))) ≤ 72
stat_record_len xid stat = record_len (sent.QstatReply xid stat) (stat_len xid stat)

pub ok_not_err : {A E : Type 0} (r : Result A E) → IsOk r → is_err r ≡ true → ⊥
ok_not_err (Ok x) ok e = absurd cc
ok_not_err (Err e) ok is = absurd cc
