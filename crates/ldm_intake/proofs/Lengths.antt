-- The length of the reply to a COMINGSOON, and bytes that are none.
use Rattle.std.proofs.Common.{◌≡◌, ℕ, ◌+◌, List, [], ◌∷◌, length, refl, sym, ◌∙◌, arith, true, eqb, Result, Ok, Err}
use Rattle.std.proofs.lemmas.Bool.{both_ways, ne_eqb}
use Rattle.std.proofs.lemmas.List.{length-append, append-nil}
use Rattle.std.specs.Prelude.{IsOk}
use Rattle.std.specs.Result.{is_err}
use Rattle.std.specs.Int.{to_be_bytes, w32}
use Rattle.ldm_xdr.specs.Spelling.{number}
use Rattle.ldm_relay.specs.declared.message.SoonAnswer.{SoonAnswer}
use Rattle.ldm_relay.specs.declared.message.SoonAnswer.TheVariants as soon_answer
use Rattle.ldm_relay.specs.Sent as sent
use Rattle.ldm_relay.specs.Spelling.{written, record_of, reply_header, accepted_header, no_authentication, records_of}
use Rattle.ldm_relay.specs.Sent.{Sent}
use Rattle.ldm_intake.specs.Notes.{Note, note_line, note_lines}

length-number : (n : ℕ) → length (number w32 n) ≡ 4
unfolding number
length-number n = refl

content_len : (xid : ℕ) (answer : SoonAnswer) → length (written (sent.ComingsoonReply xid answer)) ≡ 28
unfolding written reply_header accepted_header no_authentication
content_len xid soon_answer.Ok = simp (length-append, length-number)
content_len xid soon_answer.DontSend = simp (length-append, length-number)

pub soon_len : (xid : ℕ) (answer : SoonAnswer) → length (record_of (written (sent.ComingsoonReply xid answer))) ≡ 32
soon_len xid answer = length-append (to_be_bytes w32 (2147483648 + length (written (sent.ComingsoonReply xid answer)))) (written (sent.ComingsoonReply xid answer)) ∙ omega (arith, content_len xid answer)

-- one record, and one line
pub records_one : (m : Sent) → records_of (m ∷ []) ≡ record_of (written m)
records_one m = append-nil (record_of (written m))

pub note_one : (n : Note) → note_lines (n ∷ []) ≡ note_line n
note_one n = append-nil (note_line n)

pub ok_not_err : {A E : Type 0} (r : Result A E) → IsOk r → is_err r ≡ true → ⊥
ok_not_err (Ok x) ok e = absurd cc
ok_not_err (Err e) ok is = absurd cc

-- bytes whose number was tested
pub is_empty : (bytes : List ℕ) → true ≡ eqb (length bytes) 0 → bytes ≡ []
is_empty [] e = refl
is_empty (byte ∷ bytes) e = absurd (both_ways (eqb (length (byte ∷ bytes)) 0) (ne_eqb (length (byte ∷ bytes)) 0 (omega arith)) (sym e))
