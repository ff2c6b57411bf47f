-- The lines of the answers to PUTs, and what an answer says.
use Rattle.std.specs.Prelude.{ℕ, Bool, true, false, List, []}
use Rattle.ldm_model.specs.declared.event.Reply.TheVariants as reply
use Rattle.ldm_relay.specs.declared.message.PutAnswer.{PutAnswer}
use Rattle.ldm_relay.specs.declared.message.PutAnswer.TheVariants as put_answer
use Rattle.ldm_answers.specs.Answer.{answer_line}

-- The line of an answer of the queue, as a script has it. That the caller may not insert is no answer of the queue, and has none.
abbrev pub put_line : PutAnswer → List ℕ
put_line (put_answer.Admitted n time evicted) = answer_line (reply.Admitted n time evicted)
put_line (put_answer.TooBig need arena) = answer_line (reply.TooBig need arena)
put_line (put_answer.Duplicate n) = answer_line (reply.Duplicate n)
put_line put_answer.TimeEnd = answer_line reply.TimeEnd
put_line (put_answer.Locked held) = answer_line (reply.Locked held)
put_line put_answer.Denied = []

-- the caller may not insert
abbrev pub is_denied : PutAnswer → Bool
is_denied (put_answer.Admitted n time evicted) = false
is_denied (put_answer.TooBig need arena) = false
is_denied (put_answer.Duplicate n) = false
is_denied put_answer.TimeEnd = false
is_denied (put_answer.Locked held) = false
is_denied put_answer.Denied = true

-- the queue did not admit the product
abbrev pub is_refused : PutAnswer → Bool
is_refused (put_answer.Admitted n time evicted) = false
is_refused (put_answer.TooBig need arena) = true
is_refused (put_answer.Duplicate n) = true
is_refused put_answer.TimeEnd = true
is_refused (put_answer.Locked held) = true
is_refused put_answer.Denied = true
