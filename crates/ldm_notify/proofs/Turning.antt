-- A session of notices is a kind of sending.
use Rattle.std.proofs.Common.{◌≡◌, ℕ, List, refl}
use Rattle.ldm_model.specs.declared.event.Entry.{Entry}
use Rattle.ldm_relay.specs.declared.message.ClassAnswer.{ClassAnswer}
use Rattle.ldm_relay.specs.Sent as sent
use Rattle.ldm_relay.specs.Spelling.{written}
use Rattle.ldm_shared.specs.Passes.{PassView, Calls}
use Rattle.ldm_sender.specs.Course.{IsRowIn}
use Rattle.ldm_sender.proofs.Steps.{RowsStay, HasRowIn-stays}
use Rattle.ldm_sender.proofs.Turning.{IsLawful}
use Rattle.ldm_notify.specs.Turn.{Row, notice_kind}

-- the answer to a NOTIFYME is spelled as that to a FEEDME
same_answer : (xid : ℕ) (answer : ClassAnswer)
    → written (sent.FeedmeReply xid answer) ≡ written (sent.NotifymeReply xid answer)
unfolding written
same_answer xid answer = refl

row_stays : RowsStay → (old new : PassView) (made : List Entry) (row : Row) → Calls old new made
    → IsRowIn notice_kind old row → IsRowIn notice_kind new row
row_stays law old new made row calls is =
    (is.0, HasRowIn-stays law old new made row.n (record { info = row.info; body = is.0 }) row.time calls is.1)

pub notice_lawful : IsLawful notice_kind
notice_lawful = record {
  answers = same_answer;
  stays = row_stays;
  silent = λ host actor k row handling. refl;
  unmade = λ actor k row handling. tt;
}
