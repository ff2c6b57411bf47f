-- A product that the cursor gave: a notice of it is gathered where it is due, and it is let go.
use Rattle.std.proofs.Common.{◌≡◌, ◌∙◌, ℕ, ◌≤◌, List, [], ◌∷◌, ◌++◌, true, false, None, Some, refl, ap, subst}
use Rattle.ldm_types.specs.Info.{Metadata}
use Rattle.ldm_outside.specs.Clock.{ClockRecord, Answers}
use Rattle.ldm_outside.specs.Link.{LinkRecord, IsNotClosed}
use Rattle.ldm_outside.proofs.CallerLemmas.{Rose-later}
use Rattle.ldm_relay.specs.Sent as sent
use Rattle.ldm_relay.specs.Spelling.{written, record_of}
use Rattle.ldm_shared.specs.Passes.{PassView, Makes, FindsWorn}
use Rattle.ldm_shared.proofs.Made.{calls_some}
use Rattle.ldm_shared.specs.Reader.{HasCursor}
use Rattle.ldm_session.specs.Gathering as gathering
use Rattle.ldm_sender.specs.declared.end.SendEnd.TheVariants as end
use Rattle.ldm_sender.specs.declared.standing.Standing.{Standing}
use Rattle.ldm_sender.specs.Asked.{Asked}
use Rattle.ldm_sender.specs.Due.{is_due}
use Rattle.ldm_sender.specs.Calls.{later_call}
use Rattle.ldm_sender.specs.Deeds.{and_then, no_deed, calling}
use Rattle.ldm_sender.specs.Does.{SendingMoment, moment_of}
use Rattle.ldm_sender.proofs.Doing.{Toward, all_done, breaks_before, breaks_then, nothing_done, one_done, send_failed}
use Rattle.ldm_sender.proofs.Doing.{some_sent, toward_then}
use Rattle.ldm_sender.proofs.Messaging.{gathers}
use Rattle.ldm_sender.proofs.Steps.{does_nothing, one_call}
use Rattle.ldm_sender.specs.Turn.{let_go}
use Rattle.ldm_notify.specs.Turn.{Row, Passed, Told}
use Rattle.ldm_notify.specs.Telling.{notice_deed, product_deed, HasTold, LacksRoom, Handled, EndsHandling}

-- ---- the notice

pub tells : (asked : Asked) (row : Row) (s s' : Standing) (pass : PassView) (link : LinkRecord)
    (clock clock' : ClockRecord) (out out' : List ℕ) (info : Metadata) → IsNotClosed link
    → is_due asked row.time row.info ≡ true → info ≡ row.info
    → out' ≡ out ++ record_of (written (sent.Notification s.next info)) → Answers s'.sent_at clock clock'
    → s'.next ≡ later_call s.next 1
    → HasTold asked row s s' (moment_of pass link clock out) (moment_of pass link clock' out')
tells asked row s s' pass link clock clock' out out' info unclosed due copied appended answered next =
    let here : out' ≡ out ++ record_of (written (sent.Notification s.next row.info)) =
    appended ∙ ap (λ (i : Metadata). out ++ record_of (written (sent.Notification s.next i))) copied in
    record {
      handling = Told s'.sent_at;
      is_handled = due;
      does =
          all_done [] (moment_of pass link clock out) (moment_of pass link clock' out')
          (notice_deed s.next row (Told s'.sent_at))
          (gathers pass link clock clock' out out' (sent.Notification s.next row.info) s'.sent_at unclosed here
          answered);
      stands = ap (λ (n : ℕ). record s' { next = n }) next;
    }

-- it is not due
pub tells_nothing : (asked : Asked) (row : Row) (s : Standing) (now : SendingMoment) → IsNotClosed now.link
    → is_due asked row.time row.info ≡ false → HasTold asked row s s now now
tells_nothing asked row s now unclosed not_due = record {
  handling = Passed;
  is_handled = not_due;
  does = does_nothing now unclosed;
  stands = refl;
}

-- ---- its release

-- it was let go, and then more is left or not
let_go_toward : (asked : Asked) (k : ℕ) (row : Row) (s s' : Standing) (old : SendingMoment) (mid new : PassView)
    (link : LinkRecord) (clock : ClockRecord) (out : List ℕ) → IsNotClosed link
    → (told : HasTold asked row s s' old (moment_of mid link clock out)) → mid.actor ≡ old.pass.actor
    → Makes mid new (let_go mid.actor k row ∷ [])
    → Toward [] old (moment_of new link clock out) no_deed (product_deed old.pass.actor k s.next row told.handling)
let_go_toward asked k row s s' old mid new link clock out unclosed told same makes =
    let here = moment_of mid link clock out in
    let there = moment_of new link clock out in
    let first = notice_deed s.next row told.handling in
    let second = calling (let_go old.pass.actor k row) in
    let made : Makes mid new (let_go old.pass.actor k row ∷ []) =
    subst (λ (a : ℕ). Makes mid new (let_go a k row ∷ [])) same makes in
    toward_then [] [] old here there no_deed second (and_then first second)
    (one_done [] old here first second told.does)
    (one_done [] here there second no_deed
    (one_call mid new link clock out (let_go old.pass.actor k row) made unclosed))

pub handled : (asked : Asked) (k : ℕ) (row : Row) (s s' : Standing) (old : SendingMoment) (mid new : PassView)
    (link link' : LinkRecord) (clock : ClockRecord) (out left : List ℕ) → IsNotClosed link
    → HasTold asked row s s' old (moment_of mid link clock out) → mid.actor ≡ old.pass.actor
    → Makes mid new (let_go mid.actor k row ∷ []) → HasCursor new k None
    → gathering.MovesOn out link left link' → Handled asked k row s s' old (moment_of new link' clock left)
handled asked k row s s' old mid new link link' clock out left unclosed told same makes cursor moves =
    let there = moment_of new link clock out in
    let all = product_deed old.pass.actor k s.next row told.handling in
    let gone = let_go_toward asked k row s s' old mid new link clock out unclosed told same makes in
    record {
      handling = told.handling;
      is_handled = told.is_handled;
      does =
          all_done [] old (moment_of new link' clock left) all
          (toward_then [] [] old there (moment_of new link' clock left) no_deed no_deed all gone
          (some_sent new clock out left link link' no_deed unclosed moves));
      stands = told.stands;
      cursor = cursor;
    }

-- the link failed
pub handled_unsent : (asked : Asked) (k : ℕ) (row : Row) (s s' : Standing) (old : SendingMoment) (mid new : PassView)
    (link link' : LinkRecord) (clock : ClockRecord) (out left : List ℕ) → IsNotClosed link
    → (told : HasTold asked row s s' old (moment_of mid link clock out)) → mid.actor ≡ old.pass.actor
    → Makes mid new (let_go mid.actor k row ∷ []) → HasCursor new k None
    → link.faults ≤ link'.faults → gathering.Breaks out link link'
    → EndsHandling end.LinkFault asked k row s old (moment_of new link' clock left)
handled_unsent asked k row s s' old mid new link link' clock out left unclosed told same makes cursor faults failed =
    let there = moment_of new link clock out in
    let all = product_deed old.pass.actor k s.next row told.handling in
    let gone = let_go_toward asked k row s s' old mid new link clock out unclosed told same makes in
    record {
      handling = told.handling;
      is_handled = told.is_handled;
      breaks = breaks_then [] [] old there (moment_of new link' clock left) no_deed all gone
          (send_failed new clock out left link link' no_deed unclosed faults failed);
      cause = Rose-later old.link.faults link.faults link'.faults told.does.link.faults failed.failing.0;
      cursor = (None, cursor);
    }

-- the queue has had all its calls
pub handled_worn : (asked : Asked) (k turns : ℕ) (row : Row) (s s' : Standing) (old : SendingMoment) (mid new : PassView)
    (link : LinkRecord) (clock : ClockRecord) (out : List ℕ) → IsNotClosed link
    → HasTold asked row s s' old (moment_of mid link clock out) → FindsWorn mid new turns
    → EndsHandling end.Worn asked k row s old (moment_of new link clock out)
handled_worn asked k turns row s s' old mid new link clock out unclosed told worn =
    let here = moment_of mid link clock out in
    let there = moment_of new link clock out in
    let first = notice_deed s.next row told.handling in
    let second = calling (let_go old.pass.actor k row) in
    record {
      handling = told.handling;
      is_handled = told.is_handled;
      breaks =
          breaks_then [] [] old here there second (and_then first second) (one_done [] old here first second told.does)
          (nothing_done here there second unclosed (calls_some mid new [] worn.makes) refl refl);
      cause = worn.long ∙ worn.turns_are;
      cursor = tt;
    }

-- there was no memory for the notice
pub handled_short : (asked : Asked) (k n : ℕ) (row : Row) (s : Standing) (old new : SendingMoment)
    → HasCursor new.pass k (Some n) → LacksRoom asked row s old new
    → EndsHandling end.OutOfMemory asked k row s old new
handled_short asked k n row s old new has short = record {
  handling = Told 0;
  is_handled = short.due;
  breaks = breaks_before [] old new (notice_deed s.next row (Told 0))
      (calling (let_go old.pass.actor k row)) short.breaks;
  cause = tt;
  cursor = (Some n, has);
}
