-- A product that was offered is let go.
use Rattle.std.proofs.Common.{◌≡◌, ◌∙◌, ℕ, List, [], ◌∷◌, ◌++◌, Bool, true, false, None, inl, inr, refl, ap, subst}
use Rattle.std.proofs.Common.{append-nil}
use Rattle.ldm_outside.specs.Clock.{ClockRecord}
use Rattle.ldm_outside.specs.Link.{LinkRecord, IsNotClosed}
use Rattle.ldm_shared.specs.Passes.{PassView, Makes, FindsWorn}
use Rattle.ldm_shared.proofs.Made.{calls_some}
use Rattle.ldm_shared.specs.Reader.{HasCursor}
use Rattle.ldm_session.specs.declared.replies.Replies.{Replies}
use Rattle.ldm_sender.proofs.Steps.{one_call}
use Rattle.ldm_sender.specs.declared.end.SendEnd.{SendEnd}
use Rattle.ldm_sender.specs.declared.end.SendEnd.TheVariants as end
use Rattle.ldm_sender.specs.declared.standing.Standing.{Standing}
use Rattle.ldm_sender.specs.Asked.{Asked}
use Rattle.ldm_upstream.specs.Turn.{Given, let_go, after_handling, handling_codes}
use Rattle.ldm_sender.specs.Deeds.{and_then, calling}
use Rattle.ldm_upstream.specs.ProductDeeds.{handling_deed}
use Rattle.ldm_sender.specs.Does.{SendingMoment, moment_of, Does, Breaks}
use Rattle.ldm_sender.specs.Acts.{is_whole}
use Rattle.ldm_upstream.specs.Offering.{Offered, EndsOfferBy, EndsOffer, Handled, EndsHandlingBy, EndsHandling}
use Rattle.ldm_sender.proofs.Doing.{does_then, breaks_then, breaks_before, one_done, nothing_done}
use Rattle.ldm_upstream.proofs.Offers.{heard_last}

-- it ended before
ended_by : (whole : Bool) (why : SendEnd) (asked : Asked) (k : ℕ) (given : Given) (s : Standing) (old new : SendingMoment)
    (r : Replies) → EndsOfferBy whole why asked k given s old new r
    → EndsHandlingBy whole why asked k given s old new r
ended_by true why asked k given s old new r ends = ends
ended_by false why asked k given s old new r (inl unanswered) = inl unanswered
ended_by false why asked k given s old new r (inr ends) =
    inr (record {
      handling = ends.handling;
      is_handled = ends.is_handled;
      came = ends.came;
      breaks =
          breaks_before ends.came old new (handling_deed old.pass.actor k s.next given ends.handling)
          (calling (let_go old.pass.actor k given)) ends.breaks;
      heard = ends.heard;
    })

pub ended_before : (why : SendEnd) (asked : Asked) (k : ℕ) (given : Given) (s : Standing) (old new : SendingMoment)
    (r : Replies) → EndsOffer why asked k given s old new r
    → EndsHandling why asked k given s old new r
ended_before why asked k given s old new r ends =
    record {
      ends = ended_by (is_whole why) why asked k given s old new r ends.ends;
      cause = ends.cause;
      cursor =
          ends.cursor;
    }

-- it is let go
pub let_it_go : (asked : Asked) (k : ℕ) (given : Given) (s s' : Standing) (old : SendingMoment) (mid new : PassView)
    (link : LinkRecord) (clock : ClockRecord) (out : List ℕ) (r r' : Replies)
    → IsNotClosed link → Offered asked k given s s' old (moment_of mid link clock out) r r'
    → Makes mid new (let_go mid.actor k given ∷ []) → HasCursor new k None
    → Handled asked k given s s' old (moment_of new link clock out) r r'
let_it_go asked k given s s' old mid new link clock out r r' unclosed offered makes cursor =
    let same : mid.actor ≡ old.pass.actor = ap (λ (p : PassView). p.actor) offered.does.calls.same in
    let there = moment_of new link clock out in
    let first = handling_deed old.pass.actor k s.next given offered.handling in
    let second = calling (let_go old.pass.actor k given) in
    let made : Makes mid new (let_go old.pass.actor k given ∷ []) =
    subst (λ (a : ℕ). Makes mid new (let_go a k given ∷ [])) same makes in
    let both : Does (offered.came ++ []) old there (and_then first second) =
    does_then offered.came [] old (moment_of mid link clock out) there first second offered.does
    (one_call mid new link clock out (let_go old.pass.actor k given) made unclosed) in
    record {
      handling = offered.handling;
      is_handled = offered.is_handled;
      came = offered.came;
      does = subst (λ (x : List ℕ). Does x old there (and_then first second)) (append-nil offered.came) both;
      stands = offered.stands;
      heard = offered.heard;
      cursor = cursor;
    }

-- the queue has had all its calls
pub worn_before : (asked : Asked) (k turns : ℕ) (given : Given) (s s' : Standing) (old : SendingMoment) (mid new : PassView)
    (link : LinkRecord) (clock : ClockRecord) (out : List ℕ) (r r' : Replies)
    → IsNotClosed link → Offered asked k given s s' old (moment_of mid link clock out) r r' → FindsWorn mid new turns
    → EndsHandling end.Worn asked k given s old (moment_of new link clock out) r
worn_before asked k turns given s s' old mid new link clock out r r' unclosed offered worn =
    let there = moment_of new link clock out in
    let here = moment_of mid link clock out in
    let first = handling_deed old.pass.actor k s.next given offered.handling in
    let second = calling (let_go old.pass.actor k given) in
    let both : Breaks (offered.came ++ []) old there (and_then first second) =
    breaks_then offered.came [] old here there second (and_then first second)
    (one_done offered.came old here first second offered.does)
    (nothing_done here there second unclosed (calls_some mid new [] worn.makes) refl refl) in
    record {
      ends = inr (record {
        handling = offered.handling;
        is_handled = offered.is_handled;
        came = offered.came;
        breaks = subst (λ (x : List ℕ). Breaks x old there (and_then first second)) (append-nil offered.came) both;
        heard = heard_last end.Worn (after_handling s given offered.handling).next offered.came
            (handling_codes s.next offered.handling) r r' (λ _ _. tt) offered.heard;
      });
      cause = worn.long ∙ worn.turns_are;
      cursor = tt;
    }
