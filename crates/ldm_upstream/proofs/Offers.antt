-- A product that is due goes whole, or is announced and goes in blocks, or not at all.
use Rattle.std.proofs.Common.{◌≡◌, ◌∙◌, ℕ, ◌<◌, ◌≤◌, List, [], ◌++◌, length, Bool, true, false, Some, inl, inr}
use Rattle.std.proofs.Common.{refl, sym, ap, subst, arith, append-nil}
use Rattle.std.specs.Prelude.{Result, Ok, Err}
use Rattle.ldm_outside.specs.Clock.{ClockRecord}
use Rattle.ldm_outside.specs.Link.{LinkRecord}
use Rattle.ldm_outside.proofs.CallerLemmas.{Rose-later}
use Rattle.ldm_rpc.specs.Streams.{Placed}
use Rattle.ldm_relay.specs.declared.message.SoonAnswer.TheVariants as soon
use Rattle.ldm_relay.specs.Spelling.{written, record_of}
use Rattle.ldm_shared.specs.Passes.{PassView}
use Rattle.ldm_shared.specs.Reader.{HasCursor}
use Rattle.ldm_session.specs.declared.replies.Replies.{Replies}
use Rattle.ldm_session.specs.Owed.{Code}
use Rattle.ldm_session.proofs.CallerLemmas.{Heard-said}
use Rattle.ldm_sender.specs.declared.end.SendEnd.{SendEnd}
use Rattle.ldm_sender.specs.declared.end.SendEnd.TheVariants as end
use Rattle.ldm_sender.specs.declared.standing.Standing.{Standing}
use Rattle.ldm_sender.specs.Asked.{Asked}
use Rattle.ldm_upstream.specs.Blocks.{blocks}
use Rattle.ldm_upstream.specs.Turn.{Given, Handling, Passed, Whole, Declined, InBlocks, after_handling, handling_codes}
use Rattle.ldm_upstream.specs.Turn.{announcement, block_messages}
use Rattle.ldm_sender.specs.Calls.{later_call}
use Rattle.ldm_upstream.specs.Turn.{IsDue, IsHandled, size_of}
use Rattle.ldm_sender.specs.Deeds.{Deed, and_then, records_of}
use Rattle.ldm_upstream.specs.ProductDeeds.{handling_deed, blocks_deed}
use Rattle.ldm_sender.specs.Does.{SendingMoment, moment_of, Does, Breaks}
use Rattle.ldm_upstream.specs.Giving.{HoldsGiven, GivesWhole, GivesBlocks}
use Rattle.ldm_sender.specs.Stopping.{KeepsCursor, StopsSending}
use Rattle.ldm_sender.specs.Acts.{is_whole}
use Rattle.ldm_upstream.specs.Heard.{HearsOn, HearsLast, IsBehind}
use Rattle.ldm_upstream.specs.Offering.{Announced, EndsAnnouncing, Offered, IsUnanswered, BreaksOffer, EndsOfferBy}
use Rattle.ldm_upstream.specs.Offering.{EndsOffer, Offers}
use Rattle.ldm_sender.proofs.Acting.{deed_is}
use Rattle.ldm_upstream.proofs.Blocks.{later_again}
use Rattle.ldm_sender.proofs.Doing.{does_then, breaks_then, one_done}
use Rattle.ldm_sender.proofs.Settling.{keeps_cursor}
use Rattle.ldm_upstream.proofs.Turning.{hears_nothing}

-- ---- what was heard at an end

-- what was heard so far is the last
pub heard_last : (why : SendEnd) (next : ℕ) (came : List ℕ) (codes : List Code) (r r' : Replies)
    → ((given : List ℕ) (behind : List Placed) → IsBehind why next given behind)
    → HearsOn came codes r r' → HearsLast why next came codes r
heard_last why next came codes r r' free on = λ given earlier heard.
    let said = Heard-said (given ++ came) (earlier ++ codes) r' (on given earlier heard) in
    record { behind = said.0; said = said.1; is_behind = free (given ++ came) said.0 }

-- ---- it breaks off

broke : (why : SendEnd) (asked : Asked) (k : ℕ) (given : Given) (s : Standing) (old new : SendingMoment) (r r' : Replies)
    (handling : Handling) (came : List ℕ)
    → ((x : List ℕ) (behind : List Placed) → IsBehind why (after_handling s given handling).next x behind)
    → IsHandled asked given handling → HearsOn came (handling_codes s.next handling) r r'
    → Breaks came old new (handling_deed old.pass.actor k s.next given handling)
    → BreaksOffer why asked k given s old new r
broke why asked k given s old new r r' handling came free is_handled on breaks = record {
  handling = handling;
  is_handled = is_handled;
  came = came;
  breaks = breaks;
  heard = heard_last why (after_handling s given handling).next came (handling_codes s.next handling) r r' free on;
}

pub offer_breaks : (why : SendEnd) (asked : Asked) (k : ℕ) (given : Given) (s : Standing) (first old new : SendingMoment)
    (r r' : Replies) (handling : Handling) (came : List ℕ)
    → IsHandled asked given handling → HearsOn came (handling_codes s.next handling) r r'
    → Breaks came first new (handling_deed first.pass.actor k s.next given handling)
    → first.link.faults ≤ old.link.faults → StopsSending why old new → KeepsCursor why new.pass k
    → EndsOffer why asked k given s first new r
offer_breaks end.LinkFault asked k given s first old new r r' handling came is_handled on breaks later cause cursor =
    record {
      ends = inr (broke end.LinkFault asked k given s first new r r' handling came (λ _ _. tt) is_handled on breaks);
      cause = Rose-later first.link.faults old.link.faults new.link.faults later cause;
      cursor = cursor;
    }
offer_breaks end.Worn asked k given s first old new r r' handling came is_handled on breaks later cause cursor =
    record {
      ends = inr (broke end.Worn asked k given s first new r r' handling came (λ _ _. tt) is_handled on breaks);
      cause = cause;
      cursor = cursor;
    }
offer_breaks end.OutOfMemory asked k given s first old new r r' handling came is_handled on breaks later cause cursor =
    record {
      ends = inr (broke end.OutOfMemory asked k given s first new r r' handling came (λ _ _. tt) is_handled on breaks);
      cause = cause;
      cursor = cursor;
    }
offer_breaks end.Stopped asked k given s first old new r r' handling came is_handled on breaks later cause cursor =
    absurd cause
offer_breaks end.Reclassed asked k given s first old new r r' handling came is_handled on breaks later cause cursor =
    absurd cause
offer_breaks (end.Denied rule) asked k given s first old new r r' handling came is_handled on breaks later cause
    cursor = absurd cause
offer_breaks (end.PeerEnd at) asked k given s first old new r r' handling came is_handled on breaks later cause cursor =
    absurd cause
offer_breaks end.LogFault asked k given s first old new r r' handling came is_handled on breaks later cause cursor =
    absurd cause
offer_breaks (end.BadReply at) asked k given s first old new r r' handling came is_handled on breaks later cause
    cursor = absurd cause
offer_breaks end.AllBusy asked k given s first old new r r' handling came is_handled on breaks later cause cursor =
    absurd cause

-- ---- it is not due, or goes whole

pub offers_nothing : (asked : Asked) (k : ℕ) (given : Given) (s : Standing) (now : SendingMoment) (r : Replies)
    → IsHandled asked given Passed
    → Does [] now now (handling_deed now.pass.actor k s.next given Passed) → HoldsGiven now.pass k given
    → Offered asked k given s s now now r r
offers_nothing asked k given s now r passed does holds = record {
  handling = Passed;
  is_handled = passed;
  came = [];
  does = does;
  stands = refl;
  heard = hears_nothing r;
  holds = holds;
}

pub offers_whole : (result : Result (Unit {0}) SendEnd) (asked : Asked) (k : ℕ) (given : Given) (s s' : Standing)
    (old new : SendingMoment) (r : Replies) → IsDue asked given
    → size_of given ≤ asked.max_hereis → GivesWhole result k given s s' old new
    → Offers result asked k given s s' old new r r
offers_whole (Ok done) asked k given s s' old new r due small gives = record {
  handling = Whole s'.sent_at;
  is_handled = (due, small);
  came = [];
  does = gives.0.does;
  stands = gives.1;
  heard = hears_nothing r;
  holds = gives.0.holds;
}
offers_whole (Err why) asked k given s s' old new r due small gives =
    offer_breaks why asked k given s old old new r r (Whole s'.sent_at) [] (due, small)
    (hears_nothing r) gives.breaks (omega arith) gives.cause gives.cursor

-- ---- it is announced

-- no reply came
pub offer_unanswered : (why : SendEnd) (asked : Asked) (k n : ℕ) (given : Given) (s : Standing) (old new : SendingMoment)
    (r : Replies) → IsDue asked given → asked.max_hereis < size_of given
    → HasCursor old.pass k (Some n) → EndsAnnouncing why k given s old new r → EndsOffer why asked k given s old new r
offer_unanswered why asked k n given s old new r due large has ended = record {
  ends = by_end (is_whole why);
  cause = ended.cause;
  cursor = keeps_cursor why new.pass k (Some n) (subst (λ (p : PassView). HasCursor p k (Some n)) (sym ended.same) has);
}
  where
    unanswered : IsUnanswered why asked k given s old new r
    unanswered = record {
      at = ended.at;
      is_last = (due, large);
      came = ended.came;
      ends = ended.ends;
      heard = ended.heard;
      all_sent = ended.all_sent;
      same = ended.same;
    }

    by_end : (whole : Bool) → EndsOfferBy whole why asked k given s old new r
    by_end true = unanswered
    by_end false = inl unanswered

-- the peer did not want it
pub offer_declined : (asked : Asked) (k : ℕ) (given : Given) (s s' : Standing) (old new : SendingMoment) (r r' : Replies)
    → IsDue asked given → asked.max_hereis < size_of given
    → HoldsGiven new.pass k given → Announced k given soon.DontSend s s' old new r r'
    → Offered asked k given s s' old new r r'
offer_declined asked k given s s' old new r r' due large holds announced = record {
  handling = Declined s'.sent_at;
  is_handled = (due, large);
  came = announced.came;
  does = announced.does;
  stands = announced.stands;
  heard = announced.heard;
  holds = holds;
}

-- ---- it goes in blocks

-- the announcement, and then the blocks
announced_blocks : (actor k next next' : ℕ) (given : Given) (at : ℕ) (blocks_at : List ℕ) → next' ≡ later_call next 1
    → and_then (handling_deed actor k next given (Declined at))
    (blocks_deed actor k next' given blocks_at) ≡ handling_deed actor k next given (InBlocks at blocks_at)
announced_blocks actor k next next' given at blocks_at is =
    let tail = λ (n : ℕ). records_of (block_messages n given.product.info.signature 0 (blocks given.product.body)) in
    let head = record_of (written (announcement next given)) in
    deed_is _ _ _ _ _ _ refl (ap (λ (x : List ℕ). x ++ tail next')
    (append-nil head) ∙ ap (λ (n : ℕ). head ++ tail n) is) refl

stands_at : (s : Standing) (next at : ℕ) → s.next ≡ next → s.sent_at ≡ at
    → let there : Standing = record { next = next; sent_at = at } in s ≡ there
stands_at s next at one two =
    let by_next : ℕ → Standing = λ n. record { next = n; sent_at = s.sent_at } in
    let by_at : ℕ → Standing = λ n. record { next = next; sent_at = n } in
    ap by_next one ∙ ap by_at two

pub offer_in_blocks : (result : Result (Unit {0}) SendEnd) (asked : Asked) (k : ℕ) (given : Given) (s t u : Standing)
    (pass : PassView) (link link' : LinkRecord) (clock clock' : ClockRecord)
    (out out' : List ℕ) (new : SendingMoment) (r r' : Replies) → IsDue asked given → asked.max_hereis < size_of given
    → Announced k given soon.Ok s t (moment_of pass link clock out) (moment_of pass link' clock' out') r r'
    → GivesBlocks result k given t u (moment_of pass link' clock' out') new
    → Offers result asked k given s u (moment_of pass link clock out) new r r'
offer_in_blocks (Ok done) asked k given s t u pass link link' clock clock' out out' new r r' due large announced gave =
    let old = moment_of pass link clock out in
    let mid = moment_of pass link' clock' out' in
    let all = handling_deed pass.actor k s.next given (InBlocks t.sent_at gave.blocks_at) in
    let next_is : t.next ≡ later_call s.next 1 = ap (λ (x : Standing). x.next) announced.stands in
    let both = does_then announced.came [] old mid new _ _ announced.does gave.goes_on.does in
    let joined : Does (announced.came ++ []) old new all =
    subst (λ (d : Deed). Does (announced.came ++ []) old new d)
    (announced_blocks pass.actor k s.next t.next given t.sent_at gave.blocks_at next_is) both in
    record {
      handling = InBlocks t.sent_at gave.blocks_at;
      is_handled = (due, large, gave.each);
      came = announced.came;
      does = subst (λ (x : List ℕ). Does x old new all) (append-nil announced.came) joined;
      stands =
          stands_at u _ _
          (gave.next ∙ ap (λ (n : ℕ). later_call n (length (blocks given.product.body))) next_is
          ∙ later_again s.next 1 (length (blocks given.product.body)))
          gave.sent_at;
      heard = announced.heard;
      holds = gave.goes_on.holds;
    }
offer_in_blocks (Err why) asked k given s t u pass link link' clock clock' out out' new r r' due large announced
    broken =
    let old = moment_of pass link clock out in
    let mid = moment_of pass link' clock' out' in
    let all = handling_deed pass.actor k s.next given (InBlocks t.sent_at broken.blocks_at) in
    let next_is : t.next ≡ later_call s.next 1 = ap (λ (x : Standing). x.next) announced.stands in
    let first = handling_deed pass.actor k s.next given (Declined t.sent_at) in
    let second = blocks_deed pass.actor k t.next given broken.blocks_at in
    let both = breaks_then announced.came [] old mid new second (and_then first second)
    (one_done announced.came old mid first second announced.does) broken.breaks_off.breaks in
    let joined : Breaks (announced.came ++ []) old new all =
    subst (λ (d : Deed). Breaks (announced.came ++ []) old new d)
    (announced_blocks pass.actor k s.next t.next given t.sent_at broken.blocks_at next_is) both in
    offer_breaks why asked k given s old mid new r r' (InBlocks t.sent_at broken.blocks_at) announced.came
    (due, large, broken.each) announced.heard (subst (λ (x : List ℕ). Breaks x old new all)
    (append-nil announced.came) joined) announced.does.link.faults
    broken.breaks_off.cause broken.breaks_off.cursor
