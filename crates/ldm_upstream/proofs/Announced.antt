-- A product is announced, and the reply is heard.
use Rattle.std.proofs.Common.{◌≡◌, ℕ, List, [], ◌++◌, refl, sym, ap, subst, append-nil}
use Rattle.std.specs.Prelude.{Ok, Err}
use Rattle.ldm_outside.specs.Clock.{ClockRecord}
use Rattle.ldm_outside.specs.Link.{LinkRecord}
use Rattle.ldm_outside.proofs.CallerLemmas.{Rose-later}
use Rattle.ldm_relay.specs.declared.message.SoonAnswer.{SoonAnswer}
use Rattle.ldm_rpc.specs.Streams.{Placed}
use Rattle.ldm_shared.specs.Passes.{PassView}
use Rattle.ldm_shared.proofs.Made.{calls_none}
use Rattle.ldm_session.specs.declared.replies.NoReply.{NoReply}
use Rattle.ldm_session.specs.declared.replies.NoReply.TheVariants as none
use Rattle.ldm_session.specs.declared.replies.Replies.{Replies}
use Rattle.ldm_session.specs.Exchange.{Exchanged}
use Rattle.ldm_session.specs.Hearing.{Hears, Tells}
use Rattle.ldm_session.specs.Owed.{Code}
use Rattle.ldm_session.proofs.CallerLemmas.{AnsweredAll-nothing, Heard-said}
use Rattle.ldm_sender.specs.declared.end.SendEnd.{SendEnd}
use Rattle.ldm_sender.specs.declared.standing.Standing.{Standing}
use Rattle.ldm_upstream.specs.Turn.{Given, Declined, after_handling}
use Rattle.ldm_sender.specs.Calls.{later_call}
use Rattle.ldm_sender.specs.Deeds.{Deed, no_deed}
use Rattle.ldm_upstream.specs.ProductDeeds.{handling_deed}
use Rattle.ldm_sender.specs.Does.{SendingMoment, moment_of, KeepsLink}
use Rattle.ldm_upstream.specs.Heard.{HearsLast, IsBehind, SaysLast}
use Rattle.ldm_sender.specs.NoReplyEnd.{end_of}
use Rattle.ldm_upstream.specs.Offering.{Announced, EndsAnnouncing}
use Rattle.ldm_sender.proofs.Doing.{Toward, toward_then, all_done, stops_here}

-- the count of calls goes on by one
pub counted : (standing standing' : Standing) (given : Given) → standing'.next ≡ later_call standing.next 1
    → standing' ≡ after_handling standing given (Declined standing'.sent_at)
counted standing standing' given next = ap (λ n. let s : Standing = record { next = n; sent_at = standing'.sent_at }
    in s) next

-- ---- what was heard

-- no reply came, by what the reader of replies tells
says_last : (no_reply : NoReply) (xid : ℕ) (given : List ℕ) (codes : List Code) (new : Replies)
    → Tells (Err no_reply) xid given codes new → SaysLast (end_of no_reply) xid given codes
says_last (none.PeerEnd at) xid given codes new tells =
    record { behind = []; said = tells.0; is_behind = (tells.1, refl) }
says_last (none.BadReply at) xid given codes new tells =
    record { behind = tells.0; said = tells.1.0; is_behind = tells.1.1 }
says_last none.LinkFault xid given codes new tells = record { behind = tells.0; said = tells.1; is_behind = tt }
says_last none.OutOfMemory xid given codes new tells = record { behind = tells.0; said = tells.1; is_behind = tt }

hears_last : (no_reply : NoReply) (xid : ℕ) (old new : Replies) (link link' : LinkRecord)
    (hears : Hears (Err no_reply) xid old new link link') → HearsLast (end_of no_reply) xid hears.more [] old
hears_last no_reply xid old new link link' hears = λ given earlier heard.
    let P : List Code → Type 0 = λ codes. SaysLast (end_of no_reply) xid (given ++ hears.more) codes in
    subst P (sym (append-nil earlier))
    (says_last no_reply xid (given ++ hears.more) earlier new (hears.told given earlier heard))

-- nothing was heard
pub unheard : (why : SendEnd) (xid : ℕ) (replies : Replies)
    → ((given : List ℕ) (behind : List Placed) → IsBehind why xid given behind) → HearsLast why xid [] [] replies
unheard why xid replies free = λ given earlier heard.
    let said = Heard-said given earlier replies heard in
    let here : SaysLast why xid given earlier =
    record { behind = said.0; said = said.1; is_behind = free given said.0 } in
    let P : List ℕ → Type 0 = λ bytes. SaysLast why xid bytes (earlier ++ []) in
    let Q : List Code → Type 0 = λ codes. SaysLast why xid given codes in
    subst P (sym (append-nil given)) (subst Q (sym (append-nil earlier)) here)

-- bytes came, and nothing else was done
reply_came : (pass : PassView) (clock : ClockRecord) (out came : List ℕ) (link link' : LinkRecord)
    → Exchanged link [] came link' → KeepsLink link link'
    → Toward came (moment_of pass link clock out) (moment_of pass link' clock out) no_deed no_deed
reply_came pass clock out came link link' exchanged keeps = record {
  made = [];
  calls = calls_none pass;
  entries = refl;
  sent = [];
  exchanged = exchanged;
  bytes = refl;
  asked = [];
  answered = AnsweredAll-nothing clock;
  instants = refl;
  link = keeps;
}

then_came : (pass : PassView) (clock : ClockRecord) (out came : List ℕ) (old : SendingMoment) (link link' : LinkRecord)
    (all : Deed) → Toward [] old (moment_of pass link clock out) no_deed all
    → Exchanged link [] came link' → KeepsLink link link' → Toward came old (moment_of pass link' clock out) no_deed all
then_came pass clock out came old link link' all toward exchanged keeps =
    toward_then [] came old (moment_of pass link clock out)
    (moment_of pass link' clock out) no_deed no_deed all toward
    (reply_came pass clock out came link link' exchanged keeps)

-- ---- the ends of an announcement

-- the reply came
pub announced : (k : ℕ) (given : Given) (answer : SoonAnswer) (standing standing' : Standing) (pass : PassView)
    (clock : ClockRecord) (out : List ℕ) (old : SendingMoment) (link link' : LinkRecord)
    (replies replies' : Replies)
    → Toward [] old (moment_of pass link clock out) no_deed
    (handling_deed old.pass.actor k standing.next given (Declined standing'.sent_at))
    → standing'.next ≡ later_call standing.next 1 → Hears (Ok answer) standing.next replies replies' link link'
    → KeepsLink link link'
    → Announced k given answer standing standing' old (moment_of pass link' clock out) replies replies'
announced k given answer standing standing' pass clock out old link link' replies replies' toward next hears keeps =
    let all = handling_deed old.pass.actor k standing.next given (Declined standing'.sent_at) in
    record {
      came = hears.more;
      does = all_done hears.more old (moment_of pass link' clock out) all
          (then_came pass clock out hears.more old link link' all toward hears.exchanged keeps);
      stands = counted standing standing' given next;
      heard = λ given earlier heard. hears.told given earlier heard;
    }

-- it did not come
pub unanswered : (no_reply : NoReply) (k : ℕ) (given : Given) (standing : Standing) (at : ℕ) (pass : PassView)
    (clock : ClockRecord) (out : List ℕ) (old : SendingMoment) (link link' : LinkRecord)
    (replies replies' : Replies)
    → Toward [] old (moment_of pass link clock out) no_deed
    (handling_deed old.pass.actor k standing.next given (Declined at))
    → Hears (Err no_reply) standing.next replies replies' link link' → KeepsLink link link' → pass ≡ old.pass → out ≡ []
    → EndsAnnouncing (end_of no_reply) k given standing old (moment_of pass link' clock out) replies
unanswered (none.PeerEnd place) k given standing at pass clock out old link link' replies replies' toward hears keeps
    same empty =
    let all = handling_deed old.pass.actor k standing.next given (Declined at) in
    record {
      at = at;
      came = hears.more;
      ends = all_done hears.more old (moment_of pass link' clock out) all
          (then_came pass clock out hears.more old link link' all toward hears.exchanged keeps);
      heard = hears_last (none.PeerEnd place) standing.next replies replies' link link' hears;
      cause = Rose-later old.link.ends link.ends link'.ends toward.link.ends hears.cause;
      all_sent = empty;
      same = same;
    }
unanswered (none.BadReply place) k given standing at pass clock out old link link' replies replies' toward hears keeps
    same empty =
    let all = handling_deed old.pass.actor k standing.next given (Declined at) in
    record {
      at = at;
      came = hears.more;
      ends = all_done hears.more old (moment_of pass link' clock out) all
          (then_came pass clock out hears.more old link link' all toward hears.exchanged keeps);
      heard = hears_last (none.BadReply place) standing.next replies replies' link link' hears;
      cause = tt;
      all_sent = empty;
      same = same;
    }
unanswered none.LinkFault k given standing at pass clock out old link link' replies replies' toward hears keeps same
    empty =
    let all = handling_deed old.pass.actor k standing.next given (Declined at) in
    record {
      at = at;
      came = hears.more;
      ends = stops_here hears.more old (moment_of pass link' clock out) no_deed all
          (then_came pass clock out hears.more old link link' all toward hears.exchanged keeps);
      heard = hears_last none.LinkFault standing.next replies replies' link link' hears;
      cause = Rose-later old.link.faults link.faults link'.faults toward.link.faults hears.cause;
      all_sent = tt;
      same = same;
    }
unanswered none.OutOfMemory k given standing at pass clock out old link link' replies replies' toward hears keeps same
    empty =
    let all = handling_deed old.pass.actor k standing.next given (Declined at) in
    record {
      at = at;
      came = hears.more;
      ends = stops_here hears.more old (moment_of pass link' clock out) no_deed all
          (then_came pass clock out hears.more old link link' all toward hears.exchanged keeps);
      heard = hears_last none.OutOfMemory standing.next replies replies' link link' hears;
      cause = tt;
      all_sent = tt;
      same = same;
    }
