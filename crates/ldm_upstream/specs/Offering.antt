-- What it comes to that a product that is due is offered: it goes whole, or is announced.
use Rattle.std.specs.Prelude.{◌≡◌, ◌⊎◌, ℕ, List, [], ◌∷◌, length, Bool, true, false, None, Result, Ok, Err}
use Rattle.ldm_outside.specs.Count.{Rose}
use Rattle.ldm_relay.specs.declared.message.SoonAnswer.{SoonAnswer}
use Rattle.ldm_shared.specs.declared.steps.TheConstants.{MOST_TURNS}
use Rattle.ldm_shared.specs.Reader.{HasCursor}
use Rattle.ldm_session.specs.declared.replies.Replies.{Replies}
use Rattle.ldm_sender.specs.declared.end.SendEnd.{SendEnd}
use Rattle.ldm_sender.specs.declared.end.SendEnd.TheVariants as end
use Rattle.ldm_sender.specs.declared.standing.Standing.{Standing}
use Rattle.ldm_sender.specs.Asked.{Asked}
use Rattle.ldm_upstream.specs.Turn.{Given, Handling, Declined, IsHandled, after_handling, handling_codes}
use Rattle.ldm_upstream.specs.Feeding.{Unanswered, IsLast}
use Rattle.ldm_sender.specs.Deeds.{Deed}
use Rattle.ldm_upstream.specs.ProductDeeds.{handling_deed, product_deed}
use Rattle.ldm_sender.specs.Does.{SendingMoment, Does, Breaks}
use Rattle.ldm_upstream.specs.Giving.{HoldsGiven}
use Rattle.ldm_sender.specs.Stopping.{KeepsCursor}
use Rattle.ldm_sender.specs.Acts.{is_whole, IsAllSent}
use Rattle.ldm_upstream.specs.Heard.{HearsOn, HearsLast}

-- why the offer of a product ends
abbrev pub StopsOffer : SendEnd → SendingMoment → SendingMoment → Type 0
StopsOffer (end.PeerEnd at) old new = Rose old.link.ends new.link.ends
StopsOffer (end.BadReply at) old new = Unit {0}
StopsOffer end.LinkFault old new = Rose old.link.faults new.link.faults
StopsOffer end.Worn old new = length new.pass.seen ≡ MOST_TURNS
StopsOffer end.OutOfMemory old new = Unit {0}
StopsOffer _ old new = ⊥

-- it was done, or it broke off
abbrev pub EndsDeed : Bool → (came : List ℕ) → (old new : SendingMoment) → Deed → Type 0
EndsDeed true came old new deed = Does came old new deed
EndsDeed false came old new deed = Breaks came old new deed

-- ---- an announcement and its reply

-- It was announced, and this was replied. Nothing is gathered then.
pub record Announced (k : ℕ) (given : Given) (answer : SoonAnswer) (standing standing' : Standing) (old new : SendingMoment)
    (replies replies' : Replies) : Type 0 where
  pub came : List ℕ
  pub does : Does came old new (handling_deed old.pass.actor k standing.next given (Declined standing'.sent_at))
  pub stands : standing' ≡ after_handling standing given (Declined standing'.sent_at)
  pub heard : HearsOn came (record { xid = standing.next; answer = answer } ∷ []) replies replies'

-- It was announced or not, and no reply came.
pub record EndsAnnouncing (why : SendEnd) (k : ℕ) (given : Given) (standing : Standing) (old new : SendingMoment)
    (replies : Replies) : Type 0 where
  pub at : ℕ
  pub came : List ℕ
  pub ends : EndsDeed (is_whole why) came old new (handling_deed old.pass.actor k standing.next given (Declined at))
  pub heard : HearsLast why standing.next came [] replies
  pub cause : StopsOffer why old new
  pub all_sent : IsAllSent (is_whole why) new.out
  -- no call was made
  pub same : new.pass ≡ old.pass

abbrev pub Announces : Result SoonAnswer SendEnd → ℕ → Given → (standing standing' : Standing) → (old new : SendingMoment)
    → (replies replies' : Replies) → Type 0
Announces (Ok answer) k given standing standing' old new replies replies' =
    Announced k given answer standing standing' old new replies replies'
Announces (Err why) k given standing standing' old new replies replies' =
    EndsAnnouncing why k given standing old new replies

-- ---- the whole

-- It was handled, and is held still.
pub record Offered (asked : Asked) (k : ℕ) (given : Given) (standing standing' : Standing) (old new : SendingMoment)
    (replies replies' : Replies) : Type 0 where
  pub handling : Handling
  pub is_handled : IsHandled asked given handling
  pub came : List ℕ
  pub does : Does came old new (handling_deed old.pass.actor k standing.next given handling)
  pub stands : standing' ≡ after_handling standing given handling
  pub heard : HearsOn came (handling_codes standing.next handling) replies replies'
  pub holds : HoldsGiven new.pass k given

-- It was announced, or that broke off, and no reply came.
pub record IsUnanswered (why : SendEnd) (asked : Asked) (k : ℕ) (given : Given) (standing : Standing) (old new : SendingMoment)
    (replies : Replies) : Type 0 where
  pub at : ℕ
  pub is_last : IsLast asked (Unanswered given at)
  pub came : List ℕ
  pub ends : EndsDeed (is_whole why) came old new (handling_deed old.pass.actor k standing.next given (Declined at))
  pub heard : HearsLast why standing.next came [] replies
  pub all_sent : IsAllSent (is_whole why) new.out
  -- no call was made
  pub same : new.pass ≡ old.pass

-- It broke off in a handling: the reply to its announcement came, where it was announced.
pub record BreaksOffer (why : SendEnd) (asked : Asked) (k : ℕ) (given : Given) (standing : Standing) (old new : SendingMoment)
    (replies : Replies) : Type 0 where
  pub handling : Handling
  pub is_handled : IsHandled asked given handling
  pub came : List ℕ
  pub breaks : Breaks came old new (handling_deed old.pass.actor k standing.next given handling)
  pub heard : HearsLast why (after_handling standing given handling).next came (handling_codes standing.next handling)
      replies

abbrev pub EndsOfferBy : Bool → SendEnd → Asked → ℕ → Given → Standing → (old new : SendingMoment) → Replies → Type 0
EndsOfferBy true why asked k given standing old new replies = IsUnanswered why asked k given standing old new replies
EndsOfferBy false why asked k given standing old new replies =
    IsUnanswered why asked k given standing old new replies ⊎ BreaksOffer why asked k given standing old new replies

pub record EndsOffer (why : SendEnd) (asked : Asked) (k : ℕ) (given : Given) (standing : Standing) (old new : SendingMoment)
    (replies : Replies) : Type 0 where
  pub ends : EndsOfferBy (is_whole why) why asked k given standing old new replies
  pub cause : StopsOffer why old new
  pub cursor : KeepsCursor why new.pass k

abbrev pub Offers : Result (Unit {0}) SendEnd → Asked → ℕ → Given → (standing standing' : Standing) → (old new : SendingMoment)
    → (replies replies' : Replies) → Type 0
Offers (Ok done) asked k given standing standing' old new replies replies' =
    Offered asked k given standing standing' old new replies replies'
Offers (Err why) asked k given standing standing' old new replies replies' =
    EndsOffer why asked k given standing old new replies

-- ---- a product that the cursor gave

-- It was handled, and let go.
pub record Handled (asked : Asked) (k : ℕ) (given : Given) (standing standing' : Standing) (old new : SendingMoment)
    (replies replies' : Replies) : Type 0 where
  pub handling : Handling
  pub is_handled : IsHandled asked given handling
  pub came : List ℕ
  pub does : Does came old new (product_deed old.pass.actor k standing.next given handling)
  pub stands : standing' ≡ after_handling standing given handling
  pub heard : HearsOn came (handling_codes standing.next handling) replies replies'
  pub cursor : HasCursor new.pass k None

-- It broke off in a handling, or in its release: the reply to its announcement came, where it was announced.
pub record BreaksHandling (why : SendEnd) (asked : Asked) (k : ℕ) (given : Given) (standing : Standing)
    (old new : SendingMoment) (replies : Replies) : Type 0 where
  pub handling : Handling
  pub is_handled : IsHandled asked given handling
  pub came : List ℕ
  pub breaks : Breaks came old new (product_deed old.pass.actor k standing.next given handling)
  pub heard : HearsLast why (after_handling standing given handling).next came (handling_codes standing.next handling)
      replies

abbrev pub EndsHandlingBy : Bool → SendEnd → Asked → ℕ → Given → Standing → (old new : SendingMoment) → Replies → Type 0
EndsHandlingBy true why asked k given standing old new replies = IsUnanswered why asked k given standing old new replies
EndsHandlingBy false why asked k given standing old new replies =
    IsUnanswered why asked k given standing old new replies ⊎ BreaksHandling why asked k given standing old new replies

pub record EndsHandling (why : SendEnd) (asked : Asked) (k : ℕ) (given : Given) (standing : Standing) (old new : SendingMoment)
    (replies : Replies) : Type 0 where
  pub ends : EndsHandlingBy (is_whole why) why asked k given standing old new replies
  pub cause : StopsOffer why old new
  pub cursor : KeepsCursor why new.pass k

abbrev pub Handles : Result (Unit {0}) SendEnd → Asked → ℕ → Given → (standing standing' : Standing)
    → (old new : SendingMoment) → (replies replies' : Replies) → Type 0
Handles (Ok done) asked k given standing standing' old new replies replies' =
    Handled asked k given standing standing' old new replies replies'
Handles (Err why) asked k given standing standing' old new replies replies' =
    EndsHandling why asked k given standing old new replies
