-- The session of a call that feeds and a call that receives.
use Rattle.std.proofs.Common.{◌≡◌, ◌∙◌, ℕ, ◌+◌, ◌<◌, ◌≤◌, Bool, true, false, List, [], ◌∷◌, ◌++◌, length, Option, Some, None, refl, sym, ap, subst, arith, append_assoc, append-nil, length-append}
use Rattle.std.specs.Prelude.{All}
use Rattle.std.proofs.lemmas.List.{append_cancel_left}
use mathlib.Core.List.{IsPrefix}
use Rattle.ldm_types.specs.declared.class.ClassSpec.{ClassSpec}
use Rattle.ldm_types.specs.declared.limits.TheConstants.{LARGEST_ARENA}
use Rattle.ldm_rpc.specs.Streams.{Placed}
use Rattle.ldm_relay.specs.Sent.{Sent}
use Rattle.ldm_relay.specs.Sent as sent
use Rattle.ldm_model.specs.declared.event.Entry.{Entry}
use Rattle.ldm_model.specs.Law.{Point}
use Rattle.ldm_shared.specs.Passes.{PassView, HasSeen, Calls}
use Rattle.ldm_session.specs.Owed.{Said}
use Rattle.ldm_intake.specs.declared.end.RecvEnd.{RecvEnd}
use Rattle.ldm_intake.specs.declared.end.RecvEnd.TheVariants.{Ended, Truncated, BadFrame, Refused, LinkFault, LogFault, StreamLimit, Worn, OutOfMemory}
use Rattle.ldm_intake.specs.Answered.{number_of_request}
use Rattle.ldm_class.specs.Asking.{asked_class}
use Rattle.ldm_intake.specs.Course.{Leads}
use Rattle.ldm_intake.specs.Opening.{request_of, requesting}
use Rattle.ldm_intake.specs.Receiving.{Receiving}
use Rattle.ldm_relay.specs.Spelling.{records_of}
use Rattle.ldm_session.specs.declared.limits.TheConstants.{LONGEST_STREAM}
use Rattle.ldm_sender.specs.Acts.{is_whole}
use Rattle.ldm_sender.specs.Asked.{Asked}
use Rattle.ldm_session.specs.Part.{IsPart}
use Rattle.ldm_sender.specs.Opening.{Opened}
use Rattle.ldm_upstream.specs.Feeding.{bytes_of, codes_of, given_of}
use Rattle.ldm_downstream.specs.Pieces.{joined}
use Rattle.ldm_downstream.specs.Received.{received}
use Rattle.ldm_downstream.specs.Receives.{at_first, is_whole_end}
use Rattle.ldm_between_ends.specs.Codes.{Agree, soon_codes}
use Rattle.ldm_between_ends.specs.Following.{Follows}
use Rattle.ldm_between_ends.specs.Life.{HasLife}
use Rattle.ldm_between_ends.specs.Meeting.{FeedingCall, ReceivingCall, Connects, IsSessionOf, IsNoFault, begins_of, pieces_of, came_to, sent_by}
use Rattle.ldm_between_ends.specs.Passing.{Carries, CarriesAll, HasAsked, IsGranted, IsPassing, Passing, record_at}
use Rattle.ldm_between_ends.specs.Session.{Session, IsSession}
use Rattle.ldm_between_ends.proofs.Living.{SeenLaw, fed-life, fed-seen}
use Rattle.ldm_between_ends.proofs.Sound.{ProductLaws, rows-sound}
use Rattle.ldm_between_ends.proofs.Took.{EndsBy, Took, took}

-- The laws of passings that are used.
pub record PassingLaws : Type 0 where
  pub products : ProductLaws
  pub seen : SeenLaw
  pub requested : (asked : Asked) (class : ClassSpec) (last : Option (List ℕ)) (max : ℕ) → asked.class ≡ asked_class class last → asked.xid ≡ number_of_request false
      → HasAsked asked (requesting class last max)
  pub read : (p : Passing) (given more : List ℕ) (behind : List Placed) → IsGranted p.asked p.feeding → HasAsked p.asked p.begins → Carries p
      → Leads p.actor (received p.begins (record_at p.at) p.pieces) p.made p.came_to → Said given (codes_of p.feeding) behind → given ++ more ≡ records_of p.came_to.replies
      → Agree (codes_of p.feeding) (soon_codes p.came_to.replies)
  pub goes_on : (p : Passing) → IsPassing p → p.came_to.end ≡ None

-- ---- parts

front-first : (whole : Bool) (part all : List ℕ) → IsPart whole part all → IsPrefix part all
front-first true part all is = ([], append-nil part ∙ is)
front-first false part all is = is

front-of_front : (a b c : List ℕ) → IsPrefix a b → IsPrefix b c → IsPrefix a c
front-of_front a b c first second =
    (first.0 ++ second.0, sym (append_assoc a first.0 second.0) ∙ ap (λ (x : List ℕ). x ++ second.0) first.1 ∙ second.1)

behind-same : (front a b : List ℕ) → IsPrefix (front ++ a) (front ++ b) → IsPrefix a b
behind-same front a b is = (is.0, append_cancel_left front (a ++ is.0) b (sym (append_assoc front a is.0) ∙ is.1))

front-shorter : (a b : List ℕ) → IsPrefix a b → length a ≤ length b
front-shorter a b is = omega (arith, length-append a is.0, ap (λ (x : List ℕ). length x) is.1)

-- ---- what the first message asks

number_in : List Sent → ℕ
number_in (sent.Feedme xid class max ∷ messages) = xid
number_in _ = 0

class_in : ClassSpec → List Sent → ClassSpec
class_in other (sent.Feedme xid class max ∷ messages) = class
class_in other _ = other

module _ (laws : PassingLaws) (f : FeedingCall) (r : ReceivingCall) (connects : Connects f r) (missed : Bool) (k : ℕ) (opened : f.feeds.feeding.answered ≡ Opened missed k) where
  abbrev s : Receiving
  s = begins_of r

  has-seen : HasSeen f.new
  has-seen = fed-seen f.end f.asked f.ahead f.old f.new f.before f.after f.feeds missed k opened

  granted : IsGranted f.asked f.feeds.feeding
  granted =
      let small : f.new.arena ≤ LARGEST_ARENA = subst (λ (n : ℕ). n ≤ LARGEST_ARENA) (sym (ap (λ (p : PassView). p.arena) f.feeds.made.same)) connects.arena in
      record {
        is = f.feeds.is_feeding;
        missed = missed;
        k = k;
        opened = opened;
        sound = rows-sound laws.products f.new has-seen small (given_of f.feeds.feeding) f.feeds.rows;
      }

  asker : HasAsked f.asked s
  unfolding number_in class_in
  asker = laws.requested f.asked r.class r.behind r.max_hereis (ap (class_in f.asked.class) (sym connects.asks)) (ap number_in (sym connects.asks))

  abbrev at_end : Took r.end s (pieces_of r) (at_first s r.old) r.receives.at_end
  at_end = took r.end s (pieces_of r) (at_first s r.old) r.receives.at_end refl r.receives.receives.comes

  abbrev passing : Passing
  passing = record {
    asked = f.asked;
    feeding = f.feeds.feeding;
    begins = s;
    at = 0;
    pieces = at_end.first;
    actor = r.old.actor;
    made = at_end.made;
    came_to = at_end.to;
  }

  bytes-came : IsPrefix (joined at_end.first) (came_to r)
  bytes-came = subst (λ (x : List ℕ). IsPrefix (joined at_end.first) x) r.receives.receives.passed.all at_end.bytes

  carries : Carries passing
  carries =
      let owed = front-of_front (joined at_end.first) f.feeds.sent (bytes_of f.asked f.feeds.feeding)
      (front-of_front (joined at_end.first) (came_to r) f.feeds.sent bytes-came connects.down)
      (front-first (is_whole f.end) f.feeds.sent (bytes_of f.asked f.feeds.feeding) f.feeds.sent_part) in
      record { rest = owed.0; is = owed.1; few = omega (arith, connects.few, front-shorter (joined at_end.first) (came_to r) bytes-came) }

  -- what the feeder got behind the request are the first bytes of the replies
  replied : IsPrefix (f.ahead ++ f.feeds.given) (records_of at_end.to.replies)
  replied =
      let request = records_of (request_of s) in
      let out : r.receives.at_end.out ≡ request ++ records_of at_end.to.replies = at_end.out_is in
      behind-same request (f.ahead ++ f.feeds.given) (records_of at_end.to.replies)
      (subst (λ (x : List ℕ). IsPrefix (request ++ (f.ahead ++ f.feeds.given)) x) out
      (front-of_front (request ++ (f.ahead ++ f.feeds.given)) (sent_by r) r.receives.at_end.out connects.up
      (front-first (is_whole_end r.end) (sent_by r) r.receives.at_end.out r.receives.receives.sent_is)))

  is-passing : IsPassing passing
  is-passing = record {
    granted = granted;
    asker = asker;
    carries = carries;
    leads = at_end.leads;
    heard = laws.read passing (f.ahead ++ f.feeds.given) replied.0 f.feeds.says.behind granted asker carries at_end.leads f.feeds.says.said replied.1;
  }

  life : (life : Point) × HasLife f.new f.asked f.feeds.feeding life
  life = fed-life f.end f.asked f.ahead f.old f.new f.before f.after f.feeds missed k opened laws.seen

  abbrev session : Session
  session = record { pass = f.new; life = life.0; passing = passing }

  pub meets : (s : Session) × IsSessionOf f r s
  meets = (
    session,
    record {
      is = record { has_seen = has-seen; has_life = life.1; rows = f.feeds.rows; passing = is-passing };
      pass = refl;
      asked = refl;
      feeding = refl;
      begins = refl;
      at = refl;
      last = at_end.last_is ∙ sym r.receives.last_is;
      whole = at_end.whole;
      bytes = bytes-came;
      moments = at_end.moments;
      behind = at_end.behind;
      records = at_end.records;
      actor = refl;
      more = at_end.more;
      calls = subst (λ (p : PassView). Calls r.old p (at_end.made ++ at_end.more)) r.receives.pass_is at_end.calls;
      more_is = at_end.more_is;
    },
  )

  -- no byte of it ended the receiver
  pub no-fault : IsNoFault r.end
  no-fault = by_end r.end at_end.ends_by
    where
      live : at_end.to.end ≡ None
      live = laws.goes_on passing is-passing

      not_ended : (end : RecvEnd) → at_end.to.end ≡ Some end → ⊥
      not_ended end is = let no : Some end ≡ None = sym is ∙ live in cc no

      by_end : (end : RecvEnd) → EndsBy end at_end.to.end → IsNoFault end
      by_end Ended by = tt
      by_end (Truncated at) by = tt
      by_end (BadFrame at) by = not_ended (BadFrame at) by
      by_end (Refused answer) by = not_ended (Refused answer) by
      by_end LinkFault by = tt
      by_end LogFault by = tt
      by_end StreamLimit by = not_ended StreamLimit by
      by_end Worn by = tt
      by_end OutOfMemory by = tt

-- where all was sent and all of it came and was taken, the session has all bytes
pub carries-all : (f : FeedingCall) (r : ReceivingCall) (s : Session) → IsSessionOf f r s → is_whole f.end ≡ true → came_to r ≡ f.feeds.sent → is_whole_end r.end ≡ true → CarriesAll s.passing
carries-all f r s of fed all whole =
    let owed : f.feeds.sent ≡ bytes_of f.asked f.feeds.feeding =
    subst (λ (b : Bool). IsPart b f.feeds.sent (bytes_of f.asked f.feeds.feeding)) fed f.feeds.sent_part in
    ap joined (of.whole whole) ∙ r.receives.receives.passed.all ∙ all ∙ owed ∙ (λ i. bytes_of (sym of.asked i) (sym of.feeding i))

-- ---- calls one after another

pub follows : (f g : FeedingCall) (r q : ReceivingCall) (s t : Session) → IsSessionOf f r s → IsSessionOf g q t → Connects g q → q.class ≡ r.class → q.behind ≡ r.last
    → f.new.arena ≡ g.old.arena → f.new.slots ≡ g.old.slots → IsPrefix f.new.seen g.old.seen → Follows r.class s t
unfolding class_in
follows f g r q s t of then_of connects class behind arena slots seen =
    let same = g.feeds.made.same in
    let later : t.passing.begins.last ≡ q.behind = ap (λ (x : Receiving). x.last) then_of.begins in
    let asks : g.asked.class ≡ asked_class q.class q.behind = ap (class_in g.asked.class) (sym connects.asks) in
    let goes_on = front-of_seen f.new.seen g.old.seen g.new.seen seen g.feeds.made.adds.begins in
    record {
      same_arena = ap (λ (p : PassView). p.arena) of.pass ∙ arena ∙ sym (ap (λ (p : PassView). p.arena) same) ∙ sym (ap (λ (p : PassView). p.arena) then_of.pass);
      same_slots = ap (λ (p : PassView). p.slots) of.pass ∙ slots ∙ sym (ap (λ (p : PassView). p.slots) same) ∙ sym (ap (λ (p : PassView). p.slots) then_of.pass);
      goes_on = coe 0 1 (i. IsPrefix (sym of.pass i).seen (sym then_of.pass i).seen) goes_on;
      last = later ∙ behind ∙ sym of.last;
      asks = ap (λ (a : Asked). a.class) then_of.asked ∙ asks ∙ ap (λ (c : ClassSpec). asked_class c q.behind) class ∙ ap (asked_class r.class) (sym later);
    }
  where
    front-of_seen : (a b c : List Entry) → IsPrefix a b → IsPrefix b c → IsPrefix a c
    front-of_seen a b c first second =
        (first.0 ++ second.0, sym (append_assoc a first.0 second.0) ∙ ap (λ (x : List Entry). x ++ second.0) first.1 ∙ second.1)
