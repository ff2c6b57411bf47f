-- What was heard, where more is looked at or comes.
use Rattle.std.proofs.Common.{◌≡◌, ◌∙◌, ℕ, ◌+◌, ◌≤◌, true, false, List, [], ◌∷◌, ◌++◌, length, take, drop, Some, None, inl, inr, refl, sym, ap, subst, append_assoc, arith}
use Rattle.std.specs.Prelude.{Ok, Err}
use Rattle.std.proofs.lemmas.Bool.{both_ways, cases_lt}
use Rattle.std.proofs.lemmas.List.{append-nil, drop_all, length-append, length-take-le, take-append-drop}
use Rattle.ldm_outside.specs.Link.{LinkRecord}
use Rattle.ldm_outside.proofs.CallerLemmas.{Rose-later}
use Rattle.ldm_relay.specs.declared.message.SoonAnswer.{SoonAnswer}
use Rattle.ldm_relay.specs.declared.message.TheConstants.{LARGEST_REPLY}
use Rattle.ldm_rpc.specs.declared.fault.RpcFault.TheVariants as fault
use Rattle.ldm_rpc.specs.declared.stage.Stage.TheVariants.{Faulty}
use Rattle.ldm_rpc.specs.Reading.{Reading, after, bytes_taken, is_whole, next_of}
use Rattle.ldm_rpc.specs.Streams.{Position, Placed, at_start, in_hand, records_in}
use Rattle.ldm_rpc.proofs.CallerLemmas.{reads_fault, reads_none}
use Rattle.ldm_rpc.proofs.Joined.{in_hand-append, position, records-append}
use Rattle.ldm_session.specs.declared.replies.NoReply.{NoReply}
use Rattle.ldm_session.specs.declared.replies.NoReply.TheVariants.{PeerEnd, BadReply, LinkFault, OutOfMemory}
use Rattle.ldm_session.specs.declared.replies.Replies.{Replies}
use Rattle.ldm_session.specs.Exchange.{Exchanged}
use Rattle.ldm_session.specs.Hearing.{Heard, Hears, IsCaused}
use Rattle.ldm_session.specs.Looking.{IsOwn, Looks, Reads, Receives}
use Rattle.ldm_session.specs.Owed.{Code, AreReplies, IsNoReply, IsReplyTo, Said, hand_given, place_told, records_given}
use Rattle.ldm_session.proofs.CallerLemmas.{Exchanged-nothing, Exchanged-then_given, Exchanged-same, Heard-said}
use Rattle.ldm_rpc.proofs.LookingLemmas.{came-in_hand, completes, continues}

AreReplies-push : (codes : List Code) (records : List Placed) (code : Code) (placed : Placed) → AreReplies codes records → IsReplyTo code.xid code.answer placed.content
    → AreReplies (codes ++ code ∷ []) (records ++ placed ∷ [])
AreReplies-push [] [] code placed each is = (is, tt)
AreReplies-push [] (first ∷ records) code placed each is = absurd each
AreReplies-push (first ∷ codes) [] code placed each is = absurd each
AreReplies-push (first ∷ codes) (record_first ∷ records) code placed each is = (each.0, AreReplies-push codes records code placed each.1 is)

-- ---- before a look

-- Nothing was looked at.
pub hears_nothing : (ahead : List ℕ) (replies : Replies) → replies.records ≡ (hand_given []).reading → replies.begins ≡ 0 → replies.came ≡ 0 → replies.waiting ≡ ahead
    → Heard ahead [] replies
unfolding records_in in_hand
hears_nothing ahead replies reading begins came waiting = record {
  seen = [];
  all = sym waiting;
  each = tt;
  reading = reading;
  begins = begins;
  came = came;
  ready = ap is_whole reading;
}

-- Where nothing waits, there is no record behind the replies, and all that came was counted.
pub Heard-said_all : (given : List ℕ) (codes : List Code) (replies : Replies) → Heard given codes replies → replies.waiting ≡ [] → Said given codes [] × (replies.came ≡ place_told (length given))
Heard-said_all given codes replies heard none =
    let all : given ≡ heard.seen = heard.all ∙ ap (λ (x : List ℕ). heard.seen ++ x) none ∙ append-nil heard.seen in (
      record { replies = records_given heard.seen; records_are = ap records_given all ∙ sym (append-nil (records_given heard.seen)); each = heard.each },
      heard.came ∙ ap (λ (x : List ℕ). place_told (length x)) (sym all),
    )

-- A piece came where nothing waited.
pub Heard-more : (given : List ℕ) (codes : List Code) (old new : Replies) → Heard given codes old → old.waiting ≡ [] → new ≡ record old { waiting = new.waiting } → Heard (given ++ new.waiting) codes new
Heard-more given codes old new heard none same =
    let all : given ≡ heard.seen = heard.all ∙ ap (λ (x : List ℕ). heard.seen ++ x) none ∙ append-nil heard.seen in
    let records : new.records ≡ old.records = ap (λ (r : Replies). r.records) same in
    record {
      seen = heard.seen;
      all = ap (λ (x : List ℕ). x ++ new.waiting) all;
      each = heard.each;
      reading = records ∙ heard.reading;
      begins = ap (λ (r : Replies). r.begins) same ∙ heard.begins;
      came = ap (λ (r : Replies). r.came) same ∙ heard.came;
      ready = ap is_whole records ∙ heard.ready;
    }

-- ---- a look at what waits

next_ready : (s : Reading) → is_whole s ≡ false → next_of s ≡ s
next_ready s ready = rw ready refl

place_more : (a b : ℕ) → place_told (place_told a + b) ≡ place_told (a + b)
place_more a b = omega arith

-- the stream behind what was looked at before
pub record Stands (given : List ℕ) (codes : List Code) (old new : Replies) (heard : Heard given codes old) (looks : Looks old new) : Type 0 where
  pub same : next_of old.records ≡ (hand_given heard.seen).reading
  pub ready : is_whole (hand_given heard.seen).reading ≡ false
  pub count_is : looks.count ≡ bytes_taken (hand_given heard.seen).reading old.waiting
  pub records_is : new.records ≡ after (hand_given heard.seen).reading old.waiting
  pub begins_is : new.begins ≡ place_told (hand_given heard.seen).begins
  pub came_is : new.came ≡ place_told (length heard.seen + looks.count)
  pub place_is : (hand_given heard.seen).came ≡ length heard.seen

stands : (given : List ℕ) (codes : List Code) (old new : Replies) (heard : Heard given codes old) (looks : Looks old new) → Stands given codes old new heard looks
stands given codes old new heard looks =
    let same : next_of old.records ≡ (hand_given heard.seen).reading = next_ready old.records heard.ready ∙ heard.reading in
    let start : (hand_given heard.seen).came ≡ 0 + length heard.seen = came-in_hand (at_start LARGEST_REPLY) heard.seen in
    record {
      same = same;
      ready = ap is_whole (sym heard.reading) ∙ heard.ready;
      count_is = looks.count_is ∙ ap (λ (s : Reading). bytes_taken s old.waiting) same;
      records_is = looks.records ∙ ap (λ (s : Reading). after s old.waiting) same;
      begins_is = looks.begins ∙ heard.begins;
      came_is = looks.came ∙ ap (λ n. place_told (n + looks.count)) heard.came ∙ place_more (length heard.seen) looks.count;
      place_is = omega (arith, start);
    }

-- The record in hand is not complete: more has to come.
pub looks_on : (given : List ℕ) (codes : List Code) (old new : Replies) → Heard given codes old → Looks old new → is_whole new.records ≡ false → Heard given codes new × (new.waiting ≡ [])
looks_on given codes old new heard looks not =
    let at = stands given codes old new heard looks in
    let p = hand_given heard.seen in
    let piece = old.waiting in
    let seen = heard.seen ++ piece in
    let full : looks.count ≡ length piece =
    elim (cases_lt looks.count (length piece)) [ inl less ↦ absurd (both_ways (is_whole new.records) not (looks.up_to less)) | inr all ↦ omega (arith, all, looks.within) ] in
    let none : new.waiting ≡ [] = looks.waiting ∙ drop_all looks.count piece (omega (arith, full)) in
    let is = continues p piece new.records at.ready (sym full ∙ at.count_is) at.records_is not in
    let records : records_given seen ≡ records_given heard.seen =
    records-append (at_start LARGEST_REPLY) heard.seen piece ∙ ap (λ (x : List Placed). records_given heard.seen ++ x) is.records ∙ append-nil (records_given heard.seen) in
    let hand : hand_given seen ≡ position p.begins (p.came + length piece) new.records = in_hand-append (at_start LARGEST_REPLY) heard.seen piece ∙ is.hand in (
      record {
        seen = seen;
        all = heard.all ∙ sym (append-nil seen) ∙ ap (λ (x : List ℕ). seen ++ x) (sym none);
        each = let P : List Placed → Type 0 = λ out. AreReplies codes out in subst P (sym records) heard.each;
        reading = ap (λ (q : Position). q.reading) (sym hand);
        begins = at.begins_is ∙ ap (λ (q : Position). place_told q.begins) (sym hand);
        came = at.came_is ∙ ap place_told (ap (λ n. length heard.seen + n) full ∙ sym (length-append heard.seen piece));
        ready = not;
      },
      none,
    )

-- A record is complete: it is the one behind the replies.
pub record Reaches (given : List ℕ) (codes : List Code) (old new : Replies) (heard : Heard given codes old) : Type 0 where
  pub seen : List ℕ
  pub all : given ≡ seen ++ new.waiting
  pub at : ℕ
  pub at_is : new.begins ≡ place_told at
  pub records : records_given seen ≡ records_given heard.seen ++ record { at = at; content = new.records.content } ∷ []
  pub hand : hand_given seen ≡ record { reading = next_of new.records; begins = length seen; came = length seen }
  pub came : new.came ≡ place_told (length seen)

reaches : (given : List ℕ) (codes : List Code) (old new : Replies) (heard : Heard given codes old) → Looks old new → is_whole new.records ≡ true → Reaches given codes old new heard
reaches given codes old new heard looks whole =
    let at = stands given codes old new heard looks in
    let p = hand_given heard.seen in
    let piece = old.waiting in
    let count = looks.count in
    let seen = heard.seen ++ take count piece in
    let is = completes p piece count new.records at.ready at.count_is looks.within at.records_is whole in
    let len : length seen ≡ p.came + count = omega (arith, length-append heard.seen (take count piece), length-take-le count piece looks.within, at.place_is) in
    record {
      seen = seen;
      all = heard.all ∙ ap (λ (x : List ℕ). heard.seen ++ x) (sym (take-append-drop count piece)) ∙ sym (append_assoc heard.seen (take count piece) (drop count piece))
          ∙ ap (λ (x : List ℕ). seen ++ x) (sym looks.waiting);
      at = p.begins;
      at_is = at.begins_is;
      records = records-append (at_start LARGEST_REPLY) heard.seen (take count piece) ∙ ap (λ (x : List Placed). records_given heard.seen ++ x) is.records;
      hand = in_hand-append (at_start LARGEST_REPLY) heard.seen (take count piece) ∙ is.hand
          ∙ ap (λ n. let q : Position = record { reading = next_of new.records; begins = n; came = n } in q) (sym len);
      came = at.came_is ∙ ap place_told (ap (λ n. n + count) (sym at.place_is) ∙ sym len);
    }

-- It is the reply.
pub looks_at_reply : (given : List ℕ) (codes : List Code) (old new : Replies) (next : Reading) (xid : ℕ) (answer : SoonAnswer) → Heard given codes old → Looks old new
    → is_whole new.records ≡ true → IsReplyTo xid answer new.records.content → next ≡ next_of new.records → is_whole next ≡ false
    → Heard given (codes ++ record { xid = xid; answer = answer } ∷ []) (record { records = next; begins = new.came; came = new.came; waiting = new.waiting })
looks_at_reply given codes old new next xid answer heard looks whole is next_is ready =
    let to = reaches given codes old new heard looks whole in
    let code : Code = record { xid = xid; answer = answer } in
    let placed : Placed = record { at = to.at; content = new.records.content } in
    record {
      seen = to.seen;
      all = to.all;
      each = let P : List Placed → Type 0 = λ out. AreReplies (codes ++ code ∷ []) out in
          subst P (sym to.records) (AreReplies-push codes (records_given heard.seen) code placed heard.each is);
      reading = next_is ∙ ap (λ (q : Position). q.reading) (sym to.hand);
      begins = to.came ∙ ap (λ (q : Position). place_told q.begins) (sym to.hand);
      came = to.came;
      ready = ready;
    }

-- It is not the reply.
pub looks_at_other : (given : List ℕ) (codes : List Code) (old new : Replies) (xid : ℕ) → Heard given codes old → Looks old new → is_whole new.records ≡ true
    → ((answer : SoonAnswer) → ¬ (IsReplyTo xid answer new.records.content)) → (behind : List Placed) × (Said given codes behind × IsNoReply xid new.begins given behind)
looks_at_other given codes old new xid heard looks whole is_not =
    let to = reaches given codes old new heard looks whole in
    let placed : Placed = record { at = to.at; content = new.records.content } in
    let later = records_in (hand_given to.seen) new.waiting in (
      placed ∷ later,
      (
        record {
          replies = records_given heard.seen;
          records_are = ap records_given to.all ∙ records-append (at_start LARGEST_REPLY) to.seen new.waiting ∙ ap (λ (x : List Placed). x ++ later) to.records
              ∙ append_assoc (records_given heard.seen) (placed ∷ []) later;
          each = heard.each;
        },
        (to.at_is, is_not),
      ),
    )

-- What is in hand is longer than a reply may be.
pub looks_at_long : (given : List ℕ) (codes : List Code) (old new : Replies) (xid place : ℕ) → Heard given codes old → (after (next_of old.records) old.waiting).stage ≡ Faulty (fault.TooLong place)
    → new.begins ≡ old.begins → (behind : List Placed) × (Said given codes behind × IsNoReply xid new.begins given behind)
looks_at_long given codes old new xid place heard faulty begins =
    let p = hand_given heard.seen in
    let piece = old.waiting in
    let ready : is_whole p.reading ≡ false = ap is_whole (sym heard.reading) ∙ heard.ready in
    let same : next_of old.records ≡ p.reading = next_ready old.records heard.ready ∙ heard.reading in
    let long : (after p.reading piece).stage ≡ Faulty (fault.TooLong place) = ap (λ (s : Reading). (after s piece).stage) (sym same) ∙ faulty in
    let ends = reads_fault p piece [] p piece [] (after p.reading piece) (fault.TooLong place) (reads_none p piece [] ready) refl long in
    let none : records_in p piece ≡ [] = sym ends.0 in
    let hand : hand_given given ≡ in_hand p piece = ap hand_given heard.all ∙ in_hand-append (at_start LARGEST_REPLY) heard.seen piece in (
      [],
      (
        record {
          replies = records_given heard.seen;
          records_are = ap records_given heard.all ∙ records-append (at_start LARGEST_REPLY) heard.seen piece ∙ ap (λ (x : List Placed). records_given heard.seen ++ x) none;
          each = heard.each;
        },
        (
          begins ∙ heard.begins ∙ ap place_told (sym (ap (λ (q : Position). q.begins) hand ∙ ends.2)),
          (place, ap (λ (q : Position). q.reading.stage) hand ∙ ap (λ (s : Reading). s.stage) ends.1 ∙ long),
        ),
      ),
    )

-- ---- looks and pieces, one after another

-- So far the link gave bytes, and the reply was not among them.
pub record HearsOn (old new : Replies) (old_link new_link : LinkRecord) : Type 0 where
  pub more : List ℕ
  pub exchanged : Exchanged old_link [] more new_link
  pub told : (given : List ℕ) (codes : List Code) → Heard given codes old → Heard (given ++ more) codes new
  pub faults : old_link.faults ≤ new_link.faults
  pub ends : old_link.ends ≤ new_link.ends

pub hears_none : (replies : Replies) (link : LinkRecord) → HearsOn replies replies link link
hears_none replies link = record {
  more = [];
  exchanged = Exchanged-nothing link link refl refl;
  told = λ given codes heard. let P : List ℕ → Type 0 = λ bytes. Heard bytes codes replies in subst P (sym (append-nil given)) heard;
  faults = omega arith;
  ends = omega arith;
}

-- a look found no reply, and a piece came
pub hears_more : (old now looked new : Replies) (old_link now_link new_link : LinkRecord) (xid : ℕ) → HearsOn old now old_link now_link
    → ((given : List ℕ) (codes : List Code) → Heard given codes now → Reads (Ok None) xid given codes looked)
    → Receives (Ok tt) looked new now_link new_link → now_link.faults ≤ new_link.faults → now_link.ends ≤ new_link.ends → HearsOn old new old_link new_link
hears_more old now looked new old_link now_link new_link xid so_far reads received faults ends = record {
  more = so_far.more ++ new.waiting;
  exchanged = Exchanged-then_given old_link now_link new_link [] so_far.more new.waiting so_far.exchanged received.1;
  told = λ given codes heard.
      let read = reads (given ++ so_far.more) codes (so_far.told given codes heard) in
      let P : List ℕ → Type 0 = λ bytes. Heard bytes codes new in
      subst P (append_assoc given so_far.more new.waiting) (Heard-more (given ++ so_far.more) codes looked new read.0 read.1 received.0);
  faults = omega (arith, so_far.faults, faults);
  ends = omega (arith, so_far.ends, ends);
}

-- a look found the reply
pub hears_reply : (old now new : Replies) (old_link now_link : LinkRecord) (xid : ℕ) (answer : SoonAnswer) → HearsOn old now old_link now_link
    → ((given : List ℕ) (codes : List Code) → Heard given codes now → Reads (Ok (Some answer)) xid given codes new)
    → Hears (Ok answer) xid old new old_link now_link
hears_reply old now new old_link now_link xid answer so_far reads = record {
  more = so_far.more;
  exchanged = so_far.exchanged;
  cause = tt;
  told = λ given codes heard. reads (given ++ so_far.more) codes (so_far.told given codes heard);
}

own_cause : (no_reply : NoReply) (old new : LinkRecord) → IsOwn no_reply → IsCaused (Err no_reply) old new
own_cause (PeerEnd at) old new own = absurd own
own_cause (BadReply at) old new own = tt
own_cause LinkFault old new own = absurd own
own_cause OutOfMemory old new own = tt

-- a look found that there is no reply
pub hears_no_reply : (old now new : Replies) (old_link now_link : LinkRecord) (xid : ℕ) (no_reply : NoReply) → HearsOn old now old_link now_link
    → ((given : List ℕ) (codes : List Code) → Heard given codes now → Reads (Err no_reply) xid given codes new) → IsOwn no_reply
    → Hears (Err no_reply) xid old new old_link now_link
hears_no_reply old now new old_link now_link xid no_reply so_far reads own = record {
  more = so_far.more;
  exchanged = so_far.exchanged;
  cause = own_cause no_reply old_link now_link own;
  told = λ given codes heard. reads (given ++ so_far.more) codes (so_far.told given codes heard);
}

nothing_more : (old mid new : LinkRecord) (more : List ℕ) → Exchanged old [] more mid → Exchanged mid [] [] new → Exchanged old [] more new
nothing_more old mid new more first second = Exchanged-same old new [] (more ++ []) [] more refl (append-nil more) (Exchanged-then_given old mid new [] more [] first second)

-- a look found no reply, and no piece came
pub hears_end : (old now looked new : Replies) (old_link now_link new_link : LinkRecord) (xid : ℕ) (no_reply : NoReply) → HearsOn old now old_link now_link
    → ((given : List ℕ) (codes : List Code) → Heard given codes now → Reads (Ok None) xid given codes looked)
    → Receives (Err no_reply) looked new now_link new_link → Hears (Err no_reply) xid old new old_link new_link
hears_end old now looked new old_link now_link new_link xid (PeerEnd at) so_far reads received = record {
  more = so_far.more;
  exchanged = nothing_more old_link now_link new_link so_far.more so_far.exchanged received.1;
  cause = Rose-later old_link.ends now_link.ends new_link.ends so_far.ends received.2;
  told = λ given codes heard.
      let read = reads (given ++ so_far.more) codes (so_far.told given codes heard) in
      let said = Heard-said_all (given ++ so_far.more) codes looked read.0 read.1 in
      (said.0, received.0 ∙ said.1);
}
hears_end old now looked new old_link now_link new_link xid (BadReply at) so_far reads received = absurd received
hears_end old now looked new old_link now_link new_link xid LinkFault so_far reads received = record {
  more = so_far.more;
  exchanged = nothing_more old_link now_link new_link so_far.more so_far.exchanged received.0;
  cause = Rose-later old_link.faults now_link.faults new_link.faults so_far.faults received.1;
  told = λ given codes heard.
      let read = reads (given ++ so_far.more) codes (so_far.told given codes heard) in
      Heard-said (given ++ so_far.more) codes looked read.0;
}
hears_end old now looked new old_link now_link new_link xid OutOfMemory so_far reads received = absurd received
