-- What was heard, where more is looked at or comes.
use Rattle.std.proofs.Common.{◌≡◌, ◌∙◌, ℕ, ◌+◌, ◌-◌, ◌^◌, ◌<◌, ◌≤◌, min, Bool, true, false, List, [], ◌∷◌, ◌++◌, length, take, drop, inl, inr, refl, sym, ap, subst, append_assoc, arith}
use Rattle.std.specs.Prelude.{Ok, Err}
use Rattle.std.proofs.lemmas.Bool.{both_ways, cases_lt}
use Rattle.std.proofs.lemmas.List.{append-nil, drop_all, length-append, length-take-le, take-append-drop}
use Rattle.ldm_outside.specs.Link.{LinkRecord}
use Rattle.ldm_outside.proofs.CallerLemmas.{Rose-later}
use Rattle.ldm_relay.specs.declared.message.TheConstants.{LARGEST_REPLY}
use Rattle.ldm_rpc.specs.declared.fault.RpcFault.TheVariants as fault
use Rattle.ldm_rpc.specs.declared.stage.Stage.TheVariants.{Faulty}
use Rattle.ldm_rpc.specs.Reading.{Reading, after, is_whole, next_of}
use Rattle.ldm_rpc.specs.Streams.{Position, Placed, at_start, forgets, in_hand, records_in}
use Rattle.ldm_rpc.proofs.CallerLemmas.{reads_fault, reads_none}
use Rattle.ldm_rpc.proofs.Joined.{forgets_none, in_hand-append, position, records-append}
use Rattle.ldm_session.specs.declared.limits.TheConstants.{LONGEST_STREAM}
use Rattle.ldm_session.specs.Exchange.{Exchanged}
use Rattle.ldm_session.specs.Owed.{hand_given, records_given}
use Rattle.ldm_session.proofs.CallerLemmas.{Exchanged-nothing, Exchanged-then_given, Exchanged-same}
use Rattle.ldm_tools.specs.declared.reader.LinkReader.{LinkReader}
use Rattle.ldm_tools.specs.declared.reader.NoRecord.{NoRecord}
use Rattle.ldm_tools.specs.declared.reader.NoRecord.TheVariants.{Ended, TooLong, StreamLimit, LinkFault, OutOfMemory}
use Rattle.ldm_tools.specs.Hearing.{Heard, HeardOne, HeardSome, Hears, IsTooLong}
use Rattle.ldm_tools.specs.Looking.{Forgets, Gets, IsOwn, Looks, Receives, Shows, WaitsOn}
use Rattle.ldm_rpc.proofs.LookingLemmas.{completes, continues}

forgets_whole : (begins came : ℕ) (s : Reading) → is_whole s ≡ true → forgets begins came s ≡ position came came (next_of s)
forgets_whole begins came s whole = rw whole refl

-- Nothing was looked at.
pub hears_nothing : (reader : LinkReader) → reader.records ≡ (hand_given []).reading → reader.begins ≡ 0 → reader.came ≡ 0 → reader.waiting ≡ [] → Heard [] [] reader
unfolding records_in in_hand
hears_nothing reader reading begins came waiting = record {
  seen = [];
  all = sym waiting;
  records = refl;
  hand = rw (reading, begins, came) refl;
  came = came;
  most = omega arith;
}

-- what was heard, with the record before forgotten
pub forgotten : (given : List ℕ) (heard : List Placed) (old new : LinkReader) → Forgets old new → Heard given heard old → Heard given heard new
forgotten given heard old new forgot h = record {
  seen = h.seen;
  all = h.all ∙ ap (λ (x : List ℕ). h.seen ++ x) (sym forgot.waiting);
  records = h.records;
  hand = h.hand ∙ sym forgot.hand;
  came = forgot.came ∙ h.came;
  most = h.most;
}

fits : (given : List ℕ) (heard : List Placed) (reader : LinkReader) (h : Heard given heard reader) → length h.seen + length reader.waiting ≤ LONGEST_STREAM
fits given heard reader h = omega (arith, h.most, ap length h.all, length-append h.seen reader.waiting)

-- where nothing waits, all that came was counted
all_came : (given : List ℕ) (heard : List Placed) (reader : LinkReader) (h : Heard given heard reader) → reader.waiting ≡ [] → (given ≡ h.seen) × (reader.came ≡ length given)
all_came given heard reader h none =
    let all : given ≡ h.seen = h.all ∙ ap (λ (x : List ℕ). h.seen ++ x) none ∙ append-nil h.seen in
    (all, h.came ∙ ap length (sym all))

all_taken : (old new : LinkReader) → Looks old new → is_whole new.records ≡ false → (looks : Looks old new) → looks.count ≡ length old.waiting
all_taken old new _ not looks =
    elim (cases_lt looks.count (length old.waiting)) [ inl less ↦ absurd (both_ways (is_whole new.records) not (looks.up_to less)) | inr all ↦ omega (arith, all, looks.within) ]

-- Where the record in hand is not complete, more has to come.
pub waits : (old new : LinkReader) (looks : Looks old new) → (whole : Bool) → is_whole new.records ≡ whole → WaitsOn (Ok whole) old new
waits old new looks true is = is
waits old new looks false is =
    let full = all_taken old new looks is looks in (
      looks.waiting ∙ drop_all looks.count old.waiting (omega (arith, full)),
      is,
      looks.came ∙ ap (λ n. min (old.came + n) (2 ^ 64 - 1)) full,
    )

module _ (given : List ℕ) (heard : List Placed) (old new : LinkReader) (ready : is_whole old.records ≡ false) (h : Heard given heard old) where
  abbrev at_old : Position
  at_old = position old.begins old.came old.records

  stands : hand_given h.seen ≡ at_old
  stands = h.hand ∙ forgets_none old.begins old.came old.records ready

  looks_on : Looks old new → is_whole new.records ≡ false → Heard given heard new
  looks_on looks not =
      let piece = old.waiting in
      let seen = h.seen ++ piece in
      let full = all_taken old new looks not looks in
      let none : new.waiting ≡ [] = looks.waiting ∙ drop_all looks.count piece (omega (arith, full)) in
      let is = continues at_old piece new.records ready (sym full ∙ looks.count_is) looks.records not in
      let came : new.came ≡ old.came + length piece = omega (arith, looks.came, full, h.came, fits given heard old h) in
      record {
        seen = seen;
        all = h.all ∙ sym (append-nil seen) ∙ ap (λ (x : List ℕ). seen ++ x) (sym none);
        records = records-append (at_start LARGEST_REPLY) h.seen piece ∙ ap (λ (q : Position). records_given h.seen ++ records_in q piece) stands
            ∙ ap (λ (x : List Placed). records_given h.seen ++ x) is.records ∙ append-nil (records_given h.seen) ∙ h.records;
        hand = in_hand-append (at_start LARGEST_REPLY) h.seen piece ∙ ap (λ (q : Position). in_hand q piece) stands ∙ is.hand
            ∙ ap (λ (b : ℕ). position b (old.came + length piece) new.records) (sym looks.begins)
            ∙ ap (λ (n : ℕ). position new.begins n new.records) (sym came) ∙ sym (forgets_none new.begins new.came new.records not);
        came = omega (arith, came, h.came, length-append h.seen piece);
        most = h.most;
      }

  looks_at_record : Looks old new → is_whole new.records ≡ true → HeardOne given heard new
  looks_at_record looks whole =
      let piece = old.waiting in
      let count = looks.count in
      let front = take count piece in
      let seen = h.seen ++ front in
      let is = completes at_old piece count new.records ready looks.count_is looks.within looks.records whole in
      let came : new.came ≡ old.came + count = omega (arith, looks.came, looks.within, h.came, fits given heard old h) in (
        record {
          seen = seen;
          all = h.all ∙ ap (λ (x : List ℕ). h.seen ++ x) (sym (take-append-drop count piece)) ∙ sym (append_assoc h.seen front (drop count piece))
              ∙ ap (λ (x : List ℕ). seen ++ x) (sym looks.waiting);
          records = records-append (at_start LARGEST_REPLY) h.seen front ∙ ap (λ (q : Position). records_given h.seen ++ records_in q front) stands
              ∙ ap (λ (x : List Placed). records_given h.seen ++ x) is.records ∙ ap (λ (x : List Placed). x ++ record { at = old.begins; content = new.records.content } ∷ []) h.records
              ∙ ap (λ (b : ℕ). let placed : Placed = record { at = b; content = new.records.content } in heard ++ placed ∷ []) (sym looks.begins);
          hand = in_hand-append (at_start LARGEST_REPLY) h.seen front ∙ ap (λ (q : Position). in_hand q front) stands ∙ is.hand
              ∙ ap (λ (n : ℕ). position n n (next_of new.records)) (sym came) ∙ sym (forgets_whole new.begins new.came new.records whole);
          came = omega (arith, came, h.came, length-append h.seen front, length-take-le count piece looks.within);
          most = h.most;
        },
        whole,
      )

  -- What was looked at has the record, or more has to come for it.
  pub shows : (looks : Looks old new) (whole : Bool) → is_whole new.records ≡ whole → Shows (Ok whole) given heard new
  shows looks true whole = looks_at_record looks whole
  shows looks false not = looks_on looks not

  -- What is in hand is longer than a reply may be.
  pub shows_long : (place : ℕ) → (after old.records old.waiting).stage ≡ Faulty (fault.TooLong place) → new.begins ≡ old.begins → IsTooLong new.begins given heard
  shows_long place long begins =
      let piece = old.waiting in
      let ends = reads_fault at_old piece [] at_old piece [] (after old.records piece) (fault.TooLong place) (reads_none at_old piece [] ready) refl long in
      let none : records_in at_old piece ≡ [] = sym ends.0 in
      let hand : hand_given given ≡ in_hand at_old piece =
      ap hand_given h.all ∙ in_hand-append (at_start LARGEST_REPLY) h.seen piece ∙ ap (λ (q : Position). in_hand q piece) stands in
      record {
        none = ap records_given h.all ∙ records-append (at_start LARGEST_REPLY) h.seen piece ∙ ap (λ (q : Position). records_given h.seen ++ records_in q piece) stands
            ∙ ap (λ (x : List Placed). records_given h.seen ++ x) none ∙ append-nil (records_given h.seen) ∙ h.records;
        at_is = begins ∙ sym (ap (λ (q : Position). q.begins) hand ∙ ends.2);
        place = place;
        too_long = ap (λ (q : Position). q.reading.stage) hand ∙ ap (λ (s : Reading). s.stage) ends.1 ∙ long;
      }

  -- whatever is looked at, these are the first records
  pub shows_some : HeardSome given heard
  shows_some =
      let behind = records_in (hand_given h.seen) old.waiting in
      (behind, ap records_given h.all ∙ records-append (at_start LARGEST_REPLY) h.seen old.waiting ∙ ap (λ (x : List Placed). x ++ behind) h.records)

-- ---- looks and pieces, one after another

-- So far the link gave bytes, and the record was not among them.
pub record HearsOn (old new : LinkReader) (old_link new_link : LinkRecord) : Type 0 where
  pub more : List ℕ
  pub exchanged : Exchanged old_link [] more new_link
  pub told : (given : List ℕ) (heard : List Placed) → Heard given heard old → Heard (given ++ more) heard new
  pub ready : is_whole new.records ≡ false
  pub faults : old_link.faults ≤ new_link.faults
  pub ends : old_link.ends ≤ new_link.ends

pub hears_none : (old reader : LinkReader) (link : LinkRecord) → Forgets old reader → HearsOn old reader link link
hears_none old reader link forgot = record {
  more = [];
  exchanged = Exchanged-nothing link link refl refl;
  told = λ given heard h. let P : List ℕ → Type 0 = λ bytes. Heard bytes heard reader in subst P (sym (append-nil given)) (forgotten given heard old reader forgot h);
  ready = forgot.ready;
  faults = omega arith;
  ends = omega arith;
}

-- a piece came where nothing waited
more_heard : (given : List ℕ) (heard : List Placed) (old new : LinkReader) (old_link new_link : LinkRecord) → old.waiting ≡ [] → Gets old new old_link new_link → Heard given heard old
    → Heard (given ++ new.waiting) heard new
more_heard given heard old new old_link new_link none gets h =
    let all = all_came given heard old h none in
    let same = gets.same in
    record {
      seen = h.seen;
      all = ap (λ (x : List ℕ). x ++ new.waiting) all.0;
      records = h.records;
      hand = h.hand ∙ ap (λ (r : LinkReader). forgets r.begins r.came r.records) (sym same);
      came = ap (λ (r : LinkReader). r.came) same ∙ h.came;
      most = omega (arith, gets.most, all.1, length-append given new.waiting);
    }

-- a look found no record, and a piece came
pub hears_more : (old now looked new : LinkReader) (old_link now_link new_link : LinkRecord) → HearsOn old now old_link now_link
    → ((given : List ℕ) (heard : List Placed) → Heard given heard now → Shows (Ok false) given heard looked) → WaitsOn (Ok false) now looked
    → Gets looked new now_link new_link → now_link.faults ≤ new_link.faults → now_link.ends ≤ new_link.ends → HearsOn old new old_link new_link
hears_more old now looked new old_link now_link new_link so_far shows waits gets faults ends = record {
  more = so_far.more ++ new.waiting;
  exchanged = Exchanged-then_given old_link now_link new_link [] so_far.more new.waiting so_far.exchanged gets.exchanged;
  told = λ given heard h.
      let looked_at = shows (given ++ so_far.more) heard (so_far.told given heard h) in
      let P : List ℕ → Type 0 = λ bytes. Heard bytes heard new in
      subst P (append_assoc given so_far.more new.waiting) (more_heard (given ++ so_far.more) heard looked new now_link new_link waits.0 gets looked_at);
  ready = ap (λ (r : LinkReader). is_whole r.records) gets.same ∙ waits.1;
  faults = omega (arith, so_far.faults, faults);
  ends = omega (arith, so_far.ends, ends);
}

-- fewer bytes are left to come
pub comes_nearer : (now looked new : LinkReader) (now_link new_link : LinkRecord) → WaitsOn (Ok false) now looked → Gets looked new now_link new_link
    → LONGEST_STREAM - (new.came + length new.waiting) < LONGEST_STREAM - (now.came + length now.waiting)
comes_nearer now looked new now_link new_link waits gets =
    omega (arith, waits.2, gets.some, gets.most, ap (λ (r : LinkReader). r.came) gets.same)

-- a look found the record
pub hears_record : (old now new : LinkReader) (old_link now_link : LinkRecord) → HearsOn old now old_link now_link
    → ((given : List ℕ) (heard : List Placed) → Heard given heard now → Shows (Ok true) given heard new) → Hears (Ok tt) old new old_link now_link
hears_record old now new old_link now_link so_far shows = record {
  more = so_far.more;
  exchanged = so_far.exchanged;
  cause = tt;
  told = λ given heard h. shows (given ++ so_far.more) heard (so_far.told given heard h);
}

-- a look found that there is no record
pub hears_no_record : (old now new : LinkReader) (old_link now_link : LinkRecord) (why : NoRecord) → HearsOn old now old_link now_link
    → ((given : List ℕ) (heard : List Placed) → Heard given heard now → Shows (Err why) given heard new) → IsOwn why → Hears (Err why) old new old_link now_link
hears_no_record old now new old_link now_link (Ended at) so_far shows own = absurd own
hears_no_record old now new old_link now_link (TooLong at) so_far shows own =
    record { more = so_far.more; exchanged = so_far.exchanged; cause = tt; told = λ given heard h. shows (given ++ so_far.more) heard (so_far.told given heard h) }
hears_no_record old now new old_link now_link StreamLimit so_far shows own = absurd own
hears_no_record old now new old_link now_link LinkFault so_far shows own = absurd own
hears_no_record old now new old_link now_link OutOfMemory so_far shows own =
    record { more = so_far.more; exchanged = so_far.exchanged; cause = tt; told = λ given heard h. shows (given ++ so_far.more) heard (so_far.told given heard h) }

nothing_more : (old mid new : LinkRecord) (more : List ℕ) → Exchanged old [] more mid → Exchanged mid [] [] new → Exchanged old [] more new
nothing_more old mid new more first second = Exchanged-same old new [] (more ++ []) [] more refl (append-nil more) (Exchanged-then_given old mid new [] more [] first second)

-- no record is behind those that were heard, and all that came was counted
none_behind : (given : List ℕ) (heard : List Placed) (reader : LinkReader) → reader.waiting ≡ [] → Heard given heard reader → (records_given given ≡ heard) × (reader.came ≡ length given)
none_behind given heard reader none h =
    let all = all_came given heard reader h none in
    (ap records_given all.0 ∙ h.records, all.1)

-- a look found no record, and no piece came
pub hears_end : (old now looked new : LinkReader) (old_link now_link new_link : LinkRecord) (why : NoRecord) → HearsOn old now old_link now_link
    → ((given : List ℕ) (heard : List Placed) → Heard given heard now → Shows (Ok false) given heard looked) → WaitsOn (Ok false) now looked
    → Receives (Err why) looked new now_link new_link → Hears (Err why) old new old_link new_link
hears_end old now looked new old_link now_link new_link (Ended at) so_far shows waits received = record {
  more = so_far.more;
  exchanged = nothing_more old_link now_link new_link so_far.more so_far.exchanged received.1;
  cause = (Rose-later old_link.ends now_link.ends new_link.ends so_far.ends received.2.0, received.2.1);
  told = λ given heard h.
      let is = none_behind (given ++ so_far.more) heard looked waits.0 (shows (given ++ so_far.more) heard (so_far.told given heard h)) in
      (is.0, received.0 ∙ is.1);
}
hears_end old now looked new old_link now_link new_link (TooLong at) so_far shows waits received = absurd received
hears_end old now looked new old_link now_link new_link StreamLimit so_far shows waits received = record {
  more = so_far.more;
  exchanged = nothing_more old_link now_link new_link so_far.more so_far.exchanged (let P : LinkRecord → Type 0 = λ link. Exchanged now_link [] [] link in subst P (sym received.1) (Exchanged-nothing now_link now_link refl refl));
  cause = tt;
  told = λ given heard h.
      let heard_on = shows (given ++ so_far.more) heard (so_far.told given heard h) in
      let is = none_behind (given ++ so_far.more) heard looked waits.0 heard_on in
      let enough : LONGEST_STREAM ≤ looked.came = received.0 in
      (is.0, omega (arith, is.1, enough, heard_on.most));
}
hears_end old now looked new old_link now_link new_link LinkFault so_far shows waits received = record {
  more = so_far.more;
  exchanged = nothing_more old_link now_link new_link so_far.more so_far.exchanged received.0;
  cause = Rose-later old_link.faults now_link.faults new_link.faults so_far.faults received.1;
  told = λ given heard h. (none_behind (given ++ so_far.more) heard looked waits.0 (shows (given ++ so_far.more) heard (so_far.told given heard h))).0;
}
hears_end old now looked new old_link now_link new_link OutOfMemory so_far shows waits received = absurd received
