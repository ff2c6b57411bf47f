-- Where nothing fails and the replies that are owed come, the status is that by the answers.
use Rattle.std.proofs.Common.{◌≡◌, ◌∙◌, ◌⊎◌, ℕ, ◌+◌, ◌<◌, ◌≤◌, Bool, true, false, ◌||◌, cond, List, [], ◌∷◌, ◌++◌, length, inl, inr, refl, sym, ap, subst, append_assoc, arith}
use Rattle.std.specs.Prelude.{Result, Ok, Err}
use Rattle.std.proofs.lemmas.List.{append-nil, length-append}
use Rattle.ldm_outside.specs.Count.{Rose}
use Rattle.ldm_outside.specs.Io.{SinkRecord}
use Rattle.ldm_outside.specs.Link.{LinkRecord}
use Rattle.ldm_outside.specs.Store.{StoreRecord}
use Rattle.ldm_outside.proofs.CallerLemmas.{Rose-later}
use Rattle.ldm_relay.specs.declared.message.PutAnswer.{PutAnswer}
use Rattle.ldm_relay.specs.declared.message.PutAnswer.TheVariants as put_answer
use Rattle.ldm_status.specs.declared.status.Status.TheVariants as status
use Rattle.ldm_tools.specs.declared.no_reply.NoReply.{NoReply}
use Rattle.ldm_tools.specs.Lines.{is_denied, is_refused}
use Rattle.ldm_tools.specs.Owing.{answers_refuse, are_denied, status_owed}
use Rattle.ldm_tools.specs.Telling.{HasAnswers}
use Rattle.ldm_tools.proofs.Followed.{Follows, follows_more, from_start, heard_agree, no_answer, nothing_heard, owed_next}
use Rattle.ldm_tools.proofs.Owed.{all_heard, denial_heard, denied_last}
use Rattle.ldm_tools.specs.declared.fault.InsertFault.{InsertFault}
use Rattle.ldm_tools.specs.declared.fault.InsertFault.TheVariants as fault
use Rattle.ldm_tools.specs.Files.{BreaksLine, Handles, Puts, Step, Put, Takes, TooLong}
use Rattle.ldm_tools.specs.Inserting.{FileAt, Inserting}
use Rattle.ldm_tools.specs.Inserts.{status_of}
use Rattle.ldm_tools.specs.Moments.{Hands, InsertMoment, Outside, hands_of, moment}
use Rattle.ldm_tools.specs.InsertOwing.{Completes}
use Rattle.ldm_tools.specs.InsertTold.{answers_of}
use Rattle.ldm_tools.specs.Runs.{AreTaken, Runs, StopsAt, TakesAll, are_refused}

-- ---- counts of files that are too long

pub rose_then : (a b c : ℕ) → Rose a b → (c ≡ b) ⊎ Rose b c → Rose a c
rose_then a b c rose (inl same) = let P : ℕ → Type 0 = λ n. Rose a n in subst P (sym same) rose
rose_then a b c (inl one) (inr (inl two)) = inl (omega arith)
rose_then a b c (inl one) (inr (inr still)) = let P : ℕ → Type 0 = λ n. a < n in inl (subst P (still.0 ∙ sym still.1) one)
rose_then a b c (inr still) (inr (inl two)) = let P : ℕ → Type 0 = λ n. n < c in inl (subst P (still.1 ∙ sym still.0) two)
rose_then a b c (inr still) (inr (inr same)) = inr (still.0, same.1)

-- the store is not touched by a PUT
put_store : (all : Inserting) (file : FileAt) (body : List ℕ) (arrival : ℕ) (answer : PutAnswer) (old new : InsertMoment) → Puts all file body arrival answer old new → new.hands.store ≡ old.hands.store
put_store all file body arrival answer old new puts = ap (λ (h : Hands). h.store) puts.same

pub takes_store : (all : Inserting) (file : FileAt) (body : List ℕ) (arrival : ℕ) (answer : PutAnswer) (old new : InsertMoment) → Takes all file (Put body arrival answer) old new → new.hands.store ≡ old.hands.store
takes_store all file body arrival answer old new takes =
    ap (λ (m : InsertMoment). m.hands.store) takes.same ∙ put_store all file body arrival answer old takes.between takes.handled

pub takes_long : (all : Inserting) (file : FileAt) (old new : InsertMoment) → Takes all file TooLong old new → Rose old.hands.store.long new.hands.store.long
takes_long all file old new takes =
    let same : new.hands.store ≡ takes.between.hands.store = ap (λ (m : InsertMoment). m.hands.store) takes.same in
    let P : StoreRecord → Type 0 = λ s. Rose old.hands.store.long s.long in
    subst P (sym same) takes.handled.found.0

pub long_on : (all : Inserting) (number : ℕ) (paths : List (List ℕ)) (steps : List Step) (old new : InsertMoment) → AreTaken all number paths steps old new
    → (new.hands.store.long ≡ old.hands.store.long) ⊎ Rose old.hands.store.long new.hands.store.long
long_on all number [] [] old new each = inl (ap (λ (m : InsertMoment). m.hands.store.long) each)
long_on all number [] (step ∷ steps) old new each = absurd each
long_on all number (path ∷ paths) [] old new each = absurd each
long_on all number (path ∷ paths) (TooLong ∷ steps) old new each =
    inr (rose_then old.hands.store.long each.0.hands.store.long new.hands.store.long (takes_long all (record { number = number; path = path }) old each.0 each.1)
    (long_on all (number + 1) paths steps each.0 new each.2))
long_on all number (path ∷ paths) (Put body arrival answer ∷ steps) old new each =
    let same = takes_store all (record { number = number; path = path }) body arrival answer old each.0 each.1 in
    let P : StoreRecord → Type 0 = λ s. (new.hands.store.long ≡ s.long) ⊎ Rose s.long new.hands.store.long in
    subst P same (long_on all (number + 1) paths steps each.0 new each.2)

-- ---- the answers to files that were taken

record Followed (stream : List ℕ) (paths : List (List ℕ)) (steps : List Step) (old new : InsertMoment) : Type 0 where
  pub follows : Follows stream new.given new.hands.link
  pub answers : new.answers ≡ old.answers ++ answers_of steps
  pub count : length (answers_of steps) ≡ length paths
  pub none : are_denied (answers_of steps) ≡ false
  pub refused : are_refused steps ≡ answers_refuse (answers_of steps)
  pub has : HasAnswers new.given new.answers

none_more : (a b : Bool) → a ≡ false → b ≡ false → (a || b) ≡ false
none_more a b one other = ap (λ (x : Bool). x || b) one ∙ other

followed : (stream : List ℕ) (all : Inserting) (number : ℕ) (paths : List (List ℕ)) (steps : List Step) (old new : InsertMoment) → AreTaken all number paths steps old new
    → ¬ Rose old.hands.store.long new.hands.store.long → Follows stream old.given old.hands.link → HasAnswers old.given old.answers → Followed stream paths steps old new
followed stream all number [] [] old new each none follows has =
    let P : InsertMoment → Type 0 = λ m. Follows stream m.given m.hands.link in
    let Q : InsertMoment → Type 0 = λ m. HasAnswers m.given m.answers in
    record {
      follows = subst P (sym each) follows;
      answers = ap (λ (m : InsertMoment). m.answers) each ∙ sym (append-nil old.answers);
      count = refl;
      none = refl;
      refused = refl;
      has = subst Q (sym each) has;
    }
followed stream all number [] (step ∷ steps) old new each none follows has = absurd each
followed stream all number (path ∷ paths) [] old new each none follows has = absurd each
followed stream all number (path ∷ paths) (TooLong ∷ steps) old new each none follows has =
    absurd (none (rose_then old.hands.store.long each.0.hands.store.long new.hands.store.long (takes_long all (record { number = number; path = path }) old each.0 each.1)
    (long_on all (number + 1) paths steps each.0 new each.2)))
followed stream all number (path ∷ paths) (Put body arrival answer ∷ steps) old new each none follows has =
    let file : FileAt = record { number = number; path = path } in
    let mid = each.0 in
    let takes = each.1 in
    let puts = takes.handled in
    let between = takes.between in
    let same = takes_store all file body arrival answer old mid takes in
    let L : StoreRecord → Type 0 = λ s. ¬ Rose s.long new.hands.store.long in
    let F : LinkRecord → Type 0 = λ l. Follows stream between.given l in
    let G : List ℕ → Type 0 = λ g. Follows stream g mid.hands.link in
    let H : InsertMoment → Type 0 = λ m. HasAnswers m.given m.answers in
    let went : Follows stream between.given between.hands.link = follows_more stream old.given between.given _ puts.more old.hands.link between.hands.link puts.exchanged puts.given follows in
    let here : Follows stream mid.given mid.hands.link =
    subst G (ap (λ (m : InsertMoment). m.given) (sym takes.same)) (subst F (ap (λ (m : InsertMoment). m.hands.link) (sym takes.same)) went) in
    let says : HasAnswers mid.given mid.answers = subst H (sym takes.same) puts.says in
    let rest = followed stream all (number + 1) paths steps mid new each.2 (subst L (sym same) none) here says in
    record {
      follows = rest.follows;
      answers = rest.answers ∙ ap (λ (a : List PutAnswer). a ++ answers_of steps) (ap (λ (m : InsertMoment). m.answers) takes.same ∙ puts.answers) ∙ append_assoc old.answers (answer ∷ []) (answers_of steps);
      count = (let n = rest.count in omega arith);
      none = none_more (is_denied answer) (are_denied (answers_of steps)) takes.not_denied rest.none;
      refused = ap (λ (b : Bool). is_refused answer || b) rest.refused;
      has = rest.has;
    }

-- ---- the end of a run

pub handled_sink : (all : Inserting) (file : FileAt) (step : Step) (old new : InsertMoment) → Handles all file step old new → new.hands.sink ≡ old.hands.sink
handled_sink all file TooLong old new handled = ap (λ (m : InsertMoment). m.hands.sink) handled.same
handled_sink all file (Put body arrival answer) old new handled = ap (λ (h : Hands). h.sink) handled.same

pub sink_rose : (all : Inserting) (file : FileAt) (start : ℕ) (old new : InsertMoment) → start ≤ old.hands.sink.faults → BreaksLine all file old new → Rose start new.hands.sink.faults
sink_rose all file start old new kept breaks =
    let same = handled_sink all file breaks.step old breaks.between breaks.handled in
    let P : SinkRecord → Type 0 = λ s. Rose s.faults new.hands.sink.faults in
    Rose-later start old.hands.sink.faults new.hands.sink.faults kept (subst P same breaks.rose)

all_status : (refused : Bool) (answers : List PutAnswer) → are_denied answers ≡ false → refused ≡ answers_refuse answers → status_of (Ok refused) ≡ status_owed answers
all_status true answers none is = ap (λ (b : Bool). cond b status.Refused status.Done) is ∙ ap (λ (b : Bool). cond b status.Denied (cond (answers_refuse answers) status.Refused status.Done)) (sym none)
all_status false answers none is = ap (λ (b : Bool). cond b status.Refused status.Done) is ∙ ap (λ (b : Bool). cond b status.Denied (cond (answers_refuse answers) status.Refused status.Done)) (sym none)

taken_all : (refused : Bool) (all : Inserting) (came left : LinkRecord) (old new : Outside) (given : List ℕ) (answers : List PutAnswer)
    → TakesAll refused all (moment (hands_of came old) [] []) (moment (hands_of left new) given answers) → Completes (status_of (Ok refused)) all.files came old new
taken_all refused all came left old new given answers takes = λ stream owed left_is short says are none.
    let f = followed stream all 0 all.files takes.steps (moment (hands_of came old) [] []) (moment (hands_of left new) given answers) takes.each none.long (from_start stream came left_is) nothing_heard in
    let P : List PutAnswer → Type 0 = λ a. HasAnswers given a in
    let has : HasAnswers given (answers_of takes.steps) = subst P f.answers f.has in
    let same : owed ≡ answers_of takes.steps = all_heard all.files (answers_of takes.steps) owed (heard_agree stream given left (answers_of takes.steps) owed f.follows has says) f.count f.none are in
    inl (all_status refused (answers_of takes.steps) f.none (takes.refused_is ∙ f.refused) ∙ ap status_owed (sym same))

shorter : (before : List (List ℕ)) (path : List ℕ) (rest files : List (List ℕ)) → files ≡ before ++ path ∷ rest → length before < length files
shorter before path rest files is = omega (arith, ap length is, length-append before (path ∷ rest))

stopped : (why : InsertFault) (all : Inserting) (came left : LinkRecord) (old new : Outside) (given : List ℕ) (answers : List PutAnswer)
    → StopsAt why all (moment (hands_of came old) [] []) (moment (hands_of left new) given answers) → (Rose came.faults left.faults → Rose old.net.links.failed new.net.links.failed)
    → Completes (status_of (Err why)) all.files came old new
stopped fault.OutOfMemory all came left old new given answers stops failed = λ stream owed left_is short says are none. inr refl
stopped fault.StoreFault all came left old new given answers stops failed = λ stream owed left_is short says are none.
    absurd (none.store (Rose-later old.store.faults stops.mid.hands.store.faults new.store.faults stops.kept.store stops.breaks.0.0))
stopped fault.SinkFault all came left old new given answers stops failed = λ stream owed left_is short says are none.
    let breaks = stops.breaks in
    absurd (none.sink (sink_rose all (record { number = length stops.before; path = stops.path }) old.sink.faults stops.mid (moment (hands_of left new) given answers) stops.kept.sink breaks))
stopped fault.Denied all came left old new given answers stops failed = λ stream owed left_is short says are none.
    let file : FileAt = record { number = length stops.before; path = stops.path } in
    let puts = stops.breaks.puts in
    let end = moment (hands_of left new) given answers in
    let store : new.store ≡ stops.mid.hands.store = put_store all file stops.breaks.body stops.breaks.arrival put_answer.Denied stops.mid end puts in
    let L : StoreRecord → Type 0 = λ s. ¬ Rose old.store.long s.long in
    let f = followed stream all 0 stops.before stops.steps (moment (hands_of came old) [] []) stops.mid stops.each (subst L store none.long) (from_start stream came left_is) nothing_heard in
    let went = follows_more stream stops.mid.given given _ puts.more stops.mid.hands.link left puts.exchanged puts.given f.follows in
    let heard_is : answers ≡ answers_of stops.steps ++ put_answer.Denied ∷ [] = puts.answers ∙ ap (λ (a : List PutAnswer). a ++ put_answer.Denied ∷ []) f.answers in
    let denies : are_denied answers ≡ true = ap are_denied heard_is ∙ denied_last (answers_of stops.steps) put_answer.Denied refl in
    let few : length answers ≤ length all.files =
    omega (arith, ap length heard_is, length-append (answers_of stops.steps) (put_answer.Denied ∷ []), f.count, shorter stops.before stops.path stops.behind all.files stops.files) in
    let is = denial_heard all.files answers owed (heard_agree stream given left answers owed went puts.says says) few denies are in
    inl (ap (λ (b : Bool). cond b status.Denied (cond (answers_refuse owed) status.Refused status.Done)) (sym is))
stopped (fault.NoAnswer why) all came left old new given answers stops failed = λ stream owed left_is short says are none.
    let breaks = stops.breaks in
    let end = moment (hands_of left new) given answers in
    let store : new.store ≡ stops.mid.hands.store = ap (λ (m : InsertMoment). m.hands.store) breaks.same in
    let L : StoreRecord → Type 0 = λ s. ¬ Rose old.store.long s.long in
    let f = followed stream all 0 stops.before stops.steps (moment (hands_of came old) [] []) stops.mid stops.each (subst L store none.long) (from_start stream came left_is) nothing_heard in
    let went = follows_more stream stops.mid.given given _ breaks.more stops.mid.hands.link left breaks.exchanged breaks.given f.follows in
    let D : List PutAnswer → Type 0 = λ a. are_denied a ≡ false in
    let quiet : are_denied stops.mid.answers ≡ false = subst D (sym f.answers) f.none in
    let few : length stops.mid.answers < length all.files = omega (arith, ap length f.answers, f.count, shorter stops.before stops.path stops.behind all.files stops.files) in
    let next = owed_next stream all.files stops.mid.answers owed (heard_agree stream stops.mid.given stops.mid.hands.link stops.mid.answers owed f.follows f.has says) few quiet are says in
    let quiet_link : ¬ Rose came.faults left.faults = λ rose. none.failed (failed rose) in
    inr (ap (λ (w : NoReply). status_of (Err (fault.NoAnswer w))) (no_answer why stream given stops.mid.answers came left went next breaks.says short quiet_link))
stopped fault.Unreached all came left old new given answers stops failed = absurd stops.breaks

pub completes : (ending : Result Bool InsertFault) (all : Inserting) (came left : LinkRecord) (old new : Outside) (given : List ℕ) (answers : List PutAnswer)
    → Runs ending all (moment (hands_of came old) [] []) (moment (hands_of left new) given answers) → (Rose came.faults left.faults → Rose old.net.links.failed new.net.links.failed)
    → Completes (status_of ending) all.files came old new
completes (Ok refused) all came left old new given answers runs failed = taken_all refused all came left old new given answers runs
completes (Err fault.OutOfMemory) all came left old new given answers runs failed = λ stream owed left_is short says are none. inr refl
completes (Err fault.StoreFault) all came left old new given answers runs failed = stopped fault.StoreFault all came left old new given answers runs failed
completes (Err (fault.NoAnswer why)) all came left old new given answers runs failed = stopped (fault.NoAnswer why) all came left old new given answers runs failed
completes (Err fault.Denied) all came left old new given answers runs failed = stopped fault.Denied all came left old new given answers runs failed
completes (Err fault.SinkFault) all came left old new given answers runs failed = stopped fault.SinkFault all came left old new given answers runs failed
completes (Err fault.Unreached) all came left old new given answers runs failed = absurd runs
