-- Files over a link, one after another.
use Rattle.std.proofs.Common.{◌≡◌, ◌∙◌, ℕ, suc, ◌+◌, ◌<◌, ◌≤◌, Bool, true, false, ◌||◌, List, [], ◌∷◌, ◌++◌, length, get_or, take, drop, inl, inr, refl, sym, ap, subst, arith, drop-cons}
use Rattle.std.proofs.lemmas.List.{take-append-drop, length-take-le}
use Rattle.std.specs.Prelude.{Ok, Err}
use Rattle.ldm_outside.specs.Link.{LinkRecord}
use Rattle.ldm_outside.proofs.CallerLemmas.{Rose-later}
use Rattle.ldm_relay.specs.declared.message.PutAnswer.{PutAnswer}
use Rattle.ldm_rpc.specs.Streams.{Placed}
use Rattle.ldm_tools.specs.declared.no_reply.NoReply.{NoReply}
use Rattle.ldm_tools.specs.declared.no_reply.NoReply.TheVariants.{BadFrame, StreamLimit, LinkFault, OutOfMemory}
use Rattle.ldm_tools.specs.declared.puts.Puts.{Puts}
use Rattle.ldm_tools.specs.Puts.{HasPut, NoAnswer, put_number}
use Rattle.ldm_tools.specs.Replies.{IsPutReply, SaysNone}
use Rattle.ldm_tools.proofs.Followed.{no_answer_from}
use Rattle.ldm_tools.specs.declared.fault.InsertFault.{InsertFault}
use Rattle.ldm_tools.specs.declared.fault.InsertFault.TheVariants as fault
use Rattle.ldm_tools.specs.Files.{Breaks, Step, Takes, is_refused_step}
use Rattle.ldm_tools.specs.Inserting.{FileAt, Inserting}
use Rattle.ldm_tools.specs.Moments.{Hands, KeepsHands, InsertMoment, moment}
use Rattle.ldm_tools.specs.Parts.{RunsOver, TakesOne}
use Rattle.ldm_tools.specs.Runs.{AreTaken, Runs, StopsAt, are_refused}

pub hands_same : (hands : Hands) → KeepsHands hands hands
hands_same hands = record { store = omega arith; long = omega arith; ends = omega arith; faults = omega arith; sink = omega arith }

pub hands_then : (old mid new : Hands) → KeepsHands old mid → KeepsHands mid new → KeepsHands old new
hands_then old mid new one other = record {
  store = (let a = one.store in let b = other.store in omega arith);
  long = (let a = one.long in let b = other.long in omega arith);
  ends = (let a = one.ends in let b = other.ends in omega arith);
  faults = (let a = one.faults in let b = other.faults in omega arith);
  sink = (let a = one.sink in let b = other.sink in omega arith);
}

-- The files under these paths were taken.
pub record Goes (all : Inserting) (paths : List (List ℕ)) (refused : Bool) (puts : Puts) (old new : Hands) : Type 0 where
  pub given : List ℕ
  pub answers : List PutAnswer
  pub steps : List Step
  pub each : AreTaken all 0 paths steps (moment old [] []) (moment new given answers)
  pub refused_is : refused ≡ are_refused steps
  pub has : HasPut given answers puts

pub goes_first : (all : Inserting) (puts : Puts) (old : Hands) → HasPut [] [] puts → Goes all [] false puts old old
goes_first all puts old has = record { given = []; answers = []; steps = []; each = refl; refused_is = refl; has = has }

or_none : (b : Bool) → (b || false) ≡ b
or_none true = refl
or_none false = refl

or_more : (a b c : Bool) → (a || (b || c)) ≡ ((a || b) || c)
or_more true b c = refl
or_more false b c = refl

refused_push : (steps : List Step) (step : Step) → are_refused (steps ++ step ∷ []) ≡ (are_refused steps || is_refused_step step)
refused_push [] step = or_none (is_refused_step step)
refused_push (first ∷ steps) step =
    ap (λ (b : Bool). is_refused_step first || b) (refused_push steps step) ∙ or_more (is_refused_step first) (are_refused steps) (is_refused_step step)

-- one more file
taken_push : (all : Inserting) (number : ℕ) (paths : List (List ℕ)) (path : List ℕ) (steps : List Step) (step : Step) (old mid new : InsertMoment) → AreTaken all number paths steps old mid
    → Takes all (record { number = number + length paths; path = path }) step mid new → AreTaken all number (paths ++ path ∷ []) (steps ++ step ∷ []) old new
taken_push all number [] path [] step old mid new each takes =
    let P : InsertMoment → Type 0 = λ m. Takes all (record { number = number; path = path }) step m new in
    let Q : ℕ → Type 0 = λ n. Takes all (record { number = n; path = path }) step mid new in
    let none : number + 0 ≡ number = omega arith in
    (new, subst P each (subst Q none takes), refl)
taken_push all number [] path (first ∷ steps) step old mid new each takes = absurd each
taken_push all number (first_path ∷ paths) path [] step old mid new each takes = absurd each
taken_push all number (first_path ∷ paths) path (first ∷ steps) step old mid new each takes =
    let Q : ℕ → Type 0 = λ n. Takes all (record { number = n; path = path }) step mid new in
    let same : number + length (first_path ∷ paths) ≡ (number + 1) + length paths = omega arith in
    (each.0, each.1, taken_push all (number + 1) paths path steps step each.0 mid new each.2 (subst Q same takes))

pub goes_on : (all : Inserting) (paths : List (List ℕ)) (path : List ℕ) (refused this_one : Bool) (puts new_puts : Puts) (old mid new : Hands) → Goes all paths refused puts old mid
    → TakesOne (Ok this_one) all (record { number = length paths; path = path }) puts new_puts mid new → Goes all (paths ++ path ∷ []) (refused || this_one) new_puts old new
goes_on all paths path refused this_one puts new_puts old mid new goes takes =
    let one = takes goes.given goes.answers goes.has in
    let Q : ℕ → Type 0 = λ n. Takes all (record { number = n; path = path }) one.0 (moment mid goes.given goes.answers) (moment new one.1 one.2) in
    let same : length paths ≡ 0 + length paths = omega arith in
    record {
      given = one.1;
      answers = one.2;
      steps = goes.steps ++ one.0 ∷ [];
      each = taken_push all 0 paths path goes.steps one.0 (moment old [] []) (moment mid goes.given goes.answers) (moment new one.1 one.2) goes.each (subst Q same one.3);
      refused_is = ap (λ (b : Bool). b || this_one) goes.refused_is ∙ ap (λ (b : Bool). are_refused goes.steps || b) one.5 ∙ sym (refused_push goes.steps one.0);
      has = one.4;
    }

-- ---- why a run ended at a file, to one who looks at the link from its beginning

breaks_from : (why : InsertFault) (all : Inserting) (file : FileAt) (came now : LinkRecord) (old new : InsertMoment) → came.ends ≤ now.ends → came.faults ≤ now.faults
    → Breaks why all file now old new → Breaks why all file came old new
breaks_from (fault.NoAnswer why) all file came now old new ends faults breaks = record {
  body = breaks.body;
  arrival = breaks.arrival;
  body_is = breaks.body_is;
  asked = breaks.asked;
  sent = breaks.sent;
  more = breaks.more;
  exchanged = breaks.exchanged;
  sent_is = breaks.sent_is;
  given = breaks.given;
  says = no_answer_from why new.given old.answers came now new.hands.link ends faults breaks.says;
  same = breaks.same;
}
breaks_from fault.StoreFault all file came now old new ends faults breaks = breaks
breaks_from fault.OutOfMemory all file came now old new ends faults breaks = breaks
breaks_from fault.Denied all file came now old new ends faults breaks = breaks
breaks_from fault.SinkFault all file came now old new ends faults breaks = breaks
breaks_from fault.Unreached all file came now old new ends faults breaks = absurd breaks

-- a run that ended at a file ended so
by_fault : (why : InsertFault) (all : Inserting) (old new : InsertMoment) → StopsAt why all old new → Runs (Err why) all old new
by_fault fault.StoreFault all old new stops = stops
by_fault fault.OutOfMemory all old new stops = inr stops
by_fault (fault.NoAnswer why) all old new stops = stops
by_fault fault.Denied all old new stops = stops
by_fault fault.SinkFault all old new stops = stops
by_fault fault.Unreached all old new stops = absurd stops.breaks

pub stops_at : (all : Inserting) (before : List (List ℕ)) (path : List ℕ) (behind : List (List ℕ)) (refused : Bool) (why : InsertFault) (puts new_puts : Puts) (old mid new : Hands)
    → all.files ≡ before ++ path ∷ behind → Goes all before refused puts old mid → KeepsHands old mid
    → TakesOne (Err why) all (record { number = length before; path = path }) puts new_puts mid new → RunsOver (Err why) all old new
stops_at all before path behind refused why puts new_puts old mid new files goes kept takes =
    let one = takes goes.given goes.answers goes.has in
    record {
      given = one.0;
      answers = one.1;
      runs = by_fault why all (moment old [] []) (moment new one.0 one.1) (record {
        before = before;
        path = path;
        behind = behind;
        files = files;
        steps = goes.steps;
        mid = moment mid goes.given goes.answers;
        each = goes.each;
        kept = kept;
        breaks = breaks_from why all (record { number = length before; path = path }) old.link mid.link (moment mid goes.given goes.answers) (moment new one.0 one.1) kept.ends kept.faults one.2;
      });
    }

pub goes_all : (all : Inserting) (paths : List (List ℕ)) (refused : Bool) (puts : Puts) (old new : Hands) → paths ≡ all.files → Goes all paths refused puts old new
    → RunsOver (Ok refused) all old new
goes_all all paths refused puts old new files goes =
    let P : List (List ℕ) → Type 0 = λ these. AreTaken all 0 these goes.steps (moment old [] []) (moment new goes.given goes.answers) in
    record { given = goes.given; answers = goes.answers; runs = record { steps = goes.steps; each = subst P files goes.each; refused_is = goes.refused_is } }

-- there is no memory for the first PUT
pub nothing_run : (all : Inserting) (hands : Hands) → RunsOver (Err fault.OutOfMemory) all hands hands
nothing_run all hands = record { given = []; answers = []; runs = inl refl }

-- ---- the files of a loop over them

-- the paths up to one, that one, and those behind it
pub split : (paths : List (List ℕ)) (i : ℕ) → i < length paths → paths ≡ take i paths ++ get_or paths i [] ∷ drop (i + 1) paths
split paths i within =
    let next : i + 1 ≡ suc i = omega arith in
    sym (take-append-drop i paths) ∙ ap (λ (x : List (List ℕ)). take i paths ++ x) (drop-cons paths i [] within ∙ ap (λ (n : ℕ). get_or paths i [] ∷ drop n paths) (sym next))

pub front_length : (paths : List (List ℕ)) (i : ℕ) → i < length paths → length (take i paths) ≡ i
front_length paths i within = length-take-le i paths (omega arith)
