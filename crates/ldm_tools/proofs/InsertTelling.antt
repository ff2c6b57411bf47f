-- What is told of a run.
use Rattle.std.proofs.Common.{◌≡◌, ◌∙◌, ◌⊎◌, ℕ, ◌+◌, Bool, true, false, ◌||◌, List, [], ◌∷◌, ◌++◌, length, inl, inr, refl, sym, ap, subst, append_assoc, arith}
use Rattle.std.specs.Prelude.{Result, Ok, Err}
use Rattle.std.proofs.lemmas.List.{append-nil, length-append}
use Rattle.ldm_outside.specs.Count.{Rose}
use Rattle.ldm_outside.specs.Io.{SinkRecord}
use Rattle.ldm_outside.specs.Io as io
use Rattle.ldm_outside.specs.Link.{LinkRecord}
use Rattle.ldm_outside.specs.Store.{StoreRecord}
use Rattle.ldm_outside.proofs.CallerLemmas.{Rose-later, Takes-nothing, Takes-then}
use Rattle.ldm_relay.specs.declared.message.PutAnswer.{PutAnswer}
use Rattle.ldm_session.specs.Exchange.{Exchanged}
use Rattle.ldm_session.proofs.CallerLemmas.{Exchanged-nothing, Exchanged-then}
use Rattle.ldm_tools.specs.declared.no_reply.NoReply.TheVariants.{BadFrame, StreamLimit, LinkFault, OutOfMemory}
use Rattle.ldm_tools.specs.Lines.{is_refused}
use Rattle.ldm_tools.specs.Owing.{answers_refuse}
use Rattle.ldm_tools.specs.declared.fault.InsertFault.{InsertFault}
use Rattle.ldm_tools.specs.declared.fault.InsertFault.TheVariants as fault
use Rattle.ldm_tools.specs.Files.{Step, Put, Takes, TooLong, call_of, line_of}
use Rattle.ldm_tools.specs.Inserting.{FileAt, Inserting}
use Rattle.ldm_tools.specs.Inserts.{InsertEnds}
use Rattle.ldm_tools.specs.Moments.{InsertMoment, Outside, hands_of, moment}
use Rattle.ldm_tools.specs.Runs.{AreTaken, StopsAt, TakesAll, are_refused}
use Rattle.ldm_tools.specs.InsertTold.{AreTold, Cause, RefusedCause, answers_of, calls_of, lines_of}
use Rattle.ldm_tools.proofs.InsertCompleted.{handled_sink, long_on, rose_then, sink_rose, takes_long, takes_store}

-- the same, of files the first of which has this number
record Tells (all : Inserting) (number : ℕ) (paths : List (List ℕ)) (steps : List Step) (old new : InsertMoment) : Type 0 where
  pub more : List ℕ
  pub sent : Exchanged old.hands.link (calls_of all number (length old.answers) paths steps) more new.hands.link
  pub given : new.given ≡ old.given ++ more
  pub answers : new.answers ≡ old.answers ++ answers_of steps
  pub written : io.Takes old.hands.sink (lines_of steps) new.hands.sink

-- one line, and those behind it
line_then : (all : Inserting) (file : FileAt) (step : Step) (lines : List ℕ) (old mid new : InsertMoment) → Takes all file step old mid → io.Takes mid.hands.sink lines new.hands.sink
    → io.Takes old.hands.sink (line_of step ++ lines) new.hands.sink
line_then all file step lines old mid new takes behind =
    let same = handled_sink all file step old takes.between takes.handled in
    let P : SinkRecord → Type 0 = λ s. io.Takes s (line_of step) mid.hands.sink in
    Takes-then old.hands.sink mid.hands.sink new.hands.sink (line_of step) lines (subst P same takes.written) behind

tells : (all : Inserting) (number : ℕ) (paths : List (List ℕ)) (steps : List Step) (old new : InsertMoment) → AreTaken all number paths steps old new → Tells all number paths steps old new
tells all number [] [] old new each = record {
  more = [];
  sent = Exchanged-nothing old.hands.link new.hands.link (ap (λ (m : InsertMoment). m.hands.link.passed) each) (ap (λ (m : InsertMoment). m.hands.link.left) each);
  given = ap (λ (m : InsertMoment). m.given) each ∙ sym (append-nil old.given);
  answers = ap (λ (m : InsertMoment). m.answers) each ∙ sym (append-nil old.answers);
  written = Takes-nothing old.hands.sink new.hands.sink (ap (λ (m : InsertMoment). m.hands.sink.written) each);
}
tells all number [] (step ∷ steps) old new each = absurd each
tells all number (path ∷ paths) [] old new each = absurd each
tells all number (path ∷ paths) (TooLong ∷ steps) old new each =
    let mid = each.0 in
    let takes = each.1 in
    let rest = tells all (number + 1) paths steps mid new each.2 in
    let link : mid.hands.link ≡ old.hands.link = ap (λ (m : InsertMoment). m.hands.link) takes.same ∙ ap (λ (m : InsertMoment). m.hands.link) takes.handled.same in
    let given : mid.given ≡ old.given = ap (λ (m : InsertMoment). m.given) takes.same ∙ ap (λ (m : InsertMoment). m.given) takes.handled.same in
    let answers : mid.answers ≡ old.answers = ap (λ (m : InsertMoment). m.answers) takes.same ∙ ap (λ (m : InsertMoment). m.answers) takes.handled.same in
    let P : LinkRecord → Type 0 = λ l. Exchanged l (calls_of all (number + 1) (length old.answers) paths steps) rest.more new.hands.link in
    let Q : List PutAnswer → Type 0 = λ a. Exchanged mid.hands.link (calls_of all (number + 1) (length a) paths steps) rest.more new.hands.link in
    record {
      more = rest.more;
      sent = subst P link (subst Q answers rest.sent);
      given = rest.given ∙ ap (λ (g : List ℕ). g ++ rest.more) given;
      answers = rest.answers ∙ ap (λ (a : List PutAnswer). a ++ answers_of steps) answers;
      written = line_then all (record { number = number; path = path }) TooLong (lines_of steps) old mid new takes rest.written;
    }
tells all number (path ∷ paths) (Put body arrival answer ∷ steps) old new each =
    let file : FileAt = record { number = number; path = path } in
    let mid = each.0 in
    let takes = each.1 in
    let puts = takes.handled in
    let rest = tells all (number + 1) paths steps mid new each.2 in
    let link : takes.between.hands.link ≡ mid.hands.link = ap (λ (m : InsertMoment). m.hands.link) (sym takes.same) in
    let given : mid.given ≡ old.given ++ puts.more = ap (λ (m : InsertMoment). m.given) takes.same ∙ puts.given in
    let answers : mid.answers ≡ old.answers ++ answer ∷ [] = ap (λ (m : InsertMoment). m.answers) takes.same ∙ puts.answers in
    let count : length mid.answers ≡ length old.answers + 1 = omega (arith, ap length answers, length-append old.answers (answer ∷ [])) in
    let P : LinkRecord → Type 0 = λ l. Exchanged old.hands.link (call_of all file body arrival old) puts.more l in
    let Q : ℕ → Type 0 = λ n. Exchanged mid.hands.link (calls_of all (number + 1) n paths steps) rest.more new.hands.link in
    record {
      more = puts.more ++ rest.more;
      sent = Exchanged-then old.hands.link mid.hands.link new.hands.link (call_of all file body arrival old) puts.more (calls_of all (number + 1) (length old.answers + 1) paths steps) rest.more
          (subst P link puts.exchanged) (subst Q count rest.sent);
      given = rest.given ∙ ap (λ (g : List ℕ). g ++ rest.more) given ∙ append_assoc old.given puts.more rest.more;
      answers = rest.answers ∙ ap (λ (a : List PutAnswer). a ++ answers_of steps) answers ∙ append_assoc old.answers (answer ∷ []) (answers_of steps);
      written = line_then all file (Put body arrival answer) (lines_of steps) old mid new takes rest.written;
    }

are_told : (all : Inserting) (paths : List (List ℕ)) (steps : List Step) (old new : InsertMoment) → AreTaken all 0 paths steps old new → AreTold all paths steps old new
are_told all paths steps old new each =
    let t = tells all 0 paths steps old new each in
    record { more = t.more; sent = t.sent; given = t.given; answers = t.answers; written = t.written }

pub told_whole : (refused : Bool) (all : Inserting) (old new : InsertMoment) (takes : TakesAll refused all old new) → AreTold all all.files takes.steps old new
told_whole refused all old new takes = are_told all all.files takes.steps old new takes.each

pub told_before : (why : InsertFault) (all : Inserting) (old new : InsertMoment) (stops : StopsAt why all old new) → AreTold all stops.before stops.steps old stops.mid
told_before why all old new stops = are_told all stops.before stops.steps old stops.mid stops.each

-- ---- causes

or_split : (a b : Bool) → (a || b) ≡ true → (a ≡ true) ⊎ (b ≡ true)
or_split true b is = inl refl
or_split false b is = inr is

either_cause : (a b : Bool) (X : Type 0) → (b ≡ true) ⊎ X → ((a || b) ≡ true) ⊎ X
either_cause true b X (inl is) = inl refl
either_cause false b X (inl is) = inl is
either_cause a b X (inr x) = inr x

refused_some : (all : Inserting) (number : ℕ) (paths : List (List ℕ)) (steps : List Step) (old new : InsertMoment) → AreTaken all number paths steps old new → are_refused steps ≡ true
    → RefusedCause steps old new
refused_some all number [] [] old new each is = absurd cc
refused_some all number [] (step ∷ steps) old new each is = absurd each
refused_some all number (path ∷ paths) [] old new each is = absurd each
refused_some all number (path ∷ paths) (TooLong ∷ steps) old new each is =
    inr (rose_then old.hands.store.long each.0.hands.store.long new.hands.store.long (takes_long all (record { number = number; path = path }) old each.0 each.1)
    (long_on all (number + 1) paths steps each.0 new each.2))
refused_some all number (path ∷ paths) (Put body arrival answer ∷ steps) old new each is =
    by_first (or_split (is_refused answer) (are_refused steps) is) (λ later. refused_some all (number + 1) paths steps each.0 new each.2 later)
  where
    by_first : (is_refused answer ≡ true) ⊎ (are_refused steps ≡ true) → (are_refused steps ≡ true → RefusedCause steps each.0 new) → RefusedCause (Put body arrival answer ∷ steps) old new
    by_first (inl this) later = inl (ap (λ (b : Bool). b || answers_refuse (answers_of steps)) this)
    by_first (inr behind) later =
        let same = takes_store all (record { number = number; path = path }) body arrival answer old each.0 each.1 in
        let P : ℕ → Type 0 = λ n. (answers_refuse (answers_of steps) ≡ true) ⊎ Rose n new.hands.store.long in
        let X = Rose old.hands.store.long new.hands.store.long in
        either_cause (is_refused answer) (answers_refuse (answers_of steps)) X (subst P (ap (λ (s : StoreRecord). s.long) same) (later behind))

pub refused_cause : (all : Inserting) (old new : InsertMoment) (takes : TakesAll true all old new) → RefusedCause takes.steps old new
refused_cause all old new takes = refused_some all 0 all.files takes.steps old new takes.each (sym takes.refused_is)

pub cause : (ending : Result Bool InsertFault) (all : Inserting) (old new : Outside) → InsertEnds ending all old new → Cause ending old new
cause (Ok refused) all old new ends = tt
cause (Err fault.Unreached) all old new ends = ends.unreached.0
cause (Err fault.StoreFault) all old new ends =
    let stops = ends.runs in
    Rose-later old.store.faults stops.mid.hands.store.faults new.store.faults stops.kept.store stops.breaks.0.0
cause (Err fault.OutOfMemory) all old new ends = tt
cause (Err (fault.NoAnswer (BadFrame at))) all old new ends = tt
cause (Err (fault.NoAnswer StreamLimit)) all old new ends = tt
cause (Err (fault.NoAnswer LinkFault)) all old new ends = ends.linked.failed ends.runs.breaks.says.says.1
cause (Err (fault.NoAnswer OutOfMemory)) all old new ends = tt
cause (Err fault.Denied) all old new ends = tt
cause (Err fault.SinkFault) all old new ends =
    let stops = ends.runs in
    sink_rose all (record { number = length stops.before; path = stops.path }) old.sink.faults stops.mid (moment (hands_of ends.left new) ends.given ends.answers) stops.kept.sink stops.breaks
