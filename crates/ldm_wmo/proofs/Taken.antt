-- Items that are taken, by what the calls promise.
use Rattle.std.proofs.Common.{◌≡◌, ◌∙◌, ℕ, ◌≤◌, Bool, List, [], ◌∷◌, ◌++◌, refl, sym, ap, subst, append_assoc, arith}
use Rattle.std.specs.Prelude.{Result, Ok, Err}
use Rattle.ldm_outside.specs.declared.io.SinkFailed.{SinkFailed}
use Rattle.ldm_outside.specs.Clock.{Answers}
use Rattle.ldm_outside.specs.Io.{WritesAll}
use Rattle.ldm_outside.specs.Link.{LinkRecord}
use Rattle.ldm_relay.specs.declared.message.PutAnswer.{PutAnswer}
use Rattle.ldm_tools.specs.declared.put_fault.PutFault.{PutFault}
use Rattle.ldm_tools.specs.Lines.{is_refused}
use Rattle.ldm_tools.specs.Telling.{PutsProduct}
use Rattle.ldm_tools.proofs.Followed as followed
use Rattle.ldm_wmo.specs.Items.{Found, Bulletin, Bad}
use Rattle.ldm_wmo.specs.declared.ingest_fault.IngestFault.{IngestFault}
use Rattle.ldm_wmo.specs.declared.ingest_fault.IngestFault.TheVariants as fault
use Rattle.ldm_wmo.specs.declared.outcome.Outcome.{Outcome}
use Rattle.ldm_wmo.specs.declared.outcome.Outcome.TheVariants as outcome
use Rattle.ldm_wmo.specs.Ingesting.{Ingesting, Report, product_of}
use Rattle.ldm_wmo.specs.IngestLines.{bad_line}
use Rattle.ldm_wmo.specs.Moments.{KeepsMoment, IngestMoment}
use Rattle.ldm_wmo.specs.Outcomes.{Step, Put, Logged, first_of, outcome_in, outcome_of, then_of}
use Rattle.ldm_wmo.specs.Parts.{Hands, KeepsHands, SentBy, Sends, TakesFrom, TakesSome, moment_of, putting_of, result_of}
use Rattle.ldm_wmo.specs.IngestTaking.{AreTaken, Breaks}

-- ---- counts

pub hands_same : (hands : Hands) → KeepsHands hands hands
hands_same hands = record { ends = omega arith; faults = omega arith; sink = omega arith; log = omega arith }

pub hands_then : (old mid new : Hands) → KeepsHands old mid → KeepsHands mid new → KeepsHands old new
hands_then old mid new one other = record {
  ends = (let a = one.ends in let b = other.ends in omega arith);
  faults = (let a = one.faults in let b = other.faults in omega arith);
  sink = (let a = one.sink in let b = other.sink in omega arith);
  log = (let a = one.log in let b = other.log in omega arith);
}

moment_same : (m : IngestMoment) → KeepsMoment m m
moment_same m = record { ends = omega arith; faults = omega arith; sink = omega arith; log = omega arith }

pub moment_then : (old mid new : IngestMoment) → KeepsMoment old mid → KeepsMoment mid new → KeepsMoment old new
moment_then old mid new one other = record {
  ends = (let a = one.ends in let b = other.ends in omega arith);
  faults = (let a = one.faults in let b = other.faults in omega arith);
  sink = (let a = one.sink in let b = other.sink in omega arith);
  log = (let a = one.log in let b = other.log in omega arith);
}

pub of_hands : (old new : Hands) (given new_given : List ℕ) (answers new_answers : List PutAnswer) → KeepsHands old new
    → KeepsMoment (moment_of old given answers) (moment_of new new_given new_answers)
of_hands old new given new_given answers new_answers kept = record { ends = kept.ends; faults = kept.faults; sink = kept.sink; log = kept.log }

-- ---- what was met first

pub then_clean : (met : Outcome) → then_of met outcome.Clean ≡ met
then_clean outcome.Clean = refl
then_clean outcome.Bad = refl
then_clean outcome.Refused = refl

then_more : (a b c : Outcome) → then_of (then_of a b) c ≡ then_of a (then_of b c)
then_more outcome.Clean b c = refl
then_more outcome.Bad b c = refl
then_more outcome.Refused b c = refl

pub first_append : (a b : List Step) → first_of (a ++ b) ≡ then_of (first_of a) (first_of b)
first_append [] b = refl
first_append (step ∷ a) b = ap (then_of (outcome_in step)) (first_append a b) ∙ sym (then_more (outcome_in step) (first_of a) (first_of b))

module _ (all : Ingesting) where
  -- ---- items one after another

  pub taken_append : (a b : List Found) (steps more : List Step) (old mid new : IngestMoment) → AreTaken all a steps old mid → AreTaken all b more mid new
      → AreTaken all (a ++ b) (steps ++ more) old new
  taken_append [] b [] more old mid new one other = let P : IngestMoment → Type 0 = λ m. AreTaken all b more m new in subst P one other
  taken_append [] b (step ∷ steps) more old mid new one other = absurd one
  taken_append (item ∷ a) b [] more old mid new one other = absurd one
  taken_append (item ∷ a) b (step ∷ steps) more old mid new one other = (one.0, one.1, taken_append a b steps more one.0 mid new one.2 other)

  -- why a run ends at an item, to one who looks at the link from its beginning
  pub breaks_from : (why : IngestFault) (item : Found) (came now : LinkRecord) (old new : IngestMoment) → came.ends ≤ now.ends → came.faults ≤ now.faults → Breaks why all item now old new
      → Breaks why all item came old new
  breaks_from (fault.Put why) (Bulletin at seqno heading bytes) came now old new ends faults breaks = record {
    arrival = breaks.arrival;
    asked = breaks.asked;
    breaks = followed.breaks_from why (product_of all (record { seqno = seqno; heading = heading; bytes = bytes }) breaks.arrival) came now old.wire new.wire ends faults breaks.breaks;
    log = breaks.log;
  }
  breaks_from (fault.Put why) (Bad at) came now old new ends faults breaks = absurd breaks
  breaks_from fault.LogFault (Bulletin at seqno heading bytes) came now old new ends faults breaks = absurd breaks
  breaks_from fault.LogFault (Bad at) came now old new ends faults breaks = breaks
  breaks_from fault.Unreached item came now old new ends faults breaks = absurd breaks
  breaks_from fault.SourceFault item came now old new ends faults breaks = absurd breaks
  breaks_from fault.StreamLimit item came now old new ends faults breaks = absurd breaks
  breaks_from fault.OutOfMemory item came now old new ends faults breaks = absurd breaks

  -- ---- none, some, and some more

  pub none : (hands : Hands) → TakesSome (Ok outcome.Clean) all [] hands hands
  none hands = λ given answers has. ([], given, answers, refl, has, refl)

  pub some_then : (met behind : Outcome) (a b : List Found) (old mid new : Hands) → TakesSome (Ok met) all a old mid → TakesSome (Ok behind) all b mid new
      → TakesSome (Ok (then_of met behind)) all (a ++ b) old new
  some_then met behind a b old mid new one other = λ given answers has.
      let f = one given answers has in
      let s = other f.1 f.2 f.4 in (
        f.0 ++ s.0,
        s.1,
        s.2,
        taken_append a b f.0 s.0 (moment_of old given answers) (moment_of mid f.1 f.2) (moment_of new s.1 s.2) f.3 s.3,
        s.4,
        ap (λ (m : Outcome). then_of m behind) f.5 ∙ ap (then_of (first_of f.0)) s.5 ∙ sym (first_append f.0 s.0),
      )

  -- the run ended at one of these, behind those, and others would have come
  pub some_broken : (met : Outcome) (why : IngestFault) (a b c : List Found) (old mid new : Hands) → TakesSome (Ok met) all a old mid → KeepsHands old mid
      → TakesSome (Err why) all b mid new → TakesSome (Err why) all (a ++ (b ++ c)) old new
  some_broken met why a b c old mid new one kept other = λ given answers has.
      let f = one given answers has in
      let s = other f.1 f.2 f.4 in
      let at = s.2 in
      let before = moment_of old given answers in
      let there = moment_of mid f.1 f.2 in
      let went = of_hands old mid given f.1 answers f.2 kept in (
        s.0,
        s.1,
        record {
          before = a ++ at.before;
          item = at.item;
          behind = at.behind ++ c;
          items_are = ap (λ (x : List Found). a ++ (x ++ c)) at.items_are ∙ ap (λ (x : List Found). a ++ x) (append_assoc at.before (at.item ∷ at.behind) c)
              ∙ sym (append_assoc a at.before (at.item ∷ (at.behind ++ c)));
          steps = f.0 ++ at.steps;
          mid = at.mid;
          each = taken_append a at.before f.0 at.steps before there at.mid f.3 at.each;
          kept = moment_then before there at.mid went at.kept;
          breaks = breaks_from why at.item old.link mid.link at.mid (moment_of new s.0 s.1) kept.ends kept.faults at.breaks;
        },
      )

  -- ---- one item

  pub bad_told : (at : ℕ) (old new : Hands) → WritesAll (Ok tt) (bad_line at) old.log new.log → new ≡ record old { log = new.log } → TakesSome (Ok outcome.Bad) all (Bad at ∷ []) old new
  bad_told at old new written same = λ given answers has.
      let P : Hands → Type 0 = λ h. TakesFrom (Ok outcome.Bad) all (Bad at ∷ []) h (moment_of old given answers) in
      subst P (sym same)
      (Logged ∷ [], given, answers, (moment_of (record old { log = new.log }) given answers, record { written = written; same = refl }, refl), has, refl)

  pub bad_broken : (failed : SinkFailed) (at : ℕ) (old new : Hands) → WritesAll (Err failed) (bad_line at) old.log new.log → new ≡ record old { log = new.log }
      → TakesSome (Err fault.LogFault) all (Bad at ∷ []) old new
  bad_broken failed at old new written same = λ given answers has. (
    given,
    answers,
    record {
      before = [];
      item = Bad at;
      behind = [];
      items_are = refl;
      steps = [];
      mid = moment_of old given answers;
      each = refl;
      kept = moment_same (moment_of old given answers);
      breaks = record { rose = written.0; front = written.1; same = ap (λ (h : Hands). moment_of h given answers) same };
    },
  )

  abbrev sent_of : Hands → SentBy
  sent_of hands = record { puts = hands.puts; link = hands.link; sink = hands.sink; clock = hands.clock }

  module _ (at seqno : ℕ) (heading bytes : List ℕ) (old new : Hands) (same : new.log ≡ old.log) where
    abbrev report : Report
    report = record { seqno = seqno; heading = heading; bytes = bytes }

    put_told : (arrival : ℕ) (asked : Answers arrival old.clock new.clock) (put : Result Bool PutFault)
        → PutsProduct put (product_of all report arrival) (putting_of (sent_of old)) (putting_of (sent_of new)) → TakesSome (result_of put) all (Bulletin at seqno heading bytes ∷ []) old new
    put_told arrival asked (Ok refused) puts = λ given answers has.
        let t = puts given answers has in (
          Put arrival t.0 ∷ [],
          t.1,
          answers ++ t.0 ∷ [],
          (moment_of new t.1 (answers ++ t.0 ∷ []), record { asked = asked; told = t.2; log = same }, refl),
          t.3,
          ap outcome_of t.4 ∙ sym (then_clean (outcome_of (is_refused t.0))),
        )
    put_told arrival asked (Err why) puts = λ given answers has.
        let t = puts given answers has in (
          t.0,
          t.1,
          record {
            before = [];
            item = Bulletin at seqno heading bytes;
            behind = [];
            items_are = refl;
            steps = [];
            mid = moment_of old given answers;
            each = refl;
            kept = moment_same (moment_of old given answers);
            breaks = record { arrival = arrival; asked = asked; breaks = t.2; log = same };
          },
        )

    pub bulletin_told : (result : Result Outcome IngestFault) → Sends result all report (sent_of old) (sent_of new) → TakesSome result all (Bulletin at seqno heading bytes ∷ []) old new
    bulletin_told result sends =
        let P : Result Outcome IngestFault → Type 0 = λ r. TakesSome r all (Bulletin at seqno heading bytes ∷ []) old new in
        subst P (sym sends.result_is) (put_told sends.arrival sends.asked sends.put sends.puts)
