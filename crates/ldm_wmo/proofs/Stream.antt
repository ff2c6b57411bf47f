-- A stream that is taken piece by piece.
use Rattle.std.proofs.Common.{◌≡◌, ◌∙◌, ℕ, ◌+◌, ◌<◌, true, List, [], ◌∷◌, ◌++◌, length, Option, Some, None, inl, inr, refl, sym, ap, subst, append_assoc, arith}
use Rattle.std.specs.Prelude.{Result, Ok, Err}
use Rattle.std.proofs.lemmas.List.{append-nil, length-append}
use Rattle.ldm_outside.specs.Io.{Gives, SinkRecord}
use Rattle.ldm_relay.specs.declared.message.PutAnswer.{PutAnswer}
use Rattle.ldm_session.specs.declared.limits.TheConstants.{LONGEST_STREAM}
use Rattle.ldm_status.specs.Streams.{AtEnd}
use Rattle.ldm_tools.specs.declared.puts.Puts.{Puts}
use Rattle.ldm_tools.specs.Puts.{HasPut}
use Rattle.ldm_wmo.specs.Scanning.{Scanning, begun, cut_of, is_lost}
use Rattle.ldm_wmo.specs.Streams.{in_hand, items_in}
use Rattle.ldm_wmo.proofs.Joined.{in_hand-append}
use Rattle.ldm_wmo.specs.declared.ingest_fault.IngestFault.{IngestFault}
use Rattle.ldm_wmo.specs.declared.ingest_fault.IngestFault.TheVariants as fault
use Rattle.ldm_wmo.specs.declared.outcome.Outcome.{Outcome}
use Rattle.ldm_wmo.specs.declared.outcome.Outcome.TheVariants as outcome
use Rattle.ldm_wmo.specs.Ingesting.{Ingesting}
use Rattle.ldm_wmo.specs.Moments.{Span}
use Rattle.ldm_wmo.specs.Outcomes.{Step, cut_outcome, first_of, then_of}
use Rattle.ldm_wmo.specs.Parts.{Hands, KeepsOver, Over, RunsFrom, TakesSome, TellsCut, finished, span_over}
use Rattle.ldm_wmo.specs.Runs.{AreTurns, IsTurn, LogsCut, Runs, SourceFails, StopsAt, Takes, Turn, bytes_of, steps_of}
use Rattle.ldm_wmo.specs.IngestTaking.{AreTaken, BreaksAt}
use Rattle.ldm_wmo.proofs.Lost.{lost_cut, over_end, over_lost}
use Rattle.ldm_wmo.proofs.Taken.{breaks_from, first_append, then_clean}

pub over_same : (over : Over) → KeepsOver over over
over_same over = record { source = omega arith; ends = omega arith; faults = omega arith; sink = omega arith; log = omega arith }

pub over_then : (old mid new : Over) → KeepsOver old mid → KeepsOver mid new → KeepsOver old new
over_then old mid new one other = record {
  source = (let a = one.source in let b = other.source in omega arith);
  ends = (let a = one.ends in let b = other.ends in omega arith);
  faults = (let a = one.faults in let b = other.faults in omega arith);
  sink = (let a = one.sink in let b = other.sink in omega arith);
  log = (let a = one.log in let b = other.log in omega arith);
}

abbrev pub hands_over : Puts → Over → Hands
hands_over puts over = record { puts = puts; link = over.link; sink = over.sink; log = over.log; clock = over.clock }

bytes_push : (turns : List Turn) (turn : Turn) → bytes_of (turns ++ turn ∷ []) ≡ bytes_of turns ++ turn.piece
bytes_push [] turn = append-nil turn.piece
bytes_push (first ∷ turns) turn = ap (λ (x : List ℕ). first.piece ++ x) (bytes_push turns turn) ∙ sym (append_assoc first.piece (bytes_of turns) turn.piece)

steps_push : (turns : List Turn) (turn : Turn) → steps_of (turns ++ turn ∷ []) ≡ steps_of turns ++ turn.steps
steps_push [] turn = append-nil turn.steps
steps_push (first ∷ turns) turn = ap (λ (x : List Step). first.steps ++ x) (steps_push turns turn) ∙ sym (append_assoc first.steps (steps_of turns) turn.steps)

module _ (all : Ingesting) where
  turns_push : (seen : List ℕ) (turns : List Turn) (turn : Turn) (old mid new : Span) → AreTurns all seen turns old mid → IsTurn all (seen ++ bytes_of turns) turn mid new
      → AreTurns all seen (turns ++ turn ∷ []) old new
  turns_push seen [] turn old mid new each is =
      let P : Span → Type 0 = λ s. IsTurn all seen turn s new in
      let Q : List ℕ → Type 0 = λ x. IsTurn all x turn mid new in
      (new, subst P each (subst Q (append-nil seen) is), refl)
  turns_push seen (first ∷ turns) turn old mid new each is =
      let Q : List ℕ → Type 0 = λ x. IsTurn all x turn mid new in
      (each.0, each.1, turns_push (seen ++ first.piece) turns turn each.0 mid new each.2 (subst Q (sym (append_assoc seen first.piece (bytes_of turns))) is))

  -- Pieces were read and their items taken, and this is in hand.
  pub record Goes (met : Outcome) (scanner : Scanning) (puts : Puts) (came : ℕ) (old new : Over) : Type 0 where
    pub given : List ℕ
    pub answers : List PutAnswer
    pub turns : List Turn
    pub each : AreTurns all [] turns (span_over old [] []) (span_over new given answers)
    pub has : HasPut given answers puts
    pub hand : scanner ≡ in_hand (begun all.framing) (bytes_of turns)
    pub met_is : met ≡ first_of (steps_of turns)
    pub came_is : came ≡ length (bytes_of turns)

  pub goes_first : (scanner : Scanning) (puts : Puts) (over : Over) → HasPut [] [] puts → scanner ≡ begun all.framing → Goes outcome.Clean scanner puts 0 over over
  unfolding in_hand
  goes_first scanner puts over has is = record { given = []; answers = []; turns = []; each = refl; has = has; hand = is; met_is = refl; came_is = refl }

  pub goes_on : (met behind : Outcome) (scanner new_scanner : Scanning) (puts new_puts : Puts) (came : ℕ) (piece : List ℕ) (old mid new : Over) → Goes met scanner puts came old mid
      → 0 < length piece → Gives mid.source piece new.source → TakesSome (Ok behind) all (items_in scanner piece) (hands_over puts mid) (hands_over new_puts new)
      → new_scanner ≡ in_hand scanner piece → Goes (then_of met behind) new_scanner new_puts (came + length piece) old new
  goes_on met behind scanner new_scanner puts new_puts came piece old mid new goes some read takes is =
      let t = takes goes.given goes.answers goes.has in
      let turn : Turn = record { piece = piece; steps = t.0 } in
      let before = span_over mid goes.given goes.answers in
      let there = span_over new t.1 t.2 in
      let P : Scanning → Type 0 = λ s. AreTaken all (items_in s piece) t.0 before.moment there.moment in
      let taken : IsTurn all (bytes_of goes.turns) turn before there = record { some = some; read = read; taken = subst P goes.hand t.3 } in
      record {
        given = t.1;
        answers = t.2;
        turns = goes.turns ++ turn ∷ [];
        each = turns_push [] goes.turns turn (span_over old [] []) before there goes.each taken;
        has = t.4;
        hand = is ∙ ap (λ (s : Scanning). in_hand s piece) goes.hand ∙ sym (in_hand-append (begun all.framing) (bytes_of goes.turns) piece) ∙ ap (in_hand (begun all.framing)) (sym (bytes_push goes.turns turn));
        met_is = ap (λ (m : Outcome). then_of m behind) goes.met_is ∙ ap (then_of (first_of (steps_of goes.turns))) t.5 ∙ sym (first_append (steps_of goes.turns) t.0)
            ∙ ap first_of (sym (steps_push goes.turns turn));
        came_is = (let n = goes.came_is in omega (arith, ap length (bytes_push goes.turns turn), length-append (bytes_of goes.turns) piece));
      }

  -- ---- ends

  module _ (met : Outcome) (scanner : Scanning) (puts : Puts) (came : ℕ) (old mid : Over) (goes : Goes met scanner puts came old mid) (kept : KeepsOver old mid) (short : came < LONGEST_STREAM) where
    so_far : Takes all goes.turns (span_over old [] []) (span_over mid goes.given goes.answers)
    so_far = record {
      each = goes.each;
      kept = record { source = kept.source; moment = record { ends = kept.ends; faults = kept.faults; sink = kept.sink; log = kept.log } };
      short = (let n = goes.came_is in omega (arith, short));
    }

    pub source_failed : (new : Over) → SourceFails mid.source new.source → new ≡ record mid { source = new.source } → RunsFrom (Err fault.SourceFault) all old new
    source_failed new fails same = record {
      given = goes.given;
      answers = goes.answers;
      runs = record {
        turns = goes.turns;
        mid = span_over mid goes.given goes.answers;
        takes = so_far;
        stops_so = fails;
        same = ap (λ (o : Over). (span_over o goes.given goes.answers).moment) same;
      };
    }

    cut_logged : (behind : Outcome) (cut : Option ℕ) (new : Over) → TellsCut (Ok behind) cut mid.log new.log → new ≡ record mid { source = new.source; log = new.log }
        → LogsCut cut (span_over mid goes.given goes.answers).moment (span_over new goes.given goes.answers).moment
    cut_logged behind None new tells same =
        ap (λ (o : Over). (span_over o goes.given goes.answers).moment) (same ∙ ap (λ (l : SinkRecord). record mid { source = new.source; log = l }) tells.1)
    cut_logged behind (Some at) new tells same = record { written = tells.1; same = ap (λ (o : Over). (span_over o goes.given goes.answers).moment) same }

    cut_met : (behind : Outcome) (cut : Option ℕ) (new : Over) → TellsCut (Ok behind) cut mid.log new.log → behind ≡ cut_outcome cut
    cut_met behind None new tells = tells.0
    cut_met behind (Some at) new tells = tells.0

    pub ended : (behind : Outcome) (new : Over) → AtEnd mid.source new.source → new.source.left ≡ mid.source.left → TellsCut (Ok behind) (cut_of scanner) mid.log new.log
        → new ≡ record mid { source = new.source; log = new.log } → RunsFrom (Ok (then_of met behind)) all old new
    ended behind new at_end left tells same =
        let P : Scanning → Type 0 = λ s. LogsCut (cut_of s) (span_over mid goes.given goes.answers).moment (span_over new goes.given goes.answers).moment in
        let cut = cut_met behind (cut_of scanner) new tells ∙ ap (λ (s : Scanning). cut_outcome (cut_of s)) goes.hand in
        record {
          given = goes.given;
          answers = goes.answers;
          runs = record {
            turns = goes.turns;
            mid = span_over mid goes.given goes.answers;
            takes = so_far;
            at_end = over_end all.framing (bytes_of goes.turns) mid.source new.source at_end;
            left = left;
            cut = subst P goes.hand (cut_logged behind (cut_of scanner) new tells same);
            outcome_is = ap (λ (m : Outcome). then_of m behind) goes.met_is ∙ ap (then_of (first_of (steps_of goes.turns))) cut;
          };
        }

    cut_broken : (why : IngestFault) (cut : Option ℕ) (new : Over) → cut ≡ cut_of (in_hand (begun all.framing) (bytes_of goes.turns)) → TellsCut (Err why) cut mid.log new.log
        → AtEnd mid.source new.source → new ≡ record mid { source = new.source; log = new.log } → RunsFrom (Err why) all old new
    cut_broken fault.LogFault None new is tells at_end same = absurd tells
    cut_broken fault.LogFault (Some at) new is tells at_end same = record {
      given = goes.given;
      answers = goes.answers;
      runs = inr (record {
        turns = goes.turns;
        mid = span_over mid goes.given goes.answers;
        takes = so_far;
        at_end = at_end;
        at = at;
        cut = sym is;
        breaks = record { rose = tells.0; front = tells.1; same = ap (λ (o : Over). (span_over o goes.given goes.answers).moment) same };
      });
    }
    cut_broken fault.Unreached cut new is tells at_end same = absurd tells
    cut_broken fault.SourceFault cut new is tells at_end same = absurd tells
    cut_broken fault.StreamLimit cut new is tells at_end same = absurd tells
    cut_broken fault.OutOfMemory cut new is tells at_end same = absurd tells
    cut_broken (fault.Put why) cut new is tells at_end same = absurd tells

    pub end_untold : (why : IngestFault) (new : Over) → AtEnd mid.source new.source → TellsCut (Err why) (cut_of scanner) mid.log new.log
        → new ≡ record mid { source = new.source; log = new.log } → RunsFrom (Err why) all old new
    end_untold why new at_end tells same = cut_broken why (cut_of scanner) new (ap cut_of goes.hand) tells at_end same

    pub end_told : (told : Result Outcome IngestFault) (new : Over) → AtEnd mid.source new.source → new.source.left ≡ mid.source.left → TellsCut told (cut_of scanner) mid.log new.log
        → new ≡ record mid { source = new.source; log = new.log } → RunsFrom (finished met told) all old new
    end_told (Ok behind) new at_end left tells same = ended behind new at_end left tells same
    end_told (Err why) new at_end left tells same = end_untold why new at_end tells same

    -- no more is read behind a frame that is none
    pub lost_ended : is_lost scanner ≡ true → RunsFrom (Ok met) all old mid
    lost_ended lost =
        let there = in_hand (begun all.framing) (bytes_of goes.turns) in
        let gone : is_lost there ≡ true = ap is_lost (sym goes.hand) ∙ lost in
        let none : cut_of there ≡ None = lost_cut there gone in
        let P : Option ℕ → Type 0 = λ cut. LogsCut cut (span_over mid goes.given goes.answers).moment (span_over mid goes.given goes.answers).moment in
        record {
          given = goes.given;
          answers = goes.answers;
          runs = record {
            turns = goes.turns;
            mid = span_over mid goes.given goes.answers;
            takes = so_far;
            at_end = over_lost all.framing (bytes_of goes.turns) mid.source gone;
            left = refl;
            cut = subst P (sym none) refl;
            outcome_is = goes.met_is ∙ sym (then_clean (first_of (steps_of goes.turns))) ∙ ap (λ (cut : Option ℕ). then_of (first_of (steps_of goes.turns)) (cut_outcome cut)) (sym none);
          };
        }

    -- the run ended at an item of a piece
    broken_at : (why : IngestFault) (piece : List ℕ) (new : Over) (given : List ℕ) (answers : List PutAnswer) → Gives mid.source piece new.source
        → BreaksAt why all (items_in scanner piece) mid.link (span_over mid goes.given goes.answers).moment (span_over new given answers).moment
        → StopsAt why all (span_over old [] []) (span_over new given answers)
    broken_at why piece new given answers read at =
        let here = (span_over mid goes.given goes.answers).moment in
        let there = (span_over new given answers).moment in
        let lifted : BreaksAt why all (items_in scanner piece) old.link here there = record {
          before = at.before;
          item = at.item;
          behind = at.behind;
          items_are = at.items_are;
          steps = at.steps;
          mid = at.mid;
          each = at.each;
          kept = at.kept;
          breaks = breaks_from all why at.item old.link mid.link at.mid there kept.ends kept.faults at.breaks;
        } in
        let P : Scanning → Type 0 = λ s. BreaksAt why all (items_in s piece) old.link here there in
        record { turns = goes.turns; mid = span_over mid goes.given goes.answers; takes = so_far; piece = piece; read = read; breaks = subst P goes.hand lifted }

    by_fault : (why : IngestFault) (new : Span) → StopsAt why all (span_over old [] []) new → Runs (Err why) all (span_over old [] []) new
    by_fault (fault.Put why) new stops = stops
    by_fault fault.LogFault new stops = inl stops
    by_fault fault.Unreached new stops = absurd stops.breaks.breaks
    by_fault fault.SourceFault new stops = absurd stops.breaks.breaks
    by_fault fault.StreamLimit new stops = absurd stops.breaks.breaks
    by_fault fault.OutOfMemory new stops = absurd stops.breaks.breaks

    pub item_broken : (why : IngestFault) (piece : List ℕ) (new_puts : Puts) (new : Over) → Gives mid.source piece new.source
        → TakesSome (Err why) all (items_in scanner piece) (hands_over puts mid) (hands_over new_puts new) → RunsFrom (Err why) all old new
    item_broken why piece new_puts new read takes =
        let t = takes goes.given goes.answers goes.has in
        record { given = t.0; answers = t.1; runs = by_fault why (span_over new t.0 t.1) (broken_at why piece new t.0 t.1 read t.2) }

  -- as many bytes came as are taken of a stream
  pub limited : (met : Outcome) (scanner : Scanning) (puts : Puts) (came : ℕ) (old new : Over) → Goes met scanner puts came old new → came ≡ LONGEST_STREAM
      → RunsFrom (Err fault.StreamLimit) all old new
  limited met scanner puts came old new goes all_came =
      record { given = goes.given; answers = goes.answers; runs = record { turns = goes.turns; each = goes.each; most = sym goes.came_is ∙ all_came } }

  pub no_memory : (over : Over) → RunsFrom (Err fault.OutOfMemory) all over over
  no_memory over = record { given = []; answers = []; runs = refl }
