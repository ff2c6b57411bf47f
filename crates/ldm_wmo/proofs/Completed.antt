-- Where nothing fails and the replies that are owed come, the run ends as the stream and the answers say.
use Rattle.std.proofs.Common.{◌≡◌, ◌∙◌, ◌⊎◌, ℕ, ◌<◌, Bool, false, cond, List, [], ◌∷◌, ◌++◌, length, Option, Some, None, IfSome, inl, inr, refl, sym, ap, subst, append_assoc, arith}
use Rattle.std.specs.Prelude.{Result, Ok, Err, option_map}
use Rattle.std.proofs.lemmas.List.{append-nil, length-append}
use Rattle.ldm_outside.specs.Count.{Rose}
use Rattle.ldm_outside.specs.Io.{Gives, SourceRecord}
use Rattle.ldm_outside.specs.Link.{LinkRecord}
use Rattle.ldm_outside.proofs.CallerLemmas.{Rose-later}
use Rattle.ldm_relay.specs.declared.message.PutAnswer.{PutAnswer}
use Rattle.ldm_session.specs.declared.limits.TheConstants.{LONGEST_STREAM}
use Rattle.ldm_tools.specs.declared.no_reply.NoReply.{NoReply}
use Rattle.ldm_tools.specs.declared.no_reply.NoReply.TheVariants as no_reply
use Rattle.ldm_tools.specs.declared.put_fault.PutFault.{PutFault}
use Rattle.ldm_tools.specs.declared.put_fault.PutFault.TheVariants as put_fault
use Rattle.ldm_tools.specs.Owing.{AreOwed, are_denied}
use Rattle.ldm_tools.proofs.Followed.{followed, from_start, nothing_heard, told_all, told_denied, told_no_answer}
use Rattle.ldm_wmo.specs.declared.framing.Framing.{Framing}
use Rattle.ldm_wmo.specs.declared.framing.Framing.TheVariants.{Line, Socket}
use Rattle.ldm_wmo.specs.Items.{Found, Bulletin, Bad}
use Rattle.ldm_wmo.specs.Streams.{cut_at_end, items_of}
use Rattle.ldm_wmo.specs.declared.ingest_fault.IngestFault.{IngestFault}
use Rattle.ldm_wmo.specs.declared.ingest_fault.IngestFault.TheVariants as fault
use Rattle.ldm_wmo.specs.declared.outcome.Outcome.{Outcome}
use Rattle.ldm_wmo.specs.Ingesting.{Ingesting, Report, product_of, reports_of}
use Rattle.ldm_wmo.specs.Moments.{KeepsMoment, IngestMoment, Outside, Span, span_of}
use Rattle.ldm_wmo.specs.Outcomes.{Step, cut_outcome, owed_of, then_of}
use Rattle.ldm_wmo.specs.Owing.{Completes, IsNoMemory, IsServed, NoneRose, ending_owed}
use Rattle.ldm_wmo.specs.Runs.{BreaksCut, IsOver, Runs, SourceFails, StopsAt, StopsReading, TakesAll, TakesMost, bytes_of, items_behind, steps_of}
use Rattle.ldm_wmo.specs.IngestTaking.{AreTaken, Breaks, BreaksPut}
use Rattle.ldm_wmo.specs.Told.{answers_of, products_of}
use Rattle.ldm_wmo.proofs.Lost.{SameFound, lost_found}
use Rattle.ldm_wmo.proofs.Taken.{moment_then, taken_append}
use Rattle.ldm_wmo.proofs.Whole.{items_joined, projected, whole}

-- ---- what the source gave

-- what is given of all that is left is a front of it
front_of : (left : Option (List ℕ)) (bytes given : List ℕ) → Some bytes ≡ option_map (λ rest. given ++ rest) left → (rest : List ℕ) × (left ≡ Some rest) × (bytes ≡ given ++ rest)
front_of None bytes given is = cc
front_of (Some rest) bytes given is = (rest, refl, cc)

left_none : (left : Option (List ℕ)) (rest : List ℕ) → left ≡ Some rest → IfSome left (λ r. r ≡ []) → rest ≡ []
left_none None rest is none = cc
left_none (Some r) rest is none =
    let same : r ≡ rest = cc in
    sym same ∙ none

all_given : (bytes given : List ℕ) (old mid new : SourceRecord) → old.left ≡ Some bytes → Gives old given mid → new.left ≡ mid.left → IfSome new.left (λ r. r ≡ []) → bytes ≡ given
all_given bytes given old mid new left gives same nothing =
    let f = front_of mid.left bytes given (sym left ∙ gives) in
    let none = left_none new.left f.0 (same ∙ f.1) nothing in
    f.2 ∙ ap (λ (x : List ℕ). given ++ x) none ∙ append-nil given

-- What is found in all that is left is what is found in what was given: since that is all, or since nothing is found behind it.
same_all : (framing : Framing) (bytes given : List ℕ) → bytes ≡ given → SameFound framing bytes given
same_all framing bytes given is = record { items = ap (items_of framing) is; cut = ap (cut_at_end framing) is }

over_found : (framing : Framing) (bytes given : List ℕ) (old mid new : SourceRecord) → old.left ≡ Some bytes → Gives old given mid → new.left ≡ mid.left → IsOver framing given mid new
    → SameFound framing bytes given
over_found Line bytes given old mid new left gives same over = same_all Line bytes given (all_given bytes given old mid new left gives same over.1)
over_found Socket bytes given old mid new left gives same (inl at_end) =
    same_all Socket bytes given (all_given bytes given old mid new left gives same at_end.1)
over_found Socket bytes given old mid new left gives same (inr lost) =
    let f = front_of mid.left bytes given (sym left ∙ gives) in
    let P : List ℕ → Type 0 = λ b. SameFound Socket b given in
    subst P (sym f.2) (lost_found Socket given f.0 lost.0)

-- the bulletins of more items are more
reports_append : (a b : List Found) → reports_of (a ++ b) ≡ reports_of a ++ reports_of b
reports_append [] b = refl
reports_append (Bulletin at seqno heading bytes ∷ a) b = ap (λ (r : List Report). record { seqno = seqno; heading = heading; bytes = bytes } ∷ r) (reports_append a b)
reports_append (Bad at ∷ a) b = reports_append a b

module _ (all : Ingesting) (came left : LinkRecord) (old new : Outside) (given : List ℕ) (answers : List PutAnswer) where
  abbrev first : Span
  first = span_of came old [] []

  abbrev last : Span
  last = span_of left new given answers

  -- ---- all was taken

  taken_all : (met : Outcome) → TakesAll met all first last → Completes (Ok met) all.framing came old new
  taken_all met takes = λ bytes stream owed served none.
      let same : SameFound all.framing bytes (bytes_of takes.turns) =
      over_found all.framing bytes (bytes_of takes.turns) first.source takes.mid.source last.source served.source (whole all takes.turns first takes.mid takes.takes.each).read takes.left takes.at_end in
      let w = whole all takes.turns first takes.mid takes.takes.each in
      let steps = steps_of takes.turns in
      let items = items_of all.framing (bytes_of takes.turns) in
      let p = projected all items steps first.moment takes.mid.moment w.taken in
      let R : List Found → Type 0 = λ i. AreOwed (reports_of i) owed in
      let heard : owed ≡ answers_of steps =
      told_all (reports_of items) stream owed (products_of all items steps) (answers_of steps) first.moment.wire takes.mid.moment.wire (refl, refl) served.link served.says
      (subst R same.items served.owed) (sym p.count) p.told in
      let f = followed stream (products_of all items steps) (answers_of steps) first.moment.wire takes.mid.moment.wire p.told (from_start stream came served.link) nothing_heard in
      let quiet : are_denied owed ≡ false = ap are_denied heard ∙ f.none in
      let O : List PutAnswer → Outcome = λ a. then_of (owed_of (items_of all.framing bytes) a) (cut_outcome (cut_at_end all.framing bytes)) in
      let there : met ≡ O owed =
      takes.outcome_is ∙ ap (λ (m : Outcome). then_of m (cut_outcome (cut_at_end all.framing (bytes_of takes.turns)))) (sym p.owed)
      ∙ ap (λ (i : List Found). then_of (owed_of i (answers_of steps)) (cut_outcome (cut_at_end all.framing (bytes_of takes.turns)))) (sym same.items)
      ∙ ap (λ (c : Option ℕ). then_of (owed_of (items_of all.framing bytes) (answers_of steps)) (cut_outcome c)) (sym same.cut) ∙ ap O (sym heard) in
      let ends : Result Outcome IngestFault = Ok (O owed) in
      let denial : Result Outcome IngestFault = Err (fault.Put put_fault.Denied) in
      let is : Ok met ≡ ends = ap (λ (m : Outcome). let r : Result Outcome IngestFault = Ok m in r) there in
      inl (is ∙ ap (λ (b : Bool). cond b denial ends) (sym quiet))

  -- ---- the run ended at a bulletin

  -- what was taken before it
  record Before (bytes : List ℕ) (item : Found) (mid : IngestMoment) : Type 0 where
    pub items : List Found
    pub steps : List Step
    pub behind : List Found
    pub items_are : items_of all.framing bytes ≡ items ++ (item ∷ behind)
    pub taken : AreTaken all items steps first.moment mid

  more_items : (seen rest : List ℕ) → items_of all.framing (seen ++ rest) ≡ items_of all.framing seen ++ items_behind all.framing seen rest
  more_items seen rest = items_joined all.framing seen rest

  before : (why : IngestFault) (bytes : List ℕ) → first.source.left ≡ Some bytes → (stops : StopsAt why all first last) → Before bytes stops.breaks.item stops.breaks.mid
  before why bytes is stops =
      let w = whole all stops.turns first stops.mid stops.takes.each in
      let at = stops.breaks in
      let seen = bytes_of stops.turns in
      let f = front_of stops.mid.source.left bytes seen (sym is ∙ w.read) in
      let g = front_of last.source.left f.0 stops.piece (sym f.1 ∙ stops.read) in
      let rest = g.0 in
      let whole_is : bytes ≡ (seen ++ stops.piece) ++ rest = f.2 ∙ ap (λ (x : List ℕ). seen ++ x) g.2 ∙ sym (append_assoc seen stops.piece rest) in
      let tail : List Found = items_behind all.framing (seen ++ stops.piece) rest in
      record {
        items = items_of all.framing seen ++ at.before;
        steps = steps_of stops.turns ++ at.steps;
        behind = at.behind ++ tail;
        items_are = ap (items_of all.framing) whole_is ∙ more_items (seen ++ stops.piece) rest ∙ ap (λ (x : List Found). x ++ tail) (more_items seen stops.piece)
            ∙ ap (λ (x : List Found). (items_of all.framing seen ++ x) ++ tail) at.items_are ∙ append_assoc (items_of all.framing seen) (at.before ++ at.item ∷ at.behind) tail
            ∙ ap (λ (x : List Found). items_of all.framing seen ++ x) (append_assoc at.before (at.item ∷ at.behind) tail) ∙ sym (append_assoc (items_of all.framing seen) at.before (at.item ∷ (at.behind ++ tail)));
        taken = taken_append all (items_of all.framing seen) at.before (steps_of stops.turns) at.steps first.moment stops.mid.moment at.mid w.taken at.each;
      }

  fewer : (bytes : List ℕ) (at seqno : ℕ) (heading text : List ℕ) (mid : IngestMoment) → (b : Before bytes (Bulletin at seqno heading text) mid)
      → length (products_of all b.items b.steps) < length (reports_of (items_of all.framing bytes))
  fewer bytes at seqno heading text mid b =
      let p = projected all b.items b.steps first.moment mid b.taken in
      let count = ap (λ (i : List Found). length (reports_of i)) b.items_are in
      let joined = ap (λ (r : List Report). length r) (reports_append b.items (Bulletin at seqno heading text ∷ b.behind)) in
      let parts = length-append (reports_of b.items) (reports_of (Bulletin at seqno heading text ∷ b.behind)) in
      omega (arith, p.count, count, joined, parts)

  denied_put : (bytes stream : List ℕ) (owed : List PutAnswer) (at seqno : ℕ) (heading text : List ℕ) (mid : IngestMoment) → IsServed all.framing bytes stream owed came old
      → (b : Before bytes (Bulletin at seqno heading text) mid)
      → BreaksPut put_fault.Denied (product_of all (record { seqno = seqno; heading = heading; bytes = text })) came mid last.moment
      → Err (fault.Put put_fault.Denied) ≡ ending_owed all.framing bytes owed
  denied_put bytes stream owed at seqno heading text mid served b breaks =
      let p = projected all b.items b.steps first.moment mid b.taken in
      let is = told_denied (reports_of (items_of all.framing bytes)) stream owed (products_of all b.items b.steps) (answers_of b.steps)
      (product_of all (record { seqno = seqno; heading = heading; bytes = text }) breaks.arrival) first.moment.wire mid.wire last.moment.wire (refl, refl) served.link served.says served.owed
      (fewer bytes at seqno heading text mid b) p.told breaks.breaks in
      let ends : Result Outcome IngestFault = Ok (then_of (owed_of (items_of all.framing bytes) owed) (cut_outcome (cut_at_end all.framing bytes))) in
      let denial : Result Outcome IngestFault = Err (fault.Put put_fault.Denied) in
      ap (λ (x : Bool). cond x denial ends) (sym is)

  unanswered_put : (why : NoReply) (bytes stream : List ℕ) (owed : List PutAnswer) (at seqno : ℕ) (heading text : List ℕ) (mid : IngestMoment) → IsServed all.framing bytes stream owed came old
      → ¬ Rose came.faults left.faults → (b : Before bytes (Bulletin at seqno heading text) mid)
      → BreaksPut (put_fault.NoAnswer why) (product_of all (record { seqno = seqno; heading = heading; bytes = text })) came mid last.moment → why ≡ no_reply.OutOfMemory
  unanswered_put why bytes stream owed at seqno heading text mid served quiet b breaks =
      let p = projected all b.items b.steps first.moment mid b.taken in
      told_no_answer why (reports_of (items_of all.framing bytes)) stream owed (products_of all b.items b.steps) (answers_of b.steps)
      (product_of all (record { seqno = seqno; heading = heading; bytes = text }) breaks.arrival) first.moment.wire mid.wire last.moment.wire (refl, refl) served.link served.says served.owed
      (fewer bytes at seqno heading text mid b) p.told breaks.breaks served.short_stream quiet

  put_ends : (why : PutFault) (item : Found) (bytes stream : List ℕ) (owed : List PutAnswer) (mid : IngestMoment) → IsServed all.framing bytes stream owed came old → NoneRose old new
      → ¬ Rose came.faults left.faults → KeepsMoment first.moment mid → Before bytes item mid → Breaks (fault.Put why) all item came mid last.moment
      → (Err (fault.Put why) ≡ ending_owed all.framing bytes owed) ⊎ IsNoMemory (Err (fault.Put why))
  put_ends why (Bad at) bytes stream owed mid served none quiet kept b breaks = absurd breaks
  put_ends put_fault.Denied (Bulletin at seqno heading text) bytes stream owed mid served none quiet kept b breaks =
      inl (denied_put bytes stream owed at seqno heading text mid served b breaks)
  put_ends (put_fault.NoAnswer why) (Bulletin at seqno heading text) bytes stream owed mid served none quiet kept b breaks =
      let is = unanswered_put why bytes stream owed at seqno heading text mid served quiet b breaks in
      inr (inr (ap (λ (w : NoReply). let r : Result Outcome IngestFault = Err (fault.Put (put_fault.NoAnswer w)) in r) is))
  put_ends put_fault.SinkFault (Bulletin at seqno heading text) bytes stream owed mid served none quiet kept b breaks =
      absurd (none.sink (Rose-later old.streams.sink.faults mid.wire.sink.faults new.streams.sink.faults kept.sink breaks.breaks.rose))

  -- no count fell before the item at which the run ended
  pub kept_before : (why : IngestFault) → (stops : StopsAt why all first last) → KeepsMoment first.moment stops.breaks.mid
  kept_before why stops = moment_then first.moment stops.mid.moment stops.breaks.mid stops.takes.kept.moment stops.breaks.kept

  pub log_rose : (item : Found) (mid : IngestMoment) → KeepsMoment first.moment mid → Breaks fault.LogFault all item came mid last.moment → Rose old.streams.log.faults new.streams.log.faults
  log_rose (Bulletin at seqno heading text) mid kept breaks = absurd breaks
  log_rose (Bad at) mid kept breaks = Rose-later old.streams.log.faults mid.log.faults new.streams.log.faults kept.log breaks.rose

  pub cut_rose : BreaksCut all first last → Rose old.streams.log.faults new.streams.log.faults
  cut_rose breaks = Rose-later old.streams.log.faults breaks.mid.moment.log.faults new.streams.log.faults breaks.takes.kept.moment.log breaks.breaks.rose

  pub source_rose : StopsReading SourceFails all first last → Rose old.streams.source.faults new.streams.source.faults
  source_rose stops = Rose-later old.streams.source.faults stops.mid.source.faults new.streams.source.faults stops.takes.kept.source stops.stops_so.0

  too_many : (bytes : List ℕ) → first.source.left ≡ Some bytes → length bytes < LONGEST_STREAM → TakesMost all first last → ⊥
  too_many bytes is short most =
      let w = whole all most.turns first last most.each in
      let f = front_of last.source.left bytes (bytes_of most.turns) (sym is ∙ w.read) in
      omega (arith, ap length f.2, length-append (bytes_of most.turns) f.0, most.most, short)

  pub completes : (ending : Result Outcome IngestFault) → Runs ending all first last → (Rose came.faults left.faults → Rose old.net.links.failed new.net.links.failed)
      → Completes ending all.framing came old new
  completes (Ok met) runs failed = taken_all met runs
  completes (Err fault.OutOfMemory) runs failed = λ bytes stream owed served none. inr (inl refl)
  completes (Err fault.SourceFault) runs failed = λ bytes stream owed served none. absurd (none.source (source_rose runs))
  completes (Err fault.StreamLimit) runs failed = λ bytes stream owed served none. absurd (too_many bytes served.source served.short runs)
  completes (Err fault.LogFault) (inl stops) failed = λ bytes stream owed served none.
      absurd (none.log (log_rose stops.breaks.item stops.breaks.mid (kept_before fault.LogFault stops) stops.breaks.breaks))
  completes (Err fault.LogFault) (inr breaks) failed = λ bytes stream owed served none. absurd (none.log (cut_rose breaks))
  completes (Err (fault.Put why)) runs failed = λ bytes stream owed served none.
      put_ends why runs.breaks.item bytes stream owed runs.breaks.mid served none (λ rose. none.failed (failed rose)) (kept_before (fault.Put why) runs)
      (before (fault.Put why) bytes served.source runs) runs.breaks.breaks
  completes (Err fault.Unreached) runs failed = absurd runs
