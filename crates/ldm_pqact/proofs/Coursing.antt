-- Turns, one after another, and where they end.
use Rattle.std.proofs.Common.{◌≡◌, ◌∙◌, ℕ, ◌≤◌, List, [], ◌∷◌, ◌++◌, None, Result, Ok, Err, refl, sym, ap, subst, append_assoc, append-nil, arith}
use Rattle.std.proofs.lemmas.List.{map-append}
use Rattle.std.proofs.lemmas.List.Concat.{flat_map-append}
use Rattle.ldm_model.specs.declared.event.Event.TheVariants as event
use Rattle.ldm_model.specs.declared.event.Reply.{Reply}
use Rattle.ldm_model.specs.declared.event.Reply.TheVariants as reply
use Rattle.ldm_outside.specs.Count.{Rose}
use Rattle.ldm_outside.specs.Io.{SinkRecord, Takes, WritesFront}
use Rattle.ldm_outside.proofs.CallerLemmas.{Takes-nothing}
use Rattle.ldm_shared.specs.Passes.{PassView, FindsWorn, Grows, IsSamePass}
use Rattle.ldm_shared.specs.Reader.{HasCursor}
use Rattle.ldm_shared.proofs.Using.{HasRowIn, RowsStay, row_stays, rows_then, same_then, uses_step, uses_worn}
use Rattle.ldm_pqact_conf.specs.Entries.{EntryView}
use Rattle.ldm_actions.specs.Outputs.{KeepsUnlessSpent, Standing}
use Rattle.ldm_pqact.specs.declared.end.ActEnd.{ActEnd}
use Rattle.ldm_pqact.specs.declared.end.ActEnd.TheVariants as end
use Rattle.ldm_pqact.specs.Acting.{ActsOn, ActsSome, Breaks, CauseOf, Does, EndsSo, HandlesBy, IsInHand, LogsFront, Sight, TurnsBy, last_answer, parted_of, sight_of}
use Rattle.ldm_shared.specs.Givens.{Gave, Given, Lost, Turn, products_of, turn_reply}
use Rattle.ldm_pqact.specs.Turns.{deeds_for, turn_deeds, turn_lines}
use Rattle.ldm_shared.specs.Uses.{AreRows, Uses}
use Rattle.ldm_pqact.specs.Work.{Parted, Work, no_work, only_in_hand, product_work, replies_of, with_answers, work_of, work_then}
use Rattle.ldm_pqact.proofs.Acts.{breaks_behind, breaks_then, broken, does_none, does_then, front_none, front_of}
use Rattle.ldm_pqact.proofs.Carrying.{Deed, breaks_off_here, stands_none}

-- ---- the same, put otherwise

abbrev work : List Reply → List Deed → List ℕ → Work
work answers deeds lines = record { answers = answers; deeds = deeds; lines = lines }

pub work_same : (one two : Work) → one.answers ≡ two.answers → one.deeds ≡ two.deeds → one.lines ≡ two.lines → one ≡ two
work_same one two x d l =
    ap (λ (o : List Reply). work o one.deeds one.lines) x
    ∙ (ap (λ (o : List Deed). work two.answers o one.lines) d ∙ ap (λ (o : List ℕ). work two.answers two.deeds o) l)

work_of-append : (entries : List EntryView) (one two : List Turn) → work_then (work_of entries one) (work_of entries two) ≡ work_of entries (one ++ two)
work_of-append entries one two =
    work_same (work_then (work_of entries one) (work_of entries two)) (work_of entries (one ++ two)) (sym (map-append turn_reply one two))
    (sym (flat_map-append (turn_deeds entries) one two)) (sym (flat_map-append (turn_lines entries) one two))

-- ---- one after another

some_then : (law : RowsStay) (entries : List EntryView) (k : ℕ) (a b c : Sight) → ActsSome entries k a b → ActsSome entries k b c → ActsSome entries k a c
some_then law entries k a b c one two = record {
  turns = one.turns ++ two.turns;
  does =
      subst (λ (w : Work). Does k w a c) (work_of-append entries one.turns two.turns)
      (does_then k (work_of entries one.turns) (work_of entries two.turns) a b c one.does two.does);
  rows = rows_then law b.pass c.pass two.does.uses.called one.turns two.turns two.does.uses.calls one.rows two.rows;
  cursor = two.cursor;
}

-- what was called at an end
pub called_at : (why : ActEnd) (k : ℕ) (work : Parted) (a b : Sight) → EndsSo why k work a b → Uses k a.pass b.pass (replies_of work)
called_at end.Stopped k work a b ends = ends.0.uses
called_at end.StoreFault k work a b ends = ends.uses
called_at end.LaunchFault k work a b ends = ends.uses
called_at end.LogFault k work a b ends = ends.uses
called_at end.AllBusy k work a b ends = ends.uses
called_at end.Worn k work a b ends = ends.uses
called_at end.OutOfMemory k work a b ends = ends.uses

-- the earlier work is more
abbrev pub behind : Work → Parted → Parted
behind first later = record { whole = work_then first later.whole; in_hand = later.in_hand }

module _ (k : ℕ) (first : Work) (later : Parted) (a b c : Sight) (one : Does k first a b) where
  pub ends_then : (why : ActEnd) → EndsSo why k later b c → EndsSo why k (behind first later) a c
  ends_then end.Stopped ends = (
    subst (λ (xs : List Reply). Does k (work xs (first.deeds ++ later.whole.deeds) (first.lines ++ later.whole.lines)) a c)
        (sym (append_assoc first.answers later.whole.answers later.in_hand.answers))
        (does_then k first (with_answers later.whole later.in_hand.answers) a b c one ends.0),
    ends.1,
  )
  ends_then end.StoreFault ends = breaks_then end.StoreFault k first later a b c one ends
  ends_then end.LaunchFault ends = breaks_then end.LaunchFault k first later a b c one ends
  ends_then end.LogFault ends = breaks_then end.LogFault k first later a b c one ends
  ends_then end.AllBusy ends = breaks_then end.AllBusy k first later a b c one ends
  ends_then end.Worn ends = breaks_then end.Worn k first later a b c one ends
  ends_then end.OutOfMemory ends = breaks_then end.OutOfMemory k first later a b c one ends

on_then : (law : RowsStay) (why : ActEnd) (entries : List EntryView) (k : ℕ) (a b c : Sight) → ActsSome entries k a b → ActsOn why entries k b c → ActsOn why entries k a c
on_then law why entries k a b c one two =
    let run = two.run in
    let later = parted_of why entries run in
    let uses = called_at why k later b c two.ends in
    record {
      run = record { turns = one.turns ++ run.turns; in_hand = run.in_hand; at = run.at };
      is_in_hand = two.is_in_hand;
      ends =
          subst (λ (w : Work). EndsSo why k (record { whole = w; in_hand = later.in_hand }) a c) (work_of-append entries one.turns run.turns)
          (ends_then k (work_of entries one.turns) later a b c one.does why two.ends);
      rows =
          subst (λ (ts : List Turn). AreRows c.pass (products_of ts)) (sym (append_assoc one.turns run.turns run.in_hand))
          (rows_then law b.pass c.pass uses.called one.turns (run.turns ++ run.in_hand) uses.calls one.rows two.rows);
    }

-- ---- one turn

stepped : (k : ℕ) (old new : PassView) (a : Standing) (log : SinkRecord) (answer : Reply) → Grows old new (event.Step k) answer
    → Does k (with_answers no_work (answer ∷ [])) (sight_of old a log) (sight_of new a log)
stepped k old new a log answer grows = record {
  uses = uses_step k old new answer grows;
  carried = stands_none a;
  logged = Takes-nothing log log refl;
  log_faults = omega arith;
}

pub lost : (entries : List EntryView) (k count first last : ℕ) (old new : PassView) (a : Standing) (log log' : SinkRecord) → Grows old new (event.Step k) (reply.Gap count first last)
    → Takes log (turn_lines entries (Lost count first last)) log' → log.faults ≤ log'.faults → HasCursor new k None
    → ActsSome entries k (sight_of old a log) (sight_of new a log')
lost entries k count first last old new a log log' grows takes faults cursor = record {
  turns = Lost count first last ∷ [];
  does = record {
    uses = uses_step k old new (reply.Gap count first last) grows;
    carried = stands_none a;
    logged = subst (λ (ls : List ℕ). Takes log ls log') (sym (append-nil (turn_lines entries (Lost count first last)))) takes;
    log_faults = faults;
  };
  rows = tt;
  cursor = cursor;
}

pub unlogged : (entries : List EntryView) (k count first last : ℕ) (old new : PassView) (a : Standing) (log log' : SinkRecord) → Grows old new (event.Step k) (reply.Gap count first last)
    → Rose log.faults log'.faults → WritesFront log (turn_lines entries (Lost count first last)) log' → HasCursor new k None
    → ActsOn end.LogFault entries k (sight_of old a log) (sight_of new a log')
unlogged entries k count first last old new a log log' grows rose front cursor = record {
  run = record { turns = []; in_hand = Lost count first last ∷ []; at = 0 };
  is_in_hand = omega arith;
  ends = record {
    uses = uses_step k old new (reply.Gap count first last) grows;
    carried = breaks_off_here end.LogFault [] a refl refl;
    logged =
        subst (λ (ls : List ℕ). LogsFront [] ls log log') (sym (append-nil (turn_lines entries (Lost count first last))))
        (front_of log log' (turn_lines entries (Lost count first last)) front);
    log_count = rose;
    cause = tt;
    cursor = (None, cursor);
  };
  rows = tt;
}

pub ended : (entries : List EntryView) (k at : ℕ) (old new : PassView) (a : Standing) (log : SinkRecord) → Grows old new (event.Step k) (reply.End at) → HasCursor new k None
    → ActsOn end.Stopped entries k (sight_of old a log) (sight_of new a log)
ended entries k at old new a log grows cursor = record {
  run = record { turns = []; in_hand = []; at = at };
  is_in_hand = refl;
  ends = (stepped k old new a log (reply.End at) grows, cursor);
  rows = tt;
}

pub unstepped : (entries : List EntryView) (k turns : ℕ) (old new : PassView) (a : Standing) (log : SinkRecord) → FindsWorn old new turns
    → ActsOn end.Worn entries k (sight_of old a log) (sight_of new a log)
unstepped entries k turns old new a log worn = record {
  run = record { turns = []; in_hand = []; at = 0 };
  is_in_hand = omega arith;
  ends = record {
    uses = uses_worn k turns old new worn;
    carried = breaks_off_here end.Worn [] a refl refl;
    logged = front_none log log [] refl;
    log_count = omega arith;
    cause = worn.long ∙ worn.turns_are;
    cursor = tt;
  };
  rows = tt;
}

-- an end that is not that of the queue
abbrev EndsWithin : ActEnd → Type 0
EndsWithin end.Stopped = ⊥
EndsWithin _ = Unit {0}

within_by : (why : ActEnd) (pass : PassView) → CauseOf why pass → EndsWithin why
within_by end.Stopped pass cause = cause
within_by end.StoreFault pass cause = tt
within_by end.LaunchFault pass cause = tt
within_by end.LogFault pass cause = tt
within_by end.AllBusy pass cause = tt
within_by end.Worn pass cause = tt
within_by end.OutOfMemory pass cause = tt

no_more : (why : ActEnd) (at : ℕ) (answer : Reply) → EndsWithin why → (answer ∷ []) ++ last_answer why at ≡ answer ∷ []
no_more end.Stopped at answer within = absurd within
no_more end.StoreFault at answer within = refl
no_more end.LaunchFault at answer within = refl
no_more end.LogFault at answer within = refl
no_more end.AllBusy at answer within = refl
no_more end.Worn at answer within = refl
no_more end.OutOfMemory at answer within = refl

one_in_hand : (why : ActEnd) (turn : Turn) → EndsWithin why → IsInHand why (turn ∷ [])
one_in_hand end.Stopped turn within = absurd within
one_in_hand end.StoreFault turn within = omega arith
one_in_hand end.LaunchFault turn within = omega arith
one_in_hand end.LogFault turn within = omega arith
one_in_hand end.AllBusy turn within = omega arith
one_in_hand end.Worn turn within = omega arith
one_in_hand end.OutOfMemory turn within = omega arith

pub gave : (law : RowsStay) (result : Result (Unit {0}) ActEnd) (entries : List EntryView) (k : ℕ) (given : Given) (old mid new : PassView) (a b : Standing) (log log' : SinkRecord)
    → Grows old mid (event.Step k) (turn_reply (Gave given)) → HasRowIn mid given.n given.product given.time
    → HandlesBy result k (product_work (deeds_for entries given) (turn_lines entries (Gave given))) (sight_of mid a log) (sight_of new b log')
    → TurnsBy result entries k (sight_of old a log) (sight_of new b log')
gave law (Ok gone) entries k given old mid new a b log log' grows row handled =
    let turn = Gave given in
    let asked = product_work (deeds_for entries given) (turn_lines entries turn) in
    record {
      turns = turn ∷ [];
      does =
          subst (λ (w : Work). Does k w (sight_of old a log) (sight_of new b log'))
          (work_same (work_then (with_answers no_work (turn_reply turn ∷ [])) asked) (work_of entries (turn ∷ [])) refl (sym (append-nil (deeds_for entries given)))
          (sym (append-nil (turn_lines entries turn))))
          (does_then k (with_answers no_work (turn_reply turn ∷ [])) asked (sight_of old a log) (sight_of mid a log) (sight_of new b log')
          (stepped k old mid a log (turn_reply turn) grows) handled.does);
      rows = (row_stays law mid new handled.does.uses.called given.n given.product given.time handled.does.uses.calls row, tt);
      cursor = handled.cursor;
    }
gave law (Err why) entries k given old mid new a b log log' grows row broke =
    let turn = Gave given in
    let asked = product_work (deeds_for entries given) (turn_lines entries turn) in
    let within = within_by why new broke.cause in
    record {
      run = record { turns = []; in_hand = turn ∷ []; at = 0 };
      is_in_hand = one_in_hand why turn within;
      ends =
          broken why k _ (sight_of old a log) (sight_of new b log')
          (subst (λ (w : Work). Breaks why k (only_in_hand w) (sight_of old a log) (sight_of new b log'))
          (work_same (work_then (with_answers no_work (turn_reply turn ∷ [])) asked) (with_answers (work_of entries (turn ∷ [])) (last_answer why 0))
          (sym (no_more why 0 (turn_reply turn) within)) (sym (append-nil (deeds_for entries given))) (sym (append-nil (turn_lines entries turn))))
          (breaks_behind why k (with_answers no_work (turn_reply turn ∷ [])) asked (sight_of old a log) (sight_of mid a log) (sight_of new b log')
          (stepped k old mid a log (turn_reply turn) grows) broke));
      rows = (row_stays law mid new broke.uses.called given.n given.product given.time broke.uses.calls row, tt);
    }

-- ---- the loop

-- turns were made since the beginning
pub record KeepsCourse (entries : List EntryView) (k : ℕ) (old new : Sight) : Type 0 where
  pub same : IsSamePass old.pass new.pass
  pub keeps : KeepsUnlessSpent new.standing
  pub some : ActsSome entries k old new

pub course_begins : (entries : List EntryView) (k : ℕ) (now : Sight) → HasCursor now.pass k None → KeepsUnlessSpent now.standing → KeepsCourse entries k now now
course_begins entries k now cursor keeps = record {
  same = refl;
  keeps = keeps;
  some = record { turns = []; does = does_none k now; rows = tt; cursor = cursor };
}

pub course_goes_on : (law : RowsStay) (entries : List EntryView) (k : ℕ) (a b c : Sight) → KeepsCourse entries k a b → IsSamePass b.pass c.pass → KeepsUnlessSpent c.standing
    → ActsSome entries k b c → KeepsCourse entries k a c
course_goes_on law entries k a b c so_far same keeps step = record {
  same = same_then a.pass b.pass c.pass so_far.same same;
  keeps = keeps;
  some = some_then law entries k a b c so_far.some step;
}

pub course_ends : (law : RowsStay) (why : ActEnd) (entries : List EntryView) (k : ℕ) (a b c : Sight) → KeepsCourse entries k a b → ActsOn why entries k b c → ActsOn why entries k a c
course_ends law why entries k a b c so_far step = on_then law why entries k a b c so_far.some step
