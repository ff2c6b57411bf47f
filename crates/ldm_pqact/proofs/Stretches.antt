-- Stretches of turns, one behind another, and where they end.
use Rattle.std.proofs.Common.{◌≡◌, ◌∙◌, ℕ, List, [], ◌∷◌, ◌++◌, map, None, refl, sym, ap, subst, append-nil}
use Rattle.std.proofs.lemmas.List.{map-append}
use Rattle.std.proofs.lemmas.List.Concat.{flat_map-append}
use Rattle.std.specs.List.{flat_map}
use Rattle.ldm_outside.specs.declared.gate.Go.TheVariants as go
use Rattle.ldm_outside.specs.Gate.{GateRecord, Idles}
use Rattle.ldm_shared.specs.Passes.{IsSamePass, PassView}
use Rattle.ldm_shared.specs.Reader.{HasCursor}
use Rattle.ldm_session.specs.Exchange.{IdledAll}
use Rattle.ldm_session.proofs.CallerLemmas.{IdledAll-one, IdledAll-then}
use Rattle.ldm_shared.proofs.Using.{RowsStay, rows_then, same_then}
use Rattle.ldm_pqact_conf.specs.Entries.{EntryView}
use Rattle.ldm_actions.specs.Outputs.{KeepsUnlessSpent}
use Rattle.ldm_pqact.specs.declared.end.ActEnd.{ActEnd}
use Rattle.ldm_pqact.specs.declared.end.ActEnd.TheVariants as end
use Rattle.ldm_pqact.specs.Acting.{ActsOn, Does, Run, Sight, last_answer, parted_of}
use Rattle.ldm_pqact.specs.Course.{Follows, Gated, Stretch, gated_of, last_go, stretch_replies, turns_in, work_in}
use Rattle.ldm_shared.specs.Givens.{Turn, products_of, turn_reply}
use Rattle.ldm_pqact.specs.Turns.{deeds_of, lines_of, turn_deeds, turn_lines}
use Rattle.ldm_shared.specs.Uses.{AreRows}
use Rattle.ldm_pqact.specs.Work.{Work, with_answers, work_of, work_then}
use Rattle.ldm_pqact.proofs.Acts.{does_none, does_then}
use Rattle.ldm_pqact.proofs.Coursing.{called_at, ends_then, work_same}

pub flat_map-one_more : {A B : Type 0} (f : A → List B) (xs : List A) (x : A) → flat_map f (xs ++ x ∷ []) ≡ flat_map f xs ++ f x
flat_map-one_more {B = B} f xs x = flat_map-append f xs (x ∷ []) ∙ ap (λ (ys : List B). flat_map f xs ++ ys) (append-nil (f x))

-- the stretches so far: behind each the gate said to go on
pub record KeepsStretches (entries : List EntryView) (k : ℕ) (old new : Gated) : Type 0 where
  pub same : IsSamePass old.sight.pass new.sight.pass
  pub keeps : KeepsUnlessSpent new.sight.standing
  pub stretches : List Stretch
  pub does : Does k (work_in entries stretches) old.sight new.sight
  pub rows : AreRows new.sight.pass (products_of (turns_in stretches))
  pub idled : IdledAll (map (λ (stretch : Stretch). go.On) stretches) old.gate new.gate
  pub cursor : HasCursor new.sight.pass k None

pub stretches_begin : (entries : List EntryView) (k : ℕ) (now : Sight) (gate : GateRecord) → HasCursor now.pass k None → KeepsUnlessSpent now.standing
    → KeepsStretches entries k (gated_of now gate) (gated_of now gate)
stretches_begin entries k now gate cursor keeps = record {
  same = refl;
  keeps = keeps;
  stretches = [];
  does = does_none k now;
  rows = tt;
  idled = refl;
  cursor = cursor;
}

-- at the end of the queue all turns are whole
pub stopped_rows : (pass : PassView) (run : Run) → run.in_hand ≡ [] → AreRows pass (products_of (run.turns ++ run.in_hand)) → AreRows pass (products_of run.turns)
stopped_rows pass run none rows =
    subst (λ (ts : List Turn). AreRows pass (products_of ts)) (ap (λ (ts : List Turn). run.turns ++ ts) none ∙ append-nil run.turns) rows

module _ (law : RowsStay) (entries : List EntryView) (k : ℕ) (a b c : Gated) (so_far : KeepsStretches entries k a b) where
  rows_behind : (why : ActEnd) (acts : ActsOn why entries k b.sight c.sight) (turns : List Turn) → AreRows c.sight.pass (products_of turns)
      → AreRows c.sight.pass (products_of (turns_in so_far.stretches ++ turns))
  rows_behind why acts turns rows =
      let uses = called_at why k _ b.sight c.sight acts.ends in
      rows_then law b.sight.pass c.sight.pass uses.called (turns_in so_far.stretches) turns uses.calls so_far.rows rows

  -- they ended
  pub stretches_end : (why : ActEnd) → ActsOn why entries k b.sight c.sight → IdledAll (last_go why) b.gate c.gate → Follows why entries k a c
  stretches_end why acts idled = record {
    course = record { stretches = so_far.stretches; run = acts.run };
    is_in_hand = acts.is_in_hand;
    ends = ends_then k (work_in entries so_far.stretches) (parted_of why entries acts.run) a.sight b.sight c.sight so_far.does why acts.ends;
    rows = rows_behind why acts (acts.run.turns ++ acts.run.in_hand) acts.rows;
    idled = IdledAll-then (map (λ (stretch : Stretch). go.On) so_far.stretches) (last_go why) a.gate b.gate c.gate so_far.idled idled;
  }

  -- one more came to the end of the queue
  pub stretches_go_on : ActsOn end.Stopped entries k b.sight c.sight → Idles go.On b.gate c.gate → IsSamePass b.sight.pass c.sight.pass → KeepsUnlessSpent c.sight.standing
      → KeepsStretches entries k a c
  stretches_go_on acts idled same keeps =
      let run = acts.run in
      let stretch : Stretch = record { turns = run.turns; at = run.at } in
      let turns : turns_in (so_far.stretches ++ stretch ∷ []) ≡ turns_in so_far.stretches ++ run.turns =
      flat_map-one_more (λ (one : Stretch). one.turns) so_far.stretches stretch in
      let one : Work = record { answers = stretch_replies stretch; deeds = deeds_of entries run.turns; lines = lines_of entries run.turns } in
      let does : Does k one b.sight c.sight =
      subst (λ (ts : List Turn). Does k (with_answers (work_of entries run.turns) (map turn_reply ts ++ last_answer end.Stopped run.at)) b.sight c.sight) acts.is_in_hand acts.ends.0 in
      record {
        same = same_then a.sight.pass b.sight.pass c.sight.pass so_far.same same;
        keeps = keeps;
        stretches = so_far.stretches ++ stretch ∷ [];
        does =
            subst (λ (w : Work). Does k w a.sight c.sight)
            (work_same (work_then (work_in entries so_far.stretches) one) (work_in entries (so_far.stretches ++ stretch ∷ []))
            (sym (flat_map-one_more stretch_replies so_far.stretches stretch))
            (sym (ap (deeds_of entries) turns ∙ flat_map-append (turn_deeds entries) (turns_in so_far.stretches) run.turns))
            (sym (ap (lines_of entries) turns ∙ flat_map-append (turn_lines entries) (turns_in so_far.stretches) run.turns)))
            (does_then k (work_in entries so_far.stretches) one a.sight b.sight c.sight so_far.does does);
        rows = rw turns (rows_behind end.Stopped acts run.turns (stopped_rows c.sight.pass run acts.is_in_hand acts.rows));
        idled =
            rw (map-append (λ (one : Stretch). go.On) so_far.stretches (stretch ∷ []))
            (IdledAll-then (map (λ (one : Stretch). go.On) so_far.stretches) (go.On ∷ []) a.gate b.gate c.gate so_far.idled (IdledAll-one go.On b.gate c.gate idled));
        cursor = acts.ends.1;
      }

-- at another end the gate was not asked
pub asks_no_gate : (why : ActEnd) (gate : GateRecord) → (why ≡ end.Stopped → ⊥) → IdledAll (last_go why) gate gate
asks_no_gate end.Stopped gate not = absurd (not refl)
asks_no_gate why gate not = refl

-- the entries are the same still
pub of_entries : (why : ActEnd) (entries entries' : List EntryView) (k : ℕ) (old new : Sight) → entries ≡ entries' → ActsOn why entries k old new → ActsOn why entries' k old new
of_entries why entries entries' k old new same acts = subst (λ (es : List EntryView). ActsOn why es k old new) same acts
