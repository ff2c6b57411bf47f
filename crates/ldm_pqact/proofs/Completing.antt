-- Where nothing hindered, all was done.
use Rattle.std.proofs.Common.{◌≡◌, ◌∙◌, ℕ, List, [], ◌∷◌, ◌++◌, inl, inr, map, None, Option, refl, sym, ap, subst, append_assoc, append-nil, arith}
use Rattle.std.specs.List.{flat_map}
use Rattle.std.proofs.lemmas.List.Concat.{flat_map-append}
use Rattle.ldm_model.specs.declared.event.Reply.{Reply}
use Rattle.ldm_model.specs.declared.event.Reply.TheVariants as reply
use Rattle.ldm_outside.specs.Count.{Rose}
use Rattle.ldm_outside.specs.Io.{Takes}
use Rattle.ldm_session.specs.Exchange.{IdledAll}
use Rattle.ldm_pqact_conf.specs.Entries.{EntryView}
use Rattle.ldm_actions.specs.declared.answers.Done.{Done}
use Rattle.ldm_actions.specs.declared.answers.Fault.{Fault}
use Rattle.ldm_actions.specs.declared.answers.Fault.TheVariants as fault
use Rattle.ldm_actions.specs.Effects.{closed, effects}
use Rattle.ldm_actions.specs.Outputs.{Standing}
use Rattle.ldm_pqact.specs.declared.end.ActEnd.{ActEnd}
use Rattle.ldm_pqact.specs.declared.end.ActEnd.TheVariants as end
use Rattle.ldm_pqact.specs.Acted.{Acts, ActsOpened, LogsBy, Situation, UsesOpened, end_after, world_at}
use Rattle.ldm_pqact.specs.Acting.{ActsOn, Does, IsInHand, Sight}
use Rattle.ldm_pqact.specs.Carried.{Faulted}
use Rattle.ldm_pqact.specs.Complete.{ActCompletes, ActsOnAll, ActsToTheEnd, Completes}
use Rattle.ldm_pqact.specs.Course.{Stretch, course_work, goes_of, stretch_replies, turns_in}
use Rattle.ldm_shared.specs.Givens.{Turn, products_of, turn_reply}
use Rattle.ldm_pqact.specs.Turns.{deeds_of, lines_of, turn_deeds, turn_lines}
use Rattle.ldm_shared.specs.Uses.{AreRows}
use Rattle.ldm_pqact.specs.Work.{replies_of, with_answers, work_of}
use Rattle.ldm_pqact.proofs.Stretches.{flat_map-one_more, stopped_rows}

-- a count that did not rose is no cause
not_faulted : (why : Fault) (count count' : ℕ) (old new : Standing) → old.outputs.spent ≡ None → ¬ Rose count count' → Faulted why count count' old new → ⊥
not_faulted why count count' old new none not_rose (inl rose) = not_rose rose
not_faulted why count count' old new none not_rose (inr spent) = let no : None ≡ Option.Some why = sym none ∙ spent.0 in absurd cc

all_acted : (entries : List EntryView) (k : ℕ) (old new : Sight) → ActsOn end.Stopped entries k old new → ActsOnAll entries k old new
all_acted entries k old new acts = record {
  turns = acts.run.turns;
  at = acts.run.at;
  does =
      subst (λ (ts : List Turn). Does k (with_answers (work_of entries acts.run.turns) (map turn_reply ts ++ reply.End acts.run.at ∷ [])) old new) acts.is_in_hand
      acts.ends.0;
  rows = stopped_rows new.pass acts.run acts.is_in_hand acts.rows;
  cursor = acts.ends.1;
}

pub completes : (why : ActEnd) (entries : List EntryView) (k : ℕ) (old new : Sight) → ActsOn why entries k old new → Completes why entries k old new
completes end.Stopped entries k old new acts free = all_acted entries k old new acts
completes end.StoreFault entries k old new acts free =
    not_faulted fault.Store _ _ old.standing new.standing free.unspent free.store acts.ends.carried.store_count
completes end.LaunchFault entries k old new acts free =
    not_faulted fault.Launch _ _ old.standing new.standing free.unspent free.launcher acts.ends.carried.launcher_count
completes end.LogFault entries k old new acts free = free.log acts.ends.log_count
completes end.AllBusy entries k old new acts free = acts.ends.cause
completes end.Worn entries k old new acts free = absurd (omega (arith, free.calls_left, acts.ends.cause))
completes end.OutOfMemory entries k old new acts free = tt

-- ---- `act`

-- the products were acted on, and the outputs closed, up to the end
stopped_by : (ended : ActEnd) (answer : Done) → end.Stopped ≡ end_after ended answer → ended ≡ end.Stopped
stopped_by end.Stopped answer is = refl
stopped_by end.StoreFault answer is = absurd cc
stopped_by end.LaunchFault answer is = absurd cc
stopped_by end.LogFault answer is = absurd cc
stopped_by end.AllBusy answer is = absurd cc
stopped_by end.Worn answer is = absurd cc
stopped_by end.OutOfMemory answer is = absurd cc

to_the_end : (entries : List EntryView) (old new : Situation) → ActsOpened end.Stopped entries old new → ActsToTheEnd entries old new
to_the_end entries old new acts =
    let is = stopped_by acts.ended acts.answer acts.is_end in
    let course = acts.course in
    let run = course.run in
    let last : Stretch = record { turns = run.turns; at = run.at } in
    let all = course.stretches ++ last ∷ [] in
    let none : run.in_hand ≡ [] = subst (λ (e : ActEnd). IsInHand e run.in_hand) is acts.is_in_hand in
    let turns : turns_in all ≡ turns_in course.stretches ++ run.turns = flat_map-one_more (λ (one : Stretch). one.turns) course.stretches last in
    let answered : List Reply → Type 0 = λ answers. UsesOpened end.Stopped acts.k old.pass new.pass answers in
    let uses : UsesOpened end.Stopped acts.k old.pass new.pass (replies_of (course_work end.Stopped entries course)) =
    subst (λ (e : ActEnd). UsesOpened end.Stopped acts.k old.pass new.pass (replies_of (course_work e entries course))) is acts.uses in
    let front = flat_map stretch_replies course.stretches in
    let answers : (front ++ map turn_reply run.turns) ++ (map turn_reply run.in_hand ++ reply.End run.at ∷ []) ≡ flat_map stretch_replies all =
    ap (λ (ts : List Turn). (front ++ map turn_reply run.turns) ++ (map turn_reply ts ++ reply.End run.at ∷ [])) none
    ∙ (append_assoc front (map turn_reply run.turns) (reply.End run.at ∷ []) ∙ sym (flat_map-one_more stretch_replies course.stretches last)) in
    let deeds : deeds_of entries (turns_in course.stretches) ++ deeds_of entries run.turns ≡ deeds_of entries (turns_in all) =
    sym (ap (deeds_of entries) turns ∙ flat_map-append (turn_deeds entries) (turns_in course.stretches) run.turns) in
    let lines : lines_of entries (turns_in course.stretches) ++ lines_of entries run.turns ≡ lines_of entries (turns_in all) =
    sym (ap (lines_of entries) turns ∙ flat_map-append (turn_lines entries) (turns_in course.stretches) run.turns) in
    let logged : Takes old.log (course_work end.Stopped entries course).whole.lines new.log =
    subst (λ (e : ActEnd). LogsBy e (course_work e entries course) old.log new.log) is acts.logged in
    record {
      k = acts.k;
      earlier = course.stretches;
      last = last;
      uses = subst (λ (xs : List Reply). UsesOpened end.Stopped acts.k old.pass new.pass xs) answers uses;
      rows =
          subst (λ (ts : List Turn). AreRows new.pass (products_of ts))
          (ap (λ (ts : List Turn). turns_in course.stretches ++ (run.turns ++ ts)) none
          ∙ (ap (λ (ts : List Turn). turns_in course.stretches ++ ts) (append-nil run.turns) ∙ sym turns)) acts.rows;
      stands = acts.stands ∙ ap (λ ds. closed (effects ds (world_at old))) deeds;
      logged = subst (λ (ls : List ℕ). Takes old.log ls new.log) lines logged;
      idled = subst (λ (e : ActEnd). IdledAll (goes_of e course) old.gate new.gate) is acts.idled;
    }

pub act_completes : (why : ActEnd) (entries : List EntryView) (old new : Situation) → Acts why entries old new → ActCompletes why entries old new
act_completes end.Stopped entries old new (inl acts) free = to_the_end entries old new acts
act_completes end.StoreFault entries old new (inl acts) free = free.store acts.cause
act_completes end.LaunchFault entries old new (inl acts) free = free.launcher acts.cause
act_completes end.LogFault entries old new (inl acts) free = free.log acts.cause
act_completes end.AllBusy entries old new (inl acts) free = absurd acts.cause
act_completes end.Worn entries old new (inl acts) free = absurd (omega (arith, free.calls_left, acts.cause))
act_completes end.OutOfMemory entries old new (inl acts) free = tt
act_completes end.Stopped entries old new (inr none) free = absurd none.opens
act_completes end.StoreFault entries old new (inr none) free = none.opens
act_completes end.LaunchFault entries old new (inr none) free = none.opens
act_completes end.LogFault entries old new (inr none) free = none.opens
act_completes end.AllBusy entries old new (inr none) free = none
act_completes end.Worn entries old new (inr none) free = absurd (omega (arith, free.calls_left, none.opens.1))
act_completes end.OutOfMemory entries old new (inr none) free = tt
