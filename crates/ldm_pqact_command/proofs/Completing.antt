-- Where no count of faults rose, `pqact` acted on all that its cursor gave, or ended by no fault.
use Rattle.std.proofs.Common.{◌≡◌, ◌∙◌, ◌⊎◌, ℕ, ◌<◌, ◌≤◌, List, [], ◌++◌, Option, Some, None, Ok, Err, inl, inr, refl, sym, ap, subst, arith}
use Rattle.std.specs.Prelude.{IfSome, option_map}
use Rattle.std.specs.List.{flat_map}
use Rattle.std.proofs.lemmas.Bool.{cases_lt}
use Rattle.std.proofs.lemmas.List.{append-nil}
use Rattle.ldm_outside.specs.Count.{Rose}
use Rattle.ldm_outside.specs.Dial.{DialRecord}
use Rattle.ldm_outside.specs.Io.{SinkRecord}
use Rattle.ldm_outside.specs.Launcher.{LauncherRecord}
use Rattle.ldm_outside.specs.Lending.{CountsBack}
use Rattle.ldm_outside.specs.Store.{File, StoreRecord}
use Rattle.ldm_types.specs.declared.signature.Signature.{Signature}
use Rattle.ldm_outside.proofs.CallerLemmas.{Rose-later}
use Rattle.ldm_shared.specs.declared.fault.CreateFault.{CreateFault}
use Rattle.ldm_shared.specs.declared.fault.CreateFault.TheVariants as queue
use Rattle.ldm_shared.specs.Limits.{IsFaultOf}
use Rattle.ldm_shared.specs.Passes.{PassView}
use Rattle.ldm_actions.specs.declared.answers.Done.{Done}
use Rattle.ldm_actions.specs.declared.answers.Done.TheVariants as done
use Rattle.ldm_actions.specs.declared.answers.Fault.{Fault}
use Rattle.ldm_actions.specs.Effects.{closed, effects}
use Rattle.ldm_actions.specs.Outputs.{Closes, ClosesBy, Standing, no_outputs, standing}
use Rattle.ldm_actions.specs.World.{World}
use Rattle.ldm_command_files.specs.declared.pqact_file.EntriesNotTaken.{EntriesNotTaken}
use Rattle.ldm_command_files.specs.declared.pqact_file.EntriesNotTaken.TheVariants as not_taken
use Rattle.ldm_command_files.specs.PqactFiles.{TakesEntries, status_of_entries}
use Rattle.ldm_intake.specs.declared.end.RecvEnd.TheVariants as recv_end
use Rattle.ldm_gather.specs.declared.end.GatherEnd.{GatherEnd}
use Rattle.ldm_gather.specs.declared.end.GatherEnd.TheVariants as gather_end
use Rattle.ldm_gather.specs.declared.end.Handled.{Handled}
use Rattle.ldm_gather.specs.declared.limits.TheConstants.{PASSES}
use Rattle.ldm_gather.specs.EachCourse.{Gives}
use Rattle.ldm_gather.specs.Orders.{OrderView}
use Rattle.ldm_gather.specs.Queue.{Opens}
use Rattle.ldm_gather.specs.Runs.{Connects, Reaches, Situation}
use Rattle.ldm_gather.specs.Scene.{Scene}
use Rattle.ldm_status.specs.declared.status.Status.{Status}
use Rattle.ldm_status.specs.declared.status.Status.TheVariants as status
use Rattle.ldm_status.specs.Status.{ReportsBecause, code_of}
use Rattle.ldm_pqact.specs.declared.end.ActEnd.{ActEnd}
use Rattle.ldm_pqact.specs.declared.end.ActEnd.TheVariants as end
use Rattle.ldm_pqact.specs.Acting.{IsInHand, Sight}
use Rattle.ldm_pqact.specs.Carried.{Carries, Stands, world_in}
use Rattle.ldm_shared.specs.Givens.{Turn, count_of}
use Rattle.ldm_pqact.specs.Turns.{deeds_of}
use Rattle.ldm_pqact_conf.specs.Entries.{EntryView}
use Rattle.ldm_pqact_command.specs.declared.end.PqactEnd.{PqactEnd}
use Rattle.ldm_pqact_command.specs.declared.end.PqactEnd.TheVariants.{NotTaken, NotResumed, NotMade, Received, Enough, Stopped}
use Rattle.ldm_pqact_command.specs.declared.state.StateNotTaken.{StateNotTaken}
use Rattle.ldm_pqact_command.specs.declared.state.StateNotTaken.TheVariants as not_resumed
use Rattle.ldm_pqact_command.specs.declared.stop.ActStop.{ActStop}
use Rattle.ldm_pqact_command.specs.declared.stop.ActStop.TheVariants as stop
use Rattle.ldm_pqact_command.specs.Closing.{ClosesAll, ClosesOutputs}
use Rattle.ldm_pqact_command.specs.Complete.{AreWhole, IsComplete, IsWholeEnd, PqactCompletes, Unfailing}
use Rattle.ldm_pqact_command.specs.Course.{ActsAll, AreDeeds, IsCounted, StopCause, turns_in}
use Rattle.ldm_pqact_command.specs.Handling.{ActHandles}
use Rattle.ldm_pqact_command.specs.PqactRuns.{ActEnds, ActPaths, Closes as ClosesRun, ClosesIf, Duty, Here, MakesNone, PqactEnds, PqactLent, ResumesBy, ResumesNot, TakesNone, acter_at, duty_of, here_of, sight_at, standing_at, within}
use Rattle.ldm_pqact_command.specs.State.{HasOther, TakesStateIf, batch_deeds, behind, state_actions, status_of_state}
use Rattle.ldm_pqact_command.specs.Statuses.{ReportsIf, after_closing, status_of}
use Rattle.ldm_pqact_command.proofs.Kept.{closes_count, gathered_stays, last_count, unreached_counted}

-- ---- counts

-- a count that rose earlier
rose_before : (old mid new : ℕ) → Rose old mid → mid ≤ new → Rose old new
rose_before old mid new (inl rose) later = inl (omega arith)
rose_before old mid new (inr still) later = elim (cases_lt mid new) [
  | inl lt ↦ inl (omega (arith, still.0, still.1))
  | inr ge ↦ inr (still.0, omega (arith, still.1))
]

-- a count that rose from 0 is above it
above : (n : ℕ) → Rose 0 n → 0 < n
above n (inl some) = some
above n (inr still) = absurd (omega (arith, still.0))

counted : (came left lent old new : ℕ) → came ≡ 0 → lent ≡ old → CountsBack left lent new → Rose came left → Rose old new
counted came left lent old new none same counts rose =
    let P : ℕ → Type 0 = λ n. Rose n left in
    let Q : ℕ → Type 0 = λ n. Rose n new in
    subst Q same (counts.rose (above left (subst P none rose)))

-- where a gathering ended as its link failed, the link that was given back counts as failed
link_failed : {W A B : Type 0} (handles : Handled → Scene W A B → Scene W A B → Type 0) (order : OrderView) (old new : Situation W A B)
    → Reaches handles (gather_end.Received recv_end.LinkFault) order old new → Rose old.net.links.failed new.net.links.failed
link_failed handles order old new reaches =
    let holds = reaches.holds in
    counted reaches.came.faults holds.left.faults reaches.lent.links.failed old.net.links.failed new.net.links.failed reaches.dialled.0.no_faults
    (ap (λ (d : DialRecord). d.links.failed) reaches.dialled.1) holds.given_back.0.failed holds.gathered.cause

closed_of : (answer : Done) (mid new : Standing) → mid.outputs.spent ≡ None → Closes answer mid new → ClosesBy None answer mid new
closed_of answer mid new none closes = subst (λ (spent : Option Fault). ClosesBy spent answer mid new) none closes

-- a status that is reported has its number
reported : (it : Status) (code : ℕ) (old new : SinkRecord) → ¬ (Rose old.faults new.faults) → ReportsBecause it code old new → code ≡ code_of it
reported it code old new works (reason, is_reason, inl told) = told.0
reported it code old new works (reason, is_reason, inr failed) = absurd (works failed.1)

-- no count of the store fell since the state was taken
ends_count : {F L : Type 0} (store_tells : F → StoreRecord) (launcher_tells : L → LauncherRecord) (ending : PqactEnd) (order : OrderView) (duty : Duty)
    (old new : PqactLent F L) → ActEnds store_tells launcher_tells ending order duty old new → (store_tells old.store).faults ≤ (store_tells new.store).faults
ends_count {F} {L} store_tells launcher_tells ending order duty old new (inl none) =
    omega (arith, ap (λ (lent : PqactLent F L). (store_tells lent.store).faults) none.others)
ends_count {F} {L} store_tells launcher_tells ending order duty old new (inr makes) = by_gathered makes.ran.gathered makes.ran.connects makes.ran.closes
  where
    first : Here F L
    first = here_of (acter_at makes.k order.count duty) makes.first old

    mid : Here F L
    mid = makes.ran.mid

    by_gathered : (gathered : Option GatherEnd) → Connects (ActHandles store_tells launcher_tells) gathered order (within first) (within mid)
        → ClosesIf store_tells launcher_tells ending gathered first mid new → (store_tells old.store).faults ≤ (store_tells new.store).faults
    by_gathered None connects closes =
        let one = unreached_counted store_tells launcher_tells order (within first) (within mid) connects in
        omega (arith, one.store, ap (λ (lent : PqactLent F L). (store_tells lent.store).faults) closes.1)
    by_gathered (Some gathered) connects closes =
        let one = gathered_stays store_tells launcher_tells gathered _ _ _ connects.holds.gathered.gathers in
        let all = closes.closes in
        let two = closes_count all.answer (standing_at store_tells launcher_tells mid) (standing all.closes.left all.shut_store all.shut_launcher) all.closes.closes in
        let three = last_count gathered _ (standing no_outputs all.shut_store all.shut_launcher) (store_tells new.store) (launcher_tells new.launcher) all.keeps in
        omega (arith, one.counted.store, two.store, three.0)

-- The store has the files that it had, and its count of faults.
record HasSame (begun old : StoreRecord) : Type 0 where
  files : begun.files ≡ old.files
  faults : begun.faults ≡ old.faults

same_record : (begun old : StoreRecord) → begun ≡ old → HasSame begun old
same_record begun old is = record { files = ap (λ (s : StoreRecord). s.files) is; faults = ap (λ (s : StoreRecord). s.faults) is }

same_then : (a b c : StoreRecord) → HasSame b a → HasSame c b → HasSame c a
same_then a b c one two = record { files = two.files ∙ one.files; faults = two.faults ∙ one.faults }

other_same : (path : List ℕ) (old new : StoreRecord) → HasOther path old new → HasSame new old
other_same path old new (inl has) = same_record new old has.3
other_same path old new (inr long) = record { files = ap (λ (s : StoreRecord). s.files) long.1; faults = ap (λ (s : StoreRecord). s.faults) long.1 }

-- where no count of faults rose, the state that was taken was read, and the store has what it had
taken_same : (state : Option (List ℕ)) (last : Option Signature) (old read begun : StoreRecord) → read ≡ old → ¬ (Rose old.faults begun.faults)
    → TakesStateIf (Ok last) state read begun → HasSame begun old
taken_same None last old read begun same works takes = same_record begun old (takes.1 ∙ same)
taken_same (Some path) None old read begun same works takes = absurd (works (subst (λ (s : StoreRecord). Rose s.faults begun.faults) same takes.0))
taken_same (Some path) (Some signature) old read begun same works (inl has) = same_record begun old (has.3 ∙ same)
taken_same (Some path) (Some signature) old read begun same works (inr spare) =
    same_then old read begun (same_record read old same)
    (same_then read spare.0 begun (other_same path read spare.0 spare.1) (same_record begun spare.0 spare.2.3))

module _ {F L : Type 0} (store_tells : F → StoreRecord) (launcher_tells : L → LauncherRecord) (order : OrderView) (paths : ActPaths) (old ended : PqactLent F L) (log : SinkRecord)
    (free : Unfailing store_tells launcher_tells old (record ended { log = log })) (earlier : old.log.faults ≤ ended.log.faults) (later : ended.log.faults ≤ log.faults) where
  -- it ends with a status, and what that needs is there
  abbrev Finishes : PqactEnd → Type 0
  Finishes ending = (it : Status) × (status_of ending ≡ Some it) × IsComplete store_tells launcher_tells it order paths old (record ended { log = log })

  -- the log did not fail before its last lines, nor by them
  log_works : ¬ (Rose old.log.faults ended.log.faults)
  log_works = λ rose. free.log (rose_before old.log.faults ended.log.faults log.faults rose later)

  line_works : ¬ (Rose ended.log.faults log.faults)
  line_works = λ rose. free.log (Rose-later old.log.faults ended.log.faults log.faults earlier rose)

  none_taken : (ending : PqactEnd) → TakesNone store_tells launcher_tells ending paths.conf old ended → Finishes ending
  none_taken ending none = subst (λ (e : PqactEnd). Finishes e) (sym none.is) (by_why none.why none.takes)
    where
      by_why : (why : EntriesNotTaken) → TakesEntries (Err why) paths.conf (store_tells old.store) (store_tells ended.store) → Finishes (NotTaken why)
      by_why (not_taken.Bad fault) takes = (status_of_entries (not_taken.Bad fault), refl, (not_taken.Bad fault, refl, takes))
      by_why not_taken.TooLong takes = (status_of_entries not_taken.TooLong, refl, (not_taken.TooLong, refl, takes))
      by_why not_taken.Store takes = absurd (free.store takes.0)
      by_why not_taken.OutOfMemory takes = (status.NoMemory, refl, tt)

  none_resumed : (ending : PqactEnd) (lent : PqactLent F L) → store_tells lent.store ≡ store_tells old.store
      → ResumesNot store_tells launcher_tells ending paths.state lent ended → Finishes ending
  none_resumed ending lent same none =
      subst (λ (e : PqactEnd). Finishes e) (sym none.is)
      (by_why none.why (subst (λ (s : StoreRecord). TakesStateIf (Err none.why) paths.state s (store_tells ended.store)) same none.takes))
    where
      by_why : (why : StateNotTaken) → TakesStateIf (Err why) paths.state (store_tells old.store) (store_tells ended.store) → Finishes (NotResumed why)
      by_why not_resumed.Bad takes = (status_of_state not_resumed.Bad, refl, (not_resumed.Bad, refl, takes))
      by_why not_resumed.OutOfMemory takes = (status.NoMemory, refl, tt)

  none_made : (ending : PqactEnd) (lent : PqactLent F L) → MakesNone ending order lent ended → Finishes ending
  none_made ending lent none = subst (λ (e : PqactEnd). Finishes e) (sym none.is) (by_fault none.fault none.cause)
    where
      by_fault : (fault : CreateFault) → (fault ≡ queue.OutOfMemory) ⊎ IsFaultOf order.arena order.slots PASSES fault → Finishes (NotMade fault)
      by_fault (queue.BadArena arena) (inl is) = absurd (cc is)
      by_fault (queue.BadArena arena) (inr bad) = (status.RefusedArena arena, refl, bad)
      by_fault (queue.BadSlots slots) (inl is) = absurd (cc is)
      by_fault (queue.BadSlots slots) (inr bad) = (status.RefusedSlots slots, refl, bad)
      by_fault (queue.BadPasses passes) (inl is) = absurd (cc is)
      by_fault (queue.BadPasses passes) (inr bad) = (status.RefusedPasses passes, refl, bad)
      by_fault queue.OutOfMemory cause = (status.NoMemory, refl, tt)

  -- ---- a queue was made, and a gathering left that

  module _ (entries : List EntryView) (read : F) (takes : TakesEntries (Ok entries) paths.conf (store_tells old.store) (store_tells read)) (last : Option Signature) (begun : F)
      (resumes : TakesStateIf (Ok last) paths.state (store_tells read) (store_tells begun)) (same : HasSame (store_tells begun) (store_tells old.store)) (k : ℕ) (pass : PassView)
      (opened : Opens order k pass) (mid : Here F L) where
    abbrev first : Here F L
    first = here_of (acter_at k order.count (duty_of entries paths.state)) pass (record old { store = begun })

    abbrev before : Standing
    before = standing_at store_tells launcher_tells first

    abbrev behind_all : Standing
    behind_all = standing_at store_tells launcher_tells mid

    abbrev seen : Here F L → Sight
    seen here = sight_at store_tells launcher_tells here

    abbrev Gathered : GatherEnd → Type 0
    Gathered gathered = Connects (ActHandles store_tells launcher_tells) (Some gathered) (behind last order) (within first) (within mid)

    abbrev Acted : GatherEnd → Type 0
    Acted gathered = ActsAll gathered mid.acter first.acter (seen first) (seen mid)

    abbrev Shuts : Done → Type 0
    Shuts answer = ClosesOutputs answer behind_all (store_tells ended.store) (launcher_tells ended.launcher)

    store_works : ¬ (Rose before.store.faults (store_tells ended.store).faults)
    store_works = λ rose. free.store (subst (λ (n : ℕ). Rose n (store_tells ended.store).faults) same.faults rose)

    launcher_works : ¬ (Rose before.launcher.faults (launcher_tells ended.launcher).faults)
    launcher_works = λ rose. free.launcher rose

    stood : (gathered : GatherEnd) → (acts : Acted gathered) → acts.ended ≡ end.Stopped → Stands acts.came.whole before behind_all
    stood gathered acts is = subst (λ (e : ActEnd). Carries e acts.came.whole acts.came.broken before behind_all) is acts.carried

    gave : (gathered : GatherEnd) → (acts : Acted gathered) → acts.ended ≡ end.Stopped → Gives k acts.came.turns pass mid.pass
    gave gathered acts is =
        let none : acts.came.in_hand ≡ [] = subst (λ (e : ActEnd). IsInHand e acts.came.in_hand) is acts.is_in_hand in
        subst (λ (ts : List Turn). Gives k ts pass mid.pass) (ap (λ (ts : List Turn). acts.came.turns ++ ts) none ∙ append-nil acts.came.turns) acts.gives

    counts : (gathered : GatherEnd) → (acts : Acted gathered) → acts.ended ≡ end.Stopped → IsCounted gathered order.count (count_of acts.came.turns)
    counts gathered acts is =
        let none : acts.came.in_hand ≡ [] = subst (λ (e : ActEnd). IsInHand e acts.came.in_hand) is acts.is_in_hand in
        subst (λ (ts : List Turn). IsCounted gathered order.count (count_of ts)) (ap (λ (ts : List Turn). acts.came.turns ++ ts) none ∙ append-nil acts.came.turns)
        acts.counted

    -- the actions of all turns
    all_deeds : (gathered : GatherEnd) → (acts : Acted gathered) → acts.ended ≡ end.Stopped → AreWhole paths.state entries acts.came.turns acts.came.whole
    all_deeds gathered acts is = by_state paths.state (subst (λ (e : ActEnd). AreDeeds (option_map state_actions paths.state) entries e acts.came) is acts.are_deeds)
      where
        by_state : (state : Option (List ℕ)) → AreDeeds (option_map state_actions state) entries end.Stopped acts.came → AreWhole state entries acts.came.turns acts.came.whole
        by_state None deeds = deeds.0
        by_state (Some path) deeds = (
          deeds.batches,
          sym (deeds.are_turns ∙ (ap (λ (ts : List Turn). turns_in deeds.batches ++ ts) deeds.is_rest ∙ append-nil (turns_in deeds.batches))),
          deeds.are_whole
              ∙ (ap (λ (ts : List Turn). flat_map (batch_deeds (state_actions path) entries) deeds.batches ++ deeds_of entries ts) deeds.is_rest
              ∙ append-nil (flat_map (batch_deeds (state_actions path) entries) deeds.batches)),
        )

    -- all was acted on, and the outputs were closed
    closed_by : (gathered : GatherEnd) (well : PqactEnd) (answer : Done) → status_of well ≡ Some status.Done → IsWholeEnd gathered → Gathered gathered
        → (acts : Acted gathered) → acts.ended ≡ end.Stopped → Shuts answer → Finishes (after_closing well answer)
    closed_by gathered well done.Ok is_done is_end connects acts is shuts =
        let stands = stood gathered acts is in
        let shut = closed_of done.Ok behind_all (standing shuts.left (store_tells ended.store) (launcher_tells ended.launcher)) stands.as_before shuts.closes in
        let unpiped : World → World = λ w. record { outside = w.outside; piped = [] } in (
          status.Done,
          is_done,
          record {
            entries = entries;
            read = read;
            takes = takes;
            last = last;
            begun = begun;
            resumes = resumes;
            k = k;
            first = pass;
            opened = opened;
            gathered = gathered;
            is_end = is_end;
            mid = mid;
            connects = connects;
            turns = acts.came.turns;
            gives = gave gathered acts is;
            counted = counts gathered acts is;
            deeds = acts.came.whole;
            are_deeds = all_deeds gathered acts is;
            stands =
                ap unpiped shut.0.0.world_now ∙ (ap closed stands.world
                ∙ ap (λ (files : Option (List File)). closed (effects acts.came.whole (world_in (standing no_outputs (record (store_tells begun) { files = files }) (launcher_tells old.launcher))))) same.files);
          },
        )
    closed_by gathered well done.StoreFault is_done is_end connects acts is shuts =
        let stands = stood gathered acts is in
        let shut = closed_of done.StoreFault behind_all (standing shuts.left (store_tells ended.store) (launcher_tells ended.launcher)) stands.as_before shuts.closes in
        absurd (store_works (Rose-later before.store.faults behind_all.store.faults (store_tells ended.store).faults (omega (arith, stands.store_faults)) shut.0.rose))
    closed_by gathered well done.LaunchFault is_done is_end connects acts is shuts =
        let stands = stood gathered acts is in
        let shut = closed_of done.LaunchFault behind_all (standing shuts.left (store_tells ended.store) (launcher_tells ended.launcher)) stands.as_before shuts.closes in
        absurd (launcher_works (Rose-later before.launcher.faults behind_all.launcher.faults (launcher_tells ended.launcher).faults (omega (arith, stands.launcher_faults)) shut.0.rose))

    abbrev ClosesBehind : PqactEnd → GatherEnd → Type 0
    ClosesBehind ending gathered = ClosesRun store_tells launcher_tells ending gathered first mid ended

    -- no count fell by the closing of the outputs and the last state
    shut_counts : (ending : PqactEnd) (gathered : GatherEnd) → ClosesBehind ending gathered
        → (behind_all.store.faults ≤ (store_tells ended.store).faults) × (behind_all.launcher.faults ≤ (launcher_tells ended.launcher).faults)
    shut_counts ending gathered closes =
        let all = closes.closes in
        let shut = closes_count all.answer behind_all (standing all.closes.left all.shut_store all.shut_launcher) all.closes.closes in
        let last_one = last_count gathered _ (standing no_outputs all.shut_store all.shut_launcher) (store_tells ended.store) (launcher_tells ended.launcher) all.keeps in
        (omega (arith, shut.store, last_one.0), omega (arith, shut.launcher, last_one.1))

    -- nothing is written behind the outputs where acting on products did not stop
    unwritten : (gathered : GatherEnd) → IsWholeEnd gathered → (all : ClosesAll gathered mid.acter behind_all (store_tells ended.store) (launcher_tells ended.launcher))
        → Shuts all.answer
    unwritten (gather_end.Received e) whole all =
        subst (λ (s : StoreRecord). ClosesOutputs all.answer behind_all s (launcher_tells ended.launcher)) (sym all.keeps.0)
        (subst (λ (l : LauncherRecord). ClosesOutputs all.answer behind_all all.shut_store l) (sym all.keeps.1) all.closes)
    unwritten gather_end.Enough whole all =
        subst (λ (s : StoreRecord). ClosesOutputs all.answer behind_all s (launcher_tells ended.launcher)) (sym all.keeps.0)
        (subst (λ (l : LauncherRecord). ClosesOutputs all.answer behind_all all.shut_store l) (sym all.keeps.1) all.closes)
    unwritten gather_end.Stopped (inl is) all = absurd cc
    unwritten gather_end.Stopped (inr is) all = absurd cc

    -- nothing but the outputs is touched behind it
    same_net : (ending : PqactEnd) (gathered : GatherEnd) → ClosesBehind ending gathered → ended.net ≡ mid.lent.net
    same_net ending gathered closes = ap (λ (lent : PqactLent F L). lent.net) closes.others

    log_worked : (ending : PqactEnd) (gathered : GatherEnd) → ClosesBehind ending gathered → ¬ (Rose old.log.faults mid.lent.log.faults)
    log_worked ending gathered closes =
        let same : ended.log ≡ mid.lent.log = ap (λ (lent : PqactLent F L). lent.log) closes.others in
        λ rose. log_works (subst (λ (s : SinkRecord). Rose old.log.faults s.faults) (sym same) rose)

    -- by what the handler stopped for
    by_cause : (cause : ActStop) (ending : PqactEnd) (gathered : GatherEnd) → ClosesBehind ending gathered → StopCause cause (seen first) (seen mid) → Finishes (Stopped cause)
    by_cause stop.StoreFault ending gathered closes rose =
        absurd (store_works (rose_before before.store.faults behind_all.store.faults (store_tells ended.store).faults rose (shut_counts ending gathered closes).0))
    by_cause stop.LaunchFault ending gathered closes rose =
        absurd (launcher_works (rose_before before.launcher.faults behind_all.launcher.faults (launcher_tells ended.launcher).faults rose (shut_counts ending gathered closes).1))
    by_cause stop.LogFault ending gathered closes rose = absurd (log_worked ending gathered closes rose)
    by_cause stop.Worn ending gathered closes worn = (status.Worn, refl, tt)
    by_cause stop.OutOfMemory ending gathered closes none = (status.NoMemory, refl, tt)

    by_end : (gathered : GatherEnd) (ending : PqactEnd) → Gathered gathered → ClosesBehind ending gathered → Finishes ending
    by_end (gather_end.Received recv_end.Ended) ending connects closes =
        subst (λ (e : PqactEnd). Finishes e) (sym closes.is_end)
        (closed_by (gather_end.Received recv_end.Ended) (Received recv_end.Ended) closes.closes.answer refl (inl refl) connects closes.acts closes.acts.is_ended
        (unwritten (gather_end.Received recv_end.Ended) (inl refl) closes.closes))
    by_end (gather_end.Received (recv_end.Truncated at)) ending connects closes = subst (λ (e : PqactEnd). Finishes e) (sym closes.is_end) (status.BadFrame at, refl, tt)
    by_end (gather_end.Received (recv_end.BadFrame at)) ending connects closes = subst (λ (e : PqactEnd). Finishes e) (sym closes.is_end) (status.BadFrame at, refl, tt)
    by_end (gather_end.Received (recv_end.Refused answer)) ending connects closes = subst (λ (e : PqactEnd). Finishes e) (sym closes.is_end) (status.Denied, refl, tt)
    by_end (gather_end.Received recv_end.LinkFault) ending connects closes =
        absurd (free.links (subst (λ (net : DialRecord). Rose old.net.links.failed net.links.failed) (sym (same_net ending (gather_end.Received recv_end.LinkFault) closes))
        (link_failed (ActHandles store_tells launcher_tells) (behind last order) (within first) (within mid) connects)))
    by_end (gather_end.Received recv_end.LogFault) ending connects closes =
        absurd (log_worked ending (gather_end.Received recv_end.LogFault) closes connects.holds.gathered.cause)
    by_end (gather_end.Received recv_end.StreamLimit) ending connects closes = subst (λ (e : PqactEnd). Finishes e) (sym closes.is_end) (status.StreamLimit, refl, tt)
    by_end (gather_end.Received recv_end.Worn) ending connects closes = subst (λ (e : PqactEnd). Finishes e) (sym closes.is_end) (status.Worn, refl, tt)
    by_end (gather_end.Received recv_end.OutOfMemory) ending connects closes = subst (λ (e : PqactEnd). Finishes e) (sym closes.is_end) (status.NoMemory, refl, tt)
    by_end gather_end.Enough ending connects closes =
        subst (λ (e : PqactEnd). Finishes e) (sym closes.is_end)
        (closed_by gather_end.Enough Enough closes.closes.answer refl (inr refl) connects closes.acts closes.acts.is_ended
        (unwritten gather_end.Enough (inr refl) closes.closes))
    by_end gather_end.Stopped ending connects closes =
        let at = closes.is_end in
        let cause : StopCause at.0 (seen first) (seen mid) =
        subst (λ (why : Option ActStop). IfSome why (λ (it : ActStop). StopCause it (seen first) (seen mid))) at.1 (closes.acts.cause refl) in
        subst (λ (e : PqactEnd). Finishes e) (sym at.2) (by_cause at.0 ending gather_end.Stopped closes cause)

    by_gathered : (gathered : Option GatherEnd) (ending : PqactEnd) → Connects (ActHandles store_tells launcher_tells) gathered (behind last order) (within first) (within mid)
        → ClosesIf store_tells launcher_tells ending gathered first mid ended → Finishes ending
    by_gathered (Some gathered) ending connects closes = by_end gathered ending connects closes
    by_gathered None ending connects closes =
        absurd (free.net (subst (λ (lent : PqactLent F L). Rose old.net.faults lent.net.faults) (sym closes.1) connects.dialled.0))

  -- ---- all of it

  finishes : (ending : PqactEnd) → PqactEnds store_tells launcher_tells ending order paths old ended → Finishes ending
  finishes ending (inl none) = none_taken ending none
  finishes ending (inr some) = by_state some.resumes
    where
      entries : List EntryView
      entries = some.entries

      lent : PqactLent F L
      lent = record old { store = some.read }

      -- where the state is read, the store is as it was, since no count of it rose
      by_begin : (last : Option Signature) (begun : F) → TakesStateIf (Ok last) paths.state (store_tells some.read) (store_tells begun)
          → HasSame (store_tells begun) (store_tells old.store) → ActEnds store_tells launcher_tells ending (behind last order) (duty_of entries paths.state) (record old { store = begun }) ended
          → Finishes ending
      by_begin last begun takes same (inl none) = none_made ending (record old { store = begun }) (record { fault = none.fault; is = none.is; cause = none.cause; others = none.others })
      by_begin last begun takes same (inr makes) =
          by_gathered entries some.read some.takes last begun takes same makes.k makes.first
          (record { queue = makes.opened.queue; arena = makes.opened.arena; slots = makes.opened.slots; passes = makes.opened.passes; opened = makes.opened.opened }) makes.ran.mid
          makes.ran.gathered ending makes.ran.connects makes.ran.closes

      counts_of : (last : Option Signature) (begun : F) → ActEnds store_tells launcher_tells ending (behind last order) (duty_of entries paths.state) (record old { store = begun }) ended
          → (store_tells begun).faults ≤ (store_tells ended.store).faults
      counts_of last begun acts = ends_count store_tells launcher_tells ending (behind last order) (duty_of entries paths.state) (record old { store = begun }) ended acts

      by_state : ResumesBy store_tells launcher_tells ending order (duty_of entries paths.state) lent ended → Finishes ending
      by_state (inl none) = none_resumed ending lent some.takes.1 none
      by_state (inr makes) = by_begin makes.last makes.begun makes.takes (taken_same paths.state makes.last (store_tells old.store) (store_tells some.read) (store_tells makes.begun)
          some.takes.1 (λ rose. free.store (rose_before (store_tells old.store).faults (store_tells makes.begun).faults (store_tells ended.store).faults rose (counts_of makes.last makes.begun makes.acts)))
          makes.takes) makes.acts

  numbered : (ending : PqactEnd) (code : ℕ) → ReportsIf (status_of ending) code ended.log log → Finishes ending
      → (it : Status) × (code ≡ code_of it) × IsComplete store_tells launcher_tells it order paths old (record ended { log = log })
  numbered ending code reports at =
      (at.0, reported at.0 code ended.log log line_works (subst (λ (o : Option Status). ReportsIf o code ended.log log) at.1 reports), at.2)

pub pqact_completes : {F L : Type 0} (store_tells : F → StoreRecord) (launcher_tells : L → LauncherRecord) (order : OrderView) (paths : ActPaths) (old ended : PqactLent F L) (log : SinkRecord)
    → old.log.faults ≤ ended.log.faults → ended.log.faults ≤ log.faults → (ending : PqactEnd) (code : ℕ)
    → PqactEnds store_tells launcher_tells ending order paths old ended → ReportsIf (status_of ending) code ended.log log
    → PqactCompletes store_tells launcher_tells code order paths old (record ended { log = log })
pqact_completes store_tells launcher_tells order paths old ended log earlier later ending code ends reports free =
    numbered store_tells launcher_tells order paths old ended log free earlier later ending code reports
    (finishes store_tells launcher_tells order paths old ended log free earlier later ending ends)
