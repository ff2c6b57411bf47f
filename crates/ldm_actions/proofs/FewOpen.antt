-- How many files are open in the store after each call.
use Rattle.std.proofs.Common.{◌≡◌, ℕ, ◌≤◌, Bool, true, false, cond, List, [], ◌∷◌, length, Option, Some, None, refl, sym, ap, subst, arith}
use Rattle.std.specs.BTreeMap.{is_at}
use Rattle.std.specs.Map.{remove_entry}
use Rattle.std.specs.Ordering.{nat_cmp}
use Rattle.ldm_outside.specs.Launcher.{LauncherRecord}
use Rattle.ldm_outside.specs.Store.{StoreRecord}
use Rattle.ldm_actions.specs.declared.answers.Begun.{Begun}
use Rattle.ldm_actions.specs.declared.answers.Begun.TheVariants as answer
use Rattle.ldm_actions.specs.declared.answers.Done.{Done}
use Rattle.ldm_actions.specs.declared.answers.Done.TheVariants as done
use Rattle.ldm_actions.specs.declared.answers.Fault.{Fault}
use Rattle.ldm_actions.specs.declared.answers.Fault.TheVariants as fault
use Rattle.ldm_actions.specs.declared.limits.TheConstants.{MOST_OPEN}
use Rattle.ldm_actions.specs.Effects.{Action, InHand}
use Rattle.ldm_actions.specs.OpenFiles.{all_shut}
use Rattle.ldm_actions.specs.Outputs.{Becomes, Begins, BeginsBy, Closes, ClosesBy, Finishes, FinishesBy, Gives, GivesBy, LauncherStops, OpensFew, OpensOnlyKept, Standing, StoreStops, kept_by, no_outputs, standing}
use Rattle.ldm_actions.specs.World.{Outside, World}
use Rattle.ldm_actions.proofs.KeptLemmas.{Entry}

no_more_removed : {K A : Type 0} (test : K → Bool) (entries : List (K × A)) → length (remove_entry test entries) ≤ length entries
no_more_removed test [] = omega arith
no_more_removed test (entry ∷ entries) = by_test (test entry.0) (no_more_removed test entries)
  where
    by_test : (b : Bool) → length (remove_entry test entries) ≤ length entries →
        length (cond b entries (entry ∷ remove_entry test entries)) ≤ length (entry ∷ entries)
    by_test true later = omega arith
    by_test false later = omega arith

no_more_shut : (kept : List Entry) (store : StoreRecord) → length (all_shut kept store).paths ≤ length store.paths
no_more_shut [] store = omega arith
no_more_shut (it ∷ others) store =
    let later = no_more_shut others store in
    let less = no_more_removed (is_at (nat_cmp it.1)) (all_shut others store).paths in
    omega (arith, later, less)

nothing_of_none : (paths : List (ℕ × List ℕ)) → length paths ≤ 0 → paths ≡ []
nothing_of_none [] few = refl
nothing_of_none (it ∷ paths) few = absurd (omega (arith, few))

pub few_at_first : (store : StoreRecord) (launcher : LauncherRecord) → store.paths ≡ [] → OpensFew (standing no_outputs store launcher)
few_at_first store launcher none =
    let nothing : length store.paths ≤ 0 = omega (arith, ap length none) in
    record { few = omega (arith, nothing); only_kept = λ _. nothing }

module _ (old new : Standing) where
  few_same : new ≡ old → OpensFew old → OpensFew new
  few_same is few = subst OpensFew (sym is) few

  few_becomes : (world : World) (files : List Entry) → Becomes world files (kept_by old) (kept_by new) → OpensOnlyKept (kept_by old) → OpensFew new
  few_becomes world files becomes only =
      let now = becomes.only_kept only in record { few = omega (arith, now, becomes.keeps.files.few); only_kept = λ _. now }

  few_of_spent : (why : Fault) → new.outputs.spent ≡ Some why → length new.store.paths ≤ MOST_OPEN → OpensFew new
  few_of_spent why spent few = record { few = few; only_kept = λ none. absurd (cc) }

  few_store_stops : (IsPart : Outside → Type 0) → StoreStops IsPart (kept_by old) (kept_by new) → OpensOnlyKept (kept_by old) →
      new.outputs.spent ≡ Some fault.Store → OpensFew new
  few_store_stops IsPart stops only spent = few_of_spent fault.Store spent (stops.few_open only)

  few_launcher_stops : (IsPart : Outside → Type 0) (store : StoreRecord) → LauncherStops IsPart store (kept_by old) (kept_by new) →
      length store.paths ≤ MOST_OPEN → new.outputs.spent ≡ Some fault.Launch → OpensFew new
  few_launcher_stops IsPart store stops few spent =
      few_of_spent fault.Launch spent (omega (arith, few, ap (λ (s : StoreRecord). length s.paths) stops.store_now))

  begins_anew : (result : Begun) (action : Action) → old.outputs.spent ≡ None → BeginsBy None result action old new → OpensFew old → OpensFew new
  begins_anew answer.Ready action unspent it few = few_becomes _ _ it.0.0 (few.only_kept unspent)
  begins_anew answer.StoreFault action unspent it few = few_store_stops _ it.0 (few.only_kept unspent) it.1
  begins_anew answer.LaunchFault action unspent it few = few_launcher_stops _ _ it.0 few.few it.1
  begins_anew answer.OutOfMemory action unspent it few = few_same it.1 few

  begins_by : (result : Begun) (action : Action) (spent : Option Fault) → old.outputs.spent ≡ spent → BeginsBy spent result action old new → OpensFew old → OpensFew new
  begins_by result action None is it few = begins_anew result action is it few
  begins_by result action (Some why) is it few = few_same it.1 few

  pub few_begun : (result : Begun) (action : Action) → Begins result action old new → OpensFew old → OpensFew new
  few_begun result action it few = begins_by result action old.outputs.spent refl it few

  gives_on : (result : Done) (hand : InHand) (bytes : List ℕ) → old.outputs.spent ≡ None → GivesBy None (Some hand) result bytes old new → OpensFew old → OpensFew new
  gives_on done.Ok hand bytes unspent it few = few_becomes _ _ it.0.0 (few.only_kept unspent)
  gives_on done.StoreFault hand bytes unspent it few = few_store_stops _ it.0 (few.only_kept unspent) it.1
  gives_on done.LaunchFault hand bytes unspent it few = few_launcher_stops _ _ it.0 few.few it.1

  gives_by : (result : Done) (bytes : List ℕ) (spent : Option Fault) (hand : Option InHand) → old.outputs.spent ≡ spent → GivesBy spent hand result bytes old new →
      OpensFew old → OpensFew new
  gives_by result bytes None None is it few = absurd it
  gives_by result bytes None (Some hand) is it few = gives_on result hand bytes is it few
  gives_by result bytes (Some why) hand is it few = few_same it.1 few

  pub few_given : (result : Done) (bytes : List ℕ) → Gives result bytes old new → OpensFew old → OpensFew new
  few_given result bytes it few = gives_by result bytes old.outputs.spent old.outputs.hand refl it few

  finishes_on : (result : Done) (hand : InHand) → old.outputs.spent ≡ None → FinishesBy None (Some hand) result old new → OpensFew old → OpensFew new
  finishes_on done.Ok hand unspent it few = few_becomes _ _ it.0.0 (few.only_kept unspent)
  finishes_on done.StoreFault hand unspent it few = few_store_stops _ it.0 (few.only_kept unspent) it.1
  finishes_on done.LaunchFault hand unspent it few = few_launcher_stops _ _ it.0 few.few it.1

  finishes_by : (result : Done) (spent : Option Fault) (hand : Option InHand) → old.outputs.spent ≡ spent → FinishesBy spent hand result old new → OpensFew old →
      OpensFew new
  finishes_by result None None is it few = absurd it
  finishes_by result None (Some hand) is it few = finishes_on result hand is it few
  finishes_by result (Some why) hand is it few = few_same it.1 few

  pub few_finished : (result : Done) → Finishes result old new → OpensFew old → OpensFew new
  few_finished result it few = finishes_by result old.outputs.spent old.outputs.hand refl it few

  closes_anew : (result : Done) → old.outputs.spent ≡ None → ClosesBy None result old new → OpensFew old → OpensFew new
  closes_anew done.Ok unspent it few = few_becomes _ _ it.0.0 (few.only_kept unspent)
  closes_anew done.StoreFault unspent it few = few_store_stops _ it.0 (few.only_kept unspent) it.1
  closes_anew done.LaunchFault unspent it few =
      few_launcher_stops _ _ it.0 (omega (arith, few.few, no_more_shut old.outputs.files old.store)) it.1

  closes_by : (result : Done) (spent : Option Fault) → old.outputs.spent ≡ spent → ClosesBy spent result old new → OpensFew old → OpensFew new
  closes_by result None is it few = closes_anew result is it few
  closes_by result (Some why) is it few = few_same it.1 few

  pub few_closed : (result : Done) → Closes result old new → OpensFew old → OpensFew new
  few_closed result it few = closes_by result old.outputs.spent refl it few

  none_by : (spent : Option Fault) → old.outputs.spent ≡ spent → ClosesBy spent done.Ok old new → OpensFew old → new.store.paths ≡ []
  none_by None is it few =
      nothing_of_none new.store.paths (omega (arith, it.0.0.only_kept (few.only_kept is), ap length it.0.0.files_now))
  none_by (Some fault.Store) is it few = absurd (cc it.0)
  none_by (Some fault.Launch) is it few = absurd (cc it.0)

  pub none_at_last : Closes done.Ok old new → OpensFew old → new.store.paths ≡ []
  none_at_last it few = none_by old.outputs.spent refl it few
