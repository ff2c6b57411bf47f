-- How the state is taken, and what came of it behind the products of a batch.
use Rattle.std.proofs.Common.{◌≡◌, ℕ, List, [], ◌∷◌, Option, Some, None, Result, Ok, Err, inr, refl, sym, subst}
use Rattle.ldm_actions.specs.Effects.{Action}
use Rattle.ldm_actions.specs.Outputs.{Standing}
use Rattle.ldm_pqact.specs.declared.end.ActEnd.{ActEnd}
use Rattle.ldm_pqact.specs.declared.end.ActEnd.TheVariants as end
use Rattle.ldm_pqact_command.specs.declared.stop.ActStop.{ActStop}
use Rattle.ldm_pqact_command.specs.declared.stop.ActStop.TheVariants as stop
use Rattle.ldm_outside.specs.Store.{StoreRecord}
use Rattle.ldm_types.specs.declared.signature.Signature.{Signature}
use Rattle.ldm_pqact.specs.Carried.{DoesBy, Stands}
use Rattle.ldm_pqact.proofs.Carrying.{Deed, breaks_off_before, breaks_off_behind, stands_then}
use Rattle.ldm_pqact_command.specs.declared.state.StateNotTaken.{StateNotTaken}
use Rattle.ldm_pqact_command.specs.declared.state.StateNotTaken.TheVariants as not_taken
use Rattle.ldm_pqact_command.specs.State.{HasOther, KeepsState, StateActions, TakesSpare, TakesState, state_deeds, state_text}
use Rattle.ldm_pqact_command.specs.Stops.{end_of}

-- it is not written where acting on products broke off
pub keeps_none : (cause : ActStop) (acted : ActEnd) (deeds : List (Action × List ℕ)) (now : Standing) → acted ≡ end_of cause → KeepsState acted acted deeds now now
keeps_none cause acted deeds now is = subst (λ (e : ActEnd). KeepsState e e deeds now now) (sym is) (by_cause cause)
  where
    by_cause : (cause : ActStop) → KeepsState (end_of cause) (end_of cause) deeds now now
    by_cause stop.StoreFault = (refl, refl)
    by_cause stop.LaunchFault = (refl, refl)
    by_cause stop.LogFault = (refl, refl)
    by_cause stop.Worn = (refl, refl)
    by_cause stop.OutOfMemory = (refl, refl)

pub keeps_behind : (acted ended : ActEnd) (deeds : List (Action × List ℕ)) (mid new : Standing) → acted ≡ end.Stopped → KeepsState end.Stopped ended deeds mid new
    → KeepsState acted ended deeds mid new
keeps_behind acted ended deeds mid new is keeps = subst (λ (e : ActEnd). KeepsState e ended deeds mid new) (sym is) keeps

-- ---- two files

-- the one was written, and then the other, or a part of it
pub both_then : (why : ActEnd) (one two : Deed) (a b c : Standing) → Stands (one ∷ []) a b → DoesBy why (two ∷ []) b c → DoesBy why (one ∷ two ∷ []) a c
both_then end.Stopped one two a b c first second = stands_then (one ∷ []) (two ∷ []) a b c first second
both_then why one two a b c first second = (second.0, breaks_off_behind why (one ∷ []) (two ∷ []) a b c first second.1)

-- the one was not written, or a part of it
pub both_before : (why : ActEnd) (one two : Deed) (a b : Standing) → ¬ (why ≡ end.Stopped) → DoesBy why (one ∷ []) a b → DoesBy why (one ∷ two ∷ []) a b
both_before end.Stopped one two a b broke first = absurd (broke refl)
both_before why one two a b broke first = (first.0, breaks_off_before why (one ∷ []) (two ∷ []) a b first.1)

-- the state was written, or a part of it behind the one file
pub wrote_both : (files : StateActions) (signature : List ℕ) (one two : Action) (text : List ℕ) (why : ActEnd) (a b c : Standing) → one ≡ files.spare → two ≡ files.file
    → text ≡ state_text signature → Stands ((one, text) ∷ []) a b → DoesBy why ((two, text) ∷ []) b c → DoesBy why (state_deeds (Some files) (Some signature)) a c
wrote_both files signature one two text why a b c is_one is_two is_text first second =
    let at_one : Stands ((files.spare, state_text signature) ∷ []) a b =
    subst (λ (t : List ℕ). Stands ((files.spare, t) ∷ []) a b) is_text (subst (λ (x : Action). Stands ((x, text) ∷ []) a b) is_one first) in
    let at_two : DoesBy why ((files.file, state_text signature) ∷ []) b c =
    subst (λ (t : List ℕ). DoesBy why ((files.file, t) ∷ []) b c) is_text (subst (λ (x : Action). DoesBy why ((x, text) ∷ []) b c) is_two second) in
    both_then why (files.spare, state_text signature) (files.file, state_text signature) a b c at_one at_two

-- the one file was not written
pub wrote_none : (files : StateActions) (signature : List ℕ) (one : Action) (text : List ℕ) (why : ActEnd) (a b : Standing) → one ≡ files.spare
    → text ≡ state_text signature → ¬ (why ≡ end.Stopped) → DoesBy why ((one, text) ∷ []) a b → DoesBy why (state_deeds (Some files) (Some signature)) a b
wrote_none files signature one text why a b is_one is_text broke first =
    let at_one : DoesBy why ((files.spare, state_text signature) ∷ []) a b =
    subst (λ (t : List ℕ). DoesBy why ((files.spare, t) ∷ []) a b) is_text (subst (λ (x : Action). DoesBy why ((x, text) ∷ []) a b) is_one first) in
    both_before why (files.spare, state_text signature) (files.file, state_text signature) a b broke at_one

pub not_busy : (why : ActEnd) (deeds : List Deed) (a b : Standing) → DoesBy why deeds a b → ¬ (why ≡ end.AllBusy)
not_busy why deeds a b does is = let no : DoesBy end.AllBusy deeds a b = subst (λ (e : ActEnd). DoesBy e deeds a b) is does in no.0

-- ---- it is taken

pub from_spare : (taken : Result (Option Signature) StateNotTaken) (path : List ℕ) (old mid new : StoreRecord) → HasOther path old mid → TakesSpare taken path mid new
    → TakesState taken path old new
from_spare (Ok (Some signature)) path old mid new other takes = inr (mid, other, takes)
from_spare (Ok None) path old mid new other takes = absurd takes
from_spare (Err not_taken.Bad) path old mid new other takes = (mid, other, takes)
from_spare (Err not_taken.OutOfMemory) path old mid new other takes = inr (subst (λ (s : StoreRecord). HasOther path old s) (sym takes) other)
