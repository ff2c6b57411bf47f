-- What a step of all that is kept is to outputs.
use Rattle.std.proofs.Common.{◌≡◌, ◌∙◌, ℕ, List, ◌∷◌, Option, Some, None, refl, sym, ap, subst}
use Rattle.std.specs.Prelude.{string_bytes}
use Rattle.ldm_outside.specs.Launcher.{LauncherRecord}
use Rattle.ldm_outside.specs.Store.{StoreRecord}
use Rattle.ldm_actions.specs.declared.action.Action.{Action as Given}
use Rattle.ldm_actions.specs.declared.action.Action.TheVariants as given
use Rattle.ldm_actions.specs.declared.answers.Begun.{Begun}
use Rattle.ldm_actions.specs.declared.answers.Begun.TheVariants as answer
use Rattle.ldm_actions.specs.declared.answers.Fault.{Fault}
use Rattle.ldm_actions.specs.declared.hand.Hand.{Hand}
use Rattle.ldm_actions.specs.Effects.{File as FileTarget, begun, in_hand, piped_by, runs_under}
use Rattle.ldm_actions.specs.Hands.{action_of, hand_of, newest_path, seen_with}
use Rattle.ldm_actions.specs.Kept.{IsNewest, number_under}
use Rattle.ldm_actions.specs.OpenFiles.{used_by}
use Rattle.ldm_actions.specs.Outputs.{Begins, BeginsBy, BeginsHand, BeginsKept, HasHand, IsOfKept, Kept, KeepsUnlessSpent, OutputsView, kept_in, outputs_view, standing, world_of}
use Rattle.ldm_actions.specs.World.{World, command_of}
use Rattle.ldm_actions.proofs.KeptLemmas.{Entry}

-- the newest of some files
newest_first : (files : List Entry) (it : Entry) (others : List Entry) → files ≡ it ∷ others → IsNewest (newest_path files, it.1) files
newest_first files it others is = record {
  others = others;
  is = is ∙ ap (λ (path : List ℕ). (path, it.1) ∷ others) (sym (ap newest_path is));
}

used_first : (path : List ℕ) (next : ℕ) (found : Option ℕ) (files : List Entry) →
    (number : ℕ) × (others : List Entry) × (used_by found path next files ≡ (path, number) ∷ others)
used_first path next None files = (next, _, refl)
used_first path next (Some number) files = (number, _, refl)

piped_first : (words : List (List ℕ)) (found : Option ℕ) (world : World) → (it : Entry) × (others : List Entry) × ((piped_by found words world).piped ≡ it ∷ others)
piped_first words None world = (_, _, refl)
piped_first words (Some child) world = (_, _, refl)

-- an action that was begun writes to what was used last
begun_is_kept : (action : Given) (old new : Kept) → BeginsKept answer.Ready (action_of action) old new →
    IsOfKept (seen_with new.files (hand_of action)).target new.files new.piped
unfolding begun
begun_is_kept (given.ToFile path options) old new becomes =
    let text = string_bytes path in
    let first = used_first text old.store.next (number_under text old.files) old.files in
    (first.0, newest_first new.files (text, first.0) first.1 (becomes.0.files_now ∙ first.2))
begun_is_kept (given.ToProgram program options) old new becomes =
    let first = piped_first program (runs_under (command_of program) (world_of old)) (world_of old) in
    (first.0, record { others = first.1; is = ap (λ (world : World). world.piped) becomes.0.world_now ∙ first.2 })
begun_is_kept (given.Start program wait) old new becomes = tt
begun_is_kept given.Nothing old new becomes = tt

-- and is seen as what it is
begun_is_seen : (action : Given) (old new : Kept) → BeginsKept answer.Ready (action_of action) old new →
    seen_with new.files (hand_of action) ≡ in_hand (action_of action)
begun_is_seen (given.ToFile path options) old new becomes =
    let text = string_bytes path in
    let first = used_first text old.store.next (number_under text old.files) old.files in
    ap (λ (p : List ℕ). record { target = FileTarget p; strip = options.strip; close = options.close; flush = options.flush })
    (ap newest_path (becomes.0.files_now ∙ first.2))
begun_is_seen (given.ToProgram program options) old new becomes = refl
begun_is_seen (given.Start program wait) old new becomes = refl
begun_is_seen given.Nothing old new becomes = refl

module _ (files piped files' piped' : List Entry) (hand : Option Hand) (spent : Option Fault) (store store' : StoreRecord)
    (launcher launcher' : LauncherRecord) (unspent : spent ≡ None) where
  abbrev old : Kept
  old = kept_in files piped store launcher

  abbrev new : Kept
  new = kept_in files' piped' store' launcher'

  pub begins_ready : (action : Given) → BeginsKept answer.Ready (action_of action) old new →
      Begins answer.Ready (action_of action) (standing (outputs_view files piped hand spent) store launcher)
      (standing (outputs_view files' piped' (Some (hand_of action)) spent) store' launcher')
  begins_ready action becomes =
      subst
      (λ (s : Option Fault). BeginsBy s answer.Ready (action_of action) (standing (outputs_view files piped hand s) store launcher)
      (standing (outputs_view files' piped' (Some (hand_of action)) s) store' launcher'))
      (sym unspent)
      (becomes, record { in_hand = ap (λ h. Some h) (begun_is_seen action old new becomes); unspent = refl })

  pub keeps_ready : (action : Given) → BeginsKept answer.Ready (action_of action) old new →
      KeepsUnlessSpent (standing (outputs_view files' piped' (Some (hand_of action)) spent) store' launcher')
  keeps_ready action becomes = λ _. record { kept = becomes.0.keeps; hand = begun_is_kept action old new becomes }

module _ (outputs : OutputsView) (which : Fault) (spent : outputs.spent ≡ Some which) where
  -- one that is spent needs no action in hand
  pub has_spent : HasHand outputs
  has_spent none = absurd (cc)

  pub begins_spent : (result : Begun) → BeginsHand result outputs
  begins_spent answer.Ready = has_spent
  begins_spent answer.StoreFault = has_spent
  begins_spent answer.LaunchFault = has_spent
  begins_spent answer.OutOfMemory = tt
