-- Which child runs under a command, and how many run.
use Rattle.std.proofs.Common.{◌≡◌, ℕ, ◌+◌, ◌-◌, ◌<◌, ◌≤◌, Bool, true, false, cond, List, [], ◌∷◌, length, length-take, length-drop, Option, Some, None, refl, sym, ap, arith, inl, inr}
use Rattle.std.specs.Prelude.{bytes_eq, nat_lt}
use Rattle.std.specs.Map.{lookup, remove_entry}
use Rattle.std.proofs.lemmas.Bool.{cases_lt}
use Rattle.std.proofs.lemmas.Bool.Decides.{nat_tests}
use Rattle.std.proofs.lemmas.Slice.Eq.{bytes_eq-Decides}
use Rattle.ldm_actions.specs.declared.limits.TheConstants.{MOST_PIPED}
use Rattle.ldm_actions.specs.declared.options.PipeOptions.{PipeOptions}
use Rattle.ldm_actions.specs.Effects.{Action, ToFile, ToProgram, Start, Nothing, InHand, Target, Nowhere, File, Child}
use Rattle.ldm_actions.specs.Effects.{begun, finished, finished_by, given, piped_by, runs_under, with_room, written}
use Rattle.ldm_actions.specs.Strip.{kept}
use Rattle.ldm_actions.specs.World.{World, command_of}

-- a child that was written last is found again
again : (others : List (List ℕ)) (command : List ℕ) (child : ℕ) (rest : List (List ℕ × ℕ)) (world : World) →
    command_of others ≡ command → world.piped ≡ (command, child) ∷ rest →
    (piped_by (runs_under (command_of others) world) others world).outside ≡ world.outside
again others command child rest world same is =
    let equal : bytes_eq command command ≡ true = (bytes_eq-Decides command command).1 refl in
    let found : runs_under (command_of others) world ≡ Some child = rw (same, is, equal) refl in
    ap (λ (runs : Option ℕ). (piped_by runs others world).outside) found

again_by : (words others : List (List ℕ)) (runs : Option ℕ) (world : World) → command_of others ≡ command_of words →
    (piped_by (runs_under (command_of others) (piped_by runs words world)) others (piped_by runs words world)).outside ≡ (piped_by runs words world).outside
again_by words others (Some child) world same =
    again others (command_of words) child (remove_entry (bytes_eq (command_of words)) world.piped) (piped_by (Some child) words world) same refl
again_by words others None world same =
    again others (command_of words) (with_room world).outside.next (with_room world).piped (piped_by None words world) same refl

pub same_command : (words others : List (List ℕ)) (options : PipeOptions) (world : World) → command_of others ≡ command_of words →
    (begun (ToProgram others options) (begun (ToProgram words options) world)).outside ≡ (begun (ToProgram words options) world).outside
unfolding begun
same_command words others options world same = again_by words others (runs_under (command_of words) world) world same

-- an entry that is found is one less where it is removed
module _ {K A : Type 0} (test : K → Bool) where
  pub one_less : (entries : List (K × A)) (found : A) → lookup test entries ≡ Some found → length (remove_entry test entries) + 1 ≡ length entries
  one_less [] found is = absurd cc
  one_less (entry ∷ entries) found is = by_test (test entry.0) (one_less entries found) is
    where
      by_test : (b : Bool) → (lookup test entries ≡ Some found → length (remove_entry test entries) + 1 ≡ length entries) →
          cond b (Some entry.1) (lookup test entries) ≡ Some found → length (cond b entries (entry ∷ remove_entry test entries)) + 1 ≡ length (entry ∷ entries)
      by_test true later is = omega arith
      by_test false later is = let less = later is in omega (arith, less)

pub few_with_room : (world : World) → length world.piped ≤ MOST_PIPED → length (with_room world).piped < MOST_PIPED
unfolding with_room
few_with_room world few = elim (cases_lt (length world.piped) MOST_PIPED) [
  | inl lt ↦ let test : nat_lt (length world.piped) MOST_PIPED ≡ true = grind (arith, nat_tests) in rw test lt
  | inr ge ↦
      let test : nat_lt (length world.piped) MOST_PIPED ≡ false = grind (arith, nat_tests) in
      rw test (omega (arith, length-take (length world.piped - 1) world.piped))
]

few_by : (runs : Option ℕ) (words : List (List ℕ)) (world : World) → runs ≡ runs_under (command_of words) world → length world.piped ≤ MOST_PIPED →
    length (piped_by runs words world).piped ≤ MOST_PIPED
few_by None words world is few = let less = few_with_room world few in omega (arith, less)
few_by (Some child) words world is few =
    let less = one_less (bytes_eq (command_of words)) world.piped child (sym is) in omega (arith, less)

pub few_begun : (action : Action) (world : World) → length world.piped ≤ MOST_PIPED → length (begun action world).piped ≤ MOST_PIPED
unfolding begun
few_begun (ToFile path options) world few = few
few_begun (ToProgram words options) world few = few_by (runs_under (command_of words) world) words world refl few
few_begun (Start words wait) world few = few
few_begun Nothing world few = few

few_written : (target : Target) (bytes : List ℕ) (world : World) → length (written target bytes world).piped ≡ length world.piped
few_written Nowhere bytes world = refl
few_written (File path) bytes world = refl
few_written Child bytes world = refl

pub few_given : (hand : InHand) (bytes : List ℕ) (world : World) → length (given hand bytes world).piped ≡ length world.piped
unfolding given
few_given hand bytes world = few_written hand.target (kept hand.strip bytes) world

few_finished_by : (target : Target) (close : Bool) (world : World) → length (finished_by target close world).piped ≤ length world.piped
few_finished_by Nowhere close world = omega arith
few_finished_by (File path) close world = omega arith
few_finished_by Child true world = omega (arith, length-drop 1 world.piped)
few_finished_by Child false world = omega arith

pub few_finished : (hand : InHand) (world : World) → length (finished hand world).piped ≤ length world.piped
unfolding finished
few_finished hand world = few_finished_by hand.target hand.close world
