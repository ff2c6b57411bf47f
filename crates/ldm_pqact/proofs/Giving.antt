-- An action that is begun, given a body in pieces, and finished.
use Rattle.std.proofs.Common.{◌≡◌, ◌∙◌, ℕ, Bool, true, false, cond, List, [], ◌∷◌, ◌++◌, length, set, Option, Some, None, option_map, Result, Ok, Err, inl, inr, refl, sym, ap, subst, append_assoc, append-nil}
use Rattle.std.specs.Prelude.{bytes_eq, slice_get}
use Rattle.std.proofs.lemmas.Bool.{cases_lt}
use Rattle.std.proofs.lemmas.List.{set-get_or, set_past}
use Rattle.ldm_outside.specs.Launcher.{Child, LauncherRecord, child_at, with_fed}
use Rattle.ldm_outside.specs.Store.{File, with_changed}
use Rattle.ldm_actions.specs.declared.answers.Begun.{Begun}
use Rattle.ldm_actions.specs.declared.answers.Begun.TheVariants as answer
use Rattle.ldm_actions.specs.declared.answers.Done.{Done}
use Rattle.ldm_actions.specs.declared.answers.Done.TheVariants as done
use Rattle.ldm_actions.specs.declared.answers.Fault.{Fault}
use Rattle.ldm_actions.specs.declared.answers.Fault.TheVariants as fault
use Rattle.ldm_actions.specs.Effects.{Action, ToFile, ToProgram, Start, Nothing, InHand, Target, Nowhere, File as FileTarget, Child as ChildTarget, begun, fed_to, finished, given, in_hand, written}
use Rattle.ldm_actions.specs.Outputs.{Standing, HasInHand, Begins, BeginsBy, Gives, GivesBy, Finishes, FinishesBy}
use Rattle.ldm_actions.specs.Parts.{IsGivenPart, finish_parts}
use Rattle.ldm_actions.specs.Programs.{IsOneOf}
use Rattle.ldm_actions.specs.Strip.{kept}
use Rattle.ldm_actions.specs.World.{Outside, World, appended, child_no}
use Rattle.ldm_actions.proofs.Pieces.{given_more, kept_append, written_more}
use Rattle.ldm_pqact.specs.declared.end.ActEnd.{ActEnd}
use Rattle.ldm_pqact.specs.declared.end.ActEnd.TheVariants as end
use Rattle.ldm_pqact.specs.Carried.{BreaksOff, IsAsBefore, IsOfOutputs, IsPartOf, LauncherCount, Stands, StoreCount, world_in}
use Rattle.ldm_pqact.specs.Handling.{GivesAll, GivesPart, begun_result, done_result, takes_body}
use Rattle.ldm_pqact.proofs.Carrying.{breaks_off_here, launcher_count_then, store_count_then}

-- ---- no byte is written

file_nothing : (path : List ℕ) (files : List File) → with_changed path (λ before. before ++ []) files ≡ files
file_nothing path [] = refl
file_nothing path (file ∷ files) = by_test (bytes_eq file.path path) (file_nothing path files)
  where
    by_test : (b : Bool) → with_changed path (λ before. before ++ []) files ≡ files →
        cond b (record file { bytes = file.bytes ++ [] } ∷ files) (file ∷ with_changed path (λ before. before ++ []) files) ≡ file ∷ files
    by_test true later = ap (λ (bytes : List ℕ). record file { bytes = bytes } ∷ files) (append-nil file.bytes)
    by_test false later = ap (λ (others : List File). file ∷ others) later

fed_nothing : (child : ℕ) (children : List Child) → with_fed (child_no child) [] children ≡ children
fed_nothing child children =
    let was = child_at (child_no child) children in
    ap (λ (bytes : List ℕ). set children child (record was { given = bytes })) (append-nil was.given)
    ∙ elim (cases_lt child (length children)) [
      | inl inside ↦ set-get_or children child _
      | inr past ↦ set_past children child was past
    ]

appended_nothing : (path : List ℕ) (outside : Outside) → appended path [] outside ≡ outside
appended_nothing path outside = ap (λ (files : Option (List File)). record outside { files = files }) (by_files outside.files)
  where
    by_files : (files : Option (List File)) → option_map (with_changed path (λ before. before ++ [])) files ≡ files
    by_files None = refl
    by_files (Some files) = ap (λ (all : List File). Some all) (file_nothing path files)

fed_to_nothing : (it : Option (List ℕ × ℕ)) (outside : Outside) → fed_to it [] outside ≡ outside
fed_to_nothing None outside = refl
fed_to_nothing (Some it) outside = ap (λ (children : Option (List Child)). record outside { children = children }) (by_children outside.children)
  where
    by_children : (children : Option (List Child)) → option_map (with_fed (child_no it.1) []) children ≡ children
    by_children None = refl
    by_children (Some children) = ap (λ (all : List Child). Some all) (fed_nothing it.1 children)

written_nothing : (target : Target) (world : World) → written target [] world ≡ world
written_nothing Nowhere world = refl
written_nothing (FileTarget path) world = ap (λ (outside : Outside). record world { outside = outside }) (appended_nothing path world.outside)
written_nothing ChildTarget world = ap (λ (outside : Outside). record world { outside = outside }) (fed_to_nothing (slice_get world.piped 0) world.outside)

kept_nothing : (strip : Bool) → kept strip [] ≡ []
kept_nothing true = refl
kept_nothing false = refl

pub gives_nothing : (hand : InHand) (now : Standing) → HasInHand (Some hand) now → GivesAll hand [] now now
unfolding given
gives_nothing hand now has = record {
  world = sym (ap (λ (bytes : List ℕ). written hand.target bytes (world_in now)) (kept_nothing hand.strip) ∙ written_nothing hand.target (world_in now));
  in_hand = has;
  store_faults = refl;
  launcher_faults = refl;
}

-- what writes no body is given any
pub gives_no_body : (action : Action) (body : List ℕ) (now : Standing) → takes_body action ≡ false → HasInHand (Some (in_hand action)) now
    → GivesAll (in_hand action) body now now
unfolding given
gives_no_body (ToFile path options) body now not_taken has = absurd cc
gives_no_body (ToProgram words options) body now not_taken has = absurd cc
gives_no_body (Start words wait) body now not_taken has = record { world = refl; in_hand = has; store_faults = refl; launcher_faults = refl }
gives_no_body Nothing body now not_taken has = record { world = refl; in_hand = has; store_faults = refl; launcher_faults = refl }

-- ---- pieces

part_nothing : (hand : InHand) (bytes : List ℕ) (world : World) → IsGivenPart hand bytes world world.outside
part_nothing hand bytes world = record {
  front = [];
  rest = kept hand.strip bytes;
  is_front = refl;
  stands = sym (ap (λ (w : World). w.outside) (written_nothing hand.target world));
}

-- no piece was given since the queue has had all its calls
pub gives_worn : (hand : InHand) (bytes : List ℕ) (now : Standing) → GivesPart end.Worn hand bytes now now
gives_worn hand bytes now = record { part = part_nothing hand bytes (world_in now); store_count = refl; launcher_count = refl }

abbrev pub GivesResult : Result (Unit {0}) ActEnd → InHand → List ℕ → Standing → Standing → Type 0
GivesResult (Ok whole) hand bytes old new = GivesAll hand bytes old new
GivesResult (Err why) hand bytes old new = GivesPart why hand bytes old new

gives_in_hand : (result : Done) (hand : InHand) (bytes : List ℕ) (old new : Standing) → GivesBy None (Some hand) result bytes old new
    → GivesResult (done_result result) hand bytes old new
gives_in_hand done.Ok hand bytes old new gives = record {
  world = gives.0.0.world_now;
  in_hand = gives.1;
  store_faults = gives.0.0.store_faults;
  launcher_faults = gives.0.0.launcher_faults;
}
gives_in_hand done.StoreFault hand bytes old new gives = record {
  part = gives.0.stands;
  store_count = inl gives.0.rose;
  launcher_count = ap (λ (l : LauncherRecord). l.faults) gives.0.launcher;
}
gives_in_hand done.LaunchFault hand bytes old new gives = record {
  part = gives.0.stands;
  store_count = gives.0.store_faults;
  launcher_count = inl gives.0.rose;
}

-- a piece was given, or the store or the launcher failed
pub gives_piece : (result : Done) (hand : InHand) (bytes : List ℕ) (old new : Standing) → HasInHand (Some hand) old → Gives result bytes old new
    → GivesResult (done_result result) hand bytes old new
gives_piece result hand bytes old new has gives =
    gives_in_hand result hand bytes old new
    (subst (λ (o : Option InHand). GivesBy None o result bytes old new) has.in_hand
    (subst (λ (o : Option Fault). GivesBy o old.outputs.hand result bytes old new) has.unspent gives))

pub gives_then : (hand : InHand) (first second : List ℕ) (a b c : Standing) → GivesAll hand first a b → GivesAll hand second b c → GivesAll hand (first ++ second) a c
gives_then hand first second a b c one two = record {
  world = two.world ∙ (ap (given hand second) one.world ∙ sym (given_more hand first second (world_in a)));
  in_hand = two.in_hand;
  store_faults = two.store_faults ∙ one.store_faults;
  launcher_faults = two.launcher_faults ∙ one.launcher_faults;
}

part_then : (hand : InHand) (first second : List ℕ) (world : World) (outside : Outside) → IsGivenPart hand second (given hand first world) outside
    → IsGivenPart hand (first ++ second) world outside
unfolding given
part_then hand first second world outside part = record {
  front = kept hand.strip first ++ part.front;
  rest = part.rest;
  is_front =
      append_assoc (kept hand.strip first) part.front part.rest
      ∙ (ap (λ (x : List ℕ). kept hand.strip first ++ x) part.is_front ∙ sym (kept_append hand.strip first second));
  stands = part.stands ∙ ap (λ (w : World). w.outside) (sym (written_more hand.target (kept hand.strip first) part.front world));
}

part_before : (hand : InHand) (first second : List ℕ) (world : World) (outside : Outside) → IsGivenPart hand first world outside
    → IsGivenPart hand (first ++ second) world outside
part_before hand first second world outside part = record {
  front = part.front;
  rest = part.rest ++ kept hand.strip second;
  is_front =
      sym (append_assoc part.front part.rest (kept hand.strip second))
      ∙ (ap (λ (x : List ℕ). x ++ kept hand.strip second) part.is_front ∙ sym (kept_append hand.strip first second));
  stands = part.stands;
}

-- an `Outputs` with an action in hand goes on
goes_on : (hand hand' : Option InHand) (old new : Standing) → HasInHand hand old → HasInHand hand' new → IsAsBefore old.outputs.spent old new
goes_on hand hand' old new one two = subst (λ (o : Option Fault). IsAsBefore o old new) (sym one.unspent) two.unspent

-- more was to come
pub gives_part_before : (why : ActEnd) (hand : InHand) (first second : List ℕ) (old new : Standing) → GivesPart why hand first old new
    → GivesPart why hand (first ++ second) old new
gives_part_before why hand first second old new part = record {
  part = part_before hand first second (world_in old) (world_in new).outside part.part;
  store_count = part.store_count;
  launcher_count = part.launcher_count;
}

pub gives_part_then : (why : ActEnd) (hand : InHand) (first second : List ℕ) (a b c : Standing) → HasInHand (Some hand) a → GivesAll hand first a b
    → GivesPart why hand second b c → GivesPart why hand (first ++ second) a c
gives_part_then why hand first second a b c has one two =
    let before = goes_on (Some hand) (Some hand) a b has one.in_hand in
    let there = (world_in c).outside in
    record {
      part =
          part_then hand first second (world_in a) there (subst (λ (w : World). IsGivenPart hand second w there) one.world two.part);
      store_count = store_count_then why a b c one.store_faults before two.store_count;
      launcher_count = launcher_count_then why a b c one.launcher_faults before two.launcher_count;
    }

-- ---- the beginning

pub record Began (action : Action) (old new : Standing) : Type 0 where
  pub world : world_in new ≡ begun action (world_in old)
  pub in_hand : HasInHand (Some (in_hand action)) new
  pub unspent : old.outputs.spent ≡ None
  pub store_faults : new.store.faults ≡ old.store.faults
  pub launcher_faults : new.launcher.faults ≡ old.launcher.faults

abbrev pub BeganResult : Result (Unit {0}) ActEnd → Action → Standing → Standing → Type 0
BeganResult (Ok whole) action old new = Began action old new
BeganResult (Err why) action old new = IsOfOutputs why × ((body : List ℕ) → BreaksOff why [] ((action, body) ∷ []) old new)

begins_again : (why : Fault) (result : Begun) (action : Action) (old new : Standing) → old.outputs.spent ≡ Some why → BeginsBy (Some why) result action old new
    → BeganResult (begun_result result) action old new
begins_again fault.Store result action old new is begins =
    subst (λ (r : Begun). BeganResult (begun_result r) action old new) (sym begins.0)
    (subst (λ (s : Standing). BeganResult (Err end.StoreFault) action old s) (sym begins.1) (tt, λ body. breaks_off_here end.StoreFault _ old (inr (is, refl)) refl))
begins_again fault.Launch result action old new is begins =
    subst (λ (r : Begun). BeganResult (begun_result r) action old new) (sym begins.0)
    (subst (λ (s : Standing). BeganResult (Err end.LaunchFault) action old s) (sym begins.1) (tt, λ body. breaks_off_here end.LaunchFault _ old refl (inr (is, refl))))

-- a part of the first of two
one_deed : (why : ActEnd) (action : Action) (body : List ℕ) (old new : Standing) → IsPartOf action body (world_in old) (world_in new).outside → StoreCount why old new
    → LauncherCount why old new → BreaksOff why [] ((action, body) ∷ []) old new
one_deed why action body old new part store launcher = record {
  part = record { whole = []; others = (action, body) ∷ []; are = refl; part = part };
  store_count = store;
  launcher_count = launcher;
}

begins_anew : (result : Begun) (action : Action) (old new : Standing) → old.outputs.spent ≡ None → BeginsBy None result action old new
    → BeganResult (begun_result result) action old new
begins_anew answer.Ready action old new is begins = record {
  world = begins.0.0.world_now;
  in_hand = begins.1;
  unspent = is;
  store_faults = begins.0.0.store_faults;
  launcher_faults = begins.0.0.launcher_faults;
}
begins_anew answer.StoreFault action old new is begins =
    (tt, λ body. one_deed end.StoreFault action body old new (inr (inl begins.0.stands)) (inl begins.0.rose) (ap (λ (l : LauncherRecord). l.faults) begins.0.launcher))
begins_anew answer.LaunchFault action old new is begins =
    (tt, λ body. one_deed end.LaunchFault action body old new (inr (inl begins.0.stands)) begins.0.store_faults (inl begins.0.rose))
begins_anew answer.OutOfMemory action old new is begins =
    subst (λ (s : Standing). BeganResult (Err end.OutOfMemory) action old s) (sym begins.1) (tt, λ body. breaks_off_here end.OutOfMemory _ old refl refl)

begins_by : (spent : Option Fault) (result : Begun) (action : Action) (old new : Standing) → old.outputs.spent ≡ spent → BeginsBy spent result action old new
    → BeganResult (begun_result result) action old new
begins_by None result action old new is begins = begins_anew result action old new is begins
begins_by (Some why) result action old new is begins = begins_again why result action old new is begins

pub begins : (result : Begun) (action : Action) (old new : Standing) → Begins result action old new → BeganResult (begun_result result) action old new
begins result action old new it = begins_by old.outputs.spent result action old new refl it

-- ---- the body, and the end

-- a front of the body stands
pub breaks_in_body : (why : ActEnd) (action : Action) (body : List ℕ) (a b c : Standing) → Began action a b → GivesPart why (in_hand action) body b c
    → BreaksOff why [] ((action, body) ∷ []) a c
breaks_in_body why action body a b c one two =
    let before : IsAsBefore a.outputs.spent a b = subst (λ (o : Option Fault). IsAsBefore o a b) (sym one.unspent) one.in_hand.unspent in
    one_deed why action body a c
    (inr (inr (inl (subst (λ (w : World). IsGivenPart (in_hand action) body w (world_in c).outside) one.world two.part))))
    (store_count_then why a b c one.store_faults before two.store_count)
    (launcher_count_then why a b c one.launcher_faults before two.launcher_count)

pub record Whole (action : Action) (body : List ℕ) (old new : Standing) : Type 0 where
  pub unspent : old.outputs.spent ≡ None
  pub unspent_still : new.outputs.spent ≡ None
  pub hand_now : HasInHand (Some (in_hand action)) new
  pub world : world_in new ≡ given (in_hand action) body (begun action (world_in old))
  pub store_faults : new.store.faults ≡ old.store.faults
  pub launcher_faults : new.launcher.faults ≡ old.launcher.faults

pub has_body : (action : Action) (body : List ℕ) (a b c : Standing) → Began action a b → GivesAll (in_hand action) body b c → Whole action body a c
has_body action body a b c one two = record {
  unspent = one.unspent;
  unspent_still = two.in_hand.unspent;
  hand_now = two.in_hand;
  world = two.world ∙ ap (given (in_hand action) body) one.world;
  store_faults = two.store_faults ∙ one.store_faults;
  launcher_faults = two.launcher_faults ∙ one.launcher_faults;
}

abbrev pub FinishedResult : Result (Unit {0}) ActEnd → Action → List ℕ → Standing → Standing → Type 0
FinishedResult (Ok whole) action body old new = Stands ((action, body) ∷ []) old new
FinishedResult (Err why) action body old new = IsOfOutputs why × BreaksOff why [] ((action, body) ∷ []) old new

finishes_in_hand : (result : Done) (action : Action) (body : List ℕ) (a b c : Standing) → Whole action body a b → FinishesBy None (Some (in_hand action)) result b c
    → FinishedResult (done_result result) action body a c
finishes_in_hand done.Ok action body a b c one it = record {
  world = it.0.0.world_now ∙ ap (finished (in_hand action)) one.world;
  store_faults = it.0.0.store_faults ∙ one.store_faults;
  launcher_faults = it.0.0.launcher_faults ∙ one.launcher_faults;
  as_before = subst (λ (o : Option Fault). IsAsBefore o a c) (sym one.unspent) it.1.unspent;
}
finishes_in_hand done.StoreFault action body a b c one it =
    let before : IsAsBefore a.outputs.spent a b = subst (λ (o : Option Fault). IsAsBefore o a b) (sym one.unspent) one.unspent_still in (
      tt,
      one_deed end.StoreFault action body a c (inr (inr (inr (subst (λ (w : World). IsOneOf (finish_parts (in_hand action) w) (world_in c).outside) one.world it.0.stands))))
          (store_count_then end.StoreFault a b c one.store_faults before (inl it.0.rose))
          (ap (λ (l : LauncherRecord). l.faults) it.0.launcher ∙ one.launcher_faults),
    )
finishes_in_hand done.LaunchFault action body a b c one it =
    let before : IsAsBefore a.outputs.spent a b = subst (λ (o : Option Fault). IsAsBefore o a b) (sym one.unspent) one.unspent_still in (
      tt,
      one_deed end.LaunchFault action body a c (inr (inr (inr (subst (λ (w : World). IsOneOf (finish_parts (in_hand action) w) (world_in c).outside) one.world it.0.stands))))
          (it.0.store_faults ∙ one.store_faults)
          (launcher_count_then end.LaunchFault a b c one.launcher_faults before (inl it.0.rose)),
    )

pub finishes : (result : Done) (action : Action) (body : List ℕ) (a b c : Standing) → Whole action body a b → Finishes result b c
    → FinishedResult (done_result result) action body a c
finishes result action body a b c one it =
    finishes_in_hand result action body a b c one
    (subst (λ (o : Option InHand). FinishesBy None o result b c) one.hand_now.in_hand
    (subst (λ (o : Option Fault). FinishesBy o b.outputs.hand result b c) one.unspent_still it))
