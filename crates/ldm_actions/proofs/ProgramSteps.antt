-- What the launcher does to the programs that run under PIPE.
use Rattle.std.proofs.Common.{◌≡◌, ◌≢◌, ◌∙◌, ℕ, ◌-◌, ◌<◌, ◌≤◌, ◌⊎◌, inl, inr, Bool, true, false, cond, List, [], ◌∷◌, ◌++◌, length, take, Option, Some, None, Result, Ok, Err, refl, sym, ap, subst, arith, append_assoc, length-append, length-take}
use Rattle.std.specs.Prelude.{IfSome, bytes_eq, nat_lt, String}
use Rattle.std.specs.Map.{remove_entry}
use Rattle.std.specs.declared.alloc.Global.{Global}
use Rattle.std.proofs.lemmas.Bool.Decides.{nat_tests}
use Rattle.ldm_outside.specs.Count.{Rose}
use Rattle.ldm_outside.specs.declared.fault.Failed.{Failed}
use Rattle.ldm_outside.specs.declared.launcher.ChildNo.{ChildNo}
use Rattle.ldm_outside.specs.Launcher.{IsTaking, LauncherFails, LauncherRecord, spelled, with_started}
use Rattle.ldm_outside.specs.Store.{File}
use Rattle.ldm_outside.proofs.StoreLemmas.{IsTaking-before, IsTaking-last, IsTaking-others, IsTaking-waited}
use Rattle.ldm_actions.specs.declared.limits.TheConstants.{MOST_PIPED}
use Rattle.ldm_actions.specs.Effects.{all_over, closed, ended, piped_by, with_first_over, with_new, with_room}
use Rattle.ldm_actions.specs.Kept.{Differs, gone_of, last_of, number_under, raised, raised_by, staying}
use Rattle.ldm_actions.specs.Parts.{all_over_parts, over_parts, pipe_parts, room_parts}
use Rattle.ldm_actions.specs.Programs.{ChangesOr, EndsChild, EndsGone, IsOneOf, KeepsPrograms, ProgramSide, ProgramsBecome, ProgramsFail, StartsAfter, StartsProgram, by_program, by_program_parts, closing_parts, first_parts, last_parts, outside_with, program_side, with_child_over, with_gone_over, with_input_closed, with_last_over, world_with}
use Rattle.ldm_actions.specs.World.{Outside, World, child_no, command_of, input_shut, over}
use Rattle.ldm_actions.proofs.Commands.{one_less}
use Rattle.ldm_actions.proofs.KeptLemmas.{Entry, HasRoom, IsFull, apart_found, apart_front, apart_last, differs_under, each_both, each_found, each_front, each_gone, each_then, last_is, last_part, not_under_front, room_or_full, take_front}

module _ (old new : LauncherRecord) where
  -- a child takes bytes still where another was ended
  taking_others : (other : Entry) → new ≡ with_child_over (child_no other.1) (with_input_closed (child_no other.1) old) → (it : Entry) → Differs other it →
      IsTaking (child_no it.1) old → IsTaking (child_no it.1) new
  taking_others other is it apart taking =
      let differ : it.1 ≢ other.1 = λ same. apart.1 (sym same) in
      let mid = with_input_closed (child_no other.1) old in
      IsTaking-waited (child_no it.1) (child_no other.1) mid new differ is
      (IsTaking-others (child_no it.1) (child_no other.1) old mid differ refl taking)

  keeps_without_first : (it : Entry) (kept : List Entry) → new ≡ with_child_over (child_no it.1) (with_input_closed (child_no it.1) old) →
      KeepsPrograms (program_side (it ∷ kept) old) → KeepsPrograms (program_side kept new)
  keeps_without_first it kept is keeps = record {
    are_taking = each_both (Differs it) (λ other. IsTaking (child_no other.1) old) (λ other. IsTaking (child_no other.1) new) (taking_others it is) kept
        keeps.apart.0 keeps.are_taking.1;
    apart = keeps.apart.1;
    few = omega (arith, keeps.few);
  }

  keeps_without_last : (it : Entry) (kept : List Entry) → new ≡ with_child_over (child_no it.1) (with_input_closed (child_no it.1) old) →
      KeepsPrograms (program_side (kept ++ it ∷ []) old) → KeepsPrograms (program_side kept new)
  keeps_without_last it kept is keeps = record {
    are_taking = each_both (Differs it) (λ other. IsTaking (child_no other.1) old) (λ other. IsTaking (child_no other.1) new) (taking_others it is) kept
        (apart_last kept it keeps.apart) (each_front (λ other. IsTaking (child_no other.1) old) kept (it ∷ []) keeps.are_taking);
    apart = apart_front kept it keeps.apart;
    few = omega (arith, keeps.few, length-append kept (it ∷ []));
  }

  -- a program that was started is kept besides the others
  keeps_started : (command : List ℕ) (child : ℕ) (kept : List Entry) (told : List (String Global)) → number_under command kept ≡ None →
      length kept < MOST_PIPED → child ≡ old.next → new ≡ with_started told true old → KeepsPrograms (program_side kept old) →
      KeepsPrograms (program_side ((command, child) ∷ kept) new)
  keeps_started command child kept told unknown room number is keeps = record {
    are_taking = (
      IsTaking-last (child_no child) told true old new number is,
      each_then (λ it. IsTaking (child_no it.1) old) (λ it. IsTaking (child_no it.1) new)
          (λ it taking. IsTaking-before (child_no it.1) told true old new is taking) kept keeps.are_taking,
    );
    apart = (
      each_both (λ it. IsTaking (child_no it.1) old) (λ it. command ≢ it.0) (Differs (command, child))
          (λ it taking differ. (differ, omega (arith, taking.given, number))) kept keeps.are_taking (differs_under command kept unknown),
      keeps.apart,
    );
    few = omega (arith, room);
  }

  -- what stands where a call failed that was to end a child
  module _ (it : ℕ) (files : Option (List File)) where
    ends_stands : LauncherFails old new ⊎ LauncherFails (with_input_closed (child_no it) old) new →
        IsOneOf (outside_with files old ∷ input_shut it (outside_with files old) ∷ []) (outside_with files new)
    ends_stands (inl fails) = inl (ap (outside_with files) fails.1)
    ends_stands (inr fails) = inr (inl (ap (outside_with files) fails.1))

  ends_rose : (it : ℕ) → LauncherFails old new ⊎ LauncherFails (with_input_closed (child_no it) old) new → Rose old.faults new.faults
  ends_rose it (inl fails) = fails.0
  ends_rose it (inr fails) = fails.0

pub ends_oldest : (result : Result (Unit {0}) Failed) (it : Entry) (kept : List Entry) (old new : LauncherRecord) → EndsChild result (child_no it.1) old new →
    KeepsPrograms (program_side (kept ++ it ∷ []) old) → ChangesOr result with_last_over last_parts (program_side (kept ++ it ∷ []) old) (program_side kept new)
ends_oldest (Ok ok) it kept old new is keeps = record {
  world = λ files.
      ap (λ (outside : Outside). record { outside = outside; piped = kept }) (ap (outside_with files) is ∙ sym (ap (λ (e : Option Entry). ended e (outside_with files old)) (last_is kept it)))
      ∙ ap (λ (piped : List Entry). record { outside = ended (last_of (kept ++ it ∷ [])) (outside_with files old); piped = piped }) (sym (take_front kept it));
  faults = ap (λ (launcher : LauncherRecord). launcher.faults) is;
  keeps = keeps_without_last old new it kept is keeps;
}
ends_oldest (Err failed) it kept old new fails keeps = record {
  rose = ends_rose old new it.1 fails;
  stands = λ files.
      subst (λ (e : Option Entry). IsOneOf (over_parts e (outside_with files old)) (outside_with files new)) (sym (last_is kept it)) (ends_stands old new it.1 files fails);
}

pub ends_newest : (result : Result (Unit {0}) Failed) (it : Entry) (kept : List Entry) (old new : LauncherRecord) → EndsChild result (child_no it.1) old new →
    KeepsPrograms (program_side (it ∷ kept) old) → ChangesOr result with_first_over first_parts (program_side (it ∷ kept) old) (program_side kept new)
ends_newest (Ok ok) it kept old new is keeps = record {
  world = λ files. ap (λ (launcher : LauncherRecord). world_with files (program_side kept launcher)) is;
  faults = ap (λ (launcher : LauncherRecord). launcher.faults) is;
  keeps = keeps_without_first old new it kept is keeps;
}
ends_newest (Err failed) it kept old new fails keeps = record { rose = ends_rose old new it.1 fails; stands = λ files. ends_stands old new it.1 files fails }

-- there is room
room_there : (side : ProgramSide) → length side.kept < MOST_PIPED → KeepsPrograms side → ProgramsBecome with_room side side
unfolding with_room
room_there side room keeps =
    let test : nat_lt (length side.kept) MOST_PIPED ≡ true = grind (arith, nat_tests) in
    record {
      world = λ files.
          ap (λ (b : Bool). cond b (world_with files side) (with_last_over (world_with files side))) (sym test);
      faults = refl;
      keeps = keeps;
    }

-- there is none
room_made : (old new : ProgramSide) → 32 ≤ length old.kept → ProgramsBecome with_last_over old new → ProgramsBecome with_room old new
unfolding with_room
room_made old new full over =
    let test : nat_lt (length old.kept) 32 ≡ false = grind (arith, nat_tests) in
    record {
      world = λ files.
          over.world files ∙ ap (λ (b : Bool). cond b (world_with files old) (with_last_over (world_with files old))) (sym test);
      faults = over.faults;
      keeps = over.keeps;
    }

starts : (words : List (List ℕ)) (command : List ℕ) (child : ℕ) (kept : List Entry) (old new : LauncherRecord) (told : List (String Global)) →
    spelled told ≡ words → command ≡ command_of words → number_under command kept ≡ None → length kept < MOST_PIPED →
    (child ≡ old.next) × (new ≡ with_started told true old) → KeepsPrograms (program_side kept old) →
    ProgramsBecome (with_new words) (program_side kept old) (program_side ((command, child) ∷ kept) new)
starts words command child kept old new told spells its_own unknown room is keeps = record {
  world = λ files.
      ap (λ (launcher : LauncherRecord). world_with files (program_side ((command, child) ∷ kept) launcher)) is.1
      ∙ ap (λ (number : ℕ). world_with files (program_side ((command, number) ∷ kept) (with_started told true old))) is.0
      ∙ ap (λ (name : List ℕ). world_with files (program_side ((name, old.next) ∷ kept) (with_started told true old))) (its_own ∙ ap command_of (sym spells))
      ∙ ap (λ (w : List (List ℕ)). with_new w (world_with files (program_side kept old))) spells;
  faults = ap (λ (launcher : LauncherRecord). launcher.faults) is.1;
  keeps = keeps_started old new command child kept told unknown room is.0 is.1 keeps;
}

-- one of some is one of more
one_behind : (some more : List Outside) (x : Outside) → IsOneOf more x → IsOneOf (some ++ more) x
one_behind [] more x one = one
one_behind (y ∷ some) more x one = inr (one_behind some more x one)

one_before : (some more : List Outside) (x : Outside) → IsOneOf some x → IsOneOf (some ++ more) x
one_before [] more x one = absurd one
one_before (y ∷ some) more x (inl same) = inl same
one_before (y ∷ some) more x (inr one) = inr (one_before some more x one)

-- the oldest could not be ended
room_failed : (old new : ProgramSide) → 32 ≤ length old.kept → ProgramsFail last_parts old new → ProgramsFail room_parts old new
room_failed old new full fails =
    let test : nat_lt (length old.kept) 32 ≡ false = grind (arith, nat_tests) in
    record {
      rose = fails.rose;
      stands = λ files.
          let world = world_with files old in
          one_before (cond (nat_lt (length old.kept) 32) [] (last_parts world)) ((with_room world).outside ∷ []) (outside_with files new.launcher)
          (subst (λ (b : Bool). IsOneOf (cond b [] (last_parts world)) (outside_with files new.launcher)) (sym test) (fails.stands files));
    }

-- the program could not be started behind that
start_failed : (old mid new : ProgramSide) → ProgramsBecome with_room old mid → LauncherFails mid.launcher new.launcher → ProgramsFail room_parts old new
start_failed old mid new room fails = record {
  rose = subst (λ (faults : ℕ). Rose faults new.launcher.faults) room.faults fails.0;
  stands = λ files.
      let world = world_with files old in
      one_behind (cond (nat_lt (length old.kept) 32) [] (last_parts world)) ((with_room world).outside ∷ []) (outside_with files new.launcher)
      (inl (ap (outside_with files) fails.1 ∙ ap (λ (w : World). w.outside) (room.world files)));
}

starts_behind : (words : List (List ℕ)) (old mid new : ProgramSide) → ProgramsBecome with_room old mid → ProgramsBecome (with_new words) mid new →
    ProgramsBecome (λ world. with_new words (with_room world)) old new
starts_behind words old mid new room starts = record {
  world = λ files. starts.world files ∙ ap (with_new words) (room.world files);
  faults = starts.faults ∙ room.faults;
  keeps = starts.keeps;
}

-- ---- a program is started under a command that is not kept, and another is ended where there is no room

room_ended : (kept : List Entry) (launcher : LauncherRecord) → KeepsPrograms (program_side kept launcher) →
    ProgramsBecome with_room (program_side kept launcher) (program_side (staying kept) (with_gone_over (gone_of kept) launcher))
room_ended kept launcher keeps = by_room (room_or_full kept keeps.few)
  where
    by_room : HasRoom kept ⊎ IsFull kept →
        ProgramsBecome with_room (program_side kept launcher) (program_side (staying kept) (with_gone_over (gone_of kept) launcher))
    by_room (inl few) =
        subst (λ (left : List Entry). ProgramsBecome with_room (program_side kept launcher) (program_side left (with_gone_over (gone_of kept) launcher))) (sym few.1)
        (subst (λ (gone : Option ℕ). ProgramsBecome with_room (program_side kept launcher) (program_side kept (with_gone_over gone launcher))) (sym few.2)
        (room_there (program_side kept launcher) few.0 keeps))
    by_room (inr full) =
        let over = with_gone_over (Some full.1.1) launcher in
        let Q : List Entry → Type 0 = λ all.
        KeepsPrograms (program_side all launcher) → ProgramsBecome with_last_over (program_side all launcher) (program_side full.0 over)
        in
        let ends : Q kept = subst Q (sym full.2) (ends_oldest (Ok tt) full.1 full.0 launcher over refl) in
        subst (λ (left : List Entry). ProgramsBecome with_room (program_side kept launcher) (program_side left (with_gone_over (gone_of kept) launcher))) (sym full.3)
        (subst (λ (gone : Option ℕ). ProgramsBecome with_room (program_side kept launcher) (program_side full.0 (with_gone_over gone launcher))) (sym full.4)
        (room_made (program_side kept launcher) (program_side full.0 over) full.5 (ends keeps)))

-- the one that goes could not be ended
gone_failed : (failed : Failed) (kept now : List Entry) (old new : LauncherRecord) → KeepsPrograms (program_side kept old) →
    EndsGone (gone_of kept) (Err failed) old new → ProgramsFail room_parts (program_side kept old) (program_side now new)
gone_failed failed kept now old new keeps ends = by_room (room_or_full kept keeps.few)
  where
    by_room : HasRoom kept ⊎ IsFull kept → ProgramsFail room_parts (program_side kept old) (program_side now new)
    by_room (inl few) = let none = subst (λ (gone : Option ℕ). EndsGone gone (Err failed) old new) few.2 ends in absurd (cc none.0)
    by_room (inr full) =
        let last = subst (λ (gone : Option ℕ). EndsGone gone (Err failed) old new) full.4 ends in
        let Q : List Entry → Type 0 = λ all.
        KeepsPrograms (program_side all old) → ProgramsFail last_parts (program_side all old) (program_side full.0 new)
        in
        let fails : Q kept = subst Q (sym full.2) (ends_oldest (Err failed) full.1 full.0 old new last) in
        let now_fails = room_failed (program_side kept old) (program_side full.0 new) full.5 (fails keeps) in
        record { rose = now_fails.rose; stands = now_fails.stands }

-- the entry of a command was reserved, its program was started, and the entry got its number
pub starts_reserved : (words : List (List ℕ)) (command : List ℕ) (child : ChildNo) (kept now : List Entry) (old new : LauncherRecord) →
    command ≡ command_of words → number_under command kept ≡ None → KeepsPrograms (program_side kept old) →
    StartsAfter (Ok child) (gone_of kept) words old new → now ≡ (command, child.0) ∷ staying kept →
    ProgramsBecome (by_program words) (program_side kept old) (program_side now new)
starts_reserved words command child kept now old new its_own unknown keeps is kept_now =
    let mid = program_side (staying kept) (with_gone_over (gone_of kept) old) in
    let room = room_ended kept old keeps in
    let few : length (staying kept) < MOST_PIPED = omega (arith, length-take 31 kept) in
    let began =
    starts words command child.0 (staying kept) mid.launcher new is.0 is.1 its_own (not_under_front command 31 kept unknown) few is.2 room.keeps
    in
    let all = starts_behind words (program_side kept old) mid (program_side ((command, child.0) ∷ staying kept) new) room began in
    let none : number_under (command_of words) kept ≡ None = subst (λ (name : List ℕ). number_under name kept ≡ None) its_own unknown in
    subst (λ (entries : List Entry). ProgramsBecome (by_program words) (program_side kept old) (program_side entries new)) (sym kept_now)
    (record {
      world = λ files. all.world files ∙ ap (λ (found : Option ℕ). piped_by found words (world_with files (program_side kept old))) (sym none);
      faults = all.faults;
      keeps = all.keeps;
    })

-- it was reserved, and the launcher failed
pub starts_failed : (failed : Failed) (words : List (List ℕ)) (command : List ℕ) (kept now : List Entry) (old new : LauncherRecord) →
    command ≡ command_of words → number_under command kept ≡ None → KeepsPrograms (program_side kept old) →
    StartsAfter (Err failed) (gone_of kept) words old new → ProgramsFail (by_program_parts words) (program_side kept old) (program_side now new)
starts_failed failed words command kept now old new its_own unknown keeps is =
    let none : number_under (command_of words) kept ≡ None = subst (λ (name : List ℕ). number_under name kept ≡ None) its_own unknown in
    let fails = by_fault is in
    record {
      rose = fails.rose;
      stands = λ files.
          subst (λ (found : Option ℕ). IsOneOf (pipe_parts found (world_with files (program_side kept old))) (outside_with files new)) (sym none)
          (fails.stands files);
    }
  where
    by_fault : StartsAfter (Err failed) (gone_of kept) words old new → ProgramsFail room_parts (program_side kept old) (program_side now new)
    by_fault (inl ends) = gone_failed failed kept now old new keeps ends
    by_fault (inr fails) =
        start_failed (program_side kept old) (program_side (staying kept) (with_gone_over (gone_of kept) old)) (program_side now new) (room_ended kept old keeps) fails

-- what goes takes bytes
pub gone_taking : (kept : List Entry) (launcher : LauncherRecord) → KeepsPrograms (program_side kept launcher) →
    IfSome (gone_of kept) (λ number. IsTaking (child_no number) launcher)
gone_taking kept launcher keeps =
    each_gone (λ it. IsTaking (child_no it.1) launcher) (λ number. IsTaking (child_no number) launcher) (λ it taking. taking) kept 31 keeps.are_taking

gone_over : (gone : Option ℕ) (old mid : LauncherRecord) → EndsGone gone (Ok tt) old mid → mid ≡ with_gone_over gone old
gone_over None old mid ends = ends.1
gone_over (Some number) old mid ends = ends

pub starts_after : (result : Result ChildNo Failed) (gone : Option ℕ) (words : List (List ℕ)) (old mid new : LauncherRecord) →
    EndsGone gone (Ok tt) old mid → StartsProgram result words true mid new → StartsAfter result gone words old new
starts_after (Ok child) gone words old mid new ends starts =
    subst (λ (launcher : LauncherRecord). StartsProgram (Ok child) words true launcher new) (gone_over gone old mid ends) starts
starts_after (Err failed) gone words old mid new ends fails =
    inr (subst (λ (launcher : LauncherRecord). LauncherFails launcher new) (gone_over gone old mid ends) fails.2)

-- the program of a command is used that is kept
uses_kept : (command : List ℕ) (number : ℕ) (kept : List Entry) (launcher : LauncherRecord) → number_under command kept ≡ Some number →
    KeepsPrograms (program_side kept launcher) → KeepsPrograms (program_side ((command, number) ∷ remove_entry (bytes_eq command) kept) launcher)
uses_kept command number kept launcher found keeps = record {
  are_taking = each_found command number (λ it. IsTaking (child_no it.1) launcher) kept found keeps.are_taking;
  apart = apart_found command number kept found keeps.apart;
  few = omega (arith, keeps.few, one_less (bytes_eq command) kept number found);
}

pub uses_raised : (words : List (List ℕ)) (command : List ℕ) (number : ℕ) (kept new : List Entry) (launcher : LauncherRecord) → command ≡ command_of words →
    number_under command kept ≡ Some number → new ≡ raised command kept → KeepsPrograms (program_side kept launcher) →
    ProgramsBecome (by_program words) (program_side kept launcher) (program_side new launcher)
uses_raised words command number kept new launcher its_own found is keeps =
    subst
    (λ (name : List ℕ). number_under name kept ≡ Some number → new ≡ raised name kept → ProgramsBecome (by_program words) (program_side kept launcher) (program_side new launcher))
    (sym its_own)
    uses
    found
    is
  where
    uses : number_under (command_of words) kept ≡ Some number → new ≡ raised (command_of words) kept →
        ProgramsBecome (by_program words) (program_side kept launcher) (program_side new launcher)
    uses found is =
        let now : new ≡ (command_of words, number) ∷ remove_entry (bytes_eq (command_of words)) kept =
        is ∙ ap (λ (under : Option ℕ). raised_by under (command_of words) kept) found
        in
        record {
          world = λ files.
              ap (λ (all : List Entry). world_with files (program_side all launcher)) now
              ∙ ap (λ (under : Option ℕ). piped_by under words (world_with files (program_side kept launcher))) (sym found);
          faults = refl;
          keeps = subst (λ (all : List Entry). KeepsPrograms (program_side all launcher)) (sym now) (uses_kept (command_of words) number kept launcher found keeps);
        }

over_behind : (front : List Entry) (it : Entry) (outside : Outside) → all_over (front ++ it ∷ []) outside ≡ all_over front (over it.1 outside)
over_behind [] it outside = refl
over_behind (first ∷ front) it outside = ap (over first.1) (over_behind front it outside)

parts_behind : (front : List Entry) (it : Entry) (outside : Outside) →
    all_over_parts (front ++ it ∷ []) outside ≡ over_parts (Some it) outside ++ all_over_parts front (over it.1 outside)
parts_behind [] it outside = refl
parts_behind (first ∷ front) it outside =
    ap (λ (parts : List Outside). parts ++ over_parts (Some first) (all_over (front ++ it ∷ []) outside)) (parts_behind front it outside)
    ∙ ap (λ (after : Outside). (over_parts (Some it) outside ++ all_over_parts front (over it.1 outside)) ++ over_parts (Some first) after) (over_behind front it outside)
    ∙ append_assoc (over_parts (Some it) outside) (all_over_parts front (over it.1 outside)) (over_parts (Some first) (all_over front (over it.1 outside)))

-- the child that was written longest ago is over, and then the others
record IsClosingStep (world : World) : Type 0 where
  ends : closed (with_last_over world) ≡ closed world
  first : (x : Outside) → IsOneOf (last_parts world) x → IsOneOf (closing_parts world) x
  later : (x : Outside) → IsOneOf (closing_parts (with_last_over world)) x → IsOneOf (closing_parts world) x

closing_step : (front : List Entry) (it : Entry) (outside : Outside) → IsClosingStep (record { outside = outside; piped = front ++ it ∷ [] })
closing_step front it outside =
    let world : World = record { outside = outside; piped = front ++ it ∷ [] } in
    let after : with_last_over world ≡ record { outside = over it.1 outside; piped = front } =
    ap (λ (e : Option Entry). record { outside = ended e outside; piped = take (length (front ++ it ∷ []) - 1) (front ++ it ∷ []) }) (last_is front it)
    ∙ ap (λ (piped : List Entry). record { outside = over it.1 outside; piped = piped }) (take_front front it)
    in
    let last : last_parts world ≡ over_parts (Some it) outside = ap (λ (e : Option Entry). over_parts e outside) (last_is front it) in
    record {
      ends = ap closed after ∙ ap (λ (o : Outside). record { outside = o; piped = [] }) (sym (over_behind front it outside));
      first = λ x one.
          subst (λ (parts : List Outside). IsOneOf parts x) (sym (parts_behind front it outside))
          (one_before (over_parts (Some it) outside) (all_over_parts front (over it.1 outside)) x (subst (λ (parts : List Outside). IsOneOf parts x) last one));
      later = λ x one.
          subst (λ (parts : List Outside). IsOneOf parts x) (sym (parts_behind front it outside))
          (one_behind (over_parts (Some it) outside) (all_over_parts front (over it.1 outside)) x
          (subst (λ (w : World). IsOneOf (closing_parts w) x) after one));
    }

closes_some : (world : World) → 0 < length world.piped → IsClosingStep world
closes_some world some =
    let last = last_part world.piped some in
    subst (λ (piped : List Entry). IsClosingStep (record { outside = world.outside; piped = piped })) (sym last.2) (closing_step last.0 last.1 world.outside)

-- What is left to close comes to the same as all that was to be closed.
pub record IsClosing (old now : ProgramSide) : Type 0 where
  pub faults : now.launcher.faults ≡ old.launcher.faults
  pub keeps : KeepsPrograms now
  pub world : (files : Option (List File)) → closed (world_with files now) ≡ closed (world_with files old)
  pub parts : (files : Option (List File)) (x : Outside) → IsOneOf (closing_parts (world_with files now)) x → IsOneOf (closing_parts (world_with files old)) x

pub closing_begins : (side : ProgramSide) → KeepsPrograms side → IsClosing side side
closing_begins side keeps = record { faults = refl; keeps = keeps; world = λ files. refl; parts = λ files x one. one }

pub closing_goes_on : (old mid new : ProgramSide) → 0 < length mid.kept → IsClosing old mid → ProgramsBecome with_last_over mid new → IsClosing old new
closing_goes_on old mid new some closing over = record {
  faults = over.faults ∙ closing.faults;
  keeps = over.keeps;
  world = λ files. ap closed (over.world files) ∙ (closes_some (world_with files mid) some).ends ∙ closing.world files;
  parts = λ files x one.
      closing.parts files x ((closes_some (world_with files mid) some).later x (subst (λ (w : World). IsOneOf (closing_parts w) x) (over.world files) one));
}

pub closing_fails : (old mid new : ProgramSide) → 0 < length mid.kept → IsClosing old mid → ProgramsFail last_parts mid new → ProgramsFail closing_parts old new
closing_fails old mid new some closing fails = record {
  rose = subst (λ (faults : ℕ). Rose faults new.launcher.faults) closing.faults fails.rose;
  stands = λ files.
      closing.parts files (outside_with files new.launcher) ((closes_some (world_with files mid) some).first (outside_with files new.launcher) (fails.stands files));
}

pub closing_ends : (old now : ProgramSide) → now.kept ≡ [] → IsClosing old now → ProgramsBecome closed old now
closing_ends old now none closing = record {
  world = λ files.
      subst (λ (kept : List Entry). world_with files (program_side kept now.launcher) ≡ closed (world_with files (program_side kept now.launcher))) (sym none) refl
      ∙ closing.world files;
  faults = closing.faults;
  keeps = closing.keeps;
}

pub fewer : (old new : ProgramSide) → 0 < length old.kept → ProgramsBecome with_last_over old new → length new.kept < length old.kept
fewer old new some over =
    let kept : new.kept ≡ take (length old.kept - 1) old.kept = ap (λ (world : World). world.piped) (over.world None) in
    omega (arith, ap length kept, length-take (length old.kept - 1) old.kept)
