-- Commands that are started one after another, and children that are waited for one after another.
use Rattle.std.proofs.Common.{◌≡◌, ◌≢◌, ◌∙◌, ℕ, ◌+◌, ◌<◌, List, [], ◌∷◌, ◌++◌, length, map, take, drop, get_or, refl, sym, ap, subst, arith}
use Rattle.std.proofs.lemmas.List.{map-append, take-append-drop, take_more}
use Rattle.std.proofs.lemmas.List.{at_drop_more}
use Rattle.ldm_outside.specs.declared.launcher.ChildNo.{ChildNo}
use Rattle.ldm_outside.specs.Launcher.{IsNotWaitedFor, LauncherFails, LauncherRecord}
use Rattle.ldm_outside.proofs.NumberLemmas.{at-with, at-with-others}
use Rattle.ldm_outside.proofs.StoreLemmas.{IsNotWaitedFor-waited}
use Rattle.ldm_node_command.specs.Commands.{AllRun, AreBehind, FailsToStart, FailsToWait, Words, numbers_from, running_of, with_command, with_commands, with_wait, with_waits}

-- one command more
pub with_commands-more : (commands : List Words) (words : Words) (old : LauncherRecord) → with_commands (commands ++ words ∷ []) old ≡ with_command words (with_commands commands old)
with_commands-more [] words old = refl
with_commands-more (first ∷ commands) words old = with_commands-more commands words (with_command first old)

next-with_commands : (commands : List Words) (old : LauncherRecord) → (with_commands commands old).next ≡ old.next + length commands
next-with_commands [] old = omega arith
next-with_commands (first ∷ commands) old = omega (arith, next-with_commands commands (with_command first old))

pub faults-with_commands : (commands : List Words) (old : LauncherRecord) → (with_commands commands old).faults ≡ old.faults
faults-with_commands [] old = refl
faults-with_commands (first ∷ commands) old = faults-with_commands commands (with_command first old)

numbers_from-more : (next : ℕ) (commands : List Words) (words : Words) → numbers_from next (commands ++ words ∷ []) ≡ numbers_from next commands ++ record { 0 = next + length commands } ∷ []
numbers_from-more next [] words = ap (λ (n : ℕ). let child : ChildNo = record { 0 = n } in child ∷ []) (omega arith)
numbers_from-more next (first ∷ commands) words =
    let later = numbers_from-more (next + 1) commands words in
    let same : next + 1 + length commands ≡ next + length (first ∷ commands) = omega arith in
    ap (λ (children : List ChildNo). record { 0 = next } ∷ children) (later ∙ ap (λ (n : ℕ). numbers_from (next + 1) commands ++ record { 0 = n } ∷ []) same)

-- the numbers of commands that were started, with the one that was given for one more
pub one_number : (commands : List Words) (words : Words) (old mid : LauncherRecord) (child : ChildNo) → mid ≡ with_commands commands old → child.0 ≡ mid.next
    → numbers_from old.next (commands ++ words ∷ []) ≡ numbers_from old.next commands ++ child ∷ []
one_number commands words old mid child is given =
    let number : old.next + length commands ≡ child.0 = sym (next-with_commands commands old) ∙ sym (ap (λ (l : LauncherRecord). l.next) is) ∙ sym given in
    numbers_from-more old.next commands words ∙ ap (λ (n : ℕ). numbers_from old.next commands ++ record { 0 = n } ∷ []) number

-- a command runs that was just started, and those before it run on
just_runs : (words : Words) (old : LauncherRecord) → IsNotWaitedFor (record { 0 = old.next }) (with_command words old)
just_runs words old = record { it = running_of words; given = omega arith; not_waited = at-with old.next (running_of words) old.running }

runs_on : (child : ChildNo) (words : Words) (old : LauncherRecord) → IsNotWaitedFor child old → IsNotWaitedFor child (with_command words old)
runs_on child words old running =
    let differ : child.0 ≢ old.next = omega (arith, running.given) in
    record {
      it = running.it;
      given = omega (arith, running.given);
      not_waited = at-with-others old.next child.0 (running_of words) old.running differ ∙ running.not_waited;
    }

run_on : (child : ChildNo) (commands : List Words) (old : LauncherRecord) → IsNotWaitedFor child old → IsNotWaitedFor child (with_commands commands old)
run_on child [] old running = running
run_on child (words ∷ commands) old running = run_on child commands (with_command words old) (runs_on child words old running)

numbers_are_behind : (number next : ℕ) (commands : List Words) → number < next → AreBehind number (numbers_from next commands)
numbers_are_behind number next [] less = tt
numbers_are_behind number next (words ∷ commands) less = (less, numbers_are_behind next (next + 1) commands (omega arith))

-- commands that were started run, all of them
pub all_run : (commands : List Words) (old : LauncherRecord) → AllRun (numbers_from old.next commands) (with_commands commands old)
all_run [] old = tt
all_run (words ∷ commands) old =
    let child : ChildNo = record { 0 = old.next } in (
      run_on child commands (with_command words old) (just_runs words old),
      numbers_are_behind old.next (old.next + 1) commands (omega arith),
      all_run commands (with_command words old),
    )

-- one child more
pub with_waits-more : (children : List ChildNo) (child : ChildNo) (old : LauncherRecord) → with_waits (children ++ child ∷ []) old ≡ with_wait child (with_waits children old)
with_waits-more [] child old = refl
with_waits-more (first ∷ children) child old = with_waits-more children child (with_wait first old)

pub faults-with_waits : (children : List ChildNo) (old : LauncherRecord) → (with_waits children old).faults ≡ old.faults
faults-with_waits [] old = refl
faults-with_waits (first ∷ children) old = faults-with_waits children (with_wait first old)

behind_both : (number other : ℕ) (children : List ChildNo) → number < other → AreBehind other children → AreBehind number children
behind_both number other [] less behind = tt
behind_both number other (child ∷ children) less behind = (omega (arith, behind.0), behind.1)

-- those behind a child run still once it was waited for
pub others_run : (child : ChildNo) (children : List ChildNo) (old : LauncherRecord) → AreBehind child.0 children → AllRun children old → AllRun children (with_wait child old)
others_run child [] old behind running = tt
others_run child (next ∷ children) old behind running =
    let differ : next.0 ≢ child.0 = omega (arith, behind.0) in (
      IsNotWaitedFor-waited next child old (with_wait child old) differ refl running.0,
      running.1,
      others_run child children old (behind_both child.0 next.0 children behind.0 running.1) running.2,
    )

-- what the items of a list are, before a place and behind it
module _ {A B : Type 0} (view : A → B) where
  pub map-take-more : (xs : List A) (i : ℕ) (x : A) → i < length xs → x ≡ get_or xs i x → map view (take (i + 1) xs) ≡ map view (take i xs) ++ view x ∷ []
  map-take-more xs i x less is =
      ap (map view) (take_more xs i x less)
      ∙ map-append view (take i xs) (get_or xs i x ∷ [])
      ∙ ap (λ (y : A). map view (take i xs) ++ view y ∷ []) (sym is)

  pub map-parts : (xs : List A) (i : ℕ) (x : A) → i < length xs → x ≡ get_or xs i x → map view xs ≡ map view (take i xs) ++ view x ∷ map view (drop (i + 1) xs)
  map-parts xs i x less is =
      ap (map view) (sym (take-append-drop i xs))
      ∙ map-append view (take i xs) (drop i xs)
      ∙ ap (λ (ys : List B). map view (take i xs) ++ ys) (at_drop_more (map view) xs i x less ∙ ap (λ (y : A). view y ∷ map view (drop (i + 1) xs)) (sym is))

-- one command more was started
pub one_started : (commands : List Words) (words : Words) (old mid new : LauncherRecord) → mid ≡ with_commands commands old → new ≡ with_command words mid
    → new ≡ with_commands (commands ++ words ∷ []) old
one_started commands words old mid new before here = here ∙ ap (with_command words) before ∙ sym (with_commands-more commands words old)

-- the command at a place could not be started
pub fails_to_start : (started left : List Words) (failing : Words) (commands : List Words) (old mid new : LauncherRecord) → commands ≡ started ++ failing ∷ left
    → mid ≡ with_commands started old → LauncherFails mid new → FailsToStart commands old new
fails_to_start started left failing commands old mid new in_order before fails =
    record { started = started; failing = failing; left = left; in_order = in_order; fails = subst (λ (l : LauncherRecord). LauncherFails l new) before fails }

module _ (children : List ChildNo) (i : ℕ) (d : ChildNo) (less : i < length children) (old mid new : LauncherRecord) (before : mid ≡ with_waits (take i children) old) where
  -- the child at a place was waited for
  pub one_waited : new ≡ with_wait (get_or children i d) mid → new ≡ with_waits (take (i + 1) children) old
  one_waited here =
      here
      ∙ ap (with_wait (get_or children i d)) before
      ∙ sym (with_waits-more (take i children) (get_or children i d) old)
      ∙ ap (λ (waited : List ChildNo). with_waits waited old) (sym (take_more children i d less))

  -- those behind it run on
  pub rest_runs : AllRun (drop i children) mid → new ≡ with_wait (get_or children i d) mid → AllRun (drop (i + 1) children) new
  rest_runs running here =
      let all = subst (λ (left : List ChildNo). AllRun left mid) (at_drop_more (λ (left : List ChildNo). left) children i d less) running in
      subst (λ (l : LauncherRecord). AllRun (drop (i + 1) children) l) (sym here) (others_run (get_or children i d) (drop (i + 1) children) mid all.1 all.2)

  -- or it was not waited for
  pub fails_to_wait : LauncherFails mid new → FailsToWait children old new
  fails_to_wait fails = record {
    waited = take i children;
    failing = get_or children i d;
    left = drop (i + 1) children;
    in_order = sym (take-append-drop i children) ∙ ap (λ (left : List ChildNo). take i children ++ left) (at_drop_more (λ (left : List ChildNo). left) children i d less);
    fails = subst (λ (l : LauncherRecord). LauncherFails l new) before fails;
  }
