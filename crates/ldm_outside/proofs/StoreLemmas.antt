-- Lemmas for callers of stores and launchers: what is open or runs stays so over the calls that change others.
use Rattle.std.proofs.Common.{◌≡◌, ◌∙◌, ℕ, ◌≢◌, Bool, true, false, cond, List, [], ◌∷◌, Option, Some, None, refl, sym, subst, arith}
use Rattle.std.specs.Prelude.{IsSome, IfSome, option_map, String, bytes_eq}
use Rattle.std.specs.declared.alloc.Global.{Global}
use Rattle.std.proofs.lemmas.Slice.Eq.{bytes_eq-Decides}
use Rattle.ldm_outside.specs.declared.launcher.ChildNo.{ChildNo}
use Rattle.ldm_outside.specs.declared.store.FileNo.{FileNo}
use Rattle.ldm_outside.specs.Launcher.{LauncherRecord, Running, DetachesChild, IsTaking, IsNotWaitedFor, LauncherFails, new_running, running_at, with_fed, with_input_shut, with_shut, with_started, with_waited}
use Rattle.ldm_outside.specs.Numbered.{at_number, without_number}
use Rattle.ldm_outside.specs.Store.{File, StoreRecord, IsOpen, ChangesFile, StoreFails, bytes_under, path_of, with_changed, with_file, with_made, with_opened}
use Rattle.ldm_outside.proofs.NumberLemmas.{at-with, at-with-others, at-without-others, at-changed, at-changed-others}

-- a file is there once it was made
made_is_there : (path : List ℕ) (files : List File) → IsSome (bytes_under path (with_made path files))
made_is_there path [] = rw ((bytes_eq-Decides path path).1 refl) refl
made_is_there path (file ∷ rest) = by_test (bytes_eq file.path path) refl (made_is_there path rest)
  where
    by_test : (b : Bool) → b ≡ bytes_eq file.path path → IsSome (bytes_under path (with_made path rest)) → IsSome (bytes_under path (cond b (file ∷ rest) (file ∷ with_made path rest)))
    by_test true is later = rw (sym is) refl
    by_test false is later = rw (sym is) later

-- and no making takes one away
kept_by_made : (path other : List ℕ) (files : List File) → IsSome (bytes_under path files) → IsSome (bytes_under path (with_made other files))
kept_by_made path other [] there = absurd (cc)
kept_by_made path other (file ∷ rest) there = by_tests (bytes_eq file.path other) (bytes_eq file.path path) refl (kept_by_made path other rest) there
  where
    by_tests : (b c : Bool) → c ≡ bytes_eq file.path path → (IsSome (bytes_under path rest) → IsSome (bytes_under path (with_made other rest))) → IsSome (cond c (Some file.bytes) (bytes_under path rest))
        → IsSome (bytes_under path (cond b (file ∷ rest) (file ∷ with_made other rest)))
    by_tests true c is later there = subst (λ (b : Bool). IsSome (cond b (Some file.bytes) (bytes_under path rest))) is there
    by_tests false true is later there = rw (sym is) refl
    by_tests false false is later there = rw (sym is) (later there)

-- nor does a change of bytes
kept_by_changed : (path other : List ℕ) (change : List ℕ → List ℕ) (files : List File) → IsSome (bytes_under path files) → IsSome (bytes_under path (with_changed other change files))
kept_by_changed path other change [] there = there
kept_by_changed path other change (file ∷ rest) there = by_tests (bytes_eq file.path other) (bytes_eq file.path path) refl (kept_by_changed path other change rest) there
  where
    by_tests : (b c : Bool) → c ≡ bytes_eq file.path path → (IsSome (bytes_under path rest) → IsSome (bytes_under path (with_changed other change rest))) → IsSome (cond c (Some file.bytes) (bytes_under path rest))
        → IsSome (bytes_under path (cond b (record file { bytes = change file.bytes } ∷ rest) (file ∷ with_changed other change rest)))
    by_tests true true is later there = rw (sym is) refl
    by_tests true false is later there = rw (sym is) there
    by_tests false true is later there = rw (sym is) refl
    by_tests false false is later there = rw (sym is) (later there)

module _ (path : List ℕ) where
  -- a file under the path is there still after these changes of the files
  there_by : (f : List File → List File) → ((files : List File) → IsSome (bytes_under path files) → IsSome (bytes_under path (f files)))
      → (files : Option (List File)) → IfSome files (λ fs. IsSome (bytes_under path fs)) → IfSome (option_map f files) (λ fs. IsSome (bytes_under path fs))
  there_by f kept None there = tt
  there_by f kept (Some files) there = kept files there

-- a file is open that was just opened
pub IsOpen-last : (file : FileNo) (path : List ℕ) (old new : StoreRecord) → file.0 ≡ old.next → new ≡ with_opened path old → IsOpen file new
IsOpen-last file path old new number is = subst (λ (s : StoreRecord). IsOpen file s) (sym is) (record {
  path = path;
  given = omega (arith, number);
  not_shut = rw number (at-with old.next path old.paths);
  there = made old.files;
})
  where
    made : (files : Option (List File)) → IfSome (option_map (with_made path) files) (λ fs. IsSome (bytes_under path fs))
    made None = tt
    made (Some files) = made_is_there path files

-- an open file stays open where another is opened
pub IsOpen-before : (file : FileNo) (path : List ℕ) (old new : StoreRecord) → new ≡ with_opened path old → IsOpen file old → IsOpen file new
IsOpen-before file path old new is open_file =
    let differ : file.0 ≢ old.next = omega (arith, open_file.given) in
    subst (λ (s : StoreRecord). IsOpen file s) (sym is) (record {
      path = open_file.path;
      given = omega (arith, open_file.given);
      not_shut = at-with-others old.next file.0 path old.paths differ ∙ open_file.not_shut;
      there = there_by open_file.path (with_made path) (kept_by_made open_file.path path) old.files open_file.there;
    })

-- an open file stays open where the bytes of a file are changed
pub IsOpen-changes : (file other : FileNo) (change : List ℕ → List ℕ) (old new : StoreRecord) → ChangesFile other change old new → IsOpen file old → IsOpen file new
IsOpen-changes file other change old new is open_file = subst (λ (s : StoreRecord). IsOpen file s) (sym is) (record {
  path = open_file.path;
  given = open_file.given;
  not_shut = open_file.not_shut;
  there = there_by open_file.path (with_file (path_of other old) change) (kept (path_of other old)) old.files open_file.there;
})
  where
    kept : (o : Option (List ℕ)) (files : List File) → IsSome (bytes_under open_file.path files) → IsSome (bytes_under open_file.path (with_file o change files))
    kept None files there = there
    kept (Some path) files there = kept_by_changed open_file.path path change files there

-- an open file stays open where another is shut
pub IsOpen-others : (file other : FileNo) (old new : StoreRecord) → file.0 ≢ other.0 → new ≡ record old { paths = without_number other.0 old.paths } → IsOpen file old → IsOpen file new
IsOpen-others file other old new differ is open_file = subst (λ (s : StoreRecord). IsOpen file s) (sym is) (record {
  path = open_file.path;
  given = open_file.given;
  not_shut = at-without-others other.0 file.0 old.paths differ ∙ open_file.not_shut;
  there = open_file.there;
})

-- an open file stays open where a call fails, or finds a file too long
pub IsOpen-fails : (file : FileNo) (old new : StoreRecord) → StoreFails old new → IsOpen file old → IsOpen file new
IsOpen-fails file old new fails open_file = subst (λ (s : StoreRecord). IsOpen file s) (sym fails.1) (record { path = open_file.path; given = open_file.given; not_shut = open_file.not_shut; there = open_file.there })

pub IsOpen-long : (file : FileNo) (old new : StoreRecord) → new ≡ record old { long = new.long } → IsOpen file old → IsOpen file new
IsOpen-long file old new is open_file = subst (λ (s : StoreRecord). IsOpen file s) (sym is) (record { path = open_file.path; given = open_file.given; not_shut = open_file.not_shut; there = open_file.there })

-- a child that was just started takes bytes
pub IsTaking-last : (child : ChildNo) (words : List (String Global)) (piped : Bool) (old new : LauncherRecord) → child.0 ≡ old.next → new ≡ with_started words piped old → IsTaking child new
IsTaking-last child words piped old new number is = subst (λ (l : LauncherRecord). IsTaking child l) (sym is) (record {
  it = new_running words piped;
  given = omega (arith, number);
  not_waited = rw number (at-with old.next (new_running words piped) old.running);
  not_shut = refl;
})

-- one that takes bytes was not waited for
pub IsNotWaitedFor-taking : (child : ChildNo) (now : LauncherRecord) → IsTaking child now → IsNotWaitedFor child now
IsNotWaitedFor-taking child now taking = record { it = taking.it; given = taking.given; not_waited = taking.not_waited }

-- a child stays as it is where another is started
pub IsTaking-before : (child : ChildNo) (words : List (String Global)) (piped : Bool) (old new : LauncherRecord) → new ≡ with_started words piped old → IsTaking child old → IsTaking child new
IsTaking-before child words piped old new is taking =
    let differ : child.0 ≢ old.next = omega (arith, taking.given) in
    subst (λ (l : LauncherRecord). IsTaking child l) (sym is) (record {
      it = taking.it;
      given = omega (arith, taking.given);
      not_waited = at-with-others old.next child.0 (new_running words piped) old.running differ ∙ taking.not_waited;
      not_shut = taking.not_shut;
    })

pub IsNotWaitedFor-before : (child : ChildNo) (words : List (String Global)) (piped : Bool) (old new : LauncherRecord) → new ≡ with_started words piped old → IsNotWaitedFor child old → IsNotWaitedFor child new
IsNotWaitedFor-before child words piped old new is running =
    let differ : child.0 ≢ old.next = omega (arith, running.given) in
    subst (λ (l : LauncherRecord). IsNotWaitedFor child l) (sym is) (record {
      it = running.it;
      given = omega (arith, running.given);
      not_waited = at-with-others old.next child.0 (new_running words piped) old.running differ ∙ running.not_waited;
    })

-- a child stays as it is where one is given bytes
pub IsTaking-fed : (child other : ChildNo) (bytes : List ℕ) (old new : LauncherRecord) → new ≡ record old { children = option_map (with_fed other bytes) old.children } → IsTaking child old → IsTaking child new
IsTaking-fed child other bytes old new is taking = subst (λ (l : LauncherRecord). IsTaking child l) (sym is) (record { it = taking.it; given = taking.given; not_waited = taking.not_waited; not_shut = taking.not_shut })

pub IsNotWaitedFor-fed : (child other : ChildNo) (bytes : List ℕ) (old new : LauncherRecord) → new ≡ record old { children = option_map (with_fed other bytes) old.children } → IsNotWaitedFor child old → IsNotWaitedFor child new
IsNotWaitedFor-fed child other bytes old new is running = subst (λ (l : LauncherRecord). IsNotWaitedFor child l) (sym is) (record { it = running.it; given = running.given; not_waited = running.not_waited })

-- what a launcher tells after the input of a child was shut
abbrev pub with_input_of : ChildNo → LauncherRecord → LauncherRecord
with_input_of child old = record old {
  running = with_shut child (running_at child old) old.running;
  children = option_map (with_input_shut child) old.children;
}

-- what a launcher tells after a child was waited for
abbrev pub with_wait_for : ChildNo → LauncherRecord → LauncherRecord
with_wait_for child old = record old {
  running = without_number child.0 old.running;
  children = option_map (with_waited child) old.children;
}

-- what runs under another number is the same after an input was shut
shut_apart : (child other : ChildNo) (o : Option Running) (running : List (ℕ × Running)) → child.0 ≢ other.0 → (it : Running) → at_number child.0 running ≡ Some it → at_number child.0 (with_shut other o running) ≡ Some it
shut_apart child other None running differ it found = found
shut_apart child other (Some was) running differ it found = at-changed-others other.0 child.0 (record was { shut = true }) running differ ∙ found

-- a child takes bytes still where the input of another is shut
pub IsTaking-others : (child other : ChildNo) (old new : LauncherRecord) → child.0 ≢ other.0 → new ≡ with_input_of other old → IsTaking child old → IsTaking child new
IsTaking-others child other old new differ is taking = subst (λ (l : LauncherRecord). IsTaking child l) (sym is) (record {
  it = taking.it;
  given = taking.given;
  not_waited = shut_apart child other (running_at other old) old.running differ taking.it taking.not_waited;
  not_shut = taking.not_shut;
})

-- a child is not waited for by shutting an input: that of another,
pub IsNotWaitedFor-others : (child other : ChildNo) (old new : LauncherRecord) → child.0 ≢ other.0 → new ≡ with_input_of other old → IsNotWaitedFor child old → IsNotWaitedFor child new
IsNotWaitedFor-others child other old new differ is running = subst (λ (l : LauncherRecord). IsNotWaitedFor child l) (sym is) (record {
  it = running.it;
  given = running.given;
  not_waited = shut_apart child other (running_at other old) old.running differ running.it running.not_waited;
})

-- or its own
pub IsNotWaitedFor-own : (child : ChildNo) (old new : LauncherRecord) → new ≡ with_input_of child old → IsNotWaitedFor child old → IsNotWaitedFor child new
IsNotWaitedFor-own child old new is running = subst (λ (l : LauncherRecord). IsNotWaitedFor child l) (sym is) (record {
  it = record running.it { shut = true };
  given = running.given;
  not_waited = subst (λ (o : Option Running). at_number child.0 (with_shut child o old.running) ≡ Some (record running.it { shut = true })) (sym running.not_waited)
      (at-changed child.0 running.it (record running.it { shut = true }) old.running running.not_waited);
})

-- a child stays as it is where another was waited for
pub IsTaking-waited : (child other : ChildNo) (old new : LauncherRecord) → child.0 ≢ other.0 → new ≡ with_wait_for other old → IsTaking child old → IsTaking child new
IsTaking-waited child other old new differ is taking = subst (λ (l : LauncherRecord). IsTaking child l) (sym is) (record {
  it = taking.it;
  given = taking.given;
  not_waited = at-without-others other.0 child.0 old.running differ ∙ taking.not_waited;
  not_shut = taking.not_shut;
})

pub IsNotWaitedFor-waited : (child other : ChildNo) (old new : LauncherRecord) → child.0 ≢ other.0 → new ≡ with_wait_for other old → IsNotWaitedFor child old → IsNotWaitedFor child new
IsNotWaitedFor-waited child other old new differ is running = subst (λ (l : LauncherRecord). IsNotWaitedFor child l) (sym is) (record {
  it = running.it;
  given = running.given;
  not_waited = at-without-others other.0 child.0 old.running differ ∙ running.not_waited;
})

-- or where another was detached
pub IsTaking-detached : (child other : ChildNo) (old new : LauncherRecord) → child.0 ≢ other.0 → DetachesChild other old new → IsTaking child old → IsTaking child new
IsTaking-detached child other old new differ is taking = subst (λ (l : LauncherRecord). IsTaking child l) (sym is) (record {
  it = taking.it;
  given = taking.given;
  not_waited = at-without-others other.0 child.0 old.running differ ∙ taking.not_waited;
  not_shut = taking.not_shut;
})

pub IsNotWaitedFor-detached : (child other : ChildNo) (old new : LauncherRecord) → child.0 ≢ other.0 → DetachesChild other old new → IsNotWaitedFor child old → IsNotWaitedFor child new
IsNotWaitedFor-detached child other old new differ is running = subst (λ (l : LauncherRecord). IsNotWaitedFor child l) (sym is) (record {
  it = running.it;
  given = running.given;
  not_waited = at-without-others other.0 child.0 old.running differ ∙ running.not_waited;
})

-- a child stays as it is where a call fails
pub IsTaking-fails : (child : ChildNo) (old new : LauncherRecord) → LauncherFails old new → IsTaking child old → IsTaking child new
IsTaking-fails child old new fails taking = subst (λ (l : LauncherRecord). IsTaking child l) (sym fails.1) (record { it = taking.it; given = taking.given; not_waited = taking.not_waited; not_shut = taking.not_shut })

pub IsNotWaitedFor-fails : (child : ChildNo) (old new : LauncherRecord) → LauncherFails old new → IsNotWaitedFor child old → IsNotWaitedFor child new
IsNotWaitedFor-fails child old new fails running = subst (λ (l : LauncherRecord). IsNotWaitedFor child l) (sym fails.1) (record { it = running.it; given = running.given; not_waited = running.not_waited })
