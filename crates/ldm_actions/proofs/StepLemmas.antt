-- What a step of files, or of programs, is to all that is kept.
use Rattle.std.proofs.Common.{◌≡◌, ◌≢◌, ◌∙◌, ℕ, inl, inr, Bool, true, false, cond, List, [], ◌∷◌, ◌++◌, drop, length, Option, Some, option_map, Ok, Err, refl, sym, ap, subst, arith}
use Rattle.std.specs.Prelude.{slice_get, String}
use Rattle.std.specs.declared.alloc.Global.{Global}
use Rattle.ldm_outside.specs.declared.fault.Failed.{Failed}
use Rattle.ldm_outside.specs.Launcher.{Child as ChildRecord, IsTaking, LauncherRecord, spelled, with_started}
use Rattle.ldm_outside.specs.Store.{File, StoreRecord, path_of, with_changed, with_file}
use Rattle.ldm_outside.proofs.StoreLemmas.{IsTaking-before, IsTaking-detached, IsTaking-fed, IsTaking-waited}
use Rattle.ldm_actions.specs.declared.answers.Begun.{Begun}
use Rattle.ldm_actions.specs.declared.answers.Begun.TheVariants as answer
use Rattle.ldm_actions.specs.declared.answers.Done.{Done}
use Rattle.ldm_actions.specs.declared.answers.Done.TheVariants as done
use Rattle.ldm_actions.specs.declared.hand.Hand.{Hand}
use Rattle.ldm_actions.specs.declared.hand.Place.{Place}
use Rattle.ldm_actions.specs.declared.options.FileOptions.{FileOptions}
use Rattle.ldm_actions.specs.declared.options.PipeOptions.{PipeOptions}
use Rattle.ldm_actions.specs.Effects.{ToFile, ToProgram, Start, Nothing, Nowhere, File as FileTarget, Child, begun, closed, executed, fed_to, finished, finished_by, given, opened}
use Rattle.ldm_actions.specs.Hands.{newest_path, seen_with}
use Rattle.ldm_actions.specs.Kept.{Each, IsNewest}
use Rattle.ldm_actions.specs.OpenFiles.{BeginsFile, FileSide, FilesBecome, FilesFail, IsOpenUnder, all_shut, file_no, file_side, files_begun, store_finished}
use Rattle.ldm_actions.specs.Outputs.{Becomes, BeginsKept, ClosesKept, FinishesKept, GivesKept, Kept, Keeps, files_after_finish, kept_in, world_of}
use Rattle.ldm_actions.specs.Parts.{begin_parts, finish_parts, finish_parts_by}
use Rattle.ldm_actions.specs.Programs.{BeginsProgram, Executes, IsOneOf, ProgramSide, ProgramsBecome, ProgramsFail, closing_parts, outside_with, program_side, running_after, with_child_gone, with_child_over, with_executed, world_with}
use Rattle.ldm_actions.specs.Strip.{kept}
use Rattle.ldm_actions.specs.World.{Outside, child_no, made, started}
use Rattle.ldm_actions.specs.Writing.{AppendsAll, FeedsAll, with_appended, with_given}
use Rattle.ldm_actions.proofs.FileSteps.{keeps_changed}
use Rattle.ldm_actions.proofs.KeptLemmas.{Entry, each_then}

-- a file was begun
module _ (files files' piped : List Entry) (store store' : StoreRecord) (launcher : LauncherRecord) where
  abbrev old_files : Kept
  old_files = kept_in files piped store launcher

  abbrev new_files : Kept
  new_files = kept_in files' piped store' launcher

  opened_is : (overwrite : Bool) (path : List ℕ) →
      world_with (files_begun overwrite path store.files) (program_side piped launcher)
      ≡ record (world_of old_files) { outside = opened overwrite path (world_of old_files).outside }
  opened_is true path = refl
  opened_is false path = refl

  pub file_begun : (result : Begun) (path : List ℕ) (options : FileOptions) → Keeps old_files →
      BeginsFile result options.overwrite path (file_side files store) (file_side files' store') → BeginsKept result (ToFile path options) old_files new_files
  unfolding begun begin_parts
  file_begun answer.Ready path options keeps becomes = (
    record {
      world_now = ap (λ (all : Option (List File)). world_with all (program_side piped launcher)) becomes.files_now ∙ opened_is options.overwrite path;
      files_now = becomes.kept_now;
      only_kept = becomes.no_more;
      keeps = record { files = becomes.keeps; programs = keeps.programs };
      store_faults = becomes.faults;
      long = becomes.long;
      launcher_faults = refl;
    },
    (becomes.store_now, refl),
  )
  file_begun answer.StoreFault path options keeps (inl fails) = record {
    rose = fails.rose;
    few_open = fails.few_open;
    stands = inl (ap (λ (all : Option (List File)). outside_with all launcher) fails.files_now);
    long = fails.long;
    launcher = refl;
  }
  file_begun answer.StoreFault path options keeps (inr both) = record {
    rose = both.1.rose;
    few_open = both.1.few_open;
    stands = inr
        (subst (λ (b : Bool). IsOneOf (cond b (made path (outside_with store.files launcher) ∷ []) []) (outside_with store'.files launcher)) (sym both.0)
        (inl (ap (λ (all : Option (List File)). outside_with all launcher) both.1.files_now)));
    long = both.1.long;
    launcher = refl;
  }
  file_begun answer.LaunchFault path options keeps never = absurd never
  file_begun answer.OutOfMemory path options keeps same =
      ap (λ (side : FileSide). kept_in side.kept piped side.store launcher) same

file_finished : (files : List Entry) (path : List ℕ) (close : Bool) → cond close (drop 1 files) files ≡ files_after_finish (FileTarget path) close files
file_finished files path true = refl
file_finished files path false = refl

module _ {files files' piped : List Entry} {store store' : StoreRecord} {launcher : LauncherRecord} where
  -- it was finished
  pub file_is_finished : (path : List ℕ) (strip close flush : Bool) → Keeps (kept_in files piped store launcher) →
      FilesBecome (cond close (drop 1 files) files) store.files (store_finished flush close files store) (file_side files store) (file_side files' store')
      × (store'.next ≡ store.next) →
      FinishesKept done.Ok (record { target = FileTarget path; strip = strip; close = close; flush = flush }) (kept_in files piped store launcher) (kept_in files' piped store' launcher)
  unfolding finished
  file_is_finished path strip close flush keeps both = (
    record {
      world_now = ap (λ (all : Option (List File)). world_with all (program_side piped launcher)) both.0.files_now;
      files_now = both.0.kept_now ∙ file_finished files path close;
      only_kept = both.0.no_more;
      keeps = record { files = both.0.keeps; programs = keeps.programs };
      store_faults = both.0.faults;
      long = both.0.long;
      launcher_faults = refl;
    },
    (both.0.store_now, refl),
  )

  pub file_not_finished : (path : List ℕ) (strip close flush : Bool) → FilesFail store.files (file_side files store) (file_side files' store') →
      FinishesKept done.StoreFault (record { target = FileTarget path; strip = strip; close = close; flush = flush }) (kept_in files piped store launcher) (kept_in files' piped store' launcher)
  unfolding finish_parts
  file_not_finished path strip close flush fails = record {
    rose = fails.rose;
    few_open = fails.few_open;
    stands = inl (ap (λ (all : Option (List File)). outside_with all launcher) fails.files_now);
    long = fails.long;
    launcher = refl;
  }

-- a program was begun
module _ (files piped piped' : List Entry) (store : StoreRecord) (launcher launcher' : LauncherRecord) where
  abbrev old_programs : Kept
  old_programs = kept_in files piped store launcher

  abbrev new_programs : Kept
  new_programs = kept_in files piped' store launcher'

  pub program_begun : (result : Begun) (words : List (List ℕ)) (options : PipeOptions) → Keeps old_programs →
      BeginsProgram result words (program_side piped launcher) (program_side piped' launcher') →
      BeginsKept result (ToProgram words options) old_programs new_programs
  unfolding begun begin_parts
  program_begun answer.Ready words options keeps becomes = (
    record {
      world_now = becomes.world store.files;
      files_now = refl;
      only_kept = λ only. only;
      keeps = record { files = keeps.files; programs = becomes.keeps };
      store_faults = refl;
      long = refl;
      launcher_faults = becomes.faults;
    },
    refl,
  )
  program_begun answer.StoreFault words options keeps never = absurd never
  program_begun answer.LaunchFault words options keeps fails = record {
    store_now = refl;
    rose = fails.rose;
    stands = fails.stands store.files;
    store_faults = refl;
    long = refl;
  }
  program_begun answer.OutOfMemory words options keeps same =
      ap (λ (side : ProgramSide). kept_in files side.kept store side.launcher) same

module _ {files piped piped' : List Entry} {store : StoreRecord} {launcher launcher' : LauncherRecord} where
  -- it was finished
  pub program_finished : (strip close flush : Bool) → Keeps (kept_in files piped store launcher) →
      ProgramsBecome (finished_by Child close) (program_side piped launcher) (program_side piped' launcher') →
      FinishesKept done.Ok (record { target = Child; strip = strip; close = close; flush = flush }) (kept_in files piped store launcher) (kept_in files piped' store launcher')
  unfolding finished
  program_finished strip close flush keeps becomes = (
    record {
      world_now = becomes.world store.files;
      files_now = refl;
      only_kept = λ only. only;
      keeps = record { files = keeps.files; programs = becomes.keeps };
      store_faults = refl;
      long = refl;
      launcher_faults = becomes.faults;
    },
    refl,
  )

  pub program_not_finished : (strip close flush : Bool) →
      ProgramsFail (finish_parts_by Child close) (program_side piped launcher) (program_side piped' launcher') →
      FinishesKept done.LaunchFault (record { target = Child; strip = strip; close = close; flush = flush }) (kept_in files piped store launcher) (kept_in files piped' store launcher')
  unfolding finish_parts
  program_not_finished strip close flush fails = record {
    store_now = refl;
    rose = fails.rose;
    stands = fails.stands store.files;
    store_faults = refl;
    long = refl;
  }

-- a program was started
module _ (files piped : List Entry) (store : StoreRecord) (launcher launcher' : LauncherRecord) where
  executed_is : (wait : Bool) (told : List (String Global)) →
      outside_with store.files (with_executed wait (child_no launcher.next) (with_started told false launcher))
      ≡ executed wait (spelled told) (outside_with store.files launcher)
  executed_is true told = refl
  executed_is false told = refl

  executed_faults : (wait : Bool) (told : List (String Global)) →
      (with_executed wait (child_no launcher.next) (with_started told false launcher)).faults ≡ launcher.faults
  executed_faults true told = refl
  executed_faults false told = refl

  executed_running : (wait : Bool) (told : List (String Global)) →
      (with_executed wait (child_no launcher.next) (with_started told false launcher)).running ≡ running_after (spelled told) launcher
  executed_running true told = refl
  executed_running false told = refl

  executed_taking : (wait : Bool) (told : List (String Global)) (it : Entry) → IsTaking (child_no it.1) launcher →
      IsTaking (child_no it.1) (with_executed wait (child_no launcher.next) (with_started told false launcher))
  executed_taking true told it taking =
      let mid = with_started told false launcher in
      let differ : it.1 ≢ launcher.next = omega (arith, taking.given) in
      IsTaking-waited (child_no it.1) (child_no launcher.next) mid (with_child_over (child_no launcher.next) mid) differ refl
      (IsTaking-before (child_no it.1) told false launcher mid refl taking)
  executed_taking false told it taking =
      let mid = with_started told false launcher in
      let differ : it.1 ≢ launcher.next = omega (arith, taking.given) in
      IsTaking-detached (child_no it.1) (child_no launcher.next) mid (with_child_gone (child_no launcher.next) mid) differ refl
      (IsTaking-before (child_no it.1) told false launcher mid refl taking)

  pub program_executed : (words : List (List ℕ)) (wait : Bool) → Keeps (kept_in files piped store launcher) → Executes (Ok tt) words wait launcher launcher' →
      BeginsKept answer.Ready (Start words wait) (kept_in files piped store launcher) (kept_in files piped store launcher')
  unfolding begun
  program_executed words wait keeps done = (
    record {
      world_now =
          ap (λ (l : LauncherRecord). world_with store.files (program_side piped l)) done.2
          ∙ ap (λ (outside : Outside). record { outside = outside; piped = piped })
          (executed_is wait done.0 ∙ ap (λ (w : List (List ℕ)). executed wait w (outside_with store.files launcher)) done.1);
      files_now = refl;
      only_kept = λ only. only;
      keeps = record {
        files = keeps.files;
        programs = record {
          are_taking = each_then (λ it. IsTaking (child_no it.1) launcher) (λ it. IsTaking (child_no it.1) launcher')
              (λ it taking. subst (λ (l : LauncherRecord). IsTaking (child_no it.1) l) (sym done.2) (executed_taking wait done.0 it taking)) piped
              keeps.programs.are_taking;
          apart = keeps.programs.apart;
          few = keeps.programs.few;
        };
      };
      store_faults = refl;
      long = refl;
      launcher_faults = ap (λ (l : LauncherRecord). l.faults) done.2 ∙ executed_faults wait done.0;
    },
    (refl, ap (λ (l : LauncherRecord). l.running) done.2 ∙ executed_running wait done.0 ∙ ap (λ (w : List (List ℕ)). running_after w launcher) done.1),
  )

  pub program_not_executed : (words : List (List ℕ)) (wait : Bool) (failed : Failed) → Executes (Err failed) words wait launcher launcher' →
      BeginsKept answer.LaunchFault (Start words wait) (kept_in files piped store launcher) (kept_in files piped store launcher')
  unfolding begin_parts
  program_not_executed words wait failed (inl fails) = record {
    store_now = refl;
    rose = fails.0;
    stands = inl (ap (outside_with store.files) fails.1);
    store_faults = refl;
    long = refl;
  }
  program_not_executed words wait failed (inr both) = record {
    store_now = refl;
    rose = both.3.0;
    stands = inr
        (subst (λ (b : Bool). IsOneOf (cond b (started words false (outside_with store.files launcher) ∷ []) []) (outside_with store.files launcher')) (sym both.2)
        (inl (ap (outside_with store.files) both.3.1 ∙ ap (λ (w : List (List ℕ)). started w false (outside_with store.files launcher)) both.1)));
    store_faults = refl;
    long = refl;
  }

-- an action that does nothing
becomes_same : (now : Kept) → Keeps now → Becomes (world_of now) now.files now now
becomes_same now keeps = record {
  world_now = refl;
  files_now = refl;
  only_kept = λ only. only;
  keeps = keeps;
  store_faults = refl;
  long = refl;
  launcher_faults = refl;
}

pub nothing_begun : (now : Kept) → Keeps now → BeginsKept answer.Ready Nothing now now
unfolding begun
nothing_begun now keeps = (becomes_same now keeps, (refl, refl))

pub nothing_given : (strip close flush : Bool) (bytes : List ℕ) (now : Kept) → Keeps now →
    GivesKept done.Ok (record { target = Nowhere; strip = strip; close = close; flush = flush }) bytes now now
unfolding given
nothing_given strip close flush bytes now keeps = (becomes_same now keeps, (refl, refl))

pub nothing_finished : (strip close flush : Bool) (now : Kept) → Keeps now →
    FinishesKept done.Ok (record { target = Nowhere; strip = strip; close = close; flush = flush }) now now
unfolding finished
nothing_finished strip close flush now keeps = (becomes_same now keeps, (refl, refl))

-- a piece was written to the file that was used last
module _ {files piped : List Entry} {store : StoreRecord} {launcher : LauncherRecord} {it : Entry} (newest : IsNewest it files)
    (keeps : Keeps (kept_in files piped store launcher)) where
  is_under : path_of (file_no it.1) store ≡ Some (newest_path files)
  is_under =
      let opens : Each (IsOpenUnder store) (it ∷ newest.others) = subst (λ (all : List Entry). Each (IsOpenUnder store) all) newest.is keeps.files.are_open in
      opens.0.under ∙ ap (λ (path : List ℕ). Some path) (sym (ap newest_path newest.is))

  appended_files : (bytes : List ℕ) →
      (with_appended (file_no it.1) bytes store).files ≡ option_map (with_changed (newest_path files) (λ before. before ++ bytes)) store.files
  appended_files bytes = ap (λ (of : Option (List ℕ)). option_map (with_file of (λ before. before ++ bytes)) store.files) is_under

  pub file_given : {store' : StoreRecord} (strip close flush : Bool) (bytes : List ℕ) → store' ≡ with_appended (file_no it.1) (kept strip bytes) store →
      GivesKept done.Ok (record { target = FileTarget (newest_path files); strip = strip; close = close; flush = flush }) bytes
      (kept_in files piped store launcher) (kept_in files piped store' launcher)
  unfolding given
  file_given {store'} strip close flush bytes is = (
    record {
      world_now = ap (λ (all : Option (List File)). world_with all (program_side piped launcher))
          (ap (λ (s : StoreRecord). s.files) is ∙ appended_files (kept strip bytes));
      files_now = refl;
      only_kept = λ only. omega (arith, only, ap (λ (s : StoreRecord). length s.paths) is);
      keeps = record {
        files = keeps_changed store store' files it.1 (λ before. before ++ kept strip bytes) is keeps.files;
        programs = keeps.programs;
      };
      store_faults = ap (λ (s : StoreRecord). s.faults) is;
      long = ap (λ (s : StoreRecord). s.long) is;
      launcher_faults = refl;
    },
    (store_is, refl),
  )
    where
      store_is : store' ≡ record store { files = store'.files }
      store_is = is ∙ ap (λ (all : Option (List File)). record store { files = all }) (sym (ap (λ (s : StoreRecord). s.files) is))

  pub file_not_given : {store' : StoreRecord} (strip close flush : Bool) (bytes : List ℕ) (failed : Failed) → AppendsAll (Err failed) (file_no it.1) (kept strip bytes) store store' →
      GivesKept done.StoreFault (record { target = FileTarget (newest_path files); strip = strip; close = close; flush = flush }) bytes
      (kept_in files piped store launcher) (kept_in files piped store' launcher)
  file_not_given {store'} strip close flush bytes failed front = record {
    rose = front.fails.0;
    few_open = λ only. omega (arith, only, keeps.files.few, ap (λ (s : StoreRecord). length s.paths) front.fails.1);
    stands = record {
      front = front.front;
      rest = front.rest;
      is_front = front.is_front;
      stands = ap (λ (all : Option (List File)). outside_with all launcher)
          (ap (λ (s : StoreRecord). s.files) front.fails.1 ∙ appended_files front.front);
    };
    long = ap (λ (s : StoreRecord). s.long) front.fails.1;
    launcher = refl;
  }

-- a piece was given to the program that was written last
module _ {files piped : List Entry} {store : StoreRecord} {launcher : LauncherRecord} {it : Entry} (newest : IsNewest it piped)
    (keeps : Keeps (kept_in files piped store launcher)) where
  fed_is : (bytes : List ℕ) →
      outside_with store.files (with_given (child_no it.1) bytes launcher) ≡ fed_to (slice_get piped 0) bytes (outside_with store.files launcher)
  fed_is bytes = ap (λ (all : List Entry). fed_to (slice_get all 0) bytes (outside_with store.files launcher)) (sym newest.is)

  pub child_given : {launcher' : LauncherRecord} (strip close flush : Bool) (bytes : List ℕ) → launcher' ≡ with_given (child_no it.1) (kept strip bytes) launcher →
      GivesKept done.Ok (record { target = Child; strip = strip; close = close; flush = flush }) bytes (kept_in files piped store launcher)
      (kept_in files piped store launcher')
  unfolding given
  child_given {launcher'} strip close flush bytes is = (
    record {
      world_now = ap (λ (outside : Outside). record { outside = outside; piped = piped })
          (ap (outside_with store.files) is ∙ fed_is (kept strip bytes));
      files_now = refl;
      only_kept = λ only. only;
      keeps = record {
        files = keeps.files;
        programs = record {
          are_taking = each_then (λ other. IsTaking (child_no other.1) launcher) (λ other. IsTaking (child_no other.1) launcher')
              (λ other taking. IsTaking-fed (child_no other.1) (child_no it.1) (kept strip bytes) launcher launcher' is taking) piped keeps.programs.are_taking;
          apart = keeps.programs.apart;
          few = keeps.programs.few;
        };
      };
      store_faults = refl;
      long = refl;
      launcher_faults = ap (λ (l : LauncherRecord). l.faults) is;
    },
    (refl, launcher_is),
  )
    where
      launcher_is : launcher' ≡ record launcher { children = launcher'.children }
      launcher_is = is ∙ ap (λ (all : Option (List ChildRecord)). record launcher { children = all }) (sym (ap (λ (l : LauncherRecord). l.children) is))

  pub child_not_given : {launcher' : LauncherRecord} (strip close flush : Bool) (bytes : List ℕ) (failed : Failed) → FeedsAll (Err failed) (child_no it.1) (kept strip bytes) launcher launcher' →
      GivesKept done.LaunchFault (record { target = Child; strip = strip; close = close; flush = flush }) bytes (kept_in files piped store launcher)
      (kept_in files piped store launcher')
  child_not_given {launcher'} strip close flush bytes failed front = record {
    store_now = refl;
    rose = front.fails.0;
    stands = record {
      front = front.front;
      rest = front.rest;
      is_front = front.is_front;
      stands = ap (outside_with store.files) front.fails.1 ∙ fed_is front.front;
    };
    store_faults = refl;
    long = refl;
  }

-- all files are shut, and then all programs are over
pub files_not_closed : (files files' piped : List Entry) (store store' : StoreRecord) (launcher : LauncherRecord) →
    FilesFail store.files (file_side files store) (file_side files' store') →
    ClosesKept done.StoreFault (kept_in files piped store launcher) (kept_in files' piped store' launcher)
files_not_closed files files' piped store store' launcher fails = record {
  rose = fails.rose;
  few_open = fails.few_open;
  stands = inl (ap (λ (all : Option (List File)). outside_with all launcher) fails.files_now);
  long = fails.long;
  launcher = refl;
}

module _ (files files' piped piped' : List Entry) (store store' : StoreRecord) (launcher launcher' : LauncherRecord)
    (shut : FilesBecome [] store.files (all_shut files store) (file_side files store) (file_side files' store') × (store'.next ≡ store.next)) where
  pub all_closed : ProgramsBecome closed (program_side piped launcher) (program_side piped' launcher') →
      ClosesKept done.Ok (kept_in files piped store launcher) (kept_in files' piped' store' launcher')
  all_closed becomes = (
    record {
      world_now = becomes.world store'.files ∙ ap (λ (all : Option (List File)). closed (world_with all (program_side piped launcher))) shut.0.files_now;
      files_now = shut.0.kept_now;
      only_kept = shut.0.no_more;
      keeps = record { files = shut.0.keeps; programs = becomes.keeps };
      store_faults = shut.0.faults;
      long = shut.0.long;
      launcher_faults = becomes.faults;
    },
    shut.0.store_now,
  )

  pub programs_not_closed : ProgramsFail closing_parts (program_side piped launcher) (program_side piped' launcher') →
      ClosesKept done.LaunchFault (kept_in files piped store launcher) (kept_in files' piped' store' launcher')
  programs_not_closed fails = record {
    store_now = shut.0.store_now;
    rose = fails.rose;
    stands = inr
        (subst (λ (all : Option (List File)). IsOneOf (closing_parts (world_with all (program_side piped launcher))) (outside_with store'.files launcher'))
        shut.0.files_now (fails.stands store'.files));
    store_faults = shut.0.faults;
    long = shut.0.long;
  }

-- what holds of the action in hand at its place holds of it
pub finishes_at : (result : Done) (hand : Hand) (files : List Entry) (place : Place) (old new : Kept) → hand.place ≡ place →
    FinishesKept result (seen_with files (record hand { place = place })) old new → FinishesKept result (seen_with files hand) old new
finishes_at result hand files place old new is =
    subst (λ (at : Place). FinishesKept result (seen_with files (record hand { place = at })) old new) (sym is)

pub gives_at : (result : Done) (hand : Hand) (files : List Entry) (place : Place) (bytes : List ℕ) (old new : Kept) → hand.place ≡ place →
    GivesKept result (seen_with files (record hand { place = place })) bytes old new → GivesKept result (seen_with files hand) bytes old new
gives_at result hand files place bytes old new is =
    subst (λ (at : Place). GivesKept result (seen_with files (record hand { place = at })) bytes old new) (sym is)
