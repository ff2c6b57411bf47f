-- Fronts of a piece that are written one after another.
use Rattle.std.proofs.Common.{◌≡◌, ◌∙◌, ℕ, ◌+◌, ◌≤◌, Bool, true, false, cond, List, [], ◌∷◌, ◌++◌, length, take, drop, set, Option, Some, None, option_map, refl, sym, ap, subst, append-nil}
use Rattle.std.specs.Prelude.{bytes_eq}
use Rattle.std.proofs.Math.Seq.{take-add}
use Rattle.std.proofs.lemmas.List.{take-append-drop, take_all, set-get_or}
use Rattle.ldm_outside.specs.declared.launcher.ChildNo.{ChildNo}
use Rattle.ldm_outside.specs.declared.store.FileNo.{FileNo}
use Rattle.ldm_outside.specs.Launcher.{Child, IsTaking, LauncherRecord, LauncherFails, child_at, with_fed}
use Rattle.ldm_outside.specs.Store.{File, IsOpen, StoreFails, StoreRecord, path_of, with_changed, with_file}
use Rattle.ldm_outside.proofs.StoreLemmas.{IsOpen-changes, IsTaking-fed}
use Rattle.ldm_actions.specs.Writing.{AppendsFront, FeedsFront, with_appended, with_given}
use Rattle.ldm_actions.proofs.Pieces.{appended_twice, fed_twice}

with_file_nothing : (path : List ℕ) (files : List File) → files ≡ with_changed path (λ before. before ++ []) files
with_file_nothing path [] = refl
with_file_nothing path (file ∷ files) = by_test (bytes_eq file.path path) (with_file_nothing path files)
  where
    by_test : (b : Bool) → files ≡ with_changed path (λ before. before ++ []) files →
        file ∷ files ≡ cond b (record file { bytes = file.bytes ++ [] } ∷ files) (file ∷ with_changed path (λ before. before ++ []) files)
    by_test true later = ap (λ (bytes : List ℕ). record file { bytes = bytes } ∷ files) (sym (append-nil file.bytes))
    by_test false later = ap (λ (others : List File). file ∷ others) later

module _ (file : FileNo) where
  files_nothing : (path : Option (List ℕ)) (files : Option (List File)) → files ≡ option_map (with_file path (λ before. before ++ [])) files
  files_nothing path None = refl
  files_nothing None (Some files) = refl
  files_nothing (Some path) (Some files) = ap (λ (all : List File). Some all) (with_file_nothing path files)

  -- nothing was written yet
  pub appended_nothing : (store : StoreRecord) → store ≡ with_appended file [] store
  appended_nothing store = ap (λ (files : Option (List File)). record store { files = files }) (files_nothing (path_of file store) store.files)

  files_then : (path : Option (List ℕ)) (first second : List ℕ) (files : Option (List File)) →
      option_map (with_file path (λ before. before ++ (first ++ second))) files
      ≡ option_map (with_file path (λ before. before ++ second)) (option_map (with_file path (λ before. before ++ first)) files)
  files_then path first second None = refl
  files_then None first second (Some files) = refl
  files_then (Some path) first second (Some files) = ap (λ (all : List File). Some all) (appended_twice path first second files)

  pub appended_then : (first second : List ℕ) (old : StoreRecord) → with_appended file (first ++ second) old ≡ with_appended file second (with_appended file first old)
  appended_then first second old =
      ap (λ (files : Option (List File)). record old { files = files }) (files_then (path_of file old) first second old.files)

  -- two fronts of what is left of a piece
  pub appended_next : (old mid new : StoreRecord) (piece : List ℕ) (m n : ℕ) → mid ≡ with_appended file (take m piece) old →
      new ≡ with_appended file (take n (drop m piece)) mid → new ≡ with_appended file (take (m + n) piece) old
  appended_next old mid new piece m n first second =
      second
      ∙ ap (with_appended file (take n (drop m piece))) first
      ∙ sym (appended_then (take m piece) (take n (drop m piece)) old)
      ∙ ap (λ (bytes : List ℕ). with_appended file bytes old) (sym (take-add m n piece))

  pub still_open : (old mid : StoreRecord) (bytes : List ℕ) → mid ≡ with_appended file bytes old → IsOpen file old → IsOpen file mid
  still_open old mid bytes is was = IsOpen-changes file file (λ before. before ++ bytes) old mid is was

  pub appends_front : (old mid new : StoreRecord) (piece : List ℕ) (n : ℕ) → mid ≡ with_appended file (take n piece) old → StoreFails mid new →
      AppendsFront file piece old new
  appends_front old mid new piece n is fails = record {
    front = take n piece;
    rest = drop n piece;
    is_front = take-append-drop n piece;
    fails = subst (λ (store : StoreRecord). StoreFails store new) is fails;
  }

  pub appended_whole : (old mid : StoreRecord) (piece : List ℕ) (n : ℕ) → length piece ≤ n → mid ≡ with_appended file (take n piece) old →
      mid ≡ with_appended file piece old
  appended_whole old mid piece n whole is = is ∙ ap (λ (bytes : List ℕ). with_appended file bytes old) (take_all n piece whole)

module _ (child : ChildNo) where
  fed_nothing : (children : List Child) → children ≡ with_fed child [] children
  fed_nothing children =
      let was : Child = child_at child children in
      sym (ap (λ (bytes : List ℕ). set children child.0 (record was { given = bytes })) (append-nil was.given) ∙ set-get_or children child.0 _)

  children_nothing : (children : Option (List Child)) → children ≡ option_map (with_fed child []) children
  children_nothing None = refl
  children_nothing (Some children) = ap (λ (all : List Child). Some all) (fed_nothing children)

  pub given_nothing : (launcher : LauncherRecord) → launcher ≡ with_given child [] launcher
  given_nothing launcher = ap (λ (children : Option (List Child)). record launcher { children = children }) (children_nothing launcher.children)

  children_then : (first second : List ℕ) (children : Option (List Child)) →
      option_map (with_fed child (first ++ second)) children ≡ option_map (with_fed child second) (option_map (with_fed child first) children)
  children_then first second None = refl
  children_then first second (Some children) = ap (λ (all : List Child). Some all) (fed_twice child.0 first second children)

  pub given_then : (first second : List ℕ) (old : LauncherRecord) → with_given child (first ++ second) old ≡ with_given child second (with_given child first old)
  given_then first second old = ap (λ (children : Option (List Child)). record old { children = children }) (children_then first second old.children)

  pub given_next : (old mid new : LauncherRecord) (piece : List ℕ) (m n : ℕ) → mid ≡ with_given child (take m piece) old →
      new ≡ with_given child (take n (drop m piece)) mid → new ≡ with_given child (take (m + n) piece) old
  given_next old mid new piece m n first second =
      second
      ∙ ap (with_given child (take n (drop m piece))) first
      ∙ sym (given_then (take m piece) (take n (drop m piece)) old)
      ∙ ap (λ (bytes : List ℕ). with_given child bytes old) (sym (take-add m n piece))

  pub still_taking : (old mid : LauncherRecord) (bytes : List ℕ) → mid ≡ with_given child bytes old → IsTaking child old → IsTaking child mid
  still_taking old mid bytes is was = IsTaking-fed child child bytes old mid is was

  pub feeds_front : (old mid new : LauncherRecord) (piece : List ℕ) (n : ℕ) → mid ≡ with_given child (take n piece) old → LauncherFails mid new →
      FeedsFront child piece old new
  feeds_front old mid new piece n is fails = record {
    front = take n piece;
    rest = drop n piece;
    is_front = take-append-drop n piece;
    fails = subst (λ (launcher : LauncherRecord). LauncherFails launcher new) is fails;
  }

  pub given_whole : (old mid : LauncherRecord) (piece : List ℕ) (n : ℕ) → length piece ≤ n → mid ≡ with_given child (take n piece) old →
      mid ≡ with_given child piece old
  given_whole old mid piece n whole is = is ∙ ap (λ (bytes : List ℕ). with_given child bytes old) (take_all n piece whole)
