-- Bytes that are written one after another.
use Rattle.std.proofs.Common.{◌≡◌, ◌∙◌, ℕ, ◌<◌, ◌≤◌, Bool, true, false, cond, List, [], ◌∷◌, ◌++◌, length, set, Option, Some, None, option_map, refl, sym, ap, append_assoc, inl, inr, get_or-set_same}
use Rattle.std.specs.Prelude.{bytes_eq, slice_get}
use Rattle.std.proofs.lemmas.Bool.{cases_lt}
use Rattle.std.proofs.lemmas.List.{set-set, set_past}
use Rattle.std.proofs.lemmas.List.Elements.{filter-append}
use Rattle.ldm_outside.specs.Launcher.{Child, child_at, with_fed}
use Rattle.ldm_outside.specs.Store.{File, with_changed}
use Rattle.ldm_actions.specs.Effects.{InHand, Target, Nowhere, File as FileTarget, Child as ChildTarget, fed_to, given, written}
use Rattle.ldm_actions.specs.Strip.{is_text, kept}
use Rattle.ldm_actions.specs.World.{Outside, World, appended, child_no, fed}

-- bytes at the end of a file, and then more
pub appended_twice : (path first second : List ℕ) (files : List File) →
    with_changed path (λ before. before ++ (first ++ second)) files
    ≡ with_changed path (λ before. before ++ second) (with_changed path (λ before. before ++ first) files)
appended_twice path first second [] = refl
appended_twice path first second (file ∷ files) = by_test (bytes_eq file.path path) refl (appended_twice path first second files)
  where
    by_test : (b : Bool) → b ≡ bytes_eq file.path path →
        with_changed path (λ before. before ++ (first ++ second)) files
        ≡ with_changed path (λ before. before ++ second) (with_changed path (λ before. before ++ first) files) →
        cond b (record file { bytes = file.bytes ++ (first ++ second) } ∷ files) (file ∷ with_changed path (λ before. before ++ (first ++ second)) files)
        ≡ with_changed path (λ before. before ++ second)
        (cond b (record file { bytes = file.bytes ++ first } ∷ files) (file ∷ with_changed path (λ before. before ++ first) files))
    by_test true is later = rw (← is) (ap (λ (bytes : List ℕ). record file { bytes = bytes } ∷ files) (sym (append_assoc file.bytes first second)))
    by_test false is later = rw (← is) (ap (λ (others : List File). file ∷ others) later)

appended_more : (path first second : List ℕ) (outside : Outside) → appended path (first ++ second) outside ≡ appended path second (appended path first outside)
appended_more path first second outside =
    ap (λ (files : Option (List File)). record outside { files = files }) (by_files outside.files)
  where
    by_files : (files : Option (List File)) →
        option_map (with_changed path (λ before. before ++ (first ++ second))) files
        ≡ option_map (with_changed path (λ before. before ++ second)) (option_map (with_changed path (λ before. before ++ first)) files)
    by_files None = refl
    by_files (Some files) = ap (λ (after : List File). Some after) (appended_twice path first second files)

module _ (child : ℕ) (first second : List ℕ) (children : List Child) where
  abbrev with_given : Child → List ℕ → Child
  with_given it bytes = record it { given = bytes }

  -- a child that was given bytes, and then more
  fed_within : (was : Child) → was ≡ child_at (child_no child) children → child < length children →
      set children child (with_given was (was.given ++ (first ++ second)))
      ≡ with_fed (child_no child) second (set children child (with_given was (was.given ++ first)))
  fed_within was is inside =
      let once : Child = with_given was (was.given ++ first) in
      let twice : Child = with_given was ((was.given ++ first) ++ second) in
      let there : child_at (child_no child) (set children child once) ≡ once = get_or-set_same children child once _ inside in
      ap (λ (bytes : List ℕ). set children child (with_given was bytes)) (sym (append_assoc was.given first second))
      ∙ sym (set-set children child once twice)
      ∙ ap (λ (it : Child). set (set children child once) child (with_given it (it.given ++ second))) (sym there)

  -- one that was not started is given nothing
  fed_beyond : (was : Child) → was ≡ child_at (child_no child) children → length children ≤ child →
      set children child (with_given was (was.given ++ (first ++ second)))
      ≡ with_fed (child_no child) second (set children child (with_given was (was.given ++ first)))
  fed_beyond was is past =
      let once : Child = with_given was (was.given ++ first) in
      let none : set children child once ≡ children = set_past children child once past in
      let other : Child = with_given (child_at (child_no child) children) ((child_at (child_no child) children).given ++ second) in
      set_past children child (with_given was (was.given ++ (first ++ second))) past
      ∙ sym (set_past children child other past)
      ∙ ap (λ (all : List Child). with_fed (child_no child) second all) (sym none)

  pub fed_twice : with_fed (child_no child) (first ++ second) children ≡ with_fed (child_no child) second (with_fed (child_no child) first children)
  fed_twice = elim (cases_lt child (length children)) [
    | inl inside ↦ fed_within (child_at (child_no child) children) refl inside
    | inr past ↦ fed_beyond (child_at (child_no child) children) refl past
  ]

fed_more : (child : ℕ) (first second : List ℕ) (outside : Outside) → fed child (first ++ second) outside ≡ fed child second (fed child first outside)
fed_more child first second outside =
    ap (λ (children : Option (List Child)). record outside { children = children }) (by_children outside.children)
  where
    by_children : (children : Option (List Child)) →
        option_map (with_fed (child_no child) (first ++ second)) children
        ≡ option_map (with_fed (child_no child) second) (option_map (with_fed (child_no child) first) children)
    by_children None = refl
    by_children (Some children) = ap (λ (after : List Child). Some after) (fed_twice child first second children)

fed_to_more : (it : Option (List ℕ × ℕ)) (first second : List ℕ) (outside : Outside) → fed_to it (first ++ second) outside ≡ fed_to it second (fed_to it first outside)
fed_to_more None first second outside = refl
fed_to_more (Some it) first second outside = fed_more it.1 first second outside

pub written_more : (target : Target) (first second : List ℕ) (world : World) → written target (first ++ second) world ≡ written target second (written target first world)
written_more Nowhere first second world = refl
written_more (FileTarget path) first second world =
    ap (λ (outside : Outside). record world { outside = outside }) (appended_more path first second world.outside)
written_more ChildTarget first second world =
    ap (λ (outside : Outside). record world { outside = outside }) (fed_to_more (slice_get world.piped 0) first second world.outside)

pub kept_append : (strip : Bool) (first second : List ℕ) → kept strip (first ++ second) ≡ kept strip first ++ kept strip second
kept_append true first second = filter-append is_text first second
kept_append false first second = refl

-- pieces of a body that are given one after another
pub given_more : (hand : InHand) (first second : List ℕ) (world : World) → given hand (first ++ second) world ≡ given hand second (given hand first world)
unfolding given
given_more hand first second world =
    ap (λ (bytes : List ℕ). written hand.target bytes world) (kept_append hand.strip first second)
    ∙ written_more hand.target (kept hand.strip first) (kept hand.strip second) world
