-- The searches that a class keeps want what its specifications want.
use Rattle.std.proofs.Common.{◌≡◌, ℕ, Bool, true, false, cond, ◌&&◌, ◌||◌, List, [], ◌∷◌, ◌++◌, ◌+◌, ◌<◌, ◌≤◌, ◌==◌, length, get_or, drop, arith, refl, sym, ap, ◌∙◌, is_some, Option, None, append-nil}
use Rattle.std.proofs.lemmas.Bool.Decides.{nat_tests}
use Rattle.std.proofs.lemmas.List.{at_drop_more, at_drop_all}
use Rattle.std.specs.List.{list_any, filter_map}
use Rattle.ldm_types.specs.Feed.{feeds_meet}
use Rattle.ldm_types.specs.Info.{Metadata}
use Rattle.ldm_types.specs.declared.class.ClassSpec.{ClassSpec}
use Rattle.ldm_types.specs.declared.class.Spec.{Spec}
use Rattle.ldm_class.specs.Classes.{is_resumption, pattern_of, spec_wants, wants}
use Rattle.ldm_class.specs.Searches.{search_of, search_wants}
use Rattle.ldm_pattern.specs.Patterns.{found}
use Rattle.ldm_class.specs.declared.search.Search.{Search}

-- a list to which the rest of another is added, once nothing of that is left
pub kept_whole : {X Y : Type 0} (f : X → Option Y) (kept : List Y) (xs : List X) (i : ℕ) → length xs ≤ i →
    kept ++ filter_map f (drop i xs) ≡ filter_map f xs → kept ≡ filter_map f xs
kept_whole f kept xs i past e = sym (append-nil kept) ∙ ap (λ rest. kept ++ rest) (sym (at_drop_all (filter_map f) xs i past)) ∙ e

-- where a test that is open for what is left of a list holds of the next item, it holds of some item of all
pub some_passes : {X : Type 0} (p : X → Bool) (xs : List X) (i : ℕ) (x : X) → i < length xs → x ≡ get_or xs i x → p x ≡ true →
    list_any p (drop i xs) ≡ list_any p xs → list_any p xs ≡ true
some_passes p xs i x within is passes e =
    sym e ∙ at_drop_more (list_any p) xs i x within
    ∙ ap (λ b. b || list_any p (drop (i + 1) xs)) (ap p (sym is) ∙ passes)

-- and where nothing is left, of none
pub none_passes : {X : Type 0} (p : X → Bool) (xs : List X) (i : ℕ) → length xs ≤ i →
    list_any p (drop i xs) ≡ list_any p xs → list_any p xs ≡ false
none_passes p xs i past e = sym e ∙ at_drop_all (list_any p) xs i past

first_test : (b t : Bool) (o : Option (List ℕ)) → is_some (cond (b && t) o None) ≡ true → b ≡ true
first_test true t o h = refl
first_test false t o h = absurd cc

-- a specification that names a signature has no feedtype
pub resumption_has_no_feed : (spec : Spec) → is_resumption spec ≡ true → spec.feed.0 ≡ 0
resumption_has_no_feed spec h =
    let none : (spec.feed.0 == 0) ≡ true = first_test (spec.feed.0 == 0) _ _ h in grind (arith, nat_tests)

-- and so it wants nothing
resumption_wants_nothing : (info : Metadata) (spec : Spec) → is_resumption spec ≡ true → spec_wants info spec ≡ false
resumption_wants_nothing info spec h =
    ap (λ feed. feeds_meet feed info.feed && found (pattern_of spec) info.ident) (resumption_has_no_feed spec h)

pub searches_want : (info : Metadata) (specs : List Spec) → list_any (search_wants info) (filter_map search_of specs) ≡ list_any (spec_wants info) specs
searches_want info [] = refl
searches_want info (spec ∷ specs) =
    elim (is_resumption spec) as (λ b. is_resumption spec ≡ b → list_any (search_wants info) (filter_map search_of (spec ∷ specs)) ≡ (spec_wants info spec || list_any (spec_wants info) specs)) [
      | true ↦ λ is. rw (is, resumption_wants_nothing info spec is) (searches_want info specs)
      | false ↦ λ is. rw is (ap (λ later. spec_wants info spec || later) (searches_want info specs))
    ] refl

-- what the searches of a class want is what the class wants
pub wanted : (info : Metadata) (class : ClassSpec) (searches : List Search) → searches ≡ filter_map search_of class.specs.items →
    list_any (search_wants info) searches ≡ wants class info
wanted info class searches kept = ap (list_any (search_wants info)) kept ∙ searches_want info class.specs.items
