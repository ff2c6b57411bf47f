-- One step of reading the patterns of a class, and of building its searches.
use Rattle.std.proofs.Common.{◌≡◌, ℕ, ◌+◌, ◌<◌, true, false, List, [], ◌∷◌, ◌++◌, length, get_or, drop, Option, None, Some, IsSome, is_none, refl, sym, ap, ◌∙◌, append_assoc}
use Rattle.std.proofs.lemmas.List.{drop_more}
use Rattle.std.specs.List.{filter_map, position_from}
use Rattle.ldm_types.specs.declared.class.Spec.{Spec}
use Rattle.ldm_class.specs.Classes.{bad_place, is_bad, is_resumption, pattern_of}
use Rattle.ldm_pattern.specs.Patterns.{pattern_meaning}
use Rattle.ldm_class.specs.Searches.{search_of}
use Rattle.ldm_class.specs.declared.search.Search.{Search}

-- no pattern of what was read means nothing
abbrev pub AreRead : List Spec → ℕ → Type 0
AreRead specs place = position_from is_bad place (drop place specs) ≡ bad_place specs

-- what is built, with what is left to build, is the whole, and no pattern of what is built means nothing
pub record IsBuilt (built : List Search) (specs : List Spec) (place : ℕ) : Type 0 where
  pub searches : built ++ filter_map search_of (drop place specs) ≡ filter_map search_of specs
  pub good : AreRead specs place

some_is_not_none : {A : Type 0} (o : Option A) → IsSome o → is_none o ≡ false
some_is_not_none None h = absurd cc
some_is_not_none (Some x) h = refl

module _ (specs : List Spec) (place : ℕ) (spec : Spec) (within : place < length specs) (is : spec ≡ get_or specs place spec) where
  next : drop place specs ≡ spec ∷ drop (place + 1) specs
  next = drop_more specs place spec within ∙ ap (λ x. x ∷ drop (place + 1) specs) (sym is)

  pub read_resumption : is_resumption spec ≡ true → AreRead specs place → AreRead specs (place + 1)
  read_resumption named h = rw (next, named) at h

  pub read_pattern : is_resumption spec ≡ false → IsSome (pattern_meaning (pattern_of spec)) → AreRead specs place → AreRead specs (place + 1)
  read_pattern plain means h = rw (next, plain, some_is_not_none _ means) at h

  pub with_resumption : (built : List Search) → is_resumption spec ≡ true → IsBuilt built specs place → IsBuilt built specs (place + 1)
  with_resumption built named h = record { searches = rw (next, named) at h.searches; good = read_resumption named h.good }

  pub with_pattern : (built : List Search) → is_resumption spec ≡ false → IsSome (pattern_meaning (pattern_of spec)) → IsBuilt built specs place →
      IsBuilt (built ++ record { feed = spec.feed; pattern = pattern_of spec } ∷ []) specs (place + 1)
  with_pattern built plain means h = record {
    searches = append_assoc built (record { feed = spec.feed; pattern = pattern_of spec } ∷ []) (filter_map search_of (drop (place + 1) specs)) ∙ rw (next, plain) at h.searches;
    good = read_pattern plain means h.good;
  }
