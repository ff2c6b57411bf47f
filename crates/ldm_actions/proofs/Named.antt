-- What the calls of a cache do to the entries under their names.
use Rattle.std.proofs.Common.{◌≡◌, ◌∙◌, ℕ, ◌-◌, Bool, true, false, cond, List, [], ◌∷◌, length, take, drop, Option, Some, None, option_map, refl, sym, ap, subst}
use Rattle.std.specs.Prelude.{String, bytes_eq, is_some, slice_get, string_bytes}
use Rattle.std.specs.String.{string_eq}
use Rattle.std.specs.declared.alloc.Global.{Global}
use Rattle.std.specs.List.{take-map}
use Rattle.std.specs.Map.{lookup, lookup_entry, remove_entry, set_value}
use Rattle.std.specs.Option.{option_map_or}
use Rattle.std.proofs.lemmas.List.{length-map}
use Rattle.std.proofs.lemmas.Option.{slice_get-map}
use Rattle.std.proofs.lemmas.Slice.Eq.{bytes_eq-Decides}
use Rattle.lru.specs.LruCache.{LruCache, displaced, lru_cache, promoted, put_entries}
use Rattle.lru.proofs.CallerLemmas.{Contains-lookup_entry}
use Rattle.ldm_actions.specs.Kept.{TakesNewest, TakesOldest, gone_of, last_of, named, number_of, number_under, raised, raised_by, staying}
use Rattle.ldm_actions.proofs.KeptLemmas.{Entry, takes_last}

abbrev pub Pair : Type 0
Pair = String Global × ℕ

abbrev pair_of : Pair → Entry
pair_of it = (string_bytes it.0, it.1)

abbrev value_of : Pair → ℕ
value_of it = it.1

abbrev pub Cache : Type 0
Cache = LruCache (String Global) ℕ

numbers : (found : Option Pair) → option_map value_of found ≡ option_map number_of (option_map pair_of found)
numbers None = refl
numbers (Some it) = refl

module _ (name : List ℕ) where
  abbrev test : String Global → Bool
  test text = bytes_eq name (string_bytes text)

  number_named : (entries : List Pair) → lookup test entries ≡ number_under name (named entries)
  number_named [] = refl
  number_named (it ∷ entries) = ap (λ (rest : Option ℕ). cond (test it.0) (Some it.1) rest) (number_named entries)

  set_named : (entries : List Pair) (number : ℕ) → named (set_value test entries number) ≡ set_value (bytes_eq name) (named entries) number
  set_named [] number = refl
  set_named (it ∷ entries) number = by_test (test it.0) (set_named entries number)
    where
      by_test : (b : Bool) → named (set_value test entries number) ≡ set_value (bytes_eq name) (named entries) number →
          named (cond b ((it.0, number) ∷ entries) (it ∷ set_value test entries number))
          ≡ cond b ((string_bytes it.0, number) ∷ named entries) (pair_of it ∷ set_value (bytes_eq name) (named entries) number)
      by_test true later = refl
      by_test false later = ap (λ (rest : List Entry). pair_of it ∷ rest) later

  -- where no entry has the name
  set_none : (entries : List Pair) (number : ℕ) → lookup test entries ≡ None → named entries ≡ set_value (bytes_eq name) (named entries) number
  set_none [] number none = refl
  set_none (it ∷ entries) number none = by_test (test it.0) (set_none entries number) none
    where
      by_test : (b : Bool) → (lookup test entries ≡ None → named entries ≡ set_value (bytes_eq name) (named entries) number) →
          cond b (Some it.1) (lookup test entries) ≡ None →
          named (it ∷ entries) ≡ cond b ((string_bytes it.0, number) ∷ named entries) (pair_of it ∷ set_value (bytes_eq name) (named entries) number)
      by_test true later none = absurd (cc)
      by_test false later none = ap (λ (rest : List Entry). pair_of it ∷ rest) (later none)

  -- an entry got its number
  pub sets_named : (cache : Cache) (kept : List Entry) (number : ℕ) → named cache.entries ≡ kept →
      named (set_value test cache.entries number) ≡ set_value (bytes_eq name) kept number
  sets_named cache kept number is = set_named cache.entries number ∙ ap (λ (all : List Entry). set_value (bytes_eq name) all number) is

  pub sets_none : (cache : Cache) (kept : List Entry) (number : ℕ) → named cache.entries ≡ kept → lookup test cache.entries ≡ None →
      named cache.entries ≡ set_value (bytes_eq name) kept number
  sets_none cache kept number is none = set_none cache.entries number none ∙ ap (λ (all : List Entry). set_value (bytes_eq name) all number) is

  removed_named : (entries : List Pair) → named (remove_entry test entries) ≡ remove_entry (bytes_eq name) (named entries)
  removed_named [] = refl
  removed_named (it ∷ entries) = by_test (test it.0) (removed_named entries)
    where
      by_test : (b : Bool) → named (remove_entry test entries) ≡ remove_entry (bytes_eq name) (named entries) →
          named (cond b entries (it ∷ remove_entry test entries)) ≡ cond b (named entries) (pair_of it ∷ remove_entry (bytes_eq name) (named entries))
      by_test true later = refl
      by_test false later = ap (λ (rest : List Entry). pair_of it ∷ rest) later

  number_found : (entries : List Pair) → option_map value_of (lookup_entry test entries) ≡ number_under name (named entries)
  number_found [] = refl
  number_found (it ∷ entries) = by_test (test it.0) (number_found entries)
    where
      by_test : (b : Bool) → option_map value_of (lookup_entry test entries) ≡ number_under name (named entries) →
          option_map value_of (cond b (Some it) (lookup_entry test entries)) ≡ cond b (Some it.1) (number_under name (named entries))
      by_test true later = refl
      by_test false later = later

  raised_found : (entries : List Pair) (found : Option Pair) → lookup_entry test entries ≡ found →
      named (option_map_or (λ it. it ∷ remove_entry test entries) found entries) ≡ raised_by (option_map value_of found) name (named entries)
  raised_found entries None is = refl
  raised_found entries (Some it) is =
      let same : name ≡ string_bytes it.0 = (bytes_eq-Decides name (string_bytes it.0)).0 (Contains-lookup_entry test entries it is).1 in
      ap (λ (rest : List Entry). pair_of it ∷ rest) (removed_named entries)
      ∙ ap (λ (n : List ℕ). (n, it.1) ∷ remove_entry (bytes_eq name) (named entries)) (sym same)

  raised_named : (entries : List Pair) → named (promoted test entries) ≡ raised name (named entries)
  raised_named entries =
      raised_found entries (lookup_entry test entries) refl
      ∙ ap (λ (found : Option ℕ). raised_by found name (named entries)) (number_found entries)

  -- an entry was used
  pub promotes_found : (cache : Cache) (kept : List Entry) (b : Bool) → named cache.entries ≡ kept → b ≡ is_some (lookup test cache.entries) →
      b ≡ is_some (number_under name kept)
  promotes_found cache kept b is found =
      found
      ∙ ap (λ (number : Option ℕ). is_some number) (number_named cache.entries)
      ∙ ap (λ (all : List Entry). is_some (number_under name all)) is

  pub promotes_named : (cache new : Cache) (kept : List Entry) → named cache.entries ≡ kept → new ≡ lru_cache (promoted test cache.entries) cache.cap →
      named new.entries ≡ raised name kept
  promotes_named cache new kept is becomes =
      ap (λ (c : Cache). named c.entries) becomes ∙ raised_named cache.entries ∙ ap (λ (all : List Entry). raised name all) is

  -- no entry has the name
  none_found : (entries : List Pair) → number_under name (named entries) ≡ None → lookup_entry test entries ≡ None
  none_found entries unknown = by_found (lookup_entry test entries) (number_found entries ∙ unknown)
    where
      by_found : (found : Option Pair) → option_map value_of found ≡ None → found ≡ None
      by_found None is = refl
      by_found (Some it) is = absurd (cc)

-- an entry was put under a name that had none
module _ (cache : Cache) (kept : List Entry) (text : String Global) (name : List ℕ) (number : ℕ) (view : named cache.entries ≡ kept) (cap : cache.cap ≡ 32) (spelt : string_bytes text ≡ name) (unknown : number_under name kept ≡ None) where
  unknown_here : number_under (string_bytes text) (named cache.entries) ≡ None
  unknown_here =
      ap (λ (n : List ℕ). number_under n (named cache.entries)) spelt ∙ ap (λ (all : List Entry). number_under name all) view ∙ unknown

  pub pushes_named : (new : Cache) → new ≡ lru_cache (put_entries string_eq cache text number) cache.cap → named new.entries ≡ (name, number) ∷ staying kept
  pushes_named new becomes =
      ap (λ (c : Cache). named c.entries) becomes
      ∙ ap
      (λ (found : Option Pair). named (option_map_or (λ e. (e.0, number) ∷ remove_entry (string_eq text) cache.entries) found
      ((text, number) ∷ take (cache.cap - 1) cache.entries)))
      (none_found (string_bytes text) cache.entries unknown_here)
      ∙ ap (λ (n : ℕ). (string_bytes text, number) ∷ named (take (n - 1) cache.entries)) cap
      ∙ ap (λ (rest : List Entry). (string_bytes text, number) ∷ rest) (sym (take-map pair_of 31 cache.entries))
      ∙ ap (λ (all : List Entry). (string_bytes text, number) ∷ take 31 all) view
      ∙ ap (λ (n : List ℕ). (n, number) ∷ staying kept) spelt

  pub pushes_gone : (gone : Option Pair) → gone ≡ displaced string_eq cache text number → option_map value_of gone ≡ gone_of kept
  pushes_gone pushed is =
      ap (option_map value_of) is
      ∙ ap (λ (found : Option ℕ). option_map value_of (option_map_or (λ old. Some (text, old)) found (slice_get cache.entries (cache.cap - 1))))
      (number_named (string_bytes text) cache.entries ∙ unknown_here)
      ∙ ap (λ (n : ℕ). option_map value_of (slice_get cache.entries (n - 1))) cap
      ∙ numbers (slice_get cache.entries 31)
      ∙ ap (option_map number_of) (sym (slice_get-map pair_of cache.entries 31))
      ∙ ap (λ (all : List Entry). option_map number_of (slice_get all 31)) view

-- the newest, or the oldest, was taken out
module _ (cache new : Cache) (kept : List Entry) (taken : Option Pair) (number : Option ℕ) (view : named cache.entries ≡ kept) (is : number ≡ option_map value_of taken) where
  pub pops_newest : taken ≡ slice_get cache.entries 0 → new ≡ lru_cache (drop 1 cache.entries) cache.cap → TakesNewest number kept (named new.entries)
  pops_newest first becomes =
      subst (λ (n : Option ℕ). TakesNewest n kept (named new.entries)) (sym (is ∙ ap (option_map value_of) first))
      (subst (λ (c : Cache). TakesNewest (option_map value_of (slice_get cache.entries 0)) kept (named c.entries)) (sym becomes)
      (subst (λ (all : List Entry). TakesNewest (option_map value_of (slice_get cache.entries 0)) all (named (drop 1 cache.entries))) view
      (by_entries cache.entries)))
    where
      by_entries : (entries : List Pair) → TakesNewest (option_map value_of (slice_get entries 0)) (named entries) (named (drop 1 entries))
      by_entries [] = (refl, refl)
      by_entries (it ∷ entries) = (string_bytes it.0, refl)

  pub pops_oldest : taken ≡ slice_get cache.entries (length cache.entries - 1) →
      new ≡ lru_cache (take (length cache.entries - 1) cache.entries) cache.cap → TakesOldest number kept (named new.entries)
  pops_oldest last becomes =
      let size : length cache.entries ≡ length kept = sym (length-map cache.entries pair_of) ∙ ap (λ (all : List Entry). length all) view in
      let number_is : number ≡ option_map number_of (last_of kept) =
      is
      ∙ ap (option_map value_of) last
      ∙ numbers (slice_get cache.entries (length cache.entries - 1))
      ∙ ap (option_map number_of) (sym (slice_get-map pair_of cache.entries (length cache.entries - 1)))
      ∙ ap (λ (n : ℕ). option_map number_of (slice_get (named cache.entries) (n - 1))) size
      ∙ ap (λ (all : List Entry). option_map number_of (slice_get all (length kept - 1))) view
      in
      let left_is : named new.entries ≡ take (length kept - 1) kept =
      ap (λ (c : Cache). named c.entries) becomes
      ∙ sym (take-map pair_of (length cache.entries - 1) cache.entries)
      ∙ ap (λ (n : ℕ). take (n - 1) (named cache.entries)) size
      ∙ ap (λ (all : List Entry). take (length kept - 1) all) view
      in
      subst (λ (n : Option ℕ). TakesOldest n kept (named new.entries)) (sym number_is)
      (subst (λ (left : List Entry). TakesOldest (option_map number_of (last_of kept)) kept left) (sym left_is) (takes_last kept))
