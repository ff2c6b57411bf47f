-- A source that tells what it has left.
use Rattle.std.proofs.Common.{◌≡◌, ℕ, List, [], ◌++◌, Option, Some, None, IfSome, refl, sym, ap, subst, ◌∙◌}
use Rattle.std.specs.Option.{option_map}
use Rattle.std.proofs.lemmas.List.{append-nil}
use Rattle.std.proofs.lemmas.Option.{none-some, same_Some}
use Rattle.ldm_outside.specs.Io.{SourceRecord, Gives}
use Rattle.ldm_status.specs.Streams.{AtEnd}

-- bytes in front of others that are left, if any are told
abbrev before_rest : List ℕ → Option (List ℕ) → Option (List ℕ)
before_rest bytes left = option_map (λ rest. bytes ++ rest) left

module _ (text taken : List ℕ) (old new : SourceRecord) (told : old.left ≡ Some text) (gives : Gives old taken new) where
  -- what was taken of a text, and what is left of it
  pub parts : (rest : List ℕ) × (new.left ≡ Some rest) × (text ≡ taken ++ rest)
  parts = by_left new.left refl
    where
      by_left : (left : Option (List ℕ)) → new.left ≡ left → (rest : List ℕ) × (new.left ≡ Some rest) × (text ≡ taken ++ rest)
      by_left None is = absurd (none-some text (sym (gives ∙ ap (before_rest taken) is) ∙ told))
      by_left (Some rest) is = (rest, is, same_Some text (taken ++ rest) (sym told ∙ gives ∙ ap (before_rest taken) is))

  -- at the end of the source all of the text was taken
  pub whole_at_end : AtEnd old new → text ≡ taken
  whole_at_end at_end =
      let p = parts in
      let rest : p.0 ≡ [] = subst (λ (o : Option (List ℕ)). IfSome o (λ left. left ≡ [])) p.1 at_end.1 in
      p.2 ∙ ap (λ (t : List ℕ). taken ++ t) rest ∙ append-nil taken
