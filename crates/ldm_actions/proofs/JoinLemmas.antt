-- Words that are joined one after another.
use Rattle.std.proofs.Common.{◌≡◌, ◌∙◌, ℕ, zero, suc, ◌+◌, ◌<◌, List, [], ◌∷◌, ◌++◌, length, get_or, take, sym, ap, arith, append_assoc}
use Rattle.std.specs.Prelude.{String, string_bytes}
use Rattle.std.specs.declared.alloc.Global.{Global}
use Rattle.std.proofs.lemmas.List.{map-append, take_more}
use Rattle.ldm_outside.specs.Launcher.{spelled}
use Rattle.ldm_actions.specs.World.{command_of}

-- one word more
join_more : (words : List (List ℕ)) (word : List ℕ) → 0 < length words → command_of (words ++ word ∷ []) ≡ (command_of words ++ 32 ∷ []) ++ word
join_more [] word some = absurd (omega (arith, some))
join_more (first ∷ []) word some = sym (append_assoc first (32 ∷ []) word)
join_more (first ∷ second ∷ others) word some =
    ap (λ (rest : List ℕ). first ++ (32 ∷ rest)) (join_more (second ∷ others) word (omega arith))
    ∙ sym (append_assoc first (32 ∷ (command_of (second ∷ others) ++ 32 ∷ [])) word)
    ∙ ap (λ (front : List ℕ). front ++ word) (sym (append_assoc first (32 ∷ command_of (second ∷ others)) (32 ∷ [])))

module _ (words : List (String Global)) (i : ℕ) (within : i < length words) (word : String Global) (is : word ≡ get_or words i word) where
  spelled_more : spelled (take (i + 1) words) ≡ spelled (take i words) ++ string_bytes word ∷ []
  spelled_more =
      ap spelled (take_more words i word within)
      ∙ map-append string_bytes (take i words) (get_or words i word ∷ [])
      ∙ ap (λ (w : String Global). spelled (take i words) ++ string_bytes w ∷ []) (sym is)

  pub first_word : i ≡ 0 → string_bytes word ≡ command_of (spelled (take (i + 1) words))
  first_word zero_is = sym (ap command_of spelled_more ∙ ap (λ (n : ℕ). command_of (spelled (take n words) ++ string_bytes word ∷ [])) zero_is)

  pub later_word : (joined : List ℕ) → 0 < i → joined ≡ command_of (spelled (take i words)) →
      (joined ++ 32 ∷ []) ++ string_bytes word ≡ command_of (spelled (take (i + 1) words))
  later_word joined some before =
      ap (λ (front : List ℕ). (front ++ 32 ∷ []) ++ string_bytes word) before
      ∙ sym (ap command_of spelled_more ∙ join_more (spelled (take i words)) (string_bytes word) (some_words i words some within))
    where
      some_words : (n : ℕ) (all : List (String Global)) → 0 < n → n < length all → 0 < length (spelled (take n all))
      some_words zero all some within = absurd (omega (arith, some))
      some_words (suc n) [] some within = absurd (omega (arith, within))
      some_words (suc n) (w ∷ all) some within = omega arith
