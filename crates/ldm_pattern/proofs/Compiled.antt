-- What an NFA finds that was compiled, and what the tables over it tell.
use Rattle.std.proofs.Common.{◌≡◌, ◌∙◌, ℕ, ◌<◌, List, length, get_or, Option, None, Some, is_some, option_map, refl, ap, arith}
use Rattle.std.proofs.lemmas.List.Elements.{All-from_get_or}
use Rattle.regex_compile.specs.Implements.{Implements}
use Rattle.regex_dfa.specs.Search.{end_from}
use Rattle.regex_hir.specs.Find.{Match, find}
use Rattle.regex_hir.specs.Re.{Re, Trace}
use Rattle.regex_hir.proofs.FindLemmas.{first_between_cong}
use Rattle.regex_nfa.specs.Run.{find_in}
use Rattle.regex_nfa.specs.declared.nfa.Nfa.{Nfa}
use Rattle.regex_nfa.proofs.SearchLemmas.{run_unanchored}
use Rattle.ldm_pattern.specs.BoundedView.{FindsAs}
use Rattle.ldm_pattern.specs.Patterns.{IsMeantBy, found}
use Rattle.ldm_pattern.proofs.Meanings.{search_finds}

-- what is compiled of what a pattern means finds the pattern
pub compiled_finds : (pattern : List ℕ) (re : Re) (nfa : Nfa) → IsMeantBy pattern re → Implements nfa re → FindsAs pattern nfa
unfolding find
compiled_finds pattern re nfa means implements text bytes =
    ap is_some (first_between_cong _ _ 0 (length text) (λ i _ _. implements text i)) ∙ search_finds pattern re text bytes means

test_of_map : {A B : Type 0} (f : A → B) (o : Option A) → is_some (option_map f o) ≡ is_some o
test_of_map f None = refl
test_of_map f (Some x) = refl

-- a match ends somewhere exactly where the pattern is found
pub end_found : (pattern : List ℕ) (nfa : Nfa) → FindsAs pattern nfa → (text : List ℕ) → ((k : ℕ) → get_or text k 0 < 256) →
    is_some (end_from nfa text (length text) nfa.unanchored 0) ≡ found pattern text
unfolding find_in
end_found pattern nfa finds text bytes =
    test_of_map (λ (t : Trace). t.end) _
    ∙ ap is_some (run_unanchored nfa text (length text) 0 (All-from_get_or (λ b. b < 256) text 0 (λ i _. bytes i)) (omega arith) (omega arith))
    ∙ test_of_map (λ (m : Match). m.trace) _ ∙ finds text bytes
