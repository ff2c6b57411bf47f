-- What a contract sees of a `BoundedPattern`.
use Rattle.std.specs.Prelude.{◌≡◌, ℕ, ◌<◌, List, length, slice_index, is_some}
use Rattle.regex_nfa.specs.declared.nfa.Nfa.{Nfa}
use Rattle.regex_vm.specs.Found.{first_match}
use Rattle.ldm_pattern.specs.Patterns.{found}
use Rattle.ldm_pattern.specs.declared.bounded.BoundedPattern.TheInside.{Inside}

-- an NFA matches somewhere in a text of bytes exactly where the pattern is found in it
abbrev pub FindsAs : List ℕ → Nfa → Type 0
FindsAs pattern nfa = (text : List ℕ) → ((k : ℕ) → slice_index text k < 256) →
    is_some (first_match nfa text (length text) 0 (length text)) ≡ found pattern text

-- the bytes of the pattern
abbrev pub source_of : Inside → List ℕ
source_of pattern = pattern.source.items

-- what is searched for is what these bytes mean
abbrev pub FindsSource : Inside → Type 0
FindsSource pattern = FindsAs (source_of pattern) pattern.dfa.nfa
