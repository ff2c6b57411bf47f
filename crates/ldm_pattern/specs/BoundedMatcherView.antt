-- What a contract sees of a `BoundedMatcher`.
use Rattle.std.specs.Prelude.{◌≡◌, ℕ, List, vec_len}
use Rattle.regex_dfa.specs.Search.{IsForwardFor}
use Rattle.ldm_pattern.specs.BoundedView.{FindsAs}
use Rattle.ldm_pattern.specs.declared.bounded.BoundedMatcher.TheInside.{Inside}

-- the bytes of the pattern
abbrev pub source_of : Inside → List ℕ
source_of matcher = matcher.source.now

-- what is searched for is what these bytes mean, the tables are those of its automaton, and there is room for its threads
pub record SearchesForSource (matcher : Inside) : Type 0 where
  pub finds : FindsAs (source_of matcher) matcher.dfa.now.nfa
  pub tables : IsForwardFor matcher.forward matcher.dfa.now
  pub room : matcher.threads.states ≡ vec_len matcher.dfa.now.nfa.states
