-- What a contract sees of a `Matcher`.
use Rattle.std.specs.Prelude.{ℕ, List, IsSomeAnd}
use Rattle.regex.specs.Bytes.{matcher_pattern}
use Rattle.regex.specs.Patterns.{SameCaptures}
use Rattle.ldm_pattern.specs.Patterns.{pattern_meaning}
use Rattle.ldm_pattern.specs.declared.matcher.Matcher.TheInside.{Inside}

-- the bytes of the pattern
abbrev pub source_of : Inside → List ℕ
source_of matcher = matcher.pattern.now

-- what is searched for is what these bytes mean
abbrev pub SearchesForSource : Inside → Type 0
SearchesForSource matcher = IsSomeAnd (pattern_meaning (source_of matcher)) (SameCaptures (matcher_pattern matcher.search))
