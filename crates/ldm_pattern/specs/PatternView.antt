-- What a contract sees of a `Pattern`.
use Rattle.std.specs.Prelude.{◌≡◌, ℕ, List}
use Rattle.std.specs.Str.{IsUtf8}
use Rattle.regex.specs.Bytes.{regex_config, regex_source, IsReadFromSource}
use Rattle.ldm_pattern.specs.Patterns.{byte_config}
use Rattle.ldm_pattern.specs.declared.pattern.Pattern.TheInside.{Inside}

-- the bytes of the pattern
abbrev pub source_of : Inside → List ℕ
source_of pattern = regex_source pattern.regex

-- what is searched for is what the grammar reads in these bytes
pub record IsBuilt (pattern : Inside) : Type 0 where
  pub utf8 : IsUtf8 (source_of pattern)
  pub config : regex_config pattern.regex ≡ byte_config
  pub read : IsReadFromSource pattern.regex
