use Rattle.std.proofs.Common.{◌≡◌, ◌++◌, map, true, string_bytes}
use Rattle.std.specs.List.{list_all}
use Rattle.std.specs.Str.{is_utf8}
use Rattle.ldm_pqact_match.proofs.decide.with_texts.Given as goal

abbrev pub invariant-loop-text : goal.invariant-loop-text
invariant-loop-text l = (map string_bytes l.words.items ++ l.text-iterator.rest.items ≡ l.fn.texts.items) × (list_all is_utf8 (map string_bytes l.words.items) ≡ true)
