use Rattle.std.proofs.lemmas.Str.{IsUtf8-string_bytes, is_utf8-from_IsUtf8}
use Rattle.std.specs.Prelude.{string_bytes}
use Rattle.ldm_pqact_match.proofs.Utf8Words.{test_of_no_text}
use Rattle.ldm_pqact_match.proofs.text.Text.into_word.Goals as goal

pub returns-in-Ok-clause-text : goal.returns-in-Ok-clause-text
returns-in-Ok-clause-text c =
    let utf8 = is_utf8-from_IsUtf8 (string_bytes c.in-Ok.text) (IsUtf8-string_bytes c.in-Ok.text) in
    let same = c.in-Ok.ensures.ok in
    rw (← c.self.view_is, ← same) utf8

pub returns-clause-value : goal.returns-clause-value
returns-clause-value c =
    let bad = test_of_no_text c.self.inside.bytes.items (λ text. let no = c.in-Err.ensures.succeeds text in cc) in
    rw (← c.self.view_is) bad
