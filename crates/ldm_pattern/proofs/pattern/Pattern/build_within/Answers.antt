use Rattle.std.proofs.Common.{◌≡◌, ◌∙◌, ap, subst, ℕ, false, List, IsUtf8}
use Rattle.regex.specs.Bytes.{regex_config, regex_source}
use Rattle.regex.specs.Failures.{IsRightKind}
use Rattle.regex.specs.Patterns.{Config, default_config}
use Rattle.regex.specs.Sources.{IsRefusal}
use Rattle.regex.specs.Views.{builder_config, builder_source}
use Rattle.ldm_pattern.specs.Patterns.{byte_config}
use Rattle.ldm_pattern.proofs.Meanings.{built_is_pattern, nothing_of_other_bytes, nothing_of_refused}
use Rattle.ldm_pattern.proofs.pattern.Pattern.build_within.Goals as goal

pub returns-in_default : goal.returns-in_default
returns-in_default c = nothing_of_other_bytes c.args.source.now c.in_default.ensures.cases.0

pub returns-in-Ok-build_bytes : goal.returns-in-Ok-build_bytes
returns-in-Ok-build_bytes c =
    let options : builder_config c.size_limit.result ≡ default_config = ap builder_config c.size_limit.ensures ∙ c.new.ensures.config in
    let text : builder_source c.size_limit.result ≡ c.in-Ok.text.now = ap builder_source c.size_limit.ensures ∙ c.new.ensures.source in
    let built = c.in-Ok-build_bytes in
    let same : regex_source built.regex ≡ c.args.source.now = built.ensures.source ∙ text ∙ c.in-Ok.ensures.cases.0 in
    let utf8 : IsUtf8 (regex_source built.regex) = rw same c.in-Ok.ensures.cases.1 in
    let config : regex_config built.regex ≡ byte_config = built.ensures.config ∙ ap (λ (o : Config). record o { utf8 = false }) options in
    (same, rw (← same) (built_is_pattern built.regex utf8 config built.ensures.read))

pub returns-in-Err-Syntax : goal.returns-in-Err-Syntax
returns-in-Err-Syntax c =
    let options : builder_config c.size_limit.result ≡ default_config = ap builder_config c.size_limit.ensures ∙ c.new.ensures.config in
    let text : builder_source c.size_limit.result ≡ c.in-Ok.text.now = ap builder_source c.size_limit.ensures ∙ c.new.ensures.source in
    let error = c.in-Err-Syntax.field-0 in
    let Refused : Config → Type 0 = λ o. IsRefusal (record o { utf8 = false }) (builder_source c.size_limit.result) error in
    let RefusedFor : List ℕ → Type 0 = λ source. IsRefusal byte_config source error in
    let Kind : Config → Type 0 = λ o. IsRightKind (record o { utf8 = false }) (builder_source c.size_limit.result) error in
    let KindFor : List ℕ → Type 0 = λ source. IsRightKind byte_config source error in
    let refused : RefusedFor c.in-Ok.text.now = subst RefusedFor text (subst Refused options c.in-Err-Syntax.ensures.refused) in
    let kind : KindFor c.in-Ok.text.now = subst KindFor text (subst Kind options c.in-Err-Syntax.ensures.kind) in
    rw (← c.in-Ok.ensures.cases.0) (nothing_of_refused c.in-Ok.text.now error c.in-Err-Syntax.field-0-0 c.in-Err-Syntax.field-0-is refused kind)
