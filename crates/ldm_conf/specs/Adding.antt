-- What adding a line to a configuration did.
use Rattle.std.specs.Prelude.{◌≡◌, false, Result, MatchResult}
use Rattle.ldm_conf.specs.declared.directive.Directive as code
use Rattle.ldm_conf.specs.declared.fault.ConfKind.{ConfKind}
use Rattle.ldm_conf.specs.Confs.{ConfView, has_bad_pattern, with_directive}
use Rattle.ldm_conf.specs.DirectiveViews.{directive_view}
use Rattle.ldm_conf.specs.LineFaults.{IsKindOf}
use Rattle.ldm_conf.specs.Statements.{Adds, with_patterns}

abbrev pub AddsDirective : Result (Unit {0}) ConfKind → code.Directive → ConfView → ConfView → Type 0
AddsDirective result directive old new =
    MatchResult result
    (λ _. (has_bad_pattern (directive_view directive) ≡ false) × (new ≡ with_directive old (directive_view directive)))
    (λ kind. (new ≡ old) × IsKindOf (with_patterns (Adds (directive_view directive))) kind)
