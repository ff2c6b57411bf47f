use Rattle.std.proofs.Common.{inl, inr, refl}
use Rattle.std.proofs.lemmas.Result.{err_from_is_err_and}
use Rattle.ldm_conf.specs.DirectiveViews.{directive_view}
use Rattle.ldm_conf.specs.Statements.{Adds, Blank, Includes}
use Rattle.ldm_conf.proofs.Parsing.{means, no_bad_pattern, of_patterns, of_statement}
use Rattle.ldm_conf.proofs.reader.Reader.read_line.Goals as goal

pub returns-in_err-read_statement-clause-read : goal.returns-in_err-read_statement-clause-read
returns-in_err-read_statement-clause-read c =
    let why = err_from_is_err_and c.from_residual.result c.from_residual.ensures.1 in
    rw (why.1, why.2) (of_statement c.args.line.now c.in_err-read_statement.field-0.0 c.in_err-read_statement.ensures)

pub returns-in_err-add-in-Adds-clause-read : goal.returns-in_err-add-in-Adds-clause-read
returns-in_err-add-in-Adds-clause-read c =
    let why = err_from_is_err_and c.from_residual-in_err-add-in-Adds.result c.from_residual-in_err-add-in-Adds.ensures.1 in
    rw (why.1, why.2)
    (of_patterns c.args.line.now (Adds (directive_view c.in-Adds.directive)) (rw c.in-Adds.is at c.in_ok-read_statement.ensures) c.in_err-add-in-Adds.field-0.0 c.in_err-add-in-Adds.ensures.1)

pub returns-in-Blank-clause-read : goal.returns-in-Blank-clause-read
returns-in-Blank-clause-read c = inl (means c.args.line.now Blank (rw c.in-Blank.is at c.in_ok-read_statement.ensures) Blank refl, refl)

pub returns-in_ok-add-in-Adds-clause-read : goal.returns-in_ok-add-in-Adds-clause-read
returns-in_ok-add-in-Adds-clause-read c =
    let directive = directive_view c.in-Adds.directive in
    let added = c.in_ok-add-in-Adds.ensures in
    inr (
      directive,
      means c.args.line.now (Adds directive) (rw c.in-Adds.is at c.in_ok-read_statement.ensures) (Adds directive) (no_bad_pattern directive added.0),
      added.1,
    )

pub returns-in-Includes-clause-read : goal.returns-in-Includes-clause-read
returns-in-Includes-clause-read c =
    let path = c.in-Includes.path.now in
    (means c.args.line.now (Includes path) (rw c.in-Includes.is at c.in_ok-read_statement.ensures) (Includes path) refl, refl)
