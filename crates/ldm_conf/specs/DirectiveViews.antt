-- What a `Directive` and a `Statement` of the code say.
use Rattle.std.specs.Option.{option_copied}
use Rattle.ldm_class.specs.Rules.{allow_rule, accept_rule}
use Rattle.ldm_conf.specs.declared.directive.Directive as code
use Rattle.ldm_conf.specs.declared.directive.Directive.TheVariants as directive
use Rattle.ldm_conf.specs.declared.directive.Statement as code_statement
use Rattle.ldm_conf.specs.declared.directive.Statement.TheVariants as statement
use Rattle.ldm_conf.specs.Commands.{parts_of}
use Rattle.ldm_conf.specs.Confs.{Directive, Allow, Accept, Request, Exec, all_times}
use Rattle.ldm_conf.specs.Statements.{Statement, Blank, Adds, Includes}

abbrev pub directive_view : code.Directive → Directive
directive_view (directive.Allow feed host ok not) = Allow (allow_rule feed.0 host.now (option_copied ok) (option_copied not))
directive_view (directive.Accept feed pattern host) = Accept (accept_rule feed.0 pattern.now host.now)
directive_view (directive.Request feed pattern address transfer) = Request (record { class = all_times feed.0 pattern.items; host = address.host.items; port = address.port; transfer = transfer })
directive_view (directive.Exec command) = Exec (parts_of command.text.now)

abbrev pub statement_view : code_statement.Statement → Statement
statement_view statement.Blank = Blank
statement_view (statement.Adds directive) = Adds (directive_view directive)
statement_view (statement.Includes path) = Includes path.now
