use Rattle.std.proofs.Common.{subst, false, IsUtf8}
use Rattle.regex.specs.Patterns.{Config, Reads, Refuses}
use Rattle.regex.specs.Names.{names_of}
use Rattle.ldm_pattern.proofs.Meanings.{nothing_of_other_bytes, meant_by_read, nothing_of_unread}
use Rattle.ldm_pattern.proofs.pattern.read.Goals as goal

pub returns-in_default : goal.returns-in_default
returns-in_default c = nothing_of_other_bytes c.args.source.now c.in_default.ensures.cases.0

pub returns-in-Ok-parse : goal.returns-in-Ok-parse
returns-in-Ok-parse c =
    let text = c.in-Ok.text.now in
    let parsed = c.in-Ok-parse.parsed in
    let utf8 : IsUtf8 text = rw c.in-Ok.ensures.cases.0 c.in-Ok.ensures.cases.1 in
    let Read : Config → Type 0 = λ o. Reads (record o { utf8 = false }) text parsed.hir (names_of parsed.names.items) in
    rw (← c.in-Ok.ensures.cases.0) (meant_by_read text utf8 parsed.hir _ (subst Read c.default.ensures c.in-Ok-parse.ensures.ok))

pub returns-in_default-kind : goal.returns-in_default-kind
returns-in_default-kind c =
    let text = c.in-Ok.text.now in
    let kind = c.in-Err.error.kind in
    let Refused : Config → Type 0 = λ o. Refuses (record o { utf8 = false }) text kind in
    rw (← c.in-Ok.ensures.cases.0) (nothing_of_unread text kind c.in_default-kind.not-OutOfMemory (subst Refused c.default.ensures c.in-Err.ensures.err))
