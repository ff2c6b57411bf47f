-- A result in two parts: what a call returns, and what it writes beside that, which has room for a class.
use Rattle.std.specs.Prelude.{Result, Ok, Err}
use Rattle.ldm_serve.specs.declared.responded.Responded.{Responded}
use Rattle.ldm_serve.specs.declared.responded.RespondFault.{RespondFault}

-- a record was responded to, and how the connection goes on was written; or it was not
abbrev pub with_next : Result (Unit {0}) RespondFault → Responded → Result Responded RespondFault
with_next (Ok done) next = Ok next
with_next (Err why) next = Err why
