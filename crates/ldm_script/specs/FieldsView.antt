-- What a contract sees of the fields that are left of a line.
use Rattle.std.specs.Prelude.{ℕ, ◌≤◌, List, [], length, unwrap_or, Option, Some, None}
use Rattle.std.specs.Borrow.{Bor}
use Rattle.ldm_script.specs.Fields.{Left}
use Rattle.ldm_script.specs.declared.fields.Fields.TheInside.{Inside}
use Rattle.ldm_script.specs.declared.line.TheConstants.{LONGEST_LINE}

abbrev pub seen : Option (Bor (List ℕ)) → Left
seen None = None
seen (Some rest) = Some rest.now

abbrev pub left_of : Inside → Left
left_of fields = seen fields.rest

-- no more is left than a line may have
abbrev pub IsShort : Left → Type 0
IsShort left = length (unwrap_or left []) ≤ LONGEST_LINE
