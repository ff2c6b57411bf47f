-- What of a text comes into a reason.
use Rattle.std.specs.Prelude.{ℕ, ◌-◌, ◌++◌, if◌then◌else◌, List, length, map, take}
use Rattle.ldm_outside.specs.Reason.{is_control}
use Rattle.ldm_outside.specs.declared.reason.TheConstants.{LONGEST_REASON}

-- a byte as a log line has it: a control byte as a question mark (63)
abbrev pub shown : ℕ → ℕ
shown byte = if is_control byte then 63 else byte

-- a reason with as much of a text behind it as there is room for
abbrev pub with_text : List ℕ → List ℕ → List ℕ
with_text before text = before ++ map shown (take (LONGEST_REASON - length before) text)
