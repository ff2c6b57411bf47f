use Rattle.std.proofs.Common.{◌≡◌, ◌++◌, false, length, map, string_bytes}
use denote.Text.{Utf8}
use denote.Shadow.{shadow}
use Rattle.ldm_text.specs.Blanks.{begins_in_blank}
use Rattle.ldm_conf.specs.Commands.{parts_of}
use Rattle.ldm_conf.proofs.command.split_text.Given as goal

abbrev pub invariant-loop-rest : goal.invariant-loop-rest
invariant-loop-rest l =
    shadow (Utf8 l.rest)
    × (map string_bytes l.parts.items ++ parts_of l.rest ≡ parts_of l.command)
    × (begins_in_blank l.rest ≡ false)

abbrev pub decreases-loop-rest : goal.decreases-loop-rest
decreases-loop-rest l = length l.rest
