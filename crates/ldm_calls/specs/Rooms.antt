-- What room a call needs.
use Rattle.std.specs.Prelude.{ℕ, length}
use Rattle.ldm_script.specs.declared.order.Call.{Call}
use Rattle.ldm_script.specs.declared.order.Call.TheVariants as call
use Rattle.ldm_script.specs.OrderView.{bytes_of}

-- how many bytes of a body it brings
abbrev pub bytes_brought : Call → ℕ
bytes_brought (call.Insert now info body) = length (bytes_of body.now)
bytes_brought (call.Fill r body) = length (bytes_of body.now)
bytes_brought _ = 0

-- how many bytes it asks for
abbrev pub bytes_asked : Call → ℕ
bytes_asked (call.Read k offset len) = len
bytes_asked _ = 0
