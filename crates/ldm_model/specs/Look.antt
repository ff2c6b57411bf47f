-- Looking for a product by its signature.
use Rattle.std.specs.Prelude.{ℕ, List, Option, Some, None}
use Rattle.ldm_model.specs.declared.event.Reply.{Reply}
use Rattle.ldm_model.specs.declared.event.Reply.TheVariants as reply
use Rattle.ldm_model.specs.State.{State, Queued, queued, queued_with}
use Rattle.ldm_model.specs.Outcome.{Outcome, unchanged}

abbrev pub look_reply : Option Queued → Reply
look_reply None = reply.Absent
look_reply (Some q) = reply.Queued q.number q.time

unfoldable pub look : State → List ℕ → Outcome
look s signature = unchanged s (look_reply (queued_with signature (queued s)))
