-- One event of the queue, and a run of many.
use Rattle.std.specs.Prelude.{ℕ, List, [], ◌∷◌}
use Rattle.ldm_model.specs.declared.event.Event.{Event}
use Rattle.ldm_model.specs.declared.event.Event.TheVariants.{Insert, OpenCursor, Step, Read, Release, Close, Look, Expire, Tally, Stat, Reserve, Fill, Commit, Discard}
use Rattle.ldm_model.specs.declared.event.Reply.{Reply}
use Rattle.ldm_model.specs.State.{State}
use Rattle.ldm_model.specs.Outcome.{Outcome}
use Rattle.ldm_model.specs.Insert.{insert}
use Rattle.ldm_model.specs.Open.{open_cursor}
use Rattle.ldm_model.specs.Step.{step}
use Rattle.ldm_model.specs.Read.{read}
use Rattle.ldm_model.specs.Release.{release, close}
use Rattle.ldm_model.specs.Look.{look}
use Rattle.ldm_model.specs.Expire.{expire}
use Rattle.ldm_model.specs.Tally.{tally}
use Rattle.ldm_model.specs.Stat.{stat}
use Rattle.ldm_model.specs.Reserve.{reserve}
use Rattle.ldm_model.specs.Fill.{fill, discard}
use Rattle.ldm_model.specs.Commit.{commit}

-- what the queue answers to an actor's event, and the state that follows
abbrev pub next : State → ℕ → Event → Outcome
next s actor (Insert now info body) = insert s now (record { info = info; body = body })
next s actor (OpenCursor feed start) = open_cursor s actor feed.0 start
next s actor (Step k) = step s actor k
next s actor (Read k offset len) = read s actor k offset len
next s actor (Release k) = release s actor k
next s actor (Close k) = close s actor k
next s actor (Look signature) = look s signature.0
next s actor Expire = expire s
next s actor (Tally k) = tally s actor k
next s actor Stat = stat s
next s actor (Reserve info) = reserve s actor info
next s actor (Fill r bytes) = fill s actor r bytes
next s actor (Commit r now) = commit s actor r now
next s actor (Discard r) = discard s actor r

-- an event, and who makes it
pub record Call : Type 0 where
  pub actor : ℕ
  pub event : Event

-- what the queue answers to a call, and the state that follows
abbrev pub next_call : State → Call → Outcome
next_call s call = next s call.actor call.event

-- the replies to calls, in order
abbrev pub replies : State → List Call → List Reply
replies s [] = []
replies s (call ∷ calls) = (next_call s call).reply ∷ replies (next_call s call).state calls
