-- Watching: what comes of the records of a stream, one after another.
use Rattle.std.specs.Prelude.{ℕ, ◌-◌, nat_le, true, false, List, [], ◌∷◌, ◌++◌, Option, Some, None, if◌then◌else◌}
use Rattle.ldm_types.specs.Info.{Metadata}
use Rattle.ldm_relay.specs.Sent.{Sent}
use Rattle.ldm_relay.specs.Sent as sent
use Rattle.ldm_rpc.specs.Streams.{Placed}
use Rattle.ldm_watch.specs.declared.end.WatchEnd.{WatchEnd}
use Rattle.ldm_watch.specs.declared.end.WatchEnd.TheVariants.{Counted, BadFrame, Refused}
use Rattle.ldm_watch.specs.declared.watching.Phase.TheVariants as phase
use Rattle.ldm_watch.specs.declared.watching.Watching.{Watching}
use Rattle.ldm_watch.specs.declared.step.Step.{Step}
use Rattle.ldm_watch.specs.declared.step.Step.TheVariants.{Alive, Begins, AsksAgain, Notice, Bad, Declined}
use Rattle.ldm_watch.specs.Sought.{Sought}
use Rattle.ldm_watch.specs.Step.{watch_step}

-- What was taken so far.
pub record Watched : Type 0 where
  pub watching : Watching
  -- the messages that the peer is owed, from the first NOTIFYME on
  pub owed : List Sent
  -- the products that it told of
  pub notices : List Metadata
  -- how it ended, if a record ended it
  pub end : Option WatchEnd

-- before the first record: the NOTIFYME of the class is owed
abbrev pub opening : Sought → Watched
opening sought = record {
  watching = record { class = sought.class; phase = phase.Asked false; left = sought.count; form = sought.form };
  owed = sent.Notifyme 1 sought.class ∷ [];
  notices = [];
  end = None;
}

-- a notice came where so many were left to come: the last one ends it
abbrev pub counted : Watched → Option ℕ → Watched
counted t None = t
counted t (Some left) =
    if nat_le left 1 then record t { end = Some Counted } else record t { watching = record t.watching { left = Some (left - 1) } }

-- a record that begins there says this
abbrev pub after_step : Watched → ℕ → Step → Watched
after_step t at Alive = t
after_step t at Begins = record t { watching = record t.watching { phase = phase.Told } }
after_step t at (AsksAgain class) =
    record t { watching = record t.watching { class = class; phase = phase.Asked true }; owed = t.owed ++ sent.Notifyme 2 class ∷ [] }
after_step t at (Notice info) = counted (record t { notices = t.notices ++ info ∷ [] }) t.watching.left
after_step t at Bad = record t { end = Some (BadFrame at) }
after_step t at (Declined answer) = record t { end = Some (Refused answer) }

-- one record more, where none ended it
abbrev pub take_record : Option WatchEnd → Watched → Placed → Watched
take_record None t placed = after_step t placed.at (watch_step t.watching placed.content)
take_record (Some end) t placed = t

-- the records in order, up to one that ends it
unfoldable pub watched : Watched → List Placed → Watched
watched t [] = t
watched t (placed ∷ records) = watched (take_record t.end t placed) records
