-- The replies to announcements.
use Rattle.std.specs.Prelude.{◌≡◌, List, [], ◌∷◌}
use Rattle.std.specs.List.{flat_map}
use Rattle.ldm_relay.specs.Sent.{Sent}
use Rattle.ldm_relay.specs.Sent as sent
use Rattle.ldm_session.specs.Owed.{Code}

abbrev pub soon_code : Sent → List Code
soon_code (sent.ComingsoonReply xid answer) = record { xid = xid; answer = answer } ∷ []
soon_code _ = []

-- those among some messages
abbrev pub soon_codes : List Sent → List Code
soon_codes messages = flat_map soon_code messages

-- Where both have a reply, it is the same: one of them is the first of the other.
abbrev pub Agree : List Code → List Code → Type 0
Agree [] others = Unit {0}
Agree (code ∷ codes) [] = Unit {0}
Agree (code ∷ codes) (other ∷ others) = (code ≡ other) × Agree codes others
