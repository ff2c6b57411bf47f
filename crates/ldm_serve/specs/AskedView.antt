-- What a record asks of a server, as code has it.
use Rattle.std.specs.Prelude.{◌≡◌, ℕ, List, [], length, Result, Ok, Err}
use Rattle.ldm_class.specs.Rules.{Rules}
use Rattle.ldm_relay.specs.Sent.{Sent}
use Rattle.ldm_relay.specs.declared.fault.RelayFault.{RelayFault}
use Rattle.ldm_serve.specs.declared.reading.Asked.{Asked}
use Rattle.ldm_serve.specs.declared.reading.Asked.TheVariants as asked
use Rattle.ldm_serve.specs.Respond.{to_feedme, to_notifyme, to_hiya, to_put, to_qstat, to_fault}
use Rattle.ldm_serve.specs.Response.{Response, Says, Refuses}

abbrev pub to_asked : Rules → List ℕ → Asked → Response
to_asked rules host (asked.Feedme m) = to_feedme m.xid m.class m.max_hereis
to_asked rules host (asked.Notifyme m) = to_notifyme m.xid m.class
to_asked rules host (asked.Hiya m) = to_hiya rules host m.xid m.class
to_asked rules host (asked.Put m) = to_put rules host m.xid m.info m.body.now
to_asked rules host (asked.Qstat xid) = to_qstat rules host xid
to_asked rules host asked.Isalive = Says []
to_asked rules host asked.OutOfPlace = Refuses []
to_asked rules host (asked.Unread fault) = to_fault fault

-- a body has the size that its metadata tell
abbrev pub IsSizedAsked : Asked → Type 0
IsSizedAsked (asked.Put m) = length m.body.now ≡ m.info.size
IsSizedAsked _ = Unit {0}

-- it could not be read as a call exactly where that is so, for that fault
abbrev pub IsUnread : Result Sent RelayFault → Asked → Type 0
IsUnread (Err fault) one = one ≡ asked.Unread fault
IsUnread (Ok call) (asked.Unread fault) = ⊥
IsUnread (Ok call) _ = Unit {0}
