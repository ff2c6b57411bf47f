-- What contracts see of a door in memory, and what one call of it does.
use Rattle.std.specs.Prelude.{◌≡◌, ℕ, false, List, [], ◌∷◌, ◌++◌, Some}
use Rattle.ldm_outside.specs.declared.door.Came.{Came}
use Rattle.ldm_outside.specs.declared.door.Came.TheVariants.{Peer, Closed, Failed}
use Rattle.ldm_outside_memory.specs.declared.mem_door.MemPeer.{MemPeer}
use Rattle.ldm_outside.specs.Door.{DoorRecord}
use Rattle.ldm_outside_memory.specs.Memory.{Plan, next_fails, after_call, first_plan}
use Rattle.ldm_outside.specs.Count.{raised}
use Rattle.ldm_outside_memory.specs.MemLink.{LinkState, first_link}
use Rattle.ldm_outside_memory.specs.MemLending.{LendingState, nothing_lent, lent, told_by_lending}

-- a door that lets in the peers of a list
pub record DoorState : Type 0 where
  -- the peers that are still to come
  pub waiting : List MemPeer
  -- the hosts that came
  pub hosts : List (List ℕ)
  pub faults : ℕ
  pub peers : ℕ
  pub closings : ℕ
  pub links : LendingState
  -- the calls of `accept`
  pub plan : Plan

-- the door at its beginning
abbrev pub first_door : List MemPeer → List ℕ → DoorState
first_door waiting failing = record {
  waiting = waiting;
  hosts = [];
  faults = 0;
  peers = 0;
  closings = 0;
  links = nothing_lent;
  plan = first_plan failing;
}

-- What one call of `accept` did. Without memory for the host that it is to keep and for the link, a call fails too.
abbrev pub AcceptsAsPlanned : Came LinkState → DoorState → DoorState → Type 0
-- the next peer comes
AcceptsAsPlanned (Peer host link) old new =
    (next_fails old.plan ≡ false)
    × ((peer : MemPeer) × (old.waiting ≡ peer ∷ new.waiting) × (host ≡ peer.host) × (link ≡ first_link peer.script))
    × (new ≡ record old {
      waiting = new.waiting;
      hosts = old.hosts ++ host.items ∷ [];
      peers = raised old.peers;
      links = lent old.links;
      plan = after_call old.plan;
    })
-- all peers came
AcceptsAsPlanned Closed old new =
    (next_fails old.plan ≡ false) × (old.waiting ≡ [])
    × (new ≡ record old { closings = raised old.closings; plan = after_call old.plan })
AcceptsAsPlanned Failed old new = new ≡ record old { faults = raised old.faults; plan = after_call old.plan }

-- what a door in memory tells
abbrev pub told_by_door : DoorState → DoorRecord
told_by_door s = record {
  faults = s.faults;
  peers = s.peers;
  closings = s.closings;
  hosts = Some s.hosts;
  links = told_by_lending s.links;
}
