-- What a door lets in and takes back.
use Rattle.std.specs.Prelude.{◌≡◌, ℕ, List, [], ◌∷◌, ◌++◌, Option, IfSome}
use Rattle.std.specs.Option.{option_map}
use Rattle.ldm_outside.specs.declared.door.Came.{Came}
use Rattle.ldm_outside.specs.declared.door.Came.TheVariants.{Peer, Closed, Failed}
use Rattle.ldm_outside.specs.Count.{Rose}
use Rattle.ldm_outside.specs.Link.{LinkRecord, IsFresh}
use Rattle.ldm_outside.specs.Lending.{LendingRecord, TakesBack, IsUnlent, with_out}

-- What a door tells at a moment.
pub record DoorRecord : Type 0 where
  -- how often it failed
  pub faults : ℕ
  -- how many peers came
  pub peers : ℕ
  -- how often it answered that it is closed
  pub closings : ℕ
  -- the hosts that came, in order, where it tells them
  pub hosts : Option (List (List ℕ))
  -- its links
  pub links : LendingRecord

-- the hosts after one more came
abbrev pub with_host : List ℕ → List (List ℕ) → List (List ℕ)
with_host host hosts = hosts ++ host ∷ []

module _ {L : Type 0} (tells : L → LinkRecord) where
  -- What one call of `accept` did.
  abbrev pub AcceptGives : Came L → DoorRecord → DoorRecord → Type 0
  -- a peer came, with a link that was not used yet, which is out from now on
  AcceptGives (Peer host link) old new =
      IsFresh (tells link) × Rose old.peers new.peers
      × (new ≡ record old { peers = new.peers; hosts = option_map (with_host host.items) old.hosts; links = with_out old.links })
  -- no peer comes any more
  AcceptGives Closed old new = Rose old.closings new.closings × (new ≡ record old { closings = new.closings })
  -- the door failed
  AcceptGives Failed old new = Rose old.faults new.faults × (new ≡ record old { faults = new.faults })

-- What one call of `give_back` did, with a link that told this.
abbrev pub DoorTakesBack : LinkRecord → DoorRecord → DoorRecord → Type 0
DoorTakesBack link old new =
    TakesBack link old.links new.links × (new ≡ record old { links = new.links })

-- A door of which no call was made.
abbrev pub IsNewDoor : DoorRecord → Type 0
IsNewDoor door =
    (door ≡ record { faults = 0; peers = 0; closings = 0; hosts = door.hosts; links = door.links })
    × IfSome door.hosts (λ hosts. hosts ≡ []) × IsUnlent door.links
