-- What a dial was asked, and what it connects and takes back.
use Rattle.std.specs.Prelude.{◌≡◌, ℕ, List, [], ◌∷◌, ◌++◌, Option, IfSome}
use Rattle.std.specs.Option.{option_map}
use Rattle.ldm_outside.specs.declared.dial.Dialled.{Dialled}
use Rattle.ldm_outside.specs.declared.dial.Dialled.TheVariants.{Linked, Failed}
use Rattle.ldm_outside.specs.Count.{Rose}
use Rattle.ldm_outside.specs.Told.{TellsMore}
use Rattle.ldm_outside.specs.Link.{LinkRecord, IsFresh}
use Rattle.ldm_outside.specs.Lending.{LendingRecord, TakesBack, IsUnlent, with_out}

-- Whom a dial was asked for.
pub record Asked : Type 0 where
  pub host : List ℕ
  pub port : ℕ

-- What a dial tells at a moment.
pub record DialRecord : Type 0 where
  -- how often it failed
  pub faults : ℕ
  -- whom it was asked for, in order, connected or not, where it tells them
  pub asked : Option (List Asked)
  -- its links
  pub links : LendingRecord

-- whom a dial was asked for, after it was asked once more
abbrev pub with_asked : Asked → List Asked → List Asked
with_asked peer asked = asked ++ peer ∷ []

module _ {L : Type 0} (tells : L → LinkRecord) where
  -- What one call of `connect` did.
  abbrev pub ConnectGives : Dialled L → Asked → DialRecord → DialRecord → Type 0
  -- there is a link, which was not used yet, and is out from now on
  ConnectGives (Linked link) peer old new =
      IsFresh (tells link)
      × (new ≡ record old { asked = option_map (with_asked peer) old.asked; links = with_out old.links })
  -- the dial failed: without memory to keep whom it was asked for, it does not tell these any more
  ConnectGives Failed peer old new =
      Rose old.faults new.faults × TellsMore (with_asked peer) old.asked new.asked
      × (new ≡ record old { faults = new.faults; asked = new.asked })

-- What one call of `give_back` did, with a link that told this.
abbrev pub DialTakesBack : LinkRecord → DialRecord → DialRecord → Type 0
DialTakesBack link old new =
    TakesBack link old.links new.links × (new ≡ record old { links = new.links })

-- A dial of which no call was made.
abbrev pub IsNewDial : DialRecord → Type 0
IsNewDial dial =
    (dial.faults ≡ 0) × IfSome dial.asked (λ asked. asked ≡ []) × IsUnlent dial.links
