-- How a part of a sending leaves the pass, the link, the clock and what is gathered: it does a deed, or breaks off in
-- it.
use Rattle.std.specs.Prelude.{◌≡◌, ℕ, ◌≤◌, List, [], ◌∷◌, ◌++◌, Bool, true, false}
use Rattle.ldm_model.specs.declared.event.Entry.{Entry}
use Rattle.ldm_outside.specs.Clock.{ClockRecord}
use Rattle.ldm_outside.specs.Link.{LinkRecord, IsNotClosed}
use Rattle.ldm_shared.specs.Passes.{PassView, Calls}
use Rattle.ldm_session.specs.Exchange.{Exchanged, AnsweredAll}
use Rattle.ldm_sender.specs.Deeds.{Deed}
use Rattle.ldm_session.specs.Part.{IsPart}

-- What a part of a sending finds or leaves.
pub record SendingMoment : Type 0 where
  pub pass : PassView
  pub link : LinkRecord
  pub clock : ClockRecord
  -- what is gathered for the link, and not sent yet
  pub out : List ℕ

abbrev pub moment_of : PassView → LinkRecord → ClockRecord → List ℕ → SendingMoment
moment_of pass link clock out = record { pass = pass; link = link; clock = clock; out = out }

-- each of a list is such
abbrev pub Each : {A : Type 0} → (A → Type 0) → List A → Type 0
Each Only [] = Unit {0}
Each Only (x ∷ xs) = Only x × Each Only xs

-- the whole, or a front of it behind which only such are missing
abbrev pub IsAllBut : {A : Type 0} → Bool → (A → Type 0) → List A → List A → Type 0
IsAllBut true Only part whole = part ≡ whole
IsAllBut {A} false Only part whole = (missing : List A) × (part ++ missing ≡ whole) × Each Only missing

-- The link stays open, and none of its counts falls.
pub record KeepsLink (old new : LinkRecord) : Type 0 where
  pub faults : old.faults ≤ new.faults
  pub ends : old.ends ≤ new.ends
  pub still_open : IsNotClosed new

-- Just this was done, and the link gave these bytes: what was owed was sent, or is gathered still, behind what was
-- gathered before.
pub record Does (given : List ℕ) (old new : SendingMoment) (deed : Deed) : Type 0 where
  pub calls : Calls old.pass new.pass deed.entries
  pub sent : List ℕ
  pub gathered : old.out ++ deed.bytes ≡ sent ++ new.out
  pub exchanged : Exchanged old.link sent given new.link
  pub answered : AnsweredAll deed.instants old.clock new.clock
  pub link : KeepsLink old.link new.link

-- It broke off: of each part a front was done.
pub record Breaks (given : List ℕ) (old new : SendingMoment) (deed : Deed) : Type 0 where
  pub called : List Entry
  pub calls : Calls old.pass new.pass called
  pub called_part : IsPart false called deed.entries
  pub sent : List ℕ
  pub exchanged : Exchanged old.link sent given new.link
  pub sent_part : IsPart false sent (old.out ++ deed.bytes)
  pub instants : List ℕ
  pub answered : AnsweredAll instants old.clock new.clock
  pub instants_part : IsPart false instants deed.instants
  pub link : KeepsLink old.link new.link
