-- Sessions of one receiver with one queue: each asks for a class behind the last product that was taken before.
use Rattle.std.specs.Prelude.{◌≡◌, ℕ, ◌<◌, true, false, List, [], ◌∷◌, length, Option, Some, None}
use mathlib.Core.List.{IsPrefix}
use Rattle.ldm_types.specs.declared.class.ClassSpec.{ClassSpec}
use Rattle.ldm_types.specs.declared.limits.TheConstants.{MOST_SPECS}
use Rattle.ldm_model.specs.Law.{state_before}
use Rattle.ldm_model.specs.State.{is_queued}
use Rattle.ldm_class.specs.Classes.{resumed}
use Rattle.ldm_class.specs.Asking.{asked_class}
use Rattle.ldm_sender.specs.Opening.{Opened}
use Rattle.ldm_between_ends.specs.Session.{Session, IsSession}
use Rattle.ldm_between_ends.specs.Offered.{offered}
use Rattle.ldm_between_ends.specs.Resumed.{last_number}

-- There is room in the class for a specification that names a product to go on behind, and it has none that does.
pub record CanName (class : ClassSpec) : Type 0 where
  pub room : length class.specs.items < MOST_SPECS
  pub names_none : resumed class.specs.items ≡ None

-- The feeder of the next session has seen more of the queue, and the receiver asks behind the last product that it has taken.
pub record Follows (class : ClassSpec) (s t : Session) : Type 0 where
  pub same_arena : s.pass.arena ≡ t.pass.arena
  pub same_slots : s.pass.slots ≡ t.pass.slots
  pub goes_on : IsPrefix s.pass.seen t.pass.seen
  pub last : t.passing.begins.last ≡ s.passing.came_to.receiving.last
  pub asks : t.passing.asked.class ≡ asked_class class t.passing.begins.last

abbrev pub IsFollowed : ClassSpec → Session → List Session → Type 0
IsFollowed class s [] = Unit {0}
IsFollowed class s (t ∷ later) = Follows class s t

-- sessions, each of which follows the one before
abbrev pub FollowInTurn : ClassSpec → List Session → Type 0
FollowInTurn class [] = Unit {0}
FollowInTurn class (s ∷ later) = IsSession s × IsFollowed class s later × FollowInTurn class later

-- The product of that number, where there is one, was still queued as the cursor was opened, and the cursor was opened behind it.
abbrev pub Finds : Option ℕ → Session → Type 0
Finds None s = Unit {0}
Finds (Some n) s = (s.passing.feeding.answered ≡ Opened false s.life.k) × (is_queued (state_before s.life) n ≡ true)

-- Each session finds the product that was offered last in those before it; the first of them finds this one.
abbrev pub AllFind : Option ℕ → List Session → Type 0
AllFind last [] = Unit {0}
AllFind last (s ∷ later) = Finds last s × AllFind (last_number last (offered s)) later
