-- Sessions one after another, each of which goes on where those before it were cut.
use Rattle.std.specs.Prelude.{ℕ, List, [], ◌∷◌, Option, Some, None}
use Rattle.std.specs.List.{flat_map}
use Rattle.ldm_between_ends.specs.Session.{Session, IsSession}
use Rattle.ldm_between_ends.specs.Offered.{offered}
use Rattle.ldm_between_ends.specs.Behind.{IsBehind}

-- the last of these numbers, or the one before them
abbrev pub last_number : Option ℕ → List ℕ → Option ℕ
last_number before [] = before
last_number before (n ∷ ns) = last_number (Some n) ns

-- it goes on behind that product, where there is one
abbrev pub GoesOnBehind : Option ℕ → Session → Type 0
GoesOnBehind None s = Unit {0}
GoesOnBehind (Some n) s = IsBehind s n

-- Each session goes on behind the product that was offered last in those before it, where there is one; the first of them behind this
-- one.
abbrev pub AreResumed : Option ℕ → List Session → Type 0
AreResumed last [] = Unit {0}
AreResumed last (s ∷ later) = IsSession s × GoesOnBehind last s × AreResumed (last_number last (offered s)) later

-- all that was offered, session after session
abbrev pub all_offered : List Session → List ℕ
all_offered sessions = flat_map offered sessions
