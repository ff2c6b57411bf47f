-- Readers, spoken of by a pass's own entries alone.
--
-- The law of readers speaks of whole histories. A caller knows its own calls and what they were answered. What follows is said
-- over these, whatever calls of other actors stand between them.
use Rattle.std.specs.Prelude.{◌≡◌, ℕ, Bool, true, false, ◌&&◌, if◌then◌else◌, List, [], ◌∷◌, ◌++◌, length, All, Option, Some, None}
use Rattle.std.specs.Option.{option_map}
use Rattle.ldm_types.specs.Info.{Metadata}
use Rattle.ldm_types.specs.Feed.{feeds_meet}
use Rattle.ldm_model.specs.declared.event.Start.{Start}
use Rattle.ldm_model.specs.declared.event.Event.TheVariants.{OpenCursor}
use Rattle.ldm_model.specs.declared.event.Reply.{Reply}
use Rattle.ldm_model.specs.declared.event.Reply.TheVariants as reply
use Rattle.ldm_model.specs.declared.event.Entry.{Entry}
use Rattle.ldm_model.specs.Product.{Product}
use Rattle.ldm_model.specs.Read.{part_of}
use Rattle.ldm_model.specs.History.{IsAdmitted}
use Rattle.ldm_model.specs.Law.{Point, Hold, place_of_event, is_close, with_given, with_count, given, lost, count_told, hold_of, IsPointOf}
use Rattle.ldm_types.specs.Cursors.{is_number}
use Rattle.ldm_shared.specs.Own.{own}
use Rattle.ldm_shared.specs.Passes.{PassView, HasSeen}

-- A point of the life of a cursor, as its owner knows it: its own entries before the opening, the opening, and its own entries since.
pub record OwnPoint : Type 0 where
  pub earlier : List Entry
  -- the feedtypes, where the cursor was asked to begin, and its place
  pub feed : ℕ
  pub start : Start
  pub k : ℕ
  pub since : List Entry

-- the entry that opened the cursor
abbrev pub opening_by : ℕ → OwnPoint → Entry
opening_by actor q = record { actor = actor; event = OpenCursor (record { 0 = q.feed }) q.start; reply = reply.Opened q.k }

-- whether an entry is about a cursor place
abbrev pub is_about : ℕ → Entry → Bool
is_about k entry = is_number k (place_of_event entry.event)

-- The own entries of a pass begin with these, and the cursor was not closed in them.
pub record IsOwnPointOf (pass : PassView) (q : OwnPoint) : Type 0 where
  pub rest : List Entry
  pub front : own pass.actor pass.seen ≡ q.earlier ++ opening_by pass.actor q ∷ (q.since ++ rest)
  pub not_closed : All (λ entry. (is_about q.k entry && is_close entry.event) ≡ false) q.since

-- a value that each reply about a place changes
abbrev pub over_own : {A : Type 0} → ℕ → (A → Reply → A) → A → List Entry → A
over_own k change x [] = x
over_own k change x (entry ∷ entries) = over_own k change (if is_about k entry then change x entry.reply else x) entries

-- the numbers of the products that it was given, in order
abbrev pub numbers_given : OwnPoint → List ℕ
numbers_given q = over_own q.k with_given [] q.since

-- how many losses it was told
abbrev pub losses_told : OwnPoint → ℕ
losses_told q = over_own q.k with_count 0 q.since

-- the number of the product that it holds: the one that it was given last, until it was released
abbrev pub with_held : Option ℕ → Reply → Option ℕ
with_held held (reply.Product n time info) = Some n
with_held held (reply.Released n) = None
with_held held _ = held

abbrev pub number_held : OwnPoint → Option ℕ
number_held q = over_own q.k with_held None q.since

-- A point of the history that the pass has seen, at which the owner has these own entries.
pub record IsSeenAt (pass : PassView) (q : OwnPoint) (p : Point) : Type 0 where
  pub is_point : IsPointOf pass.arena pass.slots pass.seen p
  pub owner : p.owner ≡ pass.actor
  pub feed : p.feed ≡ q.feed
  pub start : p.start ≡ q.start
  pub place : p.k ≡ q.k
  pub earlier : own pass.actor p.before ≡ q.earlier
  pub since : own pass.actor p.since ≡ q.since

-- the point at which a call of the owner came
pub record IsCalledAt (pass : PassView) (q : OwnPoint) (entry : Entry) (p : Point) : Type 0 where
  pub at : IsSeenAt pass q p
  pub later : List Entry
  pub next : at.is_point.rest ≡ entry ∷ later

-- What the own entries say there is what the whole history says.
pub record Agrees (q : OwnPoint) (p : Point) : Type 0 where
  pub given : given p ≡ numbers_given q
  pub told : count_told p ≡ losses_told q
  pub held : option_map (λ (hold : Hold). hold.number) (hold_of p) ≡ number_held q

-- As the call came, just so many products for the cursor had been evicted that it was not given.
pub record HasLost (pass : PassView) (q : OwnPoint) (entry : Entry) (count : ℕ) : Type 0 where
  pub point : Point
  pub called : IsCalledAt pass q entry point
  pub counted : count ≡ length (lost point)

-- A product was admitted under that number, and it is of some of these feedtypes.
pub record IsAdmittedFor (history : List Entry) (feed n : ℕ) : Type 0 where
  pub product : Product
  pub time : ℕ
  pub admitted : IsAdmitted history n product time
  pub meets : feeds_meet feed product.info.feed ≡ true

-- A product was admitted under that number, at that time, with these metadata.
pub record IsAdmittedWith (history : List Entry) (n time : ℕ) (info : Metadata) : Type 0 where
  pub product : Product
  pub admitted : IsAdmitted history n product time
  pub info_is : info ≡ product.info

-- The bytes are the part that was asked for of the body that was admitted under the number that is held.
pub record ReadsOfHeld (history : List Entry) (held : Option ℕ) (offset len : ℕ) (bytes : List ℕ) : Type 0 where
  pub number : ℕ
  pub is_held : held ≡ Some number
  pub product : Product
  pub time : ℕ
  pub admitted : IsAdmitted history number product time
  pub part : bytes ≡ part_of product offset len

-- what holds of every pass, at every point of every life of its cursors
abbrev pub AtEveryOwnPoint : (PassView → OwnPoint → Type 0) → Type 0
AtEveryOwnPoint Holds = (pass : PassView) → HasSeen pass → (q : OwnPoint) → IsOwnPointOf pass q → Holds pass q

-- what holds of every call there that the pass makes on the cursor
abbrev pub AtEveryOwnCall : (PassView → OwnPoint → Entry → Type 0) → Type 0
AtEveryOwnCall Holds = (pass : PassView) → HasSeen pass → (q : OwnPoint) (at : IsOwnPointOf pass q) (entry : Entry) (later : List Entry)
    → at.rest ≡ entry ∷ later → is_about q.k entry ≡ true → Holds pass q entry
