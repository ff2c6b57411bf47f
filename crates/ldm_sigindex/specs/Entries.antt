-- How the signatures of slots are kept: each has an entry in a table, at its home or behind it.
use Rattle.std.specs.Prelude.{◌≡◌, ◌≢◌, ◌⊎◌, ℕ, suc, ◌+◌, ◌-◌, ◌/◌, ◌<◌, ◌≤◌, ◌^◌, ◌==◌, if◌then◌else◌, bit_and}
use Rattle.std.specs.Prelude.{List, [], ◌∷◌, length, map, get_or, slice_get, Option, Some, None}
use Rattle.std.specs.Hash.{u64}
use Rattle.std.specs.Hash.DefaultHasher.{initial, write, finish}
use Rattle.std.specs.List.{fold}
use Rattle.ldm_types.specs.declared.signature.Signature.{Signature}
use Rattle.ldm_sigindex.specs.declared.entries.Entry.{Entry}
use Rattle.ldm_sigindex.specs.declared.entries.TheConstants.{END}
use Rattle.ldm_sigindex.specs.Index.{Table, IsOneToOne}

-- the bytes of a slot's signature, if it has one
abbrev pub bytes_of : Option Signature → Option (List ℕ)
bytes_of None = None
bytes_of (Some signature) = Some signature.0

abbrev pub table_of : List (Option Signature) → Table
table_of slots = map bytes_of slots

abbrev pub free : Entry
free = record { mark = 0; slot = END }

-- the entry of a place. Past the end of the table each place is free.
abbrev pub entry_at : List Entry → ℕ → Entry
entry_at entries place = get_or entries place free

abbrev pub slot_at : List Entry → ℕ → ℕ
slot_at entries place = (entry_at entries place).slot

-- the first free place of the table
abbrev pub free_of : List Entry → ℕ
free_of [] = 0
free_of (entry ∷ entries) = if entry.slot == END then 0 else suc (free_of entries)

-- what an entry keeps of the hash of the key and then its signature
abbrev pub mark_of : ℕ → List ℕ → ℕ
mark_of key signature = finish (write (fold write initial (u64 key)) signature) / 2 ^ 32

-- where the search for a mark begins, of so many places
abbrev pub home_of : ℕ → ℕ → ℕ
home_of places mark = bit_and mark (places - 1)

-- where the search for the entry of a place begins
abbrev pub home_at : List Entry → ℕ → ℕ
home_at entries place = home_of (length entries) (entry_at entries place).mark

-- the place behind a place, going round
abbrev pub after_of : ℕ → ℕ → ℕ
after_of places place = if place + 1 == places then 0 else place + 1

-- going round from a home, a place comes before another
abbrev pub IsOnWay : ℕ → ℕ → ℕ → Type 0
IsOnWay home place at =
    ((home ≤ place) × (place < at)) ⊎ (((at < home) × (home ≤ place)) ⊎ ((place < at) × (at < home)))

-- from a home on, a place is the first that is free
pub record IsFirstFree (entries : List Entry) (home place : ℕ) : Type 0 where
  pub inside : place < length entries
  pub is_free : slot_at entries place ≡ END
  pub taken : (before : ℕ) → before < length entries → IsOnWay home before place → slot_at entries before ≢ END

-- an entry is that of a slot with this signature
pub record IsEntry (key : ℕ) (entry : Entry) (table : Table) (signature : List ℕ) : Type 0 where
  pub held : slice_get table entry.slot ≡ Some (Some signature)
  pub mark : entry.mark ≡ mark_of key signature

-- an entry is that of a slot with a signature
pub record HasSignature (key : ℕ) (entry : Entry) (table : Table) : Type 0 where
  pub signature : List ℕ
  pub told : IsEntry key entry table signature

-- a slot has an entry
pub record HasPlace (entries : List Entry) (slot : ℕ) : Type 0 where
  pub place : ℕ
  pub at : slot_at entries place ≡ slot

-- Each entry tells of a slot with a signature, each such slot has one entry, and no place is free from the home of an
-- entry to its place. No signature is there twice. There are more places than slots, and no slot has the number `END`.
pub record IsKept (key : ℕ) (entries : List Entry) (table : Table) : Type 0 where
  pub told : (place : ℕ) → slot_at entries place ≢ END → HasSignature key (entry_at entries place) table
  pub listed : (slot : ℕ) (signature : List ℕ) → slice_get table slot ≡ Some (Some signature) → HasPlace entries slot
  pub once : (place other : ℕ) → slot_at entries place ≢ END → slot_at entries other ≡ slot_at entries place →
      other ≡ place
  pub reached : (place before : ℕ) → slot_at entries place ≢ END → before < length entries →
      IsOnWay (home_at entries place) before place → slot_at entries before ≢ END
  pub one_to_one : IsOneToOne table
  pub within : length table < 2 ^ 32
  pub roomy : length table < length entries
