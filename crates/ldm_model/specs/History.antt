-- Histories: what was called and answered, one entry after another.
use Rattle.std.specs.Prelude.{◌≡◌, ◌⊎◌, ℕ, ◌<◌, ◌≤◌, ◌^◌, Bool, true, false, List, [], ◌∷◌, ◌++◌, length, filter, All}
use Rattle.ldm_types.specs.declared.limits.TheConstants.{GREATEST_INSTANT}
use Rattle.ldm_types.specs.Info.{AreBytes, IsSignature, IsFeed, IsMetadata}
use Rattle.ldm_model.specs.declared.event.Start.{Start}
use Rattle.ldm_model.specs.declared.event.Start.TheVariants.{Oldest, Next, After, AfterSignature}
use Rattle.ldm_model.specs.declared.event.Event.{Event}
use Rattle.ldm_model.specs.declared.event.Event.TheVariants.{Insert, OpenCursor, Step, Read, Release, Close, Look, Expire, Tally, Stat, Reserve, Fill, Commit, Discard}
use Rattle.ldm_model.specs.declared.event.Entry.{Entry}
use Rattle.ldm_model.specs.declared.event.Reply.{Reply}
use Rattle.ldm_model.specs.declared.event.Reply.TheVariants.{Admitted, Reserved, Committed}
use Rattle.ldm_model.specs.Product.{Product}
use Rattle.ldm_model.specs.State.{State, empty}
use Rattle.ldm_model.specs.Outcome.{Outcome}
use Rattle.ldm_model.specs.Next.{Call, next}
use Rattle.ldm_model.specs.Filled.{bytes_filled, ends}

-- a place where a cursor can be asked to begin
abbrev pub IsStart : Start → Type 0
IsStart Oldest = Unit {0}
IsStart Next = Unit {0}
IsStart (After time) = time ≤ GREATEST_INSTANT
IsStart (AfterSignature signature) = IsSignature signature.0

-- one of the 64 cursor places, or of the 64 reservation places
abbrev pub IsPlace : ℕ → Type 0
IsPlace k = k < 64

-- an event that a call can be given
abbrev pub IsPossible : Event → Type 0
IsPossible (Insert now info body) =
    (now ≤ GREATEST_INSTANT) × IsMetadata info × AreBytes body × (length body ≡ info.size)
IsPossible (OpenCursor feed start) = IsFeed feed.0 × IsStart start
IsPossible (Step k) = IsPlace k
IsPossible (Read k offset len) = IsPlace k × (offset < 2 ^ 32) × (len < 2 ^ 32)
IsPossible (Release k) = IsPlace k
IsPossible (Close k) = IsPlace k
IsPossible (Look signature) = IsSignature signature.0
IsPossible Expire = Unit {0}
IsPossible (Tally k) = IsPlace k
IsPossible Stat = Unit {0}
IsPossible (Reserve info) = IsMetadata info
IsPossible (Fill r bytes) = IsPlace r × AreBytes bytes
IsPossible (Commit r now) = IsPlace r × (now ≤ GREATEST_INSTANT)
IsPossible (Discard r) = IsPlace r

-- what the queue does at the call of an entry
abbrev pub next_entry : State → Entry → Outcome
next_entry s entry = next s entry.actor entry.event

-- the state that the entries of a history lead to
abbrev pub after_entries : State → List Entry → State
after_entries s [] = s
after_entries s (entry ∷ entries) = after_entries (next_entry s entry).state entries

-- the state after a history of a queue of that arena and so many slots
abbrev pub after : ℕ → ℕ → List Entry → State
after arena slots history = after_entries (empty arena slots) history

-- an entry is a call that can be made, and has the reply of the queue
pub record IsAnswered (s : State) (entry : Entry) : Type 0 where
  pub actor : entry.actor < 64
  pub possible : IsPossible entry.event
  pub reply : entry.reply ≡ (next_entry s entry).reply

-- from a state on, each entry is a call that can be made, and has the reply of the queue
abbrev pub IsLegalFrom : State → List Entry → Type 0
IsLegalFrom s [] = Unit {0}
IsLegalFrom s (entry ∷ entries) = IsAnswered s entry × IsLegalFrom (next_entry s entry).state entries

-- a legal history
abbrev pub IsLegal : ℕ → ℕ → List Entry → Type 0
IsLegal arena slots history = IsLegalFrom (empty arena slots) history

-- calls with the replies of the queue, as entries
abbrev pub entries_of : State → List Call → List Entry
entries_of s [] = []
entries_of s (call ∷ calls) =
    record { actor = call.actor; event = call.event; reply = (next s call.actor call.event).reply }
    ∷ entries_of (next s call.actor call.event).state calls

-- An entry of a history inserted a product, as that number and at that time.
pub record IsInserted (history : List Entry) (n : ℕ) (product : Product) (time : ℕ) : Type 0 where
  pub front : List Entry
  pub actor : ℕ
  pub now : ℕ
  pub evicted : ℕ
  pub behind : List Entry
  pub is_entry : history ≡ front ++ record { actor = actor; event = Insert now product.info product.body; reply = Admitted n time evicted } ∷ behind

-- An actor reserved a region for a product's metadata, filled its body in, and committed it as that number and at that time.
pub record IsCommitted (history : List Entry) (n : ℕ) (product : Product) (time : ℕ) : Type 0 where
  pub front : List Entry
  pub actor : ℕ
  pub r : ℕ
  pub evicted : ℕ
  pub between : List Entry
  pub now : ℕ
  pub behind : List Entry
  pub is_entries : history ≡ front ++ record { actor = actor; event = Reserve product.info; reply = Reserved r evicted }
      ∷ (between ++ record { actor = actor; event = Commit r now; reply = Committed n time } ∷ behind)
  -- the reservation is the one that was made then
  pub not_ended : All (λ entry. ends actor r entry ≡ false) between
  pub body : product.body ≡ bytes_filled actor r between

-- A history admitted a product, as that number and at that time: it was inserted or committed.
abbrev pub IsAdmitted : List Entry → ℕ → Product → ℕ → Type 0
IsAdmitted history n product time = IsInserted history n product time ⊎ IsCommitted history n product time

abbrev pub is_admission : Reply → Bool
is_admission (Admitted n time evicted) = true
is_admission (Committed n time) = true
is_admission _ = false

-- how many products a history admitted
abbrev pub count_admissions : List Entry → ℕ
count_admissions history = length (filter (λ (entry : Entry). is_admission entry.reply) history)
