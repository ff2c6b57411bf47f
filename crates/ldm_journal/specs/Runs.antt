-- Runs of an open journal, and what may be opened after a crash.
use Rattle.std.specs.Prelude.{◌≡◌, ℕ, ◌+◌, ◌≤◌, List, [], ◌∷◌, ◌++◌, length}
use Rattle.std.specs.List.{between}
use Rattle.ldm_journal.specs.Records.{Kept, fitting}

-- a call on a journal that ended well
pub data Event : Type 0 where
  -- a product was appended
  Append : (k : Kept) → Event
  -- it was committed with a note, and the records were to have at most so many bytes
  Commit : (most : ℕ) (note : List ℕ) → Event

-- what an open journal stands for: what is committed, what was appended since, and the note that is committed
pub record Content : Type 0 where
  pub kept : List Kept
  pub appended : List Kept
  pub note : List ℕ

-- just after it was opened
abbrev pub opened : List Kept → List ℕ → Content
opened kept note = record { kept = kept; appended = []; note = note }

abbrev pub after_event : Content → Event → Content
after_event content (Append k) = record { kept = content.kept; appended = content.appended ++ k ∷ []; note = content.note }
after_event content (Commit most note) =
    record { kept = fitting most (content.kept ++ content.appended); appended = []; note = note }

abbrev pub after_events : Content → List Event → Content
after_events content [] = content
after_events content (event ∷ events) = after_events (after_event content event) events

-- all products that were appended, in order
abbrev pub appended_in : List Event → List Kept
appended_in [] = []
appended_in (Append k ∷ events) = k ∷ appended_in events
appended_in (Commit most note ∷ events) = appended_in events

-- how many products there were when the last commit ended, of `count` before these events
abbrev pub committed_in : ℕ → ℕ → List Event → ℕ
committed_in committed count [] = committed
committed_in committed count (Append k ∷ events) = committed_in committed (count + 1) events
committed_in committed count (Commit most note ∷ events) = committed_in count count events

-- the note of the last commit, or the one that there was before these events
abbrev pub noted_in : List ℕ → List Event → List ℕ
noted_in note [] = note
noted_in note (Append k ∷ events) = noted_in note events
noted_in note (Commit most new ∷ events) = noted_in new events

-- What may be opened after a crash: what is committed, with its note.
abbrev pub MayOpen : Content → List Kept → List ℕ → Type 0
MayOpen content left note = (left ≡ content.kept) × (note ≡ content.note)

-- a part of all products, in order, that ends behind so many or later
pub record IsPart (least : ℕ) (all left : List Kept) : Type 0 where
  pub first : ℕ
  pub end : ℕ
  pub ordered : first ≤ end
  pub within : end ≤ length all
  pub enough : least ≤ end
  pub is : left ≡ between first end all
