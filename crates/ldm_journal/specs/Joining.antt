-- Calls of an open journal, one after another, as the events of `Runs.antt`.
use Rattle.std.specs.Prelude.{◌≡◌, ℕ, List, ◌++◌, length}
use Rattle.ldm_disk.specs.Told.{FileRecord}
use Rattle.ldm_disk.specs.Moments.{LeavesOnly}
use Rattle.ldm_journal.specs.declared.marks.Marks.{Marks}
use Rattle.ldm_journal.specs.Records.{Kept}
use Rattle.ldm_journal.specs.Format.{Holds}
use Rattle.ldm_journal.specs.Standing.{Stands}
use Rattle.ldm_journal.specs.Runs.{Event, Content, IsPart, MayOpen, after_events, appended_in, committed_in, noted_in}

-- A crash at a moment of such events left this file: it keeps what was committed behind some of them. At a moment of a
-- commit these are the events before it, or they have the commit too.
pub record IsLeftAmid (ring : ℕ) (start : Content) (events : List Event) (file : List ℕ) : Type 0 where
  -- the events that the file knows of, and the others
  pub done : List Event
  pub rest : List Event
  pub are : done ++ rest ≡ events
  pub left : List Kept
  pub note : List ℕ
  pub holds : Holds ring left note file
  pub may_open : MayOpen (after_events start done) left note

-- Calls that ended well made just the events that follow from what the journal stood for.
abbrev pub MakesEvents : (Content → List Event) → Marks → Marks → FileRecord → FileRecord → Type 0
MakesEvents events before after old new =
    (start : Content) → Stands before start.kept start.appended old → start.note ≡ before.note →
    let end = after_events start (events start) in
    Stands after end.kept end.appended new × (after.note ≡ end.note) × LeavesOnly (IsLeftAmid before.ring start (events start)) old new

-- Of such events some were made, or all, and a call may have failed: what a crash leaves at any moment of it.
abbrev pub BreaksOffAmid : (Content → List Event) → Marks → FileRecord → FileRecord → Type 0
BreaksOffAmid events before old new =
    (start : Content) → Stands before start.kept start.appended old → start.note ≡ before.note →
    LeavesOnly (IsLeftAmid before.ring start (events start)) old new

-- events, and then those that follow from what the journal stands for then
abbrev pub then_events : (Content → List Event) → (Content → List Event) → Content → List Event
then_events first more start = first start ++ more (after_events start (first start))

-- A crash left a part of what was there and was appended, in order: nothing is lost but from the front, and what came
-- behind the last commit that the file knows of. The note is that of this commit.
pub record IsPartAmid (ring : ℕ) (first : List Kept) (begun : List ℕ) (events : List Event) (file : List ℕ) : Type 0 where
  pub done : List Event
  pub rest : List Event
  pub are : done ++ rest ≡ events
  pub left : List Kept
  pub note : List ℕ
  pub holds : Holds ring left note file
  pub noted : note ≡ noted_in begun done
  pub part : IsPart (committed_in (length first) (length first) done) (first ++ appended_in done) left
