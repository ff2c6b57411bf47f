-- Which numbers a reader may still be given.
use Rattle.std.specs.Prelude.{◌≡◌, ℕ, ◌+◌, ◌≤◌, ◌&&◌, false, List, [], ◌∷◌, ◌++◌, All, None}
use Rattle.std.specs.List.Sorted.{IsStrictlyIncreasing}
use Rattle.ldm_model.specs.declared.event.Entry.{Entry}
use Rattle.ldm_model.specs.Law.{is_close}
use Rattle.ldm_shared.specs.Own.{own}
use Rattle.ldm_shared.specs.Passes.{PassView}
use Rattle.ldm_shared.specs.OwnReaders.{OwnPoint, is_about, numbers_given, opening_by}
use Rattle.ldm_shared.specs.Reader.{HasCursor}
use Rattle.ldm_recorder.specs.declared.recorder.Recorder.{Recorder}
use Rattle.ldm_recorder.specs.Lines.{AreLasts}

-- Of a cursor of the pass: numbers that rise behind those that it was given are not below a least one.
pub record IsAhead (pass : PassView) (k least : ℕ) : Type 0 where
  pub point : OwnPoint
  pub place : point.k ≡ k
  pub own_are : own pass.actor pass.seen ≡ point.earlier ++ opening_by pass.actor point ∷ point.since
  pub not_closed : All (λ (entry : Entry). (is_about point.k entry && is_close entry.event) ≡ false) point.since
  pub ahead : (n : ℕ) → IsStrictlyIncreasing (numbers_given point ++ n ∷ []) → least ≤ n

-- What a recorder knows of its lines is by what a pass has seen.
pub record KnowsLasts (seen : List Entry) (recorder : Recorder) : Type 0 where
  pub at : ℕ
  pub lasts : AreLasts recorder.base at seen recorder.lines.items recorder.lasts

-- A recorder has its cursor, which holds nothing, and the journal takes each number that it may still be given.
pub record IsReady (pass : PassView) (recorder : Recorder) : Type 0 where
  pub cursor : HasCursor pass recorder.reader.k None
  pub least : ℕ
  pub ahead : IsAhead pass recorder.reader.k least
  pub numbers : recorder.journal.marks.next ≤ recorder.base + least
  pub knows : KnowsLasts pass.seen recorder

-- the journal takes each number of the queue from one on
abbrev pub IsBehind : Recorder → ℕ → Type 0
IsBehind recorder at = recorder.journal.marks.next ≤ recorder.base + at
