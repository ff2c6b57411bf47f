-- What becomes of a product that is held: it is read, let go, and written.
use Rattle.std.specs.Prelude.{◌≡◌, ℕ, ◌+◌, ◌-◌, ◌^◌, ◌<◌, ◌≤◌, List, [], ◌∷◌, Option, Some, None, Result, Ok, Err}
use Rattle.ldm_model.specs.declared.event.Event.TheVariants as event
use Rattle.ldm_model.specs.declared.event.Reply.TheVariants as reply
use Rattle.ldm_shared.specs.Passes.{PassView, FindsWorn, Grows}
use Rattle.ldm_shared.specs.declared.reader.Held.{Held}
use Rattle.ldm_shared.specs.Reader.{Holds}
use Rattle.ldm_journal.specs.Records.{Kept}
use Rattle.ldm_recorder.specs.declared.end.RecordEnd.{RecordEnd}
use Rattle.ldm_recorder.specs.declared.end.RecordEnd.TheVariants as end
use Rattle.ldm_recorder.specs.declared.recorder.Recorder.{Recorder}
use Rattle.ldm_recorder.specs.Turns.{Turn, Who, Work, call_of, keep_events, large_line, work_then}
use Rattle.ldm_recorder.specs.Recording.{CauseOf, DoesAll, DoesPart, Sight}

-- the number that a product has in the journal
abbrev pub Numbers : Option ℕ → ℕ → ℕ → Type 0
Numbers (Some number) base n = (number ≡ base + n) × (number < 2 ^ 64 - 1)
Numbers None base n = 2 ^ 64 - 1 ≤ base + n

-- a product that is held, as the journal keeps it
abbrev pub kept_as : ℕ → Held → List ℕ → Kept
kept_as number held body = record { number = number; time = held.time; info = held.info; body = body }

-- the same recorder, but for the bytes in its buffer
pub record IsSameButBuffer (old new : Recorder) : Type 0 where
  pub journal : new.journal ≡ old.journal
  pub reader : new.reader ≡ old.reader
  pub base : new.base ≡ old.base
  pub lines : new.lines.items ≡ old.lines.items
  pub lasts : new.lasts ≡ old.lasts

-- the same but for the journal's marks, and for what is known of the lines, too
pub record IsSameRecorder (old new : Recorder) : Type 0 where
  pub reader : new.reader ≡ old.reader
  pub base : new.base ≡ old.base
  pub lines : new.lines.items ≡ old.lines.items
  pub ring : new.journal.marks.ring ≡ old.journal.marks.ring

-- Reading a body: by which cursor, what stands in the buffer then, and the pass before and after.
pub record BodyRead : Type 0 where
  pub k : ℕ
  pub buffer : List ℕ
  pub old : PassView
  pub new : PassView

-- What came of it.
abbrev pub ReadsBody : Result (Unit {0}) RecordEnd → Held → List ℕ → BodyRead → Type 0
ReadsBody (Ok done) held body it =
    (it.buffer ≡ body) × Grows it.old it.new (event.Read it.k 0 held.info.size) (reply.Bytes body) × Holds it.new it.k held body
ReadsBody (Err end.OutOfMemory) held body it = it.new ≡ it.old
ReadsBody (Err end.Worn) held body it = (turns : ℕ) × FindsWorn it.old it.new turns
ReadsBody (Err _) held body it = ⊥

-- A product was written into the journal; where its record is larger than the ring the log says so.
abbrev pub writing : Who → ℕ → Kept → Work
writing who n product = record { entries = []; events = keep_events who.ring product; lines = large_line who.ring n product }

-- it was let go
abbrev pub releasing : Who → ℕ → Work
releasing who n = record { entries = call_of who (event.Release who.k) (reply.Released n) ∷ []; events = λ start. []; lines = [] }

-- it was read
abbrev pub reading : Who → Kept → Work
reading who product = record {
  entries = call_of who (event.Read who.k 0 product.info.size) (reply.Bytes product.body) ∷ [];
  events = λ start. [];
  lines = [];
}

-- all of it
abbrev pub taking : Who → ℕ → Kept → Work
taking who n product = work_then (reading who product) (work_then (releasing who n) (writing who n product))

-- All of some work was done, or it broke off.
abbrev pub WorksBy : Result (Unit {0}) RecordEnd → Work → List Turn → Sight → Sight → Type 0
WorksBy (Ok done) work turns old new = DoesAll work old new
WorksBy (Err why) work turns old new = DoesPart work old new × CauseOf why turns old new
