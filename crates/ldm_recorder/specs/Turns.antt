-- What a recorder is given and does, turn by turn, as plain data.
use Rattle.std.specs.Prelude.{◌≡◌, ℕ, ◌+◌, ◌-◌, List, [], ◌∷◌, ◌++◌, codes, nat_le, Option, Some, None, if◌then◌else◌}
use Rattle.ldm_model.specs.declared.event.Event.{Event}
use Rattle.ldm_model.specs.declared.event.Event.TheVariants as event
use Rattle.ldm_model.specs.declared.event.Reply.{Reply}
use Rattle.ldm_model.specs.declared.event.Reply.TheVariants as reply
use Rattle.ldm_model.specs.declared.event.Entry.{Entry}
use Rattle.ldm_session.specs.Gaps.{gap_line}
use Rattle.ldm_journal.specs.Records.{Kept, size_of}
use Rattle.ldm_journal.specs.Appending.{record_len}
use Rattle.ldm_journal.specs.Runs as journal
use Rattle.ldm_journal.specs.Runs.{Append, Commit, Content}
use Rattle.ldm_journal.specs.Joining.{then_events}
use Rattle.ldm_recorder.specs.declared.line.Line.{Line}
use Rattle.ldm_recorder.specs.Lines.{AreLasts, note_of, with_lasts}

pub data Turn : Type 0 where
  -- losses were told
  Lost : (count first last : ℕ) → Turn
  -- a product was given, which the queue has under that number
  Given : (n : ℕ) (product : Kept) → Turn
  -- the queue had no more, and had admitted so many: what was given is committed, with these numbers of the lines, or
  -- with the note that there was
  CaughtUp : (at : ℕ) (lasts : Option (List ℕ)) → Turn
  -- the last commit was long ago: what was given is committed, with the note that there was
  Saved : Turn

-- Whose pass and cursor it is, what it adds to a number of the queue, the bytes of the ring, and the REQUEST lines as it
-- began with them.
pub record Who : Type 0 where
  pub actor : ℕ
  pub k : ℕ
  pub base : ℕ
  pub ring : ℕ
  pub lines : List Line

-- ---- the calls on the queue

abbrev pub call_of : Who → Event → Reply → Entry
call_of who asked answer = record { actor = who.actor; event = asked; reply = answer }

abbrev pub turn_entries : Who → Turn → List Entry
turn_entries who (Lost count first last) = call_of who (event.Step who.k) (reply.Gap count first last) ∷ []
turn_entries who (Given n product) =
    call_of who (event.Step who.k) (reply.Product n product.time product.info)
    ∷ call_of who (event.Read who.k 0 product.info.size) (reply.Bytes product.body)
    ∷ call_of who (event.Release who.k) (reply.Released n)
    ∷ []
turn_entries who (CaughtUp at lasts) = call_of who (event.Step who.k) (reply.End at) ∷ []
turn_entries who Saved = []

-- ---- the log

-- a line for a product whose record is larger than the ring
abbrev pub large_line : ℕ → ℕ → Kept → List ℕ
large_line ring n product = if nat_le (record_len product) ring then [] else gap_line (codes "ring") 1 n n

-- and one for each loss
abbrev pub turn_lines : ℕ → Turn → List ℕ
turn_lines ring (Lost count first last) = gap_line (codes "journal") count first last
turn_lines ring (Given n product) = large_line ring n product
turn_lines ring (CaughtUp at lasts) = []
turn_lines ring Saved = []

-- ---- the journal

-- A product that the ring has room for goes behind the others. Where it has no room now, the fewest go from the front
-- that have to, with a commit. One that is larger than the ring is not kept.
abbrev pub room_events : ℕ → Kept → Content → List journal.Event
room_events ring product start =
    if nat_le (size_of (start.kept ++ start.appended) + record_len product) ring then Append product ∷ []
    else Commit (ring - record_len product) start.note ∷ Append product ∷ []

abbrev pub keep_events : ℕ → Kept → Content → List journal.Event
keep_events ring product start = if nat_le (record_len product) ring then room_events ring product start else []

-- the note of lines with these numbers, or the one that there was
abbrev pub note_then : List Line → Option (List ℕ) → List ℕ → List ℕ
note_then lines (Some lasts) note = note_of (with_lasts lines lasts)
note_then lines None note = note

abbrev pub turn_events : ℕ → List Line → Turn → Content → List journal.Event
turn_events ring lines (Lost count first last) start = []
turn_events ring lines (Given n product) start = keep_events ring product start
turn_events ring lines (CaughtUp at lasts) start = Commit ring (note_then lines lasts start.note) ∷ []
turn_events ring lines Saved start = Commit ring start.note ∷ []

-- ---- all of it

-- calls on the queue, the events of a journal by what it stands for, and log lines
pub record Work : Type 0 where
  pub entries : List Entry
  pub events : Content → List journal.Event
  pub lines : List ℕ

abbrev pub no_work : Work
no_work = record { entries = []; events = λ start. []; lines = [] }

abbrev pub work_then : Work → Work → Work
work_then first more = record {
  entries = first.entries ++ more.entries;
  events = then_events first.events more.events;
  lines = first.lines ++ more.lines;
}

abbrev pub turn_work : Who → Turn → Work
turn_work who turn = record {
  entries = turn_entries who turn;
  events = turn_events who.ring who.lines turn;
  lines = turn_lines who.ring turn;
}

abbrev pub work_of : Who → List Turn → Work
work_of who [] = no_work
work_of who (turn ∷ turns) = work_then (turn_work who turn) (work_of who turns)

-- ---- the numbers

-- a product has the queue's number and a base
abbrev pub IsNumbered : ℕ → Turn → Type 0
IsNumbered base (Given n product) = product.number ≡ base + n
IsNumbered base _ = Unit {0}

abbrev pub AreNumbered : ℕ → List Turn → Type 0
AreNumbered base [] = Unit {0}
AreNumbered base (turn ∷ turns) = IsNumbered base turn × AreNumbered base turns

-- ---- the lines

-- What is committed of a line is of a product that its own actor put in, or found queued, and of one that was given or
-- lost before: it is below what the queue had admitted then.
abbrev pub IsTold : List Entry → Who → Turn → Type 0
IsTold seen who (CaughtUp at (Some lasts)) = AreLasts who.base at seen who.lines lasts
IsTold seen who (CaughtUp at None) = Unit {0}
IsTold seen who (Lost count first last) = Unit {0}
IsTold seen who (Given n product) = Unit {0}
IsTold seen who Saved = Unit {0}

abbrev pub AreTold : List Entry → Who → List Turn → Type 0
AreTold seen who [] = Unit {0}
AreTold seen who (turn ∷ turns) = IsTold seen who turn × AreTold seen who turns
