-- What it comes to that the cursor is given a product: a notice of it is gathered where it is due, and it is let go.
use Rattle.std.specs.Prelude.{◌≡◌, ℕ, [], true, None, Result, Ok, Err}
use Rattle.ldm_types.specs.declared.memory.OutOfMemory.{OutOfMemory}
use Rattle.ldm_shared.specs.declared.reader.Held.{Held}
use Rattle.ldm_shared.specs.Reader.{HasCursor}
use Rattle.ldm_sender.specs.declared.end.SendEnd.{SendEnd}
use Rattle.ldm_sender.specs.declared.standing.Standing.{Standing}
use Rattle.ldm_sender.specs.Asked.{Asked}
use Rattle.ldm_sender.specs.Due.{is_due}
use Rattle.ldm_sender.specs.Deeds.{Deed}
use Rattle.ldm_sender.specs.Does.{SendingMoment, Does, Breaks}
use Rattle.ldm_sender.specs.Stopping.{KeepsCursor, StopsSending}
use Rattle.ldm_sender.specs.Handling as sender
use Rattle.ldm_notify.specs.Turn.{Row, Handling, Told, IsHandled, after_handling, notice_kind}

-- what the cursor was given
abbrev pub row_of : Held → Row
row_of held = record { n = held.n; time = held.time; info = held.info }

-- a notice, or none
abbrev pub notice_deed : ℕ → Row → Handling → Deed
notice_deed next row handling = sender.handling_deed notice_kind 0 0 next row handling

-- A notice was gathered where it is due.
pub record HasTold (asked : Asked) (row : Row) (standing standing' : Standing) (old new : SendingMoment) : Type 0 where
  pub handling : Handling
  pub is_handled : IsHandled asked row handling
  pub does : Does [] old new (notice_deed standing.next row handling)
  pub stands : standing' ≡ after_handling standing handling

-- There was no memory for it.
pub record LacksRoom (asked : Asked) (row : Row) (standing : Standing) (old new : SendingMoment) : Type 0 where
  pub due : is_due asked row.time row.info ≡ true
  pub breaks : Breaks [] old new (notice_deed standing.next row (Told 0))

abbrev pub Tells : Result (Unit {0}) OutOfMemory → Asked → Row → (standing standing' : Standing) → (old new : SendingMoment)
    → Type 0
Tells (Ok done) asked row standing standing' old new = HasTold asked row standing standing' old new
Tells (Err short) asked row standing standing' old new = LacksRoom asked row standing old new

-- ---- and its release

abbrev pub product_deed : ℕ → ℕ → ℕ → Row → Handling → Deed
product_deed actor k next row handling = sender.product_deed notice_kind actor k next row handling

-- It was handled, and let go.
pub record Handled (asked : Asked) (k : ℕ) (row : Row) (standing standing' : Standing) (old new : SendingMoment) : Type 0 where
  pub handling : Handling
  pub is_handled : IsHandled asked row handling
  pub does : Does [] old new (product_deed old.pass.actor k standing.next row handling)
  pub stands : standing' ≡ after_handling standing handling
  pub cursor : HasCursor new.pass k None

-- It broke off in that.
pub record EndsHandling (why : SendEnd) (asked : Asked) (k : ℕ) (row : Row) (standing : Standing)
    (old new : SendingMoment) : Type 0 where
  pub handling : Handling
  pub is_handled : IsHandled asked row handling
  pub breaks : Breaks [] old new (product_deed old.pass.actor k standing.next row handling)
  pub cause : StopsSending why old new
  pub cursor : KeepsCursor why new.pass k

abbrev pub Handles : Result (Unit {0}) SendEnd → Asked → ℕ → Row → (standing standing' : Standing) → (old new : SendingMoment)
    → Type 0
Handles (Ok done) asked k row standing standing' old new = Handled asked k row standing standing' old new
Handles (Err why) asked k row standing standing' old new = EndsHandling why asked k row standing old new
