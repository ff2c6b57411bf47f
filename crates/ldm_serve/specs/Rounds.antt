-- What serving a connection keeps between two records, and between two pieces.
use Rattle.std.specs.Prelude.{◌≡◌, ℕ, ◌+◌, ◌<◌, ◌≤◌, true, false, if◌then◌else◌, List, [], length, drop, Option, Some, None, Result, Ok, Err}
use Rattle.ldm_outside.specs.declared.io.Got.{Got}
use Rattle.ldm_outside.specs.declared.io.Got.TheVariants as got
use Rattle.ldm_outside.specs.Session.{KeepsFaults}
use Rattle.ldm_rpc.specs.Reading.{is_faulty, is_pending}
use Rattle.ldm_rpc.specs.Streams.{Position, in_hand}
use Rattle.ldm_session.specs.declared.limits.TheConstants.{LONGEST_STREAM}
use Rattle.ldm_serve.specs.declared.end.ServeEnd.{ServeEnd}
use Rattle.ldm_serve.specs.declared.end.ServeEnd.TheVariants as end
use Rattle.ldm_serve.specs.Client.{Client}
use Rattle.ldm_serve.specs.Outlived.{Outlived}
use Rattle.ldm_serve.specs.Connection.{Answers, ServingMoment, Reaches}
use Rattle.ldm_serve.specs.Serve.{ServesAll}
use Rattle.ldm_serve.specs.ServingView.{beginning}

-- the session outlived each of the records that were answered
abbrev pub outliving : List Outlived → Answers
outliving outlived = record { outlived = outlived; last = [] }

-- A connection came to here and goes on, with these bytes ahead: the session outlived each record, and all was sent that the peer is owed.
pub record ReadsOn (client : Client) (begins : ServingMoment) (p : Position) (ahead : List ℕ) (now : ServingMoment) : Type 0 where
  pub outlived : List Outlived
  pub taken : List ℕ
  pub reaches : Reaches true true client (outliving outlived) taken ahead begins now
  pub hand_is : p ≡ in_hand beginning taken
  pub counts : KeepsFaults begins.outside now.outside

-- it ended so
pub record IsServed (end : ServeEnd) (client : Client) (begins now : ServingMoment) : Type 0 where
  pub serves : ServesAll end client begins now
  pub counts : KeepsFaults begins.outside now.outside

-- A connection that came with these bytes ahead to the old moment, comes to the new one: so many of them were taken, or it ended.
abbrev pub Takes : Result ℕ ServeEnd → Client → Position → List ℕ → Position → (old new : ServingMoment) → Type 0
Takes (Ok n) client p bytes q old new = (begins : ServingMoment) → ReadsOn client begins p bytes old → ReadsOn client begins q (drop n bytes) new
Takes (Err end) client p bytes q old new = (begins : ServingMoment) → ReadsOn client begins p bytes old → IsServed end client begins new

-- the same, where all of them were taken
abbrev pub Runs : Option ServeEnd → Client → Position → List ℕ → Position → (old new : ServingMoment) → Type 0
Runs None client p bytes q old new = (begins : ServingMoment) → ReadsOn client begins p bytes old → ReadsOn client begins q [] new
Runs (Some end) client p bytes q old new = (begins : ServingMoment) → ReadsOn client begins p bytes old → IsServed end client begins new

-- so many bytes can be taken
pub record HasRoom (p : Position) (count : ℕ) : Type 0 where
  pub sound : is_faulty p.reading ≡ false
  pub room : p.came + count ≤ LONGEST_STREAM

-- Some bytes of these were taken, and others can be.
pub record Advances (n : ℕ) (p : Position) (bytes : List ℕ) (q : Position) : Type 0 where
  pub some : 0 < n
  pub most : n ≤ length bytes
  pub came : q.came ≡ p.came + n
  pub sound : is_faulty q.reading ≡ false

-- no more bytes came than that
abbrev pub IsWithin : ℕ → Got → Type 0
IsWithin room (got.Bytes n) = n ≤ room
IsWithin room _ = Unit {0}

-- how a connection ends where its stream does
abbrev pub end_at : Position → ServeEnd
end_at p = if is_pending p.reading then end.Truncated p.came else end.Ended
