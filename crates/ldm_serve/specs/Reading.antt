-- A connection whose calls are read.
use Rattle.std.specs.Prelude.{◌≡◌, ℕ, List, [], Option, Some, None, Result, Ok, Err}
use Rattle.ldm_rpc.specs.Streams.{Position}
use Rattle.ldm_serve.specs.declared.responded.Responded.TheVariants.{GoesOn}
use Rattle.ldm_serve.specs.declared.end.ServeEnd.{ServeEnd}
use Rattle.ldm_serve.specs.declared.end.ServeEnd.TheVariants as end
use Rattle.ldm_serve.specs.declared.taking.Connection.{Connection}
use Rattle.ldm_serve.specs.declared.taking.Stop.{Stop}
use Rattle.ldm_serve.specs.declared.taking.Stop.TheVariants as stop
use Rattle.ldm_serve.specs.Client.{Client}
use Rattle.ldm_serve.specs.Connection.{ServingMoment}
use Rattle.ldm_serve.specs.Rounds.{HasRoom, Takes}

-- Between two records: so many bytes can be taken, what is owed was sent, the next record is read, and it came to no end.
pub record ReadsCalls (c : Connection) (count : ℕ) : Type 0 where
  pub room : HasRoom c.serving count
  pub empty : c.out.items ≡ []
  pub going : c.next ≡ GoesOn
  pub unended : c.end ≡ None

-- the end of a connection that stops so, where that was written before
abbrev pub end_by : Stop → Option ServeEnd → Option ServeEnd
end_by stop.LinkFault written = Some end.LinkFault
end_by stop.StreamLimit written = Some end.StreamLimit
end_by (stop.TooLong at) written = Some (end.BadFrame at)
end_by stop.Worn written = Some end.Worn
end_by stop.OutOfMemory written = Some end.OutOfMemory
end_by stop.Ended written = written

-- there is an end, to which it comes
abbrev pub EndsAt : Option ServeEnd → Client → Position → List ℕ → Position → (old new : ServingMoment) → Type 0
EndsAt None client p bytes q old new = ⊥
EndsAt (Some why) client p bytes q old new = Takes (Err why) client p bytes q old new

-- so many of the bytes were taken, or it came to an end
abbrev pub TakesTo : Result ℕ Stop → Option ServeEnd → Client → Position → List ℕ → Position → (old new : ServingMoment) → Type 0
TakesTo (Ok n) written client p bytes q old new = Takes (Ok n) client p bytes q old new
TakesTo (Err stop) written client p bytes q old new = EndsAt (end_by stop written) client p bytes q old new
