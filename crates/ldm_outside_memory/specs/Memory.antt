-- What contracts see of the forms in memory, and what one call of theirs does.
use Rattle.std.specs.Prelude.{◌≡◌, ℕ, ◌-◌, ◌^◌, ◌==◌, Bool, true, false, List, [], ◌++◌, length, take, drop, min, max, Some}
use Rattle.std.specs.List.{list_any}
use Rattle.ldm_outside.specs.declared.io.Got.{Got}
use Rattle.ldm_outside.specs.declared.io.Got.TheVariants.{Bytes, End, Failed}
use Rattle.ldm_outside.specs.declared.io.Put.{Put}
use Rattle.ldm_outside.specs.declared.io.Put.TheVariants as put
use Rattle.ldm_outside.specs.Count.{raised}
use Rattle.ldm_outside.specs.Io.{SourceRecord, SinkRecord}

-- At which calls a form in memory fails, and how much a call moves.
pub record Plan : Type 0 where
  -- how often it was called
  pub calls : ℕ
  -- the numbers of the calls that fail: the first call has the number 1
  pub failing : List ℕ
  -- the most bytes that a call moves
  pub most : ℕ

-- whether the next call is to fail
abbrev pub next_fails : Plan → Bool
next_fails plan = list_any (λ number. number == raised plan.calls) plan.failing

-- the plan after a call
abbrev pub after_call : Plan → Plan
after_call plan = record plan { calls = raised plan.calls }

-- the plan at the start: no limit but the numbers that there are
abbrev pub first_plan : List ℕ → Plan
first_plan failing = record { calls = 0; failing = failing; most = 2 ^ 64 - 1 }

-- the plan with another limit: a call moves one byte at least
abbrev pub with_most : ℕ → Plan → Plan
with_most most plan = record plan { most = max most 1 }

-- a source that fails at chosen calls
pub record SourceState : Type 0 where
  -- the bytes that it has left
  pub left : List ℕ
  pub faults : ℕ
  pub ends : ℕ
  pub plan : Plan

-- a source that never fails
pub record SureState : Type 0 where
  -- the bytes that it has left
  pub left : List ℕ
  pub faults : ℕ
  pub ends : ℕ

-- a sink that fails at chosen calls
pub record SinkState : Type 0 where
  -- all bytes that it took
  pub written : List ℕ
  pub faults : ℕ
  pub plan : Plan

-- What one call did to a source that fails at chosen calls, with a buffer of that room: it fails exactly where
-- its plan says so, gives all that it may, and counts by one.
abbrev pub ReadsAsPlanned : Got → ℕ → SourceState → SourceState → Type 0
ReadsAsPlanned (Bytes n) room old new =
    (next_fails old.plan ≡ false)
    × (n ≡ min (min (length old.left) old.plan.most) room)
    × (new ≡ record { left = drop n old.left; faults = old.faults; ends = old.ends; plan = after_call old.plan })
ReadsAsPlanned End room old new =
    (next_fails old.plan ≡ false)
    × (old.left ≡ [])
    × (new ≡ record { left = old.left; faults = old.faults; ends = raised old.ends; plan = after_call old.plan })
ReadsAsPlanned Failed room old new =
    (next_fails old.plan ≡ true)
    × (new ≡ record { left = old.left; faults = raised old.faults; ends = old.ends; plan = after_call old.plan })

-- What one call did to a source that never fails.
abbrev pub ReadsSurely : Got → ℕ → SureState → SureState → Type 0
ReadsSurely (Bytes n) room old new =
    (n ≡ min (length old.left) room) × (new ≡ record { left = drop n old.left; faults = 0; ends = old.ends })
ReadsSurely End room old new =
    (old.left ≡ []) × (new ≡ record { left = old.left; faults = 0; ends = raised old.ends })
ReadsSurely Failed room old new = ⊥

-- What one call did to a sink that fails at chosen calls. Without memory for the bytes a call fails too.
abbrev pub WritesAsPlanned : Put → List ℕ → SinkState → SinkState → Type 0
WritesAsPlanned (put.Took n) piece old new =
    (next_fails old.plan ≡ false)
    × (n ≡ min (length piece) old.plan.most)
    × (new ≡ record { written = old.written ++ take n piece; faults = old.faults; plan = after_call old.plan })
WritesAsPlanned put.Failed piece old new =
    new ≡ record { written = old.written; faults = raised old.faults; plan = after_call old.plan }

-- how many bytes of the buffer a call of `read` wrote
abbrev pub moved : Got → ℕ
moved (Bytes n) = n
moved End = 0
moved Failed = 0

-- what the forms in memory tell
abbrev pub told_by_source : SourceState → SourceRecord
told_by_source s = record { left = Some s.left; faults = s.faults; ends = s.ends }

abbrev pub told_by_sure_source : SureState → SourceRecord
told_by_sure_source s = record { left = Some s.left; faults = 0; ends = s.ends }

abbrev pub told_by_sink : SinkState → SinkRecord
told_by_sink s = record { written = Some s.written; faults = s.faults }
