-- What a source gives and a sink takes.
use Rattle.std.specs.Prelude.{◌≡◌, ℕ, ◌<◌, ◌≤◌, List, [], ◌++◌, length, take, Option, IfSome, Result, Ok, Err}
use Rattle.std.specs.Option.{option_map}
use Rattle.ldm_outside.specs.declared.io.Got.{Got}
use Rattle.ldm_outside.specs.declared.io.Got.TheVariants.{Bytes, End, Failed}
use Rattle.ldm_outside.specs.declared.io.Put.{Put}
use Rattle.ldm_outside.specs.declared.io.Put.TheVariants as put
use Rattle.ldm_outside.specs.declared.io.SinkFailed.{SinkFailed}
use Rattle.ldm_outside.specs.Count.{Rose}

-- What a source tells at a moment.
pub record SourceRecord : Type 0 where
  -- the bytes that it has left, where it tells
  pub left : Option (List ℕ)
  -- how often it failed
  pub faults : ℕ
  -- how often it answered that it is at its end
  pub ends : ℕ

-- What a sink tells at a moment.
pub record SinkRecord : Type 0 where
  -- all bytes that it took, where it tells
  pub written : Option (List ℕ)
  -- how often it failed
  pub faults : ℕ

-- The bytes were taken from a source. One that does not tell what it has left goes on not to tell.
abbrev pub Gives : SourceRecord → List ℕ → SourceRecord → Type 0
Gives old bytes new = old.left ≡ option_map (λ rest. bytes ++ rest) new.left

-- A sink took the bytes. One that does not tell what it took goes on not to tell.
abbrev pub Takes : SinkRecord → List ℕ → SinkRecord → Type 0
Takes old bytes new = new.written ≡ option_map (λ before. before ++ bytes) old.written

-- A sink took a front of a text, and no more.
abbrev pub WritesFront : SinkRecord → List ℕ → SinkRecord → Type 0
WritesFront old text new = (front rest : List ℕ) × (front ++ rest ≡ text) × Takes old front new

-- What one call of `read` did. `into` is the buffer after the call.
abbrev pub ReadGives : Got → List ℕ → SourceRecord → SourceRecord → Type 0
-- some bytes came, and stand at the front of the buffer
ReadGives (Bytes n) into old new = (0 < n) × (n ≤ length into) × Gives old (take n into) new × (new.ends ≡ old.ends)
-- the source is at its end
ReadGives End into old new = Rose old.ends new.ends × (new.left ≡ old.left) × IfSome old.left (λ rest. rest ≡ [])
-- the source failed, and no byte was lost
ReadGives Failed into old new = Rose old.faults new.faults × (new.left ≡ old.left) × (new.ends ≡ old.ends)

-- What one call of `write` did.
abbrev pub WriteGives : Put → List ℕ → SinkRecord → SinkRecord → Type 0
-- the front of the piece was taken
WriteGives (put.Took n) piece old new = (n ≤ length piece) × (0 < length piece → 0 < n) × Takes old (take n piece) new
-- the sink failed, and took nothing
WriteGives put.Failed piece old new = Rose old.faults new.faults × (new.written ≡ old.written)

-- What one call of `flush` did: nothing more was taken. Where it failed, some of what was taken may not have been handed on.
abbrev pub FlushGives : Result (Unit {0}) SinkFailed → SinkRecord → SinkRecord → Type 0
FlushGives (Ok done) old new = new ≡ old
FlushGives (Err failed) old new = Rose old.faults new.faults × (new.written ≡ old.written)

-- What writing a whole piece did: all of it was taken; or the sink failed, after a front of it.
abbrev pub WritesAll : Result (Unit {0}) SinkFailed → List ℕ → SinkRecord → SinkRecord → Type 0
WritesAll (Ok done) piece old new = Takes old piece new
WritesAll (Err failed) piece old new = Rose old.faults new.faults × WritesFront old piece new
