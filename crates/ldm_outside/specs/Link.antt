-- What a link gives, takes and tells.
use Rattle.std.specs.Prelude.{◌≡◌, ℕ, ◌<◌, ◌≤◌, Bool, true, false, List, [], ◌∷◌, ◌++◌, length, take, map, Option, IfSome, Result, Ok, Err}
use Rattle.std.specs.Option.{option_map}
use Rattle.ldm_outside.specs.declared.io.Got.{Got}
use Rattle.ldm_outside.specs.declared.io.Got.TheVariants.{Bytes, End, Failed}
use Rattle.ldm_outside.specs.declared.io.Put.{Put}
use Rattle.ldm_outside.specs.declared.io.Put.TheVariants as put
use Rattle.ldm_outside.specs.declared.link.LinkFailed.{LinkFailed}
use Rattle.ldm_outside.specs.declared.link.Passed.{Passed}
use Rattle.ldm_outside.specs.declared.link.Way.{Way}
use Rattle.ldm_outside.specs.declared.link.Way.TheVariants as way
use Rattle.ldm_outside.specs.Count.{Rose}

-- bytes that all went one way
abbrev pub passed_all : Way → List ℕ → List Passed
passed_all way bytes = map (λ byte. record { way = way; byte = byte }) bytes

-- what passes where a link is asked for bytes and gives these
abbrev pub passed_piece : List ℕ → List Passed
passed_piece [] = []
passed_piece (byte ∷ rest) = record { way = way.First; byte = byte } ∷ passed_all way.Given rest

-- a byte in front of others, where the link was sent it
abbrev pub with_sent : Way → ℕ → List ℕ → List ℕ
with_sent way.Sent byte rest = byte ∷ rest
with_sent way.First byte rest = rest
with_sent way.Given byte rest = rest

-- a byte in front of others, where the link gave it
abbrev pub with_given : Way → ℕ → List ℕ → List ℕ
with_given way.Sent byte rest = rest
with_given way.First byte rest = byte ∷ rest
with_given way.Given byte rest = byte ∷ rest

-- all bytes that a link was sent, in order
abbrev pub bytes_sent : List Passed → List ℕ
bytes_sent [] = []
bytes_sent (item ∷ rest) = with_sent item.way item.byte (bytes_sent rest)

-- all bytes that a link gave, in order
abbrev pub bytes_given : List Passed → List ℕ
bytes_given [] = []
bytes_given (item ∷ rest) = with_given item.way item.byte (bytes_given rest)

-- What a link tells at a moment.
pub record LinkRecord : Type 0 where
  -- what passed since it was made, in order, byte by byte, where it tells this
  pub passed : Option (List Passed)
  -- the bytes that it has left to give, where it tells them
  pub left : Option (List ℕ)
  -- how often it answered that it is at its end
  pub ends : ℕ
  -- how often it failed
  pub faults : ℕ
  -- whether it was closed
  pub closed : Bool

-- the link was not closed
abbrev pub IsNotClosed : LinkRecord → Type 0
IsNotClosed link = link.closed ≡ false

-- A link that came or was connected, and was not used yet.
pub record IsFresh (link : LinkRecord) : Type 0 where
  pub not_closed : IsNotClosed link
  pub no_ends : link.ends ≡ 0
  pub no_faults : link.faults ≡ 0
  pub nothing_passed : IfSome link.passed (λ passed. passed ≡ [])

-- what passed, and then these bytes one way
abbrev pub then_all : Way → List ℕ → List Passed → List Passed
then_all way bytes passed = passed ++ passed_all way bytes

-- what passed, and then these bytes that the link gave when it was asked
abbrev pub then_piece : List ℕ → List Passed → List Passed
then_piece bytes passed = passed ++ passed_piece bytes

-- what a link tells after it was sent bytes
abbrev pub after_sent : List ℕ → LinkRecord → LinkRecord
after_sent piece link = record link { passed = option_map (then_all way.Sent piece) link.passed }

-- A link was sent bytes, and nothing else of it changed.
abbrev pub Sent : LinkRecord → List ℕ → LinkRecord → Type 0
Sent old piece new = new ≡ after_sent piece old

-- A link gave bytes, from the front of what it had left, and nothing else of it changed.
abbrev pub Gave : LinkRecord → List ℕ → LinkRecord → Type 0
Gave old piece new =
    (old.left ≡ option_map (λ rest. piece ++ rest) new.left)
    × (new ≡ record old { passed = option_map (then_piece piece) old.passed; left = new.left })

-- A link failed, and nothing but its count of faults changed.
abbrev pub Failing : LinkRecord → LinkRecord → Type 0
Failing old new = Rose old.faults new.faults × (new ≡ record old { faults = new.faults })

-- What one call of `recv` did. `into` is the buffer after the call.
abbrev pub RecvGives : Got → List ℕ → LinkRecord → LinkRecord → Type 0
-- some bytes came, and stand at the front of the buffer
RecvGives (Bytes n) into old new = (0 < n) × (n ≤ length into) × Gave old (take n into) new
-- the other side sends no more
RecvGives End into old new =
    Rose old.ends new.ends × IfSome old.left (λ rest. rest ≡ []) × (new ≡ record old { ends = new.ends })
RecvGives Failed into old new = Failing old new

-- What one call of `send` did.
abbrev pub SendGives : Put → List ℕ → LinkRecord → LinkRecord → Type 0
-- the front of the piece was sent
SendGives (put.Took n) piece old new = (n ≤ length piece) × (0 < length piece → 0 < n) × Sent old (take n piece) new
SendGives put.Failed piece old new = Failing old new

-- What one call of `check_peer` did.
abbrev pub ChecksPeer : Result (Unit {0}) LinkFailed → LinkRecord → LinkRecord → Type 0
-- the peer is there, as far as the link knows
ChecksPeer (Ok done) old new = new ≡ old
ChecksPeer (Err failed) old new = Failing old new

-- A call of `close` closes the link, and changes nothing else.
abbrev pub Closes : LinkRecord → LinkRecord → Type 0
Closes old new = new ≡ record old { closed = true }

-- What sending a whole piece did: all of it was sent; or the link failed, after a front of it.
abbrev pub SendsAll : Result (Unit {0}) LinkFailed → List ℕ → LinkRecord → LinkRecord → Type 0
SendsAll (Ok done) piece old new = Sent old piece new
SendsAll (Err failed) piece old new =
    (front rest : List ℕ) × (front ++ rest ≡ piece) × Failing (after_sent front old) new
