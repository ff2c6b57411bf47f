-- What becomes of a buffer that one piece is received into.
use Rattle.std.specs.Prelude.{◌≡◌, ℕ, ◌<◌, ◌≤◌, List, [], length, IfSome}
use Rattle.ldm_outside.specs.declared.io.Got.{Got}
use Rattle.ldm_outside.specs.declared.io.Got.TheVariants.{Bytes, End, Failed}
use Rattle.ldm_outside.specs.Count.{Rose}
use Rattle.ldm_outside.specs.Link.{LinkRecord, Gave, Failing}

-- The bytes that came wait, one at least and not more than were asked for; where the link was at its end or failed, none came.
abbrev pub Fills : Got → ℕ → List ℕ → LinkRecord → LinkRecord → Type 0
Fills (Bytes count) most waiting old new = Gave old waiting new × (0 < length waiting) × (length waiting ≤ most)
Fills End most waiting old new = Rose old.ends new.ends × IfSome old.left (λ rest. rest ≡ []) × (new ≡ record old { ends = new.ends })
Fills Failed most waiting old new = Failing old new

-- no more bytes came than were asked for
abbrev pub GotMost : Got → ℕ → Type 0
GotMost (Bytes count) most = count ≤ most
GotMost End most = Unit {0}
GotMost Failed most = Unit {0}
