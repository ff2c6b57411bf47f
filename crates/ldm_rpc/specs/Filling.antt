-- What was put straight into the record in hand.
use Rattle.std.specs.Prelude.{◌≡◌, ◌≤◌, ℕ, List, false, length, drop}
use Rattle.ldm_rpc.specs.Reading.{Reading, after, bytes_taken, is_faulty, is_whole}

-- the bytes by which a content has grown
abbrev pub grown : List ℕ → List ℕ → List ℕ
grown old new = drop (length old) new

-- the bytes by which the content of the record in hand has grown
abbrev pub filled : Reading → Reading → List ℕ
filled old new = grown old.content new.content

-- So many bytes, of those that were asked for at most, were put straight into the record in hand. All of them are
-- taken, and more are to come.
pub record IsFilled (old new : Reading) (most n : ℕ) : Type 0 where
  pub count : n ≡ length (filled old new)
  pub within : n ≤ most
  pub after : new ≡ after old (filled old new)
  pub taken : n ≡ bytes_taken old (filled old new)
  pub unended : is_whole new ≡ false
  pub sound : is_faulty new ≡ false
