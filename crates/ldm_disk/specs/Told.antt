-- What a disk tells of itself and of its file.
use Rattle.std.specs.Prelude.{◌≡◌, ℕ, ◌≤◌, Bool, true, List, Option}

-- What a disk tells of its file at a moment.
pub record FileRecord : Type 0 where
  -- the bytes that a read gives
  pub bytes : List ℕ
  -- which moment it is: this number never falls
  pub moment : ℕ
  -- whether a crash now may leave a file
  pub may_leave : List ℕ → Bool
  -- whether a crash at some moment since one may have left a file
  pub left_since : ℕ → List ℕ → Bool

-- What a disk tells at a moment.
pub record DiskRecord : Type 0 where
  -- how often it failed
  pub faults : ℕ
  -- whether a file is attached
  pub attached : Bool
  -- the file, where it tells this
  pub file : Option FileRecord

-- What always holds of the tests of a file.
pub record IsConsistent (file : FileRecord) : Type 0 where
  -- the file as it reads is one that a crash now may leave
  pub reads : file.may_leave file.bytes ≡ true
  -- this moment is one of those since any that was
  pub now : (since : ℕ) (left : List ℕ) → since ≤ file.moment → file.may_leave left ≡ true → file.left_since since left ≡ true
  -- since this moment there is no other
  pub only_now : (left : List ℕ) → file.left_since file.moment left ≡ true → file.may_leave left ≡ true

-- Nothing is pending: a crash now leaves what a read gives, and nothing else.
abbrev pub IsSettled : FileRecord → Type 0
IsSettled file = (left : List ℕ) → file.may_leave left ≡ true → left ≡ file.bytes
