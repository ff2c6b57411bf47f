-- What is to be inserted, and where.
use Rattle.std.specs.Prelude.{◌≡◌, ℕ, ◌<◌, ◌^◌, Bool, List, length, map, All, Option, Some, None, option_copied, if◌then◌else◌}
use Rattle.std.specs.Borrow.{Bor}
use Rattle.md5.specs.Md5.{md5}
use Rattle.ldm_types.specs.Info.{Metadata, texts_fault}
use Rattle.ldm_outside.specs.Dial.{Asked}
use Rattle.ldm_tools.specs.declared.insertion.Insertion.{Insertion}

-- Whom to ask, the metadata that all products have in common, and the paths of the files.
pub record Inserting : Type 0 where
  pub peer : Asked
  pub feed : ℕ
  pub origin : List ℕ
  -- the ident of all products, where one is given
  pub ident : Option (List ℕ)
  -- whether a signature is of the ident, and not of the body
  pub sign_ident : Bool
  pub files : List (List ℕ)

abbrev pub inserting : Insertion → Inserting
inserting insertion = record {
  peer = record { host = insertion.host.now; port = insertion.port };
  feed = insertion.feed.0;
  origin = insertion.origin.now;
  ident = option_copied insertion.ident;
  sign_ident = insertion.sign_ident;
  files = map (λ (path : Bor (List ℕ)). path.now) insertion.files.now;
}

-- A file: its place among all, from 0, and its path.
pub record FileAt : Type 0 where
  pub number : ℕ
  pub path : List ℕ

-- the ident that is given, or the path
abbrev pub ident_or : Option (List ℕ) → List ℕ → List ℕ
ident_or None path = path
ident_or (Some ident) path = ident

-- the ident of the product of a file
abbrev pub ident_of : Inserting → List ℕ → List ℕ
ident_of all path = ident_or all.ident path

-- the metadata of the product of a file, with this body, which was read at that instant
abbrev pub metadata_of : Inserting → FileAt → List ℕ → ℕ → Metadata
metadata_of all file body arrival = record {
  arrival = arrival;
  signature = md5 (if all.sign_ident then ident_of all file.path else body);
  origin = all.origin;
  feed = all.feed;
  seqno = file.number;
  ident = ident_of all file.path;
  size = length body;
}

-- the origin and the ident of a file have no fault
abbrev pub IsNamed : Inserting → List ℕ → Type 0
IsNamed all path = texts_fault all.origin (ident_of all path) ≡ None

-- the same of each file
abbrev pub AreNamed : Inserting → Type 0
AreNamed all = All (IsNamed all) all.files

-- each file has a number of four bytes
abbrev pub AreFew : Inserting → Type 0
AreFew all = length all.files < 2 ^ 32
