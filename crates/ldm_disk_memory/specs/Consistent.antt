-- The tests of a disk in memory are consistent, as the trait asks.
use Rattle.std.specs.Prelude.{◌≡◌, ℕ, Bool, true, false, ◌||◌, List, drop, length, IfSome, bytes_eq, refl}
use Rattle.std.proofs.Common.{ap, inl, inr, arith}
use Rattle.std.proofs.lemmas.Bool.{or_left, or_cases, both_ways}
use Rattle.std.proofs.lemmas.List.{drop_all}
use Rattle.std.proofs.lemmas.Slice.Eq.{bytes_eq-Decides}
use Rattle.std.specs.List.{list_any}
use Rattle.ldm_disk.specs.Told.{IsConsistent}
use Rattle.ldm_disk_memory.specs.MemDisk.{Fragile, MemFileState, MemDiskState, leaves, told_by_file, told_by_disk}

pub same_bytes : (bytes : List ℕ) → bytes_eq bytes bytes ≡ true
same_bytes bytes = (bytes_eq-Decides bytes bytes).1 refl

no_moment : (s : MemFileState) (left : List ℕ) → list_any (λ moment. leaves moment left) (drop (length s.past) s.past) ≡ false
no_moment s left = ap (λ (moments : List Fragile). list_any (λ moment. leaves moment left) moments) (drop_all (length s.past) s.past (omega arith))

first_part : (x y : Bool) → y ≡ false → (x || y) ≡ true → x ≡ true
first_part x y none any = elim (or_cases x y any) [ inl is ↦ is | inr other ↦ absurd (both_ways y none other) ]

consistent_file : (s : MemFileState) → IsConsistent (told_by_file s)
consistent_file s = record {
  reads = or_left (bytes_eq s.bytes s.bytes) (leaves s.now s.bytes) (same_bytes s.bytes);
  now = λ since left le leaves_it. or_left _ _ leaves_it;
  only_now = λ left any. first_part _ _ (no_moment s left) any;
}

pub always_consistent : (disk : MemDiskState) → IfSome (told_by_disk disk).file IsConsistent
always_consistent disk = consistent_file disk.file
