-- Reading a file leaves it, and what a crash may leave of it, as they were; what is read comes behind what was.
use Rattle.std.proofs.Common.{◌≡◌, inl, inr, ⊎_elim, ℕ, ◌+◌, ◌-◌, ◌≤◌, true, List, length, take, drop, ◌++◌, refl, subst, sym, ap, ◌∙◌, arith}
use Rattle.std.specs.Prelude.{IfSome, Option, Some, None}
use Rattle.std.proofs.lemmas.List.{take-take, length-take-le, drop-drop}
use Rattle.std.proofs.lemmas.Slice.{take-put_mid}
use Rattle.std.proofs.Math.Seq.{take-add, take-append-add}
use borrow.Rule.Slice.PartMut.{put_mid}
use Rattle.ldm_disk.specs.Told.{FileRecord, IsConsistent}
use Rattle.ldm_disk.specs.Model.{Stays}
use Rattle.ldm_disk.specs.Moments.{Goes}
use Rattle.ldm_disk.specs.Calls.{FileChanges, KeepsFile}
use Rattle.ldm_disk.proofs.Told.{chained}

pub goes_stays : (old mid new : FileRecord) → IsConsistent old → Goes Stays old mid → Goes Stays mid new → Goes Stays old new
goes_stays old mid new consistent first next = record {
  crash = λ left leaves.
      let b = next.crash left leaves in
      let a = first.crash b.0 b.1 in
      (a.0, a.1, b.2 ∙ a.2);
  time = record {
    later = omega (arith, first.time.later, next.time.later);
    nothing_else = λ since left le left_it.
        ⊎_elim
        (λ was.
        ⊎_elim (λ before. inl before)
        (λ leaves.
        let a = first.crash left leaves in
        inl (consistent.now since left le (subst (λ (file : List ℕ). old.may_leave file ≡ true) (sym a.2) a.1)))
        (first.time.nothing_else since left le was))
        (λ leaves. inr leaves)
        (next.time.nothing_else since left (omega (arith, le, first.time.later)) left_it);
    keeps = λ since left le left_it.
        next.time.keeps since left (omega (arith, le, first.time.later)) (first.time.keeps since left le left_it);
  };
}

-- two calls that read
pub keeps_file : (old mid new : FileRecord) → IsConsistent old → KeepsFile old mid → KeepsFile mid new → KeepsFile old new
keeps_file old mid new consistent first next = record {
  bytes = next.bytes ∙ first.bytes;
  goes = goes_stays old mid new consistent first.goes next.goes;
}

-- a file that no call was made on
pub keeps_itself : (f : FileRecord) → KeepsFile f f
keeps_itself f = record {
  bytes = refl;
  goes = record {
    crash = λ left leaves. (left, leaves, refl);
    time = record {
      later = omega arith;
      nothing_else = λ since left le left_it. inl left_it;
      keeps = λ since left le left_it. left_it;
    };
  };
}

pub both_keep : (old mid new : Option FileRecord) → IfSome old IsConsistent → IfSome mid IsConsistent → FileChanges KeepsFile old mid → FileChanges KeepsFile mid new
    → FileChanges KeepsFile old new
both_keep old mid new s t first next =
    chained IsConsistent IsConsistent KeepsFile KeepsFile KeepsFile (λ a b d consistent then one other. keeps_file a b d consistent one other) old mid new s t first next

pub none_keeps : (file : Option FileRecord) → FileChanges KeepsFile file file
none_keeps None = tt
none_keeps (Some file) = keeps_itself file

-- bytes came at the front of what was not read yet
pub fill_more : (into rest source : List ℕ) (done n : ℕ) → done ≤ length into → length rest ≡ length into - done → take done into ≡ take done source → n ≤ length rest
    → take n rest ≡ take n (drop done source) → take (done + n) (put_mid done (length into - done) into rest) ≡ take (done + n) source
fill_more into rest source done n le long so_far most more =
    let now = put_mid done (length into - done) into rest in
    let whole : take (length into) now ≡ take done into ++ rest = take-put_mid done (length into - done) into rest (length into) (omega (arith, le, long)) le in
    let front : length (take done into) ≡ done = length-take-le done into le in
    sym (take-take (done + n) (length into) now (omega (arith, le, long, most)))
    ∙ ap (λ (l : List ℕ). take (done + n) l) whole
    ∙ ap (λ (k : ℕ). take (k + n) (take done into ++ rest)) (sym front)
    ∙ take-append-add (take done into) rest n
    ∙ ap (λ (l : List ℕ). l ++ take n rest) so_far
    ∙ ap (λ (l : List ℕ). take done source ++ l) more
    ∙ sym (take-add done n source)

-- so it is for the file of a disk, which stays
pub filled_more : (into rest : List ℕ) (at done n : ℕ) → done ≤ length into → length rest ≡ length into - done → n ≤ length rest → (old now : Option FileRecord)
    → IfSome old (λ file. take done into ≡ take done (drop at file.bytes)) → FileChanges KeepsFile old now
    → IfSome now (λ file. take n rest ≡ take n (drop (at + done) file.bytes))
    → IfSome old (λ file. take (done + n) (put_mid done (length into - done) into rest) ≡ take (done + n) (drop at file.bytes))
filled_more into rest at done n le long most None now so_far keeps more = so_far
filled_more into rest at done n le long most (Some old) None so_far keeps more = absurd keeps
filled_more into rest at done n le long most (Some old) (Some now) so_far keeps more =
    fill_more into rest (drop at old.bytes) done n le long so_far most
    (more ∙ ap (λ (bytes : List ℕ). take n (drop (at + done) bytes)) keeps.bytes ∙ ap (λ (l : List ℕ). take n l) (sym (drop-drop done at old.bytes)))
