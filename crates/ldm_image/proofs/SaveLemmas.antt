-- What saving leaves at each moment, and at its end.
use Rattle.std.proofs.Common.{◌≡◌, ◌≢◌, inl, inr, ⊎_elim, ℕ, zero, suc, ◌-◌, ◌≤◌, List, [], ◌∷◌, length, refl, sym, ◌∙◌, ap, subst, arith}
use Rattle.std.specs.Prelude.{slice_index, Option, Some, None, Result, Ok, Err}
use Rattle.std.proofs.lemmas.Bool.{cases_eq}
use Rattle.std.proofs.lemmas.List.{ext_get_or}
use Rattle.ldm_outside.specs.declared.fault.Failed.{Failed}
use Rattle.ldm_disk.specs.Told.{FileRecord}
use Rattle.ldm_disk.specs.Model.{written_at}
use Rattle.ldm_disk.proofs.CrashLemmas.{joined, weaker}
use Rattle.ldm_book.specs.View.{BookView}
use Rattle.ldm_disk.specs.Calls.{FileChanges}
use Rattle.ldm_image.specs.declared.save.SaveEnd.TheVariants.{Saved, DiskFault, OutOfMemory}
use Rattle.ldm_image.specs.Image.{GATE, image, image_with}
use Rattle.ldm_image.specs.Saving.{MayBeLeft, SavesFile, Before as AsBefore, After, Unclean as AsUnclean, NoImage as AsNoImage}
use Rattle.ldm_image.specs.Gates.{HasGate, IsTorn, WritesGate, LeftOfShutting, Before, Unclean, NoImage, Shuts, WritesUnclean, WritesImage}
use Rattle.ldm_image.specs.Bodies.{gate_of, IsShut, WritesBody}
use Rattle.ldm_disk.proofs.Told.{mapped, always}

-- what was made unclean can be written
pub is_shut : (done : Unit {0}) (old new : FileRecord) → Shuts (Ok done) old new → IsShut new
is_shut done old new shuts = record { settled = shuts.1; long = shuts.2.long }

-- making a file unclean, and writing it
pub unclean : (done : Unit {0}) (result : Result (Unit {0}) Failed) (book : BookView) (old mid new : FileRecord) → Shuts (Ok done) old mid
    → WritesBody result book mid new → WritesUnclean result book old new
unclean done (Ok wrote) book old mid new shuts body =
    let P = LeftOfShutting old.bytes in
    let next : (left : List ℕ) → HasGate (Some (gate_of mid.bytes)) left → P left =
    λ left has. Unclean (record { long = has.0; gate = λ one. shuts.2.gate (sym has.1 ∙ one) }) in
    (joined P old mid new shuts.0 (weaker _ P next mid new body.0), body.1, record { gate = gate_of mid.bytes; other = shuts.2.gate; is = body.2 })
unclean done (Err failed) book old mid new shuts gates =
    let P = LeftOfShutting old.bytes in
    let next : (left : List ℕ) → HasGate (Some (gate_of mid.bytes)) left → P left =
    λ left has. Unclean (record { long = has.0; gate = λ one. shuts.2.gate (sym has.1 ∙ one) }) in
    joined P old mid new shuts.0 (weaker _ P next mid new gates)

-- what making a file unclean leaves, saving may leave
shutting_left : (book : BookView) (before left : List ℕ) → LeftOfShutting before left → MayBeLeft book before left
shutting_left book before left (Before is) = AsBefore is
shutting_left book before left (Unclean is) = AsUnclean is
shutting_left book before left (NoImage was is) = AsNoImage was is

-- two images that differ in the gate alone
same_elsewhere : (gate : ℕ) (book : BookView) (place : ℕ) → place ≢ 5 → slice_index (image_with gate book) place ≡ slice_index (image book) place
same_elsewhere gate book zero other = refl
same_elsewhere gate book (suc zero) other = refl
same_elsewhere gate book (suc (suc zero)) other = refl
same_elsewhere gate book (suc (suc (suc zero))) other = refl
same_elsewhere gate book (suc (suc (suc (suc zero)))) other = refl
same_elsewhere gate book (suc (suc (suc (suc (suc zero))))) other = absurd (other refl)
same_elsewhere gate book (suc (suc (suc (suc (suc (suc place)))))) other = refl

-- while the gate of a whole body is written
clean_left : (gate : ℕ) (book : BookView) (before left : List ℕ) → IsTorn (image_with gate book) left → MayBeLeft book before left
clean_left gate book before left torn =
    let long : 8 ≤ length (image_with gate book) = omega arith in
    let same : length left ≡ length (image_with gate book) = ⊎_elim (λ s. s) (λ short. absurd (omega (arith, short.0, long))) torn.long in
    elim (cases_eq (slice_index left GATE) 1) [
      | inl clean ↦ After (ext_get_or 0 left (image book) same
          (λ i within.
          elim (cases_eq i 5) [
            | inl at ↦ rw at clean
            | inr other ↦ torn.stays i (omega (arith, within, same)) within other ∙ same_elsewhere gate book i other
          ]))
      | inr other ↦ AsUnclean (record { long = omega (arith, same, long); gate = other })
    ]

-- the gate written over a whole body
gate_over : (gate : ℕ) (book : BookView) → written_at GATE (1 ∷ []) (image_with gate book) ≡ image book
gate_over gate book =
    let none : 5 - length (image_with gate book) ≡ 0 = omega arith in
    rw none refl

-- an unclean image, and then its gate
pub marked : (done : Unit {0}) (result : Result (Unit {0}) Failed) (book : BookView) (old mid new : FileRecord) → WritesUnclean (Ok done) book old mid
    → WritesGate result 1 mid new → WritesImage result book old new
marked done (Ok wrote) book old mid new unclean gate =
    let P = MayBeLeft book old.bytes in
    let mark = unclean.2.gate in
    let next : (left : List ℕ) → IsTorn mid.bytes left → P left =
    λ left torn. clean_left mark book old.bytes left (subst (λ (file : List ℕ). IsTorn file left) unclean.2.is torn) in (
      joined P old mid new (weaker _ P (shutting_left book old.bytes) old mid unclean.0) (weaker _ P next mid new gate.0),
      gate.1,
      gate.2 ∙ ap (λ (file : List ℕ). written_at GATE (1 ∷ []) file) unclean.2.is ∙ gate_over mark book,
    )
marked done (Err failed) book old mid new unclean gate =
    let P = MayBeLeft book old.bytes in
    let mark = unclean.2.gate in
    let next : (left : List ℕ) → IsTorn mid.bytes left → P left =
    λ left torn. clean_left mark book old.bytes left (subst (λ (file : List ℕ). IsTorn file left) unclean.2.is torn) in
    joined P old mid new (weaker _ P (shutting_left book old.bytes) old mid unclean.0) (weaker _ P next mid new gate)

-- where making the file unclean failed
pub failed_unclean : (failed : Failed) (book : BookView) (old new : FileRecord) → WritesUnclean (Err failed) book old new → WritesImage (Err failed) book old new
failed_unclean failed book old new left = weaker _ (MayBeLeft book old.bytes) (shutting_left book old.bytes) old new left

-- where nothing was done
pub not_saved : (book : BookView) (file : Option FileRecord) → FileChanges (SavesFile OutOfMemory book) file file
not_saved book None = tt
not_saved book (Some file) = refl

pub was_saved : (done : Unit {0}) (book : BookView) (old new : Option FileRecord) → FileChanges (WritesImage (Ok done) book) old new → FileChanges (SavesFile Saved book) old new
was_saved done book old new wrote =
    mapped (λ f. Unit {0}) (WritesImage (Ok done) book) (SavesFile Saved book) (λ before after s is. is) old new (always old) wrote

pub was_faulty : (failed : Failed) (book : BookView) (old new : Option FileRecord) → FileChanges (WritesImage (Err failed) book) old new
    → FileChanges (SavesFile DiskFault book) old new
was_faulty failed book old new wrote =
    mapped (λ f. Unit {0}) (WritesImage (Err failed) book) (SavesFile DiskFault book) (λ before after s is. is) old new (always old) wrote
