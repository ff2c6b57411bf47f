-- Reading bytes of a file, and of its ring.
use Rattle.std.proofs.Common.{◌≡◌, ℕ, ◌+◌, ◌%◌, ◌<◌, ◌≤◌, List, length, ◌++◌, subst, sym, ap, ◌∙◌, arith}
use Rattle.std.specs.Prelude.{Result, Ok, Err}
use Rattle.std.specs.List.{between}
use Rattle.std.proofs.lemmas.List.{length-append}
use Rattle.std.proofs.Math.Nat.{mod_self, mod-add-mod}
use Rattle.ldm_journal.specs.declared.places.TheConstants.{RING}
use Rattle.ldm_journal.specs.declared.fault.JournalFault.{JournalFault}
use Rattle.ldm_journal.specs.declared.fault.JournalFault.TheVariants.{NotAJournal, OtherRing, OtherLength, BadHead, BadRecord, DiskFault, OutOfMemory}
use Rattle.ldm_journal.specs.Reading.{Fills, FillsAround}
use Rattle.ldm_journal.specs.Format.{around}
use Rattle.ldm_journal.proofs.Around.{around-add, part_read}

-- a part of the ring that does not go round its end
pub part_filled : (result : Result (Unit {0}) JournalFault) (ring from : ℕ) (into file : List ℕ) → 0 < ring → from % ring + length into ≤ ring
    → Fills result (RING + from % ring) into file → FillsAround result ring from into file
part_filled (Ok done) ring from into file some fits fills = part_read ring from into file fits fills
part_filled (Err NotAJournal) ring from into file some fits short = λ whole. absurd (omega (arith, short, whole, fits))
part_filled (Err DiskFault) ring from into file some fits fills = tt
part_filled (Err OtherRing) ring from into file some fits fills = absurd fills
part_filled (Err OtherLength) ring from into file some fits fills = absurd fills
part_filled (Err BadHead) ring from into file some fits fills = absurd fills
part_filled (Err BadRecord) ring from into file some fits fills = absurd fills
part_filled (Err OutOfMemory) ring from into file some fits fills = absurd fills

-- the place behind the end of the ring is its beginning
over_end : (from ring n : ℕ) → 0 < ring → from % ring + n ≡ ring → (from + n) % ring ≡ 0
over_end from ring n some end = sym (mod-add-mod from ring n) ∙ ap (λ (m : ℕ). m % ring) end ∙ mod_self ring

-- two parts, up to the end of the ring and from its beginning on
pub parts_filled : (done : Unit {0}) (result : Result (Unit {0}) JournalFault) (ring from : ℕ) (first rest file : List ℕ) → 0 < ring → from % ring + length first ≡ ring
    → length rest ≤ ring → Fills (Ok done) (RING + from % ring) first file → Fills result RING rest file → FillsAround result ring from (first ++ rest) file
parts_filled done (Ok so) ring from first rest file some end fits one next =
    let a : first ≡ around ring from (length first) file = part_read ring from first file (omega (arith, end)) one in
    let zero : (from + length first) % ring ≡ 0 = over_end from ring (length first) some end in
    let none : RING ≡ RING + (from + length first) % ring = omega (arith, zero) in
    let read : rest ≡ between (RING + (from + length first) % ring) (RING + (from + length first) % ring + length rest) file =
    subst (λ (n : ℕ). rest ≡ between n (n + length rest) file) none next in
    let b : rest ≡ around ring (from + length first) (length rest) file = part_read ring (from + length first) rest file (omega (arith, zero, fits)) read in
    ap (λ (l : List ℕ). l ++ rest) a ∙ ap (λ (l : List ℕ). around ring from (length first) file ++ l) b
    ∙ sym (around-add ring from (length first) (length rest) file)
    ∙ ap (λ (n : ℕ). around ring from n file) (sym (length-append first rest))
parts_filled done (Err NotAJournal) ring from first rest file some end fits one short = λ whole. absurd (omega (arith, short, whole, fits))
parts_filled done (Err DiskFault) ring from first rest file some end fits one next = tt
parts_filled done (Err OtherRing) ring from first rest file some end fits one next = absurd next
parts_filled done (Err OtherLength) ring from first rest file some end fits one next = absurd next
parts_filled done (Err BadHead) ring from first rest file some end fits one next = absurd next
parts_filled done (Err BadRecord) ring from first rest file some end fits one next = absurd next
parts_filled done (Err OutOfMemory) ring from first rest file some end fits one next = absurd next

-- the first part could not be read
pub first_fails : (fault : JournalFault) (ring from : ℕ) (first into file : List ℕ) → 0 < ring → from % ring + length first ≤ ring
    → Fills (Err fault) (RING + from % ring) first file → FillsAround (Err fault) ring from into file
first_fails NotAJournal ring from first into file some fits short = λ whole. absurd (omega (arith, short, whole, fits))
first_fails DiskFault ring from first into file some fits fills = tt
first_fails OtherRing ring from first into file some fits fills = absurd fills
first_fails OtherLength ring from first into file some fits fills = absurd fills
first_fails BadHead ring from first into file some fits fills = absurd fills
first_fails BadRecord ring from first into file some fits fills = absurd fills
first_fails OutOfMemory ring from first into file some fits fills = absurd fills
