-- Records, their parts and their lengths.
use Rattle.std.proofs.Common.{◌≡◌, ℕ, ◌+◌, ◌≤◌, List, [], ◌∷◌, ◌++◌, length, refl, ◌∙◌, ap, arith}
use Rattle.std.specs.List.{AllByRecursion}
use Rattle.std.proofs.lemmas.List.{append-nil, length-append}
use Rattle.std.proofs.lemmas.List.Concat.{flat_map-append}
use Rattle.md5.specs.Md5.{md5}
use Rattle.md5.proofs.StandardFacts.{length-md5}
use Rattle.ldm_types.specs.Info.{Metadata, metadata_len}
use Rattle.ldm_xdr.specs.Spelling.{spelling}
use Rattle.ldm_xdr.proofs.Whole.{length-spelling}
use Rattle.ldm_journal.specs.Records.{Kept, eight, head_bytes, counted, record_bytes, records_of, size_of, IsLawful, AreRising}

-- the record of a product, by its parts
pub record_is : (k : Kept) → record_bytes k ≡ (head_bytes k.number k.time k.info ++ k.body) ++ md5 (head_bytes k.number k.time k.info ++ k.body)
unfolding record_bytes counted
record_is k = refl

pub record_counted : (k : Kept) → record_bytes k ≡ counted k ++ md5 (counted k)
unfolding record_bytes
record_counted k = refl

pub counted_is : (k : Kept) → counted k ≡ head_bytes k.number k.time k.info ++ k.body
unfolding counted
counted_is k = refl

pub length-eight : (n : ℕ) → length (eight n) ≡ 8
length-eight n = refl

-- the first number of a head, and what is behind it
pub head_is : (number time : ℕ) (info : Metadata)
    → head_bytes number time info ≡ ((eight (16 + metadata_len info + info.size) ++ eight number) ++ eight time) ++ spelling info
unfolding head_bytes
head_is number time info = refl

pub length-head : (number time : ℕ) (info : Metadata) → length info.signature ≡ 16 → length (head_bytes number time info) ≡ 24 + metadata_len info
length-head number time info signature =
    let a = eight (16 + metadata_len info + info.size) in
    let b = eight number in
    let c = eight time in
    ap length (head_is number time info)
    ∙ omega (arith, length-append ((a ++ b) ++ c) (spelling info), length-append (a ++ b) c, length-append a b, length-eight (16 + metadata_len info + info.size), length-eight number, length-eight time, length-spelling info signature)

pub length-counted : (k : Kept) → IsLawful k → length (counted k) ≡ 24 + metadata_len k.info + k.info.size
length-counted k lawful =
    ap length (counted_is k)
    ∙ omega (arith, length-append (head_bytes k.number k.time k.info) k.body, length-head k.number k.time k.info lawful.info.signature, lawful.body)

pub length-record : (k : Kept) → IsLawful k → length (record_bytes k) ≡ 40 + metadata_len k.info + k.info.size
length-record k lawful =
    ap length (record_counted k) ∙ omega (arith, length-append (counted k) (md5 (counted k)), length-counted k lawful, length-md5 (counted k))

pub records-append : (xs ys : List Kept) → records_of (xs ++ ys) ≡ records_of xs ++ records_of ys
records-append xs ys = flat_map-append record_bytes xs ys

pub records-push : (xs : List Kept) (k : Kept) → records_of (xs ++ k ∷ []) ≡ records_of xs ++ record_bytes k
records-push xs k = records-append xs (k ∷ []) ∙ ap (λ (l : List ℕ). records_of xs ++ l) (append-nil (record_bytes k))

pub size-append : (xs ys : List Kept) → size_of (xs ++ ys) ≡ size_of xs + size_of ys
size-append xs ys = ap length (records-append xs ys) ∙ length-append (records_of xs) (records_of ys)

-- what holds of each of two lists
pub lawful_both : (xs ys : List Kept) → AllByRecursion IsLawful xs → AllByRecursion IsLawful ys → AllByRecursion IsLawful (xs ++ ys)
lawful_both [] ys first next = next
lawful_both (k ∷ xs) ys first next = (first.0, lawful_both xs ys first.1 next)

pub rising_more : (from : ℕ) (xs : List Kept) (k : Kept) (below : ℕ) → AreRising from xs below → below ≤ k.number → AreRising from (xs ++ k ∷ []) (k.number + 1)
rising_more from [] k below rising le = (omega (arith, rising, le), omega arith)
rising_more from (x ∷ xs) k below rising le = (rising.0, rising_more (x.number + 1) xs k below rising.1 le)
