-- Bytes are the records of one list of products at most.
use Rattle.std.proofs.Common.{◌≡◌, ℕ, ◌+◌, ◌^◌, ◌<◌, ◌≤◌, List, [], ◌∷◌, ◌++◌, length, take, drop, refl, sym, ◌∙◌, ap, arith}
use Rattle.std.specs.Int.{w64, from_be_bytes}
use Rattle.std.specs.List.{AllByRecursion}
use Rattle.std.proofs.lemmas.List.{append_assoc, length-append, take_at, drop_at}
use Rattle.std.proofs.lemmas.Nat.{from_be_bytes-to_be_bytes_8}
use Rattle.md5.specs.Md5.{md5}
use Rattle.ldm_types.specs.Info.{Metadata, metadata_len}
use Rattle.ldm_xdr.proofs.Whole.{spelled_once}
use Rattle.ldm_journal.specs.Records.{Kept, eight, counted, record_bytes, records_of, IsLawful}
use Rattle.ldm_journal.specs.Format.{Holds, place_of, selected, front_at, used_at}
use Rattle.ldm_journal.specs.declared.places.TheConstants.{LARGEST_RING}
use Rattle.ldm_journal.proofs.Around.{length-around}
use Rattle.ldm_journal.proofs.RecordLemmas.{length-record, length-counted, length-eight, record_counted}
use Rattle.ldm_journal.proofs.ReadLemmas.{record_begins, tail_of, least_record}
use Rattle.ldm_journal.specs.declared.entry.Entry.{Entry}
use Rattle.std.specs.Prelude.{IfSome, Option, Some, None}
use Rattle.ldm_journal.specs.Reading.{JudgesCounted, TellsRecord, kept_of}
use Rattle.ldm_journal.proofs.JudgeLemmas.{cut_sum, has_parts, same_entry}

-- the first number of a record, which says how long it is
first_number : (k : Kept) (rest : List ℕ) → take 8 (record_bytes k ++ rest) ≡ eight (16 + metadata_len k.info + k.info.size)
first_number k rest =
    let a = 16 + metadata_len k.info + k.info.size in
    ap (λ (l : List ℕ). take 8 (l ++ rest)) (record_begins k) ∙ ap (λ (l : List ℕ). take 8 l) (append_assoc (eight a) (tail_of k) rest)
    ∙ take_at (eight a) (tail_of k ++ rest) 8 (length-eight a)

-- lengths of records are in their type
pub record Small (k : Kept) : Type 0 where
  pub small : 16 + metadata_len k.info + k.info.size < 2 ^ 64

abbrev made : ℕ → ℕ → Metadata → List ℕ → Kept
made number time info body = record { number = number; time = time; info = info; body = body }

same_kept : (a b : Kept) → a.number ≡ b.number → a.time ≡ b.time → a.info ≡ b.info → a.body ≡ b.body → a ≡ b
same_kept a b number time info body =
    ap (λ (n : ℕ). made n a.time a.info a.body) number ∙ ap (λ (t : ℕ). made b.number t a.info a.body) time
    ∙ ap (λ (i : Metadata). made b.number b.time i a.body) info ∙ ap (λ (d : List ℕ). made b.number b.time b.info d) body

-- bytes are those of one product at most, but for the sum
one_counted : (a b : Kept) → IsLawful a → IsLawful b → counted a ≡ counted b → a ≡ b
one_counted a b la lb same =
    let pa = has_parts a (counted a) la refl in
    let pb = has_parts b (counted a) lb same in
    let texts = spelled_once a.info b.info a.body b.body la.info lb.info (sym pa.rest ∙ pb.rest) in
    same_kept a b (sym pa.number ∙ pb.number) (sym pa.time ∙ pb.time) texts.0 texts.1

-- the product of which bytes are the record was told without the sum
told_so : (entry : Entry) (front sum bytes : List ℕ) → JudgesCounted (Some entry) front → bytes ≡ front ++ sum → length sum ≡ 16 → TellsRecord (Some entry) bytes
told_so entry front sum bytes judged is long k lawful whole =
    let cut = cut_sum k front sum long (sym is ∙ whole) in
    one_counted k (kept_of entry front) lawful judged.0 (sym cut.0 ∙ judged.1) ∙ sym (ap (λ (l : List ℕ). kept_of entry l) is ∙ same_entry entry front sum judged.2)

pub told : (result : Option Entry) (front sum bytes : List ℕ) → JudgesCounted result front → bytes ≡ front ++ sum → length sum ≡ 16 → TellsRecord result bytes
told (Some entry) front sum bytes judged is long = told_so entry front sum bytes judged is long
told None front sum bytes judged is long = λ k lawful whole. judged k lawful (cut_sum k front sum long (sym is ∙ whole)).0

pub has_body : (result : Option Entry) (front sum bytes : List ℕ) → JudgesCounted result front → bytes ≡ front ++ sum
    → IfSome result (λ entry. entry.body_at + entry.info.size ≤ length bytes)
has_body (Some entry) front sum bytes judged is = omega (arith, judged.2, ap length is, length-append front sum)
has_body None front sum bytes judged is = tt

pub one_record : (a b : Kept) (x y : List ℕ) → IsLawful a → IsLawful b → Small a → Small b → record_bytes a ++ x ≡ record_bytes b ++ y → (a ≡ b) × (x ≡ y)
one_record a b x y la lb sa sb is =
    let na = 16 + metadata_len a.info + a.info.size in
    let nb = 16 + metadata_len b.info + b.info.size in
    let firsts : eight na ≡ eight nb = sym (first_number a x) ∙ ap (λ (l : List ℕ). take 8 l) is ∙ first_number b y in
    let count : na ≡ nb = sym (from_be_bytes-to_be_bytes_8 na sa.small) ∙ ap (λ (l : List ℕ). from_be_bytes w64 l) firsts ∙ from_be_bytes-to_be_bytes_8 nb sb.small in
    let long : length (record_bytes a) ≡ length (record_bytes b) = omega (arith, count, length-record a la, length-record b lb) in
    let n = length (record_bytes a) in
    let whole : record_bytes a ≡ record_bytes b =
    sym (take_at (record_bytes a) x n refl) ∙ ap (λ (l : List ℕ). take n l) is ∙ take_at (record_bytes b) y n (sym long) in
    let rests : x ≡ y = sym (drop_at (record_bytes a) x n refl) ∙ ap (λ (l : List ℕ). drop n l) is ∙ drop_at (record_bytes b) y n (sym long) in
    let m = length (counted a) in
    let same : m ≡ length (counted b) = omega (arith, count, length-counted a la, length-counted b lb) in
    let fronts : counted a ≡ counted b =
    sym (take_at (counted a) (md5 (counted a)) m refl) ∙ ap (λ (l : List ℕ). take m l) (sym (record_counted a) ∙ whole ∙ record_counted b) ∙ take_at (counted b) (md5 (counted b)) m (sym same) in
    (one_counted a b la lb fronts, rests)

pub small : (k : Kept) (xs : List Kept) → IsLawful k → length (records_of (k ∷ xs)) < 2 ^ 62 → Small k
small k xs lawful short = record { small = omega (arith, length-record k lawful, length-append (record_bytes k) (records_of xs), short) }

pub one_list : (xs ys : List Kept) → AllByRecursion IsLawful xs → AllByRecursion IsLawful ys → length (records_of xs) < 2 ^ 62 → records_of xs ≡ records_of ys → xs ≡ ys
one_list [] [] lx ly short is = refl
one_list [] (y ∷ ys) lx ly short is =
    let len : 0 ≡ length (record_bytes y) + length (records_of ys) = ap length is ∙ length-append (record_bytes y) (records_of ys) in
    absurd (omega (arith, len, least_record y ly.0))
one_list (x ∷ xs) [] lx ly short is =
    let len : length (record_bytes x) + length (records_of xs) ≡ 0 = sym (length-append (record_bytes x) (records_of xs)) ∙ ap length is in
    absurd (omega (arith, len, least_record x lx.0))
one_list (x ∷ xs) (y ∷ ys) lx ly short is =
    let same : length (records_of (y ∷ ys)) ≡ length (records_of (x ∷ xs)) = ap length (sym is) in
    let one = one_record x y (records_of xs) (records_of ys) lx.0 ly.0 (small x xs lx.0 short) (small y ys ly.0 (omega (arith, same, short))) is in
    let rest = one_list xs ys lx.1 ly.1 (omega (arith, short, length-append (record_bytes x) (records_of xs))) one.1 in
    cc (one.0, rest)

pub one_kept : (ring : ℕ) (xs ys : List Kept) (first second file : List ℕ) → ring ≤ LARGEST_RING → Holds ring xs first file → Holds ring ys second file
    → (xs ≡ ys) × (first ≡ second)
one_kept ring xs ys first second file sized a b =
    let len : length (records_of xs) ≡ used_at (place_of (selected file)) file =
    ap length (sym a.records) ∙ length-around ring (front_at (place_of (selected file)) file) (used_at (place_of (selected file)) file) file in
    (one_list xs ys a.lawful b.lawful (omega (arith, len, a.used, sized)) (sym a.records ∙ b.records), sym a.noted ∙ b.noted)
