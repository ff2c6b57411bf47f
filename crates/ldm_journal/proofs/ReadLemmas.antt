-- Reading records from the ring.
use Rattle.std.proofs.Common.{◌≡◌, ℕ, ◌+◌, ◌-◌, ◌<◌, ◌≤◌, List, ◌++◌, length, take, sym, ◌∙◌, ap, arith}
use Rattle.std.specs.Int.{w64, from_be_bytes}
use Rattle.std.proofs.lemmas.List.{append_assoc, length-append, take_at}
use Rattle.std.proofs.lemmas.Nat.{from_be_bytes-to_be_bytes_8}
use Rattle.md5.specs.Md5.{md5}
use Rattle.ldm_types.specs.Info.{metadata_len}
use Rattle.ldm_xdr.specs.Spelling.{spelling}
use Rattle.ldm_journal.specs.declared.places.TheConstants.{LARGEST_RING}
use Rattle.ldm_journal.specs.Records.{Kept, eight, head_bytes, counted, record_bytes, IsLawful}
use Rattle.ldm_journal.specs.Format.{around}
use Rattle.std.specs.Prelude.{Some, None, Ok, Err}
use Rattle.ldm_journal.specs.declared.entry.Entry.{Entry}
use Rattle.ldm_journal.specs.declared.fault.JournalFault.{JournalFault}
use Rattle.ldm_journal.specs.declared.fault.JournalFault.TheVariants.{NotAJournal, OtherRing, OtherLength, BadHead, BadRecord, DiskFault, OutOfMemory}
use Rattle.ldm_journal.specs.Reading.{CountsRecord, Fetches, FillsAround, HasNoRecord, JudgesRecord, ReadsRecord, TakesRecord, TellsRecord}
use Rattle.ldm_journal.proofs.Around.{length-around, take-around}
use Rattle.ldm_journal.proofs.RecordLemmas.{length-eight, length-record}

-- what stands in a record behind its first number
unfoldable pub tail_of : Kept → List ℕ
tail_of k = eight k.number ++ (eight k.time ++ (spelling k.info ++ (k.body ++ md5 (counted k))))

begins : (a b c d e f : List ℕ) → (((((a ++ b) ++ c) ++ d) ++ e) ++ f) ≡ a ++ (b ++ (c ++ (d ++ (e ++ f))))
begins a b c d e f = simp append_assoc

pub record_begins : (k : Kept) → record_bytes k ≡ eight (16 + metadata_len k.info + k.info.size) ++ tail_of k
unfolding record_bytes counted head_bytes tail_of
record_begins k = begins (eight (16 + metadata_len k.info + k.info.size)) (eight k.number) (eight k.time) (spelling k.info) k.body (md5 (counted k))

-- the length of the record at the front of bytes of a ring, by the number that stands there
pub len_read : (k : Kept) (rest : List ℕ) (ring from left count : ℕ) (bytes file : List ℕ) → IsLawful k → around ring from left file ≡ record_bytes k ++ rest → 8 ≤ left
    → left ≤ LARGEST_RING → bytes ≡ around ring from 8 file → count ≡ from_be_bytes w64 bytes → count + 24 ≡ length (record_bytes k)
len_read k rest ring from left count bytes file lawful is long small read number =
    let a = 16 + metadata_len k.info + k.info.size in
    let whole : length (record_bytes k) ≡ a + 24 = omega (arith, length-record k lawful) in
    let all : length (record_bytes k) + length rest ≡ left = sym (length-append (record_bytes k) rest) ∙ ap length (sym is) ∙ length-around ring from left file in
    let front : bytes ≡ eight a =
    read ∙ sym (take-around ring from left 8 file long) ∙ ap (λ (l : List ℕ). take 8 l) is
    ∙ ap (λ (l : List ℕ). take 8 (l ++ rest)) (record_begins k)
    ∙ ap (λ (l : List ℕ). take 8 l) (append_assoc (eight a) (tail_of k) rest)
    ∙ take_at (eight a) (tail_of k ++ rest) 8 (length-eight a) in
    let value : from_be_bytes w64 (eight a) ≡ a = from_be_bytes-to_be_bytes_8 a (omega (arith, whole, all, small)) in
    let same : count ≡ a = number ∙ ap (λ (l : List ℕ). from_be_bytes w64 l) front ∙ value in
    omega (arith, same, whole)

-- there is no room for a record
pub no_room : (k : Kept) (rest : List ℕ) (ring from left : ℕ) (file : List ℕ) → IsLawful k → around ring from left file ≡ record_bytes k ++ rest
    → length (record_bytes k) + length rest ≡ left
no_room k rest ring from left file lawful is = sym (length-append (record_bytes k) rest) ∙ ap length (sym is) ∙ length-around ring from left file

pub least_record : (k : Kept) → IsLawful k → 40 ≤ length (record_bytes k)
least_record k lawful = omega (arith, length-record k lawful)

-- the record is what stands at the front
pub record_read : (k : Kept) (rest : List ℕ) (ring from left n : ℕ) (file : List ℕ) → around ring from left file ≡ record_bytes k ++ rest → n ≡ length (record_bytes k) → n ≤ left
    → around ring from n file ≡ record_bytes k
record_read k rest ring from left n file is len le =
    sym (take-around ring from left n file le) ∙ ap (λ (l : List ℕ). take n l) is ∙ take_at (record_bytes k) rest n (sym len)

-- what a record is counted, from what was read
pub counted_so : (done : Unit {0}) (ring from left count : ℕ) (into file : List ℕ) → length into ≡ 8 → 8 ≤ left → left ≤ LARGEST_RING → count ≡ from_be_bytes w64 into
    → FillsAround (Ok done) ring from into file → CountsRecord (Ok (count + 24)) ring from left file
counted_so done ring from left count into file eight_long long small number fills k rest lawful is =
    len_read k rest ring from left count into file lawful is long small (fills ∙ ap (λ (n : ℕ). around ring from n file) eight_long) number

pub too_short : (ring from left : ℕ) (file : List ℕ) → left < 24 → CountsRecord (Err BadRecord) ring from left file
too_short ring from left file short whole k rest lawful is = omega (arith, no_room k rest ring from left file lawful is, least_record k lawful, short)

pub too_long : (done : Unit {0}) (ring from left count : ℕ) (into file : List ℕ) → length into ≡ 8 → 24 ≤ left → left ≤ LARGEST_RING → count ≡ from_be_bytes w64 into → left - 24 < count
    → FillsAround (Ok done) ring from into file → CountsRecord (Err BadRecord) ring from left file
too_long done ring from left count into file eight_long long small number over fills whole k rest lawful is =
    let len = counted_so done ring from left count into file eight_long (omega (arith, long)) small number fills k rest lawful is in
    omega (arith, len, no_room k rest ring from left file lawful is, over, long)

pub count_fails : (fault : JournalFault) (ring from left : ℕ) (into file : List ℕ) → FillsAround (Err fault) ring from into file → CountsRecord (Err fault) ring from left file
count_fails NotAJournal ring from left into file fills = λ whole k rest lawful is. fills whole
count_fails OtherRing ring from left into file fills = λ whole k rest lawful is. fills whole
count_fails OtherLength ring from left into file fills = λ whole k rest lawful is. fills whole
count_fails BadHead ring from left into file fills = λ whole k rest lawful is. fills whole
count_fails BadRecord ring from left into file fills = λ whole k rest lawful is. fills whole
count_fails OutOfMemory ring from left into file fills = λ whole k rest lawful is. fills whole
count_fails DiskFault ring from left into file fills = tt

-- the bytes of a record were read
pub fetched_so : (done : Unit {0}) (ring from left : ℕ) (into file : List ℕ) → length into ≤ left → FillsAround (Ok done) ring from into file
    → CountsRecord (Ok (length into)) ring from left file → Fetches (Ok done) ring from left into file
fetched_so done ring from left into file within fills counts = (within, fills, counts)

fetched_all : (done : Unit {0}) (ring from left : ℕ) (into file : List ℕ) (k : Kept) (rest : List ℕ) → Fetches (Ok done) ring from left into file → IsLawful k
    → around ring from left file ≡ record_bytes k ++ rest → into ≡ record_bytes k
fetched_all done ring from left into file k rest fetched lawful is =
    fetched.1 ∙ record_read k rest ring from left (length into) file is (fetched.2 k rest lawful is) fetched.0

-- they were judged
pub read_so : (done : Unit {0}) (entry : Entry) (ring from left : ℕ) (into file : List ℕ) → Fetches (Ok done) ring from left into file → JudgesRecord (Some entry) into
    → ReadsRecord (Ok entry) ring from left into file
read_so done entry ring from left into file fetched judged = (fetched.0, sym fetched.1, judged.1, judged.0)

pub read_none : (done : Unit {0}) (ring from left : ℕ) (into file : List ℕ) → Fetches (Ok done) ring from left into file → JudgesRecord None into → HasNoRecord BadRecord ring from left file
read_none done ring from left into file fetched judged whole k rest lawful is = judged k lawful (fetched_all done ring from left into file k rest fetched lawful is)

-- or their product was told
pub took : (done : Unit {0}) (entry : Entry) (ring from left : ℕ) (into file : List ℕ) → Fetches (Ok done) ring from left into file → TellsRecord (Some entry) into
    → TakesRecord (Ok entry) ring from left into file
took done entry ring from left into file fetched told =
    (fetched.0, λ k rest lawful is. (fetched.2 k rest lawful is, told k lawful (fetched_all done ring from left into file k rest fetched lawful is)))

-- they were not read
pub not_counted : (fault : JournalFault) (ring from left : ℕ) (file : List ℕ) → CountsRecord (Err fault) ring from left file → HasNoRecord fault ring from left file
not_counted NotAJournal ring from left file counts = counts
not_counted OtherRing ring from left file counts = counts
not_counted OtherLength ring from left file counts = counts
not_counted BadHead ring from left file counts = counts
not_counted BadRecord ring from left file counts = counts
not_counted OutOfMemory ring from left file counts = tt
not_counted DiskFault ring from left file counts = tt

pub not_fetched : (fault : JournalFault) (ring from left : ℕ) (into file : List ℕ) → FillsAround (Err fault) ring from into file → HasNoRecord fault ring from left file
not_fetched fault ring from left into file fills = not_counted fault ring from left file (count_fails fault ring from left into file fills)
