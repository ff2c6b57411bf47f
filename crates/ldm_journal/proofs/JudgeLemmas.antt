-- Bytes that are the record of a product, or of none.
use Rattle.std.proofs.Common.{◌≡◌, inl, inr, ℕ, ◌+◌, ◌-◌, ◌^◌, ◌<◌, ◌≤◌, List, ◌++◌, length, take, drop, get_or, refl, sym, ◌∙◌, ap, subst, arith}
use Rattle.std.specs.List.{between}
use Rattle.std.proofs.Math.Seq.{take-add}
use Rattle.std.proofs.lemmas.Slice.{between_is, between_to_end}
use Rattle.std.proofs.lemmas.List.{append_assoc, length-append, take-append-drop, take_at, drop_at, drop-drop, get_or_past, take-append-le}
use Rattle.std.proofs.lemmas.Nat.{from_be_bytes-to_be_bytes_8, be_bytes_8}
use Rattle.std.proofs.lemmas.Bool.{cases_lt}
use Rattle.std.proofs.lemmas.List.Edits.{get_or-between}
use Rattle.ldm_journal.proofs.Around.{length-between'}
use Rattle.md5.specs.Md5.{md5}
use Rattle.md5.proofs.StandardFacts.{length-md5}
use Rattle.ldm_types.specs.declared.limits.TheConstants.{GREATEST_INSTANT}
use Rattle.ldm_types.specs.Info.{Metadata, metadata_len}
use Rattle.ldm_xdr.specs.Spelling.{spelling, Fits}
use Rattle.ldm_journal.specs.declared.entry.Entry.{Entry}
use Rattle.ldm_journal.specs.Records.{Kept, eight, head_bytes, counted, record_bytes, IsLawful}
use Rattle.ldm_journal.specs.Format.{number_at}
use Rattle.std.specs.Prelude.{Some, Result, Ok, Err}
use Rattle.ldm_xdr.specs.declared.fault.XdrFault.{XdrFault}
use Rattle.ldm_journal.specs.Reading.{kept_of, JudgesCounted, JudgesRecord}
use Rattle.ldm_journal.proofs.RecordLemmas.{record_counted, length-counted}

-- three numbers, and what is behind them
abbrev numbered : ℕ → ℕ → ℕ → List ℕ → List ℕ
numbered a b c rest = ((eight a ++ eight b) ++ eight c) ++ rest

pub counted_begins : (k : Kept) → counted k ≡ numbered (16 + metadata_len k.info + k.info.size) k.number k.time (spelling k.info ++ k.body)
unfolding counted head_bytes
counted_begins k = append_assoc ((eight (16 + metadata_len k.info + k.info.size) ++ eight k.number) ++ eight k.time) (spelling k.info) k.body

number_first : (a b c : ℕ) (rest : List ℕ) → a < 2 ^ 64 → number_at 0 (numbered a b c rest) ≡ a
unfolding number_at
number_first a b c rest fits = from_be_bytes-to_be_bytes_8 a fits

number_second : (a b c : ℕ) (rest : List ℕ) → b < 2 ^ 64 → number_at 8 (numbered a b c rest) ≡ b
unfolding number_at
number_second a b c rest fits = from_be_bytes-to_be_bytes_8 b fits

number_third : (a b c : ℕ) (rest : List ℕ) → c < 2 ^ 64 → number_at 16 (numbered a b c rest) ≡ c
unfolding number_at
number_third a b c rest fits = from_be_bytes-to_be_bytes_8 c fits

behind_numbers : (a b c : ℕ) (rest : List ℕ) → drop 24 (numbered a b c rest) ≡ rest
behind_numbers a b c rest = refl

-- what such bytes have that are the record of a product
pub record HasParts (k : Kept) (bytes : List ℕ) : Type 0 where
  pub long : length bytes ≡ 24 + metadata_len k.info + k.info.size
  pub count : length bytes < 2 ^ 62 → number_at 0 bytes ≡ 16 + metadata_len k.info + k.info.size
  pub number : number_at 8 bytes ≡ k.number
  pub time : number_at 16 bytes ≡ k.time
  pub rest : drop 24 bytes ≡ spelling k.info ++ k.body

pub has_parts : (k : Kept) (bytes : List ℕ) → IsLawful k → bytes ≡ counted k → HasParts k bytes
has_parts k bytes lawful is =
    let a = 16 + metadata_len k.info + k.info.size in
    let rest = spelling k.info ++ k.body in
    let whole : bytes ≡ numbered a k.number k.time rest = is ∙ counted_begins k in
    let long : length bytes ≡ 24 + metadata_len k.info + k.info.size = ap length is ∙ length-counted k lawful in
    record {
      long = long;
      count = λ short. ap (λ (l : List ℕ). number_at 0 l) whole ∙ number_first a k.number k.time rest (omega (arith, long, short));
      number = ap (λ (l : List ℕ). number_at 8 l) whole ∙ number_second a k.number k.time rest (omega (arith, lawful.number));
      time = ap (λ (l : List ℕ). number_at 16 l) whole ∙ number_third a k.number k.time rest (omega (arith, lawful.time));
      rest = ap (λ (l : List ℕ). drop 24 l) whole ∙ behind_numbers a k.number k.time rest;
    }

-- bytes, by their first three numbers
cut_numbers : (bytes : List ℕ) → bytes ≡ ((between 0 8 bytes ++ between 8 16 bytes) ++ between 16 24 bytes) ++ drop 24 bytes
cut_numbers bytes =
    sym (take-append-drop 24 bytes)
    ∙ ap (λ (l : List ℕ). l ++ drop 24 bytes) (take-add 16 8 bytes ∙ ap (λ (l : List ℕ). l ++ take 8 (drop 16 bytes)) (take-add 8 8 bytes))

-- bytes that have such parts are the record
pub are_counted : (count number time len size : ℕ) (info : Metadata) (bytes : List ℕ) → eight count ≡ between 0 8 bytes → eight number ≡ between 8 16 bytes
    → eight time ≡ between 16 24 bytes → drop 24 bytes ≡ spelling info ++ drop len (drop 24 bytes) → len ≡ metadata_len info → size ≡ info.size
    → 24 + len + size ≡ length bytes → count ≡ length bytes - 8
    → bytes ≡ counted (record { number = number; time = time; info = info; body = between (24 + len) (24 + len + info.size) bytes })
are_counted count number time len size info bytes first second third rest is_len is_size whole is_count =
    let body = between (24 + len) (24 + len + info.size) bytes in
    let k : Kept = record { number = number; time = time; info = info; body = body } in
    let end : body ≡ drop (24 + len) bytes = between_to_end bytes (24 + len) (24 + len + info.size) (omega (arith, whole, is_size)) in
    let behind : drop len (drop 24 bytes) ≡ body = drop-drop len 24 bytes ∙ sym end in
    let a : count ≡ 16 + metadata_len info + info.size = omega (arith, is_count, whole, is_len, is_size) in
    cut_numbers bytes
    ∙ ap (λ (l : List ℕ). ((l ++ between 8 16 bytes) ++ between 16 24 bytes) ++ drop 24 bytes) (sym first ∙ ap eight a)
    ∙ ap (λ (l : List ℕ). ((eight (16 + metadata_len info + info.size) ++ l) ++ between 16 24 bytes) ++ drop 24 bytes) (sym second)
    ∙ ap (λ (l : List ℕ). ((eight (16 + metadata_len info + info.size) ++ eight number) ++ l) ++ drop 24 bytes) (sym third)
    ∙ ap (λ (l : List ℕ). numbered (16 + metadata_len info + info.size) number time l) (rest ∙ ap (λ (l : List ℕ). spelling info ++ l) behind)
    ∙ sym (counted_begins k)

-- bytes with the sum behind them
pub sums : (k : Kept) (front sum : List ℕ) → front ≡ counted k → sum ≡ md5 front → front ++ sum ≡ record_bytes k
sums k front sum is summed =
    ap (λ (l : List ℕ). front ++ l) summed ∙ ap (λ (l : List ℕ). l ++ md5 l) is ∙ sym (record_counted k)

pub cut_sum : (k : Kept) (front sum : List ℕ) → length sum ≡ 16 → front ++ sum ≡ record_bytes k → (front ≡ counted k) × (sum ≡ md5 (counted k))
cut_sum k front sum long is =
    let whole : front ++ sum ≡ counted k ++ md5 (counted k) = is ∙ record_counted k in
    let lens : length front + length sum ≡ length (counted k) + length (md5 (counted k)) =
    sym (length-append front sum) ∙ ap length whole ∙ length-append (counted k) (md5 (counted k)) in
    let same : length front ≡ length (counted k) = omega (arith, lens, long, length-md5 (counted k)) in (
      sym (take_at front sum (length front) refl) ∙ ap (λ (l : List ℕ). take (length front) l) whole ∙ take_at (counted k) (md5 (counted k)) (length front) (sym same),
      sym (drop_at front sum (length front) refl) ∙ ap (λ (l : List ℕ). drop (length front) l) whole ∙ drop_at (counted k) (md5 (counted k)) (length front) (sym same),
    )

-- bytes of a part are bytes
pub between_bytes : (i j : ℕ) (bytes : List ℕ) → ((k : ℕ) → get_or bytes k 0 < 256) → (k : ℕ) → get_or (between i j bytes) k 0 < 256
between_bytes i j bytes small k =
    let long = length-between' i j bytes in
    elim (cases_lt k (length (between i j bytes))) [
      | inl less ↦
          (let is : get_or (between i j bytes) k 0 ≡ get_or bytes (i + k) 0 = get_or-between bytes i j k 0 (omega (arith, less, long)) in
          omega (arith, is, small (i + k)))
      | inr past ↦ (let none : get_or (between i j bytes) k 0 ≡ 0 = get_or_past (between i j bytes) k 0 past in omega (arith, none))
    ]

-- the eight bytes that a number was read from
pub spelled_so : (n at : ℕ) (bytes : List ℕ) → at + 8 ≤ length bytes → ((k : ℕ) → get_or bytes k 0 < 256) → n ≡ number_at at bytes → eight n ≡ between at (at + 8) bytes
unfolding number_at
spelled_so n at bytes within small is =
    be_bytes_8 (between at (at + 8) bytes) n (omega (arith, length-between' at (at + 8) bytes, within)) (between_bytes at (at + 8) bytes small) is

pub lawful_entry : (number time len : ℕ) (info : Metadata) (bytes : List ℕ) → number < 2 ^ 64 - 1 → time ≤ GREATEST_INSTANT → Fits info → 24 + len + info.size ≤ length bytes
    → IsLawful (record { number = number; time = time; info = info; body = between (24 + len) (24 + len + info.size) bytes })
lawful_entry number time len info bytes numbered timed fits within = record {
  number = numbered;
  time = timed;
  info = fits;
  body = omega (arith, length-between' (24 + len) (24 + len + info.size) bytes, within);
}

abbrev with_body : Entry → List ℕ → Kept
with_body entry body = record { number = entry.number; time = entry.time; info = entry.info; body = body }

-- a body is the same where more stands behind it
pub same_entry : (entry : Entry) (front sum : List ℕ) → entry.body_at + entry.info.size ≤ length front → kept_of entry (front ++ sum) ≡ kept_of entry front
same_entry entry front sum within =
    let i = entry.body_at in
    let j = entry.body_at + entry.info.size in
    let same : between i j (front ++ sum) ≡ between i j front =
    between_is (front ++ sum) i j ∙ ap (λ (l : List ℕ). drop i l) (take-append-le j front sum within) ∙ sym (between_is front i j) in
    ap (λ (body : List ℕ). with_body entry body) same

-- bytes that were judged but for their sum, and the sum
pub judged_whole : (entry : Entry) (front sum bytes : List ℕ) → JudgesCounted (Some entry) front → bytes ≡ front ++ sum → sum ≡ md5 front → JudgesRecord (Some entry) bytes
judged_whole entry front sum bytes judged is summed =
    let k = kept_of entry front in
    let same : kept_of entry bytes ≡ k = ap (λ (l : List ℕ). kept_of entry l) is ∙ same_entry entry front sum judged.2 in (
      subst (λ (j : Kept). IsLawful j) (sym same) judged.0,
      is ∙ sums k front sum judged.1 summed ∙ ap (λ (j : Kept). record_bytes j) (sym same),
    )

-- what was read is one thing
abbrev pub read_ok : Metadata → ℕ → Result (Metadata × ℕ) XdrFault
read_ok info len = Ok (info, len)

abbrev picked : Metadata → Result (Metadata × ℕ) XdrFault → Metadata
picked other (Ok read) = read.0
picked other (Err fault) = other

pub ok_info : (a b : Metadata) (m n : ℕ) → read_ok a m ≡ read_ok b n → a ≡ b
ok_info a b m n same = ap (picked a) same
