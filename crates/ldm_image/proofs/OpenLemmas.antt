-- The head of a file, as it is read.
use Rattle.std.proofs.Common.{◌≡◌, inl, inr, ℕ, ◌+◌, min, List, length, take, replicate, sym, ap, ◌∙◌, arith}
use Rattle.std.specs.Prelude.{IfSome, Option, Some, None, Ok}
use Rattle.std.specs.List.{between}
use Rattle.std.proofs.lemmas.Bool.{cases_lt}
use Rattle.ldm_image.specs.Reading.{Fills}
use Rattle.std.proofs.lemmas.List.{take_all}
use Rattle.std.proofs.lemmas.Slice.{take-put_mid, between_from_start}
use borrow.Rule.Slice.PartMut.{put_mid}
use Rattle.ldm_disk.specs.Told.{FileRecord}

-- the first bytes of a file were read into zeros
head_read : (len n : ℕ) (into file : List ℕ) → n ≡ min len 48 → length into ≡ n → len ≡ length file → into ≡ between 0 (0 + length into) file
    → take (min len 48) (put_mid 0 n (replicate 48 0) into) ≡ take 48 file
head_read len n into file is count long read =
    let front : take (min len 48) (put_mid 0 n (replicate 48 0) into) ≡ into =
    take-put_mid 0 n (replicate 48 0) into (min len 48) (omega (arith, is, count)) (omega arith) in
    let all : take (length into) file ≡ take 48 file =
    elim (cases_lt len 48) [
      | inl short ↦ take_all (length into) file (omega (arith, is, count, long, short)) ∙ sym (take_all 48 file (omega (arith, long, short)))
      | inr enough ↦
          (let whole : length into ≡ 48 = omega (arith, is, count, enough) in
          ap (λ (k : ℕ). take k file) whole)
    ] in
    let from : 0 + length into ≡ length into = omega arith in
    front ∙ read ∙ ap (λ (k : ℕ). between 0 k file) from ∙ between_from_start file (length into) ∙ all

pub head_is : (len n : ℕ) (into : List ℕ) (done : Unit {0}) → n ≡ min len 48 → length into ≡ n → (file : Option FileRecord) → IfSome file (λ f. len ≡ length f.bytes)
    → IfSome file (λ f. Fills (Ok done) 0 into f.bytes) → IfSome file (λ f. take (min len 48) (put_mid 0 n (replicate 48 0) into) ≡ take 48 f.bytes)
head_is len n into done is count None long read = tt
head_is len n into done is count (Some file) long read = head_read len n into file.bytes is count long read
