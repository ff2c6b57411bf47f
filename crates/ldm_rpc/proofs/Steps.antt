-- One byte of a header and a run of a fragment are the bytes that they are, one after another.
use Rattle.std.proofs.Common.{◌≡◌, ℕ, zero, suc, ◌+◌, ◌-◌, ◌*◌, ◌^◌, ◌<◌, ◌≤◌, Bool, true, List, [], ◌∷◌, ◌++◌, length, get_or, take, drop, refl, sym, ap, subst, ◌∙◌, append_assoc, add-one, arith}
use Rattle.std.proofs.Math.Nat.{pow-suc}
use Rattle.std.proofs.lemmas.Bool.{ne_eqb}
use Rattle.std.proofs.lemmas.List.{take-append-drop, length-take}
use Rattle.ldm_rpc.specs.declared.stage.Stage.{Stage}
use Rattle.ldm_rpc.specs.declared.stage.Stage.TheVariants.{Fragment}
use Rattle.ldm_rpc.specs.Reading.{Reading, after, after_byte, bytes_taken, is_open, stage_before}
use Rattle.ldm_rpc.specs.Taking.{TakesFront}

-- one more byte of a number of so many bytes
pub one_more_digit : (came number byte : ℕ) → number < 256 ^ came → byte < 256 → number * 256 + byte < 256 ^ (came + 1)
one_more_digit came number byte small fits =
    rw (add-one came, pow-suc 256 came) (omega arith)

pub four_digits : (came number byte : ℕ) → came < 4 → number < 256 ^ came → byte < 256 → number * 256 + byte < 2 ^ 32
four_digits zero number byte lt small fits = omega arith
four_digits (suc zero) number byte lt small fits = omega arith
four_digits (suc (suc zero)) number byte lt small fits = omega arith
four_digits (suc (suc (suc zero))) number byte lt small fits = omega arith
four_digits (suc (suc (suc (suc came)))) number byte lt small fits = absurd (omega arith)

pub taken_open : (s : Reading) (byte : ℕ) (bytes : List ℕ) → is_open s ≡ true → bytes_taken s (byte ∷ bytes) ≡ 1 + bytes_taken (after_byte s byte) bytes
unfolding bytes_taken
taken_open s byte bytes unended = rw unended refl

pub takes_byte : (s t : Reading) (piece : List ℕ) → is_open s ≡ true → 0 < length piece → t ≡ after_byte s (get_or piece 0 0) → TakesFront s piece 1 t
unfolding after
takes_byte s t [] unended some e = absurd (omega arith)
takes_byte s t (byte ∷ bytes) unended some e = record {
  some = omega arith;
  within = omega arith;
  rest = ap (λ (r : Reading). after r bytes) (sym e);
  count = taken_open s byte bytes unended ∙ ap (λ (r : Reading). 1 + bytes_taken r bytes) (sym e);
}

abbrev pub at_stage : ℕ → List ℕ → ℕ → Stage → Reading
at_stage limit content place stage = record { limit = limit; content = content; next_header_at = place; stage = stage }

-- the first byte of a fragment's run
first : (limit : ℕ) (content : List ℕ) (place left : ℕ) (last : Bool) (byte : ℕ) (bytes : List ℕ)
    → (after (at_stage limit content place (Fragment left last)) (byte ∷ bytes) ≡ after (at_stage limit (content ++ byte ∷ []) place (stage_before (left - 1) last)) bytes)
    × (bytes_taken (at_stage limit content place (Fragment left last)) (byte ∷ bytes)
    ≡ 1 + bytes_taken (at_stage limit (content ++ byte ∷ []) place (stage_before (left - 1) last)) bytes)
unfolding after after_byte bytes_taken
first limit content place left last byte bytes = (refl, refl)

pub takes_run : (limit : ℕ) (content : List ℕ) (place left : ℕ) (last : Bool) (byte : ℕ) (run rest : List ℕ) → length run < left
    → (after (at_stage limit content place (Fragment left last)) ((byte ∷ run) ++ rest)
    ≡ after (at_stage limit (content ++ byte ∷ run) place (stage_before (left - (1 + length run)) last)) rest)
    × (bytes_taken (at_stage limit content place (Fragment left last)) ((byte ∷ run) ++ rest)
    ≡ 1 + length run + bytes_taken (at_stage limit (content ++ byte ∷ run) place (stage_before (left - (1 + length run)) last)) rest)
takes_run limit content place left last byte [] rest short = first limit content place left last byte rest
takes_run limit content place left last byte (next ∷ run) rest short =
    let f = first limit content place left last byte ((next ∷ run) ++ rest) in
    let more : stage_before (left - 1) last ≡ Fragment (left - 1) last = rw (ne_eqb (left - 1) 0 (omega arith)) refl in
    let ih = takes_run limit (content ++ byte ∷ []) place (left - 1) last next run rest (omega arith) in
    let joined : (content ++ byte ∷ []) ++ next ∷ run ≡ content ++ byte ∷ next ∷ run = append_assoc content (byte ∷ []) (next ∷ run) in
    let count : left - 1 - (1 + length run) ≡ left - (1 + length (next ∷ run)) = omega arith in
    let start : at_stage limit (content ++ byte ∷ []) place (stage_before (left - 1) last)
    ≡ at_stage limit (content ++ byte ∷ []) place (Fragment (left - 1) last) = ap (at_stage limit (content ++ byte ∷ []) place) more in
    let end : at_stage limit ((content ++ byte ∷ []) ++ next ∷ run) place (stage_before (left - 1 - (1 + length run)) last)
    ≡ at_stage limit (content ++ byte ∷ next ∷ run) place (stage_before (left - (1 + length (next ∷ run))) last) = rw (joined, count) refl in (
      f.0 ∙ ap (λ (r : Reading). after r ((next ∷ run) ++ rest)) start ∙ ih.0 ∙ ap (λ (r : Reading). after r rest) end,
      f.1 ∙ ap (λ (r : Reading). 1 + bytes_taken r ((next ∷ run) ++ rest)) start ∙ ap (λ n. 1 + n) ih.1
          ∙ ap (λ (r : Reading). 1 + (1 + length run + bytes_taken r rest)) end ∙ omega arith,
    )

-- a run of the fragment in hand, of a piece that begins with it
pub takes_content : (limit : ℕ) (content : List ℕ) (place left : ℕ) (last : Bool) (piece : List ℕ) (n : ℕ) → 0 < n → n ≤ length piece → n ≤ left
    → TakesFront (at_stage limit content place (Fragment left last)) piece n (at_stage limit (content ++ take n piece) place (stage_before (left - n) last))
takes_content limit content place left last [] n some within room = absurd (omega arith)
takes_content limit content place left last (byte ∷ bytes) zero some within room = absurd (omega arith)
takes_content limit content place left last (byte ∷ bytes) (suc n) some within room =
    let len : length (take n bytes) ≡ n = omega (arith, length-take n bytes) in
    let parts : (byte ∷ take n bytes) ++ drop n bytes ≡ byte ∷ bytes = ap (λ (x : List ℕ). byte ∷ x) (take-append-drop n bytes) in
    let run = takes_run limit content place left last byte (take n bytes) (drop n bytes) (omega arith) in
    let count : 1 + length (take n bytes) ≡ suc n = omega arith in
    let start = at_stage limit content place (Fragment left last) in
    let end : at_stage limit (content ++ byte ∷ take n bytes) place (stage_before (left - (1 + length (take n bytes))) last)
    ≡ at_stage limit (content ++ byte ∷ take n bytes) place (stage_before (left - suc n) last) = rw count refl in
    record {
      some = omega arith;
      within = omega arith;
      rest = ap (after start) (sym parts) ∙ run.0 ∙ ap (λ (r : Reading). after r (drop n bytes)) end;
      count = ap (bytes_taken start) (sym parts) ∙ run.1 ∙ ap (λ (r : Reading). 1 + length (take n bytes) + bytes_taken r (drop n bytes)) end
          ∙ ap (λ k. k + bytes_taken (at_stage limit (content ++ byte ∷ take n bytes) place (stage_before (left - suc n) last)) (drop n bytes)) count;
    }

-- a reader within a fragment that has taken a run of it
pub takes_some_content : (limit : ℕ) (before behind : List ℕ) (place : ℕ) (stage ended : Stage) (old : Reading) (left : ℕ) (last : Bool) (piece : List ℕ) (n : ℕ)
    → at_stage limit before place stage ≡ old → old.stage ≡ Fragment left last → 0 < n → n ≤ length piece → n ≤ left
    → behind ≡ before ++ take n piece → ended ≡ stage_before (left - n) last → TakesFront old piece n (at_stage limit behind place ended)
takes_some_content limit before behind place stage ended old left last piece n is in_fragment some within room content end =
    let there : stage ≡ Fragment left last = ap (λ (r : Reading). r.stage) is ∙ in_fragment in
    let from : at_stage limit before place (Fragment left last) ≡ old = ap (at_stage limit before place) (sym there) ∙ is in
    let to : at_stage limit (before ++ take n piece) place (stage_before (left - n) last) ≡ at_stage limit behind place ended = rw (content, end) refl in
    subst (λ (r : Reading). TakesFront r piece n (at_stage limit behind place ended)) from
    (subst (λ (r : Reading). TakesFront (at_stage limit before place (Fragment left last)) piece n r) to (takes_content limit before place left last piece n some within room))
