-- A field of metadata that is read is the field that was written, and what was written is read again.
use Rattle.std.proofs.Common.{◌≡◌, ℕ, ◌-◌, ◌^◌, ◌<◌, ◌≤◌, Bool, true, false, cond, eqb, ltb, List, ◌++◌, length, take, Option, Some, None, Result, Ok, Err, refl, sym, ap, subst, ◌∙◌, append_assoc, arith}
use Rattle.std.specs.Prelude.{position, replicate}
use Rattle.std.specs.Int.{w32}
use Rattle.std.proofs.lemmas.Bool.{ltb-true, ltb-false, lt-ltb, le-ltb}
use Rattle.std.proofs.lemmas.List.{take_at, length-append}
use Rattle.ldm_types.specs.Info.{pad4}
use Rattle.ldm_xdr.specs.declared.fault.XdrFault.{XdrFault}
use Rattle.ldm_xdr.specs.declared.fault.XdrFault.TheVariants.{Short, TooLong, Micros}
use Rattle.ldm_xdr.specs.Fields.{number_in, padded_in}
use Rattle.ldm_xdr.specs.Spelling.{unsigned, padded, opaque}
use Rattle.ldm_xdr.specs.Reading.{cut_short, badly_padded, unless_nul, counted_text, micros_in, text_in}
use Rattle.ldm_xdr.proofs.Lengths.{length_padded}
use Rattle.ldm_xdr.proofs.FieldsFound.{IsBytes, IsBytes-take, bind_ok, guard_then, Takes, both_taken, taken_as, unsigned_found, padded_found}
use Rattle.ldm_xdr.proofs.FieldsAgain.{unsigned_again, padded_again}

abbrev pub read : {A : Type 0} → A → Result A XdrFault
read x = Ok x

pub read_is : {A : Type 0} (x y : A) → read x ≡ read y → x ≡ y
read_is x y e = cc

-- a field that was not cut short
pub not_cut : {A : Type 0} (whole : ℕ) (r : Result A ℕ) (y : A) → cut_short whole r ≡ Ok y → r ≡ Ok y
not_cut whole (Ok x) y e = ap (λ z. Ok z) (read_is x y e)
not_cut whole (Err left) y e = absurd cc

well_padded : {A : Type 0} (whole : ℕ) (r : Result A ℕ) (y : A) → badly_padded whole r ≡ Ok y → r ≡ Ok y
well_padded whole (Ok x) y e = ap (λ z. Ok z) (read_is x y e)
well_padded whole (Err left) y e = absurd cc

no_nul_found : {A : Type 0} (whole left : ℕ) (found : Option ℕ) (r : Result A XdrFault) (y : A) → unless_nul whole left found r ≡ Ok y → (found ≡ None) × (r ≡ Ok y)
no_nul_found whole left None r y e = (refl, e)
no_nul_found whole left (Some i) r y e = absurd cc

guard_ended : {A : Type 0} (b : Bool) (fault : XdrFault) (x y : A) → cond b (Ok x) (Err fault) ≡ Ok y → (b ≡ true) × (x ≡ y)
guard_ended true fault x y e = (refl, cc)
guard_ended false fault x y e = absurd cc

-- ---- microseconds

pub micros_found : (whole : ℕ) (bytes : List ℕ) (x : ℕ × List ℕ) → IsBytes bytes → micros_in whole bytes ≡ Ok x → Takes bytes (unsigned x.0) x.1 × (x.0 < 1000000)
unfolding micros_in
micros_found whole bytes x fits e =
    let b = bind_ok (cut_short whole (number_in w32 bytes)) (λ micros. cond (ltb micros.0 1000000) (Ok micros) (Err (Micros (whole - length bytes)))) x e in
    let g = guard_ended (ltb b.0.0 1000000) (Micros (whole - length bytes)) b.0 x b.2 in
    let field = unsigned_found bytes b.0 fits (not_cut whole (number_in w32 bytes) b.0 b.1) in
    subst (λ (y : ℕ × List ℕ). Takes bytes (unsigned y.0) y.1 × (y.0 < 1000000)) g.1 (field.0, ltb-true b.0.0 1000000 g.0)

pub micros_again : (whole n : ℕ) (rest : List ℕ) → n < 1000000 → micros_in whole (unsigned n ++ rest) ≡ Ok (n, rest)
unfolding micros_in
micros_again whole n rest lt = rw (unsigned_again n rest (omega arith), lt-ltb n 1000000 lt) refl

-- ---- strings

-- what a string that was read is
pub record IsText (limit : ℕ) (text : List ℕ) : Type 0 where
  pub short : length text ≤ limit
  pub no_nul : position (λ byte. eqb byte 0) text ≡ None

pub text_found : (whole limit : ℕ) (bytes : List ℕ) (x : List ℕ × List ℕ) → IsBytes bytes → text_in whole limit bytes ≡ Ok x
    → Takes bytes (opaque x.0) x.1 × IsText limit x.0 × IsBytes x.0
unfolding text_in opaque
text_found whole limit bytes x fits e =
    let a = bind_ok (cut_short whole (number_in w32 bytes)) (λ count. counted_text whole limit (length bytes) count.0 count.1) x e in
    let n = a.0.0 in
    let left = a.0.1 in
    let count = unsigned_found bytes a.0 fits (not_cut whole (number_in w32 bytes) a.0 a.1) in
    let within = guard_then (ltb limit n) (TooLong (whole - length bytes)) _ x a.2 in
    let long = guard_then (ltb (length left) (pad4 n)) (Short (whole - length bytes)) _ x within.1 in
    let clean = no_nul_found whole (length left) (position (λ byte. eqb byte 0) (take n left)) (badly_padded whole (padded_in (length bytes) n left)) x long.1 in
    let body = padded_found (length bytes) n left x count.0.rest_fits (well_padded whole (padded_in (length bytes) n left) x clean.1) in
    let zeros : List ℕ = replicate (pad4 (length x.0) - length x.0) 0 in
    let text_is : take n left ≡ x.0 = ap (take n) (body.0.parts ∙ append_assoc x.0 zeros x.1) ∙ take_at x.0 (zeros ++ x.1) n body.1 in
    let counted : Takes bytes (unsigned (length x.0)) left = taken_as bytes (unsigned n) (unsigned (length x.0)) left (ap (λ k. unsigned k) (sym body.1)) count.0 in (
      both_taken bytes (unsigned (length x.0)) left (padded x.0) x.1 counted body.0,
      record { short = omega (arith, body.1, ltb-false limit n within.0); no_nul = ap (position (λ byte. eqb byte 0)) (sym text_is) ∙ clean.0 },
      subst (λ (y : List ℕ). IsBytes y) text_is (IsBytes-take n left count.0.rest_fits),
    )

pub text_again : (whole limit : ℕ) (text rest : List ℕ) → limit < 2 ^ 32 → IsText limit text → text_in whole limit (opaque text ++ rest) ≡ Ok (text, rest)
unfolding text_in opaque
text_again whole limit text rest small fits =
    let n = length text in
    let zeros : List ℕ = replicate (pad4 (length text) - length text) 0 in
    let regrouped : opaque text ++ rest ≡ unsigned n ++ (padded text ++ rest) = append_assoc (unsigned n) (padded text) rest in
    let first = unsigned_again n (padded text ++ rest) (omega (arith, fits.short)) in
    let short : ltb limit n ≡ false = le-ltb _ _ fits.short in
    let long : ltb (length (padded text ++ rest)) (pad4 n) ≡ false = le-ltb _ _ (omega (arith, length-append (padded text) rest, length_padded text)) in
    let front : take n (padded text ++ rest) ≡ text = ap (take n) (append_assoc text zeros rest) ∙ take_at text (zeros ++ rest) n refl in
    let no_nul : position (λ byte. eqb byte 0) (take n (padded text ++ rest)) ≡ None = ap (position (λ byte. eqb byte 0)) front ∙ fits.no_nul in
    ap (text_in whole limit) regrouped ∙ rw (first, short, long, no_nul, padded_again (length (unsigned n ++ (padded text ++ rest))) n text rest refl) refl
