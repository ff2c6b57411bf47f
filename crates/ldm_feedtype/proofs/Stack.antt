-- The places that a reader keeps, the innermost last, as the definition has them, the innermost first.
use Rattle.std.proofs.Common.{◌≡◌, ℕ, ◌<◌, List, [], ◌∷◌, ◌++◌, map, reverse, length, false, ◌||◌, eqb, Ok, sym, ap, ◌∙◌}
use Rattle.std.proofs.Math.Path.{fun_ext}
use Rattle.std.proofs.lemmas.Bool.{cond_below}
use Rattle.std.proofs.lemmas.List.{reverse-append, length-reverse, length-map}
use Rattle.std.proofs.lemmas.Nat.Bits.{bit_at-zero}
use Rattle.ldm_feedtype.specs.declared.reader.TheConstants.{MOST_OPEN}
use Rattle.ldm_feedtype.specs.declared.reader.Operator.TheVariants.{Union}
use Rattle.ldm_feedtype.specs.declared.reader.Pending.{Pending}
use Rattle.ldm_feedtype.specs.Kept.{place_of}
use Rattle.ldm_feedtype.specs.Reading.{Place, Wanted, whole, opened}

abbrev pub places : List Pending → List Place
places kept = map place_of (reverse kept)

abbrev pub beginning : Pending
beginning = record { left = 0; operator = Union; inverted = false }

pub places-push : (kept : List Pending) (last : Pending) → places (kept ++ last ∷ []) ≡ place_of last ∷ places kept
places-push kept last = ap (map place_of) (reverse-append kept (last ∷ []))

-- what joins nothing on its left is itself
pub place_of-beginning : place_of beginning ≡ whole
place_of-beginning = fun_ext (λ set. fun_ext (λ k. ap (λ x. eqb x 1 || set k) (bit_at-zero k)))

-- a parenthesis that there is room for
pub opened-push : (at : ℕ) (kept now : List Pending) (last : Pending) → length kept < MOST_OPEN → now ≡ kept ++ last ∷ []
    → opened at (place_of last) (places kept) ≡ Ok (Wanted (place_of beginning) (places now))
opened-push at kept now last room pushed =
    let short : length (places kept) < MOST_OPEN = rw (length-map, length-reverse) room in
    sym (cond_below (length (places kept)) MOST_OPEN _ _ short)
    ∙ ap (λ (place : Place). Ok (Wanted place (place_of last ∷ places kept))) (sym place_of-beginning)
    ∙ ap (λ (outer : List Place). Ok (Wanted (place_of beginning) outer)) (sym (places-push kept last) ∙ ap places (sym pushed))
