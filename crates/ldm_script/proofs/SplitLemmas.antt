-- Texts cut at the first byte that is sought.
use Rattle.std.proofs.Common.{◌≡◌, ℕ, ◌+◌, ◌<◌, Bool, true, false, List, ◌∷◌, ◌++◌, length, get_or, take, drop, Some, None, refl, sym, ap, ◌∙◌, arith, eqb}
use Rattle.std.specs.List.{All}
use Rattle.std.proofs.lemmas.Bool.{eqb-true}
use Rattle.std.proofs.lemmas.List.{take-append-drop, drop_more, get_or-take, length-take}
use Rattle.std.proofs.lemmas.List.Elements.{All-from_get_or}
use Rattle.memchr.specs.Find.{IsFirstByte, is_byte as seeks}

-- no byte is the one that is sought
abbrev pub Lacks : ℕ → List ℕ → Type 0
Lacks c text = All (λ x. eqb x c ≡ false) text

not_true : (b : Bool) → (b ≡ true → ⊥) → b ≡ false
not_true true h = absurd (h refl)
not_true false h = refl

pub lacks-none : (c : ℕ) (text : List ℕ) → IsFirstByte (seeks c) text None → Lacks c text
lacks-none c text h = All-from_get_or (λ x. eqb x c ≡ false) text 0 (λ i within. not_true (eqb (get_or text i 0) c) (h i (omega arith) within))

-- a text, cut at its first byte that is sought
pub record CutAt (c : ℕ) (text : List ℕ) (at : ℕ) : Type 0 where
  pub within : at < length text
  pub front : Lacks c (take at text)
  pub whole : text ≡ take at text ++ c ∷ drop (at + 1) text

pub cut_at : (c : ℕ) (text : List ℕ) (at : ℕ) → IsFirstByte (seeks c) text (Some at) → CutAt c text at
cut_at c text at h =
    let within : at < length text = h.0.high in
    let found : get_or text at 0 ≡ c = eqb-true (get_or text at 0) c h.1 in
    record {
      within = within;
      front = All-from_get_or (λ x. eqb x c ≡ false) (take at text) 0 (λ i below.
          let inside : i < at = omega (arith, length-take at text) in
          rw (get_or-take at text i 0 inside) (not_true (eqb (get_or text i 0) c) (h.0.before i (omega arith) inside)));
      whole = sym (ap (λ (ys : List ℕ). take at text ++ ys) (ap (λ (y : ℕ). y ∷ drop (at + 1) text) (sym found) ∙ sym (drop_more text at 0 within)) ∙ take-append-drop at text);
    }
