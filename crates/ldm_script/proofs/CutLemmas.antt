-- Texts cut at their newlines.
use Rattle.std.proofs.Common.{◌≡◌, ℕ, Bool, true, false, cond, eqb, List, [], ◌∷◌, ◌++◌, refl, ap, ◌∙◌}
use Rattle.std.proofs.lemmas.List.{append-nil}
use Rattle.std.proofs.lemmas.List.Elements.{All-head, All-tail}
use Rattle.ldm_script.specs.Lines.{Cut, onto_line, cut}
use Rattle.ldm_script.proofs.SplitLemmas.{Lacks}

-- a cut, with something unfinished in front of it
abbrev pub joined : List ℕ → List (List ℕ) → List ℕ → Cut
joined front [] unfinished = record { lines = []; unfinished = front ++ unfinished }
joined front (line ∷ lines) unfinished = record { lines = (front ++ line) ∷ lines; unfinished = unfinished }

-- two cuts, one behind the other
abbrev pub both : Cut → Cut → Cut
both first second = record { lines = first.lines ++ (joined first.unfinished second.lines second.unfinished).lines; unfinished = (joined first.unfinished second.lines second.unfinished).unfinished }

joined-nil : (lines : List (List ℕ)) (unfinished : List ℕ) → record { lines = lines; unfinished = unfinished } ≡ joined [] lines unfinished
joined-nil [] unfinished = refl
joined-nil (line ∷ lines) unfinished = refl

onto-both : (byte : ℕ) (first second : Cut) → onto_line byte (both first second).lines (both first second).unfinished ≡ both (onto_line byte first.lines first.unfinished) second
onto-both byte first second = by_lines first.lines first.unfinished second.lines second.unfinished
  where
    by_lines : (lines : List (List ℕ)) (rest : List ℕ) (later : List (List ℕ)) (end : List ℕ) → onto_line byte (lines ++ (joined rest later end).lines) (joined rest later end).unfinished ≡ both (onto_line byte lines rest) (record { lines = later; unfinished = end })
    by_lines [] rest [] end = refl
    by_lines [] rest (line ∷ later) end = refl
    by_lines (line ∷ lines) rest later end = refl

pub cut-append : (xs ys : List ℕ) → cut (xs ++ ys) ≡ both (cut xs) (cut ys)
cut-append [] ys = joined-nil (cut ys).lines (cut ys).unfinished
cut-append (x ∷ xs) ys = by_test (eqb x 10) (cut-append xs ys)
  where
    by_test : (test : Bool) → cut (xs ++ ys) ≡ both (cut xs) (cut ys)
        → cond test (record { lines = [] ∷ (cut (xs ++ ys)).lines; unfinished = (cut (xs ++ ys)).unfinished }) (onto_line x (cut (xs ++ ys)).lines (cut (xs ++ ys)).unfinished)
        ≡ both (cond test (record { lines = [] ∷ (cut xs).lines; unfinished = (cut xs).unfinished }) (onto_line x (cut xs).lines (cut xs).unfinished)) (cut ys)
    by_test true rest = ap (λ (c : Cut). record { lines = [] ∷ c.lines; unfinished = c.unfinished }) rest
    by_test false rest = ap (λ (c : Cut). onto_line x c.lines c.unfinished) rest ∙ onto-both x (cut xs) (cut ys)

-- a text without a newline is unfinished
pub cut-plain : (text : List ℕ) → Lacks 10 text → cut text ≡ record { lines = []; unfinished = text }
cut-plain [] h = refl
cut-plain (byte ∷ bytes) h =
    let here : eqb byte 10 ≡ false = All-head (λ x. eqb x 10 ≡ false) byte bytes h in
    ap (λ (b : Bool). cond b (record { lines = [] ∷ (cut bytes).lines; unfinished = (cut bytes).unfinished }) (onto_line byte (cut bytes).lines (cut bytes).unfinished)) here
    ∙ ap (λ (c : Cut). onto_line byte c.lines c.unfinished) (cut-plain bytes (All-tail (λ x. eqb x 10 ≡ false) byte bytes h))

-- a script that goes on with the end of a line, and more behind it
pub cut-line : (script end behind : List ℕ) → Lacks 10 end → cut (script ++ (end ++ 10 ∷ behind)) ≡ record { lines = (cut script).lines ++ ((cut script).unfinished ++ end) ∷ (cut behind).lines; unfinished = (cut behind).unfinished }
cut-line script end behind h =
    let tail : cut (end ++ 10 ∷ behind) ≡ record { lines = (end ++ []) ∷ (cut behind).lines; unfinished = (cut behind).unfinished } =
    cut-append end (10 ∷ behind) ∙ ap (λ (c : Cut). both c (cut (10 ∷ behind))) (cut-plain end h) in
    cut-append script (end ++ 10 ∷ behind) ∙ ap (both (cut script)) (tail ∙ ap (λ (t : List ℕ). record { lines = t ∷ (cut behind).lines; unfinished = (cut behind).unfinished }) (append-nil end))

-- a script that goes on within a line
pub cut-within : (script more : List ℕ) → Lacks 10 more → cut (script ++ more) ≡ record { lines = (cut script).lines; unfinished = (cut script).unfinished ++ more }
cut-within script more h =
    cut-append script more ∙ ap (both (cut script)) (cut-plain more h) ∙ ap (λ (ls : List (List ℕ)). record { lines = ls; unfinished = (cut script).unfinished ++ more }) (append-nil (cut script).lines)
