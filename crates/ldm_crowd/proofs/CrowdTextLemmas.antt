-- Texts that are written one behind another: for the answers of a crowd.
use Rattle.std.proofs.Common.{◌≡◌, ℕ, ◌+◌, ◌<◌, ◌≤◌, List, [], ◌∷◌, ◌++◌, length, get_or, take, drop, map, Result, Ok, Err, sym, ap, subst, ◌∙◌, append_assoc}
use Rattle.std.specs.List.{concat}
use Rattle.std.proofs.lemmas.List.{append-nil, map-append, take-append-drop, take_more}
use Rattle.std.proofs.lemmas.List.Folds.{concat-append}
use Rattle.ldm_outside.specs.declared.io.SinkFailed.{SinkFailed}
use Rattle.ldm_outside.specs.Count.{Rose}
use Rattle.ldm_outside.specs.Io.{SinkRecord, Takes, WritesFront, WritesAll}
use Rattle.ldm_outside.proofs.CallerLemmas.{Rose-later, Takes-then, WritesFront-behind}

module _ {A : Type 0} (text : A → List ℕ) where
  -- the texts of all, one behind another
  abbrev joined : List A → List ℕ
  joined xs = concat (map text xs)

  joined-append : (xs ys : List A) → joined (xs ++ ys) ≡ joined xs ++ joined ys
  joined-append xs ys = ap concat (map-append text xs ys) ∙ concat-append (map text xs) (map text ys)

  -- one text more
  joined-more : (xs : List A) (i : ℕ) (x : A) → i < length xs → x ≡ get_or xs i x → joined (take (i + 1) xs) ≡ joined (take i xs) ++ text x
  joined-more xs i x h is =
      ap joined (take_more xs i x h)
      ∙ joined-append (take i xs) (get_or xs i x ∷ [])
      ∙ ap (λ (t : List ℕ). joined (take i xs) ++ t) (append-nil (text (get_or xs i x)) ∙ ap text (sym is))

  -- the texts behind one
  joined-from : (xs : List A) (i : ℕ) (x : A) → i < length xs → x ≡ get_or xs i x → (joined (take i xs) ++ text x) ++ joined (drop (i + 1) xs) ≡ joined xs
  joined-from xs i x h is =
      sym (ap (λ (t : List ℕ). t ++ joined (drop (i + 1) xs)) (joined-more xs i x h is))
      ∙ sym (joined-append (take (i + 1) xs) (drop (i + 1) xs))
      ∙ ap joined (take-append-drop (i + 1) xs)

  -- the text at a place was taken
  pub one_taken : (xs : List A) (i : ℕ) (x : A) (old mid new : SinkRecord) → i < length xs → x ≡ get_or xs i x → Takes old (joined (take i xs)) mid → Takes mid (text x) new → Takes old (joined (take (i + 1) xs)) new
  one_taken xs i x old mid new h is before here =
      subst (λ (t : List ℕ). Takes old t new) (sym (joined-more xs i x h is)) (Takes-then old mid new (joined (take i xs)) (text x) before here)

  -- the sink failed at the text at a place
  pub one_fails : (xs : List A) (i : ℕ) (x : A) (old mid new : SinkRecord) → i < length xs → x ≡ get_or xs i x → Takes old (joined (take i xs)) mid → old.faults ≤ mid.faults → Rose mid.faults new.faults → WritesFront mid (text x) new → Rose old.faults new.faults × WritesFront old (joined xs) new
  one_fails xs i x old mid new h is before kept rose front = (
    Rose-later old.faults mid.faults new.faults kept rose,
    subst (λ (t : List ℕ). WritesFront old t new) (joined-from xs i x h is) (WritesFront-behind old mid new (joined (take i xs)) (text x) (joined (drop (i + 1) xs)) before front),
  )

-- a front of a text is one of a longer text
pub WritesFront-more : (old new : SinkRecord) (text behind : List ℕ) → WritesFront old text new → WritesFront old (text ++ behind) new
WritesFront-more old new text behind w = (w.0, w.1 ++ behind, sym (append_assoc w.0 w.1 behind) ∙ ap (λ (t : List ℕ). t ++ behind) w.2, w.3)

-- a text was taken, and then another was written
pub WritesAll-then : (result : Result (Unit {0}) SinkFailed) (old mid new : SinkRecord) (first second : List ℕ) → Takes old first mid → old.faults ≤ mid.faults → WritesAll result second mid new → WritesAll result (first ++ second) old new
WritesAll-then (Ok done) old mid new first second taken kept w = Takes-then old mid new first second taken w
WritesAll-then (Err failed) old mid new first second taken kept w =
    let front = w.1 in (
      Rose-later old.faults mid.faults new.faults kept w.0,
      (first ++ front.0, front.1, append_assoc first front.0 front.1 ∙ ap (λ (t : List ℕ). first ++ t) front.2, Takes-then old mid new first front.0 taken front.3),
    )
