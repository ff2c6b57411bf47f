-- Fields that are taken off a line.
use Rattle.std.proofs.Common.{◌≡◌, ℕ, List, [], ◌∷◌, ◌++◌, Option, Some, None, Ok, Err, sym, ap, ◌∙◌}
use Rattle.std.proofs.lemmas.List.{append-nil}
use Rattle.ldm_script.specs.Fields.{Left, or_bad, behind_field, field, first_field}
use Rattle.ldm_script.specs.FieldReads.{TakesField}
use Rattle.ldm_script.specs.Split.{Lacks}
use Rattle.ldm_script.proofs.Splitting.{first_field-front, behind_field-front}

pub field_reads : {A : Type 0} (read : List ℕ → Option A) (old : Left) (text : List ℕ) (left : ℕ) (new : Left) (x : A) → TakesField old text left new → read text ≡ Some x
    → field read old ≡ Ok (x, new)
field_reads {A} read old text left new x taken is =
    ap (field read) taken.old_is ∙ ap (λ (o : Option A). or_bad taken.rest o) (ap read (sym taken.text_is) ∙ is) ∙ ap (λ (n : Left). Ok (x, n)) (sym taken.new_is)

pub field_refuses : {A : Type 0} (read : List ℕ → Option A) (old : Left) (text : List ℕ) (left : ℕ) (new : Left) → TakesField old text left new → read text ≡ None → field read old ≡ Err left
field_refuses {A} read old text left new taken is =
    ap (field read) taken.old_is ∙ ap (λ (o : Option A). or_bad taken.rest o) (ap read (sym taken.text_is) ∙ is) ∙ ap (λ (n : ℕ). Err n) (sym taken.left_is)

pub field_missing : {A : Type 0} (read : List ℕ → Option A) (old : Left) (bad : ℕ) → old ≡ None → bad ≡ 0 → field read old ≡ Err bad
field_missing read old bad none is = ap (field read) none ∙ ap (λ (n : ℕ). Err n) (sym is)

-- a field at the front of a line, and the last one
pub field_then : {A : Type 0} (read : List ℕ → Option A) (text behind : List ℕ) (x : A) → Lacks 32 text → read text ≡ Some x → field read (Some (text ++ 32 ∷ behind)) ≡ Ok (x, Some behind)
field_then {A} read text behind x solid is =
    let line = text ++ 32 ∷ behind in
    ap (λ (o : Option A). or_bad line o) (ap read (first_field-front text (32 ∷ behind) solid ∙ append-nil text) ∙ is)
    ∙ ap (λ (left : Left). Ok (x, left)) (behind_field-front text (32 ∷ behind) solid)

pub field_last : {A : Type 0} (read : List ℕ → Option A) (text : List ℕ) (x : A) → Lacks 32 text → read text ≡ Some x → field read (Some text) ≡ Ok (x, None)
field_last {A} read text x solid is =
    let whole = append-nil text in
    ap (λ (o : Option A). or_bad text o) (ap read (ap first_field (sym whole) ∙ first_field-front text [] solid ∙ whole) ∙ is)
    ∙ ap (λ (left : Left). Ok (x, left)) (ap behind_field (sym whole) ∙ behind_field-front text [] solid)
