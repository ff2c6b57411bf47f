-- Pieces that are sent one behind the other.
use Rattle.std.proofs.Common.{◌≡◌, ◌∙◌, ℕ, ◌≤◌, zero, suc, List, [], ◌∷◌, ◌++◌, take, replicate, refl, sym, ap, subst, append_assoc, arith}
use Rattle.std.specs.Prelude.{Result, Ok, Err}
use Rattle.ldm_outside.specs.declared.link.LinkFailed.{LinkFailed}
use Rattle.ldm_outside.specs.Link.{LinkRecord, SendsAll, Sent, Failing, after_sent}
use Rattle.ldm_outside.proofs.LinkLemmas.{Sent-then}

-- the first piece failed
pub first_failed : (failed : LinkFailed) (first second : List ℕ) (old new : LinkRecord) → SendsAll (Err failed) first old new → SendsAll (Err failed) (first ++ second) old new
first_failed failed first second old new sent =
    (sent.0, sent.1 ++ second, sym (append_assoc sent.0 sent.1 second) ∙ ap (λ (x : List ℕ). x ++ second) sent.2, sent.3)

-- the first piece was sent, and then the others, all of them or a front
pub then_sent : (result : Result (Unit {0}) LinkFailed) (first second : List ℕ) (old mid new : LinkRecord) → SendsAll (Ok tt) first old mid → SendsAll result second mid new
    → SendsAll result (first ++ second) old new
then_sent (Ok done) first second old mid new one two = Sent-then old mid new first second one two
then_sent (Err failed) first second old mid new one two =
    let whole : Sent old (first ++ two.0) (after_sent two.0 mid) = Sent-then old mid (after_sent two.0 mid) first two.0 one refl in
    let P : LinkRecord → Type 0 = λ link. Failing link new in
    (first ++ two.0, two.1, append_assoc first two.0 two.1 ∙ ap (λ (x : List ℕ). first ++ x) two.2, subst P whole two.3)

abbrev pub three : List ℕ
three = 0 ∷ 0 ∷ 0 ∷ []

pub zeros : (n : ℕ) → n ≤ 3 → take n three ≡ replicate n 0
zeros zero few = refl
zeros (suc zero) few = refl
zeros (suc (suc zero)) few = refl
zeros (suc (suc (suc zero))) few = refl
zeros (suc (suc (suc (suc n)))) few = absurd (omega arith)

-- the head of a record, its body, and the padding
pub spelled : (head items before body call : List ℕ) (padding : ℕ) → padding ≤ 3 → head ≡ items → before ≡ [] → items ++ (body ++ replicate padding 0) ≡ before ++ call
    → head ++ (body ++ take padding three) ≡ call
spelled head items before body call padding few head_is none is =
    ap (λ (x : List ℕ). x ++ (body ++ take padding three)) head_is ∙ ap (λ (x : List ℕ). items ++ (body ++ x)) (zeros padding few) ∙ is ∙ ap (λ (x : List ℕ). x ++ call) none
