-- What is signed of a bulletin.
use Rattle.std.proofs.Common.{◌≡◌, ◌∙◌, ℕ, ◌+◌, true, ◌==◌, List, [], ◌∷◌, ◌++◌, length, drop, sym, ap, arith, append_assoc}
use Rattle.std.specs.Prelude.{not}
use Rattle.std.proofs.lemmas.List.{drop_at, length-append}
use Rattle.ldm_wmo.specs.declared.kind.Kind.{Kind}
use Rattle.ldm_wmo.specs.Bulletins.{starting}
use Rattle.ldm_wmo.specs.Lines.{end_of_line, line_length}
use Rattle.ldm_wmo.specs.Spelling.{IsBulletin, heading_spelling}
use Rattle.ldm_wmo.proofs.Spelled.{and_both, and_parts, blanks_without, digits_without, length_is, no_return, return_is}
use Rattle.ldm_wmo.specs.Ingesting.{from_heading}

both_without : (a b : List ℕ) → no_return a ≡ true → no_return b ≡ true → no_return (a ++ b) ≡ true
both_without [] b a_is b_is = b_is
both_without (x ∷ a) b a_is b_is =
    let parts = and_parts (not (x == 13)) (no_return a) a_is in
    and_both (not (x == 13)) (no_return (a ++ b)) parts.0 (both_without a b parts.1 b_is)

behind_line : (line rest : List ℕ) → no_return line ≡ true → from_heading (starting ++ (line ++ (end_of_line ++ rest))) ≡ rest
behind_line line rest none =
    let all = starting ++ (line ++ (end_of_line ++ rest)) in
    let front = starting ++ (line ++ end_of_line) in
    let count : 7 + line_length (line ++ (end_of_line ++ rest)) ≡ 7 + length line = ap (λ (n : ℕ). 7 + n) (length_is line (13 ∷ 10 ∷ rest) none) in
    let split : all ≡ front ++ rest = ap (λ (x : List ℕ). starting ++ x) (sym (append_assoc line end_of_line rest)) ∙ sym (append_assoc starting (line ++ end_of_line) rest) in
    let size : length front ≡ 7 + length line = omega (arith, length-append starting (line ++ end_of_line), length-append line end_of_line) in
    ap (λ (n : ℕ). drop n all) count ∙ ap (λ (x : List ℕ). drop (7 + length line) x) split ∙ drop_at front rest (7 + length line) size

pub signed : (kind : Kind) (bytes : List ℕ) (seqno : ℕ) (heading : List ℕ) (is : IsBulletin kind bytes seqno heading) → from_heading bytes ≡ heading_spelling is.parts
signed kind bytes seqno heading is =
    let p = is.parts in
    let none = both_without p.digits p.behind_digits (digits_without 13 return_is p.digits is.are.digits) (blanks_without 13 return_is p.behind_digits is.are.behind_digits) in
    ap from_heading is.bytes_are ∙ behind_line (p.digits ++ p.behind_digits) (heading_spelling p) none
