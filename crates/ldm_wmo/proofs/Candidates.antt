-- A candidate that ends, and what is behind it.
use Rattle.std.proofs.Common.{◌≡◌, ℕ, ◌+◌, ◌^◌, ◌<◌, ◌≤◌, Bool, true, false, List, [], ◌∷◌, ◌++◌, length, drop, refl, sym, ap, subst, ◌∙◌, append_assoc, arith}
use Rattle.std.proofs.lemmas.List.{drop_at, length-append}
use Rattle.ldm_wmo.specs.declared.stage.Stage.TheVariants.{Within, Complete}
use Rattle.ldm_wmo.specs.declared.stage.TheConstants.{LARGEST_BULLETIN}
use Rattle.ldm_wmo.specs.Bulletins.{has_no_mark}
use Rattle.ldm_wmo.specs.Items.{Found, found_at}
use Rattle.ldm_wmo.specs.Scanning.{Scanning, after, bytes_taken, next_of, outside, place}
use Rattle.ldm_wmo.specs.Streams.{given, in_hand, items_in}
use Rattle.ldm_wmo.proofs.Joined.{pushed}
use Rattle.ldm_wmo.proofs.Runs.{Goes, after_complete, at_stage, begins_one, ends_with, goes_on, taken_complete, within_run}

pub goes_two : (s t u : Scanning) (a b rest : List ℕ) → Goes s a t (b ++ rest) → Goes t b u rest → Goes s (a ++ b) u rest
goes_two s t u a b rest first second =
    let joined : (a ++ b) ++ rest ≡ a ++ (b ++ rest) = append_assoc a b rest in
    let len : length (a ++ b) ≡ length a + length b = length-append a b in (
      ap (after s) joined ∙ first.0 ∙ second.0,
      ap (bytes_taken s) joined ∙ first.1 ∙ ap (λ n. length a + n) second.1 ∙ omega (arith, len),
    )

-- a candidate that ends with a 3, and has no other mark behind its first byte
pub closed_run : (p : ℕ) (body rest : List ℕ) → p < 2 ^ 64 → has_no_mark body ≡ true → 1 + length body < LARGEST_BULLETIN
    → Goes (outside p) (1 ∷ (body ++ 3 ∷ [])) (at_stage (place (p + (2 + length body))) (1 ∷ (body ++ 3 ∷ [])) (Complete p)) rest
closed_run p body rest small none room =
    let begun = at_stage (place (p + 1)) (1 ∷ []) (Within p) in
    let q = place (place (p + 1) + length body) in
    let there = at_stage q (1 ∷ body) (Within p) in
    let same : place (q + 1) ≡ place (p + (2 + length body)) = omega arith in
    let run : Goes begun body there (3 ∷ rest) = within_run (place (p + 1)) (1 ∷ []) p body (3 ∷ rest) (omega arith) none (omega arith) in
    let last : Goes there (3 ∷ []) (at_stage (place (q + 1)) (1 ∷ (body ++ 3 ∷ [])) (Complete p)) rest = ends_with q (1 ∷ body) p 3 rest refl refl in
    subst (λ k. Goes (outside p) (1 ∷ (body ++ 3 ∷ [])) (at_stage k (1 ∷ (body ++ 3 ∷ [])) (Complete p)) rest) same
    (goes_on (outside p) begun (at_stage (place (q + 1)) (1 ∷ (body ++ 3 ∷ [])) (Complete p)) 1 (body ++ 3 ∷ []) rest refl (begins_one p [] 1 refl)
    (goes_two begun there (at_stage (place (q + 1)) (1 ∷ (body ++ 3 ∷ [])) (Complete p)) body (3 ∷ []) rest run last))

pub items_behind : (p q : ℕ) (candidate rest : List ℕ) → Goes (outside p) candidate (at_stage q candidate (Complete p)) rest
    → items_in (outside p) (candidate ++ rest) ≡ found_at p candidate ∷ items_in (outside q) rest
items_behind p q candidate rest goes =
    let ended = at_stage q candidate (Complete p) in
    let after_is : after (outside p) (candidate ++ rest) ≡ ended = goes.0 ∙ after_complete ended rest refl in
    let count : bytes_taken (outside p) (candidate ++ rest) ≡ length candidate = goes.1 ∙ ap (λ n. length candidate + n) (taken_complete ended rest refl) ∙ omega arith in
    let left : drop (length candidate) (candidate ++ rest) ≡ rest = drop_at candidate rest (length candidate) refl in
    (pushed (outside p) (candidate ++ rest) refl).items
    ∙ ap (λ (s : Scanning). given s ++ items_in (next_of s) (drop (bytes_taken (outside p) (candidate ++ rest)) (candidate ++ rest))) after_is
    ∙ ap (λ n. given ended ++ items_in (next_of ended) (drop n (candidate ++ rest))) count
    ∙ ap (λ (r : List ℕ). given ended ++ items_in (next_of ended) r) left
