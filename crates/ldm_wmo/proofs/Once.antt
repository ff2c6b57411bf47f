-- A stream holds one thing alone.
use Rattle.std.proofs.Common.{◌≡◌, ◌≢◌, ℕ, ◌+◌, ◌^◌, ◌<◌, ◌≤◌, ◌==◌, ◌||◌, Bool, true, false, List, [], ◌∷◌, ◌++◌, length, drop, Option, Some, None, refl, sym, ap, subst, ◌∙◌, append_assoc, arith}
use Rattle.std.proofs.lemmas.Bool.{eq-eqb, ne_eqb}
use Rattle.std.proofs.lemmas.List.{append-nil, drop_all, drop_at, length-append}
use Rattle.ldm_wmo.specs.declared.stage.Stage.TheVariants.{Within, Complete}
use Rattle.ldm_wmo.specs.declared.stage.TheConstants.{LARGEST_BULLETIN}
use Rattle.ldm_wmo.specs.Items.{Found, found_at}
use Rattle.ldm_wmo.specs.Scanning.{Scanning, after, bytes_taken, cut_of, next_of, outside, place}
use Rattle.ldm_wmo.specs.Spelling.{Begins, Ends, before_next, with_3, with_last, Holds, ended, passed_over, found, cut_off, IsOpen}
use Rattle.ldm_wmo.specs.Streams.{given, in_hand, items_in}
use Rattle.ldm_wmo.proofs.Candidates.{closed_run, goes_two, items_behind}
use Rattle.ldm_wmo.proofs.Holding.{out_steps}
use Rattle.ldm_wmo.proofs.Joined.{pushed}
use Rattle.ldm_wmo.proofs.Runs.{Goes, after_complete, at_stage, begins_one, ends_before, ends_with, goes_on, passes_one, taken_complete, within_run}

or_true : (b : Bool) → (b || true) ≡ true
or_true true = refl
or_true false = refl

-- a candidate that is open
open_goes : (p : ℕ) (run rest : List ℕ) → p < 2 ^ 64 → IsOpen run
    → Goes (outside p) (1 ∷ run) (at_stage (place (p + (1 + length run))) (1 ∷ run) (Within p)) rest
open_goes p run rest small unended =
    let short = unended.short in
    let begun = at_stage (place (p + 1)) (1 ∷ []) (Within p) in
    let same : place (place (p + 1) + length run) ≡ place (p + (1 + length run)) = omega arith in
    subst (λ k. Goes (outside p) (1 ∷ run) (at_stage k (1 ∷ run) (Within p)) rest) same
    (goes_on (outside p) begun (at_stage (place (place (p + 1) + length run)) (1 ∷ run) (Within p)) 1 run rest refl (begins_one p [] 1 refl)
    (within_run (place (p + 1)) (1 ∷ []) p run rest (omega arith) unended.no_mark (omega arith)))

next_goes : (p : ℕ) (run rest : List ℕ) → p < 2 ^ 64 → IsOpen run → Begins rest
    → Goes (outside p) (1 ∷ run) (at_stage (place (p + (1 + length run))) (1 ∷ run) (Complete p)) rest
next_goes p run [] small unended begins = absurd begins
next_goes p run (byte ∷ rest) small unended begins =
    let q = place (p + (1 + length run)) in
    let ended_so = at_stage q (1 ∷ run) (Complete p) in
    let goes = open_goes p run (byte ∷ rest) small unended in
    let ends = ends_before q (1 ∷ run) p byte rest begins in (
      goes.0 ∙ ends.0 ∙ sym (after_complete ended_so (byte ∷ rest) refl),
      goes.1 ∙ ap (λ n. length (1 ∷ run) + n) (ends.1 ∙ sym (taken_complete ended_so (byte ∷ rest) refl)),
    )

last_goes : (p : ℕ) (run : List ℕ) (byte : ℕ) (rest : List ℕ) → p < 2 ^ 64 → IsOpen run → byte ≢ 1 → 1 + length (run ++ byte ∷ []) ≡ LARGEST_BULLETIN
    → Goes (outside p) (1 ∷ (run ++ byte ∷ [])) (at_stage (place (p + (1 + length (run ++ byte ∷ [])))) (1 ∷ (run ++ byte ∷ [])) (Complete p)) rest
last_goes p run byte rest small unended other full =
    let len = length-append run (byte ∷ []) in
    let q = place (p + (1 + length run)) in
    let there = at_stage q (1 ∷ run) (Within p) in
    let end_is = at_stage (place (q + 1)) (1 ∷ (run ++ byte ∷ [])) (Complete p) in
    let count : length (1 ∷ run) + 1 ≡ LARGEST_BULLETIN = omega (arith, len, full) in
    let same : place (q + 1) ≡ place (p + (1 + length (run ++ byte ∷ []))) = omega (arith, len) in
    let last : (byte == 3 || length (1 ∷ run) + 1 == LARGEST_BULLETIN) ≡ true = rw (eq-eqb (length (1 ∷ run) + 1) LARGEST_BULLETIN count) (or_true (byte == 3)) in
    subst (λ k. Goes (outside p) (1 ∷ (run ++ byte ∷ [])) (at_stage k (1 ∷ (run ++ byte ∷ [])) (Complete p)) rest) same
    (goes_two (outside p) there end_is (1 ∷ run) (byte ∷ []) rest (open_goes p run (byte ∷ rest) small unended) (ends_with q (1 ∷ run) p byte rest (ne_eqb byte 1 other) last))

closed_goes : (p : ℕ) (run rest : List ℕ) → p < 2 ^ 64 → IsOpen run
    → Goes (outside p) (1 ∷ (run ++ 3 ∷ [])) (at_stage (place (p + (1 + length (run ++ 3 ∷ [])))) (1 ∷ (run ++ 3 ∷ [])) (Complete p)) rest
closed_goes p run rest small unended =
    let len = length-append run (3 ∷ []) in
    let same : place (p + (2 + length run)) ≡ place (p + (1 + length (run ++ 3 ∷ []))) = omega (arith, len) in
    subst (λ k. Goes (outside p) (1 ∷ (run ++ 3 ∷ [])) (at_stage k (1 ∷ (run ++ 3 ∷ [])) (Complete p)) rest) same
    (closed_run p run rest small unended.no_mark unended.short)

ends_go : (p : ℕ) (bytes rest : List ℕ) → p < 2 ^ 64 → Ends bytes rest
    → Goes (outside p) (1 ∷ bytes) (at_stage (place (p + (1 + length bytes))) (1 ∷ bytes) (Complete p)) rest
ends_go p bytes rest small (before_next run behind unended begins) = next_goes p run behind small unended begins
ends_go p bytes rest small (with_3 run behind unended) = closed_goes p run behind small unended
ends_go p bytes rest small (with_last run byte behind unended other full) = last_goes p run byte behind small unended other full

hand_behind : (p q : ℕ) (candidate rest : List ℕ) → Goes (outside p) candidate (at_stage q candidate (Complete p)) rest
    → in_hand (outside p) (candidate ++ rest) ≡ in_hand (outside q) rest
hand_behind p q candidate rest goes =
    let end_is = at_stage q candidate (Complete p) in
    let after_is : after (outside p) (candidate ++ rest) ≡ end_is = goes.0 ∙ after_complete end_is rest refl in
    let count : bytes_taken (outside p) (candidate ++ rest) ≡ length candidate = goes.1 ∙ ap (λ n. length candidate + n) (taken_complete end_is rest refl) ∙ omega arith in
    let left : drop (length candidate) (candidate ++ rest) ≡ rest = drop_at candidate rest (length candidate) refl in
    (pushed (outside p) (candidate ++ rest) refl).in_hand_is
    ∙ ap (λ (s : Scanning). in_hand (next_of s) (drop (bytes_taken (outside p) (candidate ++ rest)) (candidate ++ rest))) after_is
    ∙ ap (λ n. in_hand (next_of end_is) (drop n (candidate ++ rest))) count
    ∙ ap (λ (r : List ℕ). in_hand (next_of end_is) r) left

abbrev pub Same : ℕ → List ℕ → List Found → Option ℕ → Type 0
Same at stream items cut = (items ≡ items_in (outside (place at)) stream) × (cut ≡ cut_of (in_hand (outside (place at)) stream))

cut_same : (at : ℕ) (bytes : List ℕ) → IsOpen bytes → Same at (1 ∷ bytes) [] (Some (place at))
unfolding items_in in_hand after bytes_taken
cut_same at bytes unended =
    let p = place at in
    let there = at_stage (place (p + (1 + length bytes))) (1 ∷ bytes) (Within p) in
    let goes = open_goes p bytes [] (omega arith) unended in
    let whole = append-nil (1 ∷ bytes) in
    let after_is : after (outside p) (1 ∷ bytes) ≡ there = ap (after (outside p)) (sym whole) ∙ goes.0 in
    let count : bytes_taken (outside p) (1 ∷ bytes) ≡ length (1 ∷ bytes) = ap (bytes_taken (outside p)) (sym whole) ∙ goes.1 ∙ omega arith in
    let left : drop (length (1 ∷ bytes)) (1 ∷ bytes) ≡ [] = drop_all (length (1 ∷ bytes)) (1 ∷ bytes) (omega arith) in
    let by = pushed (outside p) (1 ∷ bytes) refl in (
      sym (by.items
          ∙ ap (λ (s : Scanning). given s ++ items_in (next_of s) (drop (bytes_taken (outside p) (1 ∷ bytes)) (1 ∷ bytes))) after_is
          ∙ ap (λ n. items_in there (drop n (1 ∷ bytes))) count
          ∙ ap (λ (r : List ℕ). items_in there r) left),
      sym (ap cut_of (by.in_hand_is
          ∙ ap (λ (s : Scanning). in_hand (next_of s) (drop (bytes_taken (outside p) (1 ∷ bytes)) (1 ∷ bytes))) after_is
          ∙ ap (λ n. in_hand there (drop n (1 ∷ bytes))) count
          ∙ ap (λ (r : List ℕ). in_hand there r) left)),
    )

pub holds_once : (at : ℕ) (stream : List ℕ) (items : List Found) (cut : Option ℕ) → Holds at stream items cut → Same at stream items cut
unfolding items_in in_hand
holds_once at stream items cut (ended place_is) = (refl, refl)
holds_once at stream items cut (passed_over here byte rest more_items more_cut other more) =
    let ih = holds_once (here + 1) rest more_items more_cut more in
    let same : place (place here + 1) ≡ place (here + 1) = omega arith in
    let step = out_steps (place here) byte rest (outside (place (here + 1))) (passes_one (place here) [] byte (ne_eqb byte 1 other) ∙ ap outside same) in
    (ih.0 ∙ sym step.items, ih.1 ∙ sym step.cut)
holds_once at stream items cut (found here bytes rest more_items more_cut ends more) =
    let ih = holds_once (here + (1 + length bytes)) rest more_items more_cut more in
    let p = place here in
    let goes = ends_go p bytes rest (omega arith) ends in
    let same : place (p + (1 + length bytes)) ≡ place (here + (1 + length bytes)) = omega arith in (
      ap (λ (x : List Found). found_at p (1 ∷ bytes) ∷ x) (ih.0 ∙ ap (λ k. items_in (outside k) rest) (sym same)) ∙ sym (items_behind p (place (p + (1 + length bytes))) (1 ∷ bytes) rest goes),
      ih.1 ∙ ap (λ k. cut_of (in_hand (outside k) rest)) (sym same) ∙ sym (ap cut_of (hand_behind p (place (p + (1 + length bytes))) (1 ∷ bytes) rest goes)),
    )
holds_once at stream items cut (cut_off here bytes unended) = cut_same here bytes unended
