-- One reply more: for the counts of replies and their answer lines.
use Rattle.std.proofs.Common.{◌≡◌, ◌+◌, ◌++◌, ◌∙◌, ℕ, Bool, List, [], ◌∷◌, cond, length, refl, sym, ap, arith, length-append}
use Rattle.std.specs.List.{count_by, sum_by}
use Rattle.std.proofs.lemmas.List.{append-nil}
use Rattle.std.proofs.lemmas.List.Sums.{sum_by-append, sum_by-cons}
use Rattle.std.proofs.lemmas.Grind.{flat_map-append}
use Rattle.std.proofs.lemmas.List.Concat.{flat_map-cons}
use Rattle.ldm_model.specs.declared.event.Reply.{Reply}
use Rattle.ldm_answers.specs.Answer.{answer_line}
use Rattle.ldm_exercise.specs.Counts.{counts_of, is_admitted, is_duplicate, is_locked, is_product, is_gap, is_end, evicted_by, lost_by}
use Rattle.ldm_exercise.specs.Playing.{answer_text}
use Rattle.ldm_exercise.specs.TallyView.{and_counted}

module _ (replies : List Reply) (r : Reply) where
  summed : (f : Reply → ℕ) → sum_by f replies + f r ≡ sum_by f (replies ++ r ∷ [])
  summed f =
      let joined = sum_by-append f replies (r ∷ []) in
      let last = sum_by-cons f r [] in
      omega (arith, joined, last)

  counted : (p : Reply → Bool) → count_by p replies + cond (p r) 1 0 ≡ count_by p (replies ++ r ∷ [])
  counted p = summed (λ x. cond (p x) 1 0)

  more : length replies + 1 ≡ length (replies ++ r ∷ [])
  more = sym (length-append replies (r ∷ []))

  pub and_counted-is : and_counted (counts_of replies) r ≡ counts_of (replies ++ r ∷ [])
  and_counted-is =
      rw (more, counted is_admitted, summed evicted_by, counted is_duplicate, counted is_locked, counted is_product, counted is_gap, summed lost_by, counted is_end) refl

  pub answer_text-more : answer_text replies ++ answer_line r ≡ answer_text (replies ++ r ∷ [])
  answer_text-more = sym (flat_map-append answer_line replies (r ∷ []) ∙ ap (λ (t : List ℕ). answer_text replies ++ t) (flat_map-cons answer_line r [] ∙ append-nil (answer_line r)))
