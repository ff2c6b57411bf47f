-- What a filler puts behind what is kept, and what it makes of the record in hand.
use Rattle.std.proofs.Common.{◌≡◌, ℕ, ◌+◌, ◌-◌, ◌<◌, ◌≤◌, Bool, List, [], ◌++◌, length, take, drop, drop_of_length-le, refl, sym, ap, subst, ◌∙◌, arith, inl, inr, append-nil}
use Rattle.std.proofs.Math.Seq.{take-add}
use Rattle.std.proofs.lemmas.Bool.{cases_lt, ne_eqb}
use Rattle.std.proofs.lemmas.List.{length-append, nil_from_length, take_all}
use Rattle.ldm_rpc.specs.declared.stage.Stage.{Stage}
use Rattle.ldm_rpc.specs.declared.stage.Stage.TheVariants.{Fragment}
use Rattle.ldm_rpc.specs.Reading.{Reading, after, bytes_taken, is_faulty_at, is_whole_at, stage_before}
use Rattle.ldm_rpc.specs.Filling.{IsFilled, grown}
use Rattle.ldm_rpc.specs.Taking.{TakesFront}
use Rattle.ldm_rpc.proofs.Steps.{at_stage, takes_content}

-- where all that came is kept, the bytes behind it are what comes then
pub more_kept : (at n : ℕ) (old items came piece : List ℕ) → at ≡ length came → take at items ≡ take at old → take at old ≡ take at came
    → piece ≡ take n (drop at items) → length piece ≡ n → take (at + n) items ≡ take (at + n) (came ++ piece)
more_kept at n old items came piece all same kept is len =
    let joined : length (came ++ piece) ≡ at + n = length-append came piece ∙ omega (arith, all, len) in
    let before : take at items ≡ came = same ∙ kept ∙ take_all at came (omega (arith, all)) in
    take-add at n items ∙ ap (λ (x : List ℕ). x ++ take n (drop at items)) before ∙ ap (λ (x : List ℕ). came ++ x) (sym is)
    ∙ sym (take_all (at + n) (came ++ piece) (omega (arith, joined)))

within_fragment : (left : ℕ) (last : Bool) → 0 < left → stage_before left last ≡ Fragment left last
within_fragment left last some = rw (ne_eqb left 0 (omega arith)) refl

-- no byte was put
none_filled : (limit : ℕ) (before behind : List ℕ) (place left : ℕ) (last : Bool) (most : ℕ) → behind ≡ before ++ grown before behind → grown before behind ≡ [] → 0 < left
    → IsFilled (at_stage limit before place (Fragment left last)) (at_stage limit behind place (stage_before (left - 0) last)) most 0
unfolding after bytes_taken
none_filled limit before behind place left last most all none room =
    let same : behind ≡ before = all ∙ ap (λ (x : List ℕ). before ++ x) none ∙ append-nil before in
    let stage : stage_before (left - 0) last ≡ Fragment left last = ap (λ k. stage_before k last) (omega arith) ∙ within_fragment left last room in
    let old = at_stage limit before place (Fragment left last) in
    let end : at_stage limit behind place (stage_before (left - 0) last) ≡ old = rw (same, stage) refl in
    record {
      count = ap length (sym none);
      within = omega arith;
      after = end ∙ ap (after old) (sym none);
      taken = ap (bytes_taken old) (sym none);
      unended = ap is_whole_at stage;
      sound = ap is_faulty_at stage;
    }

some_filled : (limit : ℕ) (before behind : List ℕ) (place left : ℕ) (last : Bool) (most n : ℕ) → behind ≡ before ++ grown before behind
    → n ≡ length (grown before behind) → 0 < n → n < left → n ≤ most
    → IsFilled (at_stage limit before place (Fragment left last)) (at_stage limit behind place (stage_before (left - n) last)) most n
unfolding after bytes_taken
some_filled limit before behind place left last most n all count some room within =
    let piece = grown before behind in
    let old = at_stage limit before place (Fragment left last) in
    let new = at_stage limit behind place (stage_before (left - n) last) in
    let same : take n piece ≡ piece = take_all n piece (omega (arith, count)) in
    let content : behind ≡ before ++ take n piece = all ∙ ap (λ (x : List ℕ). before ++ x) (sym same) in
    let takes : TakesFront old piece n new =
    subst (λ (x : List ℕ). TakesFront old piece n (at_stage limit x place (stage_before (left - n) last))) (sym content)
    (takes_content limit before place left last piece n some (omega (arith, count)) (omega (arith, room))) in
    let stage : stage_before (left - n) last ≡ Fragment (left - n) last = within_fragment (left - n) last (omega (arith, room)) in
    let none : drop n piece ≡ [] = drop_of_length-le piece (omega (arith, count)) in
    record {
      count = count;
      within = within;
      after = sym (takes.rest ∙ ap (after new) none);
      taken = sym (takes.count ∙ ap (λ (r : List ℕ). n + bytes_taken new r) none ∙ omega arith);
      unended = ap is_whole_at stage;
      sound = ap is_faulty_at stage;
    }

-- a reader within a fragment, into which a filler put bytes of it
pub is_filled : (limit : ℕ) (before behind : List ℕ) (place : ℕ) (stage ended : Stage) (old : Reading) (left : ℕ) (last : Bool) (most n : ℕ)
    → at_stage limit before place stage ≡ old → old.stage ≡ Fragment left last → behind ≡ before ++ grown before behind
    → n ≡ length (grown before behind) → n < left → n ≤ most → ended ≡ stage_before (left - n) last
    → IsFilled old (at_stage limit behind place ended) most n
is_filled limit before behind place stage ended old left last most n is in_fragment all count room within end =
    let there : stage ≡ Fragment left last = ap (λ (r : Reading). r.stage) is ∙ in_fragment in
    let from : at_stage limit before place (Fragment left last) ≡ old = ap (at_stage limit before place) (sym there) ∙ is in
    let to : at_stage limit behind place (stage_before (left - n) last) ≡ at_stage limit behind place ended = ap (at_stage limit behind place) (sym end) in
    let filled : IsFilled (at_stage limit before place (Fragment left last)) (at_stage limit behind place (stage_before (left - n) last)) most n =
    elim (cases_lt 0 n) [
      | inl some ↦ some_filled limit before behind place left last most n all count some room within
      | inr none ↦
          let zero_n : 0 ≡ n = omega (arith, none) in
          subst (λ k. IsFilled (at_stage limit before place (Fragment left last)) (at_stage limit behind place (stage_before (left - k) last)) most k) zero_n
          (none_filled limit before behind place left last most all (nil_from_length (grown before behind) (omega (arith, count, none))) (omega (arith, room)))
    ] in
    subst (λ (r : Reading). IsFilled r (at_stage limit behind place ended) most n) from
    (subst (λ (r : Reading). IsFilled (at_stage limit before place (Fragment left last)) r most n) to filled)
