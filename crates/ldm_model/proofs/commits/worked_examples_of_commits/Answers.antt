use Rattle.std.proofs.Common.{◌<◌, inl, inr, refl, sym, ap, arith}
use Rattle.std.specs.Prelude.{is_some, replicate}
use Rattle.std.proofs.lemmas.Bool.{false≢true}
use Rattle.ldm_model.specs.State.{State}
use Rattle.ldm_model.specs.Reservation.{reservation_at}
use Rattle.ldm_model.specs.Reserve.{reserve}
use Rattle.ldm_model.specs.Fill.{fill}
use Rattle.ldm_model.specs.Insert.{insert}
use Rattle.ldm_model.specs.Examples.{sample_info}
use Rattle.ldm_model.proofs.commits.worked_examples_of_commits.Goals as goal

pub returns-clause-whole : goal.returns-clause-whole
unfolding reserve fill
returns-clause-whole c = record { is_open = refl; own = refl; whole = refl }

pub returns-clause-refused : goal.returns-clause-refused
unfolding reserve fill insert
returns-clause-refused c =
    let first : 0 < 1 = omega arith in
    inr (
      record {
        row = record { number = 0; product = record { info = sample_info 1 4; body = replicate 4 65 }; time = 100; place = 56 };
        among = (0, first, refl);
        number = refl;
        same_signature = refl;
      },
      refl,
    )

pub returns-clause-not_kept : goal.returns-clause-not_kept
unfolding reserve fill insert
returns-clause-not_kept c = λ answered. elim answered [
  | inl it ↦ (let same = it.2 in cc)
  | inr it ↦ false≢true (ap (λ (s : State). is_some (reservation_at s 0)) (sym it.1))
]

pub returns-clause-no_duplicate : goal.returns-clause-no_duplicate
unfolding reserve fill
returns-clause-no_duplicate c = λ new answered. elim answered [
  | inl it ↦ (let same = it.2 in cc)
  | inr it ↦ (let less : it.0.among.0 < 0 = it.0.among.1 in omega (arith, less))
]

pub returns-clause-not_locked : goal.returns-clause-not_locked
returns-clause-not_locked c = λ held new answered. elim answered [
  | inl it ↦ (let same = it.2 in cc)
  | inr it ↦ it.0
]

pub returns-clause-not_too_big : goal.returns-clause-not_too_big
returns-clause-not_too_big c = λ need arena new answered. elim answered [
  | inl it ↦ (let same = it.2 in cc)
  | inr it ↦ it.0
]
