-- Every legal history obeys the law of readers.
use Rattle.std.proofs.Common.{ℕ, List, ◌∷◌, subst}
use Rattle.ldm_model.specs.declared.event.Entry.{Entry}
use Rattle.ldm_model.specs.History.{IsLegal, IsLegalFrom}
use Rattle.ldm_model.specs.Law.{history_of, state_at, ObeysLaw}
use Rattle.ldm_model.proofs.Admitted.{AreAdmitted-after}
use Rattle.ldm_model.proofs.TiedPoints.{TiedAt-point, IsLegalAt-point}
use Rattle.ldm_model.proofs.Served.{served}
use Rattle.ldm_model.proofs.Answered.{answered}

pub ObeysLaw-legal : (arena slots : ℕ) (history : List Entry) → IsLegal arena slots history → ObeysLaw arena slots history
ObeysLaw-legal arena slots history legal = record {
  served = λ p at. served p (TiedAt-point arena slots history legal p at);
  answered = λ p at entry later behind own.
      let life = IsLegalAt-point arena slots history legal p at in
      let rest : IsLegalFrom (state_at p) (entry ∷ later) = subst (λ (entries : List Entry). IsLegalFrom (state_at p) entries) behind life.behind in
      answered p (TiedAt-point arena slots history legal p at) (AreAdmitted-after p.arena p.slots (history_of p) life.so_far) entry rest.0 own;
}
