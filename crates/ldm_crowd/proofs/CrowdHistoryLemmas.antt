-- The numbers of a crowd that has no answers: for `answers_are_of_a_history`.
use Rattle.std.proofs.Common.{◌≡◌, ◌⊎◌, ℕ, List, inl, inr, subst, arith}
use Rattle.ldm_outside.specs.Io.{WritesFront}
use Rattle.ldm_model.specs.declared.event.Entry.{Entry}
use Rattle.ldm_script.specs.Order.{Asked}
use Rattle.ldm_model.specs.Lawful.{IsLawful}
use Rattle.ldm_crowd.specs.Interleaving.{IsInterleaving, crowd_text}
use Rattle.ldm_status.specs.Status.{code_of}
use Rattle.ldm_status.specs.Streams.{StreamsRecord}
use Rattle.ldm_shared.specs.declared.fault.CreateFault.TheVariants as fault
use Rattle.ldm_crowd.specs.declared.crowd_command.CrowdFault.{CrowdFault}
use Rattle.ldm_crowd.specs.declared.crowd_command.CrowdFault.TheVariants as stop
use Rattle.ldm_crowd.specs.declared.crowd_command.PlayFault.TheVariants as unplayed
use Rattle.ldm_status.specs.declared.whole_script.ScriptFault.TheVariants as untaken
use Rattle.ldm_crowd.specs.CrowdEnding.{CrowdSize}
use Rattle.ldm_crowd.specs.Law.{CrowdWritesNothing, IsNotPlayed, ObeysCrowdLaw}
use Rattle.ldm_crowd.specs.Statuses.{status_of_crowd_stop}

-- the numbers of a crowd that has answers, but for that of a log that failed
abbrev HasAnswers : ℕ → Type 0
HasAnswers code = (code ≡ 0) ⊎ (code ≡ 75)

module _ (size : CrowdSize) (old new : StreamsRecord) where
  other_code : (why : CrowdFault) → IsNotPlayed why size old new → HasAnswers (code_of (status_of_crowd_stop why)) → ⊥
  other_code (stop.NotMade (fault.BadArena arena)) cause is = elim is [ inl done ↦ omega (arith, done) | inr cut ↦ omega (arith, cut) ]
  other_code (stop.NotMade (fault.BadSlots slots)) cause is = elim is [ inl done ↦ omega (arith, done) | inr cut ↦ omega (arith, cut) ]
  other_code (stop.NotMade (fault.BadPasses passes)) cause is = elim is [ inl done ↦ omega (arith, done) | inr cut ↦ omega (arith, cut) ]
  other_code (stop.NotMade fault.OutOfMemory) cause is = elim is [ inl done ↦ omega (arith, done) | inr cut ↦ omega (arith, cut) ]
  other_code (stop.ScriptFault untaken.StreamLimit) cause is = elim is [ inl done ↦ omega (arith, done) | inr cut ↦ omega (arith, cut) ]
  other_code (stop.ScriptFault untaken.SourceFault) cause is = elim is [ inl done ↦ omega (arith, done) | inr cut ↦ omega (arith, cut) ]
  other_code (stop.ScriptFault untaken.OutOfMemory) cause is = elim is [ inl done ↦ omega (arith, done) | inr cut ↦ omega (arith, cut) ]
  other_code (stop.PlayFault (unplayed.BadLine line column)) cause is = elim is [ inl done ↦ omega (arith, done) | inr cut ↦ omega (arith, cut) ]
  other_code (stop.PlayFault unplayed.OutOfMemory) cause is = elim is [ inl done ↦ omega (arith, done) | inr cut ↦ omega (arith, cut) ]
  other_code stop.SinkFault cause is = absurd cause

  has_answers : (code : ℕ) → HasAnswers code → CrowdWritesNothing size code old new → ⊥
  has_answers code is nothing = elim nothing.told [
    | inl told ↦ other_code nothing.why nothing.cause (elim is [ inl done ↦ inl (omega (arith, told.0, done)) | inr cut ↦ inr (omega (arith, told.0, cut)) ])
    | inr failed ↦ elim is [ inl done ↦ omega (arith, failed.0, done) | inr cut ↦ omega (arith, failed.0, cut) ]
  ]

  pub answered : (code : ℕ) → HasAnswers code → ObeysCrowdLaw size code old new
      → (script : List (List Asked)) × ((history : List Entry) × IsLawful size.arena size.slots history × IsInterleaving script history
      × WritesFront old.sink (crowd_text size.arena size.slots script history) new.sink)
  answered code is (inl nothing) = absurd (has_answers code is nothing)
  answered code is (inr lawful) =
      let by = lawful.plays.answered in
      (by.script, (by.history, by.lawful, by.interleaving, subst (λ (text : List ℕ). WritesFront old.sink text new.sink) by.answers_are lawful.front))
