-- A crowd that nothing hinders writes all its answers: for `CrowdCompletes`.
use Rattle.std.proofs.Common.{◌≡◌, ℕ, ◌<◌, ◌⊎◌, List, ◌++◌, length, Some, Ok, Err, Result, inl, inr, refl, sym, ap, ◌∙◌, arith, length-append}
use Rattle.ldm_outside.specs.Io.{Gives}
use Rattle.ldm_status.specs.Streams.{StreamsRecord}
use Rattle.ldm_status.proofs.SourceLemmas.{parts, whole_at_end}
use Rattle.ldm_shared.specs.declared.fault.CreateFault.TheVariants as fault
use Rattle.ldm_crowd.specs.Script.{script_of}
use Rattle.ldm_status.specs.declared.whole_script.TheConstants.{LONGEST_SCRIPT}
use Rattle.ldm_crowd.specs.declared.crowd_command.CrowdFault.{CrowdFault}
use Rattle.ldm_crowd.specs.declared.crowd_command.CrowdFault.TheVariants as stop
use Rattle.ldm_crowd.specs.declared.crowd_command.PlayFault.TheVariants as unplayed
use Rattle.ldm_status.specs.declared.whole_script.ScriptFault.TheVariants as untaken
use Rattle.ldm_status.specs.declared.status.Status.TheVariants as status
use Rattle.ldm_status.specs.WholeScript.{TakesWhole}
use Rattle.ldm_crowd.specs.CrowdEnding.{CrowdSize, CrowdStops, CrowdEnds}
use Rattle.ldm_status.specs.Status.{code_of, Reports}
use Rattle.ldm_crowd.specs.Statuses.{status_of_crowd, status_of_crowd_stop}
use Rattle.ldm_crowd.specs.Complete.{CrowdUnhindered}

module _ (size : CrowdSize) (old new : StreamsRecord) (free : CrowdUnhindered size old new) where
  part : (taken : List ℕ) → Gives old.source taken new.source → (rest : List ℕ) × (new.source.left ≡ Some rest) × (free.text ≡ taken ++ rest)
  part taken gives = parts free.text taken old.source new.source free.told gives

  -- no more is taken than there is
  short_taken : (taken : List ℕ) → Gives old.source taken new.source → length taken < LONGEST_SCRIPT
  short_taken taken gives =
      let p = part taken gives in
      omega (arith, free.short, ap length p.2, length-append taken p.0)

  -- what was taken whole is all that there is
  whole_taken : (taken : List ℕ) → TakesWhole taken old.source new.source → free.text ≡ taken
  whole_taken taken whole = whole_at_end free.text taken old.source new.source free.told whole.taken whole.at_end

  -- why it can stop nonetheless
  stops_for : (why : CrowdFault) → CrowdStops why size old new → status_of_crowd_stop why ≡ status.NoMemory
  stops_for (stop.NotMade (fault.BadArena arena)) ends = absurd (ends.0.1 free.good_size.arena)
  stops_for (stop.NotMade (fault.BadSlots slots)) ends = absurd (ends.0.2 free.good_size.slots)
  stops_for (stop.NotMade (fault.BadPasses passes)) ends = absurd (ends.0.3 free.good_size.workers)
  stops_for (stop.NotMade fault.OutOfMemory) ends = refl
  stops_for (stop.ScriptFault untaken.StreamLimit) ends = absurd (omega (arith, short_taken ends.1.text ends.1.taken, ends.1.stops))
  stops_for (stop.ScriptFault untaken.SourceFault) ends = absurd (free.source_works ends.1.stops.1)
  stops_for (stop.ScriptFault untaken.OutOfMemory) ends = refl
  stops_for (stop.PlayFault (unplayed.BadLine line column)) ends =
      let same = sym free.good_lines ∙ ap (script_of size.workers) (whole_taken ends.0.text ends.0.taken) ∙ ends.0.unplayed in
      cc
  stops_for (stop.PlayFault unplayed.OutOfMemory) ends = refl
  stops_for stop.SinkFault ends = absurd (free.sink_works ends.2)

  pub crowd_completes : (ending : Result (Unit {0}) CrowdFault) (code : ℕ) → CrowdEnds ending size old new → Reports (status_of_crowd ending) code old.log new.log → (code ≡ 0) ⊎ (code ≡ 71)
  crowd_completes (Ok done) code ends reports = elim reports [ inl told ↦ inl told.0 | inr failed ↦ absurd (free.log_works failed.1) ]
  crowd_completes (Err why) code ends reports = elim reports [
    | inl told ↦ inr (told.0 ∙ ap code_of (stops_for why ends))
    | inr failed ↦ absurd (free.log_works failed.1)
  ]
