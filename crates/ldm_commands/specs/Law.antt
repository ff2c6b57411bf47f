-- The law of what the program writes, by what its words ask for.
use Rattle.std.specs.Prelude.{◌≡◌, ◌⊎◌, ℕ, Bool, Option, Some, None}
use Rattle.ldm_play.specs.Law.{ObeysPlayLaw}
use Rattle.ldm_chain.specs.Law.{ObeysChainLaw}
use Rattle.ldm_crowd.specs.Law.{ObeysCrowdLaw}
use Rattle.ldm_exercise.specs.Law.{ObeysExerciseLaw}
use Rattle.ldm_node_command.specs.Law.{ObeysNodeLaw}
use Rattle.ldm_play.specs.SavingLaw.{ObeysResumeLaw}
use Rattle.ldm_commands.specs.Command.{Form}
use Rattle.ldm_commands.specs.Command as form
use Rattle.ldm_commands.specs.Lent.{chain_of, node_of, saving_of, setup_of, size_of, work_of}
use Rattle.ldm_commands.specs.Run.{LacksMemory}
use Rattle.ldm_commands.specs.World.{Tells, WorldView, streams_of}

module _ {K F L T : Type 0} (tells : Tells K F L T) where
  -- What a command writes that has a queue are answers of a history of that queue, which obeys the law: `IsLawful` of ldm_calls. Where a
  -- crowd, a chain or a node writes nothing, the number that the program ends with is that of a cause.
  abbrev pub DoesLawful : Form → ℕ → WorldView K F L T → WorldView K F L T → Type 0
  DoesLawful (form.Play arena slots) code old new = ObeysPlayLaw (record { arena = arena; slots = slots }) (streams_of tells old) (streams_of tells new)
  DoesLawful (form.Crowd arena slots workers) code old new =
      ObeysCrowdLaw (record { arena = arena; slots = slots; workers = workers }) code (streams_of tells old) (streams_of tells new)
  DoesLawful (form.Exercise number count) code old new = ObeysExerciseLaw number count (streams_of tells old) (streams_of tells new)
  DoesLawful (form.Chain chain) code old new = ObeysChainLaw (work_of chain) code (chain_of tells old) (chain_of tells new)
  DoesLawful (form.Node node) code old new = ObeysNodeLaw tells.station (setup_of node) code (node_of tells old) (node_of tells new)
  DoesLawful (form.Save save) code old new = ObeysPlayLaw (size_of save) (streams_of tells old) (streams_of tells new)
  DoesLawful (form.Resume file) code old new = ObeysResumeLaw (saving_of tells old) (saving_of tells new)
  -- this writes the figures of a queue, on which it calls nothing else
  DoesLawful (form.Pqcheck file) code old new = Unit {0}
  -- this has no queue
  DoesLawful (form.Check check) code old new = Unit {0}
  -- these write what another node answers, or nothing
  DoesLawful (form.Pqact act) code old new = Unit {0}
  DoesLawful (form.Pqinsert insert) code old new = Unit {0}
  DoesLawful (form.Pqcat cat) code old new = Unit {0}
  DoesLawful (form.Notifyme notices) code old new = Unit {0}
  DoesLawful (form.Pqmon mon) code old new = Unit {0}
  DoesLawful (form.Wmo wmo) code old new = Unit {0}
  DoesLawful (form.Pqstats stats) code old new = Unit {0}

  -- What was asked for, whether reading its words takes memory, the number that the program ends with, and what is written until then.
  abbrev pub RunObeysLaw : Option Form → Bool → ℕ → WorldView K F L T → WorldView K F L T → Type 0
  -- nothing is written
  RunObeysLaw None takes_memory code old new = tells.sink new.sink ≡ tells.sink old.sink
  RunObeysLaw (Some form) takes_memory code old new = DoesLawful form code old new ⊎ LacksMemory tells takes_memory code old new
