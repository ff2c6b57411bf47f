-- When the program does all that its words ask for.
use Rattle.std.specs.Prelude.{ℕ, Option, Some, None}
use Rattle.ldm_play.specs.Complete.{Completes}
use Rattle.ldm_chain.specs.Complete.{ChainCompletes}
use Rattle.ldm_crowd.specs.Complete.{CrowdCompletes}
use Rattle.ldm_exercise.specs.Complete.{ExerciseCompletes}
use Rattle.ldm_node_command.specs.Complete.{NodeCompletes}
use Rattle.ldm_play.specs.SavingComplete.{CheckCompletes, ResumeCompletes, SaveCompletes}
use Rattle.ldm_commands.specs.Command.{Form}
use Rattle.ldm_commands.specs.Command as form
use Rattle.ldm_commands.specs.Lent.{chain_of, check_of, node_of, saving_of, setup_of, size_of, work_of}
use Rattle.ldm_commands.specs.World.{Tells, WorldView, streams_of}

module _ {K F L T : Type 0} (tells : Tells K F L T) where
  -- Each command comes to its end where nothing hinders it, by what the words ask for.
  abbrev pub RunCompletes : Option Form → ℕ → WorldView K F L T → WorldView K F L T → Type 0
  RunCompletes None code old new = Unit {0}
  RunCompletes (Some (form.Play arena slots)) code old new = Completes (record { arena = arena; slots = slots }) code (streams_of tells old) (streams_of tells new)
  RunCompletes (Some (form.Crowd arena slots workers)) code old new =
      CrowdCompletes (record { arena = arena; slots = slots; workers = workers }) code (streams_of tells old) (streams_of tells new)
  RunCompletes (Some (form.Exercise number count)) code old new = ExerciseCompletes code (streams_of tells old) (streams_of tells new)
  RunCompletes (Some (form.Chain chain)) code old new = ChainCompletes (work_of chain) code (chain_of tells old) (chain_of tells new)
  RunCompletes (Some (form.Node node)) code old new = NodeCompletes tells.station (setup_of node) code (node_of tells old) (node_of tells new)
  RunCompletes (Some (form.Save save)) code old new = SaveCompletes (size_of save) code (saving_of tells old) (saving_of tells new)
  RunCompletes (Some (form.Resume file)) code old new = ResumeCompletes code (saving_of tells old) (saving_of tells new)
  RunCompletes (Some (form.Pqcheck file)) code old new = CheckCompletes code (check_of tells old) (check_of tells new)
  -- when a `check` writes all stands with how it ends
  RunCompletes (Some (form.Check check)) code old new = Unit {0}
  -- when a tool does all stands with how it ends
  RunCompletes (Some (form.Pqact act)) code old new = Unit {0}
  RunCompletes (Some (form.Pqinsert insert)) code old new = Unit {0}
  RunCompletes (Some (form.Pqcat cat)) code old new = Unit {0}
  RunCompletes (Some (form.Notifyme notices)) code old new = Unit {0}
  RunCompletes (Some (form.Pqmon mon)) code old new = Unit {0}
  RunCompletes (Some (form.Wmo wmo)) code old new = Unit {0}
  RunCompletes (Some (form.Pqstats stats)) code old new = Unit {0}
