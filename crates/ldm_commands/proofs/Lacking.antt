-- A run that did nothing, since there was no memory to read the words.
use Rattle.std.proofs.Common.{◌≡◌, inl, inr, ℕ, Bool, List, Option, Some, None}
use Rattle.ldm_outside.specs.Count.{Rose}
use Rattle.ldm_status.specs.declared.status.Status.TheVariants as status
use Rattle.ldm_status.specs.Status.{Reports}
use Rattle.ldm_commands.specs.Command.{Form, take_memory}
use Rattle.ldm_commands.specs.Command as form
use Rattle.ldm_commands.specs.Complete.{RunCompletes}
use Rattle.ldm_commands.specs.Law.{RunObeysLaw}
use Rattle.ldm_commands.specs.Run.{RunEnds, LacksMemory}
use Rattle.ldm_commands.specs.World.{Tells, WorldView}

module _ {K F L T : Type 0} (tells : Tells K F L T) (old new : WorldView K F L T) where
  pub lacking_ends : (form : Option Form) (words : List (List ℕ)) (code : ℕ) → LacksMemory tells (take_memory words) code old new → RunEnds tells form words code old new
  lacking_ends None words code lacks = inr lacks
  lacking_ends (Some form) words code lacks = inr lacks

  pub lacking_law : (form : Option Form) (takes_memory : Bool) (code : ℕ) → LacksMemory tells takes_memory code old new → RunObeysLaw tells form takes_memory code old new
  lacking_law None takes_memory code lacks = lacks.1.0.sink
  lacking_law (Some form) takes_memory code lacks = inr lacks

  is_71 : (code : ℕ) → Reports status.NoMemory code old.log new.log → ¬ (Rose old.log.faults new.log.faults) → code ≡ 71
  is_71 code (inl reported) works = reported.0
  is_71 code (inr failed) works = absurd (works failed.1)

  pub lacking_completes : (form : Option Form) (code : ℕ) → Reports status.NoMemory code old.log new.log → RunCompletes tells form code old new
  lacking_completes None code reports = tt {0}
  lacking_completes (Some (form.Play arena slots)) code reports = λ free. inr (is_71 code reports free.log_works)
  lacking_completes (Some (form.Crowd arena slots workers)) code reports = λ free. inr (is_71 code reports free.log_works)
  lacking_completes (Some (form.Exercise number count)) code reports = λ sink log. inr (is_71 code reports log)
  lacking_completes (Some (form.Chain chain)) code reports = λ free. inr (is_71 code reports free.log_works)
  lacking_completes (Some (form.Node node)) code reports = λ free. inr (inl (is_71 code reports free.log_works))
  lacking_completes (Some (form.Save save)) code reports = λ free works. inr (is_71 code reports free.log_works)
  lacking_completes (Some (form.Resume file)) code reports = λ free. inr (is_71 code reports free.log_works)
  lacking_completes (Some (form.Pqcheck file)) code reports = λ free. inr (is_71 code reports free.log_works)
  lacking_completes (Some (form.Check check)) code reports = tt {0}
  lacking_completes (Some (form.Pqact act)) code reports = tt {0}
  lacking_completes (Some (form.Pqinsert insert)) code reports = tt {0}
  lacking_completes (Some (form.Pqcat cat)) code reports = tt {0}
  lacking_completes (Some (form.Notifyme notices)) code reports = tt {0}
  lacking_completes (Some (form.Pqmon mon)) code reports = tt {0}
  lacking_completes (Some (form.Wmo wmo)) code reports = tt {0}
  lacking_completes (Some (form.Pqstats stats)) code reports = tt {0}
