-- What doing a command comes to, with all that is promised of it. No caller needs this.
use Rattle.std.specs.Prelude.{◌≡◌, ℕ, true, Bool, Option, Some, None}
use Rattle.ldm_words.specs.declared.fault.WordsFault.{WordsFault}
use Rattle.ldm_words.specs.declared.fault.WordsFault.TheVariants as fault
use Rattle.ldm_commands.specs.Command.{Form}
use Rattle.ldm_commands.specs.Complete.{RunCompletes}
use Rattle.ldm_commands.specs.Law.{DoesLawful}
use Rattle.ldm_commands.specs.Run.{Does}
use Rattle.ldm_commands.specs.World.{KeepsAllFaults, Tells, WorldView}

pub record Done {K F L T : Type 0} (tells : Tells K F L T) (form : Form) (code : ℕ) (old new : WorldView K F L T) : Type 0 where
  pub does : Does tells form code old new
  pub law : DoesLawful tells form code old new
  pub completes : RunCompletes tells (Some form) code old new
  pub faults_kept : KeepsAllFaults tells old new

-- why words are not read: they are no form of a command, or there is no memory to read them
abbrev pub IsUnread : Option Form → Bool → WordsFault → Type 0
IsUnread form take_memory fault.Usage = form ≡ None
IsUnread form take_memory fault.OutOfMemory = take_memory ≡ true
