-- What a `Command` of the code stands for.
use Rattle.std.specs.Prelude.{◌≤◌}
use Rattle.ldm_words.specs.Checking.{check_view}
use Rattle.ldm_words.specs.Views.{act_view, cat_view, chain_view, insert_view, mon_view, node_view, notices_view, save_view, stats_view, wmo_view}
use Rattle.ldm_commands.specs.declared.command.Command.{Command}
use Rattle.ldm_commands.specs.declared.command.Command.TheVariants as command
use Rattle.ldm_commands.specs.Command.{Form}
use Rattle.ldm_commands.specs.Command as form

abbrev pub form_of : Command → Form
form_of (command.Play arena slots) = form.Play arena slots
form_of (command.Crowd arena slots workers) = form.Crowd arena slots workers
form_of (command.Exercise number count) = form.Exercise number count
form_of (command.Chain words) = form.Chain (chain_view words)
form_of (command.Node words) = form.Node (node_view words)
form_of (command.Pqact words) = form.Pqact (act_view words)
form_of (command.Pqinsert words) = form.Pqinsert (insert_view words)
form_of (command.Pqcat words) = form.Pqcat (cat_view words)
form_of (command.Notifyme words) = form.Notifyme (notices_view words)
form_of (command.Pqmon words) = form.Pqmon (mon_view words)
form_of (command.Wmo words) = form.Wmo (wmo_view words)
form_of (command.Pqstats words) = form.Pqstats (stats_view words)
form_of (command.Save words) = form.Save (save_view words)
form_of (command.Resume file) = form.Resume file.now
form_of (command.Pqcheck file) = form.Pqcheck file.now
form_of (command.Check words) = form.Check (check_view words)

-- what is said by a form is what its command can be called with
abbrev pub IsWithin : Form → Type 0
IsWithin (form.Exercise number count) = count ≤ 1000000
IsWithin _ = Unit {0}
