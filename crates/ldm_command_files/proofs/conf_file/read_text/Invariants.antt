use Rattle.ldm_command_files.proofs.conf_file.read_text.Given as goal

abbrev pub ghosts-read_noting : goal.ghosts-read_noting
ghosts-read_noting g a = record { name = a.lent.store.ghost_name }
