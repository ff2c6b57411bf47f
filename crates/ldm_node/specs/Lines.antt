-- The lines of a node's log on its sessions.
use Rattle.std.specs.Prelude.{ℕ, Bool, true, false, List, [], ◌∷◌, ◌++◌, codes}
use Rattle.ldm_outside.specs.Io.{SinkRecord, Takes, WritesFront}
use Rattle.ldm_answers.specs.Answer.{blank_field}
use Rattle.ldm_answers.specs.Texts.{spelled}
use Rattle.ldm_node.specs.declared.session_end.SessionEnd.{SessionEnd}
use Rattle.ldm_node.specs.SessionEnds.{end_name}

-- `session HOST END` and a newline: a session with that host ended so
abbrev pub session_line : List ℕ → SessionEnd → List ℕ
session_line host end = codes "session" ++ blank_field (spelled host) ++ blank_field (end_name end) ++ 10 ∷ []

-- `unreached HOST` and a newline: that host could not be connected
abbrev pub unreached_line : List ℕ → List ℕ
unreached_line host = codes "unreached" ++ blank_field (spelled host) ++ 10 ∷ []

-- a log took a line: all of it, or a front of it, perhaps nothing
abbrev pub Logs : (whole : Bool) → List ℕ → SinkRecord → SinkRecord → Type 0
Logs true line old new = Takes old line new
Logs false line old new = WritesFront old line new
