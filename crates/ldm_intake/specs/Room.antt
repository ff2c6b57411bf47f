-- Room for what one record makes a receiver write.
use Rattle.std.specs.Prelude.{ℕ, ◌+◌, ◌≤◌}
use Rattle.std.specs.Global.{Vec}
use Rattle.std.specs.Vec.{vec_len, vec_capacity}
use Rattle.ldm_intake.specs.declared.notes.TheConstants.{LONGEST_NOTE}
use Rattle.ldm_intake.specs.declared.replies.TheConstants.{SOON_REPLY}

-- room for a log line
abbrev pub HasNoteRoom : Vec ℕ → Type 0
HasNoteRoom notes = vec_len notes + LONGEST_NOTE ≤ vec_capacity notes

-- room for the reply to a COMINGSOON
abbrev pub HasReplyRoom : Vec ℕ → Type 0
HasReplyRoom out = vec_len out + SOON_REPLY ≤ vec_capacity out
