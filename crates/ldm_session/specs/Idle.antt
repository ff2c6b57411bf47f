-- When a session that has nothing to send says that it is there, in this project's profile.
use Rattle.std.specs.Prelude.{ℕ, ◌+◌, Bool, nat_le}
use Rattle.ldm_session.specs.declared.idle.TheConstants.{LONGEST_SILENCE}

-- whether the last message is so long ago: its instant, and now
abbrev pub is_silent_since : ℕ → ℕ → Bool
is_silent_since sent_at now = nat_le (sent_at + LONGEST_SILENCE) now
