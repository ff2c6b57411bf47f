-- Looking for a kept row by its signature.
use Rattle.std.specs.Prelude.{ℕ, Bool, List, Option, Some, None, bytes_eq}
use Rattle.std.specs.List.{find}
use Rattle.ldm_model.specs.declared.event.Reply.{Reply}
use Rattle.ldm_model.specs.declared.event.Reply.TheVariants as reply
use Rattle.ldm_book.specs.View.{Kept}

abbrev pub kept_signature : List ℕ → Kept → Bool
kept_signature signature k = bytes_eq k.signature signature

-- the kept row of that signature
abbrev pub kept_with : List ℕ → List Kept → Option Kept
kept_with signature rows = find (kept_signature signature) rows

-- what a look for it is answered
abbrev pub look_kept : Option Kept → Reply
look_kept None = reply.Absent
look_kept (Some k) = reply.Queued k.number k.time
