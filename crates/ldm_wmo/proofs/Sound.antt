-- What is found among at most as many bytes as a bulletin may have.
use Rattle.std.proofs.Common.{◌≡◌, ℕ, ◌≤◌, Bool, true, false, List, length, refl}
use Rattle.std.specs.Prelude.{Option, Some, None, if◌then◌else◌}
use Rattle.ldm_wmo.specs.declared.kind.Kind.{Kind}
use Rattle.ldm_wmo.specs.declared.stage.TheConstants.{LARGEST_BULLETIN}
use Rattle.ldm_wmo.specs.Bulletins.{Reading, bulletin_of}
use Rattle.ldm_wmo.specs.Items.{Bad, IsSound, enclosed_at, found_as, message_at}
use Rattle.ldm_wmo.specs.Frames.{is_enclosed}
use Rattle.ldm_wmo.proofs.Decoded.{bulletin_spelled}

sound_as : (at : ℕ) (kind : Kind) (bytes : List ℕ) (read : Option Reading) → bulletin_of kind bytes ≡ read → length bytes ≤ LARGEST_BULLETIN → IsSound (found_as at bytes read)
sound_as at kind bytes None is short = tt
sound_as at kind bytes (Some read) is short =
    let spelled = bulletin_spelled kind bytes read.seqno read.heading is in
    (rw spelled.heading_is spelled.are.heading, short)

pub message_sound : (at : ℕ) (kind : Kind) (bytes : List ℕ) → length bytes ≤ LARGEST_BULLETIN → IsSound (message_at at kind bytes)
message_sound at kind bytes short = sound_as at kind bytes (bulletin_of kind bytes) refl short

enclosed_as : (enclosed : Bool) (at : ℕ) (kind : Kind) (bytes : List ℕ) → length bytes ≤ LARGEST_BULLETIN → IsSound (if enclosed then message_at at kind bytes else Bad at)
enclosed_as true at kind bytes short = message_sound at kind bytes short
enclosed_as false at kind bytes short = tt

pub enclosed_sound : (at : ℕ) (kind : Kind) (bytes : List ℕ) → length bytes ≤ LARGEST_BULLETIN → IsSound (enclosed_at at kind bytes)
enclosed_sound at kind bytes short = enclosed_as (is_enclosed bytes) at kind bytes short
