-- The messages of a stream in frames, as a computation over the whole stream: frame by frame, each behind the one before it.
use Rattle.std.specs.Prelude.{ℕ, zero, suc, ◌+◌, ◌==◌, nat_lt, if◌then◌else◌, List, [], ◌∷◌, length, take, drop, Option, Some, None}
use Rattle.std.specs.Str.{bytes_eq}
use Rattle.ldm_wmo.specs.declared.kind.Kind.{Kind}
use Rattle.ldm_wmo.specs.Frames.{Head, file_end, head_of, is_enclosed}
use Rattle.ldm_wmo.specs.Items.{Found, Bad, message_at}
use Rattle.ldm_wmo.specs.Scanning.{place}

-- What stands at the front of bytes.
pub data Frame : Type 0 where
  Nothing : Frame
  FileEnd : Frame
  -- ten bytes of length and type, and a message of that length
  Message : (kind : Kind) → (bytes : List ℕ) → Frame
  -- as many bytes as the length says, which do not begin with a 1 and end with a 3
  Misfit : Frame
  -- ten bytes that are no length and type
  NoHead : Frame
  -- fewer bytes than the head, or the message, has
  Cut : Frame

-- ten bytes and those behind them
abbrev pub framed_by : Option Head → List ℕ → Frame
framed_by None behind = NoHead
framed_by (Some head) behind =
    if nat_lt (length behind) head.size then Cut
    else if is_enclosed (take head.size behind) then Message head.kind (take head.size behind)
    else Misfit

unfoldable pub frame_of : List ℕ → Frame
frame_of bytes =
    if length bytes == 0 then Nothing
    else if bytes_eq (take 8 bytes) file_end then FileEnd
    else if nat_lt (length bytes) 10 then Cut
    else framed_by (head_of (take 10 bytes)) (drop 10 bytes)

-- what is found in bytes: the items, and where the frame begins that is cut
pub record Messages : Type 0 where
  pub items : List Found
  pub cut : Option ℕ

abbrev pub none_found : Messages
none_found = record { items = []; cut = None }

abbrev pub cut_at : ℕ → Messages
cut_at at = record { items = []; cut = Some (place at) }

-- a frame that is none is the last item: where the next one begins is not known
abbrev pub last_bad : ℕ → Messages
last_bad at = record { items = Bad (place at) ∷ []; cut = None }

abbrev pub found_first : Found → Messages → Messages
found_first item more = record { items = item ∷ more.items; cut = more.cut }

-- what is found in bytes from a place on, in at most so many frames
unfoldable pub messages_from : (frames at : ℕ) → List ℕ → Messages
messages_from zero at bytes = none_found
messages_from (suc frames) at bytes = elim (frame_of bytes) [
  | Nothing ↦ none_found
  | FileEnd ↦ messages_from frames (at + 8) (drop 8 bytes)
  | Message kind message ↦
      found_first (message_at (place at) kind message) (messages_from frames (at + (10 + length message)) (drop (10 + length message) bytes))
  | Misfit ↦ last_bad at
  | NoHead ↦ last_bad at
  | Cut ↦ cut_at at
]

-- what is found in a whole stream, which has no more frames than bytes
abbrev pub messages_of : List ℕ → Messages
messages_of stream = messages_from (length stream) 0 stream
