-- What a scanner has in hand, and what the bytes that come make of it.
use Rattle.std.specs.Prelude.{ℕ, ◌+◌, ◌-◌, ◌^◌, min, nat_lt, List, [], ◌∷◌, ◌++◌, length, Bool, true, false, ◌==◌, ◌||◌, not, if◌then◌else◌, Option, Some, None}
use Rattle.std.specs.Str.{bytes_eq}
use Rattle.ldm_wmo.specs.declared.framing.Framing.{Framing}
use Rattle.ldm_wmo.specs.declared.framing.Framing.TheVariants.{Line, Socket}
use Rattle.ldm_wmo.specs.declared.kind.Kind.{Kind}
use Rattle.ldm_wmo.specs.declared.stage.FrameStage.{FrameStage}
use Rattle.ldm_wmo.specs.declared.stage.FrameStage.TheVariants.{Between, Head, Body, Whole, Unread, Lost}
use Rattle.ldm_wmo.specs.declared.stage.Stage.{Stage}
use Rattle.ldm_wmo.specs.declared.stage.Stage.TheVariants.{Outside, Within, Complete, Framed}
use Rattle.ldm_wmo.specs.declared.stage.TheConstants.{LARGEST_BULLETIN}
use Rattle.ldm_wmo.specs.Frames as frames
use Rattle.ldm_wmo.specs.Frames.{file_end, head_of, is_enclosed}
use Rattle.ldm_wmo.specs.Items.{Found, Bad, enclosed_at, found_at}

pub record Scanning : Type 0 where
  -- how many bytes of the stream were taken
  pub place : ℕ
  -- the bytes of the candidate in hand
  pub candidate : List ℕ
  -- where it is
  pub stage : Stage

-- a place stays at 2^64 - 1 where it would pass that
abbrev pub place : ℕ → ℕ
place n = min n (2 ^ 64 - 1)

-- outside candidates
abbrev pub outside : ℕ → Scanning
outside place = record { place = place; candidate = []; stage = Outside }

-- before a frame
abbrev pub between : ℕ → Scanning
between place = record { place = place; candidate = []; stage = Framed Between }

-- behind a frame that is none: no byte is taken for a message any more
abbrev pub lost : ℕ → Scanning
lost place = record { place = place; candidate = []; stage = Framed Lost }

-- before the first byte of a stream
abbrev pub begun : Framing → Scanning
begun Line = outside 0
begun Socket = between 0

-- where it is behind one more byte of the candidate
abbrev pub stage_behind : ℕ → ℕ → ℕ → Stage
stage_behind at length byte = if byte == 3 || length == LARGEST_BULLETIN then Complete at else Within at

-- ten bytes were read
abbrev pub headed_as : ℕ → ℕ → List ℕ → Option frames.Head → Scanning
headed_as at place bytes None = record { place = place; candidate = bytes; stage = Framed (Unread at) }
headed_as at place bytes (Some head) = record { place = place; candidate = []; stage = Framed (Body at head.size head.kind) }

-- these bytes of a head were read
unfoldable pub headed : ℕ → ℕ → List ℕ → Scanning
headed at place bytes =
    if bytes_eq bytes file_end then between place
    else if nat_lt (length bytes) 10 then record { place = place; candidate = bytes; stage = Framed (Head at) }
    else headed_as at place bytes (head_of bytes)

-- where it is in a message that has so many bytes more
abbrev pub body_stage : ℕ → ℕ → Kind → FrameStage
body_stage at left kind = if left == 0 then Whole at kind else Body at left kind

-- One more byte of a frame, or behind one that is none.
abbrev pub after_framed : FrameStage → Scanning → ℕ → Scanning
after_framed Between s byte = headed s.place (place (s.place + 1)) (s.candidate ++ byte ∷ [])
after_framed (Head at) s byte = headed at (place (s.place + 1)) (s.candidate ++ byte ∷ [])
after_framed (Body at left kind) s byte =
    record { place = place (s.place + 1); candidate = s.candidate ++ byte ∷ []; stage = Framed (body_stage at (left - 1) kind) }
after_framed (Whole at kind) s byte = s
after_framed (Unread at) s byte = s
after_framed Lost s byte = record s { place = place (s.place + 1) }

-- One more byte. A 1 begins a candidate, and ends the one in hand, to which it does not belong.
abbrev pub after_byte_in : Stage → Scanning → ℕ → Scanning
after_byte_in Outside s byte =
    if byte == 1 then record { place = place (s.place + 1); candidate = 1 ∷ []; stage = Within s.place }
    else record s { place = place (s.place + 1) }
after_byte_in (Within at) s byte =
    if byte == 1 then record s { stage = Complete at }
    else record {
      place = place (s.place + 1);
      candidate = s.candidate ++ byte ∷ [];
      stage = stage_behind at (length s.candidate + 1) byte;
    }
after_byte_in (Complete at) s byte = s
after_byte_in (Framed stage) s byte = after_framed stage s byte

unfoldable pub after_byte : Scanning → ℕ → Scanning
after_byte s byte = after_byte_in s.stage s byte

-- So many bytes more. Those behind the end of a candidate change nothing.
unfoldable pub after : Scanning → List ℕ → Scanning
after s [] = s
after s (byte ∷ bytes) = after (after_byte s byte) bytes

-- whether a frame has ended, or ten bytes are no head
abbrev pub is_framed : FrameStage → Bool
is_framed Between = false
is_framed (Head at) = false
is_framed (Body at left kind) = false
is_framed (Whole at kind) = true
is_framed (Unread at) = true
is_framed Lost = false

-- whether the byte that comes next is taken: not the 1 that ends a candidate, nor any behind its end
abbrev pub takes_in : Stage → ℕ → Bool
takes_in Outside byte = true
takes_in (Within at) byte = not (byte == 1)
takes_in (Complete at) byte = false
takes_in (Framed stage) byte = not (is_framed stage)

abbrev pub takes : Scanning → ℕ → Bool
takes s byte = takes_in s.stage byte

-- how many of the bytes are taken: all, or those up to the end of a candidate
unfoldable pub bytes_taken : Scanning → List ℕ → ℕ
bytes_taken s [] = 0
bytes_taken s (byte ∷ bytes) = if takes s byte then 1 + bytes_taken (after_byte s byte) bytes else 0

abbrev pub is_complete_in : Stage → Bool
is_complete_in Outside = false
is_complete_in (Within at) = false
is_complete_in (Complete at) = true
is_complete_in (Framed stage) = is_framed stage

-- whether a candidate or a frame has ended
abbrev pub is_complete : Scanning → Bool
is_complete s = is_complete_in s.stage

-- whether no byte that comes next ends something without being taken
abbrev pub is_outside_in : Stage → Bool
is_outside_in Outside = true
is_outside_in (Within at) = false
is_outside_in (Complete at) = false
is_outside_in (Framed stage) = true

abbrev pub is_outside : Scanning → Bool
is_outside s = is_outside_in s.stage

abbrev pub framed_item : FrameStage → List ℕ → Option Found
framed_item Between bytes = None
framed_item (Head at) bytes = None
framed_item (Body at left kind) bytes = None
framed_item (Whole at kind) bytes = Some (enclosed_at at kind bytes)
framed_item (Unread at) bytes = Some (Bad at)
framed_item Lost bytes = None

abbrev pub item_in : Stage → List ℕ → Option Found
item_in Outside bytes = None
item_in (Within at) bytes = None
item_in (Complete at) bytes = Some (found_at at bytes)
item_in (Framed stage) bytes = framed_item stage bytes

-- what a candidate or a frame is that has ended
abbrev pub item_of : Scanning → Option Found
item_of s = item_in s.stage s.candidate

-- A message whose length does not fit is the last one that is read, and so are ten bytes that are no head.
abbrev pub next_framed : FrameStage → Scanning → Scanning
next_framed Between s = s
next_framed (Head at) s = s
next_framed (Body at left kind) s = s
next_framed (Whole at kind) s = if is_enclosed s.candidate then between s.place else lost s.place
next_framed (Unread at) s = lost s.place
next_framed Lost s = s

abbrev pub next_in : Stage → Scanning → Scanning
next_in Outside s = s
next_in (Within at) s = s
next_in (Complete at) s = outside s.place
next_in (Framed stage) s = next_framed stage s

-- a candidate or a frame that has ended is forgotten
abbrev pub next_of : Scanning → Scanning
next_of s = next_in s.stage s

abbrev pub cut_framed : FrameStage → Option ℕ
cut_framed Between = None
cut_framed (Head at) = Some at
cut_framed (Body at left kind) = Some at
cut_framed (Whole at kind) = None
cut_framed (Unread at) = None
cut_framed Lost = None

abbrev pub cut_in : Stage → Option ℕ
cut_in Outside = None
cut_in (Within at) = Some at
cut_in (Complete at) = None
cut_in (Framed stage) = cut_framed stage

-- where the candidate or the frame begins that is open
abbrev pub cut_of : Scanning → Option ℕ
cut_of s = cut_in s.stage

abbrev pub is_line_in : Stage → Bool
is_line_in Outside = true
is_line_in (Within at) = true
is_line_in (Complete at) = true
is_line_in (Framed stage) = false

-- whether it scans no frames
abbrev pub is_line : Scanning → Bool
is_line s = is_line_in s.stage

abbrev pub is_lost_framed : FrameStage → Bool
is_lost_framed Between = false
is_lost_framed (Head at) = false
is_lost_framed (Body at left kind) = false
is_lost_framed (Whole at kind) = false
is_lost_framed (Unread at) = false
is_lost_framed Lost = true

abbrev pub is_lost_in : Stage → Bool
is_lost_in Outside = false
is_lost_in (Within at) = false
is_lost_in (Complete at) = false
is_lost_in (Framed stage) = is_lost_framed stage

-- whether no byte is taken for a message any more
abbrev pub is_lost : Scanning → Bool
is_lost s = is_lost_in s.stage
