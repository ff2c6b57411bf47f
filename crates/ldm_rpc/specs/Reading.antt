-- What a reader keeps of the record in hand, and what the bytes that come make of it (RFC 5531, section 11).
use Rattle.std.specs.Prelude.{ℕ, ◌+◌, ◌-◌, ◌*◌, ◌%◌, ◌^◌, min, List, [], ◌∷◌, ◌++◌, length, Bool, true, false, ◌==◌, nat_lt, nat_le, if◌then◌else◌, Option, Some, None}
use Rattle.ldm_rpc.specs.declared.fault.RpcFault.TheVariants.{TooLong}
use Rattle.ldm_rpc.specs.declared.stage.Stage.{Stage}
use Rattle.ldm_rpc.specs.declared.stage.Stage.TheVariants.{Header, Fragment, Whole, Faulty}
use Rattle.ldm_rpc.specs.declared.stage.TheConstants.{LAST_FRAGMENT}

pub record Reading : Type 0 where
  -- the most bytes that the content of a record may have
  pub limit : ℕ
  -- the bytes of the record's fragments so far
  pub content : List ℕ
  -- where in the record the header in hand begins or, within a fragment, the next one will
  pub next_header_at : ℕ
  -- where in the record it is
  pub stage : Stage

-- before the first byte of a record
abbrev pub begun : ℕ → Reading
begun limit = record { limit = limit; content = []; next_header_at = 0; stage = Header 0 0 }

-- a place stays at 2^64 - 1 where it would pass that
abbrev pub place : ℕ → ℕ
place n = min n (2 ^ 64 - 1)

-- where it is before so many bytes of a fragment
abbrev pub stage_before : ℕ → Bool → Stage
stage_before left last = if left == 0 then (if last then Whole else Header 0 0) else Fragment left last

-- a header has come whole: its top bit says whether the fragment is the last, the rest is its length
abbrev pub after_header : Reading → ℕ → Reading
after_header s number =
    let len = number % LAST_FRAGMENT in
    if nat_lt s.limit (length s.content + len) then record s { stage = Faulty (TooLong s.next_header_at) }
    else record s {
      next_header_at = place (s.next_header_at + 4 + len);
      stage = stage_before len (nat_le LAST_FRAGMENT number);
    }

-- one more byte
abbrev pub after_byte_in : Stage → Reading → ℕ → Reading
after_byte_in (Header came number) s byte =
    if came == 3 then after_header s (number * 256 + byte) else record s { stage = Header (came + 1) (number * 256 + byte) }
after_byte_in (Fragment left last) s byte = record s { content = s.content ++ byte ∷ []; stage = stage_before (left - 1) last }
after_byte_in Whole s byte = s
after_byte_in (Faulty fault) s byte = s

unfoldable pub after_byte : Reading → ℕ → Reading
after_byte s byte = after_byte_in s.stage s byte

-- So many bytes more. Those behind the end of the record, and behind a fault, change nothing.
unfoldable pub after : Reading → List ℕ → Reading
after s [] = s
after s (byte ∷ bytes) = after (after_byte s byte) bytes

abbrev pub is_open_at : Stage → Bool
is_open_at (Header came number) = true
is_open_at (Fragment left last) = true
is_open_at Whole = false
is_open_at (Faulty fault) = false

-- whether bytes are still taken: the record is not complete, and there was no fault
abbrev pub is_open : Reading → Bool
is_open s = is_open_at s.stage

-- how many of the bytes are taken: all, or those up to the end of the record or to a fault
unfoldable pub bytes_taken : Reading → List ℕ → ℕ
bytes_taken s [] = 0
bytes_taken s (byte ∷ bytes) = if is_open s then 1 + bytes_taken (after_byte s byte) bytes else 0

abbrev pub is_whole_at : Stage → Bool
is_whole_at (Header came number) = false
is_whole_at (Fragment left last) = false
is_whole_at Whole = true
is_whole_at (Faulty fault) = false

-- whether the record is complete
abbrev pub is_whole : Reading → Bool
is_whole s = is_whole_at s.stage

abbrev pub is_faulty_at : Stage → Bool
is_faulty_at (Header came number) = false
is_faulty_at (Fragment left last) = false
is_faulty_at Whole = false
is_faulty_at (Faulty fault) = true

-- whether there was a fault
abbrev pub is_faulty : Reading → Bool
is_faulty s = is_faulty_at s.stage

-- the content of a complete record
abbrev pub whole_of : Reading → Option (List ℕ)
whole_of s = if is_whole s then Some s.content else None

-- a complete record is forgotten
abbrev pub next_of : Reading → Reading
next_of s = if is_whole s then begun s.limit else s

abbrev pub is_pending_at : Stage → ℕ → Bool
is_pending_at (Header came number) before = nat_lt 0 (before + came)
is_pending_at (Fragment left last) before = true
is_pending_at Whole before = false
is_pending_at (Faulty fault) before = true

-- whether a record or a fragment header was begun and is not complete
abbrev pub is_pending : Reading → Bool
is_pending s = is_pending_at s.stage s.next_header_at
