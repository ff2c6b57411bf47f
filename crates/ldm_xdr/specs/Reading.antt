-- Reading the metadata of a product, field by field from the left, with the first fault that is met. `whole` is how many
-- bytes there were in front of the first field and behind it: so a fault is told by its place.
use Rattle.std.specs.Prelude.{ℕ, ◌+◌, ◌-◌, ◌*◌, List, length, take, Option, Some, None, Result, Ok, Err, nat_lt, ◌==◌, position, if◌then◌else◌}
use Rattle.ldm_types.specs.declared.limits.TheConstants.{LONGEST_IDENT, LONGEST_ORIGIN}
use Rattle.ldm_types.specs.Info.{Metadata, pad4}
use Rattle.ldm_xdr.specs.declared.fault.XdrFault.{XdrFault}
use Rattle.ldm_xdr.specs.declared.fault.XdrFault.TheVariants.{Short, TooLong, Padding, Micros, Nul}
use Rattle.ldm_xdr.specs.Fields.{◌>>=◌, unsigned_in, padded_in, fixed_in}

-- a field that cannot be read for want of bytes
abbrev pub cut_short : {A : Type 0} → ℕ → Result A ℕ → Result A XdrFault
cut_short whole (Ok x) = Ok x
cut_short whole (Err left) = Err (Short (whole - left))

-- the microseconds of a second
unfoldable pub micros_in : ℕ → List ℕ → Result (ℕ × List ℕ) XdrFault
micros_in whole left = do
  micros ← cut_short whole (unsigned_in left)
  if nat_lt micros.0 1000000 then Ok micros else Err (Micros (whole - length left))

-- bytes whose padding has a byte that is not zero, or none
abbrev pub badly_padded : {A : Type 0} → ℕ → Result A ℕ → Result A XdrFault
badly_padded whole (Ok x) = Ok x
badly_padded whole (Err left) = Err (Padding (whole - left))

-- what is read where no byte of a text is zero, or the first such byte: so many bytes are left from the text on
abbrev pub unless_nul : {A : Type 0} → ℕ → ℕ → Option ℕ → Result A XdrFault → Result A XdrFault
unless_nul whole left None read = read
unless_nul whole left (Some place) read = Err (Nul (whole - (left - place)))

-- a text of so many bytes behind its length, where so many bytes are left from the length on
abbrev pub counted_text : ℕ → ℕ → ℕ → ℕ → List ℕ → Result (List ℕ × List ℕ) XdrFault
counted_text whole limit field count left =
    if nat_lt limit count then Err (TooLong (whole - field))
    else (if nat_lt (length left) (pad4 count) then Err (Short (whole - field))
    else unless_nul whole (length left) (position (λ byte. byte == 0) (take count left)) (badly_padded whole (padded_in field count left)))

-- a string of at most so many bytes, with no zero byte in its text and only zero bytes in its padding
unfoldable pub text_in : ℕ → ℕ → List ℕ → Result (List ℕ × List ℕ) XdrFault
text_in whole limit left = do
  count ← cut_short whole (unsigned_in left)
  counted_text whole limit (length left) count.0 count.1

-- the metadata at the front of what is left, and what is behind them
unfoldable pub metadata_in : ℕ → List ℕ → Result (Metadata × List ℕ) XdrFault
metadata_in whole left = do
  seconds ← cut_short whole (unsigned_in left)
  micros ← micros_in whole seconds.1
  signature ← cut_short whole (fixed_in 16 micros.1)
  origin ← text_in whole LONGEST_ORIGIN signature.1
  feed ← cut_short whole (unsigned_in origin.1)
  seqno ← cut_short whole (unsigned_in feed.1)
  ident ← text_in whole LONGEST_IDENT seqno.1
  size ← cut_short whole (unsigned_in ident.1)
  Ok (
    record {
      arrival = seconds.0 * 1000000 + micros.0;
      signature = signature.0;
      origin = origin.0;
      feed = feed.0;
      seqno = seqno.0;
      ident = ident.0;
      size = size.0;
    },
    size.1,
  )

-- the metadata at the front of so many bytes, and the number of bytes that they take
abbrev pub with_len : ℕ → Result (Metadata × List ℕ) XdrFault → Result (Metadata × ℕ) XdrFault
with_len whole (Ok found) = Ok (found.0, whole - length found.1)
with_len whole (Err fault) = Err fault

unfoldable pub metadata_at_front : List ℕ → Result (Metadata × ℕ) XdrFault
metadata_at_front bytes = with_len (length bytes) (metadata_in (length bytes) bytes)

-- the place that a fault names
abbrev pub place_of : XdrFault → ℕ
place_of (Short at) = at
place_of (TooLong at) = at
place_of (Padding at) = at
place_of (Micros at) = at
place_of (Nul at) = at

-- metadata among the fields of a record, where a fault is told by how many bytes are left from its place on
abbrev pub told_by_left : ℕ → Result (Metadata × List ℕ) XdrFault → Result (Metadata × List ℕ) ℕ
told_by_left whole (Ok found) = Ok found
told_by_left whole (Err fault) = Err (whole - place_of fault)

unfoldable pub info_in : List ℕ → Result (Metadata × List ℕ) ℕ
info_in left = told_by_left (length left) (metadata_in (length left) left)
