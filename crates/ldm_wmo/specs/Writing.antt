-- Written bulletins, and what is not written.
use Rattle.std.specs.Prelude.{◌≡◌, ℕ, ◌+◌, ◌*◌, ◌/◌, ◌%◌, ◌<◌, List, [], ◌∷◌, ◌++◌, length, Bool, true, false, not, nat_lt, if◌then◌else◌, Option, Some, None, Result, Ok, Err}
use Rattle.ldm_wmo.specs.declared.fault.WriteFault.{WriteFault}
use Rattle.ldm_wmo.specs.declared.fault.WriteFault.TheVariants.{Seqno, Heading, Text, Long, OutOfMemory}
use Rattle.ldm_wmo.specs.declared.stage.TheConstants.{LARGEST_BULLETIN}
use Rattle.ldm_wmo.specs.declared.write.TheConstants.{LARGEST_SEQNO}
use Rattle.ldm_wmo.specs.Headings.{is_heading}
use Rattle.ldm_wmo.specs.Bulletins.{has_no_mark}
use Rattle.ldm_wmo.specs.Spelling.{Parts, spelling}

-- the digit of a number behind so many units
abbrev pub digit : ℕ → ℕ → ℕ
digit unit n = 48 + n / unit % 10

-- the digits of a number below 100,000: at least three
abbrev pub digits_of : ℕ → List ℕ
digits_of n =
    let last = digit 100 n ∷ digit 10 n ∷ digit 1 n ∷ [] in
    if nat_lt n 1000 then last else if nat_lt n 10000 then digit 1000 n ∷ last else digit 10000 n ∷ digit 1000 n ∷ last

-- the parts of a written bulletin, which has no blanks but those of its heading
abbrev pub parts_of : List ℕ → List ℕ → List ℕ → Parts
parts_of digits heading text = record { digits = digits; behind_digits = []; heading = heading; behind_heading = []; text = text }

-- a bulletin with these digits
abbrev pub written_so : List ℕ → List ℕ → List ℕ → List ℕ
written_so digits heading text = spelling (parts_of digits heading text)

-- a written bulletin
abbrev pub written : ℕ → List ℕ → List ℕ → List ℕ
written seqno heading text = written_so (digits_of seqno) heading text

-- why a bulletin is not written, but for want of memory: the first of these
abbrev pub fault_of : ℕ → List ℕ → List ℕ → Option WriteFault
fault_of seqno heading text =
    if nat_lt LARGEST_SEQNO seqno then Some Seqno
    else if not (is_heading heading) then Some Heading
    else if not (has_no_mark text) then Some Text
    else if nat_lt LARGEST_BULLETIN (length (written seqno heading text)) then Some Long
    else None

-- a fault's cause
abbrev pub HasCause : Option WriteFault → WriteFault → Type 0
HasCause fault Seqno = fault ≡ Some Seqno
HasCause fault Heading = fault ≡ Some Heading
HasCause fault Text = fault ≡ Some Text
HasCause fault Long = fault ≡ Some Long
HasCause fault OutOfMemory = fault ≡ None
