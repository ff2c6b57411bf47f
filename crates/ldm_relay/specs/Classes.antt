-- Classes of products, and what is said to one.
use Rattle.std.specs.Prelude.{ℕ, zero, suc, ◌+◌, ◌*◌, ◌==◌, List, [], ◌∷◌, length, Result, Ok, Err, if◌then◌else◌}
use Rattle.ldm_types.specs.declared.limits.TheConstants.{LONGEST_PATTERN, MOST_SPECS}
use Rattle.ldm_types.specs.declared.class.ClassSpec.{ClassSpec}
use Rattle.ldm_types.specs.declared.class.Spec.{Spec}
use Rattle.ldm_relay.specs.declared.message.ClassAnswer.{ClassAnswer}
use Rattle.ldm_relay.specs.declared.message.ClassAnswer.TheVariants as class_answer
use Rattle.ldm_xdr.specs.Fields.{◌>>=◌, unsigned_in, up_to_in, opaque_in}

-- seconds, and microseconds below 1,000,000
unfoldable pub instant_in : List ℕ → Result (ℕ × List ℕ) ℕ
instant_in left = do
  seconds ← unsigned_in left
  micros ← up_to_in 999999 seconds.1
  Ok (seconds.0 * 1000000 + micros.0, micros.1)

-- feedtypes, and a pattern of any bytes
unfoldable pub spec_in : List ℕ → Result (Spec × List ℕ) ℕ
spec_in left = do
  feed ← unsigned_in left
  pattern ← opaque_in LONGEST_PATTERN feed.1
  Ok (record { feed = record { 0 = feed.0 }; pattern = record { items = pattern.0 } }, pattern.1)

-- so many specifications
unfoldable pub specs_in : ℕ → List ℕ → Result (List Spec × List ℕ) ℕ
specs_in zero left = Ok ([], left)
specs_in (suc count) left = do
  first ← spec_in left
  others ← specs_in count first.1
  Ok (first.0 ∷ others.0, others.1)

-- the earliest and the latest instant, and a count with so many specifications
unfoldable pub class_in : List ℕ → Result (ClassSpec × List ℕ) ℕ
class_in left = do
  from ← instant_in left
  to ← instant_in from.1
  count ← up_to_in MOST_SPECS to.1
  specs ← specs_in count.0 count.1
  Ok (record { from = from.0; to = to.0; specs = record { items = specs.0 } }, specs.1)

-- a class behind the code that says that no more than it is fed
unfoldable pub reclass_in : List ℕ → Result (ClassAnswer × List ℕ) ℕ
reclass_in left = do
  class ← class_in left
  Ok (class_answer.Reclass class.0, class.1)

-- the answer that a code begins, or how much was left at the code
abbrev pub coded_class_answer : ℕ → ℕ → List ℕ → Result (ClassAnswer × List ℕ) ℕ
coded_class_answer field code left =
    if code == 0 then Ok (class_answer.Ok, left)
    else (if code == 1 then reclass_in left
    else (if code == 2 then Ok (class_answer.Denied, left)
    else (if code == 3 then Ok (class_answer.BadPattern, left)
    else (if code == 4 then Ok (class_answer.Busy, left) else Err field))))

unfoldable pub class_answer_in : List ℕ → Result (ClassAnswer × List ℕ) ℕ
class_answer_in left = do
  code ← unsigned_in left
  coded_class_answer (length left) code.0 code.1
