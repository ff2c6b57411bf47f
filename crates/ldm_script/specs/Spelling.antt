-- The canonical spelling of an order, and what calls say that write it.
use Rattle.std.specs.Prelude.{◌≡◌, ℕ, ◌<◌, ◌≤◌, List, ◌++◌, length, codes, decimal, Some, Ok, []}
use Rattle.hex.specs.Hex.{encode_lower}
use Rattle.ldm_feedtype.specs.Text.{feed_digits}
use Rattle.ldm_model.specs.declared.event.Start.{Start}
use Rattle.ldm_model.specs.declared.event.Start.TheVariants as start
use Rattle.ldm_script.specs.declared.order.Place.{Place}
use Rattle.ldm_script.specs.declared.order.Place.TheVariants as place
use Rattle.ldm_script.specs.declared.order.ReservePlace.{ReservePlace}
use Rattle.ldm_script.specs.declared.order.ReservePlace.TheVariants as reserve_place
use Rattle.ldm_script.specs.declared.order.Act.{Act}
use Rattle.ldm_script.specs.declared.order.Act.TheVariants as act
use Rattle.ldm_script.specs.declared.order.Order.{Order as ReadOrder}
use Rattle.ldm_answers.specs.Answer.{blank_field, blank_number, product_text, info_text}
use Rattle.ldm_script.specs.Bodies.{body_of}
use Rattle.ldm_answers.specs.Texts.{body_text}
use Rattle.ldm_script.specs.OrderView.{bytes_of, order_of}
use Rattle.ldm_answers.specs.ReadsBack.{ProductReadsBack, InfoReadsBack}
use Rattle.ldm_script.specs.Grammar.{read_line}
use Rattle.ldm_answers.specs.Number.{instant_of, four_bytes}
use Rattle.ldm_script.specs.declared.line.TheConstants.{LONGEST_LINE}
use Rattle.ldm_feedtype.specs.Reading.{feed_number}
use Rattle.ldm_signature.specs.HexSignature.{hex_signature}

abbrev pub place_text : Place → List ℕ
place_text (place.At k) = decimal k
place_text place.Last = codes "."

abbrev pub reserve_place_text : ReservePlace → List ℕ
reserve_place_text (reserve_place.At r) = decimal r
reserve_place_text reserve_place.Last = codes "."

abbrev pub start_text : Start → List ℕ
start_text start.Oldest = codes "oldest"
start_text start.Next = codes "next"
start_text (start.After time) = codes "after" ++ blank_number time
start_text (start.AfterSignature signature) = codes "sig" ++ blank_field (encode_lower signature.0)

abbrev pub act_text : Act → List ℕ
act_text (act.Insert now info body) =
    codes "insert" ++ blank_number now ++ product_text info ++ blank_field (body_text (bytes_of body))
act_text (act.OpenCursor feed start) = codes "open" ++ blank_field (feed_digits feed.0) ++ blank_field (start_text start)
act_text (act.Step k) = codes "step" ++ blank_field (place_text k)
act_text (act.Read k offset len) = codes "read" ++ blank_field (place_text k) ++ blank_number offset ++ blank_number len
act_text (act.Release k) = codes "release" ++ blank_field (place_text k)
act_text (act.Close k) = codes "close" ++ blank_field (place_text k)
act_text (act.Look signature) = codes "look" ++ blank_field (encode_lower signature.0)
act_text act.Expire = codes "expire"
act_text (act.Tally k) = codes "tally" ++ blank_field (place_text k)
act_text act.Stat = codes "stat"
act_text (act.Reserve info) = codes "reserve" ++ info_text info
act_text (act.Fill r body) = codes "fill" ++ blank_field (reserve_place_text r) ++ blank_field (body_text (bytes_of body))
act_text (act.Commit r now) = codes "commit" ++ blank_field (reserve_place_text r) ++ blank_number now
act_text (act.Discard r) = codes "discard" ++ blank_field (reserve_place_text r)

-- the line of an order: lower-case digits, the body as digits, and the cursor or the reservation as in the order
unfoldable pub spelling : ReadOrder → List ℕ
spelling order = decimal order.actor ++ blank_field (act_text order.act)

-- Where it is no longer than a line may be, the spelling is read as the order, for any number of actors that has this one.
abbrev pub IsReadBack : ReadOrder → Type 0
IsReadBack order = (actors : ℕ) → order.actor < actors → length (spelling order) ≤ LONGEST_LINE → read_line actors (spelling order) ≡ Ok (Some (order_of order))

-- the bytes of the body that an act carries; none of another act
abbrev pub carried : Act → List ℕ
carried (act.Insert now info body) = bytes_of body
carried (act.Fill r body) = bytes_of body
carried _ = []

-- the body that an act carries, as it is spelled
abbrev pub back_text : Act → List ℕ
back_text (act.Insert now info body) = body_text (bytes_of body)
back_text (act.Fill r body) = body_text (bytes_of body)
back_text _ = []

-- what stands in front of it; the whole of another act
abbrev pub front_text : Act → List ℕ
front_text (act.Insert now info body) = codes "insert" ++ blank_number now ++ product_text info ++ codes " "
front_text (act.Fill r body) = codes "fill" ++ blank_field (reserve_place_text r) ++ codes " "
front_text other = act_text other

-- Each of these says that fields are read as what they were written for.

abbrev pub StartReadsBack : Start → Type 0
StartReadsBack (start.After time) = instant_of (decimal time) ≡ Some time
StartReadsBack (start.AfterSignature signature) = hex_signature (encode_lower signature.0) ≡ Some signature.0
StartReadsBack _ = Unit {0}

abbrev pub IsPlace : Place → Type 0
IsPlace (place.At k) = k < 64
IsPlace place.Last = Unit {0}

abbrev pub IsReservePlace : ReservePlace → Type 0
IsReservePlace (reserve_place.At r) = r < 64
IsReservePlace reserve_place.Last = Unit {0}

-- the fields of an act, but for a body
abbrev pub FrontReadsBack : Act → Type 0
FrontReadsBack (act.Insert now info body) = (instant_of (decimal now) ≡ Some now) × ProductReadsBack info
FrontReadsBack (act.OpenCursor feed start) = (feed_number (feed_digits feed.0) ≡ Some feed.0) × StartReadsBack start
FrontReadsBack (act.Step k) = IsPlace k
FrontReadsBack (act.Read k offset len) = IsPlace k × (four_bytes (decimal offset) ≡ Some offset)
FrontReadsBack (act.Release k) = IsPlace k
FrontReadsBack (act.Close k) = IsPlace k
FrontReadsBack (act.Look signature) = hex_signature (encode_lower signature.0) ≡ Some signature.0
FrontReadsBack (act.Tally k) = IsPlace k
FrontReadsBack (act.Reserve info) = InfoReadsBack info
FrontReadsBack (act.Fill r body) = IsReservePlace r
FrontReadsBack (act.Commit r now) = IsReservePlace r × (instant_of (decimal now) ≡ Some now)
FrontReadsBack (act.Discard r) = IsReservePlace r
FrontReadsBack _ = Unit {0}

abbrev pub BackReadsBack : Act → Type 0
BackReadsBack (act.Insert now info body) = body_of (body_text (bytes_of body)) ≡ Some (bytes_of body)
BackReadsBack (act.Fill r body) = body_of (body_text (bytes_of body)) ≡ Some (bytes_of body)
BackReadsBack _ = Unit {0}
