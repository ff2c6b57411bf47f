-- The grammar of script lines.
use Rattle.std.specs.Prelude.{ℕ, ◌+◌, ◌-◌, ◌==◌, Bool, true, nat_lt, List, [], ◌∷◌, length, codes, bytes_eq, unwrap_or, Option, Some, None, option_map, Result, Ok, Err, if◌then◌else◌}
use Rattle.std.specs.List.{list_any, find}
use Rattle.md5.specs.Md5.{md5}
use Rattle.ldm_types.specs.Info.{Metadata}
use Rattle.ldm_types.specs.declared.limits.TheConstants.{LONGEST_ORIGIN, LONGEST_IDENT}
use Rattle.ldm_signature.specs.HexSignature.{hex_signature}
use Rattle.ldm_feedtype.specs.Reading.{feed_number}
use Rattle.ldm_model.specs.declared.event.Start.{Start}
use Rattle.ldm_model.specs.declared.event.Start.TheVariants as start
use Rattle.ldm_model.specs.declared.event.Event.{Event}
use Rattle.ldm_model.specs.declared.event.Event.TheVariants as event
use Rattle.ldm_script.specs.declared.line.TheConstants.{LONGEST_LINE}
use Rattle.ldm_answers.specs.declared.answer.TheConstants.{LONGEST_READ}
use Rattle.ldm_script.specs.declared.order.Place.{Place}
use Rattle.ldm_script.specs.declared.order.Place.TheVariants as place
use Rattle.ldm_script.specs.declared.order.ReservePlace.{ReservePlace}
use Rattle.ldm_script.specs.declared.order.ReservePlace.TheVariants as reserve_place
use Rattle.ldm_script.specs.declared.word.LineWord.{LineWord}
use Rattle.ldm_script.specs.declared.word.LineWord.TheVariants as word
use Rattle.ldm_script.specs.declared.word.StartWord.{StartWord}
use Rattle.ldm_script.specs.declared.word.StartWord.TheVariants as start_word
use Rattle.ldm_answers.specs.Number.{four_bytes, instant_of, number_up_to, number_below}
use Rattle.ldm_answers.specs.Texts.{text_up_to}
use Rattle.ldm_script.specs.Bodies.{body_of}
use Rattle.ldm_script.specs.Fields.{◌>>=◌, Left, field, no_more}
use Rattle.ldm_script.specs.Order.{Order, Asked, Plain, OnCursor, OnReservation}

abbrev pub word_text : LineWord → List ℕ
word_text word.Insert = codes "insert"
word_text word.Open = codes "open"
word_text word.Step = codes "step"
word_text word.Read = codes "read"
word_text word.Release = codes "release"
word_text word.Close = codes "close"
word_text word.Look = codes "look"
word_text word.Expire = codes "expire"
word_text word.Tally = codes "tally"
word_text word.Stat = codes "stat"
word_text word.Reserve = codes "reserve"
word_text word.Fill = codes "fill"
word_text word.Commit = codes "commit"
word_text word.Discard = codes "discard"

abbrev pub line_words : List LineWord
line_words =
    word.Insert ∷ word.Open ∷ word.Step ∷ word.Read ∷ word.Release ∷ word.Close ∷ word.Look ∷ word.Expire ∷ word.Tally ∷ word.Stat
    ∷ word.Reserve ∷ word.Fill ∷ word.Commit ∷ word.Discard ∷ []

abbrev pub is_word : List ℕ → LineWord → Bool
is_word text w = bytes_eq (word_text w) text

-- the word that a text is
unfoldable pub word_of_text : List ℕ → Option LineWord
word_of_text text = find (is_word text) line_words

abbrev pub start_word_text : StartWord → List ℕ
start_word_text start_word.Oldest = codes "oldest"
start_word_text start_word.Next = codes "next"
start_word_text start_word.After = codes "after"
start_word_text start_word.Sig = codes "sig"

abbrev pub start_words : List StartWord
start_words = start_word.Oldest ∷ start_word.Next ∷ start_word.After ∷ start_word.Sig ∷ []

-- the word that a text is, of those that say where a cursor begins
unfoldable pub start_word_of_text : List ℕ → Option StartWord
start_word_of_text text = find (λ w. bytes_eq (start_word_text w) text) start_words

-- a feed expression without blanks
abbrev pub feed_of : List ℕ → Option ℕ
feed_of field = if list_any (λ byte. byte == 9) field then None else feed_number field

-- a place below 64; `.` is the last one
abbrev pub place_or_last : {A : Type 0} → A → (ℕ → A) → List ℕ → Option A
place_or_last last at field = if bytes_eq field (codes ".") then Some last else option_map at (number_up_to 63 field)

-- `.` is the cursor that the actor opened last
abbrev pub place_of : List ℕ → Option Place
place_of field = place_or_last place.Last (λ k. place.At k) field

-- `.` is the reservation that the actor made last
abbrev pub reserve_place_of : List ℕ → Option ReservePlace
reserve_place_of field = place_or_last reserve_place.Last (λ r. reserve_place.At r) field

-- a signature by its digits, or none for `md5`, which is that of the body
abbrev pub signature_of : List ℕ → Option (Option (List ℕ))
signature_of field = if bytes_eq field (codes "md5") then Some None else option_map (λ signature. Some signature) (hex_signature field)

-- what stands behind the signature of a product
pub record Details : Type 0 where
  pub feed : ℕ
  pub seqno : ℕ
  pub origin : List ℕ
  pub ident : List ℕ

-- `FEED SEQNO ORIGIN IDENT`
unfoldable pub read_details : Left → Result (Details × Left) ℕ
read_details left = do
  feed ← field feed_of left
  seqno ← field four_bytes feed.1
  origin ← field (text_up_to LONGEST_ORIGIN) seqno.1
  ident ← field (text_up_to LONGEST_IDENT) origin.1
  Ok (record { feed = feed.0; seqno = seqno.0; origin = origin.0; ident = ident.0 }, ident.1)

abbrev pub metadata : ℕ → List ℕ → Details → ℕ → Metadata
metadata arrival signature details size = record {
  arrival = arrival;
  signature = signature;
  origin = details.origin;
  feed = details.feed;
  seqno = details.seqno;
  ident = details.ident;
  size = size;
}

-- `NOW SIG FEED SEQNO ORIGIN IDENT BODY`: the arrival is NOW, and the size is the body's
unfoldable pub read_insert : Left → Result Asked ℕ
read_insert left = do
  now ← field instant_of left
  signature ← field signature_of now.1
  details ← read_details signature.1
  body ← field body_of details.1
  end ← no_more body.1
  Ok (Plain (event.Insert now.0 (metadata now.0 (unwrap_or signature.0 (md5 body.0)) details.0 (length body.0)) body.0))

-- `oldest`, `next`, `after MICROS`, `sig SIG`
abbrev pub read_start : StartWord → Left → Result (Start × Left) ℕ
read_start start_word.Oldest left = Ok (start.Oldest, left)
read_start start_word.Next left = Ok (start.Next, left)
read_start start_word.After left = do
  time ← field instant_of left
  Ok (start.After time.0, time.1)
read_start start_word.Sig left = do
  signature ← field hex_signature left
  Ok (start.AfterSignature (record { 0 = signature.0 }), signature.1)

-- `FEED START`
unfoldable pub read_open : Left → Result Asked ℕ
read_open left = do
  feed ← field feed_of left
  begins ← field start_word_of_text feed.1
  from ← read_start begins.0 begins.1
  end ← no_more from.1
  Ok (Plain (event.OpenCursor (record { 0 = feed.0 }) from.0))

-- `K`
unfoldable pub read_on_cursor : (ℕ → Event) → Left → Result Asked ℕ
read_on_cursor act left = do
  k ← field place_of left
  end ← no_more k.1
  Ok (OnCursor k.0 act)

-- `K OFFSET LEN`
unfoldable pub read_read : Left → Result Asked ℕ
read_read left = do
  k ← field place_of left
  offset ← field four_bytes k.1
  len ← field (number_up_to LONGEST_READ) offset.1
  end ← no_more len.1
  Ok (OnCursor k.0 (λ place. event.Read place offset.0 len.0))

-- `SIG`
unfoldable pub read_look : Left → Result Asked ℕ
read_look left = do
  signature ← field hex_signature left
  end ← no_more signature.1
  Ok (Plain (event.Look (record { 0 = signature.0 })))

-- `ARRIVAL SIG FEED SEQNO ORIGIN IDENT SIZE`
unfoldable pub read_reserve : Left → Result Asked ℕ
read_reserve left = do
  arrival ← field instant_of left
  signature ← field hex_signature arrival.1
  details ← read_details signature.1
  size ← field four_bytes details.1
  end ← no_more size.1
  Ok (Plain (event.Reserve (metadata arrival.0 signature.0 details.0 size.0)))

-- `R BODY`
unfoldable pub read_fill : Left → Result Asked ℕ
read_fill left = do
  r ← field reserve_place_of left
  body ← field body_of r.1
  end ← no_more body.1
  Ok (OnReservation r.0 (λ place. event.Fill place body.0))

-- `R NOW`
unfoldable pub read_commit : Left → Result Asked ℕ
read_commit left = do
  r ← field reserve_place_of left
  now ← field instant_of r.1
  end ← no_more now.1
  Ok (OnReservation r.0 (λ place. event.Commit place now.0))

-- `R`
unfoldable pub read_discard : Left → Result Asked ℕ
read_discard left = do
  r ← field reserve_place_of left
  end ← no_more r.1
  Ok (OnReservation r.0 (λ place. event.Discard place))

-- nothing
abbrev pub read_alone : Event → Left → Result Asked ℕ
read_alone alone left = do
  end ← no_more left
  Ok (Plain alone)

-- what stands behind the word
abbrev pub read_act : LineWord → Left → Result Asked ℕ
read_act word.Insert left = read_insert left
read_act word.Open left = read_open left
read_act word.Step left = read_on_cursor (λ k. event.Step k) left
read_act word.Read left = read_read left
read_act word.Release left = read_on_cursor (λ k. event.Release k) left
read_act word.Close left = read_on_cursor (λ k. event.Close k) left
read_act word.Look left = read_look left
read_act word.Expire left = read_alone event.Expire left
read_act word.Tally left = read_on_cursor (λ k. event.Tally k) left
read_act word.Stat left = read_alone event.Stat left
read_act word.Reserve left = read_reserve left
read_act word.Fill left = read_fill left
read_act word.Commit left = read_commit left
read_act word.Discard left = read_discard left

-- `ACTOR WORD ..`, the actor a number below that of actors
unfoldable pub read_order : ℕ → Left → Result Order ℕ
read_order actors left = do
  actor ← field (number_below actors) left
  w ← field word_of_text actor.1
  asked ← read_act w.0 w.1
  Ok (record { actor = actor.0; asked = asked })

-- an empty line, or one that begins with `#`
abbrev pub is_comment : List ℕ → Bool
is_comment [] = true
is_comment (byte ∷ bytes) = byte == 35

-- the column, from 1, of a place in a line of that length, by the bytes from there to the end
abbrev pub column_of : ℕ → ℕ → ℕ
column_of len left = len + 1 - left

abbrev pub at_column : ℕ → Result Order ℕ → Result (Option Order) ℕ
at_column len (Ok order) = Ok (Some order)
at_column len (Err left) = Err (column_of len left)

-- What a line is, without its newline: skipped; an order; or not in the grammar, and the column of its first fault.
unfoldable pub read_line : ℕ → List ℕ → Result (Option Order) ℕ
read_line actors line =
    if nat_lt LONGEST_LINE (length line) then Err (LONGEST_LINE + 1)
    else (if is_comment line then Ok None else at_column (length line) (read_order actors (Some line)))
