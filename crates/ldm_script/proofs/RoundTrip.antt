-- Lines that are read as the orders that they spell.
use Rattle.std.proofs.Common.{◌≡◌, ℕ, ◌+◌, ◌-◌, ◌^◌, ◌<◌, ◌≤◌, false, cond, List, [], ◌∷◌, ◌++◌, length, codes, decimal, Some, None, Result, Ok, Err, refl, sym, ap, subst, ◌∙◌, arith}
use Rattle.std.proofs.lemmas.Bool.{cond-false, le-ltb}
use Rattle.std.proofs.lemmas.Fmt.{decimal_nonempty}
use Rattle.std.proofs.lemmas.List.Elements.{All-head}
use Rattle.std.specs.Prelude.{◌==◌, nat_lt}
use Rattle.std.proofs.lemmas.List.{append_assoc, append-nil}
use Rattle.hex.specs.Hex.{encode_lower}
use Rattle.ldm_types.specs.Info.{Metadata}
use Rattle.ldm_types.specs.declared.limits.TheConstants.{GREATEST_INSTANT, LONGEST_ORIGIN, LONGEST_IDENT}
use Rattle.ldm_types.specs.declared.feed.Feed.{Feed}
use Rattle.ldm_types.specs.declared.signature.Signature.{Signature}
use Rattle.ldm_feedtype.specs.Text.{feed_digits}
use Rattle.ldm_feedtype.specs.Reading.{feed_number}
use Rattle.ldm_signature.specs.HexSignature.{hex_signature}
use Rattle.ldm_model.specs.declared.event.Start.{Start}
use Rattle.ldm_model.specs.declared.event.Start.TheVariants as start
use Rattle.ldm_model.specs.declared.event.Event.{Event}
use Rattle.ldm_model.specs.declared.event.Event.TheVariants as event
use Rattle.ldm_script.specs.declared.order.Place.{Place}
use Rattle.ldm_script.specs.declared.order.Place.TheVariants as place
use Rattle.ldm_script.specs.declared.order.ReservePlace.{ReservePlace}
use Rattle.ldm_script.specs.declared.order.ReservePlace.TheVariants as reserve_place
use Rattle.ldm_script.specs.declared.order.Act.{Act}
use Rattle.ldm_script.specs.declared.order.Act.TheVariants as act
use Rattle.ldm_script.specs.declared.order.Order.{Order as ReadOrder}
use Rattle.ldm_script.specs.declared.word.LineWord.{LineWord}
use Rattle.ldm_script.specs.declared.word.LineWord.TheVariants as word
use Rattle.ldm_script.specs.declared.word.StartWord.{StartWord}
use Rattle.ldm_script.specs.declared.word.StartWord.TheVariants as start_word
use Rattle.ldm_answers.specs.Answer.{blank_field, blank_number, product_text, info_text}
use Rattle.ldm_script.specs.Bodies.{body_of}
use Rattle.ldm_answers.specs.Texts.{body_text, spelled, text_up_to}
use Rattle.ldm_script.specs.Fields.{◌>>=◌, Left, field}
use Rattle.ldm_script.specs.Grammar.{read_details, read_insert, read_open, read_start, read_on_cursor, read_read, read_look, read_reserve, read_fill, read_commit, read_discard, read_act, read_order, read_line, is_comment, at_column, signature_of, feed_of, place_of, reserve_place_of, Details, word_text, word_of_text, start_word_of_text}
use Rattle.ldm_answers.specs.Number.{instant_of, four_bytes, number_up_to, number_below}
use Rattle.ldm_script.specs.Order.{Asked, Plain, OnCursor, OnReservation}
use Rattle.ldm_script.specs.OrderView.{bytes_of, asked_of, order_of, IsWritable}
use Rattle.ldm_script.specs.Spelling.{act_text, place_text, reserve_place_text, start_text, spelling, IsReadBack, front_text, back_text, FrontReadsBack, BackReadsBack, StartReadsBack, IsPlace, IsReservePlace}
use Rattle.ldm_script.specs.Split.{Lacks}
use Rattle.ldm_script.specs.declared.line.TheConstants.{LONGEST_LINE}
use Rattle.ldm_answers.specs.declared.answer.TheConstants.{LONGEST_READ}
use Rattle.ldm_answers.specs.ReadsBack.{InfoReadsBack, ProductReadsBack}
use Rattle.ldm_script.proofs.Solid.{lacks-number, lacks-encode_lower, lacks-feed_digits, lacks-spelled, lacks-body_text, lacks-literal}
use Rattle.ldm_script.proofs.Taking.{field_then, field_last}
use Rattle.ldm_script.proofs.ReadBack.{place_or_last-decimal, signature_of-digits, feed_of-digits}
use Rattle.ldm_answers.proofs.ReadFields.{number_below-decimal, number_up_to-decimal}

-- ---- `insert` and `reserve`

-- the fields of a product behind its signature, and what stands behind them
abbrev details_rest : Metadata → List ℕ → List ℕ
details_rest info behind = feed_digits info.feed ++ 32 ∷ (decimal info.seqno ++ 32 ∷ (spelled info.origin ++ 32 ∷ (spelled info.ident ++ 32 ∷ behind)))

-- the line of an insertion behind its word
abbrev insert_rest : ℕ → Metadata → List ℕ → List ℕ
insert_rest now info body = decimal now ++ 32 ∷ (encode_lower info.signature ++ 32 ∷ details_rest info (body_text body))

-- and that of a reservation
abbrev reserve_rest : Metadata → List ℕ
reserve_rest info = decimal info.arrival ++ 32 ∷ (encode_lower info.signature ++ 32 ∷ details_rest info (decimal info.size))

regroup : (w a b c d e f g : List ℕ) → w ++ a ++ (b ++ c ++ d ++ e ++ f) ++ g ≡ w ++ (a ++ (b ++ (c ++ (d ++ (e ++ (f ++ g))))))
regroup w a b c d e f g = simp append_assoc

insert_text : (now : ℕ) (info : Metadata) (body : List ℕ) → codes "insert" ++ blank_number now ++ product_text info ++ blank_field (body_text body) ≡ codes "insert" ++ 32 ∷ insert_rest now info body
insert_text now info body =
    regroup (codes "insert") (blank_number now) (blank_field (encode_lower info.signature)) (blank_field (feed_digits info.feed)) (blank_number info.seqno)
    (blank_field (spelled info.origin)) (blank_field (spelled info.ident)) (blank_field (body_text body))

regroup_info : (a b c d e f g : List ℕ) → a ++ (b ++ c ++ d ++ e ++ f) ++ g ≡ a ++ (b ++ (c ++ (d ++ (e ++ (f ++ g)))))
regroup_info a b c d e f g = simp append_assoc

reserve_text : (info : Metadata) → codes "reserve" ++ info_text info ≡ codes "reserve" ++ 32 ∷ reserve_rest info
reserve_text info =
    ap (λ (l : List ℕ). codes "reserve" ++ l)
    (regroup_info (blank_number info.arrival) (blank_field (encode_lower info.signature)) (blank_field (feed_digits info.feed)) (blank_number info.seqno)
    (blank_field (spelled info.origin)) (blank_field (spelled info.ident)) (blank_number info.size))

then : {A B : Type 0} (r : Result A ℕ) (x : A) (more : A → Result B ℕ) → r ≡ Ok x → (r >>= more) ≡ more x
then {A = A} {B = B} r x more is = ap (λ (q : Result A ℕ). q >>= more) is

-- metadata with another arrival and size
abbrev with : Metadata → ℕ → ℕ → Metadata
with info arrival size = record {
  arrival = arrival;
  signature = info.signature;
  origin = info.origin;
  feed = info.feed;
  seqno = info.seqno;
  ident = info.ident;
  size = size;
}

abbrev details : Metadata → Details
details info = record { feed = info.feed; seqno = info.seqno; origin = info.origin; ident = info.ident }

reads_details : (info : Metadata) (behind : List ℕ) → ProductReadsBack info → read_details (Some (details_rest info behind)) ≡ Ok (details info, Some behind)
unfolding read_details
reads_details info behind product =
    let behind_origin = spelled info.ident ++ 32 ∷ behind in
    let behind_seqno = spelled info.origin ++ 32 ∷ behind_origin in
    let behind_feed = decimal info.seqno ++ 32 ∷ behind_seqno in
    then _ _ _ (field_then feed_of (feed_digits info.feed) behind_feed info.feed (lacks-feed_digits 32 info.feed (omega arith)) (feed_of-digits info.feed product.feed))
    ∙ then _ _ _ (field_then four_bytes (decimal info.seqno) behind_seqno info.seqno (lacks-number 32 (2 ^ 32 - 1) info.seqno (decimal info.seqno) (omega arith) product.seqno) product.seqno)
    ∙ then _ _ _ (field_then (text_up_to LONGEST_ORIGIN) (spelled info.origin) behind_origin info.origin (lacks-spelled info.origin) product.origin)
    ∙ then _ _ _ (field_then (text_up_to LONGEST_IDENT) (spelled info.ident) behind info.ident (lacks-spelled info.ident) product.ident)

reads_insert : (now : ℕ) (info : Metadata) (body : List ℕ) → instant_of (decimal now) ≡ Some now → ProductReadsBack info → body_of (body_text body) ≡ Some body
    → length body ≡ info.size → info.arrival ≡ now → read_insert (Some (insert_rest now info body)) ≡ Ok (Plain (event.Insert now info body))
unfolding read_insert
reads_insert now info body now_is product body_is size arrival =
    let behind_signature = details_rest info (body_text body) in
    let behind_now = encode_lower info.signature ++ 32 ∷ behind_signature in
    then _ _ _ (field_then instant_of (decimal now) behind_now now (lacks-number 32 GREATEST_INSTANT now (decimal now) (omega arith) now_is) now_is)
    ∙ then _ _ _ (field_then signature_of (encode_lower info.signature) behind_signature (Some info.signature) (lacks-encode_lower info.signature) (signature_of-digits info.signature product.signature))
    ∙ then _ _ _ (reads_details info (body_text body) product)
    ∙ then _ _ _ (field_last body_of (body_text body) body (lacks-body_text body) body_is)
    ∙ ap (λ (n : ℕ). Ok (Plain (event.Insert now (with info now n) body))) size
    ∙ ap (λ (n : ℕ). Ok (Plain (event.Insert now (with info n info.size) body))) (sym arrival)

reads_reserve : (info : Metadata) → InfoReadsBack info → read_reserve (Some (reserve_rest info)) ≡ Ok (Plain (event.Reserve info))
unfolding read_reserve
reads_reserve info reads =
    let behind_signature = details_rest info (decimal info.size) in
    let behind_arrival = encode_lower info.signature ++ 32 ∷ behind_signature in
    then _ _ _ (field_then instant_of (decimal info.arrival) behind_arrival info.arrival (lacks-number 32 GREATEST_INSTANT info.arrival (decimal info.arrival) (omega arith) reads.arrival) reads.arrival)
    ∙ then _ _ _ (field_then hex_signature (encode_lower info.signature) behind_signature info.signature (lacks-encode_lower info.signature) reads.product.signature)
    ∙ then _ _ _ (reads_details info (decimal info.size) reads.product)
    ∙ then _ _ _ (field_last four_bytes (decimal info.size) info.size (lacks-number 32 (2 ^ 32 - 1) info.size (decimal info.size) (omega arith) reads.size) reads.size)

-- ---- cursors

lacks-place : (k : Place) → IsPlace k → Lacks 32 (place_text k)
lacks-place (place.At k) below = lacks-number 32 63 k (decimal k) (omega arith) (number_up_to-decimal 63 k (omega arith) (omega arith))
lacks-place place.Last below = lacks-literal (codes ".") refl

place_is : (k : Place) → IsPlace k → place_of (place_text k) ≡ Some k
place_is (place.At k) below = place_or_last-decimal place.Last (λ n. place.At n) k below
place_is place.Last below = refl

reads_on_cursor : (k : Place) (event : ℕ → Event) → IsPlace k → read_on_cursor event (Some (place_text k)) ≡ Ok (OnCursor k event)
unfolding read_on_cursor
reads_on_cursor k event below = then _ _ _ (field_last place_of (place_text k) k (lacks-place k below) (place_is k below))

reads_read : (k : Place) (offset len : ℕ) → IsPlace k → four_bytes (decimal offset) ≡ Some offset → len ≤ LONGEST_READ
    → read_read (Some (place_text k ++ 32 ∷ (decimal offset ++ 32 ∷ decimal len))) ≡ Ok (OnCursor k (λ place. event.Read place offset len))
unfolding read_read
reads_read k offset len below offset_is few =
    let len_is = number_up_to-decimal LONGEST_READ len few (omega arith) in
    then _ _ _ (field_then place_of (place_text k) (decimal offset ++ 32 ∷ decimal len) k (lacks-place k below) (place_is k below))
    ∙ then _ _ _ (field_then four_bytes (decimal offset) (decimal len) offset (lacks-number 32 (2 ^ 32 - 1) offset (decimal offset) (omega arith) offset_is) offset_is)
    ∙ then _ _ _ (field_last (number_up_to LONGEST_READ) (decimal len) len (lacks-number 32 LONGEST_READ len (decimal len) (omega arith) len_is) len_is)

-- ---- reservations

lacks-reserve_place : (r : ReservePlace) → IsReservePlace r → Lacks 32 (reserve_place_text r)
lacks-reserve_place (reserve_place.At r) below = lacks-number 32 63 r (decimal r) (omega arith) (number_up_to-decimal 63 r (omega arith) (omega arith))
lacks-reserve_place reserve_place.Last below = lacks-literal (codes ".") refl

reserve_place_is : (r : ReservePlace) → IsReservePlace r → reserve_place_of (reserve_place_text r) ≡ Some r
reserve_place_is (reserve_place.At r) below = place_or_last-decimal reserve_place.Last (λ n. reserve_place.At n) r below
reserve_place_is reserve_place.Last below = refl

reads_fill : (r : ReservePlace) (bytes : List ℕ) → IsReservePlace r → body_of (body_text bytes) ≡ Some bytes
    → read_fill (Some (reserve_place_text r ++ 32 ∷ body_text bytes)) ≡ Ok (OnReservation r (λ place. event.Fill place bytes))
unfolding read_fill
reads_fill r bytes below body_is =
    then _ _ _ (field_then reserve_place_of (reserve_place_text r) (body_text bytes) r (lacks-reserve_place r below) (reserve_place_is r below))
    ∙ then _ _ _ (field_last body_of (body_text bytes) bytes (lacks-body_text bytes) body_is)

reads_commit : (r : ReservePlace) (now : ℕ) → IsReservePlace r → instant_of (decimal now) ≡ Some now
    → read_commit (Some (reserve_place_text r ++ 32 ∷ decimal now)) ≡ Ok (OnReservation r (λ place. event.Commit place now))
unfolding read_commit
reads_commit r now below now_is =
    then _ _ _ (field_then reserve_place_of (reserve_place_text r) (decimal now) r (lacks-reserve_place r below) (reserve_place_is r below))
    ∙ then _ _ _ (field_last instant_of (decimal now) now (lacks-number 32 GREATEST_INSTANT now (decimal now) (omega arith) now_is) now_is)

reads_discard : (r : ReservePlace) → IsReservePlace r → read_discard (Some (reserve_place_text r)) ≡ Ok (OnReservation r (λ place. event.Discard place))
unfolding read_discard
reads_discard r below = then _ _ _ (field_last reserve_place_of (reserve_place_text r) r (lacks-reserve_place r below) (reserve_place_is r below))

-- ---- `open` and `look`

-- the start of a cursor: its word, and what is left behind the word and behind the start
record ReadsStart (text : List ℕ) (from : Start) : Type 0 where
  word : StartWord
  left : Left
  word_is : field start_word_of_text (Some text) ≡ Ok (word, left)
  start_is : read_start word left ≡ Ok (from, None)

reads_start : (from : Start) → StartReadsBack from → ReadsStart (start_text from) from
unfolding start_word_of_text
reads_start start.Oldest is = record { word = start_word.Oldest; left = None; word_is = field_last start_word_of_text (codes "oldest") start_word.Oldest (lacks-literal (codes "oldest") refl) refl; start_is = refl }
reads_start start.Next is = record { word = start_word.Next; left = None; word_is = field_last start_word_of_text (codes "next") start_word.Next (lacks-literal (codes "next") refl) refl; start_is = refl }
reads_start (start.After time) is = record {
  word = start_word.After;
  left = Some (decimal time);
  word_is = field_then start_word_of_text (codes "after") (decimal time) start_word.After (lacks-literal (codes "after") refl) refl;
  start_is = then _ _ _ (field_last instant_of (decimal time) time (lacks-number 32 GREATEST_INSTANT time (decimal time) (omega arith) is) is);
}
reads_start (start.AfterSignature signature) is = record {
  word = start_word.Sig;
  left = Some (encode_lower signature.0);
  word_is = field_then start_word_of_text (codes "sig") (encode_lower signature.0) start_word.Sig (lacks-literal (codes "sig") refl) refl;
  start_is = then _ _ _ (field_last hex_signature (encode_lower signature.0) signature.0 (lacks-encode_lower signature.0) is);
}

reads_open : (feed : Feed) (from : Start) → feed_number (feed_digits feed.0) ≡ Some feed.0 → StartReadsBack from
    → read_open (Some (feed_digits feed.0 ++ 32 ∷ start_text from)) ≡ Ok (Plain (event.OpenCursor feed from))
unfolding read_open
reads_open feed from feed_is from_is =
    let begins = reads_start from from_is in
    then _ _ _ (field_then feed_of (feed_digits feed.0) (start_text from) feed.0 (lacks-feed_digits 32 feed.0 (omega arith)) (feed_of-digits feed.0 feed_is))
    ∙ then _ _ _ begins.word_is
    ∙ then _ _ _ begins.start_is

reads_look : (signature : Signature) → hex_signature (encode_lower signature.0) ≡ Some signature.0 → read_look (Some (encode_lower signature.0)) ≡ Ok (Plain (event.Look signature))
unfolding read_look
reads_look signature is = then _ _ _ (field_last hex_signature (encode_lower signature.0) signature.0 (lacks-encode_lower signature.0) is)

-- ---- acts

-- an act: its word, and what is left behind it
record ReadsAct (text : List ℕ) (asked : Asked) : Type 0 where
  word : LineWord
  left : Left
  word_is : field word_of_text (Some text) ≡ Ok (word, left)
  act_is : read_act word left ≡ Ok asked

word_is : (w : LineWord) → word_of_text (word_text w) ≡ Some w
unfolding word_of_text
word_is word.Insert = refl
word_is word.Open = refl
word_is word.Step = refl
word_is word.Read = refl
word_is word.Release = refl
word_is word.Close = refl
word_is word.Look = refl
word_is word.Expire = refl
word_is word.Tally = refl
word_is word.Stat = refl
word_is word.Reserve = refl
word_is word.Fill = refl
word_is word.Commit = refl
word_is word.Discard = refl

lacks-word : (w : LineWord) → Lacks 32 (word_text w)
lacks-word word.Insert = lacks-literal (codes "insert") refl
lacks-word word.Open = lacks-literal (codes "open") refl
lacks-word word.Step = lacks-literal (codes "step") refl
lacks-word word.Read = lacks-literal (codes "read") refl
lacks-word word.Release = lacks-literal (codes "release") refl
lacks-word word.Close = lacks-literal (codes "close") refl
lacks-word word.Look = lacks-literal (codes "look") refl
lacks-word word.Expire = lacks-literal (codes "expire") refl
lacks-word word.Tally = lacks-literal (codes "tally") refl
lacks-word word.Stat = lacks-literal (codes "stat") refl
lacks-word word.Reserve = lacks-literal (codes "reserve") refl
lacks-word word.Fill = lacks-literal (codes "fill") refl
lacks-word word.Commit = lacks-literal (codes "commit") refl
lacks-word word.Discard = lacks-literal (codes "discard") refl

word_then : (w : LineWord) (rest : List ℕ) (asked : Asked) → read_act w (Some rest) ≡ Ok asked → ReadsAct (word_text w ++ 32 ∷ rest) asked
word_then w rest asked is = record { word = w; left = Some rest; word_is = field_then word_of_text (word_text w) rest w (lacks-word w) (word_is w); act_is = is }

word_alone : (w : LineWord) (asked : Asked) → read_act w None ≡ Ok asked → ReadsAct (word_text w) asked
word_alone w asked is = record { word = w; left = None; word_is = field_last word_of_text (word_text w) w (lacks-word w) (word_is w); act_is = is }

same_text : (text other : List ℕ) (asked : Asked) → text ≡ other → ReadsAct other asked → ReadsAct text asked
same_text text other asked same reads = let P : List ℕ → Type 0 = λ t. ReadsAct t asked in subst P (sym same) reads

regroup_three : (a b c : List ℕ) → a ++ b ++ c ≡ a ++ (b ++ c)
regroup_three a b c = append_assoc a b c

regroup_four : (a b c d : List ℕ) → a ++ b ++ c ++ d ≡ a ++ (b ++ (c ++ d))
regroup_four a b c d = simp append_assoc

reads_act : (act : Act) → FrontReadsBack act → BackReadsBack act → IsWritable act → ReadsAct (act_text act) (asked_of act)
reads_act (act.Insert now info body) front back writable =
    same_text _ _ _ (insert_text now info (bytes_of body))
    (word_then word.Insert (insert_rest now info (bytes_of body)) _ (reads_insert now info (bytes_of body) front.0 front.1 back writable.0 writable.2))
reads_act (act.OpenCursor feed from) front back writable =
    same_text _ _ _ (regroup_three (codes "open") (blank_field (feed_digits feed.0)) (blank_field (start_text from)))
    (word_then word.Open (feed_digits feed.0 ++ 32 ∷ start_text from) _ (reads_open feed from front.0 front.1))
reads_act (act.Step k) front back writable = word_then word.Step (place_text k) _ (reads_on_cursor k (λ place. event.Step place) front)
reads_act (act.Read k offset len) front back writable =
    same_text _ _ _ (regroup_four (codes "read") (blank_field (place_text k)) (blank_number offset) (blank_number len))
    (word_then word.Read (place_text k ++ 32 ∷ (decimal offset ++ 32 ∷ decimal len)) _ (reads_read k offset len front.0 front.1 writable))
reads_act (act.Release k) front back writable = word_then word.Release (place_text k) _ (reads_on_cursor k (λ place. event.Release place) front)
reads_act (act.Close k) front back writable = word_then word.Close (place_text k) _ (reads_on_cursor k (λ place. event.Close place) front)
reads_act (act.Look signature) front back writable = word_then word.Look (encode_lower signature.0) _ (reads_look signature front)
reads_act act.Expire front back writable = word_alone word.Expire _ refl
reads_act (act.Tally k) front back writable = word_then word.Tally (place_text k) _ (reads_on_cursor k (λ place. event.Tally place) front)
reads_act act.Stat front back writable = word_alone word.Stat _ refl
reads_act (act.Reserve info) front back writable = same_text _ _ _ (reserve_text info) (word_then word.Reserve (reserve_rest info) _ (reads_reserve info front))
reads_act (act.Fill r body) front back writable =
    same_text _ _ _ (regroup_three (codes "fill") (blank_field (reserve_place_text r)) (blank_field (body_text (bytes_of body))))
    (word_then word.Fill (reserve_place_text r ++ 32 ∷ body_text (bytes_of body)) _ (reads_fill r (bytes_of body) front back))
reads_act (act.Commit r now) front back writable =
    same_text _ _ _ (regroup_three (codes "commit") (blank_field (reserve_place_text r)) (blank_number now))
    (word_then word.Commit (reserve_place_text r ++ 32 ∷ decimal now) _ (reads_commit r now front.0 front.1))
reads_act (act.Discard r) front back writable = word_then word.Discard (reserve_place_text r) _ (reads_discard r front)

-- ---- orders

reads_order : (order : ReadOrder) (actors : ℕ) → order.actor < 64 → order.actor < actors → ReadsAct (act_text order.act) (asked_of order.act)
    → read_order actors (Some (decimal order.actor ++ 32 ∷ act_text order.act)) ≡ Ok (order_of order)
unfolding read_order
reads_order order actors small below act =
    let actor_is = number_up_to-decimal 63 order.actor (omega arith) (omega arith) in
    then _ _ _ (field_then (number_below actors) (decimal order.actor) (act_text order.act) order.actor
    (lacks-number 32 63 order.actor (decimal order.actor) (omega arith) actor_is) (number_below-decimal actors order.actor below (omega arith)))
    ∙ then _ _ _ act.word_is
    ∙ then _ _ _ act.act_is

no_comment : (text rest : List ℕ) → (length text ≡ 0 → ⊥) → Lacks 35 text → is_comment (text ++ rest) ≡ false
no_comment [] rest some lacks = absurd (some refl)
no_comment (byte ∷ bytes) rest some lacks = All-head (λ b. (b == 35) ≡ false) byte bytes lacks

pub reads_back : (order : ReadOrder) → order.actor < 64 → FrontReadsBack order.act → BackReadsBack order.act → IsWritable order.act → IsReadBack order
unfolding read_line spelling
reads_back order small front back writable actors below short =
    let text = decimal order.actor ++ 32 ∷ act_text order.act in
    let actor_is = number_up_to-decimal 63 order.actor (omega arith) (omega arith) in
    let some = decimal_nonempty order.actor (omega arith) in
    cond-false (nat_lt LONGEST_LINE (length text)) (Err (LONGEST_LINE + 1)) (cond (is_comment text) (Ok None) (at_column (length text) (read_order actors (Some text)))) (le-ltb LONGEST_LINE (length text) short)
    ∙ cond-false (is_comment text) (Ok None) (at_column (length text) (read_order actors (Some text)))
    (no_comment (decimal order.actor) (32 ∷ act_text order.act) (λ none. omega arith) (lacks-number 35 63 order.actor (decimal order.actor) (omega arith) actor_is))
    ∙ ap (at_column (length text)) (reads_order order actors small below (reads_act order.act front back writable))

-- ---- the line in its two parts

act_parts : (act : Act) → act_text act ≡ front_text act ++ back_text act
act_parts (act.Insert now info body) = sym (append_assoc (codes "insert" ++ blank_number now ++ product_text info) (codes " ") (body_text (bytes_of body)))
act_parts (act.OpenCursor feed from) = sym (append-nil (act_text (act.OpenCursor feed from)))
act_parts (act.Step k) = sym (append-nil (act_text (act.Step k)))
act_parts (act.Read k offset len) = sym (append-nil (act_text (act.Read k offset len)))
act_parts (act.Release k) = sym (append-nil (act_text (act.Release k)))
act_parts (act.Close k) = sym (append-nil (act_text (act.Close k)))
act_parts (act.Look signature) = sym (append-nil (act_text (act.Look signature)))
act_parts act.Expire = sym (append-nil (act_text act.Expire))
act_parts (act.Tally k) = sym (append-nil (act_text (act.Tally k)))
act_parts act.Stat = sym (append-nil (act_text act.Stat))
act_parts (act.Reserve info) = sym (append-nil (act_text (act.Reserve info)))
act_parts (act.Fill r body) = sym (append_assoc (codes "fill" ++ blank_field (reserve_place_text r)) (codes " ") (body_text (bytes_of body)))
act_parts (act.Commit r now) = sym (append-nil (act_text (act.Commit r now)))
act_parts (act.Discard r) = sym (append-nil (act_text (act.Discard r)))

pub written : (order : ReadOrder) (old middle new front : List ℕ) → front ≡ decimal order.actor ++ blank_field (front_text order.act) → middle ≡ old ++ front
    → new ≡ middle ++ back_text order.act → new ≡ old ++ spelling order
unfolding spelling
written order old middle new front front_is middle_is new_is =
    new_is ∙ ap (λ (l : List ℕ). l ++ back_text order.act) (middle_is ∙ ap (λ (l : List ℕ). old ++ l) front_is)
    ∙ append_assoc old (decimal order.actor ++ blank_field (front_text order.act)) (back_text order.act)
    ∙ ap (λ (l : List ℕ). old ++ l) (append_assoc (decimal order.actor) (blank_field (front_text order.act)) (back_text order.act))
    ∙ ap (λ (l : List ℕ). old ++ (decimal order.actor ++ blank_field l)) (sym (act_parts order.act))
