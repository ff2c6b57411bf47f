-- What lines can ask for.
use Rattle.std.proofs.Common.{◌≡◌, ℕ, suc, ◌+◌, ◌≤◌, Bool, true, false, cond, List, [], ◌∷◌, length, replicate, codes, Option, Some, None, unwrap_or, Result, Ok, Err, refl, ap, subst, ◌∙◌, arith}
use Rattle.std.proofs.lemmas.Bool.{leb-true, ltb-false}
use Rattle.std.proofs.lemmas.List.{length-replicate}
use Rattle.std.proofs.lemmas.List.Elements.{All-cons, All-nil, All-head, All-tail, All-weaker}
use Rattle.std.specs.List.{slice_split, onto_first}
use Rattle.std.specs.Prelude.{◌==◌, ◌&&◌, nat_le, nat_lt, bytes_eq, All, IsSome}
use Rattle.std.specs.Result.{result_ok}
use Rattle.hex.specs.Hex.{decode_sized}
use Rattle.ldm_model.specs.declared.event.Event.{Event}
use Rattle.ldm_model.specs.declared.event.Event.TheVariants as event
use Rattle.ldm_script.specs.declared.body.TheConstants.{LONGEST_BODY}
use Rattle.ldm_script.specs.declared.line.TheConstants.{LONGEST_LINE}
use Rattle.ldm_answers.specs.declared.answer.TheConstants.{LONGEST_READ}
use Rattle.ldm_script.specs.declared.order.Act.{Act}
use Rattle.ldm_script.specs.declared.order.Act.TheVariants as act
use Rattle.ldm_script.specs.declared.order.Order.{Order as ReadOrder}
use Rattle.ldm_script.specs.declared.word.LineWord.{LineWord}
use Rattle.ldm_script.specs.declared.word.LineWord.TheVariants as word
use Rattle.ldm_script.specs.Bodies.{body_of, body_of_parts, digits_of, filled}
use Rattle.ldm_script.specs.Fields.{◌>>=◌, Left, field, first_field, behind_field, or_bad, no_more}
use Rattle.ldm_script.specs.Grammar.{read_details, read_insert, read_open, read_start, read_on_cursor, read_read, read_look, read_reserve, read_fill, read_commit, read_discard, read_act, read_order, read_line, is_comment, at_column, signature_of, feed_of, place_of, reserve_place_of, Details, word_of_text, start_word_of_text}
use Rattle.ldm_answers.specs.Number.{instant_of, four_bytes, number_up_to, number_below, up_to, digits_from}
use Rattle.ldm_answers.specs.Texts.{text_up_to}
use Rattle.ldm_signature.specs.HexSignature.{hex_signature}
use Rattle.ldm_types.specs.declared.limits.TheConstants.{LONGEST_ORIGIN, LONGEST_IDENT}
use Rattle.ldm_script.specs.Order.{Order, Asked, Plain, OnCursor, OnReservation}
use Rattle.ldm_script.specs.OrderView.{asked_of, order_of, IsWritable}
use Rattle.ldm_script.proofs.Hexadecimal.{length-digits_of}

-- ---- fields that were read

-- how many bytes are left
abbrev left_len : Left → ℕ
left_len left = length (unwrap_or left [])

came : {A B : Type 0} (r : Result A ℕ) (more : A → Result B ℕ) (y : B) → (r >>= more) ≡ Ok y → (x : A) × (r ≡ Ok x) × (more x ≡ Ok y)
came (Ok x) more y is = (x, refl, is)
came (Err left) more y is = absurd (cc is)

first_field-short : (rest : List ℕ) → length (first_field rest) ≤ length rest
first_field-short [] = omega arith
first_field-short (byte ∷ bytes) = by_test (byte == 32) (first_field-short bytes)
  where
    by_test : (b : Bool) → length (first_field bytes) ≤ length bytes → length (cond b [] (byte ∷ first_field bytes)) ≤ suc (length bytes)
    by_test true short = omega arith
    by_test false short = omega arith

behind_field-short : (rest : List ℕ) → left_len (behind_field rest) ≤ length rest
behind_field-short [] = omega arith
behind_field-short (byte ∷ bytes) = by_test (byte == 32) (behind_field-short bytes)
  where
    by_test : (b : Bool) → left_len (behind_field bytes) ≤ length bytes → left_len (cond b (Some bytes) (behind_field bytes)) ≤ suc (length bytes)
    by_test true short = omega arith
    by_test false short = omega arith

-- a field that was read: its text, which is no longer than what was left, as is what is left behind it
record Came {A : Type 0} (read : List ℕ → Option A) (most : ℕ) (x : A) (behind : Left) : Type 0 where
  text : List ℕ
  is : read text ≡ Some x
  short : length text ≤ most
  behind_short : left_len behind ≤ most

field_came : {A : Type 0} (read : List ℕ → Option A) (left : Left) (most : ℕ) (p : A × Left) → field read left ≡ Ok p → left_len left ≤ most → Came read most p.0 p.1
field_came {A} read None most p is short = absurd (cc is)
field_came {A} read (Some rest) most p is short = by_read (read (first_field rest)) refl is
  where
    by_read : (o : Option A) → read (first_field rest) ≡ o → or_bad rest o ≡ Ok p → Came read most p.0 p.1
    by_read None found e = absurd (cc e)
    by_read (Some x) found e =
        let same : (x, behind_field rest) ≡ p = cc e in
        let first = first_field-short rest in
        let behind = behind_field-short rest in
        let P : (A × Left) → Type 0 = λ q. Came read most q.0 q.1 in
        subst P same (record { text = first_field rest; is = found; short = omega arith; behind_short = omega arith })

-- ---- numbers and bodies that were read

number_most : (most n : ℕ) (text : List ℕ) → number_up_to most text ≡ Some n → n ≤ most
number_most most n [] is = absurd (cc is)
number_most most n (byte ∷ bytes) is = by_parts (byte == 48 && nat_le 1 (length bytes)) (digits_from 0 (byte ∷ bytes)) is
  where
    by_test : (m : ℕ) (b : Bool) → nat_le m most ≡ b → cond b (Some m) None ≡ Some n → n ≤ most
    by_test m true le e = let same : m ≡ n = cc e in let fits = leb-true m most le in omega arith
    by_test m false le e = absurd (cc e)

    by_parts : (b : Bool) (o : Option ℕ) → cond b None (up_to most o) ≡ Some n → n ≤ most
    by_parts true o e = absurd (cc e)
    by_parts false None e = absurd (cc e)
    by_parts false (Some m) e = by_test m (nat_le m most) refl e

abbrev IsPartOf : ℕ → List ℕ → Type 0
IsPartOf most part = length part ≤ most

parts-short : (test : ℕ → Bool) (text : List ℕ) → All (IsPartOf (length text)) (slice_split test text)
parts-short test [] = All-cons (IsPartOf 0) [] [] (omega arith) (All-nil (IsPartOf 0))
parts-short test (byte ∷ bytes) =
    by_test (test byte) (slice_split test bytes) (All-weaker (IsPartOf (length bytes)) (IsPartOf (suc (length bytes))) (λ part short. omega arith) (slice_split test bytes) (parts-short test bytes)) (parts-short test bytes)
  where
    by_test : (b : Bool) (parts : List (List ℕ)) → All (IsPartOf (suc (length bytes))) parts → All (IsPartOf (length bytes)) parts
        → All (IsPartOf (suc (length bytes))) (cond b ([] ∷ parts) (onto_first byte parts))
    by_test true parts short shorter = All-cons (IsPartOf (suc (length bytes))) [] parts (omega arith) short
    by_test false [] short shorter = All-cons (IsPartOf (suc (length bytes))) (byte ∷ []) [] (omega arith) (All-nil (IsPartOf (suc (length bytes))))
    by_test false (part ∷ parts) short shorter =
        let head = All-head (IsPartOf (length bytes)) part parts shorter in
        All-cons (IsPartOf (suc (length bytes))) (byte ∷ part) parts (omega arith) (All-tail (IsPartOf (suc (length bytes))) part parts short)

filled_short : (count : List ℕ) (o : Option ℕ) (b : Option (List ℕ)) (body : List ℕ) → number_up_to LONGEST_BODY count ≡ o → filled o b ≡ Some body → length body ≤ LONGEST_BODY
filled_short count None b body read is = absurd (cc is)
filled_short count (Some n) None body read is = absurd (cc is)
filled_short count (Some n) (Some []) body read is = absurd (cc is)
filled_short count (Some n) (Some (x ∷ [])) body read is =
    let same : replicate n x ≡ body = cc is in
    let most = number_most LONGEST_BODY n count read in
    let len = length-replicate n x in
    omega (arith, ap length same)
filled_short count (Some n) (Some (x ∷ y ∷ more)) body read is = absurd (cc is)

parts_body : (parts : List (List ℕ)) (body : List ℕ) → All (IsPartOf LONGEST_LINE) parts → body_of_parts parts ≡ Some body → length body ≤ LONGEST_BODY
parts_body [] body short is = absurd (cc is)
parts_body (digits ∷ []) body short is =
    let head = All-head (IsPartOf LONGEST_LINE) digits [] short in
    let some : IsSome (digits_of digits) = rw is refl in
    let twice = length-digits_of digits some in
    omega (arith, ap (λ (o : Option (List ℕ)). length (unwrap_or o [])) is)
parts_body (count ∷ byte ∷ []) body short is = filled_short count (number_up_to LONGEST_BODY count) (result_ok (decode_sized byte 1)) body refl is
parts_body (count ∷ byte ∷ other ∷ more) body short is = absurd (cc is)

body_short : (text body : List ℕ) → body_of text ≡ Some body → length text ≤ LONGEST_LINE → length body ≤ LONGEST_BODY
body_short [] body is short = absurd (cc is)
body_short (byte ∷ bytes) body is short =
    let text = byte ∷ bytes in
    by_test (bytes_eq text (codes "-"))
    (All-weaker (IsPartOf (length text)) (IsPartOf LONGEST_LINE) (λ part within. omega arith) (slice_split (λ b. b == 42) text) (parts-short (λ b. b == 42) text)) is
  where
    by_test : (b : Bool) → All (IsPartOf LONGEST_LINE) (slice_split (λ b. b == 42) (byte ∷ bytes))
        → cond b (Some []) (body_of_parts (slice_split (λ b. b == 42) (byte ∷ bytes))) ≡ Some body → length body ≤ LONGEST_BODY
    by_test true parts e = let none : [] ≡ body = cc e in omega (arith, ap length none)
    by_test false parts e = parts_body (slice_split (λ b. b == 42) (byte ∷ bytes)) body parts e

-- ---- what lines ask for

abbrev Askable : Event → Type 0
Askable (event.Insert now info body) = (length body ≡ info.size) × (info.size ≤ LONGEST_BODY) × (info.arrival ≡ now)
Askable (event.Read k offset len) = len ≤ LONGEST_READ
Askable (event.Fill r bytes) = length bytes ≤ LONGEST_BODY
Askable _ = Unit {0}

abbrev Fits : Asked → Type 0
Fits (Plain event) = Askable event
Fits (OnCursor k event) = (place : ℕ) → Askable (event place)
Fits (OnReservation r event) = (place : ℕ) → Askable (event place)

abbrev answered : Asked → Result Asked ℕ
answered asked = Ok asked

same_fits : (made asked : Asked) → answered made ≡ answered asked → Fits made → Fits asked
same_fits made asked is fits = let same : made ≡ asked = cc is in subst Fits same fits

abbrev taken : Details × Left → Result (Details × Left) ℕ
taken p = Ok p

same_short : (made p : Details × Left) → taken made ≡ taken p → left_len made.1 ≤ LONGEST_LINE → left_len p.1 ≤ LONGEST_LINE
same_short made p is short = let same : made ≡ p = cc is in subst (λ (q : Details × Left). left_len q.1 ≤ LONGEST_LINE) same short

-- what is left behind the fields of a product is no longer than what was left
details_short : (left : Left) (p : Details × Left) → left_len left ≤ LONGEST_LINE → read_details left ≡ Ok p → left_len p.1 ≤ LONGEST_LINE
unfolding read_details
details_short left p short is =
    let feed = came (field feed_of left) _ p is in
    let behind_feed = field_came feed_of left LONGEST_LINE feed.0 feed.1 short in
    let seqno = came (field four_bytes feed.0.1) _ p feed.2 in
    let behind_seqno = field_came four_bytes feed.0.1 LONGEST_LINE seqno.0 seqno.1 behind_feed.behind_short in
    let origin = came (field (text_up_to LONGEST_ORIGIN) seqno.0.1) _ p seqno.2 in
    let behind_origin = field_came (text_up_to LONGEST_ORIGIN) seqno.0.1 LONGEST_LINE origin.0 origin.1 behind_seqno.behind_short in
    let ident = came (field (text_up_to LONGEST_IDENT) origin.0.1) _ p origin.2 in
    let behind_ident = field_came (text_up_to LONGEST_IDENT) origin.0.1 LONGEST_LINE ident.0 ident.1 behind_origin.behind_short in
    same_short _ p ident.2 behind_ident.behind_short

insert_fits : (left : Left) (asked : Asked) → left_len left ≤ LONGEST_LINE → read_insert left ≡ Ok asked → Fits asked
unfolding read_insert
insert_fits left asked short is =
    let now = came (field instant_of left) _ asked is in
    let behind_now = field_came instant_of left LONGEST_LINE now.0 now.1 short in
    let signature = came (field signature_of now.0.1) _ asked now.2 in
    let behind_signature = field_came signature_of now.0.1 LONGEST_LINE signature.0 signature.1 behind_now.behind_short in
    let details = came (read_details signature.0.1) _ asked signature.2 in
    let behind_details = details_short signature.0.1 details.0 behind_signature.behind_short details.1 in
    let body = came (field body_of details.0.1) _ asked details.2 in
    let read = field_came body_of details.0.1 LONGEST_LINE body.0 body.1 behind_details in
    let end = came (no_more body.0.1) _ asked body.2 in
    same_fits _ asked end.2 (refl, body_short read.text body.0.0 read.is read.short, refl)

open_fits : (left : Left) (asked : Asked) → read_open left ≡ Ok asked → Fits asked
unfolding read_open
open_fits left asked is =
    let feed = came (field feed_of left) _ asked is in
    let begins = came (field start_word_of_text feed.0.1) _ asked feed.2 in
    let from = came (read_start begins.0.0 begins.0.1) _ asked begins.2 in
    let end = came (no_more from.0.1) _ asked from.2 in
    same_fits _ asked end.2 tt

on_cursor_fits : (event : ℕ → Event) (left : Left) (asked : Asked) → ((place : ℕ) → Askable (event place)) → read_on_cursor event left ≡ Ok asked → Fits asked
unfolding read_on_cursor
on_cursor_fits event left asked fits is =
    let k = came (field place_of left) _ asked is in
    let end = came (no_more k.0.1) _ asked k.2 in
    same_fits _ asked end.2 fits

read_fits : (left : Left) (asked : Asked) → left_len left ≤ LONGEST_LINE → read_read left ≡ Ok asked → Fits asked
unfolding read_read
read_fits left asked short is =
    let k = came (field place_of left) _ asked is in
    let behind_k = field_came place_of left LONGEST_LINE k.0 k.1 short in
    let offset = came (field four_bytes k.0.1) _ asked k.2 in
    let behind_offset = field_came four_bytes k.0.1 LONGEST_LINE offset.0 offset.1 behind_k.behind_short in
    let len = came (field (number_up_to LONGEST_READ) offset.0.1) _ asked offset.2 in
    let read = field_came (number_up_to LONGEST_READ) offset.0.1 LONGEST_LINE len.0 len.1 behind_offset.behind_short in
    let end = came (no_more len.0.1) _ asked len.2 in
    same_fits _ asked end.2 (λ place. number_most LONGEST_READ len.0.0 read.text read.is)

look_fits : (left : Left) (asked : Asked) → read_look left ≡ Ok asked → Fits asked
unfolding read_look
look_fits left asked is =
    let signature = came (field hex_signature left) _ asked is in
    let end = came (no_more signature.0.1) _ asked signature.2 in
    same_fits _ asked end.2 tt

reserve_fits : (left : Left) (asked : Asked) → read_reserve left ≡ Ok asked → Fits asked
unfolding read_reserve
reserve_fits left asked is =
    let arrival = came (field instant_of left) _ asked is in
    let signature = came (field hex_signature arrival.0.1) _ asked arrival.2 in
    let details = came (read_details signature.0.1) _ asked signature.2 in
    let size = came (field four_bytes details.0.1) _ asked details.2 in
    let end = came (no_more size.0.1) _ asked size.2 in
    same_fits _ asked end.2 tt

fill_fits : (left : Left) (asked : Asked) → left_len left ≤ LONGEST_LINE → read_fill left ≡ Ok asked → Fits asked
unfolding read_fill
fill_fits left asked short is =
    let r = came (field reserve_place_of left) _ asked is in
    let behind_r = field_came reserve_place_of left LONGEST_LINE r.0 r.1 short in
    let body = came (field body_of r.0.1) _ asked r.2 in
    let read = field_came body_of r.0.1 LONGEST_LINE body.0 body.1 behind_r.behind_short in
    let end = came (no_more body.0.1) _ asked body.2 in
    same_fits _ asked end.2 (λ place. body_short read.text body.0.0 read.is read.short)

commit_fits : (left : Left) (asked : Asked) → read_commit left ≡ Ok asked → Fits asked
unfolding read_commit
commit_fits left asked is =
    let r = came (field reserve_place_of left) _ asked is in
    let now = came (field instant_of r.0.1) _ asked r.2 in
    let end = came (no_more now.0.1) _ asked now.2 in
    same_fits _ asked end.2 (λ place. tt)

discard_fits : (left : Left) (asked : Asked) → read_discard left ≡ Ok asked → Fits asked
unfolding read_discard
discard_fits left asked is =
    let r = came (field reserve_place_of left) _ asked is in
    let end = came (no_more r.0.1) _ asked r.2 in
    same_fits _ asked end.2 (λ place. tt)

act_fits : (w : LineWord) (left : Left) (asked : Asked) → left_len left ≤ LONGEST_LINE → read_act w left ≡ Ok asked → Fits asked
act_fits word.Insert left asked short is = insert_fits left asked short is
act_fits word.Open left asked short is = open_fits left asked is
act_fits word.Step left asked short is = on_cursor_fits (λ k. event.Step k) left asked (λ place. tt) is
act_fits word.Read left asked short is = read_fits left asked short is
act_fits word.Release left asked short is = on_cursor_fits (λ k. event.Release k) left asked (λ place. tt) is
act_fits word.Close left asked short is = on_cursor_fits (λ k. event.Close k) left asked (λ place. tt) is
act_fits word.Look left asked short is = look_fits left asked is
act_fits word.Expire left asked short is = same_fits (Plain event.Expire) asked (came (no_more left) _ asked is).2 tt
act_fits word.Tally left asked short is = on_cursor_fits (λ k. event.Tally k) left asked (λ place. tt) is
act_fits word.Stat left asked short is = same_fits (Plain event.Stat) asked (came (no_more left) _ asked is).2 tt
act_fits word.Reserve left asked short is = reserve_fits left asked is
act_fits word.Fill left asked short is = fill_fits left asked short is
act_fits word.Commit left asked short is = commit_fits left asked is
act_fits word.Discard left asked short is = discard_fits left asked is

-- ---- orders

order_fits : (actors : ℕ) (line : List ℕ) (order : Order) → length line ≤ LONGEST_LINE → read_order actors (Some line) ≡ Ok order → Fits order.asked
unfolding read_order
order_fits actors line order short is =
    let actor = came (field (number_below actors) (Some line)) _ order is in
    let behind_actor = field_came (number_below actors) (Some line) LONGEST_LINE actor.0 actor.1 short in
    let w = came (field word_of_text actor.0.1) _ order actor.2 in
    let behind_word = field_came word_of_text actor.0.1 LONGEST_LINE w.0 w.1 behind_actor.behind_short in
    let asked = came (read_act w.0.0 w.0.1) _ order w.2 in
    let same : asked.0 ≡ order.asked = cc asked.2 in
    subst Fits same (act_fits w.0.0 w.0.1 asked.0 behind_word.behind_short asked.1)

writable_from : (act : Act) → Fits (asked_of act) → IsWritable act
writable_from (act.Insert now info body) fits = fits
writable_from (act.OpenCursor feed start) fits = tt
writable_from (act.Step k) fits = tt
writable_from (act.Read k offset len) fits = fits 0
writable_from (act.Release k) fits = tt
writable_from (act.Close k) fits = tt
writable_from (act.Look signature) fits = tt
writable_from act.Expire fits = tt
writable_from (act.Tally k) fits = tt
writable_from act.Stat fits = tt
writable_from (act.Reserve info) fits = tt
writable_from (act.Fill r body) fits = fits 0
writable_from (act.Commit r now) fits = tt
writable_from (act.Discard r) fits = tt

pub writable_found : (actors : ℕ) (line : List ℕ) (order : ReadOrder) → length line ≤ LONGEST_LINE → read_order actors (Some line) ≡ Ok (order_of order) → IsWritable order.act
writable_found actors line order short is = writable_from order.act (order_fits actors line (order_of order) short is)

-- an order that some line is read as can be written
pub writable_order : (actors : ℕ) (line : List ℕ) (order : ReadOrder) → read_line actors line ≡ Ok (Some (order_of order)) → IsWritable order.act
unfolding read_line
writable_order actors line order is = by_length (nat_lt LONGEST_LINE (length line)) refl is
  where
    by_order : (r : Result Order ℕ) → read_order actors (Some line) ≡ r → at_column (length line) r ≡ Ok (Some (order_of order)) → length line ≤ LONGEST_LINE → IsWritable order.act
    by_order (Err left) read e short = absurd (cc e)
    by_order (Ok found) read e short =
        let same : found ≡ order_of order = cc e in
        writable_found actors line order short (read ∙ ap (λ (o : Order). Ok o) same)

    by_comment : (b : Bool) → cond b (Ok None) (at_column (length line) (read_order actors (Some line))) ≡ Ok (Some (order_of order)) → length line ≤ LONGEST_LINE → IsWritable order.act
    by_comment true e short = absurd (cc e)
    by_comment false e short = by_order (read_order actors (Some line)) refl e short

    by_length : (b : Bool) → nat_lt LONGEST_LINE (length line) ≡ b
        → cond b (Err (LONGEST_LINE + 1)) (cond (is_comment line) (Ok None) (at_column (length line) (read_order actors (Some line)))) ≡ Ok (Some (order_of order)) → IsWritable order.act
    by_length true long e = absurd (cc e)
    by_length false within e = by_comment (is_comment line) e (ltb-false LONGEST_LINE (length line) within)
