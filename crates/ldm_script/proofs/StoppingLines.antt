-- Where a line stops being read, rule by rule of the grammar.
use Rattle.std.proofs.Common.{◌≡◌, ℕ, inl, inr, ◌+◌, ◌-◌, ◌<◌, ◌≤◌, Bool, true, false, cond, List, [], ◌∷◌, ◌++◌, length, Option, Some, None, Result, Ok, Err, refl, sym, ap, subst, ◌∙◌, append_assoc, arith, codes, unwrap_or}
use Rattle.std.proofs.lemmas.Bool.{lt-ltb, le-ltb}
use Rattle.std.proofs.lemmas.List.{length-append}
use Rattle.hex.specs.Hex.{decode_pairs}
use Rattle.md5.specs.Md5.{md5}
use Rattle.ldm_types.specs.declared.limits.TheConstants.{LONGEST_ORIGIN, LONGEST_IDENT}
use Rattle.ldm_signature.specs.HexSignature.{hex_signature}
use Rattle.ldm_feedtype.specs.FeedSets.{number_below}
use Rattle.ldm_model.specs.declared.event.Start.{Start}
use Rattle.ldm_model.specs.declared.event.Start.TheVariants as start
use Rattle.ldm_model.specs.declared.event.Event.{Event}
use Rattle.ldm_model.specs.declared.event.Event.TheVariants as event
use Rattle.ldm_script.specs.declared.line.TheConstants.{LONGEST_LINE}
use Rattle.ldm_answers.specs.declared.answer.TheConstants.{LONGEST_READ}
use Rattle.ldm_script.specs.declared.order.Place.{Place}
use Rattle.ldm_script.specs.declared.order.Place.TheVariants as place
use Rattle.ldm_script.specs.declared.order.ReservePlace.{ReservePlace}
use Rattle.ldm_script.specs.declared.order.ReservePlace.TheVariants as reserve_place
use Rattle.ldm_script.specs.declared.word.LineWord.{LineWord}
use Rattle.ldm_script.specs.declared.word.LineWord.TheVariants as word
use Rattle.ldm_script.specs.declared.word.StartWord.{StartWord}
use Rattle.ldm_script.specs.declared.word.StartWord.TheVariants as start_word
use Rattle.ldm_answers.specs.Number.{number_up_to, number_below as below_limit, instant_of, four_bytes}
use Rattle.ldm_script.specs.Grammar.{word_of_text, start_word_of_text, feed_of, place_of, reserve_place_of, signature_of, Details, read_details, metadata, read_insert, read_start, read_open, read_on_cursor, read_read, read_look, read_reserve, read_fill, read_commit, read_discard, read_act, read_order, at_column, is_comment, read_line}
use Rattle.ldm_answers.specs.Texts.{text_up_to}
use Rattle.ldm_script.specs.Bodies.{body_of}
use Rattle.ldm_script.specs.Fields.{◌>>=◌, Left, field, no_more}
use Rattle.ldm_script.specs.Order.{Order, Asked, Plain, OnCursor, OnReservation}
use Rattle.ldm_script.specs.Split.{Lacks}
use Rattle.ldm_script.specs.Faults.{IsLine, IsWrongField, IsMissing, IsSurplus, IsFirstFault}
use Rattle.ldm_script.proofs.Solid.{lacks-literal}
use Rattle.ldm_script.proofs.Stopping.{left_of, Reads, Wrong, Lacking, TooMany, Sound, sound_same, not_both, made, sound_made, then, sound_then, sound_end}

-- ---- a field of which one can be read

module _ {A B : Type 0} (read : List ℕ → Option A) (rest : A → Left → Result B ℕ) (text : List ℕ) (x : A) (solid : Lacks 32 text) (is : read text ≡ Some x) where
  by_field : ((v : A) → Sound (rest v)) → Sound (then read rest)
  by_field all = sound_then read rest text x solid is (λ v. (all v).0) (all x).1

-- the field `0`, `-`, or another
zero_feed : (x : ℕ) × (feed_of (codes "0") ≡ Some x)
unfolding number_below
zero_feed = (0, refl)

module _ {B : Type 0} where
  by_instant : (rest : ℕ → Left → Result B ℕ) → ((v : ℕ) → Sound (rest v)) → Sound (then instant_of rest)
  by_instant rest all = by_field instant_of rest (codes "0") 0 (lacks-literal (codes "0") refl) refl all

  by_four : (rest : ℕ → Left → Result B ℕ) → ((v : ℕ) → Sound (rest v)) → Sound (then four_bytes rest)
  by_four rest all = by_field four_bytes rest (codes "0") 0 (lacks-literal (codes "0") refl) refl all

  by_len : (rest : ℕ → Left → Result B ℕ) → ((v : ℕ) → Sound (rest v)) → Sound (then (number_up_to LONGEST_READ) rest)
  by_len rest all = by_field (number_up_to LONGEST_READ) rest (codes "0") 0 (lacks-literal (codes "0") refl) refl all

  by_feed : (rest : ℕ → Left → Result B ℕ) → ((v : ℕ) → Sound (rest v)) → Sound (then feed_of rest)
  by_feed rest all = by_field feed_of rest (codes "0") zero_feed.0 (lacks-literal (codes "0") refl) zero_feed.1 all

  by_text : (most : ℕ) (rest : List ℕ → Left → Result B ℕ) → ((v : List ℕ) → Sound (rest v)) → Sound (then (text_up_to most) rest)
  by_text most rest all = by_field (text_up_to most) rest (codes "-") [] (lacks-literal (codes "-") refl) refl all

  by_body : (rest : List ℕ → Left → Result B ℕ) → ((v : List ℕ) → Sound (rest v)) → Sound (then body_of rest)
  by_body rest all = by_field body_of rest (codes "-") [] (lacks-literal (codes "-") refl) refl all

  by_signature : (rest : Option (List ℕ) → Left → Result B ℕ) → ((v : Option (List ℕ)) → Sound (rest v)) → Sound (then signature_of rest)
  by_signature rest all = by_field signature_of rest (codes "md5") None (lacks-literal (codes "md5") refl) refl all

  by_digits : (rest : List ℕ → Left → Result B ℕ) → ((v : List ℕ) → Sound (rest v)) → Sound (then hex_signature rest)
  unfolding decode_pairs
  by_digits rest all =
      by_field hex_signature rest (codes "00000000000000000000000000000000") (0 ∷ 0 ∷ 0 ∷ 0 ∷ 0 ∷ 0 ∷ 0 ∷ 0 ∷ 0 ∷ 0 ∷ 0 ∷ 0 ∷ 0 ∷ 0 ∷ 0 ∷ 0 ∷ [])
      (lacks-literal (codes "00000000000000000000000000000000") refl) refl all

  by_place : (rest : Place → Left → Result B ℕ) → ((v : Place) → Sound (rest v)) → Sound (then place_of rest)
  by_place rest all = by_field place_of rest (codes ".") place.Last (lacks-literal (codes ".") refl) refl all

  by_reserve_place : (rest : ReservePlace → Left → Result B ℕ) → ((v : ReservePlace) → Sound (rest v)) → Sound (then reserve_place_of rest)
  by_reserve_place rest all = by_field reserve_place_of rest (codes ".") reserve_place.Last (lacks-literal (codes ".") refl) refl all

  by_start_word : (rest : StartWord → Left → Result B ℕ) → ((v : StartWord) → Sound (rest v)) → Sound (then start_word_of_text rest)
  unfolding start_word_of_text
  by_start_word rest all = by_field start_word_of_text rest (codes "next") start_word.Next (lacks-literal (codes "next") refl) refl all

  by_word : (rest : LineWord → Left → Result B ℕ) → ((v : LineWord) → Sound (rest v)) → Sound (then word_of_text rest)
  unfolding word_of_text
  by_word rest all = by_field word_of_text rest (codes "stat") word.Stat (lacks-literal (codes "stat") refl) refl all

-- ---- the details of a product

-- what was read, and what is left
abbrev ready : Details → Left → Result (Details × Left) ℕ
ready details left = Ok (details, left)

abbrev begun : Start → Left → Result (Start × Left) ℕ
begun from left = Ok (from, left)

module _ {B : Type 0} (rest : Details → Left → Result B ℕ) (all : (d : Details) → Sound (rest d)) where
  with_ident : ℕ → ℕ → List ℕ → List ℕ → Left → Result B ℕ
  with_ident feed seqno origin ident left = rest (record { feed = feed; seqno = seqno; origin = origin; ident = ident }) left

  with_origin : ℕ → ℕ → List ℕ → Left → Result B ℕ
  with_origin feed seqno origin left = then (text_up_to LONGEST_IDENT) (with_ident feed seqno origin) left

  with_seqno : ℕ → ℕ → Left → Result B ℕ
  with_seqno feed seqno left = then (text_up_to LONGEST_ORIGIN) (with_origin feed seqno) left

  with_feed : ℕ → Left → Result B ℕ
  with_feed feed left = then four_bytes (with_seqno feed) left

  in_turn : Sound (then feed_of with_feed)
  unfolding with_feed with_seqno with_origin with_ident
  in_turn =
      by_feed with_feed (λ feed. by_four (with_seqno feed) (λ seqno. by_text LONGEST_ORIGIN (with_origin feed seqno) (λ origin.
      by_text LONGEST_IDENT (with_ident feed seqno origin) (λ ident. all (record { feed = feed; seqno = seqno; origin = origin; ident = ident })))))

  details_in_turn : (left : Left) → (read_details left >>= λ d. rest d.0 d.1) ≡ then feed_of with_feed left
  unfolding read_details with_feed with_seqno with_origin with_ident
  details_in_turn left = at_feed (field feed_of left) where
    at_ident : (feed seqno : ℕ) (origin : List ℕ) (r : Result (List ℕ × Left) ℕ)
        → ((r >>= λ ident. ready (record { feed = feed; seqno = seqno; origin = origin; ident = ident.0 }) ident.1) >>= λ d. rest d.0 d.1)
        ≡ (r >>= λ ident. rest (record { feed = feed; seqno = seqno; origin = origin; ident = ident.0 }) ident.1)
    at_ident feed seqno origin (Ok x) = refl
    at_ident feed seqno origin (Err n) = refl

    at_origin : (feed seqno : ℕ) (r : Result (List ℕ × Left) ℕ)
        → ((r >>= λ origin. field (text_up_to LONGEST_IDENT) origin.1 >>= λ ident. ready (record { feed = feed; seqno = seqno; origin = origin.0; ident = ident.0 }) ident.1) >>= λ d. rest d.0 d.1)
        ≡ (r >>= λ origin. field (text_up_to LONGEST_IDENT) origin.1 >>= λ ident. rest (record { feed = feed; seqno = seqno; origin = origin.0; ident = ident.0 }) ident.1)
    at_origin feed seqno (Ok x) = at_ident feed seqno x.0 (field (text_up_to LONGEST_IDENT) x.1)
    at_origin feed seqno (Err n) = refl

    at_seqno : (feed : ℕ) (r : Result (ℕ × Left) ℕ)
        → ((r >>= λ seqno. field (text_up_to LONGEST_ORIGIN) seqno.1 >>= λ origin. field (text_up_to LONGEST_IDENT) origin.1
        >>= λ ident. ready (record { feed = feed; seqno = seqno.0; origin = origin.0; ident = ident.0 }) ident.1) >>= λ d. rest d.0 d.1)
        ≡ (r >>= λ seqno. field (text_up_to LONGEST_ORIGIN) seqno.1 >>= λ origin. field (text_up_to LONGEST_IDENT) origin.1
        >>= λ ident. rest (record { feed = feed; seqno = seqno.0; origin = origin.0; ident = ident.0 }) ident.1)
    at_seqno feed (Ok x) = at_origin feed x.0 (field (text_up_to LONGEST_ORIGIN) x.1)
    at_seqno feed (Err n) = refl

    at_feed : (r : Result (ℕ × Left) ℕ)
        → ((r >>= λ feed. field four_bytes feed.1 >>= λ seqno. field (text_up_to LONGEST_ORIGIN) seqno.1 >>= λ origin. field (text_up_to LONGEST_IDENT) origin.1
        >>= λ ident. ready (record { feed = feed.0; seqno = seqno.0; origin = origin.0; ident = ident.0 }) ident.1) >>= λ d. rest d.0 d.1)
        ≡ (r >>= λ feed. field four_bytes feed.1 >>= λ seqno. field (text_up_to LONGEST_ORIGIN) seqno.1 >>= λ origin. field (text_up_to LONGEST_IDENT) origin.1
        >>= λ ident. rest (record { feed = feed.0; seqno = seqno.0; origin = origin.0; ident = ident.0 }) ident.1)
    at_feed (Ok x) = at_seqno x.0 (field four_bytes x.1)
    at_feed (Err n) = refl

  by_details : Sound (λ left. read_details left >>= λ d. rest d.0 d.1)
  by_details = sound_same (λ left. read_details left >>= λ d. rest d.0 d.1) (then feed_of with_feed) details_in_turn in_turn

-- ---- the acts

abbrev ended : Asked → Left → Result Asked ℕ
ended asked left = no_more left >>= λ end. Ok asked

abbrev inserts : ℕ → Option (List ℕ) → Details → List ℕ → Left → Result Asked ℕ
inserts now signature details body left = ended (Plain (event.Insert now (metadata now (unwrap_or signature (md5 body)) details (length body)) body)) left

abbrev insert_details : ℕ → Option (List ℕ) → Details → Left → Result Asked ℕ
insert_details now signature details left = then body_of (inserts now signature details) left

abbrev insert_signature : ℕ → Option (List ℕ) → Left → Result Asked ℕ
insert_signature now signature left = read_details left >>= λ d. insert_details now signature d.0 d.1

abbrev insert_now : ℕ → Left → Result Asked ℕ
insert_now now left = then signature_of (insert_signature now) left

insert_sound : Sound read_insert
unfolding read_insert
insert_sound =
    by_instant insert_now (λ now. by_signature (insert_signature now) (λ signature. by_details (insert_details now signature) (λ details.
    by_body (inserts now signature details) (λ body. sound_end (Plain (event.Insert now (metadata now (unwrap_or signature (md5 body)) details (length body)) body))))))

-- where a cursor begins, and the end of the line
abbrev opens : ℕ → Start → Left → Result Asked ℕ
opens feed from left = ended (Plain (event.OpenCursor (record { 0 = feed }) from)) left

abbrev open_after : ℕ → ℕ → Left → Result Asked ℕ
open_after feed time left = opens feed (start.After time) left

abbrev open_sig : ℕ → List ℕ → Left → Result Asked ℕ
open_sig feed signature left = opens feed (start.AfterSignature (record { 0 = signature })) left

abbrev open_start : ℕ → StartWord → Left → Result Asked ℕ
open_start feed begins left = read_start begins left >>= λ from. opens feed from.0 from.1

abbrev open_feed : ℕ → Left → Result Asked ℕ
open_feed feed left = then start_word_of_text (open_start feed) left

start_sound : (feed : ℕ) (begins : StartWord) → Sound (open_start feed begins)
start_sound feed start_word.Oldest = sound_end (Plain (event.OpenCursor (record { 0 = feed }) start.Oldest))
start_sound feed start_word.Next = sound_end (Plain (event.OpenCursor (record { 0 = feed }) start.Next))
start_sound feed start_word.After =
    sound_same (open_start feed start_word.After) (then instant_of (open_after feed)) (λ left. same (field instant_of left))
    (by_instant (open_after feed) (λ time. sound_end (Plain (event.OpenCursor (record { 0 = feed }) (start.After time))))) where
      same : (r : Result (ℕ × Left) ℕ) → ((r >>= λ time. begun (start.After time.0) time.1) >>= λ from. opens feed from.0 from.1) ≡ (r >>= λ time. open_after feed time.0 time.1)
      same (Ok x) = refl
      same (Err n) = refl
start_sound feed start_word.Sig =
    sound_same (open_start feed start_word.Sig) (then hex_signature (open_sig feed)) (λ left. same (field hex_signature left))
    (by_digits (open_sig feed) (λ signature. sound_end (Plain (event.OpenCursor (record { 0 = feed }) (start.AfterSignature (record { 0 = signature })))))) where
      same : (r : Result (List ℕ × Left) ℕ)
          → ((r >>= λ signature. begun (start.AfterSignature (record { 0 = signature.0 })) signature.1) >>= λ from. opens feed from.0 from.1) ≡ (r >>= λ signature. open_sig feed signature.0 signature.1)
      same (Ok x) = refl
      same (Err n) = refl

open_sound : Sound read_open
unfolding read_open
open_sound = by_feed open_feed (λ feed. by_start_word (open_start feed) (λ begins. start_sound feed begins))

cursor_sound : (act : ℕ → Event) → Sound (read_on_cursor act)
unfolding read_on_cursor
cursor_sound act = by_place (λ k left. ended (OnCursor k act) left) (λ k. sound_end (OnCursor k act))

read_sound : Sound read_read
unfolding read_read
read_sound =
    by_place (λ k left. then four_bytes (λ offset left. then (number_up_to LONGEST_READ) (λ len left. ended (OnCursor k (λ place. event.Read place offset len)) left) left) left) (λ k.
    by_four (λ offset left. then (number_up_to LONGEST_READ) (λ len left. ended (OnCursor k (λ place. event.Read place offset len)) left) left) (λ offset.
    by_len (λ len left. ended (OnCursor k (λ place. event.Read place offset len)) left) (λ len. sound_end (OnCursor k (λ place. event.Read place offset len)))))

look_sound : Sound read_look
unfolding read_look
look_sound = by_digits (λ signature left. ended (Plain (event.Look (record { 0 = signature }))) left) (λ signature. sound_end (Plain (event.Look (record { 0 = signature }))))

abbrev reserves : ℕ → List ℕ → Details → ℕ → Left → Result Asked ℕ
reserves arrival signature details size left = ended (Plain (event.Reserve (metadata arrival signature details size))) left

abbrev reserve_details : ℕ → List ℕ → Details → Left → Result Asked ℕ
reserve_details arrival signature details left = then four_bytes (reserves arrival signature details) left

abbrev reserve_signature : ℕ → List ℕ → Left → Result Asked ℕ
reserve_signature arrival signature left = read_details left >>= λ d. reserve_details arrival signature d.0 d.1

abbrev reserve_arrival : ℕ → Left → Result Asked ℕ
reserve_arrival arrival left = then hex_signature (reserve_signature arrival) left

reserve_sound : Sound read_reserve
unfolding read_reserve
reserve_sound =
    by_instant reserve_arrival (λ arrival. by_digits (reserve_signature arrival) (λ signature. by_details (reserve_details arrival signature) (λ details.
    by_four (reserves arrival signature details) (λ size. sound_end (Plain (event.Reserve (metadata arrival signature details size)))))))

fill_sound : Sound read_fill
unfolding read_fill
fill_sound =
    by_reserve_place (λ r left. then body_of (λ body left. ended (OnReservation r (λ place. event.Fill place body)) left) left) (λ r.
    by_body (λ body left. ended (OnReservation r (λ place. event.Fill place body)) left) (λ body. sound_end (OnReservation r (λ place. event.Fill place body))))

commit_sound : Sound read_commit
unfolding read_commit
commit_sound =
    by_reserve_place (λ r left. then instant_of (λ now left. ended (OnReservation r (λ place. event.Commit place now)) left) left) (λ r.
    by_instant (λ now left. ended (OnReservation r (λ place. event.Commit place now)) left) (λ now. sound_end (OnReservation r (λ place. event.Commit place now))))

discard_sound : Sound read_discard
unfolding read_discard
discard_sound = by_reserve_place (λ r left. ended (OnReservation r (λ place. event.Discard place)) left) (λ r. sound_end (OnReservation r (λ place. event.Discard place)))

act_sound : (w : LineWord) → Sound (read_act w)
act_sound word.Insert = insert_sound
act_sound word.Open = open_sound
act_sound word.Step = cursor_sound (λ k. event.Step k)
act_sound word.Read = read_sound
act_sound word.Release = cursor_sound (λ k. event.Release k)
act_sound word.Close = cursor_sound (λ k. event.Close k)
act_sound word.Look = look_sound
act_sound word.Expire = sound_end (Plain event.Expire)
act_sound word.Tally = cursor_sound (λ k. event.Tally k)
act_sound word.Stat = sound_end (Plain event.Stat)
act_sound word.Reserve = reserve_sound
act_sound word.Fill = fill_sound
act_sound word.Commit = commit_sound
act_sound word.Discard = discard_sound

-- ---- the line

abbrev order_word : ℕ → LineWord → Left → Result Order ℕ
order_word actor w left = made (λ asked. record { actor = actor; asked = asked }) (read_act w left)

abbrev order_actor : ℕ → Left → Result Order ℕ
order_actor actor left = then word_of_text (order_word actor) left

zero_below : (actors : ℕ) → 0 < actors → below_limit actors (codes "0") ≡ Some 0
zero_below actors some = ap (λ (b : Bool). cond b (Some 0) None) (lt-ltb 0 actors some)

order_sound : (actors : ℕ) → 0 < actors → Sound (read_order actors)
unfolding read_order
order_sound actors some =
    by_field (below_limit actors) order_actor (codes "0") 0 (lacks-literal (codes "0") refl) (zero_below actors some) (λ actor.
    by_word (order_word actor) (λ w. sound_made (λ asked. record { actor = actor; asked = asked }) (read_act w) (act_sound w)))

-- no line is none
no_order : (actors : ℕ) → read_order actors None ≡ Err 0
unfolding read_order
no_order actors = refl

behind_first : (a b : ℕ) (xs ys : List ℕ) → ◌≡◌ {A = List ℕ} (a ∷ xs) (b ∷ ys) → xs ≡ ys
behind_first a b xs ys e = cc

module _ (actors : ℕ) (line : List ℕ) (n : ℕ) (bad : read_order actors (Some line) ≡ Err n) where
  wrong_field : Wrong (read_order actors) (32 ∷ line) n → IsWrongField actors line (length line + 1 - n)
  wrong_field w = by_front w.front refl where
    by_front : (front : List ℕ) → w.front ≡ front → IsWrongField actors line (length line + 1 - n)
    by_front [] e =
        let split : line ≡ w.wrong ++ w.behind = behind_first 32 32 line (w.wrong ++ w.behind) (w.split ∙ ap (λ (f : List ℕ). f ++ 32 ∷ (w.wrong ++ w.behind)) e) in record {
          front = [];
          wrong = w.wrong;
          behind = w.behind;
          split = split;
          starts = inl refl;
          solid = w.solid;
          ends = w.ends;
          begins = (w.goes_on.0, subst (λ (f : List ℕ). Reads (read_order actors) (f ++ 32 ∷ w.goes_on.0)) e w.goes_on.1);
          stops = λ more at h. w.stops more at (subst (λ (f : List ℕ). Reads (read_order actors) (f ++ 32 ∷ (w.wrong ++ more))) (sym e) h);
          column_is = omega (arith, w.left, ap length split);
        }
    by_front (b ∷ front) e =
        let split : line ≡ front ++ 32 ∷ (w.wrong ++ w.behind) = behind_first 32 b line (front ++ 32 ∷ (w.wrong ++ w.behind)) (w.split ∙ ap (λ (f : List ℕ). f ++ 32 ∷ (w.wrong ++ w.behind)) e) in
        let grouped : (more : List ℕ) → (front ++ 32 ∷ []) ++ more ≡ front ++ 32 ∷ more = λ more. append_assoc front (32 ∷ []) more in record {
          front = front ++ 32 ∷ [];
          wrong = w.wrong;
          behind = w.behind;
          split = split ∙ sym (append_assoc (front ++ 32 ∷ []) w.wrong w.behind ∙ grouped (w.wrong ++ w.behind));
          starts = inr (front, refl);
          solid = w.solid;
          ends = w.ends;
          begins = (
            w.goes_on.0,
            subst (IsLine actors) (sym (grouped w.goes_on.0)) (subst (λ (f : List ℕ). Reads (read_order actors) (f ++ 32 ∷ w.goes_on.0)) e w.goes_on.1),
          );
          stops = λ more at h. w.stops more at (subst (λ (f : List ℕ). Reads (read_order actors) (f ++ 32 ∷ (w.wrong ++ more))) (sym e)
              (subst (IsLine actors) (append_assoc (front ++ 32 ∷ []) w.wrong more ∙ grouped (w.wrong ++ more)) h));
          column_is = omega (arith, w.left, ap length split, length-append front (32 ∷ (w.wrong ++ w.behind)), length-append front (32 ∷ []));
        }

  missing : Lacking (read_order actors) (32 ∷ line) n → IsMissing actors line (length line + 1 - n)
  missing l = record {
    unfinished = λ h. not_both (read_order actors (Some line)) h.0 n h.1 bad;
    begins = (l.goes_on.0, subst (IsLine actors) (sym (append_assoc line (32 ∷ []) l.goes_on.0)) l.goes_on.1);
    column_is = omega (arith, l.left);
  }

  surplus : TooMany (read_order actors) (32 ∷ line) n → IsSurplus actors line (length line + 1 - n)
  surplus m = by_front m.front refl where
    by_front : (front : List ℕ) → m.front ≡ front → IsSurplus actors line (length line + 1 - n)
    by_front [] e = absurd (not_both (read_order actors None) m.whole.0 0 (sym (ap (λ (f : List ℕ). read_order actors (left_of f)) e) ∙ m.whole.1) (no_order actors))
    by_front (b ∷ front) e =
        let split : line ≡ front ++ 32 ∷ m.surplus = behind_first 32 b line (front ++ 32 ∷ m.surplus) (m.split ∙ ap (λ (f : List ℕ). f ++ 32 ∷ m.surplus) e) in record {
          front = front;
          surplus = m.surplus;
          split = split;
          whole = subst (λ (f : List ℕ). Reads (read_order actors) f) e m.whole;
          stops = λ h. m.stops h.0 (subst (λ (f : List ℕ). Reads (read_order actors) (f ++ 32 ∷ h.0)) (sym e) (subst (IsLine actors) (append_assoc front (32 ∷ []) h.0) h.1));
          column_is = omega (arith, m.left, ap length split, length-append front (32 ∷ m.surplus));
        }

  first_fault : 0 < actors → IsFirstFault actors line (length line + 1 - n)
  first_fault some =
      elim ((order_sound actors some).0 (Some line) n bad) [
        | inl w ↦ inl (wrong_field w)
        | inr other ↦ elim other [ inl l ↦ inr (inl (missing l)) | inr m ↦ inr (inr (surplus m)) ]
      ]

abbrev lost : ℕ → Result (Option Order) ℕ
lost column = Err column

lost_is : (x y : ℕ) → lost x ≡ lost y → x ≡ y
lost_is x y e = cc

at_fault : (len column : ℕ) (r : Result Order ℕ) → at_column len r ≡ Err column → (n : ℕ) × (r ≡ Err n) × (len + 1 - n ≡ column)
at_fault len column (Ok order) e = absurd cc
at_fault len column (Err n) e = (n, refl, lost_is (len + 1 - n) column e)

pub line_fault : (actors : ℕ) (line : List ℕ) (column : ℕ) → 0 < actors → length line ≤ LONGEST_LINE → read_line actors line ≡ Err column → IsFirstFault actors line column
unfolding read_line
line_fault actors line column some short e =
    by_comment (is_comment line) (sym (ap (λ (b : Bool). cond b (lost (LONGEST_LINE + 1)) (cond (is_comment line) (Ok None) (at_column (length line) (read_order actors (Some line))))) (le-ltb LONGEST_LINE (length line) short)) ∙ e) where
      by_comment : (b : Bool) → cond b (Ok None) (at_column (length line) (read_order actors (Some line))) ≡ Err column → IsFirstFault actors line column
      by_comment true h = absurd cc
      by_comment false h =
          let at = at_fault (length line) column (read_order actors (Some line)) h in
          subst (IsFirstFault actors line) at.2 (first_fault actors line at.0 at.1 some)

pub too_long : (actors : ℕ) (line : List ℕ) → LONGEST_LINE < length line → read_line actors line ≡ Err (LONGEST_LINE + 1)
unfolding read_line
too_long actors line long = ap (λ (b : Bool). cond b (lost (LONGEST_LINE + 1)) (cond (is_comment line) (Ok None) (at_column (length line) (read_order actors (Some line))))) (lt-ltb LONGEST_LINE (length line) long)
