-- What the queue does at each way out of inserting, by what the book keeps.
use Rattle.std.proofs.Common.{◌≡◌, ℕ, ◌+◌, ◌<◌, ◌≤◌, Bool, true, false, cond, ltb, List, [], ◌∷◌, ◌++◌, length, map, take, Option, Some, None, refl, sym, ap, subst, ◌∙◌, arith}
use Rattle.std.specs.Prelude.{is_some}
use Rattle.std.specs.List.{AllByRecursion, Contains}
use Rattle.std.proofs.lemmas.Bool.{lt-ltb, le-ltb}
use Rattle.std.proofs.lemmas.List.{map-append, length-append}
use Rattle.ldm_model.specs.Product.{Product, extent_of}
use Rattle.ldm_model.specs.declared.event.Reply.{Reply}
use Rattle.ldm_model.specs.declared.event.Reply.TheVariants as reply
use Rattle.ldm_model.specs.State.{State, Row, Queued, end_of, last_time, latest, add_queued, queued, queued_from, queued_with}
use Rattle.ldm_model.specs.Room.{fit_in}
use Rattle.ldm_model.specs.Outcome.{Outcome, unchanged}
use Rattle.ldm_model.specs.Insert.{after_evicting, evictions, time_after, admitted, insert_by_evictions, is_last, insert_new, insert_fitting, insert}
use Rattle.ldm_types.specs.Arena.{AreApart}
use Rattle.ldm_book.specs.View.{BookView, Kept, KeptReservation, Reservations, filled_bytes, kept, kept_of, stored_bytes}
use Rattle.ldm_book.specs.Products.{AreRising, LieApart, kept_extent, kept_region, reservation_at, reserved_region, room_for}
use Rattle.ldm_book.specs.Making.{grown, new_kept, written}
use Rattle.ldm_book.specs.Readers.{held_products, occupied, products, unheld_numbers, without_oldest}
use Rattle.ldm_model.specs.Evict.{count_held}
use Rattle.ldm_xdr.specs.Spelling.{Fits}
use Rattle.ldm_book.specs.Stored.{IsStored, AreStored, AreReserved, bytes_of}
use Rattle.ldm_book.specs.Stands.{StandsFor}
use Rattle.ldm_book.specs.Lookup.{kept_with, look_kept}
use Rattle.ldm_book.specs.Answers.{Follows, KeepsReserved, Stays}
use Rattle.ldm_book.proofs.ApartLemmas.{Each, each-at, reserved_from_last, rows_from_last}
use Rattle.ldm_book.proofs.QueuedLemmas.{queued_from-append, look-from_kept, none_from_absent, some_from_queued}
use Rattle.ldm_book.proofs.EveryLemmas.{every_push}
use Rattle.ldm_book.proofs.StoredLemmas.{filled_stays, filled_still, length-bytes_of, length-written, parts_of, product_stays, stored_new, stored_still}
use Rattle.ldm_book.proofs.UnheldLemmas.{StandsFor-evicting, room_place, evictions-are, evictions-none}
use Rattle.ldm_book.proofs.RoomLemmas.{alike_all, no_room}

-- a refusal
pub Follows-unchanged : (book : BookView) (s : State) (r : Reply) → StandsFor book s → Follows r book (unchanged s r)
Follows-unchanged book s r stands = record { reply = refl; state = stands }

latest-append : (before : Option ℕ) (rows : List Row) (row : Row) → latest before (rows ++ row ∷ []) ≡ Some row.time
latest-append before [] row = refl
latest-append before (first ∷ rows) row = latest-append (Some first.time) rows row

-- the new row: the product at its place
abbrev pub new_row : State → ℕ → Product → Option ℕ → Row
new_row s now p at = record { product = p; time = time_after (last_time s) now; place = at }

-- the new row, as it is queued
pub queued-new : (s : State) (now : ℕ) (p : Product) (m place : ℕ) (at : Option ℕ) → at ≡ Some place
    → queued_from m (new_row s now p at ∷ []) ≡ record { number = m; product = p; time = time_after (last_time s) now; place = place } ∷ []
queued-new s now p m place at is = ap (λ (o : Option ℕ). add_queued m (new_row s now p at) o []) is

-- what a book keeps of one product more, admitted at a place
pub record GrownRows (book : BookView) (s : State) (now : ℕ) (p : Product) (at : Option ℕ) (place : ℕ) : Type 0 where
  pub admitted : book.admitted + 1 ≡ length (s.rows ++ new_row s now p at ∷ [])
  pub last : Some (time_after book.last now) ≡ latest None (s.rows ++ new_row s now p at ∷ [])
  pub rows : book.rows ++ new_kept book (time_after book.last now) p.info place ∷ [] ≡ map kept (queued_from 0 (s.rows ++ new_row s now p at ∷ []))
  pub queued : queued_from 0 (s.rows ++ new_row s now p at ∷ []) ≡ queued s ++ record { number = 0 + length s.rows; product = p; time = time_after (last_time s) now; place = place } ∷ []

pub grown_rows : (book : BookView) (s : State) → StandsFor book s → (now : ℕ) (p : Product) (at : Option ℕ) (place : ℕ) → at ≡ Some place → GrownRows book s now p at place
grown_rows book s stands now p at place is =
    let k = new_kept book (time_after book.last now) p.info place in
    let number : book.admitted ≡ 0 + length s.rows = omega (arith, stands.admitted) in
    let time : time_after book.last now ≡ time_after (last_time s) now = ap (λ (o : Option ℕ). time_after o now) stands.last in
    let new : k ∷ [] ≡ map kept (queued_from (0 + length s.rows) (new_row s now p at ∷ [])) =
    ap (λ (n : ℕ). row n (time_after book.last now) ∷ []) number ∙ ap (λ (t : ℕ). row (0 + length s.rows) t ∷ []) time ∙ ap (map kept) (sym (queued-new s now p (0 + length s.rows) place at is)) in
    let longer = length-append s.rows (new_row s now p at ∷ []) in
    record {
      admitted = omega (arith, stands.admitted, longer);
      last = ap (λ (t : ℕ). Some t) time ∙ sym (latest-append None s.rows (new_row s now p at));
      rows = ap (λ (ks : List Kept). ks ++ k ∷ []) stands.rows ∙ ap (λ (ks : List Kept). map kept (queued s) ++ ks) new
          ∙ sym (ap (map kept) (queued_from-append 0 s.rows (new_row s now p at ∷ [])) ∙ map-append kept (queued_from 0 s.rows) (queued_from (0 + length s.rows) (new_row s now p at ∷ [])));
      queued = queued_from-append 0 s.rows (new_row s now p at ∷ []) ∙ ap (λ (qs : List Queued). queued s ++ qs) (queued-new s now p (0 + length s.rows) place at is);
    }
  where
    row : ℕ → ℕ → Kept
    row n t = kept_of n t place p.info

-- admitting a product that fits
StandsFor-grown : (book : BookView) (s : State) → StandsFor book s → (now : ℕ) (p : Product) (place evicted : ℕ) → fit_in s (extent_of p.info) ≡ Some place
    → Fits p.info → length p.body ≡ p.info.size → place + extent_of p.info ≤ length book.bytes → AreReserved book.bytes book.reservations → LieApart book.arena
    (occupied (grown book (time_after book.last now) p.info p.body place))
    → Follows (reply.Admitted book.admitted (time_after book.last now) evicted) (grown book (time_after book.last now) p.info p.body place) (admitted s now p evicted)
StandsFor-grown book s stands now p place evicted fits spelled size inside reserved apart =
    let k = new_kept book (time_after book.last now) p.info place in
    let q : Queued = record { number = 0 + length s.rows; product = p; time = time_after (last_time s) now; place = place } in
    let long = length-bytes_of p spelled size in
    let within : place + length (bytes_of p) ≤ length book.bytes = omega (arith, long, inside) in
    let to : place + length (bytes_of p) ≤ place + kept_extent k = omega (arith, long) in
    let from : place ≤ place = omega arith in
    let bytes = written book.bytes (bytes_of p) place in
    let stored =
    stored_still book.bytes (bytes_of p) place (kept_region k) from to within (queued s)
    (subst (λ (ks : List Kept). AllByRecursion (λ (other : Kept). AreApart (kept_region other) (kept_region k)) ks) stands.rows
    (rows_from_last book.arena book.rows k book.reservations apart)) stands.stored in
    let new_stored = stored_new book.bytes q spelled size (omega (arith, inside)) in
    let filled = filled_still book.bytes (bytes_of p) place (kept_region k) from to within s.reservations
    (subst (Each (λ (o : KeptReservation). AreApart (reserved_region o) (kept_region k))) stands.reservations (reserved_from_last book.arena book.rows k book.reservations apart))
    (subst (Each (λ (o : KeptReservation). o.filled ≤ o.product.size)) stands.reservations (parts_of book.bytes book.reservations reserved)) stands.filled in
    let time : time_after book.last now ≡ time_after (last_time s) now = ap (λ (o : Option ℕ). time_after o now) stands.last in
    let rows = grown_rows book s stands now p (fit_in s (extent_of p.info)) place fits in
    record {
      reply = ap (λ (n : ℕ). reply.Admitted n (time_after book.last now) evicted) stands.admitted ∙ ap (λ (t : ℕ). reply.Admitted (end_of s) t evicted) time;
      state = record {
        arena = stands.arena;
        sized = length-written book.bytes (bytes_of p) place within ∙ stands.sized;
        slots = stands.slots;
        admitted = rows.admitted;
        last = rows.last;
        rows = rows.rows;
        stored = subst (AreStored bytes) (sym rows.queued) (every_push (IsStored bytes) (queued s) q stored new_stored);
        cursors = stands.cursors;
        reservations = stands.reservations;
        filled = filled;
      };
    }

module _ (book : BookView) (s : State) (stands : StandsFor book s) (now : ℕ) (p : Product) where
  pub too_big : book.arena < extent_of p.info → Follows (reply.TooBig (extent_of p.info) book.arena) book (insert s now p)
  unfolding insert
  too_big big =
      let test : ltb s.arena (extent_of p.info) ≡ true = lt-ltb s.arena (extent_of p.info) (omega (arith, stands.arena)) in
      let same : insert s now p ≡ unchanged s (reply.TooBig (extent_of p.info) book.arena) =
      ap (λ (b : Bool). cond b (unchanged s (reply.TooBig (extent_of p.info) s.arena)) (insert_fitting s now p (queued_with p.info.signature (queued s)))) test
      ∙ ap (λ (a : ℕ). unchanged s (reply.TooBig (extent_of p.info) a)) (sym stands.arena) in
      subst (λ (o : Outcome). Follows (reply.TooBig (extent_of p.info) book.arena) book o) (sym same) (Follows-unchanged book s (reply.TooBig (extent_of p.info) book.arena) stands)

  insert-fits : extent_of p.info ≤ book.arena → insert s now p ≡ insert_fitting s now p (queued_with p.info.signature (queued s))
  unfolding insert
  insert-fits fits =
      let test : ltb s.arena (extent_of p.info) ≡ false = le-ltb s.arena (extent_of p.info) (omega (arith, stands.arena)) in
      ap (λ (b : Bool). cond b (unchanged s (reply.TooBig (extent_of p.info) s.arena)) (insert_fitting s now p (queued_with p.info.signature (queued s)))) test

  look-stands : look_kept (kept_with p.info.signature book.rows) ≡ look_kept (kept_with p.info.signature (map kept (queued s)))
  look-stands = ap (λ (ks : List Kept). look_kept (kept_with p.info.signature ks)) stands.rows

  pub duplicate : extent_of p.info ≤ book.arena → (n t : ℕ) → look_kept (kept_with p.info.signature book.rows) ≡ reply.Queued n t → Follows (reply.Duplicate n) book (insert s now p)
  duplicate fits n t found =
      let is = look-from_kept p.info.signature (queued s) ∙ sym look-stands ∙ found in
      let q = some_from_queued (queued_with p.info.signature (queued s)) n t is in
      let same : insert s now p ≡ unchanged s (reply.Duplicate n) = insert-fits fits ∙ ap (insert_fitting s now p) q.1 ∙ ap (λ (k : ℕ). unchanged s (reply.Duplicate k)) q.2 in
      subst (λ (o : Outcome). Follows (reply.Duplicate n) book o) (sym same) (Follows-unchanged book s (reply.Duplicate n) stands)

  insert-absent : extent_of p.info ≤ book.arena → look_kept (kept_with p.info.signature book.rows) ≡ reply.Absent → insert s now p ≡ insert_new s now p
  insert-absent fits absent =
      let is = look-from_kept p.info.signature (queued s) ∙ sym look-stands ∙ absent in
      insert-fits fits ∙ ap (insert_fitting s now p) (none_from_absent (queued_with p.info.signature (queued s)) is)

  pub time_end : extent_of p.info ≤ book.arena → look_kept (kept_with p.info.signature book.rows) ≡ reply.Absent → is_last book.last ≡ true → Follows reply.TimeEnd book (insert s now p)
  time_end fits absent last =
      let test : is_last (last_time s) ≡ true = ap is_last (sym stands.last) ∙ last in
      let same : insert s now p ≡ unchanged s reply.TimeEnd =
      insert-absent fits absent ∙ ap (λ (b : Bool). cond b (unchanged s reply.TimeEnd) (insert_by_evictions s now p (evictions s (extent_of p.info)))) test in
      subst (λ (o : Outcome). Follows reply.TimeEnd book o) (sym same) (Follows-unchanged book s reply.TimeEnd stands)

  insert-in_time : extent_of p.info ≤ book.arena → look_kept (kept_with p.info.signature book.rows) ≡ reply.Absent → is_last book.last ≡ false
      → insert s now p ≡ insert_by_evictions s now p (evictions s (extent_of p.info))
  insert-in_time fits absent last =
      let test : is_last (last_time s) ≡ false = ap is_last (sym stands.last) ∙ last in
      insert-absent fits absent ∙ ap (λ (b : Bool). cond b (unchanged s reply.TimeEnd) (insert_by_evictions s now p (evictions s (extent_of p.info)))) test

  -- what nobody holds does not make room
  pub locked : AreRising book.rows → 0 < extent_of p.info → extent_of p.info ≤ book.arena → look_kept (kept_with p.info.signature book.rows) ≡ reply.Absent → is_last book.last ≡ false
      → is_some (room_for (held_products book) (extent_of p.info)) ≡ false → (held : ℕ) → held ≡ count_held s → Follows (reply.Locked held) book (insert s now p)
  locked rising some fits absent last none held count =
      let evicted = evictions-none book s (extent_of p.info) rising stands (λ i. no_room book (extent_of p.info) i some rising none) in
      let same : insert s now p ≡ unchanged s (reply.Locked held) =
      insert-in_time fits absent last ∙ ap (insert_by_evictions s now p) evicted ∙ ap (λ (n : ℕ). unchanged s (reply.Locked n)) (sym count) in
      subst (λ (o : Outcome). Follows (reply.Locked held) book o) (sym same) (Follows-unchanged book s (reply.Locked held) stands)

  -- admitted, after the evictions that make room, with the body written to the arena
  pub admitted_after : AreRising book.rows → extent_of p.info ≤ book.arena → look_kept (kept_with p.info.signature book.rows) ≡ reply.Absent → is_last book.last ≡ false → (j place : ℕ)
      → j ≤ length (unheld_numbers book)
      → ((i : ℕ) → i < j → room_for (products (without_oldest i book)) (extent_of p.info) ≡ None) → room_for (products (without_oldest j book)) (extent_of p.info) ≡ Some place
      → Fits p.info → length p.body ≡ p.info.size → place + extent_of p.info ≤ length book.bytes → AreReserved book.bytes book.reservations → LieApart book.arena
      (occupied (grown (without_oldest j book) (time_after book.last now) p.info p.body place))
      → Follows (reply.Admitted book.admitted (time_after book.last now) j) (grown (without_oldest j book) (time_after book.last now) p.info p.body place) (insert s now p)
  admitted_after rising fits absent last j place within none some spelled size inside reserved apart =
      let same : insert s now p ≡ admitted (after_evicting s j) now p j =
      insert-in_time fits absent last ∙ ap (insert_by_evictions s now p) (evictions-are book s (extent_of p.info) j rising stands within none place some) in
      let after = without_oldest j book in
      let there = StandsFor-evicting j book s rising stands in
      let alike = alike_all (take j (unheld_numbers book)) book in
      let time : time_after after.last now ≡ time_after book.last now = ap (λ (o : Option ℕ). time_after o now) alike.last in
      let bytes = ap (λ (bs : List ℕ). length bs) alike.bytes in
      subst (λ (o : Outcome). Follows (reply.Admitted book.admitted (time_after book.last now) j) (grown after (time_after book.last now) p.info p.body place) o) (sym same)
      (subst (λ (n : ℕ). Follows (reply.Admitted n (time_after book.last now) j) (grown after (time_after book.last now) p.info p.body place) (admitted (after_evicting s j) now p j)) alike.admitted
      (subst (λ (t : ℕ). Follows (reply.Admitted after.admitted t j) (grown after t p.info p.body place) (admitted (after_evicting s j) now p j)) time
      (StandsFor-grown after (after_evicting s j) there now p place j (room_place after (after_evicting s j) (extent_of p.info) place there some) spelled size
      (omega (arith, bytes, size, inside))
      (subst (λ (bs : List ℕ). AreReserved bs after.reservations) (sym alike.bytes) (subst (λ (rs : Reservations). AreReserved book.bytes rs) (sym alike.reservations) reserved))
      (subst (λ (a : ℕ). LieApart a (occupied (grown after (time_after after.last now) p.info p.body place))) (sym alike.arena)
      (subst (λ (t : ℕ). LieApart book.arena (occupied (grown after t p.info p.body place))) (sym time) apart)))))

-- what was queued before one product more stays
pub stays-grown : (old after new : BookView) (time place : ℕ) (p : Product) (k : Kept) → after.bytes ≡ old.bytes → new ≡ grown after time p.info p.body place → Fits p.info
    → length p.body ≡ p.info.size
    → place + extent_of p.info ≤ length after.bytes → LieApart new.arena (occupied new) → Contains after.rows k → Contains old.rows k → Stays old new k
stays-grown old after new time place p k bytes is spelled size inside apart there before =
    let long = length-bytes_of p spelled size in
    let added = new_kept after time p.info place in
    let lie = subst (λ (b : BookView). LieApart b.arena (occupied b)) is apart in
    record {
      queued = before;
      bytes =
          ap (λ (b : BookView). stored_bytes b.bytes k) is
          ∙ product_stays after.bytes (bytes_of p) place (kept_region added) (omega arith) (omega (arith, long)) (omega (arith, long, inside)) after.rows k
          (rows_from_last after.arena after.rows added after.reservations lie) there
          ∙ ap (λ (bs : List ℕ). stored_bytes bs k) bytes;
    }

-- the reservation of a place is one
same_one : (rs new : Reservations) (r : ℕ) (before after : KeptReservation) → new ≡ rs → reservation_at rs r ≡ Some before → reservation_at new r ≡ Some after → after ≡ before
same_one rs new r before after same was now = let both : Some after ≡ Some before = sym now ∙ ap (λ (x : Reservations). reservation_at x r) same ∙ was in cc

-- where neither reservations nor bytes change, each stays
pub keeps-same : (old new : BookView) → new.reservations ≡ old.reservations → new.bytes ≡ old.bytes → KeepsReserved old new
keeps-same old new same bytes r before after was now =
    let one = same_one old.reservations new.reservations r before after same was now in
    let part : before.filled ≤ after.filled = omega (arith, ap (λ (v : KeptReservation). v.filled) one) in
    record {
      actor = ap (λ (v : KeptReservation). v.actor) one;
      product = ap (λ (v : KeptReservation). v.product) one;
      filled = part;
      bytes = ap (λ (bs : List ℕ). filled_bytes bs before) bytes;
    }

-- and so it does beside one product more
pub keeps-grown : (old after new : BookView) (time place : ℕ) (p : Product) → after.bytes ≡ old.bytes → after.reservations ≡ old.reservations → new ≡ grown after time p.info p.body place → Fits p.info
    → length p.body ≡ p.info.size
    → place + extent_of p.info ≤ length after.bytes → AreReserved old.bytes old.reservations → LieApart new.arena (occupied new) → KeepsReserved old new
keeps-grown old after new time place p bytes reservations is spelled size inside reserved apart r before now_has was now =
    let long = length-bytes_of p spelled size in
    let added = new_kept after time p.info place in
    let lie = subst (λ (b : BookView). LieApart b.arena (occupied b)) is apart in
    let one = same_one old.reservations new.reservations r before now_has (ap (λ (b : BookView). b.reservations) is ∙ reservations) was now in
    let there : reservation_at after.reservations r ≡ Some before = ap (λ (rs : Reservations). reservation_at rs r) reservations ∙ was in
    let beside =
    each-at (λ (o : KeptReservation). AreApart (reserved_region o) (kept_region added)) after.reservations r before there (reserved_from_last after.arena after.rows added after.reservations lie) in
    let part = each-at (λ (o : KeptReservation). o.filled ≤ o.product.size) old.reservations r before was (parts_of old.bytes old.reservations reserved) in
    let filled : before.filled ≤ now_has.filled = omega (arith, ap (λ (v : KeptReservation). v.filled) one) in
    record {
      actor = ap (λ (v : KeptReservation). v.actor) one;
      product = ap (λ (v : KeptReservation). v.product) one;
      filled = filled;
      bytes =
          ap (λ (b : BookView). filled_bytes b.bytes before) is
          ∙ filled_stays after.bytes (bytes_of p) place (kept_region added) (omega arith) (omega (arith, long)) (omega (arith, long, inside)) before part beside
          ∙ ap (λ (bs : List ℕ). filled_bytes bs before) bytes;
    }

-- where a look finds nothing, no product has the signature
pub no_product : (o : Option Kept) → reply.Absent ≡ look_kept o → o ≡ None
no_product None e = refl
no_product (Some k) e = absurd cc
