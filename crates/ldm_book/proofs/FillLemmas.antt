-- What reserving a region and filling bytes into it make of a book, and of the state that it stands for.
use Rattle.std.proofs.Common.{◌≡◌, ℕ, zero, suc, ◌+◌, ◌-◌, ◌%◌, ◌<◌, ◌≤◌, Bool, true, false, cond, ltb, List, [], ◌∷◌, ◌++◌, length, map, set, take}
use Rattle.std.proofs.Common.{Option, Some, None, refl, sym, ap, subst, ◌∙◌, inl, inr, append-nil, append_assoc, get_or-set_same, get_or-set_other, arith}
use Rattle.std.specs.Prelude.{is_none, is_some, slice_index_or}
use Rattle.std.specs.List.{AllByRecursion, Contains, between, position, position_from}
use Rattle.std.specs.Option.{option_map}
use Rattle.std.proofs.lemmas.Bool.{cases_eq, lt-ltb, le-ltb}
use Rattle.std.proofs.lemmas.Iterator.Adapters.{position_from-zero}
use Rattle.std.proofs.lemmas.List.{length-append, map-set}
use Rattle.std.proofs.lemmas.Option.{none-some}
use Rattle.std.proofs.lemmas.Slice.{between-put_mid}
use Rattle.ldm_types.specs.Arena.{AreApart}
use Rattle.ldm_types.specs.Info.{Metadata, metadata_len}
use Rattle.ldm_model.specs.Product.{extent_of}
use Rattle.ldm_model.specs.declared.event.Reply.TheVariants as reply
use Rattle.ldm_model.specs.State.{State, Reservation, queued, queued_with}
use Rattle.ldm_model.specs.Outcome.{Outcome, unchanged}
use Rattle.ldm_model.specs.Evict.{count_held}
use Rattle.ldm_model.specs.Cursor.{least_empty}
use Rattle.ldm_model.specs.Insert.{after_evicting}
use Rattle.ldm_model.specs.Reservation as model
use Rattle.ldm_model.specs.Reserve.{reserve, reserve_at, reserve_by_evictions, reserve_fitting}
use Rattle.ldm_model.specs.Fill.{fill, fill_open}
use Rattle.ldm_xdr.specs.Spelling.{Fits, spelling}
use Rattle.ldm_xdr.proofs.Whole.{length-spelling}
use Rattle.ldm_book.specs.View.{BookView, Kept, KeptReservation, Reservations, filled_bytes, kept, kept_reservation, stored_bytes}
use Rattle.ldm_book.specs.Products.{AreRising, LieApart, if_reserved_by, kept_extent, kept_region, reservation_at, reserved_region, room_for, with_more}
use Rattle.ldm_book.specs.Readers.{held_products, occupied, products, unheld_numbers, without_oldest}
use Rattle.ldm_book.specs.Making.{new_reservation, reserved_at, reserving, written}
use Rattle.ldm_book.specs.Stored.{AreReserved, IsReserved}
use Rattle.ldm_book.specs.Stands.{StandsFor}
use Rattle.ldm_book.specs.Lookup.{kept_with, look_kept}
use Rattle.ldm_book.specs.Answers.{Follows, KeepsReserved}
use Rattle.ldm_book.proofs.ApartLemmas.{Each, Others, each-at, others-at, others-set, others_from_reserved, reserved_within, rows_from_reserved}
use Rattle.ldm_book.proofs.InsertLemmas.{Follows-unchanged}
use Rattle.ldm_book.proofs.QueuedLemmas.{look-from_kept, none_from_absent, some_from_queued}
use Rattle.ldm_book.proofs.ReservingLemmas.{at_own, is_own, known, left-of, no_own, no_reservation}
use Rattle.ldm_book.proofs.RoomLemmas.{alike_all, no_room}
use Rattle.ldm_book.proofs.StoredLemmas.{before-written, between-written, filled_one_at, filled_others, filled_stays, length-written, parts_of, product_stays, stored_still}
use Rattle.ldm_book.proofs.UnheldLemmas.{StandsFor-evicting, evictions-are, evictions-none, room_place}

-- the least empty place
least-from : (i : ℕ) (rs : List (Option Reservation)) → position_from is_none i (map (option_map kept_reservation) rs) ≡ position_from is_none i rs
least-from i [] = refl
least-from i (None ∷ rs) = refl
least-from i (Some v ∷ rs) = least-from (i + 1) rs

least-stands : (book : BookView) (s : State) → StandsFor book s → position is_none book.reservations ≡ least_empty s.reservations
least-stands book s stands =
    ap (λ (rs : Reservations). position is_none rs) stands.reservations
    ∙ position_from-zero is_none (map (option_map kept_reservation) s.reservations) ∙ least-from 0 s.reservations ∙ sym (position_from-zero is_none s.reservations)

-- a region that is reserved in a book
module _ (book : BookView) (actor r : ℕ) (info : Metadata) (place : ℕ) (spelled : Fits info) (inside : place + extent_of info ≤ length book.bytes) (bound : r < length book.reservations)
    (apart : LieApart book.arena (occupied (reserved_at book actor r info place))) where
  abbrev made : KeptReservation
  made = new_reservation actor info place

  abbrev places : Reservations
  places = set book.reservations r (Some made)

  there : reservation_at places r ≡ Some made
  there = get_or-set_same book.reservations r (Some made) None bound

  long : length (spelling info) ≡ metadata_len info
  long = length-spelling info spelled.signature

  pub from : place ≤ place
  from = omega arith

  pub to : place + length (spelling info) ≤ place + kept_extent made.product
  to = omega (arith, long)

  pub within : place + length (spelling info) ≤ length book.bytes
  within = omega (arith, long, inside)

  pub reserve-rows : AllByRecursion (λ (k : Kept). AreApart (kept_region k) (reserved_region made)) book.rows
  reserve-rows = rows_from_reserved book.arena book.rows places r made there apart

  pub reserve-others : Others (λ (o : KeptReservation). AreApart (reserved_region o) (reserved_region made)) r book.reservations
  reserve-others =
      others-set (λ (o : KeptReservation). AreApart (reserved_region o) (reserved_region made)) book.reservations r (Some made) (others_from_reserved book.arena book.rows places r made there apart)

  -- the metadata stand there
  pub spelled-there : between place (place + metadata_len info + 0) (written book.bytes (spelling info) place) ≡ spelling info
  spelled-there = between-put_mid place (length (spelling info)) book.bytes (spelling info) (place + metadata_len info + 0) (omega arith) (omega (arith, long))

  -- the state with it
  pub StandsFor-reserved : (s : State) → StandsFor book s → AreReserved book.bytes book.reservations
      → StandsFor (reserved_at book actor r info place) (model.with_reservation s r (Some (model.new_reservation actor info place)))
  StandsFor-reserved s stands reserved =
      let new = model.new_reservation actor info place in
      let region = reserved_region made in
      record {
        arena = stands.arena;
        sized = length-written book.bytes (spelling info) place within ∙ stands.sized;
        slots = stands.slots;
        admitted = stands.admitted;
        last = stands.last;
        rows = stands.rows;
        stored =
            stored_still book.bytes (spelling info) place region from to within (queued s)
            (subst (λ (ks : List Kept). AllByRecursion (λ (k : Kept). AreApart (kept_region k) region) ks) stands.rows reserve-rows) stands.stored;
        cursors = stands.cursors;
        reservations = ap (λ (rs : Reservations). set rs r (Some made)) stands.reservations ∙ sym (map-set (option_map kept_reservation) s.reservations r (Some new));
        filled =
            filled_others book.bytes (spelling info) place region from to within new (record { fits = spelled; stands = spelled-there ∙ sym (append-nil (spelling info)) }) s.reservations r
            (subst (Others (λ (o : KeptReservation). AreApart (reserved_region o) region) r) stands.reservations reserve-others)
            (subst (Each (λ (o : KeptReservation). o.filled ≤ o.product.size)) stands.reservations (parts_of book.bytes book.reservations reserved)) stands.filled;
      }

  -- the products and the other reservations stay
  pub reserve-stays : (k : Kept) → Contains book.rows k → stored_bytes (written book.bytes (spelling info) place) k ≡ stored_bytes book.bytes k
  reserve-stays k there = product_stays book.bytes (spelling info) place (reserved_region made) from to within book.rows k reserve-rows there

  pub reserve-keeps : reservation_at book.reservations r ≡ None → AreReserved book.bytes book.reservations → KeepsReserved book (reserved_at book actor r info place)
  reserve-keeps none reserved k before after was now = elim (cases_eq k r) [
    | inl same ↦ absurd (none-some before (sym none ∙ ap (reservation_at book.reservations) (sym same) ∙ was))
    | inr other ↦
        let still : reservation_at book.reservations k ≡ Some after = sym (get_or-set_other book.reservations r k (Some made) None other) ∙ now in
        let both : Some after ≡ Some before = sym still ∙ was in
        let one : after ≡ before = cc in
        let count : before.filled ≤ after.filled = omega (arith, ap (λ (v : KeptReservation). v.filled) one) in
        let beside = others-at (λ (o : KeptReservation). AreApart (reserved_region o) (reserved_region made)) book.reservations r k before other was reserve-others in
        let part = each-at (λ (o : KeptReservation). o.filled ≤ o.product.size) book.reservations k before was (parts_of book.bytes book.reservations reserved) in
        record {
          actor = ap (λ (v : KeptReservation). v.actor) one;
          product = ap (λ (v : KeptReservation). v.product) one;
          filled = count;
          bytes = filled_stays book.bytes (spelling info) place (reserved_region made) from to within before part beside;
        }
  ]

-- what is always true of a new reservation
pub reserved-new : (items : List ℕ) (actor : ℕ) (info : Metadata) (place : ℕ) → Fits info → place + extent_of info ≤ length items → place % 8 ≡ 0
    → IsReserved (written items (spelling info) place) (new_reservation actor info place)
reserved-new items actor info place spelled inside placed =
    let long = length-spelling info spelled.signature in
    record {
      metadata = record {
        info = info;
        at = record {
          fits = spelled;
          spelled = between-put_mid place (length (spelling info)) items (spelling info) (place + metadata_len info) (omega (arith, inside)) (omega (arith, long));
        };
        same = refl;
        placed = placed;
      };
      part = omega arith;
    }

-- bytes that are filled into a reservation
module _ (book : BookView) (r : ℕ) (v : KeptReservation) (bytes : List ℕ) (at : reservation_at book.reservations r ≡ Some v) (left : v.filled + length bytes ≤ v.product.size)
    (sized : length book.bytes ≡ book.arena) (apart : LieApart book.arena (occupied book)) where
  -- where they are written
  abbrev start : ℕ
  start = v.product.place + v.product.head + v.filled

  abbrev pub filled_book : BookView
  filled_book = record (reserving book r (Some (with_more (length bytes) v))) { bytes = written book.bytes bytes start }

  lies : v.product.place + kept_extent v.product ≤ book.arena
  lies = reserved_within book.arena book.rows book.reservations r v at apart

  pub fill-from : v.product.place ≤ start
  fill-from = omega arith

  pub fill-to : start + length bytes ≤ v.product.place + kept_extent v.product
  fill-to = omega (arith, left)

  pub fill-within : start + length bytes ≤ length book.bytes
  fill-within = omega (arith, left, lies, sized)

  pub fill-rows : AllByRecursion (λ (k : Kept). AreApart (kept_region k) (reserved_region v)) book.rows
  fill-rows = rows_from_reserved book.arena book.rows book.reservations r v at apart

  pub fill-others : Others (λ (o : KeptReservation). AreApart (reserved_region o) (reserved_region v)) r book.reservations
  fill-others = others_from_reserved book.arena book.rows book.reservations r v at apart

  pub fill-stays : (k : Kept) → Contains book.rows k → stored_bytes (written book.bytes bytes start) k ≡ stored_bytes book.bytes k
  fill-stays k there = product_stays book.bytes bytes start (reserved_region v) fill-from fill-to fill-within book.rows k fill-rows there

  pub fill-keeps : AreReserved book.bytes book.reservations → KeepsReserved book filled_book
  fill-keeps reserved k before after was now = elim (cases_eq k r) [
    | inl same ↦
        let inside : r < length book.reservations = open_bound book.reservations r at in
        let new : Some after ≡ Some (with_more (length bytes) v) =
        sym now ∙ ap (reservation_at (set book.reservations r (Some (with_more (length bytes) v)))) same ∙ get_or-set_same book.reservations r (Some (with_more (length bytes) v)) None inside in
        let after_is : after ≡ with_more (length bytes) v = cc in
        let old : Some before ≡ Some v = sym was ∙ ap (reservation_at book.reservations) same ∙ at in
        let before_is : before ≡ v = cc in
        let count : before.filled ≤ after.filled = omega (arith, ap (λ (x : KeptReservation). x.filled) before_is, ap (λ (x : KeptReservation). x.filled) after_is) in
        record {
          actor = ap (λ (x : KeptReservation). x.actor) after_is ∙ sym (ap (λ (x : KeptReservation). x.actor) before_is);
          product = ap (λ (x : KeptReservation). x.product) after_is ∙ sym (ap (λ (x : KeptReservation). x.product) before_is);
          filled = count;
          bytes =
              ap (filled_bytes (written book.bytes bytes start)) before_is
              ∙ before-written book.bytes bytes start v.product.place start fill-within fill-from (omega arith)
              ∙ ap (filled_bytes book.bytes) (sym before_is);
        }
    | inr other ↦
        let still : reservation_at book.reservations k ≡ Some after = sym (get_or-set_other book.reservations r k (Some (with_more (length bytes) v)) None other) ∙ now in
        let both : Some after ≡ Some before = sym still ∙ was in
        let one : after ≡ before = cc in
        let count : before.filled ≤ after.filled = omega (arith, ap (λ (x : KeptReservation). x.filled) one) in
        let beside = others-at (λ (o : KeptReservation). AreApart (reserved_region o) (reserved_region v)) book.reservations r k before other was fill-others in
        let part = each-at (λ (o : KeptReservation). o.filled ≤ o.product.size) book.reservations k before was (parts_of book.bytes book.reservations reserved) in
        record {
          actor = ap (λ (x : KeptReservation). x.actor) one;
          product = ap (λ (x : KeptReservation). x.product) one;
          filled = count;
          bytes = filled_stays book.bytes bytes start (reserved_region v) fill-from fill-to fill-within before part beside;
        }
  ]
    where
      open_bound : (rs : Reservations) (r : ℕ) → reservation_at rs r ≡ Some v → r < length rs
      open_bound [] r at = absurd cc
      open_bound (o ∷ rs) zero at = omega arith
      open_bound (o ∷ rs) (suc r) at = omega (arith, open_bound rs r at)

  -- what is always true of it
  pub fill-reserved : IsReserved book.bytes v → IsReserved (written book.bytes bytes start) (with_more (length bytes) v)
  fill-reserved is =
      let here = is.metadata in
      let head : v.product.head ≡ metadata_len here.info = ap (λ (x : Kept). x.head) here.same in
      record {
        metadata = record {
          info = here.info;
          at = record {
            fits = here.at.fits;
            spelled = before-written book.bytes bytes start v.product.place (v.product.place + metadata_len here.info) fill-within (omega arith) (omega (arith, head)) ∙ here.at.spelled;
          };
          same = here.same;
          placed = here.placed;
        };
        part = left;
      }

  -- the state with them
  pub StandsFor-filled : (s : State) (x : Reservation) → kept_reservation x ≡ v → slice_index_or s.reservations r None ≡ Some x → StandsFor book s → AreReserved book.bytes book.reservations
      → StandsFor filled_book (model.with_reservation s r (Some (model.with_bytes bytes x)))
  StandsFor-filled s x is there stands reserved =
      let new = model.with_bytes bytes x in
      let region = reserved_region v in
      let was = filled_one_at book.bytes s.reservations r x there stands.filled in
      let place = ap (λ (k : KeptReservation). k.product.place) is in
      let head = ap (λ (k : KeptReservation). k.product.head) is in
      let count = ap (λ (k : KeptReservation). k.filled) is in
      let n = metadata_len x.info + length x.filled in
      let at_start : start ≡ x.place + n = omega (arith, place, head, count) in
      let long : x.place + metadata_len x.info + length (x.filled ++ bytes) ≡ x.place + n + length bytes = omega (arith, length-append x.filled bytes) in
      let sum : x.place + n ≡ x.place + metadata_len x.info + length x.filled = omega arith in
      let within : x.place + n + length bytes ≤ length book.bytes = omega (arith, at_start, fill-within) in
      let stood : between x.place (x.place + metadata_len x.info + length (x.filled ++ bytes)) (written book.bytes bytes start) ≡ spelling x.info ++ (x.filled ++ bytes) =
      (λ i. between x.place (long i) (written book.bytes bytes (at_start i))) ∙ between-written book.bytes bytes x.place n within
      ∙ ap (λ (xs : List ℕ). xs ++ bytes) (ap (λ (e : ℕ). between x.place e book.bytes) sum ∙ was.stands) ∙ append_assoc (spelling x.info) x.filled bytes in
      let more : with_more (length bytes) v ≡ kept_reservation new = ap (with_more (length bytes)) (sym is) ∙ (λ i. record (kept_reservation x) { filled = sym (length-append x.filled bytes) i }) in
      record {
        arena = stands.arena;
        sized = length-written book.bytes bytes start fill-within ∙ stands.sized;
        slots = stands.slots;
        admitted = stands.admitted;
        last = stands.last;
        rows = stands.rows;
        stored =
            stored_still book.bytes bytes start region fill-from fill-to fill-within (queued s)
            (subst (λ (ks : List Kept). AllByRecursion (λ (k : Kept). AreApart (kept_region k) region) ks) stands.rows fill-rows) stands.stored;
        cursors = stands.cursors;
        reservations = (λ i. set (stands.reservations i) r (Some (more i))) ∙ sym (map-set (option_map kept_reservation) s.reservations r (Some new));
        filled =
            filled_others book.bytes bytes start region fill-from fill-to fill-within new (record { fits = was.fits; stands = stood }) s.reservations r
            (subst (Others (λ (o : KeptReservation). AreApart (reserved_region o) region) r) stands.reservations fill-others)
            (subst (Each (λ (o : KeptReservation). o.filled ≤ o.product.size)) stands.reservations (parts_of book.bytes book.reservations reserved)) stands.filled;
      }

-- the call that fills
module _ (book : BookView) (s : State) (stands : StandsFor book s) (actor r : ℕ) (bytes : List ℕ) where
  pub fill-none : None ≡ if_reserved_by actor (reservation_at book.reservations r) → Follows reply.NoReservation book (fill s actor r bytes)
  unfolding fill
  fill-none none = no_reservation book s (model.reservation_of s actor r) (fill_open s r bytes) (no_own book s stands actor r none) stands

  pub fill-over : (v : KeptReservation) → Some v ≡ if_reserved_by actor (reservation_at book.reservations r) → v.product.size - v.filled < length bytes
      → Follows (reply.Overfill (v.product.size - v.filled)) book (fill s actor r bytes)
  unfolding fill
  fill-over v own over =
      let is = is_own book s actor r v stands own in
      let x = is.reservation in
      let left = left-of s actor r v is in
      let test : ltb (model.left_of x) (length bytes) ≡ true = lt-ltb (model.left_of x) (length bytes) (omega (arith, left)) in
      known (reply.Overfill (v.product.size - v.filled)) book s (model.reservation_of s actor r) (fill_open s r bytes) x is.own
      (subst (λ (o : Outcome). Follows (reply.Overfill (v.product.size - v.filled)) book o)
      (sym (ap (λ (b : Bool). cond b (unchanged s (reply.Overfill (model.left_of x)))
      (record { reply = reply.Filled (model.left_of (model.with_bytes bytes x)); state = model.with_reservation s r (Some (model.with_bytes bytes x)) })) test))
      (record { reply = ap reply.Overfill (sym left); state = stands }))

  pub fill-some : (v : KeptReservation) (own : Some v ≡ if_reserved_by actor (reservation_at book.reservations r)) (rest : ℕ) → v.filled + length bytes ≤ v.product.size
      → rest + length bytes + v.filled ≡ v.product.size
      → LieApart book.arena (occupied book) → AreReserved book.bytes book.reservations
      → Follows (reply.Filled rest) (record (reserving book r (Some (with_more (length bytes) v))) { bytes = written book.bytes bytes (v.product.place + v.product.head + v.filled) })
      (fill s actor r bytes)
  unfolding fill
  fill-some v own rest room rest-is apart reserved =
      let is = is_own book s actor r v stands own in
      let x = is.reservation in
      let left = left-of s actor r v is in
      let new = record (reserving book r (Some (with_more (length bytes) v))) { bytes = written book.bytes bytes (v.product.place + v.product.head + v.filled) } in
      let test : ltb (model.left_of x) (length bytes) ≡ false = le-ltb (model.left_of x) (length bytes) (omega (arith, left)) in
      let size = ap (λ (k : KeptReservation). k.product.size) is.kept in
      let count = ap (λ (k : KeptReservation). k.filled) is.kept in
      let same : rest ≡ model.left_of (model.with_bytes bytes x) = omega (arith, size, count, length-append x.filled bytes) in
      known (reply.Filled rest) new s (model.reservation_of s actor r) (fill_open s r bytes) x is.own
      (subst (λ (o : Outcome). Follows (reply.Filled rest) new o)
      (sym (ap (λ (b : Bool). cond b (unchanged s (reply.Overfill (model.left_of x)))
      (record { reply = reply.Filled (model.left_of (model.with_bytes bytes x)); state = model.with_reservation s r (Some (model.with_bytes bytes x)) })) test))
      (record {
        reply = ap reply.Filled same;
        state = StandsFor-filled book r v bytes (at_own actor (reservation_at book.reservations r) v own) room stands.sized apart s x is.kept is.at stands reserved;
      }))

-- the call that reserves
module _ (book : BookView) (s : State) (stands : StandsFor book s) (actor : ℕ) (info : Metadata) where
  pub reserve-too_big : book.arena < extent_of info → Follows (reply.TooBig (extent_of info) book.arena) book (reserve s actor info)
  unfolding reserve
  reserve-too_big big =
      let test : ltb s.arena (extent_of info) ≡ true = lt-ltb s.arena (extent_of info) (omega (arith, stands.arena)) in
      subst (λ (o : Outcome). Follows (reply.TooBig (extent_of info) book.arena) book o)
      (sym (ap (λ (b : Bool). cond b (unchanged s (reply.TooBig (extent_of info) s.arena)) (reserve_fitting s actor info (queued_with info.signature (queued s)))) test
      ∙ ap (λ (a : ℕ). unchanged s (reply.TooBig (extent_of info) a)) (sym stands.arena)))
      (Follows-unchanged book s (reply.TooBig (extent_of info) book.arena) stands)

  reserve-fits : extent_of info ≤ book.arena → reserve s actor info ≡ reserve_fitting s actor info (queued_with info.signature (queued s))
  unfolding reserve
  reserve-fits fits =
      let test : ltb s.arena (extent_of info) ≡ false = le-ltb s.arena (extent_of info) (omega (arith, stands.arena)) in
      ap (λ (b : Bool). cond b (unchanged s (reply.TooBig (extent_of info) s.arena)) (reserve_fitting s actor info (queued_with info.signature (queued s)))) test

  look-stands : look_kept (kept_with info.signature book.rows) ≡ look_kept (kept_with info.signature (map kept (queued s)))
  look-stands = ap (λ (ks : List Kept). look_kept (kept_with info.signature ks)) stands.rows

  pub reserve-duplicate : extent_of info ≤ book.arena → (n t : ℕ) → look_kept (kept_with info.signature book.rows) ≡ reply.Queued n t → Follows (reply.Duplicate n) book (reserve s actor info)
  reserve-duplicate fits n t found =
      let q = some_from_queued (queued_with info.signature (queued s)) n t (look-from_kept info.signature (queued s) ∙ sym look-stands ∙ found) in
      subst (λ (o : Outcome). Follows (reply.Duplicate n) book o) (sym (reserve-fits fits ∙ ap (reserve_fitting s actor info) q.1 ∙ ap (λ (k : ℕ). unchanged s (reply.Duplicate k)) q.2))
      (Follows-unchanged book s (reply.Duplicate n) stands)

  reserve-absent : extent_of info ≤ book.arena → look_kept (kept_with info.signature book.rows) ≡ reply.Absent → (o : Option ℕ) → o ≡ position is_none book.reservations
      → reserve s actor info ≡ reserve_at s actor info o
  reserve-absent fits absent o least =
      reserve-fits fits ∙ ap (reserve_fitting s actor info) (none_from_absent (queued_with info.signature (queued s)) (look-from_kept info.signature (queued s) ∙ sym look-stands ∙ absent))
      ∙ ap (reserve_at s actor info) (sym (least ∙ least-stands book s stands))

  pub reserve-all : extent_of info ≤ book.arena → look_kept (kept_with info.signature book.rows) ≡ reply.Absent → None ≡ position is_none book.reservations
      → Follows reply.AllReserved book (reserve s actor info)
  reserve-all fits absent least = subst (λ (o : Outcome). Follows reply.AllReserved book o) (sym (reserve-absent fits absent None least)) (Follows-unchanged book s reply.AllReserved stands)

  pub reserve-locked : AreRising book.rows → 0 < extent_of info → extent_of info ≤ book.arena → look_kept (kept_with info.signature book.rows) ≡ reply.Absent → (r : ℕ)
      → Some r ≡ position is_none book.reservations
      → is_some (room_for (held_products book) (extent_of info)) ≡ false → (held : ℕ) → held ≡ count_held s → Follows (reply.Locked held) book (reserve s actor info)
  reserve-locked rising some fits absent r least none held count =
      let evicted = evictions-none book s (extent_of info) rising stands (λ i. no_room book (extent_of info) i some rising none) in
      subst (λ (o : Outcome). Follows (reply.Locked held) book o)
      (sym (reserve-absent fits absent (Some r) least ∙ ap (reserve_by_evictions s actor info r) evicted ∙ ap (λ (n : ℕ). unchanged s (reply.Locked n)) (sym count)))
      (Follows-unchanged book s (reply.Locked held) stands)

  pub reserve-after : AreRising book.rows → extent_of info ≤ book.arena → look_kept (kept_with info.signature book.rows) ≡ reply.Absent → (r : ℕ) → Some r ≡ position is_none book.reservations
      → r < length book.reservations → (j place : ℕ) → j ≤ length (unheld_numbers book)
      → ((i : ℕ) → i < j → room_for (products (without_oldest i book)) (extent_of info) ≡ None) → room_for (products (without_oldest j book)) (extent_of info) ≡ Some place
      → Fits info → place + extent_of info ≤ length book.bytes → AreReserved book.bytes book.reservations → LieApart book.arena (occupied (reserved_at (without_oldest j book) actor r info place))
      → Follows (reply.Reserved r j) (reserved_at (without_oldest j book) actor r info place) (reserve s actor info)
  reserve-after rising fits absent r least bound j place within none room spelled inside reserved apart =
      let after = without_oldest j book in
      let then = after_evicting s j in
      let there = StandsFor-evicting j book s rising stands in
      let alike = alike_all (take j (unheld_numbers book)) book in
      let fit = room_place after then (extent_of info) place there room in
      let long = ap (λ (bs : List ℕ). length bs) alike.bytes in
      let many = ap (λ (rs : Reservations). length rs) alike.reservations in
      let stood =
      StandsFor-reserved after actor r info place spelled (omega (arith, long, inside)) (omega (arith, many, bound))
      (subst (λ (a : ℕ). LieApart a (occupied (reserved_at after actor r info place))) (sym alike.arena) apart) then there
      (subst (λ (bs : List ℕ). AreReserved bs after.reservations) (sym alike.bytes) (subst (λ (rs : Reservations). AreReserved book.bytes rs) (sym alike.reservations) reserved)) in
      subst (λ (o : Outcome). Follows (reply.Reserved r j) (reserved_at after actor r info place) o)
      (sym (reserve-absent fits absent (Some r) least ∙ ap (reserve_by_evictions s actor info r) (evictions-are book s (extent_of info) j rising stands within none place room)))
      (subst (λ (o : Option ℕ). Follows (reply.Reserved r j) (reserved_at after actor r info place)
      (record { reply = reply.Reserved r j; state = model.with_reservation then r (option_map (model.new_reservation actor info) o) })) (sym fit)
      (record { reply = refl; state = stood }))

-- the least empty place is empty
empty-from : (rs : Reservations) (i r : ℕ) → Some r ≡ position_from is_none i rs → (k : ℕ) × (r ≡ i + k) × (reservation_at rs k ≡ None)
empty-from [] i r e = absurd cc
empty-from (None ∷ rs) i r e = (0, (let same : r ≡ i = cc in omega arith), refl)
empty-from (Some v ∷ rs) i r e = let rest = empty-from rs (i + 1) r e in (suc rest.0, omega (arith, rest.1), rest.2)

pub least_empty_at : (rs : Reservations) (r : ℕ) → Some r ≡ position is_none rs → reservation_at rs r ≡ None
least_empty_at rs r e =
    let found = empty-from rs 0 r (e ∙ position_from-zero is_none rs) in
    let same : r ≡ found.0 = omega (arith, found.1) in
    ap (reservation_at rs) same ∙ found.2
