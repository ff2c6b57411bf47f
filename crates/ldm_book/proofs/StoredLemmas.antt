-- The metadata and the bodies in the arena, where more bytes are written.
use Rattle.std.proofs.Common.{append-nil, ◌≡◌, ◌⊎◌, ℕ, zero, suc, ◌+◌, ◌-◌, ◌%◌, ◌<◌, ◌≤◌, List, [], ◌∷◌, ◌++◌, length, map, set, drop, take, Option, Some, None, refl, sym, ap, subst, ◌∙◌, inl, inr, arith}
use Rattle.std.specs.Prelude.{slice_index_or}
use Rattle.std.specs.Option.{option_map}
use borrow.Rule.Slice.PartMut.{put_mid, same_len_mid}
use Rattle.std.specs.List.{AllByRecursion, Contains, between}
use Rattle.std.proofs.lemmas.List.{drop-drop, drop-take, drop_all, drop_at, length-append, length-drop, length-take-le, take-append-drop, take-take, take_at}
use Rattle.std.proofs.Math.Seq.{take-add}
use Rattle.std.proofs.lemmas.Slice.{between_is, take-put_mid_below, drop-put_mid, between-put_mid}
use Rattle.ldm_types.specs.Arena.{AreApart, Region}
use Rattle.ldm_types.specs.Info.{Metadata, metadata_len}
use Rattle.ldm_xdr.specs.Spelling.{Fits, spelling}
use Rattle.ldm_xdr.proofs.Whole.{length-spelling}
use Rattle.ldm_model.specs.Product.{Product}
use Rattle.ldm_model.specs.State.{Queued, Reservation, open_ones}
use Rattle.ldm_book.specs.View.{Kept, KeptReservation, Reservations, kept, kept_of, kept_reservation, open_kept, body_of, filled_bytes, stored_bytes}
use Rattle.ldm_book.proofs.EveryLemmas.{every_one}
use Rattle.ldm_book.specs.Products.{kept_region, reservation_at, reserved_region}
use Rattle.ldm_book.proofs.ApartLemmas.{Each, Others}
use Rattle.ldm_book.specs.Making.{written}
use Rattle.ldm_book.specs.Stored.{bytes_of, IsStored, AreStored, IsFilled, AreFilled, StandsAt, HasMetadata, HaveMetadata, IsReserved, AreReserved}

-- how long the bytes of a product are
pub length-bytes_of : (p : Product) → Fits p.info → length p.body ≡ p.info.size → length (bytes_of p) ≡ metadata_len p.info + p.info.size
length-bytes_of p fits size = omega (arith, length-append (spelling p.info) p.body, length-spelling p.info fits.signature)

-- what begins at a place where metadata stand
pub begins : (bytes : List ℕ) (place : ℕ) (info : Metadata) → StandsAt bytes place info → drop place bytes ≡ spelling info ++ drop (metadata_len info) (drop place bytes)
begins bytes place info at =
    let count : metadata_len info ≡ place + metadata_len info - place = omega arith in
    sym (take-append-drop (metadata_len info) (drop place bytes))
    ∙ ap (λ (xs : List ℕ). xs ++ drop (metadata_len info) (drop place bytes)) (ap (λ (n : ℕ). take n (drop place bytes)) count ∙ at.spelled)

module _ (bytes : List ℕ) (q : Queued) (is : IsStored bytes q) where
  abbrev info : Metadata
  info = q.product.info

  -- the bytes of a stored product
  whole : take (metadata_len info + info.size) (drop q.place bytes) ≡ bytes_of q.product
  whole = (let count : metadata_len info + info.size ≡ q.place + metadata_len info + info.size - q.place = omega arith in ap (λ (n : ℕ). take n (drop q.place bytes)) count ∙ is.stands)

  -- its metadata stand at its place
  pub metadata_stand : StandsAt bytes q.place info
  metadata_stand =
      let head = metadata_len info in
      let count : q.place + head - q.place ≡ head = omega arith in
      record {
        fits = is.fits;
        spelled =
            ap (λ (n : ℕ). take n (drop q.place bytes)) count ∙ sym (take-take head (head + info.size) (drop q.place bytes) (omega arith)) ∙ ap (take head) whole
            ∙ take_at (spelling info) q.product.body head (length-spelling info is.fits.signature);
      }

  -- and its body behind them
  pub body_stands : body_of bytes (kept q) ≡ q.product.body
  body_stands =
      let head = metadata_len info in
      let count : q.place + head + info.size - (q.place + head) ≡ info.size = omega arith in
      ap (λ (n : ℕ). take n (drop (q.place + head) bytes)) count ∙ ap (take info.size) (sym (drop-drop head q.place bytes)) ∙ sym (drop-take head info.size (drop q.place bytes)) ∙ ap (drop head) whole
      ∙ drop_at (spelling info) q.product.body head (length-spelling info is.fits.signature)

-- a part that ends before what is written, or begins behind it, is as it was
between_apart : (xs ys : List ℕ) (a i j : ℕ) → a + length ys ≤ length xs → i ≤ j → (j ≤ a) ⊎ (a + length ys ≤ i) → between i j (put_mid a (length ys) xs ys) ≡ between i j xs
between_apart xs ys a i j within order (inl before) =
    between_is (put_mid a (length ys) xs ys) i j ∙ ap (drop i) (take-put_mid_below a (length ys) xs ys j before (omega arith)) ∙ sym (between_is xs i j)
between_apart xs ys a i j within order (inr behind) =
    ap (take (j - i)) (drop-put_mid a (length ys) xs ys i behind (omega arith) refl)

-- the arena keeps its size
pub length-written : (bytes new : List ℕ) (place : ℕ) → place + length new ≤ length bytes → length (written bytes new place) ≡ length bytes
length-written bytes new place within =
    let behind = length-drop place bytes in
    same_len_mid place (length new) bytes new (sym (length-take-le (length new) (drop place bytes) (omega (arith, behind))))

-- bytes are written within a region
module _ (bytes new : List ℕ) (place : ℕ) (region : Region) (from : region.start ≤ place) (to : place + length new ≤ region.start + region.extent) (within : place + length new ≤ length bytes) where
  abbrev after : List ℕ
  after = written bytes new place

  -- a part of a product that lies apart from it stays
  pub part_stays : (other : Kept) (j : ℕ) → other.place ≤ j → j ≤ other.place + other.head + other.size → AreApart (kept_region other) region
      → between other.place j after ≡ between other.place j bytes
  part_stays other j begin end (inl before) = between_apart bytes new place other.place j within begin (inl (omega (arith, before, from)))
  part_stays other j begin end (inr behind) = between_apart bytes new place other.place j within begin (inr (omega (arith, behind, to)))

  -- and so does all of one of those before it
  pub product_stays : (rows : List Kept) (other : Kept) → AllByRecursion (λ (row : Kept). AreApart (kept_region row) region) rows → Contains rows other
      → stored_bytes after other ≡ stored_bytes bytes other
  product_stays rows other apart there =
      part_stays other (other.place + other.head + other.size) (omega arith) (omega arith) (every_one (λ (row : Kept). AreApart (kept_region row) region) rows other apart there)

  -- and what was filled in for a reservation
  pub filled_stays : (v : KeptReservation) → v.filled ≤ v.product.size → AreApart (reserved_region v) region → filled_bytes after v ≡ filled_bytes bytes v
  filled_stays v part apart = part_stays v.product (v.product.place + v.product.head + v.filled) (omega arith) (omega arith) apart

  -- the products that lie apart from it are stored still
  pub stored_still : (qs : List Queued) → AllByRecursion (λ (other : Kept). AreApart (kept_region other) region) (map kept qs) → AreStored bytes qs → AreStored after qs
  stored_still [] apart stored = tt
  stored_still (q ∷ qs) apart stored = (
    record {
      fits = stored.0.fits;
      stands = part_stays (kept q) (q.place + metadata_len q.product.info + q.product.info.size) (omega arith) (omega arith) apart.0 ∙ stored.0.stands;
    },
    stored_still qs apart.1 stored.1,
  )

  -- and their metadata stand there still
  pub metadata_one : (row : Kept) → AreApart (kept_region row) region → HasMetadata bytes row → HasMetadata after row
  metadata_one row apart here =
      let head : row.head ≡ metadata_len here.info = ap (λ (x : Kept). x.head) here.same in
      record {
        info = here.info;
        at = record {
          fits = here.at.fits;
          spelled = part_stays row (row.place + metadata_len here.info) (omega arith) (omega arith) apart ∙ here.at.spelled;
        };
        same = here.same;
        placed = here.placed;
      }

  pub metadata_still : (rows : List Kept) → AllByRecursion (λ (other : Kept). AreApart (kept_region other) region) rows → HaveMetadata bytes rows → HaveMetadata after rows
  metadata_still [] apart have = tt
  metadata_still (row ∷ rows) apart have = (metadata_one row apart.0 have.0, metadata_still rows apart.1 have.1)

  -- so it is with reservations: of each
  pub reserved_one : (v : KeptReservation) → AreApart (reserved_region v) region → IsReserved bytes v → IsReserved after v
  reserved_one v apart is = record { metadata = metadata_one v.product apart is.metadata; part = is.part }

  pub reserved_still : (rs : Reservations) → Each (λ (o : KeptReservation). AreApart (reserved_region o) region) rs → AreReserved bytes rs → AreReserved after rs
  reserved_still [] apart are = tt
  reserved_still (None ∷ rs) apart are = reserved_still rs apart.1 are
  reserved_still (Some v ∷ rs) apart are = (reserved_one v apart.0 are.0, reserved_still rs apart.1 are.1)

  -- or of each but one, which is another then
  pub reserved_others : (new : KeptReservation) → IsReserved after new → (rs : Reservations) (r : ℕ) → Others (λ (o : KeptReservation). AreApart (reserved_region o) region) r rs → AreReserved bytes rs
      → AreReserved after (set rs r (Some new))
  reserved_others new is [] r apart are = tt
  reserved_others new is (None ∷ rs) zero apart are = (is, reserved_still rs apart are)
  reserved_others new is (Some v ∷ rs) zero apart are = (is, reserved_still rs apart are.1)
  reserved_others new is (None ∷ rs) (suc r) apart are = reserved_others new is rs r apart.1 are
  reserved_others new is (Some v ∷ rs) (suc r) apart are = (reserved_one v apart.0 are.0, reserved_others new is rs r apart.1 are.1)

  -- and the bytes that were filled in stand there still
  filled_one : (v : Reservation) → length v.filled ≤ v.info.size → AreApart (reserved_region (kept_reservation v)) region → IsFilled bytes v → IsFilled after v
  filled_one v part apart is = record { fits = is.fits; stands = filled_stays (kept_reservation v) part apart ∙ is.stands }

  pub filled_still : (rs : List (Option Reservation)) → Each (λ (o : KeptReservation). AreApart (reserved_region o) region) (map (option_map kept_reservation) rs)
      → Each (λ (o : KeptReservation). o.filled ≤ o.product.size) (map (option_map kept_reservation) rs) → AreFilled bytes (open_ones rs) → AreFilled after (open_ones rs)
  filled_still [] apart parts are = tt
  filled_still (None ∷ rs) apart parts are = filled_still rs apart.1 parts.1 are
  filled_still (Some v ∷ rs) apart parts are = (filled_one v parts.0 apart.0 are.0, filled_still rs apart.1 parts.1 are.1)

  pub filled_others : (new : Reservation) → IsFilled after new → (rs : List (Option Reservation)) (r : ℕ)
      → Others (λ (o : KeptReservation). AreApart (reserved_region o) region) r (map (option_map kept_reservation) rs)
      → Each (λ (o : KeptReservation). o.filled ≤ o.product.size) (map (option_map kept_reservation) rs) → AreFilled bytes (open_ones rs) → AreFilled after (open_ones (set rs r (Some new)))
  filled_others new is [] r apart parts are = tt
  filled_others new is (None ∷ rs) zero apart parts are = (is, filled_still rs apart parts.1 are)
  filled_others new is (Some v ∷ rs) zero apart parts are = (is, filled_still rs apart parts.1 are.1)
  filled_others new is (None ∷ rs) (suc r) apart parts are = filled_others new is rs r apart.1 parts.1 are
  filled_others new is (Some v ∷ rs) (suc r) apart parts are = (filled_one v parts.0 apart.0 are.0, filled_others new is rs r apart.1 parts.1 are.1)

-- no more is filled in than a body has
pub parts_of : (bytes : List ℕ) (rs : Reservations) → AreReserved bytes rs → Each (λ (o : KeptReservation). o.filled ≤ o.product.size) rs
parts_of bytes [] are = tt
parts_of bytes (None ∷ rs) are = (tt, parts_of bytes rs are)
parts_of bytes (Some v ∷ rs) are = (are.0.part, parts_of bytes rs are.1)

-- so the regions of reservations take some bytes, too
pub headed_reserved : (bytes : List ℕ) (rs : Reservations) → AreReserved bytes rs → AllByRecursion (λ (v : KeptReservation). 0 < v.product.head) (open_kept rs)
headed_reserved bytes [] are = tt
headed_reserved bytes (None ∷ rs) are = headed_reserved bytes rs are
headed_reserved bytes (Some v ∷ rs) are = (omega (arith, ap (λ (x : Kept). x.head) are.0.metadata.same), headed_reserved bytes rs are.1)

-- one that ends
pub reserved_ended : (bytes : List ℕ) (rs : Reservations) (r : ℕ) → AreReserved bytes rs → AreReserved bytes (set rs r None)
reserved_ended bytes [] r are = are
reserved_ended bytes (None ∷ rs) zero are = are
reserved_ended bytes (Some v ∷ rs) zero are = are.1
reserved_ended bytes (None ∷ rs) (suc r) are = reserved_ended bytes rs r are
reserved_ended bytes (Some v ∷ rs) (suc r) are = (are.0, reserved_ended bytes rs r are.1)

pub filled_ended : (bytes : List ℕ) (rs : List (Option Reservation)) (r : ℕ) → AreFilled bytes (open_ones rs) → AreFilled bytes (open_ones (set rs r None))
filled_ended bytes [] r are = are
filled_ended bytes (None ∷ rs) zero are = are
filled_ended bytes (Some v ∷ rs) zero are = are.1
filled_ended bytes (None ∷ rs) (suc r) are = filled_ended bytes rs r are
filled_ended bytes (Some v ∷ rs) (suc r) are = (are.0, filled_ended bytes rs r are.1)

-- the reservation of a place, with what it has
pub reserved_one_at : (bytes : List ℕ) (rs : Reservations) (r : ℕ) (v : KeptReservation) → reservation_at rs r ≡ Some v → AreReserved bytes rs → IsReserved bytes v
reserved_one_at bytes [] r v at are = absurd cc
reserved_one_at bytes (None ∷ rs) zero v at are = absurd cc
reserved_one_at bytes (Some o ∷ rs) zero v at are = let same : o ≡ v = cc in subst (IsReserved bytes) same are.0
reserved_one_at bytes (None ∷ rs) (suc r) v at are = reserved_one_at bytes rs r v at are
reserved_one_at bytes (Some o ∷ rs) (suc r) v at are = reserved_one_at bytes rs r v at are.1

pub filled_one_at : (bytes : List ℕ) (rs : List (Option Reservation)) (r : ℕ) (v : Reservation) → slice_index_or rs r None ≡ Some v → AreFilled bytes (open_ones rs) → IsFilled bytes v
filled_one_at bytes [] r v at are = absurd cc
filled_one_at bytes (None ∷ rs) zero v at are = absurd cc
filled_one_at bytes (Some o ∷ rs) zero v at are = let same : o ≡ v = cc in subst (IsFilled bytes) same are.0
filled_one_at bytes (None ∷ rs) (suc r) v at are = filled_one_at bytes rs r v at are
filled_one_at bytes (Some o ∷ rs) (suc r) v at are = filled_one_at bytes rs r v at are.1

-- a product that was written is stored
pub stored_new : (bytes : List ℕ) (q : Queued) → Fits q.product.info → length q.product.body ≡ q.product.info.size → q.place + metadata_len q.product.info + q.product.info.size ≤ length bytes
    → IsStored (written bytes (bytes_of q.product) q.place) q
stored_new bytes q fits size within =
    let long = length-bytes_of q.product fits size in
    record {
      fits = fits;
      stands = between-put_mid q.place (length (bytes_of q.product)) bytes (bytes_of q.product) (q.place + metadata_len q.product.info + q.product.info.size) (omega arith) (omega (arith, long));
    }

-- its metadata stand at the place of what is kept of it
pub metadata_new : (bytes : List ℕ) (number time place : ℕ) (p : Product) → Fits p.info → length p.body ≡ p.info.size → place + metadata_len p.info + p.info.size ≤ length bytes → place % 8 ≡ 0
    → HasMetadata (written bytes (bytes_of p) place) (kept_of number time place p.info)
metadata_new bytes number time place p fits size within placed =
    let q : Queued = record { number = number; product = p; time = time; place = place } in
    record { info = p.info; at = metadata_stand (written bytes (bytes_of p) place) q (stored_new bytes q fits size within); same = refl; placed = placed }

-- the items of a vector after a part of them was written
pub items_written : (items part new : List ℕ) (len place n : ℕ) → len ≡ length items → part ≡ new → n ≡ length new → place + n ≤ length items
    → take len (put_mid place n items part ++ drop (length (put_mid place n items part)) items) ≡ written items new place
items_written items part new len place n count is size within =
    let same : put_mid place n items part ≡ written items new place = λ i. put_mid place (size i) items (is i) in
    let long = ap (λ (xs : List ℕ). length xs) same ∙ length-written items new place (omega arith) in
    take_at (put_mid place n items part) (drop (length (put_mid place n items part)) items) len (long ∙ sym count) ∙ same

-- so each product takes some bytes
pub headed : (bytes : List ℕ) (rows : List Kept) → HaveMetadata bytes rows → AllByRecursion (λ (k : Kept). 0 < k.head) rows
headed bytes [] have = tt
headed bytes (k ∷ ks) have = (omega (arith, ap (λ (x : Kept). x.head) have.0.same), headed bytes ks have.1)

-- metadata at the front of as many bytes as a product has, and the body written behind them
pub front_then_body : (spelled body room now : List ℕ) (head : ℕ) → now ≡ spelled ++ drop head room → length spelled ≡ head → put_mid head (length now - head) now body ≡ spelled ++ body
front_then_body spelled body room now head is long =
    let front : take head now ≡ spelled = ap (take head) is ∙ take_at spelled (drop head room) head long in
    let past : length now ≤ head + (length now - head) = omega arith in
    let rest : drop (length now - head) (drop head now) ≡ [] = drop-drop (length now - head) head now ∙ drop_all (head + (length now - head)) now past in
    (λ i. front i ++ (body ++ rest i)) ∙ ap (λ (xs : List ℕ). spelled ++ xs) (append-nil body)

-- a part, and the part behind it
between-split : (xs : List ℕ) (i n m : ℕ) → between i (i + n + m) xs ≡ between i (i + n) xs ++ between (i + n) (i + n + m) xs
between-split xs i n m =
    let whole : i + n + m - i ≡ n + m = omega arith in
    let front : n ≡ i + n - i = omega arith in
    let rest : m ≡ i + n + m - (i + n) = omega arith in
    ap (λ (k : ℕ). take k (drop i xs)) whole ∙ take-add n m (drop i xs) ∙ (λ k. take (front k) (drop i xs) ++ take (rest k) (drop-drop n i xs k))

-- bytes that are written behind others stand behind them
pub between-written : (bytes new : List ℕ) (i n : ℕ) → i + n + length new ≤ length bytes → between i (i + n + length new) (written bytes new (i + n)) ≡ between i (i + n) bytes ++ new
between-written bytes new i n within =
    let after = written bytes new (i + n) in
    let front = between_apart bytes new (i + n) i (i + n) within (omega arith) (inl (omega arith)) in
    let behind = between-put_mid (i + n) (length new) bytes new (i + n + length new) (omega arith) (omega arith) in
    between-split after i n (length new) ∙ (λ k. front k ++ behind k)

-- and what stands before them stays
pub before-written : (bytes new : List ℕ) (place i j : ℕ) → place + length new ≤ length bytes → i ≤ j → j ≤ place → between i j (written bytes new place) ≡ between i j bytes
before-written bytes new place i j within order before = between_apart bytes new place i j within order (inl before)
