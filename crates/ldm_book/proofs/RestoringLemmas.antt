-- Restoring a queue: a row is good exactly where its product can be put in behind those before it, and two queues that are
-- restored from the same are one.
use Rattle.std.proofs.Common.{◌≡◌, ◌≢◌, ℕ, zero, suc, ◌+◌, ◌-◌, ◌*◌, ◌/◌, ◌%◌, ◌<◌, ◌≤◌, Bool, true, false, cond, inl, inr, List, [], ◌∷◌, ◌++◌, length, map, take, drop, replicate, get_or}
use Rattle.std.proofs.Common.{Option, Some, None, bytes_eq, refl, sym, ap, subst, ◌∙◌, arith}
use Rattle.std.specs.List.{All, AllByRecursion}
use Rattle.std.specs.Option.{IfSome}
use Rattle.std.proofs.lemmas.Bool.{both_ways, cases_eq, false_from_ne_true}
use Rattle.std.proofs.lemmas.List.{get_or-map, get_or-take, length-append, length-map, length-take-le, map_push, take_all, take_more}
use Rattle.std.proofs.lemmas.List.Elements.{All-from_recursion, All-nil, All-push, All-same, All-weaker}
use Rattle.std.proofs.lemmas.Slice.Eq.{bytes_eq-Decides}
use Rattle.ldm_types.specs.Arena.{Region, AreApart}
use Rattle.ldm_types.specs.Info.{Metadata, metadata_len}
use Rattle.ldm_types.specs.declared.limits.TheConstants.{ARENA_UNIT, GREATEST_INSTANT}
use Rattle.ldm_types.specs.Cursors.{Places}
use Rattle.ldm_model.specs.State.{State, Row, add_queued, end_of, last_time, latest, queued, queued_from}
use Rattle.ldm_xdr.proofs.Whole.{spelled_once}
use Rattle.ldm_book.specs.declared.restoring.RowNote.{RowNote}
use Rattle.ldm_book.specs.declared.fault.RowFault.{RowFault}
use Rattle.ldm_book.specs.declared.fault.RowFault.TheVariants.{Surplus, Number, Time, Place}
use Rattle.ldm_book.specs.declared.fault.RestoreFault.{RestoreFault}
use Rattle.ldm_book.specs.declared.fault.RestoreFault.TheVariants.{BadArena, BadSlots, BadCount, BadRow, OutOfMemory}
use Rattle.ldm_book.specs.View.{BookView, Kept, Reservations, kept, kept_of, open_kept}
use Rattle.ldm_book.specs.declared.book.Book.TheInside.{Inside}
use Rattle.ldm_book.specs.Limits.{IsGoodArena, IsGoodSlots}
use Rattle.ldm_book.specs.Lookup.{kept_signature, kept_with}
use Rattle.ldm_book.specs.Products.{AreRising, LieApart, kept_extent, kept_region, occupied_by, occupied_in, reserved_region}
use Rattle.ldm_book.specs.Readers.{AreReading, products}
use Rattle.ldm_book.specs.Restoring.{Backup, IsGoodCount, IsGoodNumber, IsGoodPlace, IsGoodTime, IsNewest, IsPlaceable, IsRestorable, IsRestoreFault, IsRowFault}
use Rattle.ldm_book.specs.Restoring.{IsSoFar, IsWholeAt, LiesAt, SignaturesDiffer, TimesAreRising, all_closed, backup_of, backup_with, end_of_times, note_at, note_of, region_at}
use Rattle.ldm_book.specs.Slots.{no_product}
use Rattle.ldm_book.specs.Sound.{IsSound, IsTimed, view_of}
use Rattle.ldm_book.specs.Stands.{StandsFor}
use Rattle.ldm_book.specs.Stored.{HasMetadata, HaveMetadata, StandsAt}
use Rattle.ldm_book.proofs.EveryLemmas.{every_push}
use Rattle.ldm_book.proofs.FreeLemmas.{rising_push}
use Rattle.ldm_book.proofs.IsTimedLemmas.{timed_below}
use Rattle.ldm_book.proofs.StoredLemmas.{begins}

-- metadata stand at a place in one way
pub stands_once : (bytes : List ℕ) (place : ℕ) (a b : Metadata) → StandsAt bytes place a → StandsAt bytes place b → a ≡ b
stands_once bytes place a b one other =
    (spelled_once a b (drop (metadata_len a) (drop place bytes)) (drop (metadata_len b) (drop place bytes)) one.fits other.fits
    (sym (begins bytes place a one) ∙ begins bytes place b other)).0

-- ---- one of a list, and two of it

-- each stands so to those behind it
abbrev pub ToThoseBehind : {X : Type 0} → (X → X → Type 0) → List X → Type 0
ToThoseBehind R [] = Unit {0}
ToThoseBehind R (x ∷ xs) = AllByRecursion (R x) xs × ToThoseBehind R xs

pub every_at : {X : Type 0} (P : X → Type 0) (xs : List X) (i : ℕ) (d : X) → i < length xs → AllByRecursion P xs → P (get_or xs i d)
every_at P [] i d inside all = absurd (omega arith)
every_at P (x ∷ xs) zero d inside all = all.0
every_at P (x ∷ xs) (suc i) d inside all = every_at P xs i d (omega arith) all.1

pub pair_at : {X : Type 0} (R : X → X → Type 0) (xs : List X) (i j : ℕ) (d : X) → i < j → j < length xs → ToThoseBehind R xs → R (get_or xs i d) (get_or xs j d)
pair_at R [] i j d before inside all = absurd (omega arith)
pair_at R (x ∷ xs) zero zero d before inside all = absurd (omega arith)
pair_at R (x ∷ xs) zero (suc j) d before inside all = every_at (R x) xs j d (omega arith) all.0
pair_at R (x ∷ xs) (suc i) zero d before inside all = absurd (omega arith)
pair_at R (x ∷ xs) (suc i) (suc j) d before inside all = pair_at R xs i j d (omega arith) (omega arith) all.1

-- the row of an index
abbrev pub row_of : List Kept → ℕ → Kept
row_of rows i = get_or rows i no_product

pub each_row : (P : Kept → Type 0) (rows : List Kept) → ((e : ℕ) → e < length rows → P (row_of rows e)) → AllByRecursion P rows
each_row P [] f = tt
each_row P (k ∷ ks) f = (f 0 (omega arith), each_row P ks (λ e h. f (suc e) (omega arith)))

abbrev IsBelow : Kept → Kept → Type 0
IsBelow k other = k.number < other.number

abbrev IsEarlier : Kept → Kept → Type 0
IsEarlier k other = k.time < other.time

abbrev HasOther : Kept → Kept → Type 0
HasOther k other = other.signature ≢ k.signature

abbrev LiesBeside : Kept → Kept → Type 0
LiesBeside k other = AreApart (kept_region k) (kept_region other)

numbers : (rows : List Kept) → AreRising rows → ToThoseBehind IsBelow rows
numbers [] is = tt
numbers (k ∷ ks) is = (is.0, numbers ks is.1)

times : (rows : List Kept) → TimesAreRising rows → ToThoseBehind IsEarlier rows
times [] is = tt
times (k ∷ ks) is = (is.0, times ks is.1)

signatures : (rows : List Kept) → SignaturesDiffer rows → ToThoseBehind HasOther rows
signatures [] is = tt
signatures (k ∷ ks) is = (is.0, signatures ks is.1)

-- what holds of the regions holds of the rows
regions_of : (P : Region → Type 0) (rows : List Kept) (behind : List Region) → AllByRecursion P (map kept_region rows ++ behind) → AllByRecursion (λ (k : Kept). P (kept_region k)) rows
regions_of P [] behind all = tt
regions_of P (k ∷ ks) behind all = (all.0, regions_of P ks behind all.1)

of_regions : (P : Region → Type 0) (rows : List Kept) → AllByRecursion (λ (k : Kept). P (kept_region k)) rows → AllByRecursion P (map kept_region rows ++ [])
of_regions P [] all = tt
of_regions P (k ∷ ks) all = (all.0, of_regions P ks all.1)

regions : (arena : ℕ) (rows : List Kept) (behind : List Region) → LieApart arena (map kept_region rows ++ behind) → ToThoseBehind LiesBeside rows
regions arena [] behind apart = tt
regions arena (k ∷ ks) behind apart = (regions_of (AreApart (kept_region k)) ks behind apart.1, regions arena ks behind apart.2)

within_arena : (arena : ℕ) (rows : List Kept) (behind : List Region) → LieApart arena (map kept_region rows ++ behind) → AllByRecursion (λ (k : Kept). k.place + kept_extent k ≤ arena) rows
within_arena arena [] behind apart = tt
within_arena arena (k ∷ ks) behind apart = (apart.0, within_arena arena ks behind apart.2)

-- without what lies behind
pub front_apart : (arena : ℕ) (rows : List Kept) (behind : List Region) → LieApart arena (map kept_region rows ++ behind) → LieApart arena (map kept_region rows ++ [])
front_apart arena [] behind apart = tt
front_apart arena (k ∷ ks) behind apart =
    (apart.0, of_regions (AreApart (kept_region k)) ks (regions_of (AreApart (kept_region k)) ks behind apart.1), front_apart arena ks behind apart.2)

-- no row has a signature
not_first : (b : Bool) (k : Kept) (rest : Option Kept) → cond b (Some k) rest ≡ None → (b ≡ false) × (rest ≡ None)
not_first true k rest e = absurd cc
not_first false k rest e = (refl, e)

others_differ : (signature : List ℕ) (rows : List Kept) → kept_with signature rows ≡ None → AllByRecursion (λ (k : Kept). k.signature ≢ signature) rows
others_differ signature [] none = tt
others_differ signature (k ∷ ks) none =
    let parts = not_first (kept_signature signature k) k (kept_with signature ks) none in
    (λ same. both_ways _ parts.0 ((bytes_eq-Decides k.signature signature).1 same), others_differ signature ks parts.1)

none_with : (signature : List ℕ) (rows : List Kept) → AllByRecursion (λ (k : Kept). k.signature ≢ signature) rows → kept_with signature rows ≡ None
none_with signature [] all = refl
none_with signature (k ∷ ks) all =
    ap (λ b. cond b (Some k) (kept_with signature ks)) (false_from_ne_true (bytes_eq k.signature signature) (λ same. all.0 ((bytes_eq-Decides k.signature signature).0 same)))
    ∙ none_with signature ks all.1

-- ---- a row behind those that were restored

-- as many rows as notes
pub so_many : (rows : List Kept) (notes : List RowNote) (i : ℕ) → map note_of rows ≡ take i notes → i ≤ length notes → length rows ≡ i
so_many rows notes i are within = sym (length-map rows note_of) ∙ ap (λ (ns : List RowNote). length ns) are ∙ length-take-le i notes within

-- what is noted of one of them
noted_at : (rows : List Kept) (notes : List RowNote) (i e : ℕ) → map note_of rows ≡ take i notes → i ≤ length notes → e < i → note_at notes e ≡ note_of (row_of rows e)
noted_at rows notes i e are within below =
    let none : RowNote = record { n = 0; time = 0; place = 0 } in
    let long = so_many rows notes i are within in
    sym (get_or-take i notes e none below) ∙ ap (λ (ns : List RowNote). get_or ns e none) (sym are) ∙ get_or-map note_of rows e no_product none (omega arith)

module _ (book : BookView) (notes : List RowNote) (i : ℕ) (sofar : IsSoFar notes i book) (within : i ≤ length notes) where
  abbrev from : Backup
  from = backup_with book notes

  abbrev here : RowNote
  here = note_at notes i

  abbrev new : Metadata → Kept
  new info = kept_of here.n here.time here.place info

  abbrev is : IsRestorable book
  is = sofar.restorable

  pub long : length book.rows ≡ i
  long = so_many book.rows notes i sofar.are within

  noted : (e : ℕ) → e < i → note_at notes e ≡ note_of (row_of book.rows e)
  noted e below = noted_at book.rows notes i e sofar.are within below

  -- what stands at the place of an earlier row are the metadata of its product
  earlier : (e : ℕ) → e < i → (other : Metadata) → StandsAt book.bytes (note_at notes e).place other
      → (kept_region (row_of book.rows e) ≡ region_at (note_at notes e).place other) × ((row_of book.rows e).signature ≡ other.signature)
  earlier e below other stands =
      let row = row_of book.rows e in
      let has = every_at (HasMetadata book.bytes) book.rows e no_product (omega (arith, long)) is.stored in
      let place : (note_at notes e).place ≡ row.place = ap (λ (n : RowNote). n.place) (noted e below) in
      let info = stands_once book.bytes row.place has.info other has.at (subst (λ (p : ℕ). StandsAt book.bytes p other) place stands) in
      let same : row ≡ kept_of row.number row.time (note_at notes e).place other = has.same ∙ (λ j. kept_of row.number row.time (sym place j) (info j)) in
      (ap kept_region same, ap (λ (k : Kept). k.signature) same)

  -- and some stand there
  stand : (e : ℕ) → e < i → (other : Metadata) × StandsAt book.bytes (note_at notes e).place other
  stand e below =
      let has = every_at (HasMetadata book.bytes) book.rows e no_product (omega (arith, long)) is.stored in
      (has.info, subst (λ (n : RowNote). StandsAt book.bytes n.place has.info) (sym (noted e below)) has.at)

  -- where the product can be put in, the place is good
  pub good_from : (info : Metadata) → IsWholeAt book.bytes here.place info → IsPlaceable (products book) (new info) → IsGoodPlace from i
  good_from info whole placeable = (
    whole.placed,
    info,
    record {
      spelled = whole.spelled;
      within = whole.within;
      apart = λ e other below stands.
          let at = earlier e below other stands in
          let region = kept_region (new info) in
          let beside = regions_of (λ (r : Region). AreApart r region) book.rows (map reserved_region (open_kept book.reservations)) placeable.apart in
          let differ = others_differ info.signature book.rows placeable.absent in (
            subst (λ (r : Region). AreApart r region) at.0 (every_at (λ (k : Kept). AreApart (kept_region k) region) book.rows e no_product (omega (arith, long)) beside),
            λ same. every_at (λ (k : Kept). k.signature ≢ info.signature) book.rows e no_product (omega (arith, long)) differ (at.1 ∙ same),
          );
    },
  )

  -- and where the place is good, the product can be put in
  pub placeable_from : (info : Metadata) → IsWholeAt book.bytes here.place info → IsGoodPlace from i → IsPlaceable (products book) (new info)
  placeable_from info whole good =
      let same = stands_once book.bytes here.place good.1 info good.2.spelled whole.spelled in
      let lies : LiesAt from i info = subst (LiesAt from i) same good.2 in
      let region = kept_region (new info) in
      let beside = each_row (λ (k : Kept). AreApart (kept_region k) region) book.rows
      (λ e inside.
      let below : e < i = omega (arith, long) in
      let stands = stand e below in
      let at = earlier e below stands.0 stands.1 in
      subst (λ (r : Region). AreApart r region) (sym at.0) (lies.apart e stands.0 below stands.1).0) in
      let differ = each_row (λ (k : Kept). k.signature ≢ info.signature) book.rows
      (λ e inside.
      let below : e < i = omega (arith, long) in
      let stands = stand e below in
      let at = earlier e below stands.0 stands.1 in
      λ equal. (lies.apart e stands.0 below stands.1).1 (sym at.1 ∙ equal)) in
      record {
        within = rounded here.place (metadata_len info) info.size book.arena whole.placed is.arena.2 (omega (arith, whole.within, is.filled));
        apart =
            subst (λ (rs : Reservations). AllByRecursion (λ (r : Region). AreApart r region) (occupied_by book.rows rs)) (sym is.no_reservation)
            (of_regions (λ (r : Region). AreApart r region) book.rows beside);
        absent = none_with info.signature book.rows differ;
      }
    where
      rounded : (place head size arena : ℕ) → place % ARENA_UNIT ≡ 0 → arena % ARENA_UNIT ≡ 0 → place + head + size ≤ arena → place + 8 * ((head + size + 7) / 8) ≤ arena
      rounded place head size arena p a h = omega (arith, p, a, h)

  -- it comes behind all others
  pub comes_later : IsGoodNumber from i → IsGoodTime from i → All (λ (k : Kept). (k.number < here.n) × (k.time < here.time)) book.rows
  comes_later number time =
      All-from_recursion (λ (k : Kept). (k.number < here.n) × (k.time < here.time)) book.rows (each_row (λ (k : Kept). (k.number < here.n) × (k.time < here.time)) book.rows by_index)
    where
      by_index : (e : ℕ) → e < length book.rows → ((row_of book.rows e).number < here.n) × ((row_of book.rows e).time < here.time)
      by_index e inside =
          let before = i - 1 in
          let next : before + 1 ≡ i = omega (arith, long) in
          let note = noted before (omega arith) in
          let n = ap (λ (x : RowNote). x.n) note in
          let t = ap (λ (x : RowNote). x.time) note in
          let below = number.1 before next in
          let earlier = time.1 before next in
          elim (cases_eq e before) [
            | inl same ↦ subst (λ (k : ℕ). (((row_of book.rows k).number) < here.n) × ((row_of book.rows k).time < here.time)) (sym same) (omega (arith, n, below), omega (arith, t, earlier))
            | inr other ↦
                let first = pair_at IsBelow book.rows e before no_product (omega (arith, long)) (omega (arith, long)) (numbers book.rows is.rising) in
                let then_time = pair_at IsEarlier book.rows e before no_product (omega (arith, long)) (omega (arith, long)) (times book.rows is.times) in
                (omega (arith, n, below, first), omega (arith, t, earlier, then_time))
          ]

  -- the book with it
  abbrev with_new : Metadata → BookView
  with_new info = record book { rows = book.rows ++ new info ∷ [] }

  pub pushed : (info : Metadata) → i < length notes → i < book.slots → IsGoodNumber from i → IsGoodTime from i → IsWholeAt book.bytes here.place info → IsPlaceable (products book) (new info)
      → IsSoFar notes (i + 1) (with_new info)
  pushed info inside few number time whole placeable =
      let row = new info in
      let region = kept_region row in
      let later = comes_later number time in
      let beside = regions_of (λ (r : Region). AreApart r region) book.rows (map reserved_region (open_kept book.reservations)) placeable.apart in
      let none : RowNote = record { n = 0; time = 0; place = 0 } in
      record {
        are = map_push note_of book.rows row ∙ ap (λ (ns : List RowNote). ns ++ here ∷ []) sofar.are ∙ sym (take_more notes i none inside);
        restorable = record {
          arena = is.arena;
          filled = is.filled;
          slots = is.slots;
          last = is.last;
          few = omega (arith, length-append book.rows (row ∷ []), long, few);
          timed = timed_add book.last is.timed number.0 time.0;
          rising = rising_push book.rows row is.rising (All-weaker (λ (k : Kept). (k.number < here.n) × (k.time < here.time)) (λ (k : Kept). k.number < here.n) (λ k b. b.0) book.rows later);
          times = times_push book.rows is.times (each_row (λ (k : Kept). k.time < here.time) book.rows (λ e inside. (later e no_product inside).1));
          newest = every_push (IsNewest book) book.rows row is.newest (λ e. last_is book.last (time.2 e));
          placed = every_push (λ (k : Kept). k.place % ARENA_UNIT ≡ 0) book.rows row is.placed whole.placed;
          stored = every_push (HasMetadata book.bytes) book.rows row is.stored (record { info = info; at = whole.spelled; same = refl; placed = whole.placed });
          apart = apart_push book.rows is.apart placeable.within beside;
          differ = differ_push book.rows is.differ (others_differ info.signature book.rows placeable.absent);
          no_cursor = is.no_cursor;
          no_reservation = is.no_reservation;
        };
      }
    where
      timed_add : (last : Option ℕ) → IsTimed last book.admitted book.rows → here.n < book.admitted → here.time < end_of_times last → IsTimed last book.admitted (book.rows ++ new info ∷ [])
      timed_add None timed n t = absurd (omega arith)
      timed_add (Some last) timed n t = (timed.0, All-push (λ (k : Kept). (k.number < book.admitted) × (k.time ≤ last)) book.rows (new info) timed.1 (n, omega arith))

      last_is : (last : Option ℕ) → here.time + 1 ≡ end_of_times last → last ≡ Some here.time
      last_is None e = absurd (omega arith)
      last_is (Some last) e = (let same : last ≡ here.time = omega arith in ap (λ (t : ℕ). Some t) same)

      times_push : (rows : List Kept) → TimesAreRising rows → AllByRecursion (λ (k : Kept). k.time < here.time) rows → TimesAreRising (rows ++ new info ∷ [])
      times_push [] rising all = (tt, tt)
      times_push (k ∷ ks) rising all = (every_push (λ (other : Kept). k.time < other.time) ks (new info) rising.0 all.0, times_push ks rising.1 all.1)

      differ_push : (rows : List Kept) → SignaturesDiffer rows → AllByRecursion (λ (k : Kept). k.signature ≢ info.signature) rows → SignaturesDiffer (rows ++ new info ∷ [])
      differ_push [] differ all = (tt, tt)
      differ_push (k ∷ ks) differ all = (every_push (λ (other : Kept). other.signature ≢ k.signature) ks (new info) differ.0 (λ same. all.0 (sym same)), differ_push ks differ.1 all.1)

      apart_push : (rows : List Kept) → LieApart book.arena (map kept_region rows ++ []) → here.place + kept_extent (new info) ≤ book.arena
          → AllByRecursion (λ (k : Kept). AreApart (kept_region k) (kept_region (new info))) rows → LieApart book.arena (map kept_region (rows ++ new info ∷ []) ++ [])
      apart_push [] apart lies all = (lies, tt, tt)
      apart_push (k ∷ ks) apart lies all = (
        apart.0,
        of_regions (AreApart (kept_region k)) (ks ++ new info ∷ [])
            (every_push (λ (other : Kept). AreApart (kept_region k) (kept_region other)) ks (new info) (regions_of (AreApart (kept_region k)) ks [] apart.1) all.0),
        apart_push ks apart.2 lies all.1,
      )

-- ---- what a queue can be restored from has no fault

-- the times of rows are below the end of times
times_below : (last : Option ℕ) (admitted : ℕ) (rows : List Kept) → IsTimed last admitted rows → All (λ (k : Kept). k.time < end_of_times last) rows
times_below None admitted rows timed = All-same (λ (k : Kept). k.time < 0) rows [] timed.1 (All-nil (λ (k : Kept). k.time < 0))
times_below (Some last) admitted rows timed = All-weaker (λ (k : Kept). (k.number < admitted) × (k.time ≤ last)) (λ (k : Kept). k.time < last + 1) (λ k before. omega (arith, before.1)) rows timed.1

good_count : (last : Option ℕ) (admitted : ℕ) (rows : List Kept) → IsTimed last admitted rows → IfSome last (λ l. (l ≤ GREATEST_INSTANT) × (0 < admitted)) → IsGoodCount last admitted
good_count None admitted rows timed some = timed.0
good_count (Some last) admitted rows timed some = (some.1, timed.0)

module _ (book : BookView) (is : IsRestorable book) where
  abbrev noted_rows : List RowNote
  noted_rows = map note_of book.rows

  abbrev own : Backup
  own = backup_of book

  all_noted : IsSoFar noted_rows (length book.rows) book
  all_noted = record { are = sym (take_all (length book.rows) noted_rows (omega (arith, length-map book.rows note_of))); restorable = is }

  all_within : length book.rows ≤ length noted_rows
  all_within = omega (arith, length-map book.rows note_of)

  note_is : (i : ℕ) → i < length book.rows → note_at noted_rows i ≡ note_of (row_of book.rows i)
  note_is i inside = noted_at book.rows noted_rows (length book.rows) i all_noted.are all_within inside

  good_number : (i : ℕ) → i < length book.rows → IsGoodNumber own i
  good_number i inside =
      let n = ap (λ (x : RowNote). x.n) (note_is i inside) in
      let below = timed_below book.last book.admitted book.rows is.timed i no_product inside in (
        omega (arith, n, below),
        λ before next.
            let m = ap (λ (x : RowNote). x.n) (note_is before (omega arith)) in
            let rises = pair_at IsBelow book.rows before i no_product (omega arith) inside (numbers book.rows is.rising) in
            omega (arith, n, m, rises),
      )

  good_time : (i : ℕ) → i < length book.rows → IsGoodTime own i
  good_time i inside =
      let n = ap (λ (x : RowNote). x.n) (note_is i inside) in
      let t = ap (λ (x : RowNote). x.time) (note_is i inside) in
      let below = times_below book.last book.admitted book.rows is.timed i no_product inside in
      let newest = every_at (IsNewest book) book.rows i no_product inside is.newest in (
        omega (arith, t, below),
        λ before next.
            let m = ap (λ (x : RowNote). x.time) (note_is before (omega arith)) in
            let rises = pair_at IsEarlier book.rows before i no_product (omega arith) inside (times book.rows is.times) in
            omega (arith, t, m, rises),
        λ last. (let same = ap end_of_times (newest (omega (arith, n, last))) in omega (arith, t, same)),
      )

  good_place : (i : ℕ) → i < length book.rows → IsGoodPlace own i
  good_place i inside =
      let row = row_of book.rows i in
      let has = every_at (HasMetadata book.bytes) book.rows i no_product inside is.stored in
      let note = note_is i inside in
      let place = ap (λ (x : RowNote). x.place) note in
      let lies = every_at (λ (k : Kept). k.place + kept_extent k ≤ book.arena) book.rows i no_product inside (within_arena book.arena book.rows [] is.apart) in
      let head = ap (λ (k : Kept). k.head) has.same in
      let size = ap (λ (k : Kept). k.size) has.same in
      let region : kept_region row ≡ region_at (note_at noted_rows i).place has.info = ap kept_region has.same ∙ (λ j. region_at (sym place j) has.info) in
      let signature : row.signature ≡ has.info.signature = ap (λ (k : Kept). k.signature) has.same in (
        ap (λ (p : ℕ). p % ARENA_UNIT) place ∙ has.placed,
        has.info,
        record {
          spelled = subst (λ (p : ℕ). StandsAt book.bytes p has.info) (sym place) has.at;
          within = omega (arith, place, lies, head, size, is.filled);
          apart = λ e other below stands.
              let at = earlier book noted_rows (length book.rows) all_noted all_within e (omega arith) other stands in
              let apart = pair_at LiesBeside book.rows e i no_product below inside (regions book.arena book.rows [] is.apart) in
              let differ = pair_at HasOther book.rows e i no_product below inside (signatures book.rows is.differ) in (
                subst (λ (r : Region). AreApart r (region_at (note_at noted_rows i).place has.info)) at.0 (subst (λ (r : Region). AreApart (kept_region (row_of book.rows e)) r) region apart),
                λ same. differ (signature ∙ sym same ∙ sym at.1),
              );
        },
      )

  row_fault : (i : ℕ) (fault : RowFault) → i < length book.rows → IsRowFault own i fault → ⊥
  row_fault i Surplus inside faulty = omega (arith, is.few)
  row_fault i Number inside faulty = faulty.1 (good_number i inside)
  row_fault i Time inside faulty = faulty.2 (good_time i inside)
  row_fault i Place inside faulty = faulty.3 (good_place i inside)

  good_arena : IsGoodArena (length book.bytes)
  good_arena = record { whole = ap (λ (n : ℕ). n % ARENA_UNIT) is.filled ∙ is.arena.2; least = omega (arith, is.filled, is.arena.0); greatest = omega (arith, is.filled, is.arena.1) }

  good_slots : IsGoodSlots book.slots
  good_slots = record { some = is.slots.0; most = is.slots.1 }

  pub only_memory : (fault : RestoreFault) → IsRestoreFault own fault → fault ≡ OutOfMemory
  only_memory (BadArena a) faulty = absurd (faulty.1 good_arena)
  only_memory (BadSlots n) faulty = absurd (faulty.2 good_slots)
  only_memory BadCount faulty = absurd (faulty.2 (good_count book.last book.admitted book.rows is.timed is.last))
  only_memory (BadRow i fault) faulty = absurd (row_fault i fault (omega (arith, faulty.1.inside, length-map book.rows note_of)) faulty.1.is)
  only_memory OutOfMemory faulty = refl

pub again_memory : (from : Backup) (fault : RestoreFault) → IsRestoreFault from fault → (book : BookView) → IsRestorable book → backup_of book ≡ from → fault ≡ OutOfMemory
again_memory from fault faulty book is same = only_memory book is fault (subst (λ (f : Backup). IsRestoreFault f fault) (sym same) faulty)

-- ---- queues that are restored from the same are one

same_rows : (bytes : List ℕ) (xs ys : List Kept) → HaveMetadata bytes xs → HaveMetadata bytes ys → map note_of xs ≡ map note_of ys → xs ≡ ys
same_rows bytes [] [] one other e = refl
same_rows bytes [] (y ∷ ys) one other e = absurd cc
same_rows bytes (x ∷ xs) [] one other e = absurd cc
same_rows bytes (x ∷ xs) (y ∷ ys) one other e =
    let note : note_of x ≡ note_of y = cc in
    let rest : map note_of xs ≡ map note_of ys = cc in
    let place = ap (λ (n : RowNote). n.place) note in
    let info = stands_once bytes y.place one.0.info other.0.info (subst (λ (p : ℕ). StandsAt bytes p one.0.info) place one.0.at) other.0.at in
    let same : x ≡ y = one.0.same ∙ (λ j. kept_of (note j).n (note j).time (note j).place (info j)) ∙ sym other.0.same in
    λ j. same j ∷ same_rows bytes xs ys one.1 other.1 rest j

pub same_book : (a b : BookView) → IsRestorable a → IsRestorable b → backup_of a ≡ backup_of b → a ≡ b
same_book a b one other e =
    let bytes : a.bytes ≡ b.bytes = ap (λ (x : Backup). x.bytes) e in
    let arena : a.arena ≡ b.arena = sym one.filled ∙ ap (λ (xs : List ℕ). length xs) bytes ∙ other.filled in
    let rows = same_rows a.bytes a.rows b.rows one.stored (subst (λ (bs : List ℕ). HaveMetadata bs b.rows) (sym bytes) other.stored) (ap (λ (x : Backup). x.notes) e) in
    let cursors = one.no_cursor ∙ sym other.no_cursor in
    let reservations = one.no_reservation ∙ sym other.no_reservation in
    λ j. record {
      arena = arena j;
      bytes = bytes j;
      slots = (e j).slots;
      admitted = (e j).admitted;
      last = (e j).last;
      rows = rows j;
      cursors = cursors j;
      reservations = reservations j;
    }

-- ---- before the first row

pub none_restored : (book : BookView) (notes : List RowNote) → IsGoodArena book.arena → length book.bytes ≡ book.arena → IsGoodSlots book.slots → IsGoodCount book.last book.admitted
    → IfSome book.last (λ last. last ≤ GREATEST_INSTANT) → book.rows ≡ [] → book.cursors ≡ replicate 64 None → book.reservations ≡ replicate 64 None → IsSoFar notes 0 book
none_restored book notes arena filled slots count small none cursors reservations = record {
  are = ap (map note_of) none;
  restorable = record {
    arena = (arena.least, arena.greatest, arena.whole);
    filled = filled;
    slots = (slots.some, slots.most);
    last = both book.last count small;
    few = omega (arith, ap (λ (ks : List Kept). length ks) none);
    timed = timed book.last count;
    rising = subst AreRising (sym none) tt;
    times = subst TimesAreRising (sym none) tt;
    newest = subst (AllByRecursion (IsNewest book)) (sym none) tt;
    placed = subst (AllByRecursion (λ (k : Kept). k.place % ARENA_UNIT ≡ 0)) (sym none) tt;
    stored = subst (HaveMetadata book.bytes) (sym none) tt;
    apart = subst (λ (ks : List Kept). LieApart book.arena (occupied_by ks [])) (sym none) tt;
    differ = subst SignaturesDiffer (sym none) tt;
    no_cursor = cursors;
    no_reservation = reservations;
  };
}
  where
    both : (last : Option ℕ) → IsGoodCount last book.admitted → IfSome last (λ l. l ≤ GREATEST_INSTANT) → IfSome last (λ l. (l ≤ GREATEST_INSTANT) × (0 < book.admitted))
    both None count small = tt
    both (Some last) count small = (small, count.0)

    timed : (last : Option ℕ) → IsGoodCount last book.admitted → IsTimed last book.admitted book.rows
    timed None count = (count, none)
    timed (Some last) count =
        (count.1, All-same (λ (k : Kept). (k.number < book.admitted) × (k.time ≤ last)) book.rows [] none (All-nil (λ (k : Kept). (k.number < book.admitted) × (k.time ≤ last))))

-- ---- what is always true of a book whose rows are put back

-- what an index has does not depend on what stands for nothing
pub at_any : {X : Type 0} (xs : List X) (i : ℕ) (d e : X) → i < length xs → get_or xs i d ≡ get_or xs i e
at_any [] i d e inside = absurd (omega arith)
at_any (x ∷ xs) zero d e inside = refl
at_any (x ∷ xs) (suc i) d e inside = at_any xs i d e (omega arith)

-- numbers that rise are no more than the numbers below the last
above_more : (least : ℕ) (k : Kept) (ks : List Kept) → least ≤ k.number → AllByRecursion (λ (other : Kept). k.number < other.number) ks → AllByRecursion (λ (other : Kept). least + 1 ≤ other.number) ks
above_more least k [] from all = tt
above_more least k (other ∷ ks) from all = (omega (arith, all.0), above_more least k ks from all.1)

count_rising : (rows : List Kept) (least n : ℕ) → least ≤ n → AreRising rows → AllByRecursion (λ (k : Kept). least ≤ k.number) rows → AllByRecursion (λ (k : Kept). k.number < n) rows → length rows + least ≤ n
count_rising [] least n order rising from below = omega arith
count_rising (k ∷ ks) least n order rising from below =
    let rest = count_rising ks (least + 1) n (omega (arith, from.0, below.0)) rising.1 (above_more least k ks from.0 rising.0) below.1 in
    omega (arith, rest)

from_zero : (rows : List Kept) → AllByRecursion (λ (k : Kept). 0 ≤ k.number) rows
from_zero [] = tt
from_zero (k ∷ ks) = (omega arith, from_zero ks)

pub few_admitted : (last : Option ℕ) (admitted : ℕ) (rows : List Kept) → IsTimed last admitted rows → AreRising rows → length rows ≤ admitted
few_admitted last admitted rows timed rising =
    let below = each_row (λ (k : Kept). k.number < admitted) rows (λ e inside. timed_below last admitted rows timed e no_product inside) in
    let count = count_rising rows 0 admitted (omega arith) rising (from_zero rows) below in
    omega (arith, count)

-- where no cursor is open, none reads
reading_none : (admitted : ℕ) (rows : List Kept) (n : ℕ) → AreReading admitted rows (replicate n None)
reading_none admitted rows zero = tt
reading_none admitted rows (suc n) = (tt, reading_none admitted rows n)

pub none_reads : (admitted : ℕ) (rows : List Kept) (cursors : Places) → cursors ≡ replicate 64 None → AreReading admitted rows cursors
none_reads admitted rows cursors none = subst (AreReading admitted rows) (sym none) (reading_none admitted rows 64)

-- ---- a book that stands for a state, with nothing open

-- the product that was admitted last has the last insertion time
newest_from : (n : ℕ) (before : Option ℕ) (rows : List Row) → AllByRecursion (λ (k : Kept). k.number + 1 ≡ n + length rows → latest before rows ≡ Some k.time) (map kept (queued_from n rows))
newest_from n before [] = tt
newest_from n before (row ∷ rows) =
    let e : n + 1 + length rows ≡ n + suc (length rows) = omega arith in
    by_place row.place
    (subst (λ (end : ℕ). AllByRecursion (λ (k : Kept). k.number + 1 ≡ end → latest (Some row.time) rows ≡ Some k.time) (map kept (queued_from (n + 1) rows))) e (newest_from (n + 1) (Some row.time) rows))
  where
    is_last : (rest : List Row) → n + 1 ≡ n + suc (length rest) → latest (Some row.time) rest ≡ Some row.time
    is_last [] e = refl
    is_last (other ∷ others) e = absurd (omega arith)

    by_place : (o : Option ℕ) → AllByRecursion (λ (k : Kept). k.number + 1 ≡ n + suc (length rows) → latest (Some row.time) rows ≡ Some k.time) (map kept (queued_from (n + 1) rows))
        → AllByRecursion (λ (k : Kept). k.number + 1 ≡ n + suc (length rows) → latest (Some row.time) rows ≡ Some k.time) (map kept (add_queued n row o (queued_from (n + 1) rows)))
    by_place None rest = rest
    by_place (Some place) rest = (λ e. is_last rows e, rest)

some_last : (rows : List Row) (last : ℕ) → Some last ≡ latest None rows → 0 < length rows
some_last [] last e = absurd cc
some_last (row ∷ rows) last e = omega arith

placed_all : (bytes : List ℕ) (rows : List Kept) → HaveMetadata bytes rows → AllByRecursion (λ (k : Kept). k.place % ARENA_UNIT ≡ 0) rows
placed_all bytes [] have = tt
placed_all bytes (k ∷ ks) have = (have.0.placed, placed_all bytes ks have.1)

pub closed_restorable : (b : Inside) → IsSound b → (s : State) → StandsFor (view_of b) s → length b.products.rows ≤ b.products.slots → TimesAreRising b.products.rows → SignaturesDiffer b.products.rows
    → IfSome b.last (λ last. last ≤ GREATEST_INSTANT) → IsRestorable (all_closed (view_of b))
closed_restorable b sound s stands few times differ small = record {
  arena = (sound.good_arena.least, sound.good_arena.greatest, sound.good_arena.whole);
  filled = sym b.arena.ok.0;
  slots = (sound.some_slot, sound.slots_small);
  last = by_last b.last stands.last small;
  few = few;
  timed = sound.timed;
  rising = sound.rising;
  times = times;
  newest =
      subst (λ (o : Option ℕ). AllByRecursion (λ (k : Kept). k.number + 1 ≡ b.admitted → o ≡ Some k.time) b.products.rows) (sym stands.last)
      (subst (λ (n : ℕ). AllByRecursion (λ (k : Kept). k.number + 1 ≡ n → last_time s ≡ Some k.time) b.products.rows) (sym stands.admitted)
      (subst (AllByRecursion (λ (k : Kept). k.number + 1 ≡ end_of s → last_time s ≡ Some k.time)) (sym stands.rows)
      (let e : 0 + length s.rows ≡ end_of s = omega arith in subst (λ (n : ℕ). AllByRecursion (λ (k : Kept). k.number + 1 ≡ n → last_time s ≡ Some k.time) (map kept (queued s))) e (newest_from 0 None s.rows))));
  placed = placed_all b.arena.items b.products.rows sound.stored;
  stored = sound.stored;
  apart =
      front_apart b.arena.len b.products.rows (map reserved_region (open_kept b.products.reservations))
      (subst (λ (a : ℕ). LieApart a (occupied_in b.products)) (sym sound.arena) sound.apart);
  differ = differ;
  no_cursor = refl;
  no_reservation = refl;
}
  where
    by_last : (last : Option ℕ) → last ≡ last_time s → IfSome last (λ l. l ≤ GREATEST_INSTANT) → IfSome last (λ l. (l ≤ GREATEST_INSTANT) × (0 < b.admitted))
    by_last None e small = tt
    by_last (Some last) e small = (small, omega (arith, some_last s.rows last e, stands.admitted))
