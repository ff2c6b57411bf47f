-- Closing all that is open: after a legal history each open place belongs to an actor that can call, so the calls that close it
-- can be made, and nothing is open after them.
use Rattle.std.proofs.Common.{◌≡◌, ◌∙◌, ℕ, zero, suc, ◌+◌, ◌<◌, ◌≤◌, Bool, true, false, cond, List, [], ◌∷◌, ◌++◌, length, map, set, take, replicate, find, Option, Some, None, refl, sym, ap, subst, arith, append-nil}
use Rattle.std.specs.Prelude.{◌==◌, nat_lt, slice_get, slice_index_or}
use Rattle.std.specs.List.{AllByRecursion}
use Rattle.std.specs.Option.{IfSome, option_map}
use Rattle.std.proofs.lemmas.Bool.{cond_both, eq-eqb}
use Rattle.std.proofs.lemmas.List.{length-map, length-set}
use Rattle.ldm_types.specs.Info.{Metadata}
use Rattle.ldm_model.specs.declared.event.Event.{Event}
use Rattle.ldm_model.specs.declared.event.Event.TheVariants as event
use Rattle.ldm_model.specs.declared.event.Entry.{Entry}
use Rattle.ldm_model.specs.declared.event.Reply.TheVariants as reply
use Rattle.ldm_model.specs.declared.event.Start.{Start}
use Rattle.ldm_model.specs.Product.{Product, extent_of}
use Rattle.ldm_model.specs.State.{State, Row, Cursor, Queued, Reservation, empty, queued}
use Rattle.ldm_model.specs.Outcome.{Outcome, unchanged}
use Rattle.ldm_model.specs.Evict.{evict, evict_all, evict_row, unheld, with_loss}
use Rattle.ldm_model.specs.Insert.{after_evicting, insert}
use Rattle.ldm_model.specs.Room.{fit_in}
use Rattle.ldm_model.specs.Cursor.{awaits, cursor_at, cursor_of, if_owned, least_empty, on_cursor, on_held, with_place}
use Rattle.ldm_model.specs.Open.{open_at, open_cursor, open_from, open_position}
use Rattle.ldm_model.specs.Step.{step, step_free, step_held, step_to}
use Rattle.ldm_model.specs.Read.{part_of, read, read_row}
use Rattle.ldm_model.specs.Release.{close, release}
use Rattle.ldm_model.specs.Look.{look}
use Rattle.ldm_model.specs.Tally.{tally}
use Rattle.ldm_model.specs.Stat.{stat}
use Rattle.ldm_model.specs.Expire.{expire}
use Rattle.ldm_model.specs.Reserve.{reserve}
use Rattle.ldm_model.specs.Fill.{discard, fill}
use Rattle.ldm_model.specs.Commit.{commit}
use Rattle.ldm_model.specs.Reservation.{if_reserved_by, new_reservation, on_reservation, with_bytes, with_reservation}
use Rattle.ldm_model.specs.Next.{next}
use Rattle.ldm_model.specs.History.{after_entries, next_entry, IsAnswered, IsLegalFrom}
use Rattle.ldm_model.proofs.Cases.{by_expire, by_insert}
use Rattle.ldm_model.proofs.ReservationCases.{by_commit, by_discard, by_fill, by_reserve, reservation-owned}
use Rattle.ldm_book.specs.Reopening.{closes, discards}

-- the owner of an open place can call
abbrev pub IsOwned : Option Cursor → Type 0
IsOwned place = IfSome place (λ cursor. cursor.actor < 64)

abbrev pub IsReservedBy : Option Reservation → Type 0
IsReservedBy place = IfSome place (λ v. v.actor < 64)

pub record AreOwned (s : State) : Type 0 where
  pub cursors : AllByRecursion IsOwned s.cursors
  pub many : length s.cursors ≡ 64
  pub reservations : AllByRecursion IsReservedBy s.reservations
  pub places : length s.reservations ≡ 64

-- one of the places is set, or each changed
set_all : {X : Type 0} (P : X → Type 0) (xs : List X) (k : ℕ) (x : X) → AllByRecursion P xs → P x → AllByRecursion P (set xs k x)
set_all P [] k x all new = tt
set_all P (y ∷ ys) zero x all new = (new, all.1)
set_all P (y ∷ ys) (suc k) x all new = (all.0, set_all P ys k x all.1 new)

one_of : (places : List (Option Cursor)) (k : ℕ) → AllByRecursion IsOwned places → IsOwned (slice_index_or places k None)
one_of [] k all = tt
one_of (place ∷ places) zero all = all.0
one_of (place ∷ places) (suc k) all = one_of places k all.1

lost_one : (n feed : ℕ) (place : Option Cursor) → IsOwned place → IsOwned (with_loss n feed place)
lost_one n feed None own = tt
lost_one n feed (Some cursor) own = by_test _
  where
    by_test : (b : Bool) → IsOwned (cond b (Some (record cursor { untold = cursor.untold ++ n ∷ [] })) (Some cursor))
    by_test true = own
    by_test false = own

lost_all : (n feed : ℕ) (places : List (Option Cursor)) → AllByRecursion IsOwned places → AllByRecursion IsOwned (map (with_loss n feed) places)
lost_all n feed [] all = tt
lost_all n feed (place ∷ places) all = (lost_one n feed place all.0, lost_all n feed places all.1)

none_all : {X : Type 0} (P : X → Type 0) (n : ℕ) → AllByRecursion (λ (place : Option X). IfSome place P) (replicate n None)
none_all P zero = tt
none_all P (suc n) = (tt, none_all P n)

-- rows are evicted
owned_evict : (s : State) (n : ℕ) → AreOwned s → AreOwned (evict s n)
owned_evict s n own = by_row (slice_get s.rows n)
  where
    by_row : (row : Option Row) → AreOwned (evict_row s n row)
    by_row None = own
    by_row (Some row) = record {
      cursors = lost_all n row.product.info.feed s.cursors own.cursors;
      many = length-map s.cursors (with_loss n row.product.info.feed) ∙ own.many;
      reservations = own.reservations;
      places = own.places;
    }

owned_evict_all : (s : State) (ns : List ℕ) → AreOwned s → AreOwned (evict_all s ns)
owned_evict_all s [] own = own
owned_evict_all s (n ∷ ns) own = owned_evict_all (evict s n) ns (owned_evict s n own)

-- a place is changed
owned_place : (s : State) (k : ℕ) (place : Option Cursor) → AreOwned s → IsOwned place → AreOwned (with_place s k place)
owned_place s k place own new = record {
  cursors = set_all IsOwned s.cursors k place own.cursors new;
  many = length-set s.cursors k place ∙ own.many;
  reservations = own.reservations;
  places = own.places;
}

owned_reservation : (s : State) (r : ℕ) (place : Option Reservation) → AreOwned s → IsReservedBy place → AreOwned (with_reservation s r place)
owned_reservation s r place own new = record {
  cursors = own.cursors;
  many = own.many;
  reservations = set_all IsReservedBy s.reservations r place own.reservations new;
  places = length-set s.reservations r place ∙ own.places;
}

-- so it is after each call
abbrev Leaves : Outcome → Type 0
Leaves o = AreOwned o.state

module _ (s : State) (own : AreOwned s) (actor : ℕ) (small : actor < 64) where
  its_cursor : (k : ℕ) (act : Cursor → Outcome) → ((cursor : Cursor) → cursor.actor < 64 → Leaves (act cursor)) → Leaves (on_cursor s (cursor_of s actor k) act)
  its_cursor k act some = by_place (cursor_at s k) (one_of s.cursors k own.cursors)
    where
      by_test : (cursor : Cursor) (b : Bool) → cursor.actor < 64 → Leaves (on_cursor s (cond b (Some cursor) None) act)
      by_test cursor true at = some cursor at
      by_test cursor false at = own

      by_place : (o : Option Cursor) → IsOwned o → Leaves (on_cursor s (if_owned actor o) act)
      by_place None at = own
      by_place (Some cursor) at = by_test cursor (cursor.actor == actor) at

  its_held : (o : Option ℕ) (act : ℕ → Outcome) → ((n : ℕ) → Leaves (act n)) → Leaves (on_held s o act)
  its_held None act some = own
  its_held (Some n) act some = some n

  after_open : (feed : ℕ) (start : Start) → Leaves (open_cursor s actor feed start)
  unfolding open_cursor
  after_open feed start = by_least (least_empty s.cursors)
    where
      by_position : (k : ℕ) (at : Option ℕ) → Leaves (open_from s actor feed k at)
      by_position k None = own
      by_position k (Some at) = owned_place s k (Some _) own small

      by_least : (o : Option ℕ) → Leaves (open_at s actor feed start o)
      by_least None = own
      by_least (Some k) = by_position k (open_position s start)

  after_step : (k : ℕ) → Leaves (step s actor k)
  unfolding step
  after_step k = its_cursor k _ (λ cursor at. by_held cursor at cursor.held)
    where
      by_next : (cursor : Cursor) → cursor.actor < 64 → (q : Option Queued) → Leaves (step_to s k cursor q)
      by_next cursor at None = owned_place s k (Some _) own at
      by_next cursor at (Some q) = owned_place s k (Some _) own at

      by_untold : (cursor : Cursor) → cursor.actor < 64 → (untold : List ℕ) → Leaves (step_free s k cursor untold)
      by_untold cursor at [] = by_next cursor at (find (awaits cursor) (queued s))
      by_untold cursor at (n ∷ ns) = owned_place s k (Some _) own at

      by_held : (cursor : Cursor) → cursor.actor < 64 → (held : Option ℕ) → Leaves (step_held s k cursor held)
      by_held cursor at (Some n) = own
      by_held cursor at None = by_untold cursor at cursor.untold

  after_read : (k offset len : ℕ) → Leaves (read s actor k offset len)
  unfolding read
  after_read k offset len = its_cursor k _ (λ cursor at. its_held cursor.held _ (λ n. by_row (slice_get s.rows n)))
    where
      by_row : (row : Option Row) → Leaves (read_row s row offset len)
      by_row None = own
      by_row (Some row) = cond_both (nat_lt row.product.info.size offset) (unchanged s (reply.BadOffset row.product.info.size)) (unchanged s (reply.Bytes (part_of row.product offset len))) Leaves
          (λ e. own) (λ e. own)

  after_release : (k : ℕ) → Leaves (release s actor k)
  unfolding release
  after_release k = its_cursor k _ (λ cursor at. its_held cursor.held _ (λ n. owned_place s k (Some _) own at))

  after_close : (k : ℕ) → Leaves (close s actor k)
  unfolding close
  after_close k = its_cursor k _ (λ cursor at. owned_place s k None own tt)

  after_tally : (k : ℕ) → Leaves (tally s actor k)
  unfolding tally
  after_tally k = its_cursor k _ (λ cursor at. own)

  after_look : (signature : List ℕ) → Leaves (look s signature)
  unfolding look
  after_look signature = own

  after_stat : Leaves (stat s)
  unfolding stat
  after_stat = own

  after_insert : (now : ℕ) (p : Product) → Leaves (insert s now p)
  after_insert now p = by_insert s Leaves now p (λ r no. own)
      (λ j e. (let evicted = owned_evict_all s (take j (unheld s)) own in record { cursors = evicted.cursors; many = evicted.many; reservations = evicted.reservations; places = evicted.places }))

  after_expire : Leaves (expire s)
  after_expire = by_expire s Leaves own (λ n ns e. owned_evict s n own)

  after_reserve : (info : Metadata) → Leaves (reserve s actor info)
  after_reserve info = by_reserve s Leaves actor info (record {
    too_big = own;
    duplicate = λ n. own;
    all_reserved = own;
    locked = λ held. own;
    reserved = λ r j place e. owned_reservation (after_evicting s j) r (option_map (new_reservation actor info) (fit_in (after_evicting s j) (extent_of info))) (owned_evict_all s (take j (unheld s)) own) (by_fit (fit_in (after_evicting s j) (extent_of info)));
  })
    where
      by_fit : (o : Option ℕ) → IsReservedBy (option_map (new_reservation actor info) o)
      by_fit None = tt
      by_fit (Some place) = small

  after_fill : (r : ℕ) (bytes : List ℕ) → Leaves (fill s actor r bytes)
  after_fill r bytes = by_fill s Leaves actor r bytes (record {
    no_reservation = λ e. own;
    overfill = λ reservation e. own;
    filled = λ reservation e fits. owned_reservation s r (Some (with_bytes bytes reservation)) own
        (let mine = (reservation-owned actor (slice_index_or s.reservations r None) reservation e).1 in omega (arith, mine, small));
  })

  after_commit : (r now : ℕ) → Leaves (commit s actor r now)
  after_commit r now = by_commit s Leaves actor r now (record {
    no_reservation = λ e. own;
    unfilled = λ reservation e. own;
    duplicate = λ reservation e n. owned_reservation s r None own tt;
    time_end = λ reservation e. owned_reservation s r None own tt;
    committed = λ reservation e whole.
        (let ended = owned_reservation s r None own tt in record { cursors = ended.cursors; many = ended.many; reservations = ended.reservations; places = ended.places });
  })

  after_discard : (r : ℕ) → Leaves (discard s actor r)
  after_discard r = by_discard s Leaves actor r (λ e. own) (λ reservation e. owned_reservation s r None own tt)

  after_event : (e : Event) → Leaves (next s actor e)
  after_event (event.Insert now info body) = after_insert now (record { info = info; body = body })
  after_event (event.OpenCursor feed start) = after_open feed.0 start
  after_event (event.Step k) = after_step k
  after_event (event.Read k offset len) = after_read k offset len
  after_event (event.Release k) = after_release k
  after_event (event.Close k) = after_close k
  after_event (event.Look signature) = after_look signature.0
  after_event event.Expire = after_expire
  after_event (event.Tally k) = after_tally k
  after_event event.Stat = after_stat
  after_event (event.Reserve info) = after_reserve info
  after_event (event.Fill r bytes) = after_fill r bytes
  after_event (event.Commit r now) = after_commit r now
  after_event (event.Discard r) = after_discard r

owned_from : (s : State) (entries : List Entry) → AreOwned s → IsLegalFrom s entries → AreOwned (after_entries s entries)
owned_from s [] own legal = own
owned_from s (entry ∷ entries) own legal = owned_from (next_entry s entry).state entries (after_event s own entry.actor legal.0.actor entry.event) legal.1

pub owned_after : (arena slots : ℕ) (history : List Entry) → IsLegalFrom (empty arena slots) history → AreOwned (after_entries (empty arena slots) history)
owned_after arena slots history legal =
    owned_from (empty arena slots) history
    (record { cursors = none_all (λ (cursor : Cursor). cursor.actor < 64) 64; many = refl; reservations = none_all (λ (v : Reservation). v.actor < 64) 64; places = refl }) legal

-- ---- closing what is open, place by place

-- the places in front are empty
more_none : {X : Type 0} (k : ℕ) (places : List (Option X)) → replicate k None ++ None ∷ places ≡ replicate (k + 1) None ++ places
more_none zero places = refl
more_none {X} (suc k) places =
    let n : suc (k + 1) ≡ suc k + 1 = omega arith in
    ap (λ (rest : List (Option X)). None ∷ rest) (more_none k places) ∙ ap (λ (m : ℕ). replicate m None ++ places) n

set_none : {X : Type 0} (k : ℕ) (place : Option X) (places : List (Option X)) → set (replicate k None ++ place ∷ places) k None ≡ replicate (k + 1) None ++ places
set_none zero place places = refl
set_none {X} (suc k) place places =
    let n : suc (k + 1) ≡ suc k + 1 = omega arith in
    ap (λ (rest : List (Option X)). None ∷ rest) (set_none k place places) ∙ ap (λ (m : ℕ). replicate m None ++ places) n

at_front : {X : Type 0} (k : ℕ) (place : Option X) (places : List (Option X)) → slice_index_or (replicate k None ++ place ∷ places) k None ≡ place
at_front zero place places = refl
at_front (suc k) place places = at_front k place places

-- these entries can be made from a state on, and lead to another
pub record Leads (s to : State) (entries : List Entry) : Type 0 where
  pub legal : IsLegalFrom s entries
  pub state : after_entries s entries ≡ to

-- with an entry in front
leads_more : (s middle to : State) (entry : Entry) (entries : List Entry) → IsAnswered s entry → (next_entry s entry).state ≡ middle → Leads middle to entries → Leads s to (entry ∷ entries)
leads_more s middle to entry entries answered is leads = record {
  legal = (answered, subst (λ (m : State). IsLegalFrom m entries) (sym is) leads.legal);
  state = ap (λ (m : State). after_entries m entries) is ∙ leads.state;
}

close_own : (s : State) (k : ℕ) (cursor : Cursor) → cursor_at s k ≡ Some cursor → close s cursor.actor k ≡ record { reply = reply.Closed; state = with_place s k None }
unfolding close
close_own s k cursor at =
    let done : Outcome = record { reply = reply.Closed; state = with_place s k None } in
    let act = λ (c : Cursor). done in
    ap (λ (o : Option Cursor). on_cursor s (if_owned cursor.actor o) act) at
    ∙ ap (λ (b : Bool). on_cursor s (cond b (Some cursor) None) act) (eq-eqb cursor.actor cursor.actor refl)

discard_own : (s : State) (r : ℕ) (v : Reservation) → slice_index_or s.reservations r None ≡ Some v → discard s v.actor r ≡ record { reply = reply.Discarded; state = with_reservation s r None }
unfolding discard
discard_own s r v at =
    let done : Outcome = record { reply = reply.Discarded; state = with_reservation s r None } in
    let act = λ (c : Reservation). done in
    ap (λ (o : Option Reservation). on_reservation s (if_reserved_by v.actor o) act) at
    ∙ ap (λ (b : Bool). on_reservation s (cond b (Some v) None) act) (eq-eqb v.actor v.actor refl)

pub closes_all : (places : List (Option Cursor)) (k : ℕ) (s : State) → s.cursors ≡ replicate k None ++ places → AllByRecursion IsOwned places → k + length places ≤ 64
    → Leads s (record s { cursors = replicate (k + length places) None }) (closes k places)
closes_all [] k s is own within = record {
  legal = tt;
  state = (let n : k ≡ k + 0 = omega arith in ap (λ (cs : List (Option Cursor)). record s { cursors = cs }) (is ∙ append-nil (replicate k None) ∙ ap (λ (m : ℕ). replicate m None) n));
}
closes_all (None ∷ places) k s is own within =
    let n : k + 1 + length places ≡ k + suc (length places) = omega arith in
    subst (λ (m : ℕ). Leads s (record s { cursors = replicate m None }) (closes (k + 1) places)) n (closes_all places (k + 1) s (is ∙ more_none k places) own.1 (omega arith))
closes_all (Some cursor ∷ places) k s is own within =
    let n : k + 1 + length places ≡ k + suc (length places) = omega arith in
    let at : cursor_at s k ≡ Some cursor = ap (λ (cs : List (Option Cursor)). slice_index_or cs k None) is ∙ at_front k (Some cursor) places in
    let closed = close_own s k cursor at in
    let left : set s.cursors k None ≡ replicate (k + 1) None ++ places = ap (λ (cs : List (Option Cursor)). set cs k None) is ∙ set_none k (Some cursor) places in
    let rest = closes_all places (k + 1) (with_place s k None) left own.1 (omega arith) in
    leads_more s (with_place s k None) (record s { cursors = replicate (k + suc (length places)) None }) (record { actor = cursor.actor; event = event.Close k; reply = reply.Closed }) (closes (k + 1) places)
    (record { actor = own.0; possible = omega arith; reply = sym (ap (λ (o : Outcome). o.reply) closed) })
    (ap (λ (o : Outcome). o.state) closed)
    (subst (λ (m : ℕ). Leads (with_place s k None) (record s { cursors = replicate m None }) (closes (k + 1) places)) n rest)

pub discards_all : (places : List (Option Reservation)) (r : ℕ) (s : State) → s.reservations ≡ replicate r None ++ places → AllByRecursion IsReservedBy places → r + length places ≤ 64
    → Leads s (record s { reservations = replicate (r + length places) None }) (discards r places)
discards_all [] r s is own within = record {
  legal = tt;
  state = (let n : r ≡ r + 0 = omega arith in ap (λ (vs : List (Option Reservation)). record s { reservations = vs }) (is ∙ append-nil (replicate r None) ∙ ap (λ (m : ℕ). replicate m None) n));
}
discards_all (None ∷ places) r s is own within =
    let n : r + 1 + length places ≡ r + suc (length places) = omega arith in
    subst (λ (m : ℕ). Leads s (record s { reservations = replicate m None }) (discards (r + 1) places)) n (discards_all places (r + 1) s (is ∙ more_none r places) own.1 (omega arith))
discards_all (Some v ∷ places) r s is own within =
    let n : r + 1 + length places ≡ r + suc (length places) = omega arith in
    let at : slice_index_or s.reservations r None ≡ Some v = ap (λ (vs : List (Option Reservation)). slice_index_or vs r None) is ∙ at_front r (Some v) places in
    let ended = discard_own s r v at in
    let left : set s.reservations r None ≡ replicate (r + 1) None ++ places = ap (λ (vs : List (Option Reservation)). set vs r None) is ∙ set_none r (Some v) places in
    let rest = discards_all places (r + 1) (with_reservation s r None) left own.1 (omega arith) in
    leads_more s (with_reservation s r None) (record s { reservations = replicate (r + suc (length places)) None }) (record { actor = v.actor; event = event.Discard r; reply = reply.Discarded })
    (discards (r + 1) places)
    (record { actor = own.0; possible = omega arith; reply = sym (ap (λ (o : Outcome). o.reply) ended) })
    (ap (λ (o : Outcome). o.state) ended)
    (subst (λ (m : ℕ). Leads (with_reservation s r None) (record s { reservations = replicate m None }) (discards (r + 1) places)) n rest)
