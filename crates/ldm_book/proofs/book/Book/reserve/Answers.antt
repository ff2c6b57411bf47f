use Rattle.std.proofs.Common.{◌≡◌, ◌∙◌, ℕ, ◌+◌, ◌<◌, ◌≤◌, true, List, take, length, Some, None, refl, sym, ap, subst, arith}
use Rattle.std.specs.Prelude.{is_none, is_some, position}
use Rattle.std.specs.List.{Contains}
use Rattle.ldm_model.specs.Product.{extent_of}
use Rattle.ldm_model.specs.declared.event.Reply.TheVariants as reply
use Rattle.ldm_model.specs.Reserve.{reserve as reserve_of}
use Rattle.ldm_cursor.specs.Places.{count_held}
use Rattle.ldm_book.specs.Answers.{Follows}
use Rattle.ldm_book.specs.View.{BookView, Kept, Reservations, filled_bytes, open_kept, stored_bytes}
use Rattle.ldm_book.specs.Lookup.{kept_with, look_kept}
use Rattle.ldm_book.specs.Products.{AreRising, LieApart, reservation_at, room_for}
use Rattle.ldm_book.specs.Readers.{held_products, occupied, products, unheld_numbers, without_oldest}
use Rattle.ldm_book.specs.Making.{reserved_at}
use Rattle.ldm_book.specs.Sound.{view_of}
use Rattle.ldm_book.specs.Stands.{StandsFor}
use Rattle.ldm_book.specs.Stored.{AreReserved}
use Rattle.ldm_book.proofs.BookLemmas.{sound_reserved}
use Rattle.ldm_book.proofs.CountLemmas.{count-stands}
use Rattle.ldm_book.proofs.ExpireLemmas.{contains_all}
use Rattle.ldm_book.proofs.FillLemmas.{least_empty_at, reserve-after, reserve-all, reserve-duplicate, reserve-keeps, reserve-locked, reserve-stays, reserve-too_big}
use Rattle.ldm_book.proofs.InsertLemmas.{keeps-same}
use Rattle.ldm_book.proofs.IsTimedLemmas.{timed_below}
use Rattle.ldm_book.proofs.RoomLemmas.{alike_all}
use Rattle.ldm_book.proofs.book.Book.reserve.Goals as goal

pub returns-then-need-arena-clause-answers : goal.returns-then-need-arena-clause-answers
returns-then-need-arena-clause-answers c = λ s stands.
    let arena = ap (λ (b : BookView). b.arena) c.self.view_is in
    rw (c.extent-need.ensures, c.len-arena.ensures, arena)
    (reserve-too_big c.args.self.now s stands c.args.actor c.args.info.now (omega (arith, c.extent-need.ensures, c.len-arena.ensures, arena, c.if-need-arena.true)))

pub returns-in-Queued-clause-answers : goal.returns-in-Queued-clause-answers
returns-in-Queued-clause-answers c = λ s stands.
    let arena = ap (λ (b : BookView). b.arena) c.self.view_is in
    let rows = ap (λ (b : BookView). b.rows) c.self.view_is in
    let found = rw c.signature.ensures at c.in-Queued.ensures ∙ ap (λ (ks : List Kept). look_kept (kept_with c.args.info.now.signature ks)) rows in
    reserve-duplicate c.args.self.now s stands c.args.actor c.args.info.now (omega (arith, c.extent-need.ensures, c.len-arena.ensures, arena, c.if-need-arena.false)) c.in-Queued.n c.in-Queued.time
    (sym found)

pub returns-in_default-first_empty-clause-answers : goal.returns-in_default-first_empty-clause-answers
returns-in_default-first_empty-clause-answers c = λ s stands.
    let arena = ap (λ (b : BookView). b.arena) c.self.view_is in
    let rows = ap (λ (b : BookView). b.rows) c.self.view_is in
    let absent = rw c.signature.ensures at c.in_default.ensures ∙ ap (λ (ks : List Kept). look_kept (kept_with c.args.info.now.signature ks)) rows in
    reserve-all c.args.self.now s stands c.args.actor c.args.info.now (omega (arith, c.extent-need.ensures, c.len-arena.ensures, arena, c.if-need-arena.false)) (sym absent)
    (c.in_default-first_empty.ensures ∙ ap (λ (b : BookView). position is_none b.reservations) c.self.view_is)

pub returns-in_default-make_room-clause-answers : goal.returns-in_default-make_room-clause-answers
returns-in_default-make_room-clause-answers c = λ s stands.
    let book = c.args.self.now in
    let need = extent_of c.args.info.now in
    let same : c.make_room.new.self ≡ book = c.in_default-make_room.ensures.made in
    let rows = ap (λ (b : BookView). b.rows) c.self.view_is in
    let arena = ap (λ (b : BookView). b.arena) c.self.view_is in
    let absent = rw c.signature.ensures at c.in_default.ensures ∙ ap (λ (ks : List Kept). look_kept (kept_with c.args.info.now.signature ks)) rows in
    let least = c.in-Some.ensures ∙ ap (λ (b : BookView). position is_none b.reservations) c.self.view_is in
    let there = subst (λ (b : BookView). StandsFor b s) (sym c.self.view_is) stands in
    let counted = count-stands (view_of c.self.inside) s there (timed_below c.self.inside.last c.self.inside.admitted c.self.inside.products.rows c.self.invariant.timed) c.self.invariant.readers in
    let count = c.count_held.ensures ∙ ap (λ (b : BookView). count_held b.cursors + length (open_kept b.reservations)) (same ∙ sym c.self.view_is) ∙ counted in
    let none = ap (λ (n : ℕ). is_some (room_for (held_products book) n)) (sym c.extent-need.ensures) ∙ c.in_default-make_room.ensures.locked refl in
    subst (λ (b : BookView). Follows (reply.Locked c.count_held.result) b (reserve_of s c.args.actor c.args.info.now)) (sym same)
    (reserve-locked book s stands c.args.actor c.args.info.now (subst (λ (b : BookView). AreRising b.rows) c.self.view_is c.self.invariant.rising) (omega arith)
    (omega (arith, c.extent-need.ensures, c.len-arena.ensures, arena, c.if-need-arena.false)) (sym absent) c.in-Some.r least none c.count_held.result count)

pub put_reserved-requires-clause-empty : goal.put_reserved-requires-clause-empty
put_reserved-requires-clause-empty c =
    let book = c.args.self.now in
    let made = c.in-Some-make_room.ensures.made in
    let alike = alike_all (take c.in-Some-make_room.evicted (unheld_numbers book)) book in
    let least = c.in-Some.ensures ∙ ap (λ (b : BookView). position is_none b.reservations) c.self.view_is in
    ap (λ (rs : Reservations). reservation_at rs c.in-Some.r) (ap (λ (b : BookView). b.reservations) made.new_is ∙ alike.reservations) ∙ least_empty_at book.reservations c.in-Some.r least

pub put_reserved-requires-clause-room : goal.put_reserved-requires-clause-room
put_reserved-requires-clause-room c = subst (λ (n : ℕ). is_some (room_for (products c.make_room.new.self) n) ≡ true) c.extent-need.ensures c.in-Some-make_room.ensures.made.room

pub returns-clause-answers : goal.returns-clause-answers
returns-clause-answers c = λ s stands.
    let book = c.args.self.now in
    let info = c.args.info.now in
    let need = extent_of info in
    let made = c.in-Some-make_room.ensures.made in
    let j = c.in-Some-make_room.evicted in
    let r = c.in-Some.r in
    let puts = c.put_reserved.ensures.put in
    let rows = ap (λ (b : BookView). b.rows) c.self.view_is in
    let arena = ap (λ (b : BookView). b.arena) c.self.view_is in
    let absent = rw c.signature.ensures at c.in_default.ensures ∙ ap (λ (ks : List Kept). look_kept (kept_with info.signature ks)) rows in
    let least = c.in-Some.ensures ∙ ap (λ (b : BookView). position is_none b.reservations) c.self.view_is in
    let after = without_oldest j book in
    let needed : (i : ℕ) → i < j → room_for (products (without_oldest i book)) need ≡ None =
    λ i h. ap (λ (n : ℕ). room_for (products (without_oldest i book)) n) (sym c.extent-need.ensures) ∙ made.needed i h in
    let room : room_for (products after) need ≡ Some puts.place = ap (λ (b : BookView). room_for (products b) need) (sym made.new_is) ∙ puts.room in
    let new_is : c.put_reserved.new.self ≡ reserved_at after c.args.actor r info puts.place = puts.new_is ∙ ap (λ (b : BookView). reserved_at b c.args.actor r info puts.place) made.new_is in
    let alike = alike_all (take j (unheld_numbers book)) book in
    let apart : LieApart book.arena (occupied (reserved_at after c.args.actor r info puts.place)) =
    subst (λ (a : ℕ). LieApart a (occupied (reserved_at after c.args.actor r info puts.place))) alike.arena
    (subst (λ (b : BookView). LieApart b.arena (occupied b)) new_is c.put_reserved.ensures.apart) in
    let bytes = ap (λ (b : BookView). length b.bytes) made.new_is in
    let same_bytes = ap (λ (bs : List ℕ). length bs) alike.bytes in
    let inside : puts.place + need ≤ length book.bytes = omega (arith, puts.within, puts.sized, bytes, same_bytes) in
    let many = ap (λ (b : BookView). length b.reservations) made.new_is in
    let same_many = ap (λ (rs : Reservations). length rs) alike.reservations in
    subst (λ (b : BookView). Follows (reply.Reserved r j) b (reserve_of s c.args.actor info)) (sym new_is)
    (reserve-after book s stands c.args.actor info (subst (λ (b : BookView). AreRising b.rows) c.self.view_is c.self.invariant.rising)
    (omega (arith, c.extent-need.ensures, c.len-arena.ensures, arena, c.if-need-arena.false)) (sym absent) r least
    (omega (arith, puts.bound, many, same_many)) j puts.place made.free needed room c.put_reserved.ensures.fits inside
    (sound_reserved c.self.inside c.self.invariant book c.self.view_is) apart)

pub returns-clause-places : goal.returns-clause-places
returns-clause-places c = λ k in_new below.
    let book = c.args.self.now in
    let info = c.args.info.now in
    let made = c.in-Some-make_room.ensures.made in
    let puts = c.put_reserved.ensures.put in
    let mid = c.make_room.new.self in
    let evicted = take c.in-Some-make_room.evicted (unheld_numbers book) in
    let alike = alike_all evicted book in
    let apart = subst (λ (b : BookView). LieApart b.arena (occupied b)) puts.new_is c.put_reserved.ensures.apart in
    let there : Contains mid.rows k = subst (λ (b : BookView). Contains b.rows k) puts.new_is in_new in
    record {
      queued = contains_all evicted book k (subst (λ (b : BookView). Contains b.rows k) made.new_is there);
      bytes =
          ap (λ (b : BookView). stored_bytes b.bytes k) puts.new_is
          ∙ reserve-stays mid c.args.actor c.in-Some.r info puts.place c.put_reserved.ensures.fits (omega (arith, puts.within, puts.sized)) puts.bound apart k there
          ∙ ap (λ (bs : List ℕ). stored_bytes bs k) (ap (λ (b : BookView). b.bytes) made.new_is ∙ alike.bytes);
    }

pub returns-clause-reserved : goal.returns-clause-reserved
returns-clause-reserved c = λ k before after was now.
    let book = c.args.self.now in
    let info = c.args.info.now in
    let made = c.in-Some-make_room.ensures.made in
    let puts = c.put_reserved.ensures.put in
    let mid = c.make_room.new.self in
    let alike = alike_all (take c.in-Some-make_room.evicted (unheld_numbers book)) book in
    let rs = ap (λ (b : BookView). b.reservations) made.new_is ∙ alike.reservations in
    let bytes = ap (λ (b : BookView). b.bytes) made.new_is ∙ alike.bytes in
    let apart = subst (λ (b : BookView). LieApart b.arena (occupied b)) puts.new_is c.put_reserved.ensures.apart in
    let least = c.in-Some.ensures ∙ ap (λ (b : BookView). position is_none b.reservations) c.self.view_is in
    let none = ap (λ (xs : Reservations). reservation_at xs c.in-Some.r) rs ∙ least_empty_at book.reservations c.in-Some.r least in
    let reserved = sound_reserved c.self.inside c.self.invariant book c.self.view_is in
    let one = reserve-keeps mid c.args.actor c.in-Some.r info puts.place c.put_reserved.ensures.fits (omega (arith, puts.within, puts.sized)) puts.bound apart none
    (subst (λ (bs : List ℕ). AreReserved bs mid.reservations) (sym bytes) (subst (λ (xs : Reservations). AreReserved book.bytes xs) (sym rs) reserved)) k before after
    (ap (λ (xs : Reservations). reservation_at xs k) rs ∙ was) (ap (λ (b : BookView). reservation_at b.reservations k) (sym puts.new_is) ∙ now) in
    record {
      actor = one.actor;
      product = one.product;
      filled = one.filled;
      bytes = ap (λ (b : BookView). filled_bytes b.bytes before) puts.new_is ∙ one.bytes ∙ ap (λ (bs : List ℕ). filled_bytes bs before) bytes;
    }

-- where nothing changes
pub returns-then-need-arena-clause-reserved : goal.returns-then-need-arena-clause-reserved
returns-then-need-arena-clause-reserved c = keeps-same c.args.self.now c.args.self.now refl refl

pub returns-in-Queued-clause-reserved : goal.returns-in-Queued-clause-reserved
returns-in-Queued-clause-reserved c = keeps-same c.args.self.now c.args.self.now refl refl

pub returns-in_default-first_empty-clause-reserved : goal.returns-in_default-first_empty-clause-reserved
returns-in_default-first_empty-clause-reserved c = keeps-same c.args.self.now c.args.self.now refl refl

pub returns-in_default-make_room-clause-reserved : goal.returns-in_default-make_room-clause-reserved
returns-in_default-make_room-clause-reserved c =
    let same = c.in_default-make_room.ensures.made in
    keeps-same c.args.self.now c.make_room.new.self (ap (λ (b : BookView). b.reservations) same) (ap (λ (b : BookView). b.bytes) same)

pub returns-in_default-make_room-clause-places : goal.returns-in_default-make_room-clause-places
returns-in_default-make_room-clause-places c = λ k in_new below.
    let same = c.in_default-make_room.ensures.made in
    record { queued = subst (λ (b : BookView). Contains b.rows k) same in_new; bytes = ap (λ (b : BookView). stored_bytes b.bytes k) same }
