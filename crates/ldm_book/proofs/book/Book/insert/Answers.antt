use Rattle.std.proofs.Common.{◌≡◌, ◌∙◌, ℕ, ◌+◌, ◌<◌, ◌≤◌, false, true, List, take, length, Option, Some, None, refl, sym, ap, subst, arith, inl, inr}
use Rattle.std.specs.Prelude.{is_some}
use Rattle.std.specs.List.{Contains}
use Rattle.ldm_model.specs.Product.{Product, extent_of}
use Rattle.ldm_model.specs.declared.event.Reply.TheVariants as reply
use Rattle.ldm_model.specs.Insert.{is_last, time_after as time_of, insert as insert_of}
use Rattle.ldm_cursor.specs.Places.{count_held}
use Rattle.ldm_book.specs.Answers.{Follows}
use Rattle.ldm_book.specs.View.{BookView, Kept, open_kept, stored_bytes}
use Rattle.ldm_book.specs.Lookup.{kept_with, look_kept}
use Rattle.ldm_book.specs.Products.{AreRising, LieApart, room_for}
use Rattle.ldm_book.specs.Readers.{held_products, occupied, products, unheld_numbers, without_oldest}
use Rattle.ldm_book.specs.Making.{IsTimely, grown, new_kept}
use Rattle.ldm_book.specs.Sound.{view_of}
use Rattle.ldm_book.specs.Stands.{StandsFor}
use Rattle.ldm_book.proofs.BookLemmas.{sound_reserved}
use Rattle.ldm_book.proofs.CountLemmas.{count-stands}
use Rattle.ldm_book.proofs.ExpireLemmas.{contains_all, contains_push}
use Rattle.ldm_book.proofs.InsertLemmas.{too_big, duplicate, time_end, locked, admitted_after, keeps-grown, keeps-same, no_product, stays-grown}
use Rattle.ldm_book.proofs.IsTimedLemmas.{timed_below}
use Rattle.ldm_book.proofs.RoomLemmas.{absent_all, alike_all}
use Rattle.ldm_book.proofs.book.Book.insert.Goals as goal

pub returns-then-need-arena-clause-answers : goal.returns-then-need-arena-clause-answers
returns-then-need-arena-clause-answers c = λ s stands.
    let p : Product = record { info = c.args.info.now; body = c.args.body.now } in
    let arena = ap (λ (b : BookView). b.arena) c.self.view_is in
    rw (c.extent-need.ensures, c.len-arena.ensures, arena)
    (too_big c.args.self.now s stands c.args.now p (omega (arith, c.extent-need.ensures, c.len-arena.ensures, arena, c.if-need-arena.true)))

pub returns-in-Queued-clause-answers : goal.returns-in-Queued-clause-answers
returns-in-Queued-clause-answers c = λ s stands.
    let p : Product = record { info = c.args.info.now; body = c.args.body.now } in
    let arena = ap (λ (b : BookView). b.arena) c.self.view_is in
    let rows = ap (λ (b : BookView). b.rows) c.self.view_is in
    let found = rw c.signature.ensures at c.in-Queued.ensures ∙ ap (λ (ks : List Kept). look_kept (kept_with c.args.info.now.signature ks)) rows in
    duplicate c.args.self.now s stands c.args.now p (omega (arith, c.extent-need.ensures, c.len-arena.ensures, arena, c.if-need-arena.false)) c.in-Queued.n c.in-Queued.time (sym found)

pub returns-in_default-time_after-clause-answers : goal.returns-in_default-time_after-clause-answers
returns-in_default-time_after-clause-answers c = λ s stands.
    let p : Product = record { info = c.args.info.now; body = c.args.body.now } in
    let arena = ap (λ (b : BookView). b.arena) c.self.view_is in
    let rows = ap (λ (b : BookView). b.rows) c.self.view_is in
    let last = ap (λ (b : BookView). b.last) c.self.view_is in
    let absent = rw c.signature.ensures at c.in_default.ensures ∙ ap (λ (ks : List Kept). look_kept (kept_with c.args.info.now.signature ks)) rows in
    time_end c.args.self.now s stands c.args.now p (omega (arith, c.extent-need.ensures, c.len-arena.ensures, arena, c.if-need-arena.false)) (sym absent)
    (ap is_last (sym last) ∙ c.in_default-time_after.ensures.time)

pub returns-in_default-make_room-clause-answers : goal.returns-in_default-make_room-clause-answers
returns-in_default-make_room-clause-answers c = λ s stands.
    let book = c.args.self.now in
    let p : Product = record { info = c.args.info.now; body = c.args.body.now } in
    let need = extent_of p.info in
    let same : c.make_room.new.self ≡ book = c.in_default-make_room.ensures.made in
    let rows = ap (λ (b : BookView). b.rows) c.self.view_is in
    let arena = ap (λ (b : BookView). b.arena) c.self.view_is in
    let absent = rw c.signature.ensures at c.in_default.ensures ∙ ap (λ (ks : List Kept). look_kept (kept_with c.args.info.now.signature ks)) rows in
    let last : is_last book.last ≡ false = ap (λ (b : BookView). is_last b.last) (sym c.self.view_is) ∙ c.in-Some.ensures.time.0 in
    let there = subst (λ (b : BookView). StandsFor b s) (sym c.self.view_is) stands in
    let counted = count-stands (view_of c.self.inside) s there (timed_below c.self.inside.last c.self.inside.admitted c.self.inside.products.rows c.self.invariant.timed) c.self.invariant.readers in
    let count = c.count_held.ensures ∙ ap (λ (b : BookView). count_held b.cursors + length (open_kept b.reservations)) (same ∙ sym c.self.view_is) ∙ counted in
    let none = ap (λ (n : ℕ). is_some (room_for (held_products book) n)) (sym c.extent-need.ensures) ∙ c.in_default-make_room.ensures.locked refl in
    subst (λ (b : BookView). Follows (reply.Locked c.count_held.result) b (insert_of s c.args.now p)) (sym same)
    (locked book s stands c.args.now p (subst (λ (b : BookView). AreRising b.rows) c.self.view_is c.self.invariant.rising) (omega arith)
    (omega (arith, c.extent-need.ensures, c.len-arena.ensures, arena, c.if-need-arena.false)) (sym absent) last none c.count_held.result count)

pub put-requires-clause-absent : goal.put-requires-clause-absent
put-requires-clause-absent c =
    let book = c.args.self.now in
    let made = c.in-Some-make_room.ensures.made in
    let rows = ap (λ (b : BookView). b.rows) c.self.view_is in
    let absent = rw c.signature.ensures at c.in_default.ensures ∙ ap (λ (ks : List Kept). look_kept (kept_with c.args.info.now.signature ks)) rows in
    ap (λ (b : BookView). kept_with c.args.info.now.signature b.rows) made.new_is
    ∙ absent_all c.args.info.now.signature (take c.in-Some-make_room.evicted (unheld_numbers book)) book (no_product (kept_with c.args.info.now.signature book.rows) absent)

pub put-requires-clause-timely : goal.put-requires-clause-timely
put-requires-clause-timely c =
    let book = c.args.self.now in
    let made = c.in-Some-make_room.ensures.made in
    let alike = alike_all (take c.in-Some-make_room.evicted (unheld_numbers book)) book in
    subst (λ (o : Option ℕ). IsTimely o c.in-Some.time) (sym (ap (λ (b : BookView). b.last) made.new_is ∙ alike.last))
    (subst (λ (b : BookView). IsTimely b.last c.in-Some.time) c.self.view_is c.in-Some.ensures.timely)

pub put-requires-clause-room : goal.put-requires-clause-room
put-requires-clause-room c = subst (λ (n : ℕ). is_some (room_for (products c.make_room.new.self) n) ≡ true) c.extent-need.ensures c.in-Some-make_room.ensures.made.room

pub returns-clause-answers : goal.returns-clause-answers
returns-clause-answers c = λ s stands.
    let book = c.args.self.now in
    let p : Product = record { info = c.args.info.now; body = c.args.body.now } in
    let need = extent_of p.info in
    let made = c.in-Some-make_room.ensures.made in
    let j = c.in-Some-make_room.evicted in
    let puts = c.put.ensures.put in
    let rows = ap (λ (b : BookView). b.rows) c.self.view_is in
    let arena = ap (λ (b : BookView). b.arena) c.self.view_is in
    let absent = rw c.signature.ensures at c.in_default.ensures ∙ ap (λ (ks : List Kept). look_kept (kept_with c.args.info.now.signature ks)) rows in
    let last : is_last book.last ≡ false = ap (λ (b : BookView). is_last b.last) (sym c.self.view_is) ∙ c.in-Some.ensures.time.0 in
    let time : c.in-Some.time ≡ time_of book.last c.args.now = c.in-Some.ensures.time.1 ∙ ap (λ (b : BookView). time_of b.last c.args.now) c.self.view_is in
    let needed : (i : ℕ) → i < j → room_for (products (without_oldest i book)) need ≡ None =
    λ i h. ap (λ (n : ℕ). room_for (products (without_oldest i book)) n) (sym c.extent-need.ensures) ∙ made.needed i h in
    let room : room_for (products (without_oldest j book)) need ≡ Some puts.place = ap (λ (b : BookView). room_for (products b) need) (sym made.new_is) ∙ puts.room in
    let new_is : c.put.new.self ≡ grown (without_oldest j book) (time_of book.last c.args.now) p.info p.body puts.place =
    puts.new_is ∙ ap (λ (b : BookView). grown b c.in-Some.time p.info p.body puts.place) made.new_is ∙ ap (λ (t : ℕ). grown (without_oldest j book) t p.info p.body puts.place) time in
    let alike = alike_all (take j (unheld_numbers book)) book in
    let apart : LieApart book.arena (occupied (grown (without_oldest j book) (time_of book.last c.args.now) p.info p.body puts.place)) =
    subst (λ (a : ℕ). LieApart a (occupied (grown (without_oldest j book) (time_of book.last c.args.now) p.info p.body puts.place))) alike.arena
    (subst (λ (b : BookView). LieApart b.arena (occupied b)) new_is c.put.ensures.apart) in
    let bytes = ap (λ (b : BookView). length b.bytes) made.new_is in
    let same_bytes = ap (λ (bs : List ℕ). length bs) alike.bytes in
    let inside : puts.place + need ≤ length book.bytes = omega (arith, puts.within, puts.sized, bytes, same_bytes) in
    let follows =
    admitted_after book s stands c.args.now p (subst (λ (b : BookView). AreRising b.rows) c.self.view_is c.self.invariant.rising)
    (omega (arith, c.extent-need.ensures, c.len-arena.ensures, arena, c.if-need-arena.false)) (sym absent) last j puts.place made.free needed room c.put.ensures.fits c.requires inside
    (sound_reserved c.self.inside c.self.invariant book c.self.view_is) apart in
    let admitted = ap (λ (b : BookView). b.admitted) c.self.view_is in
    subst (λ (b : BookView). Follows (reply.Admitted c.self.inside.admitted c.in-Some.time j) b (insert_of s c.args.now p)) (sym new_is)
    (subst (λ (t : ℕ). Follows (reply.Admitted c.self.inside.admitted t j) (grown (without_oldest j book) (time_of book.last c.args.now) p.info p.body puts.place) (insert_of s c.args.now p))
    (sym time)
    (subst (λ (n : ℕ). Follows (reply.Admitted n (time_of book.last c.args.now) j) (grown (without_oldest j book) (time_of book.last c.args.now) p.info p.body puts.place) (insert_of s c.args.now p))
    (sym admitted) follows))

pub returns-clause-places : goal.returns-clause-places
returns-clause-places c = λ k in_new below.
    let book = c.args.self.now in
    let p : Product = record { info = c.args.info.now; body = c.args.body.now } in
    let made = c.in-Some-make_room.ensures.made in
    let puts = c.put.ensures.put in
    let evicted = take c.in-Some-make_room.evicted (unheld_numbers book) in
    let after = without_oldest c.in-Some-make_room.evicted book in
    let alike = alike_all evicted book in
    let new_is : c.put.new.self ≡ grown after c.in-Some.time p.info p.body puts.place = puts.new_is ∙ ap (λ (b : BookView). grown b c.in-Some.time p.info p.body puts.place) made.new_is in
    let bytes = ap (λ (b : BookView). length b.bytes) made.new_is in
    elim (contains_push after.rows (new_kept after c.in-Some.time p.info puts.place) k (subst (λ (b : BookView). Contains b.rows k) new_is in_new)) [
      | inl there ↦
          stays-grown book after c.put.new.self c.in-Some.time puts.place p k alike.bytes new_is c.put.ensures.fits c.requires
          (omega (arith, puts.within, puts.sized, bytes)) c.put.ensures.apart there (contains_all evicted book k there)
      | inr same ↦ (let number = ap (λ (x : Kept). x.number) same in absurd (omega (arith, number, alike.admitted, below)))
    ]

pub returns-clause-reserved : goal.returns-clause-reserved
returns-clause-reserved c =
    let book = c.args.self.now in
    let p : Product = record { info = c.args.info.now; body = c.args.body.now } in
    let made = c.in-Some-make_room.ensures.made in
    let puts = c.put.ensures.put in
    let after = without_oldest c.in-Some-make_room.evicted book in
    let alike = alike_all (take c.in-Some-make_room.evicted (unheld_numbers book)) book in
    let new_is : c.put.new.self ≡ grown after c.in-Some.time p.info p.body puts.place = puts.new_is ∙ ap (λ (b : BookView). grown b c.in-Some.time p.info p.body puts.place) made.new_is in
    let bytes = ap (λ (b : BookView). length b.bytes) made.new_is in
    keeps-grown book after c.put.new.self c.in-Some.time puts.place p alike.bytes alike.reservations new_is c.put.ensures.fits c.requires
    (omega (arith, puts.within, puts.sized, bytes)) (sound_reserved c.self.inside c.self.invariant book c.self.view_is) c.put.ensures.apart

-- where nothing changes
pub returns-then-need-arena-clause-reserved : goal.returns-then-need-arena-clause-reserved
returns-then-need-arena-clause-reserved c = keeps-same c.args.self.now c.args.self.now refl refl

pub returns-in-Queued-clause-reserved : goal.returns-in-Queued-clause-reserved
returns-in-Queued-clause-reserved c = keeps-same c.args.self.now c.args.self.now refl refl

pub returns-in_default-time_after-clause-reserved : goal.returns-in_default-time_after-clause-reserved
returns-in_default-time_after-clause-reserved c = keeps-same c.args.self.now c.args.self.now refl refl

pub returns-in_default-make_room-clause-reserved : goal.returns-in_default-make_room-clause-reserved
returns-in_default-make_room-clause-reserved c =
    let same = c.in_default-make_room.ensures.made in
    keeps-same c.args.self.now c.make_room.new.self (ap (λ (b : BookView). b.reservations) same) (ap (λ (b : BookView). b.bytes) same)

pub returns-in_default-make_room-clause-places : goal.returns-in_default-make_room-clause-places
returns-in_default-make_room-clause-places c = λ k in_new below.
    let same = c.in_default-make_room.ensures.made in
    record { queued = subst (λ (b : BookView). Contains b.rows k) same in_new; bytes = ap (λ (b : BookView). stored_bytes b.bytes k) same }
