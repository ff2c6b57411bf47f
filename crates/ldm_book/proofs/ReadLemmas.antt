-- What the queue answers where a held product is read, by what the book keeps.
use Rattle.std.proofs.Common.{◌≡◌, ℕ, zero, suc, ◌+◌, ◌-◌, ◌<◌, ◌≤◌, Bool, true, cond, min, List, [], ◌∷◌, take, drop, Option, Some, None, refl, sym, ap, subst, ◌∙◌, arith}
use Rattle.std.specs.Prelude.{slice_get}
use Rattle.std.specs.List.{between, find, list_any}
use Rattle.std.specs.Option.{option_map}
use Rattle.std.proofs.lemmas.Bool.{lt-ltb, le-ltb}
use Rattle.std.proofs.lemmas.List.{drop-drop, take-take}
use Rattle.ldm_model.specs.declared.event.Reply.{Reply}
use Rattle.ldm_model.specs.declared.event.Reply.TheVariants as reply
use Rattle.ldm_model.specs.State.{State, Row, Cursor, Queued, queued}
use Rattle.ldm_model.specs.Outcome.{Outcome, unchanged}
use Rattle.ldm_model.specs.Cursor.{cursor_of, on_cursor, on_held}
use Rattle.ldm_model.specs.Read.{part_of, read, read_row}
use Rattle.ldm_book.specs.View.{BookView, Kept, body_of, kept}
use Rattle.ldm_book.specs.Products.{at_number, has_number}
use Rattle.ldm_book.specs.Stored.{IsStored}
use Rattle.ldm_book.proofs.EveryLemmas.{find-map, found_of}
use Rattle.ldm_book.proofs.QueuedLemmas.{IsPresent, is_present}
use Rattle.ldm_book.specs.Stands.{StandsFor}
use Rattle.ldm_book.specs.Answers.{Follows}
use Rattle.ldm_book.proofs.CursorsLemmas.{IsCursor}
use Rattle.ldm_book.proofs.StoredLemmas.{body_stands}

module _ (book : BookView) (s : State) (stands : StandsFor book s) (actor k offset len : ℕ) where
  pub read-none : cursor_of s actor k ≡ None → Follows reply.NoCursor book (read s actor k offset len)
  unfolding read
  read-none none =
      subst (λ (o : Option Cursor). Follows reply.NoCursor book (on_cursor s o (λ cursor. on_held s cursor.held (λ n. read_row s (slice_get s.rows n) offset len)))) (sym none)
      (record { reply = refl; state = stands })

  by_held : (r : Reply) (is : IsCursor book s actor k) (o : Option ℕ) → is.cursor.held ≡ o → Follows r book (on_held s o (λ n. read_row s (slice_get s.rows n) offset len))
      → Follows r book (read s actor k offset len)
  unfolding read
  by_held r is o same follows =
      subst (λ (p : Option Cursor). Follows r book (on_cursor s p (λ cursor. on_held s cursor.held (λ n. read_row s (slice_get s.rows n) offset len)))) (sym is.own)
      (subst (λ (q : Option ℕ). Follows r book (on_held s q (λ n. read_row s (slice_get s.rows n) offset len))) (sym same) follows)

  pub read-free : (is : IsCursor book s actor k) → is.cursor.held ≡ None → Follows reply.NotHeld book (read s actor k offset len)
  read-free is free = by_held reply.NotHeld is None free (record { reply = refl; state = stands })

  row_at : (n : ℕ) → list_any (has_number n) book.rows ≡ true → IsPresent n 0 s.rows
  row_at n there = is_present n 0 s.rows (ap (λ (ks : List Kept). list_any (has_number n) ks) (sym stands.rows) ∙ there)

  -- as it is queued
  abbrev the_row : (n : ℕ) → IsPresent n 0 s.rows → Queued
  the_row n at = record { number = n; product = at.row.product; time = at.row.time; place = at.place }

  same_found : (n : ℕ) (there : list_any (has_number n) book.rows ≡ true) (found : Kept) → Some found ≡ find (at_number n) book.rows → found ≡ kept (the_row n (row_at n there))
  same_found n there found e =
      let same : Some found ≡ Some (kept (the_row n (row_at n there))) =
      e ∙ ap (λ (ks : List Kept). find (at_number n) ks) stands.rows ∙ find-map kept (at_number n) (queued s) ∙ ap (option_map kept) (row_at n there).found in
      cc

  by_row : (r : Reply) (is : IsCursor book s actor k) (n : ℕ) (there : list_any (has_number n) book.rows ≡ true) → is.cursor.held ≡ Some n
      → Follows r book (read_row s (Some (row_at n there).row) offset len) → Follows r book (read s actor k offset len)
  by_row r is n there held follows =
      let at = row_at n there in
      let index : at.index ≡ n = omega (arith, at.number) in
      by_held r is (Some n) held (subst (λ (o : Option Row). Follows r book (read_row s o offset len)) (sym (ap (λ (i : ℕ). slice_get s.rows i) (sym index) ∙ at.at)) follows)

  pub read-bad : (is : IsCursor book s actor k) (n : ℕ) (there : list_any (has_number n) book.rows ≡ true) (found : Kept) → is.cursor.held ≡ Some n → Some found ≡ find (at_number n) book.rows
      → found.size < offset → Follows (reply.BadOffset found.size) book (read s actor k offset len)
  read-bad is n there found held e bad =
      let at = row_at n there in
      let size : found.size ≡ at.row.product.info.size = ap (λ (x : Kept). x.size) (same_found n there found e) in
      by_row (reply.BadOffset found.size) is n there held
      (subst (λ (o : Outcome). Follows (reply.BadOffset found.size) book o)
      (sym (ap (λ (b : Bool). cond b (unchanged s (reply.BadOffset at.row.product.info.size)) (unchanged s (reply.Bytes (part_of at.row.product offset len))))
      (lt-ltb at.row.product.info.size offset (omega arith))))
      (record { reply = ap reply.BadOffset size; state = stands }))

  pub read-bytes : (is : IsCursor book s actor k) (n : ℕ) (there : list_any (has_number n) book.rows ≡ true) (found : Kept) → is.cursor.held ≡ Some n → Some found ≡ find (at_number n) book.rows
      → offset ≤ found.size
      → (part : List ℕ) → part ≡ take (min len (found.size - offset)) (drop offset (body_of book.bytes found)) → Follows (reply.Bytes part) book (read s actor k offset len)
  read-bytes is n there found held e good part part-is =
      let at = row_at n there in
      let same = same_found n there found e in
      let size : found.size ≡ at.row.product.info.size = ap (λ (x : Kept). x.size) same in
      let body : body_of book.bytes found ≡ at.row.product.body =
      ap (body_of book.bytes) same ∙ body_stands book.bytes (the_row n at) (found_of (IsStored book.bytes) (λ (q : Queued). at_number n (kept q)) (queued s) (the_row n at) stands.stored at.found) in
      let bytes : part ≡ part_of at.row.product offset len = part-is ∙ (λ i. take (min len (size i - offset)) (drop offset (body i))) in
      by_row (reply.Bytes part) is n there held
      (subst (λ (o : Outcome). Follows (reply.Bytes part) book o)
      (sym (ap (λ (b : Bool). cond b (unchanged s (reply.BadOffset at.row.product.info.size)) (unchanged s (reply.Bytes (part_of at.row.product offset len))))
      (le-ltb at.row.product.info.size offset (omega arith))))
      (record { reply = ap reply.Bytes bytes; state = stands }))

-- a part of a part
part_part : (offset size len : ℕ) (zs : List ℕ) → offset + len ≤ size → take len (drop offset (take size zs)) ≡ take len (drop offset zs)
part_part zero size len zs h = take-take len size zs (omega arith)
part_part (suc offset) zero len zs h = absurd (omega arith)
part_part (suc offset) (suc size) len [] h = refl
part_part (suc offset) (suc size) len (z ∷ zs) h = part_part offset size len zs (omega arith)

-- the bytes of the arena that are read are the part that was asked for
pub part_read : (bytes : List ℕ) (k : Kept) (front offset len asked : ℕ) → front ≡ k.place + k.head + offset → offset + len ≤ k.size → len ≡ min asked (k.size - offset)
    → between front (front + len) bytes ≡ take (min asked (k.size - offset)) (drop offset (body_of bytes k))
part_read bytes k front offset len asked front-is fits len-is =
    let start = k.place + k.head in
    let count : front + len - front ≡ len = omega arith in
    let size : start + k.size - start ≡ k.size = omega arith in
    let at : start + offset ≡ front = omega arith in
    ap (λ (n : ℕ). take n (drop front bytes)) count
    ∙ ap (λ (n : ℕ). take len (drop n bytes)) (sym at) ∙ ap (take len) (sym (drop-drop offset start bytes))
    ∙ sym (part_part offset k.size len (drop start bytes) fits)
    ∙ ap (λ (n : ℕ). take len (drop offset (take n (drop start bytes)))) (sym size)
    ∙ ap (λ (n : ℕ). take n (drop offset (body_of bytes k))) len-is
