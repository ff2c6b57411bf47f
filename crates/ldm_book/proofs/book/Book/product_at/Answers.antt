use Rattle.std.proofs.Common.{◌≡◌, ◌∙◌, ◌+◌, ◌-◌, ◌≤◌, ℕ, List, Some, drop, length, take, sym, ap, subst, arith}
use Rattle.ldm_types.specs.Info.{Metadata, metadata_len}
use Rattle.ldm_book.specs.declared.restoring.RowNote.{RowNote}
use Rattle.ldm_book.specs.View.{BookView, Kept}
use Rattle.ldm_book.specs.Stands.{StandsFor}
use Rattle.ldm_book.specs.Stored.{HasMetadata, StandsAt}
use Rattle.ldm_book.specs.Restoring.{note_of}
use Rattle.ldm_book.specs.Sound.{view_of}
use Rattle.ldm_book.proofs.EveryLemmas.{every_one}
use Rattle.ldm_book.proofs.StoredLemmas.{body_stands, metadata_stand}
use Rattle.ldm_book.proofs.NoteLemmas.{HasNote, has_note, is_queued_at, row_within, there_at}
use Rattle.ldm_book.proofs.book.Book.product_at.Goals as goal
use Rattle.ldm_book.proofs.book.Book.product_at.Goals.{After-deref, After-size}

noted : (c : After-deref) → HasNote c.self.inside.products.rows c.args.i c.in_ok-note.note
noted c = has_note c.self.inside.products.rows c.args.i c.in_ok-note.note c.in_ok-note.ensures

-- the metadata that stand there
found : (c : After-deref) → HasMetadata c.self.inside.arena.items (noted c).row
found c =
    let is = noted c in
    every_one (HasMetadata c.self.inside.arena.items) c.self.inside.products.rows is.row c.self.invariant.stored (there_at c.self.inside.products.rows c.args.i is.row is.at)

stand : (c : After-deref) → StandsAt c.deref.result.now c.in_ok-note.note.place (found c).info
stand c =
    subst (λ (bs : List ℕ). StandsAt bs c.in_ok-note.note.place (found c).info) (sym c.deref.ensures.value)
    (subst (λ (n : RowNote). StandsAt c.self.inside.arena.items n.place (found c).info) (noted c).is (found c).at)

-- and where they end, and the body behind them
within : (c : After-deref) → c.in_ok-note.note.place + metadata_len (found c).info + (found c).info.size ≤ length c.self.inside.arena.items
within c =
    let is = noted c in
    let lies = row_within c.self.inside.products.arena c.self.inside.products.rows c.self.inside.products.reservations is.row c.self.invariant.apart (there_at c.self.inside.products.rows c.args.i is.row is.at) in
    let place = ap (λ (n : RowNote). n.place) is.is in
    let head = ap (λ (k : Kept). k.head) (found c).same in
    let size = ap (λ (k : Kept). k.size) (found c).same in
    omega (arith, lies, place, head, size, c.self.invariant.arena, c.self.inside.arena.ok.0)

pub metadata_at-info-requires-clause-within : goal.metadata_at-info-requires-clause-within
metadata_at-info-requires-clause-within c =
    let ends = within (goal.at.metadata_at-info-requires-clause-within c).After-deref in
    omega (arith, ends, ap length c.deref.ensures.value)

pub metadata_at-info-requires-clause-some : goal.metadata_at-info-requires-clause-some
metadata_at-info-requires-clause-some c = let at = (goal.at.metadata_at-info-requires-clause-some c).After-deref in ((found at).info, stand at)

pub overflow_add-start : goal.overflow_add-start
overflow_add-start c =
    let at = (goal.at.overflow_add-start c).After-deref in
    let ends = within at in
    let info = c.metadata_at-info.ensures (found at).info (stand at) in
    let head = c.info_len.ensures.value ∙ ap metadata_len info in
    omega (arith, ends, head, c.self.invariant.arena_small, c.self.inside.arena.ok.0)

pub overflow_add-end : goal.overflow_add-end
overflow_add-end c =
    let at = (goal.at.overflow_add-end c).After-deref in
    let ends = within at in
    let info = c.metadata_at-info.ensures (found at).info (stand at) in
    let head = c.info_len.ensures.value ∙ ap metadata_len info in
    let size = c.size.ensures ∙ ap (λ (m : Metadata). m.size) info in
    omega (arith, ends, head, size, c.self.invariant.arena_small, c.self.inside.arena.ok.0)

pub slice_bounds-result-end : goal.slice_bounds-result-end
slice_bounds-result-end c =
    let at = (goal.at.slice_bounds-result-end c).After-deref in
    let ends = within at in
    let info = c.metadata_at-info.ensures (found at).info (stand at) in
    let head = c.info_len.ensures.value ∙ ap metadata_len info in
    let size = c.size.ensures ∙ ap (λ (m : Metadata). m.size) info in
    omega (arith, ends, head, size, c.deref-2.ensures.len, c.self.inside.arena.ok.0)

pub returns : goal.returns
returns c = λ s stands.
    let at = (goal.at.returns c).After-deref in
    let here = subst (λ (b : BookView). StandsFor b s) (sym c.self.view_is) stands in
    let is = noted at in
    let q = is_queued_at (view_of c.self.inside) s here c.args.i is.row is.at in
    let row = q.is ∙ sym (let same : is.row ≡ is.row = λ i. is.row in same) in
    let note = ap note_of q.is ∙ is.is in
    let stored = q.stored in
    let place = ap (λ (n : RowNote). n.place) note in
    let bytes = c.deref.ensures.value in
    let info = c.metadata_at-info.ensures q.product.product.info
    (subst (λ (bs : List ℕ). StandsAt bs c.in_ok-note.note.place q.product.product.info) (sym bytes)
    (subst (λ (n : ℕ). StandsAt c.self.inside.arena.items n q.product.product.info) place (metadata_stand c.self.inside.arena.items q.product stored))) in
    let head = c.info_len.ensures.value ∙ ap metadata_len info in
    let size = c.size.ensures ∙ ap (λ (m : Metadata). m.size) info in
    let start : c.in_ok-note.note.place + c.info_len.result ≡ q.product.place + metadata_len q.product.product.info = omega (arith, head, place) in
    let end : c.in_ok-note.note.place + c.info_len.result + c.size.result ≡ q.product.place + metadata_len q.product.product.info + q.product.product.info.size = omega (arith, head, place, size) in
    let body = (λ i. take (end i - start i) (drop (start i) (c.deref-2.ensures.value i))) ∙ body_stands c.self.inside.arena.items q.product stored in
    sym (q.at ∙ (λ i. Some (record {
      number = (note i).n;
      product = record { info = sym info i; body = sym body i };
      time = (note i).time;
      place = (note i).place;
    })))
