use Rattle.std.proofs.Common.{◌≡◌, ℕ, List, [], ◌++◌, length, arith, ap, ◌∙◌}
use Rattle.std.specs.Prelude.{Ok, Err}
use Rattle.ldm_disk.specs.Told.{IsConsistent}
use Rattle.ldm_image.specs.Bodies.{Begins, IsBeing, IsWriting, WritesHead, WritesMore, sizes_of, between_rows}
use Rattle.ldm_disk.proofs.Told.{mapped, chained, after_it, always}
use Rattle.ldm_image.proofs.BodyLemmas.{writing_begins, writing_gathers, writing_goes_on, head_fails, last_piece, writing_is_being}
use Rattle.ldm_image.proofs.body.write_head.Goals as goal

pub loop-next-init : goal.loop-next-init
loop-next-init g c =
    let tells = g.D.Disk.tells in
    let book = c.args.book.now in
    let done = c.in_ok-write_opening.field-0 in
    let next = c.add_rows-next.result in
    let piece = c.add_rows-next.new.piece.items in
    let is : piece ≡ sizes_of book ++ between_rows 0 next book =
    c.add_rows-next.ensures.gathered ∙ ap (λ (l : List ℕ). l ++ between_rows 0 next book) (c.put_sizes.ensures.items ∙ ap (λ (l : List ℕ). l ++ sizes_of book) c.requires.empty) in (
      mapped (λ f. Unit {0}) (Begins (Ok done)) (IsWriting book next 6 piece)
          (λ old new s begins. writing_gathers book 0 next 6 (sizes_of book) piece old new (omega arith) is (writing_begins done book old new begins))
          (tells c.args.disk.now).file (tells c.write_opening.new.disk).file (always (tells c.args.disk.now).file) c.in_ok-write_opening.ensures.begun,
      omega (arith, c.add_rows-next.ensures.len, c.put_sizes.ensures.len, c.requires.len),
      omega arith,
      c.add_rows-next.ensures.within.1,
      c.add_rows-next.ensures.room,
      c.in_ok-write_opening.ensures.kept,
    )

pub write_piece-requires-clause-being : goal.write_piece-requires-clause-being
write_piece-requires-clause-being g c =
    let tells = g.D.Disk.tells in
    let l = c.loop-next in
    after_it IsConsistent (IsBeing l.at) (IsWriting c.args.book.now l.next l.at l.piece.items)
    (λ old new consistent writing. writing_is_being c.args.book.now l.next l.at l.piece.items old new consistent l.invariant.2 writing)
    (tells c.args.disk.now).file (tells l.disk).file (g.met.D.Disk.consistent l.disk) l.invariant.0

pub loop-next-preserved : goal.loop-next-preserved
loop-next-preserved g c =
    let tells = g.D.Disk.tells in
    let book = c.args.book.now in
    let l = c.loop-next in
    let behind = c.in_ok-at.at in
    let next = c.add_rows-next-in-loop-next.result in
    let piece = c.add_rows-next-in-loop-next.new.piece.items in
    let is : piece ≡ [] ++ between_rows l.next next book =
    c.add_rows-next-in-loop-next.ensures.gathered ∙ ap (λ (bytes : List ℕ). bytes ++ between_rows l.next next book) c.in_ok-at.ensures.empty in (
      chained (λ f. Unit {0}) IsConsistent (IsWriting book l.next l.at l.piece.items) (WritesMore (Ok behind) l.at l.piece.items) (IsWriting book next behind piece)
          (λ old mid new s consistent writing more.
          writing_gathers book l.next next behind [] piece old new c.add_rows-next-in-loop-next.ensures.within.0 is
          (writing_goes_on behind book l.next l.at l.piece.items old mid new consistent writing more))
          (tells c.args.disk.now).file (tells l.disk).file (tells c.write_piece.new.disk).file (always (tells c.args.disk.now).file)
          (g.met.D.Disk.consistent l.disk) l.invariant.0 c.in_ok-at.ensures.written,
      omega (arith, l.invariant.1, c.in_ok-at.ensures.at, c.in_ok-at.ensures.len, c.add_rows-next-in-loop-next.ensures.len),
      omega (arith, l.invariant.2, c.in_ok-at.ensures.at),
      c.add_rows-next-in-loop-next.ensures.within.1,
      c.add_rows-next-in-loop-next.ensures.room,
      record {
        faults = omega (arith, l.invariant.5.faults, c.in_ok-at.ensures.kept.faults);
        attached = c.in_ok-at.ensures.kept.attached ∙ l.invariant.5.attached;
      },
    )

pub write_piece-requires-2-clause-being : goal.write_piece-requires-2-clause-being
write_piece-requires-2-clause-being g c =
    let tells = g.D.Disk.tells in
    let l = c.loop-next in
    after_it IsConsistent (IsBeing l.at) (IsWriting c.args.book.now l.next l.at l.piece.items)
    (λ old new consistent writing. writing_is_being c.args.book.now l.next l.at l.piece.items old new consistent l.invariant.2 writing)
    (tells c.args.disk.now).file (tells l.disk).file (g.met.D.Disk.consistent l.disk) l.invariant.0

pub returns-clause-written : goal.returns-clause-written
returns-clause-written g c =
    let tells = g.D.Disk.tells in
    let book = c.args.book.now in
    let l = c.loop-next in
    let result = c.write_piece-2.result in
    let all : l.next ≡ length book.rows = omega (arith, c.count_rows-count.ensures, l.invariant.3) in
    chained (λ f. Unit {0}) IsConsistent (IsWriting book l.next l.at l.piece.items) (WritesMore result l.at l.piece.items) (WritesHead result book)
    (λ old mid new s consistent writing more. last_piece result book l.next l.at l.piece.items old mid new all consistent writing more)
    (tells c.args.disk.now).file (tells l.disk).file (tells c.write_piece-2.new.disk).file (always (tells c.args.disk.now).file)
    (g.met.D.Disk.consistent l.disk) l.invariant.0 c.write_piece-2.ensures.written

pub returns-in_err-at-clause-written : goal.returns-in_err-at-clause-written
returns-in_err-at-clause-written g c =
    let tells = g.D.Disk.tells in
    let book = c.args.book.now in
    let l = c.loop-next in
    let failed = c.in_err-at.field-0.0 in
    let result = c.from_residual-in_err-at.result in
    chained (λ f. Unit {0}) IsConsistent (IsWriting book l.next l.at l.piece.items) (WritesMore (Err failed) l.at l.piece.items) (WritesHead result book)
    (λ old mid new s consistent writing more.
    head_fails result failed book l.next l.at l.piece.items old mid new c.from_residual-in_err-at.ensures.0 consistent writing more)
    (tells c.args.disk.now).file (tells l.disk).file (tells c.write_piece.new.disk).file (always (tells c.args.disk.now).file)
    (g.met.D.Disk.consistent l.disk) l.invariant.0 c.in_err-at.ensures.written
