use Rattle.std.proofs.Common.{◌≡◌, ◌∙◌, ◌-◌, ◌++◌, ℕ, List, drop, length, sym, ap}
use borrow.Rule.Slice.PartMut.{put_mid}
use Rattle.ldm_xdr.specs.Spelling.{spelling}
use Rattle.ldm_xdr.proofs.Whole.{length-spelling}
use Rattle.ldm_book.proofs.StoredLemmas.{front_then_body}
use Rattle.ldm_book.proofs.stored.write_product.Goals as goal

pub returns-clause-written : goal.returns-clause-written
returns-clause-written c =
    let info = c.args.info.now in
    let now = c.write_info-head.new.into in
    let head = c.write_info-head.result in
    let len : head ≡ length (spelling info) = c.write_info-head.ensures.len ∙ sym (length-spelling info c.write_info-head.ensures.fits.signature) in
    ap (λ (part : List ℕ). put_mid head (length now - head) now part) c.copy_from_slice.ensures.after
    ∙ front_then_body (spelling info) c.args.body.now c.args.room.now now head
    (c.write_info-head.ensures.written ∙ ap (λ (n : ℕ). spelling info ++ drop n c.args.room.now) (sym c.write_info-head.ensures.len)) (sym len)
