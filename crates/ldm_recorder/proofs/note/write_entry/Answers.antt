use Rattle.std.proofs.Common.{◌∙◌, ◌+◌, ◌-◌, List, ℕ, ap, arith}
use borrow.Rule.Slice.PartMut.{put_mid}
use Rattle.ldm_journal.specs.Records.{eight}
use Rattle.ldm_recorder.proofs.Noting.{put_both}
use Rattle.ldm_recorder.proofs.note.write_entry.Goals as goal

pub returns-clause-written : goal.returns-clause-written
returns-clause-written c =
    let at = c.args.at in
    let xs = c.args.note.now in
    let key = c.args.key.now in
    ap (λ (ks : List ℕ). put_mid (at + 16) (at + 24 - (at + 16)) (put_mid at (at + 16 - at) xs ks) c.copy_from_slice-2.new.self) c.copy_from_slice.ensures.after
    ∙ ap (λ (es : List ℕ). put_mid (at + 16) (at + 24 - (at + 16)) (put_mid at (at + 16 - at) xs key) es) (c.copy_from_slice-2.ensures.after ∙ c.to_be_bytes.ensures)
    ∙ put_both at xs key (eight c.args.last) c.told-key (omega arith) (omega (arith, c.told-note))
