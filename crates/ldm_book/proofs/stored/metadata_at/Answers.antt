use Rattle.std.proofs.Common.{◌≡◌, ◌∙◌, ℕ, drop, Result, Ok, ap}
use Rattle.std.proofs.lemmas.List.{take_rest}
use Rattle.ldm_types.specs.Info.{Metadata, metadata_len}
use Rattle.ldm_book.proofs.StoredLemmas.{begins}
use Rattle.ldm_book.proofs.stored.metadata_at.Goals as goal

pub unreachable-requires : goal.unreachable-requires
unreachable-requires c =
    let bytes = c.args.arena.now in
    let info = c.requires.some.0 in
    let at = c.requires.some.1 in
    let read = c.read_info.ensures.only info (drop (metadata_len info) (drop c.args.place bytes)) at.fits (take_rest bytes c.args.place ∙ begins bytes c.args.place info at) in
    c.in_default.not-Ok (info, metadata_len info) read

-- a result is read in one way
same_Ok : {E : Type 0} (r : Result (Metadata × ℕ) E) (x y : Metadata × ℕ) → r ≡ Ok x → r ≡ Ok y → x ≡ y
same_Ok r x y one other = cc

pub returns : goal.returns
returns c = λ info at.
    let bytes = c.args.arena.now in
    let read = c.read_info.ensures.only info (drop (metadata_len info) (drop c.args.place bytes)) at.fits (take_rest bytes c.args.place ∙ begins bytes c.args.place info at) in
    ap (λ (x : Metadata × ℕ). x.0) (same_Ok c.read_info.result (c.in-Ok.info, c.in-Ok.field-0-1) (info, metadata_len info) c.in-Ok.is read)
