use Rattle.std.proofs.Common.{◌≡◌, ◌∙◌, ℕ, drop, Result, Ok, Some, ap, arith}
use Rattle.std.proofs.lemmas.List.{take_rest}
use Rattle.ldm_types.specs.Info.{Metadata, metadata_len}
use Rattle.ldm_book.proofs.StoredLemmas.{begins}
use Rattle.ldm_book.proofs.stored.whole_at.Goals as goal

-- a result is read in one way
same_Ok : {E : Type 0} (r : Result (Metadata × ℕ) E) (x y : Metadata × ℕ) → r ≡ Ok x → r ≡ Ok y → x ≡ y
same_Ok r x y one other = cc

pub returns-in_default-clause-only : goal.returns-in_default-clause-only
returns-in_default-clause-only c = λ info whole.
    let bytes = c.args.arena.now in
    let read = c.read_info.ensures.only info (drop (metadata_len info) (drop c.args.place bytes)) whole.spelled.fits (take_rest bytes c.args.place ∙ begins bytes c.args.place info whole.spelled) in
    absurd (c.in_default.not-Ok (info, metadata_len info) read)

pub returns-then-size-behind-clause-only : goal.returns-then-size-behind-clause-only
returns-then-size-behind-clause-only c = λ info whole.
    let bytes = c.args.arena.now in
    let read = c.read_info.ensures.only info (drop (metadata_len info) (drop c.args.place bytes)) whole.spelled.fits (take_rest bytes c.args.place ∙ begins bytes c.args.place info whole.spelled) in
    let same = same_Ok c.read_info.result (c.in-Ok.info, c.in-Ok.head) (info, metadata_len info) c.in-Ok.is read in
    let size = c.size.ensures ∙ ap (λ (x : Metadata × ℕ). x.0.size) same in
    let head = ap (λ (x : Metadata × ℕ). x.1) same in
    absurd (omega (arith, whole.within, size, head, c.if-size-behind.true))

pub returns-clause-only : goal.returns-clause-only
returns-clause-only c = λ info whole.
    let bytes = c.args.arena.now in
    let read = c.read_info.ensures.only info (drop (metadata_len info) (drop c.args.place bytes)) whole.spelled.fits (take_rest bytes c.args.place ∙ begins bytes c.args.place info whole.spelled) in
    ap (λ (x : Metadata × ℕ). Some x.0) (same_Ok c.read_info.result (c.in-Ok.info, c.in-Ok.head) (info, metadata_len info) c.in-Ok.is read)
