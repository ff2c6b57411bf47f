use Rattle.std.proofs.Common.{◌≡◌, ◌∙◌, ◌++◌, ◌-◌, ◌≤◌, [], ℕ, List, length, take, drop, replicate, refl, sym, ap, arith}
use Rattle.std.proofs.lemmas.List.{take_all, take_at}
use Rattle.ldm_session.proofs.waiting.Waiting.create.Goals as goal

waits : (ahead filled items zeros : List ℕ) (room : ℕ) → length ahead ≤ room → filled ≡ ahead → items ≡ take room filled ++ zeros → take (length ahead - 0) items ≡ ahead
waits ahead filled items zeros room most same is =
    let whole : length ahead - 0 ≡ length ahead = omega arith in
    ap (λ n. take n items) whole
    ∙ ap (take (length ahead)) (is ∙ ap (λ (xs : List ℕ). take room xs ++ zeros) same ∙ ap (λ (xs : List ℕ). xs ++ zeros) (take_all room ahead most))
    ∙ take_at ahead zeros (length ahead) refl

pub returns : goal.returns
returns c =
    let most : length c.args.ahead.now ≤ c.max-room.result = omega (arith, c.max-room.ensures) in
    waits c.args.ahead.now c.extend_from_slice.new.self.items c.resize.new.self.items _ c.max-room.result most
    (c.in_ok-extend_from_slice.ensures.items ∙ ap (λ (xs : List ℕ). xs ++ c.args.ahead.now) c.in_ok-buffer.ensures.items) c.in_ok-resize.ensures.items
