use Rattle.std.proofs.Common.{◌≡◌, ℕ, ◌++◌, [], ◌∷◌, length, ap, subst, ◌∙◌}
use Rattle.ldm_image.specs.Image.{eight, last_field}
use Rattle.ldm_image.specs.Bodies.{Appends}
use Rattle.ldm_image.proofs.BodyLemmas.{appended}
use Rattle.ldm_image.proofs.body.put_sizes.Goals as goal

pub returns : goal.returns
returns c =
    let book = c.args.book.now in
    let a = c.put.new.out in
    let b = c.put_number.new.out in
    let d = c.put_number-2.new.out in
    let e = c.put_number-3.new.out in
    let f = c.put_number-4.new.out in
    let all = c.put_number-5.new.out in
    let arena : length c.bytes.result.now ≡ book.arena = ap length c.bytes.ensures.value ∙ c.bytes.ensures.sized in
    let slots : c.from.result ≡ book.slots = c.from.ensures ∙ c.slots.ensures.slots in
    let last : c.end_of_times.result ≡ last_field book.last = c.end_of_times.ensures ∙ ap last_field c.last.ensures in
    let count : c.from-2.result ≡ length book.rows = c.from-2.ensures ∙ c.requires.count in
    appended c.args.out.now a all (0 ∷ 0 ∷ []) (eight book.arena ++ eight book.slots ++ eight book.admitted ++ eight (last_field book.last) ++ eight (length book.rows)) c.put.ensures
    (appended a b all (eight book.arena) (eight book.slots ++ eight book.admitted ++ eight (last_field book.last) ++ eight (length book.rows))
    (subst (λ (n : ℕ). Appends a b (eight n)) arena c.put_number.ensures)
    (appended b d all (eight book.slots) (eight book.admitted ++ eight (last_field book.last) ++ eight (length book.rows))
    (subst (λ (n : ℕ). Appends b d (eight n)) slots c.put_number-2.ensures)
    (appended d e all (eight book.admitted) (eight (last_field book.last) ++ eight (length book.rows))
    (subst (λ (n : ℕ). Appends d e (eight n)) c.admitted.ensures c.put_number-3.ensures)
    (appended e f all (eight (last_field book.last)) (eight (length book.rows)) (subst (λ (n : ℕ). Appends e f (eight n)) last c.put_number-4.ensures)
    (subst (λ (n : ℕ). Appends f all (eight n)) count c.put_number-5.ensures)))))
