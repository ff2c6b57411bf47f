use Rattle.std.proofs.Common.{◌≡◌, ◌-◌, ◌++◌, ℕ, zero, suc, List, ◌∷◌, take, replicate, vec_len, Option, None, refl, ap, ◌∙◌}
use Rattle.ldm_book.specs.declared.reservations.Place.{Place}
use Rattle.ldm_book.specs.Reserved.{KeptPlaces, kept_places}
use Rattle.ldm_book.proofs.reservations.Reservations.create.Goals as goal

-- empty places are seen as such
none_kept : (n : ℕ) → kept_places (replicate {A = Option Place} n None) ≡ replicate n None
none_kept zero = refl
none_kept (suc n) = ap (λ (places : KeptPlaces). None ∷ places) (none_kept n)

pub returns : goal.returns
returns c =
    let made = c.in_ok-places.ensures in
    let places = c.in_ok-places.places in
    ap kept_places
    (c.in_ok-resize.ensures.items
    ∙ ap (λ (front : List (Option Place)). take 64 front ++ replicate (64 - vec_len places) None) made.items
    ∙ ap (λ n. replicate {A = Option Place} (64 - n) None) made.len)
    ∙ none_kept 64
