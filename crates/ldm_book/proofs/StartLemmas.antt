-- Where a cursor begins, by what the products answer.
use Rattle.std.proofs.Common.{◌≡◌, ℕ, Bool, true, cond, List, [], ◌∷◌, Option, Some, None, refl, ap, arith}
use Rattle.std.specs.List.{find}
use Rattle.std.specs.Option.{option_map}
use Rattle.std.proofs.lemmas.Bool.{le-leb}
use Rattle.ldm_model.specs.declared.event.Reply.TheVariants as reply
use Rattle.ldm_book.specs.View.{BookView, Kept}
use Rattle.ldm_book.specs.Products.{at_number, kept_number}
use Rattle.ldm_book.specs.Lookup.{look_kept}
use Rattle.ldm_book.specs.Making.{number_or_end}

pub number_of_some : (book : BookView) (o : Option Kept) (n : ℕ) → Some n ≡ option_map kept_number o → n ≡ number_or_end book o
number_of_some book None n e = absurd cc
number_of_some book (Some k) n e = cc

pub end_of_none : (book : BookView) (o : Option Kept) → None ≡ option_map kept_number o → book.admitted ≡ number_or_end book o
end_of_none book None e = refl
end_of_none book (Some k) e = absurd cc

pub find_zero : (rows : List Kept) → find (at_number 0) rows ≡ find (λ (k : Kept). true) rows
find_zero [] = refl
find_zero (k ∷ ks) = ap (λ (b : Bool). cond b (Some k) (find (at_number 0) ks)) (le-leb 0 k.number (omega arith))

pub look_found : (o : Option Kept) (n time : ℕ) → reply.Queued n time ≡ look_kept o → (k : Kept) × (o ≡ Some k) × (k.number ≡ n)
look_found None n time e = absurd cc
look_found (Some k) n time e = (k, refl, cc)
