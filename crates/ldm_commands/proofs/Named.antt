-- The idents of products, as words say them and as `pqinsert` takes them.
use Rattle.std.proofs.Common.{◌≡◌, ℕ, List, Option, Some, None, sym, subst}
use Rattle.std.specs.Borrow.{Bor}
use Rattle.std.specs.List.{All}
use Rattle.ldm_tools.specs.Inserting as inserting
use Rattle.ldm_words.specs.Values as words
use Rattle.ldm_words.specs.Values.{IsName, texts_of}

is_named : (origin : List ℕ) (ident : Option (List ℕ)) (path : List ℕ) → IsName origin (words.ident_or ident path)
    → IsName origin (inserting.ident_or ident path)
is_named origin None path named = named
is_named origin (Some ident) path named = named

pub are_named : (origin : List ℕ) (ident : Option (List ℕ)) (files lent : List (Bor (List ℕ))) → lent ≡ files
    → All (λ file. IsName origin (words.ident_or ident file)) (texts_of files)
    → All (λ file. IsName origin (inserting.ident_or ident file)) (texts_of lent)
are_named origin ident files lent is named =
    subst (λ (all : List (Bor (List ℕ))). All (λ file. IsName origin (inserting.ident_or ident file)) (texts_of all)) (sym is)
    (λ k d below. is_named origin ident _ (named k d below))
