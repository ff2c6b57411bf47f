-- Texts cut at the first of a byte.
use Rattle.std.specs.Prelude.{◌≡◌, ℕ, ◌==◌, false, List, [], ◌∷◌, ◌++◌, Option, Some, None, All}
use Rattle.std.specs.Borrow.{Bor}

-- no byte is that one
abbrev pub Lacks : ℕ → List ℕ → Type 0
Lacks c text = All (λ byte. (byte == c) ≡ false) text

-- the byte and what stands behind it, if there is one
abbrev pub with_behind : ℕ → Option (Bor (List ℕ)) → List ℕ
with_behind c None = []
with_behind c (Some rest) = c ∷ rest.now

-- a text is its front up to the first of a byte, and that byte and the rest, if there is one
pub record Cuts (c : ℕ) (text front : List ℕ) (behind : Option (Bor (List ℕ))) : Type 0 where
  pub lacks : Lacks c front
  pub whole : text ≡ front ++ with_behind c behind
