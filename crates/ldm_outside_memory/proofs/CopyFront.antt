-- What is left of bytes of which a front was copied.
use Rattle.std.proofs.Common.{◌≡◌, ℕ, ◌+◌, List, ◌++◌, take, drop, sym, ap, ◌∙◌}
use Rattle.std.proofs.lemmas.List.{take-append-drop, drop-drop}
use Rattle.std.proofs.Math.Seq.{take-add}

-- from a place on, the bytes are what was copied and then what is left
pub drop-copied : (bytes into : List ℕ) (at n : ℕ) → take n into ≡ take n (drop at bytes) → drop at bytes ≡ take n into ++ drop (at + n) bytes
drop-copied bytes into at n copied = rw (copied, ← drop-drop n at bytes) (sym (take-append-drop n (drop at bytes)))

-- up to a place, the bytes are those before and then what was copied
pub take-copied : (bytes into : List ℕ) (at n : ℕ) → take n into ≡ take n (drop at bytes) → take (at + n) bytes ≡ take at bytes ++ take n into
take-copied bytes into at n copied = take-add at n bytes ∙ ap (λ (xs : List ℕ). take at bytes ++ xs) (sym copied)
