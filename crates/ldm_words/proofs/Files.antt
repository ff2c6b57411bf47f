-- How many files there may be.
use Rattle.std.proofs.Common.{◌≡◌, ◌≤◌, ◌<◌, ◌^◌, List, length, Option, Some, None, arith}
use Rattle.std.specs.Borrow.{Bor}
use Rattle.std.proofs.lemmas.List.{length-map}
use Rattle.clap.specs.Words.{Text}
use Rattle.ldm_words.specs.Values.{◌>>=◌, few, texts_of}

pub too_many : (files : List (Bor Text)) → 2 ^ 32 ≤ length files → few (texts_of files) ≡ None
too_many files h = let same : length (texts_of files) ≡ length files = length-map files _ in grind (arith, same)

pub not_many : (files : List (Bor Text)) → length files < 2 ^ 32 → few (texts_of files) ≡ Some (texts_of files)
not_many files h = let same : length (texts_of files) ≡ length files = length-map files _ in grind (arith, same)

pub given : {A : Type 0} (texts : Option A) (text : A) (read : A → Option A) (result : Option A) → Some text ≡ texts → read text ≡ result → (texts >>= read) ≡ result
given texts text read result is e = rw (← is) e
