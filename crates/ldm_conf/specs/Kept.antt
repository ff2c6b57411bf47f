-- What the contracts inside this crate say of words.
use Rattle.std.specs.Prelude.{◌≡◌, ℕ, ◌<◌, true, false, ◌⊎◌, List, length, map}
use Rattle.std.specs.Borrow.{Bor}
use Rattle.ldm_conf.specs.declared.limits.TheConstants.{MOST_WORDS}
use Rattle.ldm_text.specs.Words.{Words}

-- the words that references lend
abbrev pub lent : List (Bor (List ℕ)) → List (List ℕ)
lent words = map (λ (word : Bor (List ℕ)). word.now) words

-- these are all words, and no quote is wrong
abbrev pub AreWords : List (Bor (List ℕ)) → Words → Type 0
AreWords words read = read ≡ record { words = lent words; sound = true }

-- a quote is wrong, or there are more words than any line has
abbrev pub IsBad : Words → Type 0
IsBad read = (read.sound ≡ false) ⊎ (MOST_WORDS < length read.words)
