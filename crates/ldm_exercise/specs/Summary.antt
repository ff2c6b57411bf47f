-- The summary of an exercise: three lines.
use Rattle.std.specs.Prelude.{ℕ, List, [], ◌∷◌, ◌++◌, codes}
use Rattle.hex.specs.Hex.{encode_lower}
use Rattle.md5.specs.Md5.{md5}
use Rattle.ldm_model.specs.declared.event.Reply.{Reply}
use Rattle.ldm_answers.specs.Answer.{blank_number}
use Rattle.ldm_exercise.specs.Counts.{Counts, counts_of}
use Rattle.ldm_exercise.specs.Playing.{exercised, answer_text}

-- `exercise NUMBER COUNT`
abbrev pub first_line : ℕ → ℕ → List ℕ
first_line number count = codes "exercise" ++ blank_number number ++ blank_number count ++ 10 ∷ []

-- the counts of the answers to insertions
abbrev pub insertion_counts : Counts → List ℕ
insertion_counts counts =
    codes "admitted" ++ blank_number counts.admitted ++ codes " evicted" ++ blank_number counts.evicted
    ++ codes " duplicate" ++ blank_number counts.duplicate ++ codes " locked" ++ blank_number counts.locked

-- and those of the answers to steps
abbrev pub step_counts : Counts → List ℕ
step_counts counts =
    codes " product" ++ blank_number counts.product ++ codes " gap" ++ blank_number counts.gap
    ++ codes " lost" ++ blank_number counts.lost ++ codes " end" ++ blank_number counts.end

-- how many answers there are of each kind, and the two sums
abbrev pub counts_line : Counts → List ℕ
counts_line counts = insertion_counts counts ++ step_counts counts ++ 10 ∷ []

-- the digest of the answer lines
abbrev pub digest_line : List Reply → List ℕ
digest_line replies = codes "answers " ++ encode_lower (md5 (answer_text replies)) ++ 10 ∷ []

-- the three lines, for these replies
abbrev pub summary_of : ℕ → ℕ → List Reply → List ℕ
summary_of number count replies = first_line number count ++ counts_line (counts_of replies) ++ digest_line replies

-- the summary of `exercise NUMBER COUNT`
abbrev pub summary : ℕ → ℕ → List ℕ
summary number count = summary_of number count (exercised number count).replies
