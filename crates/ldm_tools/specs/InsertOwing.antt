-- What a run comes to where nothing fails.
use Rattle.std.specs.Prelude.{◌≡◌, ◌⊎◌, ℕ, ◌<◌, List, length, Some}
use Rattle.ldm_outside.specs.Count.{Rose}
use Rattle.ldm_outside.specs.Link.{LinkRecord}
use Rattle.ldm_relay.specs.declared.message.PutAnswer.{PutAnswer}
use Rattle.ldm_session.specs.declared.limits.TheConstants.{LONGEST_STREAM}
use Rattle.ldm_status.specs.declared.status.Status.{Status}
use Rattle.ldm_status.specs.declared.status.Status.TheVariants as status
use Rattle.ldm_tools.specs.Owing.{AreOwed, status_owed}
use Rattle.ldm_tools.specs.Telling.{HasAnswers}
use Rattle.ldm_tools.specs.Moments.{Outside}

-- No count of faults rose, the log's apart, and none of files that are too long.
pub record NoneRose (old new : Outside) : Type 0 where
  pub store : ¬ Rose old.store.faults new.store.faults
  pub long : ¬ Rose old.store.long new.store.long
  pub failed : ¬ Rose old.net.links.failed new.net.links.failed
  pub sink : ¬ Rose old.sink.faults new.sink.faults

-- Where no such count rose, and all that the link had left to give begins with the replies that are owed, the status is that by the answers, or
-- there is no memory.
abbrev pub Completes : Status → List (List ℕ) → LinkRecord → Outside → Outside → Type 0
Completes ending files came old new =
    (stream : List ℕ) (answers : List PutAnswer) → came.left ≡ Some stream → length stream < LONGEST_STREAM → HasAnswers stream answers → AreOwed files answers
    → NoneRose old new → (ending ≡ status_owed answers) ⊎ (ending ≡ status.NoMemory)
