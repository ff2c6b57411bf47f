-- What sending hours comes to where nothing fails.
use Rattle.std.specs.Prelude.{◌≡◌, ◌⊎◌, ℕ, ◌<◌, Bool, false, ◌||◌, cond, nat_lt, List, [], ◌∷◌, length, Some, Result, Ok, Err}
use Rattle.ldm_outside.specs.Count.{Rose}
use Rattle.ldm_outside.specs.Link.{LinkRecord}
use Rattle.ldm_relay.specs.declared.message.PutAnswer.{PutAnswer}
use Rattle.ldm_session.specs.declared.limits.TheConstants.{LONGEST_STREAM}
use Rattle.ldm_stats.specs.Report.{hours_of}
use Rattle.ldm_stats.specs.Table.{Table}
use Rattle.ldm_tools.specs.declared.no_reply.NoReply.TheVariants as no_reply
use Rattle.ldm_tools.specs.declared.put_fault.PutFault.TheVariants as put_fault
use Rattle.ldm_tools.specs.Owing.{AreOwed, answers_refuse, are_denied}
use Rattle.ldm_tools.specs.Telling.{HasAnswers}
use Rattle.ldm_pqstats.specs.declared.end.SendFault.{SendFault}
use Rattle.ldm_pqstats.specs.declared.end.SendFault.TheVariants.{OutOfMemory, TooLong, Put}
use Rattle.ldm_pqstats.specs.declared.limits.TheConstants.{LARGEST_BODY}
use Rattle.ldm_pqstats.specs.Sending.{Outside, body_of}

-- No count of faults rose.
pub record NoneRose (old new : Outside) : Type 0 where
  pub failed : ¬ Rose old.net.links.failed new.net.links.failed
  pub sink : ¬ Rose old.sink.faults new.sink.faults

-- the lines of an hour have more bytes than are sent
abbrev pub is_long : Table → ℕ → Bool
is_long stats hour = nat_lt LARGEST_BODY (length (body_of stats hour))

abbrev pub are_long : Table → List ℕ → Bool
are_long stats [] = false
are_long stats (hour ∷ hours) = is_long stats hour || are_long stats hours

-- the hours before the first of that kind: neither it nor a later one is sent
abbrev pub sent_of : Table → List ℕ → List ℕ
sent_of stats [] = []
sent_of stats (hour ∷ hours) = cond (is_long stats hour) [] (hour ∷ sent_of stats hours)

-- how sending these hours ends by the answers to those that are sent
abbrev pub ending_owed : Table → List ℕ → List PutAnswer → Result Bool SendFault
ending_owed stats hours answers = cond (are_denied answers) (Err (Put put_fault.Denied)) (cond (are_long stats hours) (Err TooLong) (Ok (answers_refuse answers)))

-- there was no memory
abbrev pub IsNoMemory : Result Bool SendFault → Type 0
IsNoMemory result = (result ≡ Err OutOfMemory) ⊎ (result ≡ Err (Put (put_fault.NoAnswer no_reply.OutOfMemory)))

-- All that the link has left to give begins with the replies that are owed to the hours.
pub record IsServed (stream : List ℕ) (answers : List PutAnswer) (stats : Table) (came : LinkRecord) : Type 0 where
  pub link : came.left ≡ Some stream
  pub short : length stream < LONGEST_STREAM
  pub says : HasAnswers stream answers
  pub owed : AreOwed (sent_of stats (hours_of stats.entries)) answers

-- Where that holds and no count of faults rose, sending ended as the lines and the answers say, or there was no memory.
abbrev pub Completes : Result Bool SendFault → Table → LinkRecord → Outside → Outside → Type 0
Completes result stats came old new =
    (stream : List ℕ) (answers : List PutAnswer) → IsServed stream answers stats came → NoneRose old new
    → (result ≡ ending_owed stats (hours_of stats.entries) answers) ⊎ IsNoMemory result
