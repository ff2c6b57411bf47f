-- Asking a node one thing over a link of one's own.
use Rattle.std.specs.Prelude.{◌≡◌, ◌⊎◌, ℕ, ◌<◌, Bool, true, false, List, [], ◌++◌, length, Some, Result, Ok, Err}
use Rattle.ldm_outside.specs.declared.dial.Dialled.TheVariants.{Linked, Failed}
use Rattle.ldm_outside.specs.Count.{Rose}
use Rattle.ldm_outside.specs.Dial.{Asked, DialRecord, ConnectGives, DialTakesBack}
use Rattle.ldm_outside.specs.Link.{LinkRecord, IsNotClosed}
use Rattle.ldm_session.specs.declared.limits.TheConstants.{LONGEST_STREAM}
use Rattle.ldm_session.specs.Exchange.{Exchanged}
use Rattle.ldm_tools.specs.declared.no_reply.NoReply.{NoReply}
use Rattle.ldm_tools.specs.declared.no_reply.NoReply.TheVariants.{BadFrame, StreamLimit, LinkFault, OutOfMemory}
use Rattle.ldm_tools.specs.Replies.{Answers, Says}
use Rattle.ldm_session.specs.Part.{IsPart}

-- whether all of a call was sent, by what came of it
abbrev pub sends_all : {A : Type 0} → Result A NoReply → Bool
sends_all (Ok answer) = true
sends_all (Err (BadFrame at)) = true
sends_all (Err StreamLimit) = true
sends_all (Err LinkFault) = false
sends_all (Err OutOfMemory) = false

-- the dial failed: no link was connected
abbrev pub IsUnreached : Asked → DialRecord → DialRecord → Type 0
IsUnreached peer old new = ConnectGives (λ (link : LinkRecord). link) Failed peer old new

-- The dial was asked once, for that peer, and connected a link that was not used yet. The link was given back as it was left. Where it was
-- at its end or failed, the dial counts it.
pub record IsLinked (peer : Asked) (came left : LinkRecord) (old new : DialRecord) : Type 0 where
  pub lent : DialRecord
  pub dialled : ConnectGives (λ (link : LinkRecord). link) (Linked came) peer old lent
  pub not_closed : IsNotClosed left
  pub given_back : DialTakesBack left lent new
  pub ended : Rose came.ends left.ends → Rose old.links.ended new.links.ended
  pub failed : Rose came.faults left.faults → Rose old.links.failed new.links.failed

module _ {A : Type 0} (Is : A → List ℕ → Type 0) where
  -- Over a link this call was sent, all of it or a front, and what the link gave says what came of it.
  pub record Asks (result : Result A NoReply) (call : List ℕ) (old new : LinkRecord) : Type 0 where
    pub sent : List ℕ
    pub given : List ℕ
    pub exchanged : Exchanged old sent given new
    pub sent_is : IsPart (sends_all result) sent call
    pub answers : Answers Is result given [] old new

  -- Where all that the link had left to give begins with the reply, and no link failed, that reply was heard, or there is no memory.
  abbrev pub Completes : Result A NoReply → LinkRecord → DialRecord → DialRecord → Type 0
  Completes result came old new =
      (stream : List ℕ) (answer : A) → came.left ≡ Some stream → Says Is answer stream [] → length stream < LONGEST_STREAM
      → ¬ Rose old.links.failed new.links.failed → (result ≡ Ok answer) ⊎ (result ≡ Err OutOfMemory)

  -- A peer was asked one thing.
  pub record AsksPeer (result : Result A NoReply) (call : List ℕ) (peer : Asked) (old new : DialRecord) : Type 0 where
    pub came : LinkRecord
    pub left : LinkRecord
    pub linked : IsLinked peer came left old new
    pub asks : Asks result call came left
    pub completes : Completes result came old new
