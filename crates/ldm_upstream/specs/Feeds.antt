-- What a call that feeds comes to, at each of its ends: the feeding that it made, or a front of it. `ahead` are the
-- bytes that the link gave before the call and that nobody looked at; the replies stand in them and in what the link
-- gives then.
use Rattle.std.specs.Prelude.{◌≡◌, ◌⊎◌, ℕ, List, [], ◌++◌}
use Rattle.ldm_model.specs.declared.event.Entry.{Entry}
use Rattle.ldm_outside.specs.Link.{LinkRecord}
use Rattle.ldm_outside.specs.Session.{SessionRecord}
use Rattle.ldm_shared.specs.Passes.{PassView, Calls}
use Rattle.ldm_sender.specs.declared.end.SendEnd.{SendEnd}
use Rattle.ldm_sender.specs.declared.end.SendEnd.TheVariants as end
use Rattle.ldm_sender.specs.Asked.{Asked}
use Rattle.ldm_sender.specs.Opening.{Answered, IsAnswerTo, opening_entries}
use Rattle.ldm_sender.specs.Acts.{Situation}
use Rattle.ldm_sender.specs.Sends.{Sends, HasSent}
use Rattle.ldm_upstream.specs.Turn.{feeding_kind}
use Rattle.ldm_upstream.specs.Feeding.{stands, codes_of}
use Rattle.ldm_upstream.specs.Heard.{SaysLast}

-- at an end before the first turn nothing was heard of the peer
abbrev pub HearsNone : SendEnd → List ℕ → Type 0
HearsNone end.Reclassed given = given ≡ []
HearsNone (end.Denied rule) given = given ≡ []
HearsNone end.AllBusy given = given ≡ []
HearsNone _ given = Unit {0}

-- A feeding was made up to an end, as any session of a sending end is. And of no product are blocks that the peer did not
-- want: the replies are the first records in what came ahead and what the link gave, and none is missing at any end; the
-- one announcement that may have none is the last message of the feeding.
pub record Feeds (why : SendEnd) (asked : Asked) (ahead : List ℕ) (old new : PassView)
    (before after : SessionRecord) : Type 0 where
  pub given : List ℕ
  pub sends : Sends feeding_kind why asked given old new before after
  pub open sends use {
    sending as feeding,
    is_sending as is_feeding,
    called,
    called_part,
    made,
    rows,
    sent,
    sent_part,
    exchanged,
    left,
    instants,
    instants_part,
    answered,
    goes,
    goes_part,
    idled,
    logged,
    last,
    cause,
  }
  pub unheard : HearsNone why given
  pub says : SaysLast why (stands feeding).next (ahead ++ given) (codes_of feeding)

-- ---- what comes first

-- The request was decided as the rules say, and where all of the class is left, the calls were made that open the
-- cursor, or that find all
-- taken. Others stand behind them.
pub record HasDecided (asked : Asked) (old new : PassView) : Type 0 where
  pub answered : Answered
  pub is : IsAnswerTo asked answered
  pub behind : List Entry
  pub made : Calls old new (opening_entries old.actor asked answered ++ behind)

-- Nothing passes on the link before the request is decided.
abbrev pub DecidesFirst : Asked → (old new : PassView) → (before after : LinkRecord) → Type 0
DecidesFirst asked old new before after = (after ≡ before) ⊎ HasDecided asked old new

-- ---- its parts

-- A feeding was made up to an end, and its cursor is not closed yet.
pub record HasFed (why : SendEnd) (asked : Asked) (ahead : List ℕ) (answered : Answered)
    (old new : Situation) : Type 0 where
  pub came : List ℕ
  pub sends : HasSent feeding_kind why asked came answered old new
  pub says : SaysLast why (stands sends.sending).next (ahead ++ came) (codes_of sends.sending)
