-- What the law of a sole reader is for the pass that is a queue's only one.
use Rattle.std.proofs.Common.{◌≡◌, ℕ, Bool, true, false, List, ◌++◌, refl, sym, subst, inl, inr}
use Rattle.std.specs.Prelude.{◌⊎◌}
use Rattle.std.proofs.lemmas.Bool.{false≢true}
use Rattle.ldm_model.specs.declared.event.Entry.{Entry}
use Rattle.ldm_model.specs.History.{after, IsLegal}
use Rattle.ldm_shared.specs.Passes.{PassView, HasSeen, Makes, Calls}
use Rattle.ldm_outside.specs.Session.{SessionRecord}
use Rattle.ldm_sender.specs.declared.end.SendEnd.{SendEnd}
use Rattle.ldm_sender.specs.declared.end.SendEnd.TheVariants as end
use Rattle.ldm_sender.specs.Acts.{is_whole}
use Rattle.ldm_sender.specs.Calls.{MayBeUnmade}
use Rattle.ldm_sender.specs.Does.{IsAllBut}
use Rattle.ldm_upstream.specs.Feeds.{Feeds}
use Rattle.ldm_sender.specs.Ending.{closing_of}
use Rattle.ldm_sender.specs.Asked.{Asked}
use Rattle.ldm_sender.specs.Opening.{Answered, Denied, Reclassed, Busy, Opened, closing_entries}
use Rattle.ldm_upstream.specs.Turn.{Turn}
use Rattle.ldm_upstream.specs.Feeding.{Last, Stopped, Feeding, MayTurn, entries_of}
use Rattle.ldm_between_ends.specs.OnePass.{state_of, IsOnlyPass}

-- a pass that may have made no call, and had seen something before
pub seen-by : (old new : PassView) (made : List Entry) → HasSeen old → Calls old new made → Makes old new made
seen-by old new made seen calls = record { same = calls.same; adds = calls.adds; has_seen = by_case calls.has_seen }
  where
    by_case : (new ≡ old) ⊎ HasSeen new → HasSeen new
    by_case (inl same) = subst HasSeen (sym same) seen
    by_case (inr has) = has

module _ (old new : PassView) (made : List Entry) (makes : Makes old new made) (goes_on : new.seen ≡ old.seen ++ made) where
  -- the whole history is legal
  pub seen-legal : IsLegal old.arena old.slots (old.seen ++ made)
  seen-legal = coe 0 1 (i. IsLegal (makes.same i).arena (makes.same i).slots (goes_on i)) makes.has_seen.legal

  pub seen-state : state_of new ≡ after old.arena old.slots (old.seen ++ made)
  seen-state = λ i. after (makes.same i).arena (makes.same i).slots (goes_on i)

-- only a cursor that was opened comes to the end
pub opened-of : (answered : Answered) (turns : List Turn) (last : Last) (end : ℕ) → MayTurn answered turns last → last ≡ Stopped end
    → (missed : Bool) × (k : ℕ) × (answered ≡ Opened missed k)
opened-of (Opened missed k) turns last end may stopped = (missed, k, refl)
opened-of (Denied rule) turns last end may stopped = let h = may.1 in absurd cc
opened-of (Reclassed class) turns last end may stopped = let h = may.1 in absurd cc
opened-of (Busy missed) turns last end may stopped = let h = may.1 in absurd cc

-- the calls that were made, where the end is a whole one
abbrev pub whole_entries : ℕ → Asked → Feeding → List Entry
whole_entries actor asked feeding = entries_of actor asked feeding ++ closing_entries actor feeding.answered

closing-whole : (actor : ℕ) (why : SendEnd) (answered : Answered) → is_whole why ≡ true → closing_of actor why answered ≡ closing_entries actor answered
closing-whole actor end.Worn answered whole = absurd (false≢true whole)
closing-whole actor why answered whole = refl

called-whole : (part whole : List Entry) (b : Bool) → b ≡ true → IsAllBut b MayBeUnmade part whole → part ≡ whole
called-whole part whole true is h = h
called-whole part whole false is h = absurd (false≢true is)

module _ (why : SendEnd) (asked : Asked) (ahead : List ℕ) (old new : PassView) (before after' : SessionRecord) (feeds : Feeds why asked ahead old new before after') (only : IsOnlyPass old) (whole : is_whole why ≡ true) where
  -- what was made with the pass
  fed-made : feeds.called ++ closing_of old.actor why feeds.feeding.answered ≡ whole_entries old.actor asked feeds.feeding
  fed-made = λ i. called-whole feeds.called (entries_of old.actor asked feeds.feeding) (is_whole why) whole feeds.called_part i
      ++ closing-whole old.actor why feeds.feeding.answered whole i

  pub fed-makes : Makes old new (whole_entries old.actor asked feeds.feeding)
  fed-makes = subst (Makes old new) fed-made (seen-by old new (feeds.called ++ closing_of old.actor why feeds.feeding.answered) only.has_seen feeds.made)

-- an end by the gate comes behind the end of the queue
pub fed-opened : (asked : Asked) (ahead : List ℕ) (old new : PassView) (before after' : SessionRecord) (feeds : Feeds end.Stopped asked ahead old new before after')
    → (missed : Bool) × (k : ℕ) × (feeds.feeding.answered ≡ Opened missed k)
fed-opened asked ahead old new before after' feeds = opened-of feeds.feeding.answered feeds.feeding.turns feeds.feeding.last feeds.last.0 feeds.is_feeding.opened feeds.last.1
