-- The life of a feeding's cursor, in the history that the feeder has seen of its queue.
use Rattle.std.specs.Prelude.{◌≡◌, ℕ, Bool, true, false, List, [], ◌∷◌, ◌++◌, All}
use Rattle.ldm_model.specs.declared.event.Reply.{Reply}
use Rattle.ldm_model.specs.declared.event.Reply.TheVariants.{Product}
use Rattle.ldm_model.specs.declared.event.Entry.{Entry}
use Rattle.ldm_model.specs.Law.{Point, IsPointOf, opening}
use Rattle.ldm_shared.specs.Own.{own}
use Rattle.ldm_shared.specs.Passes.{PassView}
use Rattle.ldm_sender.specs.Asked.{Asked}
use Rattle.ldm_sender.specs.Opening.{opening_entries}
use Rattle.ldm_upstream.specs.Feeding.{Feeding, last_entries}
use Rattle.ldm_upstream.specs.Turns.{entries_of_turns}

-- whether a reply gives a product
abbrev pub gives : Reply → Bool
gives (Product n time info) = true
gives _ = false

-- the calls of a feeding on its cursor, behind the one that opened it and before the one that closes it
abbrev pub calls_of : ℕ → ℕ → Feeding → List Entry
calls_of actor k feeding = entries_of_turns actor k feeding.turns ++ last_entries actor k feeding.last

-- The cursor of the feeding has this life: it was opened as the request was answered, and the calls on it since then are those of the
-- feeding. Where the feeding broke off, some of its calls were not made; none of these gives a product, so the feeding is told up to
-- the last product that the cursor was given.
pub record HasLife (pass : PassView) (asked : Asked) (feeding : Feeding) (life : Point) : Type 0 where
  pub is_point : IsPointOf pass.arena pass.slots pass.seen life
  pub owner : life.owner ≡ pass.actor
  -- the feeder's calls before the request
  pub earlier : List Entry
  pub opened : own life.owner life.before ++ opening life ∷ [] ≡ earlier ++ opening_entries life.owner asked feeding.answered
  pub unmade : List Entry
  pub called : own life.owner life.since ++ unmade ≡ calls_of life.owner life.k feeding
  pub none_given : All (λ entry. gives entry.reply ≡ false) unmade
