-- What a reader knows of its cursor, by the history that its pass has seen.
use Rattle.std.specs.Prelude.{◌≡◌, ℕ, ◌≤◌, ◌&&◌, false, List, ◌∷◌, ◌++◌, length, All, Option, Some, None}
use Rattle.ldm_model.specs.declared.event.Start.{Start}
use Rattle.ldm_model.specs.declared.event.Start.TheVariants as start
use Rattle.ldm_model.specs.declared.event.Reply.{Reply}
use Rattle.ldm_model.specs.declared.event.Reply.TheVariants as reply
use Rattle.ldm_model.specs.declared.event.Entry.{Entry}
use Rattle.ldm_model.specs.declared.replies.StepReply.{StepReply}
use Rattle.ldm_model.specs.declared.replies.StepReply.TheVariants as stepping
use Rattle.ldm_model.specs.Product.{Product, extent_of}
use Rattle.ldm_model.specs.History.{after}
use Rattle.ldm_model.specs.Law.{is_close}
use Rattle.ldm_shared.specs.Own.{own}
use Rattle.ldm_shared.specs.Passes.{PassView, HasSeen}
use Rattle.ldm_shared.specs.OwnReaders.{opening_by, is_about, number_held}
use Rattle.ldm_shared.specs.Staying.{HasRow}
use Rattle.ldm_shared.specs.declared.reader.Held.{Held}
use Rattle.ldm_shared.specs.declared.reader.Came.{Came}
use Rattle.ldm_shared.specs.declared.reader.Came.TheVariants as came
use Rattle.ldm_shared.specs.declared.reader.Opening.{Opening}
use Rattle.ldm_shared.specs.declared.reader.Opening.TheVariants as opening

-- The pass opened a cursor at that place and did not close it, and holds the product of that number by it, or none.
pub record HasCursor (pass : PassView) (k : ℕ) (held : Option ℕ) : Type 0 where
  pub has_seen : HasSeen pass
  -- its own entries before the opening, what it was opened for, and its own entries since
  pub earlier : List Entry
  pub feed : ℕ
  pub start : Start
  pub since : List Entry
  pub own_are : own pass.actor pass.seen ≡ earlier ++ opening_by pass.actor (record { earlier = earlier; feed = feed; start = start; k = k; since = since }) ∷ since
  pub not_closed : All (λ (entry : Entry). (is_about k entry && is_close entry.event) ≡ false) since
  pub holds : number_held (record { earlier = earlier; feed = feed; start = start; k = k; since = since }) ≡ held

-- It holds a product by the cursor: the one of that number, as it was admitted.
pub record HoldsProduct (pass : PassView) (k n time : ℕ) (product : Product) : Type 0 where
  pub cursor : HasCursor pass k (Some n)
  pub row : HasRow n product time (after pass.arena pass.slots pass.seen)
  pub whole : length product.body ≡ product.info.size
  pub fits : extent_of product.info ≤ pass.arena

-- the same, of what a step gave, and with the bytes of the body
abbrev pub Holds : PassView → ℕ → Held → List ℕ → Type 0
Holds pass k held body = HoldsProduct pass k held.n held.time (record { info = held.info; body = body })

-- what a step came to, as a reply of the queue
abbrev pub came_reply : Came → Reply
came_reply (came.Gap count first last) = reply.Gap count first last
came_reply (came.Product held) = reply.Product held.n held.time held.info
came_reply (came.End at) = reply.End at

-- a step of a cursor that is there and holds nothing
abbrev pub GivesSome : StepReply → Type 0
GivesSome stepping.NoCursor = ⊥
GivesSome (stepping.Holding n) = ⊥
GivesSome _ = Unit {0}

-- What the pass has then.
abbrev pub HasStepped : PassView → ℕ → Came → Type 0
HasStepped pass k (came.Gap count first last) = HasCursor pass k None
HasStepped pass k (came.Product held) = (body : List ℕ) × Holds pass k held body
HasStepped pass k (came.End at) = HasCursor pass k None

-- what an opening came to, as a reply of the queue
abbrev pub opening_reply : Opening → Reply
opening_reply (opening.Opened reader) = reply.Opened reader.k
opening_reply opening.AllBusy = reply.AllBusy
opening_reply opening.NotQueued = reply.NotQueued

abbrev pub HasOpened : PassView → Opening → Type 0
HasOpened pass (opening.Opened reader) = HasCursor pass reader.k None
HasOpened pass opening.AllBusy = Unit {0}
HasOpened pass opening.NotQueued = Unit {0}

-- a place to begin that a product names
abbrev pub NamesProduct : Start → Type 0
NamesProduct (start.AfterSignature signature) = Unit {0}
NamesProduct _ = ⊥

abbrev pub IfNotQueued : Opening → Type 0 → Type 0
IfNotQueued opening.NotQueued P = P
IfNotQueued _ P = Unit {0}
