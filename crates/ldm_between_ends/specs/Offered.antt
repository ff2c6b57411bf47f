-- Which products of the feeder's queue were offered to the receiver in a session, and which were due.
use Rattle.std.specs.Prelude.{ℕ, Bool, true, false, not, List, length, map, filter, take, drop, Option, Some, None, slice_get}
use Rattle.ldm_model.specs.declared.event.Event.{Event}
use Rattle.ldm_model.specs.declared.event.Event.TheVariants.{Insert, Reserve, Commit}
use Rattle.ldm_model.specs.declared.event.Reply.{Reply}
use Rattle.ldm_model.specs.declared.event.Entry.{Entry}
use Rattle.ldm_model.specs.State.{State, Row}
use Rattle.ldm_model.specs.History.{after}
use Rattle.ldm_model.specs.Law.{given}
use Rattle.ldm_sender.specs.Asked.{Asked}
use Rattle.ldm_sender.specs.Due.{is_due}
use Rattle.ldm_between_ends.specs.Handed.{Handed, handed}
use Rattle.ldm_between_ends.specs.Passing.{Passing, moments_of}
use Rattle.ldm_between_ends.specs.Takings.{Joins, Takings, BeginsFirst, is_reserved}
use Rattle.ldm_between_ends.specs.Session.{Session}

-- ---- what was offered

-- What the receiver asked its queue is what is asked for the products that are done, in order and each once, and perhaps some of what
-- is asked for the first that is left.
abbrev pub IsAskedFor : Passing → (done left : List Handed) → Type 0
IsAskedFor p done left = Joins (Takings p.actor (moments_of p.pieces) done) (BeginsFirst p.actor left) p.made

-- Whether a call of the receiver on its queue is the last one for a product: it inserts it, it commits it, or it asks for a region and
-- gets none, so that the announcement is declined.
abbrev pub settles : Event → Reply → Bool
settles (Insert now info body) reply = true
settles (Commit r now) reply = true
settles (Reserve info) reply = not (is_reserved reply)
settles _ reply = false

abbrev pub count_settled : List Entry → ℕ
count_settled made = length (filter (λ (entry : Entry). settles entry.event entry.reply) made)

-- The products that were offered: as many as the receiver's calls settled, of those that the feeder sent or announced, in order.
abbrev pub offered_products : Session → List Handed
offered_products s = take (count_settled s.passing.made) (handed s.passing.feeding)

-- the others, that were not, or not to the end
abbrev pub products_left : Session → List Handed
products_left s = drop (count_settled s.passing.made) (handed s.passing.feeding)

-- the numbers that they have in the feeder's queue
abbrev pub numbers_of : List Handed → List ℕ
numbers_of products = map (λ (product : Handed). product.given.n) products

abbrev pub offered : Session → List ℕ
offered s = numbers_of (offered_products s)

-- ---- what was due

-- the feeder's queue, as far as the feeder has seen it
abbrev pub queue_of : Session → State
queue_of s = after s.pass.arena s.pass.slots s.pass.seen

abbrev pub is_due_row : Asked → Option Row → Bool
is_due_row asked None = false
is_due_row asked (Some row) = is_due asked row.time row.product.info

-- whether the product of that number is due to who asked
abbrev pub is_due_number : Session → ℕ → Bool
is_due_number s n = is_due_row s.passing.asked (slice_get (queue_of s).rows n)

-- the due ones of the products that the cursor was given, in the order in which it was given them
abbrev pub due : Session → List ℕ
due s = filter (is_due_number s) (given s.life)
