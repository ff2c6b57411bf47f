-- What a feeding comes to that reads a queue which nobody else calls meanwhile.
use Rattle.std.specs.Prelude.{ℕ, Bool, true, false, List, [], ◌∷◌, ◌++◌, map, filter, All}
use Rattle.std.specs.List.{flat_map}
use Rattle.ldm_model.specs.declared.event.Entry.{Entry}
use Rattle.ldm_model.specs.State.{State, Queued, queued}
use Rattle.ldm_shared.specs.Staying.{HasRow}
use Rattle.ldm_sender.specs.Asked.{Asked}
use Rattle.ldm_sender.specs.Due.{is_due}
use Rattle.ldm_upstream.specs.Turn.{Given, Handling, Passed, Turn, Lost, Gave}
use Rattle.ldm_upstream.specs.Feeding.{Feeding, last_given, entries_of}

-- a present row, as a feeding tells of it
abbrev pub queued_given : Queued → Given
queued_given q = record { n = q.number; time = q.time; product = q.product }

-- those of these products that are due, in order
abbrev pub due_of : Asked → List Given → List Given
due_of asked givens = filter (λ (given : Given). is_due asked given.time given.product.info) givens

-- the queued products that are due, in the order of their numbers
abbrev pub due_rows : Asked → State → List Given
due_rows asked s = due_of asked (map queued_given (queued s))

-- A history in which the calls of a feeding stand one behind the other, behind these and before those.
abbrev pub with_feeding : List Entry → ℕ → Asked → Feeding → List Entry → List Entry
with_feeding front actor asked feeding behind = front ++ (entries_of actor asked feeding ++ behind)

-- each product is the row of its number
abbrev pub AreRowsOf : State → List Given → Type 0
AreRowsOf s givens = All (λ (given : Given). HasRow given.n given.product given.time s) givens

-- whether the cursor was told losses
abbrev pub is_lost : Turn → Bool
is_lost (Lost count first last) = true
is_lost _ = false

-- the product of a turn, where it was offered to the peer: it went or was announced
abbrev pub offered : Given → Handling → List Given
offered given Passed = []
offered given _ = given ∷ []

abbrev pub offered_in : Turn → List Given
offered_in (Gave given handling) = offered given handling
offered_in _ = []

-- the products that a feeding offers the peer
abbrev pub offered_of : Feeding → List Given
offered_of feeding = flat_map offered_in feeding.turns ++ last_given feeding.last
