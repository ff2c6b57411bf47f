-- The laws that lead from the calls of a link to the states of its queues.
use Rattle.std.proofs.Common.{◌≡◌, ℕ, ◌+◌, ◌*◌, ◌≤◌, List, ◌++◌, length, Some, None}
use Rattle.std.specs.Prelude.{IsSome, true, slice_get}
use Rattle.ldm_types.specs.declared.class.ClassSpec.{ClassSpec}
use Rattle.ldm_types.specs.declared.limits.TheConstants.{LARGEST_ARENA}
use Rattle.ldm_types.specs.Info.{IsMetadata}
use Rattle.ldm_model.specs.declared.event.Entry.{Entry}
use Rattle.ldm_model.specs.Product.{Product, extent_of}
use Rattle.ldm_model.specs.State.{Row, State}
use Rattle.ldm_model.specs.History.{after, after_entries, IsAdmitted, IsLegal, IsLegalFrom}
use Rattle.ldm_class.specs.Classes.{resumed}
use Rattle.ldm_rpc.specs.Streams.{Placed, Position}
use Rattle.ldm_outside.specs.Session.{SessionRecord}
use Rattle.ldm_shared.specs.Passes.{PassView, Makes}
use Rattle.ldm_session.specs.Owed.{IsNoReply, Said}
use Rattle.ldm_intake.specs.Course.{Leads}
use Rattle.ldm_intake.specs.Receiving.{Receiving}
use Rattle.ldm_relay.specs.Spelling.{records_of}
use Rattle.ldm_intake.specs.Taken.{Taken}
use Rattle.ldm_intake.specs.TakesRecord.{Standing}
use Rattle.ldm_shared.specs.Staying.{HasRow}
use Rattle.ldm_sender.specs.declared.end.SendEnd.{SendEnd}
use Rattle.ldm_sender.specs.declared.end.SendEnd.TheVariants as end
use Rattle.ldm_sender.specs.Acts.{is_whole}
use Rattle.ldm_sender.specs.Asked.{Asked}
use Rattle.ldm_upstream.specs.Turn.{Given}
use Rattle.ldm_upstream.specs.Feeding.{Unanswered, codes_of, stands}
use Rattle.ldm_upstream.specs.Feeds.{Feeds}
use Rattle.ldm_upstream.specs.Turns.{goes_of_turns}
use Rattle.ldm_downstream.specs.Pieces.{Piece, arrivals, joined}
use Rattle.ldm_downstream.specs.Received.{received}
use Rattle.ldm_downstream.specs.Taking.{BreaksOff}
use Rattle.ldm_between_ends.specs.Counts.{most_fed}
use Rattle.ldm_between_ends.specs.Codes.{Agree, soon_codes}
use Rattle.ldm_between_ends.specs.Handed.{handed}
use Rattle.ldm_between_ends.specs.Narrowing.{IsNarrowing, Narrows}
use Rattle.ldm_between_ends.specs.Passing.{CameAt, Carries, CarriesAll, HasAsked, IsAnswered, IsGranted, IsPassing, IsSound, Passing, record_at}
use Rattle.ldm_between_ends.specs.Queue.{passed_all, products_of}
use Rattle.ldm_between_ends.specs.Ungranted.{EndsByReply, IsUngranted}
use Rattle.ldm_between_ends.specs.Alone.{due_rows, offered_of}
use Rattle.ldm_between_ends.specs.OnePass.{IsOnlyPass, state_of}

pub record Laws : Type 0 where
  -- of products that pass
  pub read : (p : Passing) (given more : List ℕ) (behind : List Placed) → IsGranted p.asked p.feeding → HasAsked p.asked p.begins → Carries p
      → Leads p.actor (received p.begins (record_at p.at) p.pieces) p.made p.came_to → Said given (codes_of p.feeding) behind → given ++ more ≡ records_of p.came_to.replies
      → Agree (codes_of p.feeding) (soon_codes p.came_to.replies)
  pub sound : (given : Given) → IsMetadata given.product.info → length given.product.body ≡ given.product.info.size → extent_of given.product.info ≤ LARGEST_ARENA → IsSound given
  pub passed : (p : Passing) (now : ℕ) (queue : State) → IsPassing p → CarriesAll p → IsAnswered p.feeding.last → CameAt now p.pieces → IsLegalFrom queue p.made
      → after_entries queue p.made ≡ passed_all p.actor p.asked.max_hereis now (products_of (handed p.feeding)) queue
  pub narrows : (p : Passing) (class : ClassSpec) → IsNarrowing p class → Narrows p class
  -- of a feeding by the only pass of a queue
  pub offered : (asked : Asked) (ahead : List ℕ) (old new : PassView) (before after : SessionRecord) → (feeds : Feeds end.Stopped asked ahead old new before after) → IsOnlyPass old
      → asked.class.from ≡ 0 → resumed asked.class.specs.items ≡ None → offered_of feeds.feeding ≡ due_rows asked (state_of old)
  pub unchanged : (why : SendEnd) (asked : Asked) (ahead : List ℕ) (old new : PassView) (before after : SessionRecord) → Feeds why asked ahead old new before after → IsOnlyPass old
      → is_whole why ≡ true → state_of new ≡ state_of old
  pub goes_on : (old new : PassView) (made : List Entry) → Makes old new made → old.passes ≡ 1 → old.actor ≡ 0 → new.seen ≡ old.seen ++ made
  -- of the products of a queue
  pub admitted : (arena slots : ℕ) (history : List Entry) → IsLegal arena slots history → (n : ℕ) (row : Row) → slice_get (after arena slots history).rows n ≡ Some row
      → IsAdmitted history n row.product row.time
  pub sized : (arena slots : ℕ) (history : List Entry) → IsLegal arena slots history → (n : ℕ) (product : Product) (time : ℕ)
      → HasRow n product time (after arena slots history) → length product.body ≡ product.info.size
  -- of the calls of a receiver
  pub received_few : (actor : ℕ) (s : Receiving) (p : Position) (pieces : List Piece) (made : List Entry) (to : Taken) → Leads actor (received s p pieces) made to
      → length made ≤ 2 * length (joined pieces)
  pub fits : (arena slots : ℕ) (history : List Entry) → IsLegal arena slots history → (n : ℕ) (product : Product) (time : ℕ)
      → HasRow n product time (after arena slots history) → extent_of product.info ≤ arena

-- The laws that lead from the bytes of a feeding to the end of its receiver, and those on how many calls both make.
pub record EndLaws : Type 0 where
  pub fed : (why : SendEnd) (asked : Asked) (ahead : List ℕ) (old new : PassView) (before after : SessionRecord) → (feeds : Feeds why asked ahead old new before after) → IsOnlyPass old
      → old.arena ≤ LARGEST_ARENA → length new.seen ≤ length old.seen + most_fed (length (goes_of_turns feeds.feeding.turns)) old.slots
  pub broke_off : (p : Position) (pieces : List Piece) (old new : Standing) (breaks : BreaksOff (arrivals p pieces) old new)
      → length breaks.takes.made + length breaks.made ≤ 2 * length (joined pieces) + 2
  pub live : (p : Passing) → IsPassing p → p.came_to.end ≡ None
  pub replied : (p : Passing) (ungranted : IsUngranted p) → CarriesAll p → EndsByReply p ungranted
  pub part : (p : Passing) → IsUngranted p → IsSome p.came_to.end → CarriesAll p
  pub answered : (p : Passing) (product : Given) (sent_at at : ℕ) (given more : List ℕ) (behind : List Placed) → IsPassing p → CarriesAll p
      → p.feeding.last ≡ Unanswered product sent_at → Said given (codes_of p.feeding) behind → given ++ more ≡ records_of p.came_to.replies
      → IsNoReply (stands p.feeding).next at given behind → ⊥
