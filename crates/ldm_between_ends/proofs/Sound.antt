-- The products of a queue are such as an arena can have.
use Rattle.std.proofs.Common.{◌≡◌, ℕ, ◌≤◌, List, [], ◌∷◌, ◌++◌, length, Some, inl, inr, subst, arith}
use Rattle.std.specs.Prelude.{All, slice_get}
use Rattle.std.proofs.lemmas.List.Elements.{All-weaker}
use Rattle.ldm_types.specs.declared.limits.TheConstants.{LARGEST_ARENA}
use Rattle.ldm_types.specs.Info.{IsMetadata}
use Rattle.ldm_model.specs.declared.event.Entry.{Entry}
use Rattle.ldm_model.specs.Product.{Product, extent_of}
use Rattle.ldm_model.specs.State.{Row, empty}
use Rattle.ldm_model.specs.History.{after, after_entries, IsAdmitted, IsAnswered, IsLegal, IsLegalFrom}
use Rattle.ldm_model.proofs.Appended.{IsLegalFrom-append}
use Rattle.ldm_shared.specs.Staying.{HasRow}
use Rattle.ldm_shared.specs.Passes.{PassView, HasSeen}
use Rattle.ldm_upstream.specs.Course.{AreRows}
use Rattle.ldm_upstream.specs.Turn.{Given}
use Rattle.ldm_between_ends.specs.Passing.{IsSound}

-- The laws of products that are used.
pub record ProductLaws : Type 0 where
  pub admitted : (arena slots : ℕ) (history : List Entry) → IsLegal arena slots history → (n : ℕ) (row : Row) → slice_get (after arena slots history).rows n ≡ Some row
      → IsAdmitted history n row.product row.time
  pub sized : (arena slots : ℕ) (history : List Entry) → IsLegal arena slots history → (n : ℕ) (product : Product) (time : ℕ)
      → HasRow n product time (after arena slots history) → length product.body ≡ product.info.size
  pub fits : (arena slots : ℕ) (history : List Entry) → IsLegal arena slots history → (n : ℕ) (product : Product) (time : ℕ)
      → HasRow n product time (after arena slots history) → extent_of product.info ≤ arena
  pub sound : (given : Given) → IsMetadata given.product.info → length given.product.body ≡ given.product.info.size → extent_of given.product.info ≤ LARGEST_ARENA → IsSound given

-- an entry of a legal history was possible
answered-at : (arena slots : ℕ) (history front behind : List Entry) (entry : Entry) → IsLegal arena slots history → history ≡ front ++ entry ∷ behind
    → IsAnswered (after_entries (empty arena slots) front) entry
answered-at arena slots history front behind entry legal is =
    ((IsLegalFrom-append front (entry ∷ behind) (empty arena slots)).0 (subst (λ (h : List Entry). IsLegalFrom (empty arena slots) h) is legal)).1.0

admitted-metadata : (arena slots : ℕ) (history : List Entry) (n : ℕ) (product : Product) (time : ℕ) → IsLegal arena slots history → IsAdmitted history n product time
    → IsMetadata product.info
admitted-metadata arena slots history n product time legal (inl inserted) =
    (answered-at arena slots history inserted.front inserted.behind _ legal inserted.is_entry).possible.1
admitted-metadata arena slots history n product time legal (inr committed) =
    (answered-at arena slots history committed.front _ _ legal committed.is_entries).possible

module _ (laws : ProductLaws) (pass : PassView) (has : HasSeen pass) (small : pass.arena ≤ LARGEST_ARENA) where
  row-sound : (given : Given) → HasRow given.n given.product given.time (after pass.arena pass.slots pass.seen) → IsSound given
  row-sound given row =
      let admitted = laws.admitted pass.arena pass.slots pass.seen has.legal given.n (record { product = given.product; time = given.time; place = row.0 }) row.1 in
      let info = admitted-metadata pass.arena pass.slots pass.seen given.n given.product given.time has.legal admitted in
      let sized = laws.sized pass.arena pass.slots pass.seen has.legal given.n given.product given.time row in
      let fits = laws.fits pass.arena pass.slots pass.seen has.legal given.n given.product given.time row in
      laws.sound given info sized (omega (arith, fits, small))

  pub rows-sound : (givens : List Given) → AreRows pass givens → All IsSound givens
  rows-sound givens rows =
      All-weaker (λ (given : Given). HasRow given.n given.product given.time (after pass.arena pass.slots pass.seen)) IsSound row-sound givens rows
