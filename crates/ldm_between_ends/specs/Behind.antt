-- A session that goes on behind a product of the feeder's queue.
use Rattle.std.specs.Prelude.{◌≡◌, ℕ, ◌<◌, true, false, List, ◌∷◌, ◌++◌, Contains, Some, is_some, slice_get}
use Rattle.ldm_types.specs.Info.{Metadata}
use Rattle.ldm_model.specs.declared.event.Reply.TheVariants.{Product}
use Rattle.ldm_model.specs.declared.event.Entry.{Entry}
use Rattle.ldm_model.specs.State.{Row}
use Rattle.ldm_model.specs.Law.{at_entries, state_before, is_own, is_present}
use Rattle.ldm_class.specs.Classes.{resumed}
use Rattle.ldm_sender.specs.Opening.{Opened}
use Rattle.ldm_between_ends.specs.Session.{Session}
use Rattle.ldm_between_ends.specs.Offered.{offered, is_due_number}

-- The class names the signature of product n, which was still queued as the cursor was opened behind it.
pub record IsBehind (s : Session) (n : ℕ) : Type 0 where
  -- the cursor was opened by the signature
  pub found : s.passing.feeding.answered ≡ Opened false s.life.k
  pub row : Row
  pub is_row : slice_get (state_before s.life).rows n ≡ Some row
  pub queued : is_some row.place ≡ true
  pub named : resumed s.passing.asked.class.specs.items ≡ Some row.product.info.signature

-- A call gave product m. Then no product was queued that is due, that has a number between n and m, and that was not offered.
pub record IsNextBehind (s : Session) (n m : ℕ) : Type 0 where
  -- the call, and the entries since the opening that stand before and behind it
  pub front : List Entry
  pub call : Entry
  pub behind : List Entry
  pub since : s.life.since ≡ front ++ call ∷ behind
  pub is_call : is_own s.life call ≡ true
  pub time : ℕ
  pub info : Metadata
  pub gave : call.reply ≡ Product m time info
  pub passed : (r : ℕ) → n < r → r < m → is_due_number s r ≡ true → ¬ Contains (offered s) r →
      is_present (at_entries s.life front) r ≡ false
