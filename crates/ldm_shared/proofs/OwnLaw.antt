-- The law of readers, over a pass's own entries.
use Rattle.std.proofs.Common.{◌≡◌, ℕ, zero, suc, ◌+◌, ◌<◌, ◌==◌, true, false, cond, List, [], ◌∷◌, ◌++◌, length, All, Contains, Option, Some, None, refl, sym, ap, subst, ◌∙◌, arith, append_assoc}
use Rattle.std.specs.Prelude.{◌&&◌, ◌↔◌, slice_get}
use Rattle.std.specs.List.{range_with_len}
use Rattle.std.specs.List.Sorted.{IsStrictlyIncreasing}
use Rattle.std.proofs.lemmas.Bool.{and_parts}
use Rattle.std.proofs.lemmas.List.Elements.{All-nil, All-cons, All-push, All-weaker, All-contains, All-filter, filter_passes}
use Rattle.ldm_types.specs.Info.{Metadata}
use Rattle.ldm_types.specs.Feed.{feeds_meet}
use Rattle.ldm_model.specs.declared.event.Event.TheVariants.{Step, Read}
use Rattle.ldm_model.specs.declared.event.Reply.TheVariants as reply
use Rattle.ldm_model.specs.declared.event.Entry.{Entry}
use Rattle.ldm_model.specs.Product.{Product}
use Rattle.ldm_model.specs.State.{Row, end_of}
use Rattle.ldm_model.specs.History.{after, IsLegal, IsAdmitted}
use Rattle.ldm_model.specs.Law.{Point, opening, history_of, is_step, state_at, row_of, feed_of_row, is_own, is_close, is_due, due, with_given, given, lost, told, after_gap, count_told, with_count}
use Rattle.ldm_model.specs.Law.{IsPointOf, IsServed, IsAnsweredAt, ObeysLaw}
use Rattle.ldm_model.proofs.Admitted.{IsAdmitted-longer}
use Rattle.ldm_model.proofs.Points.{next_point, told-next, count-next}
use Rattle.ldm_shared.specs.Own.{own}
use Rattle.ldm_shared.specs.Passes.{PassView, HasSeen}
use Rattle.ldm_shared.specs.OwnReaders.{OwnPoint, is_about, IsOwnPointOf, numbers_given, losses_told, number_held, with_held, IsSeenAt, IsCalledAt, Agrees, HasLost}
use Rattle.ldm_shared.specs.OwnReaders.{IsAdmittedFor, IsAdmittedWith, ReadsOfHeld, AtEveryOwnPoint, over_own}
use Rattle.ldm_shared.proofs.OwnFolds.{over_own-same, over_own-held, number_of}
use Rattle.ldm_shared.proofs.OwnPoints.{point_seen, point_called}

-- both say the same
pub agrees : (pass : PassView) (q : OwnPoint) (p : Point) → IsSeenAt pass q p → Agrees q p
agrees pass q p at =
    let same : own p.owner p.since ≡ q.since = ap (λ (n : ℕ). own n p.since) at.owner ∙ at.since in
    record {
      given = over_own-same p with_given [] [] p.since ∙ (λ i. over_own (at.place i) with_given [] (same i));
      told = over_own-same p with_count 0 [] p.since ∙ (λ i. over_own (at.place i) with_count 0 (same i));
      held = over_own-held p None [] p.since ∙ (λ i. over_own (at.place i) with_held None (same i));
    }

-- what is admitted by a front of a history is admitted by the history
pub admitted_more : (front rest history : List Entry) (n : ℕ) (product : Product) (time : ℕ) → front ++ rest ≡ history → IsAdmitted front n product time
    → IsAdmitted history n product time
admitted_more front rest history n product time e admitted = subst (λ (es : List Entry). IsAdmitted es n product time) e (IsAdmitted-longer front rest n product time admitted)

row_there : (rows : List Row) (n : ℕ) → n < length rows → (row : Row) × (slice_get rows n ≡ Some row)
row_there [] n less = absurd (omega arith)
row_there (row ∷ rows) zero less = (row, refl)
row_there (row ∷ rows) (suc n) less = row_there rows n (omega arith)

below_range : (a n : ℕ) → All (λ (m : ℕ). m < a + n) (range_with_len a n)
below_range a zero = All-nil (λ (m : ℕ). m < a + 0)
below_range a (suc n) =
    All-cons (λ (m : ℕ). m < a + suc n) a (range_with_len (a + 1) n) (omega arith)
    (All-weaker (λ (m : ℕ). m < (a + 1) + n) (λ (m : ℕ). m < a + suc n) (λ m less. omega arith) (range_with_len (a + 1) n) (below_range (a + 1) n))

-- a row for the reader was admitted, and is of its feedtypes
due_row : (p : Point) (n : ℕ) → Contains (due p) n → (row : Row) × (row_of p n ≡ Some row) × (feeds_meet p.feed row.product.info.feed ≡ true)
due_row p n there =
    let end = end_of (state_at p) in
    let within : n < 0 + end = All-contains (λ (m : ℕ). m < 0 + end) (due p) n (All-filter (is_due p) (λ (m : ℕ). m < 0 + end) (range_with_len 0 end) (below_range 0 end)) there in
    let due_n : is_due p n ≡ true = All-contains (λ (m : ℕ). is_due p m ≡ true) (due p) n (filter_passes (is_due p) (range_with_len 0 end)) there in
    let row = row_there (state_at p).rows n (omega (arith, within)) in
    let meets : feeds_meet p.feed (feed_of_row (row_of p n)) ≡ true = (and_parts (feeds_meet p.feed (feed_of_row (row_of p n))) _ due_n).0 in
    (row.0, row.1, subst (λ (r : Option Row). feeds_meet p.feed (feed_of_row r) ≡ true) row.1 meets)

abbrev pub ProductsAdmitted : Type 0
ProductsAdmitted = (arena slots : ℕ) (history : List Entry) → IsLegal arena slots history → (n : ℕ) (row : Row) → slice_get (after arena slots history).rows n ≡ Some row
    → IsAdmitted history n row.product row.time

abbrev pub FrontsAreLegal : Type 0
FrontsAreLegal = (arena slots : ℕ) (front behind : List Entry) → IsLegal arena slots (front ++ behind) → IsLegal arena slots front

abbrev pub LawOfAll : Type 0
LawOfAll = (arena slots : ℕ) (history : List Entry) → IsLegal arena slots history → ObeysLaw arena slots history

pub served : LawOfAll → AtEveryOwnPoint (λ (pass : PassView) (q : OwnPoint). (p : Point) → IsSeenAt pass q p → IsServed p)
served law pass has q own_at p at = (law pass.arena pass.slots pass.seen has.legal).served p at.is_point

pub in_order : LawOfAll → AtEveryOwnPoint (λ (pass : PassView) (q : OwnPoint). IsStrictlyIncreasing (numbers_given q))
in_order law pass has q own_at =
    let seen = point_seen pass q own_at in
    subst IsStrictlyIncreasing (agrees pass q seen.0 seen.1).given (served law pass has q own_at seen.0 seen.1).in_order

pub of_its_feeds : LawOfAll → ProductsAdmitted → FrontsAreLegal → AtEveryOwnPoint (λ (pass : PassView) (q : OwnPoint). All (IsAdmittedFor pass.seen q.feed) (numbers_given q))
of_its_feeds law products fronts pass has q own_at =
    let seen = point_seen pass q own_at in
    let p = seen.0 in
    let at = seen.1 in
    let is = at.is_point in
    let whole : IsLegal p.arena p.slots (history_of p ++ is.rest) = coe 0 1 (i. IsLegal (sym is.same_arena i) (sym is.same_slots i) (sym is.front i)) has.legal in
    let legal : IsLegal p.arena p.slots (history_of p) = fronts p.arena p.slots (history_of p) is.rest whole in
    let each : (n : ℕ) → Contains (due p) n → IsAdmittedFor pass.seen q.feed n = λ n there.
    let row = due_row p n there in record {
      product = row.0.product;
      time = row.0.time;
      admitted = admitted_more (history_of p) is.rest pass.seen n row.0.product row.0.time is.front (products p.arena p.slots (history_of p) legal n row.0 row.1);
      meets = subst (λ (f : ℕ). feeds_meet f row.0.product.info.feed ≡ true) at.feed row.2;
    } in
    subst (All (IsAdmittedFor pass.seen q.feed)) (agrees pass q p at).given
    (All-weaker (Contains (due p)) (IsAdmittedFor pass.seen q.feed) each (given p) (served law pass has q own_at p at).only_due)

-- a call of the owner on its cursor
module _ (pass : PassView) (has : HasSeen pass) (q : OwnPoint) (own_at : IsOwnPointOf pass q)
    (entry : Entry) (later : List Entry) (next : own_at.rest ≡ entry ∷ later) (about : is_about q.k entry ≡ true) where
  abbrev came : (p : Point) × IsCalledAt pass q entry p × ((entry.actor == pass.actor) ≡ true)
  came = point_called pass q own_at entry later next

  abbrev p : Point
  p = came.0

  abbrev called : IsCalledAt pass q entry p
  called = came.1

  is_own_call : is_own p entry ≡ true
  is_own_call = (λ i. (entry.actor == called.at.owner i) && is_about (called.at.place i) entry) ∙ (λ i. came.2 i && about i)

  agree : Agrees q p
  agree = agrees pass q p called.at

  answered_there : LawOfAll → IsAnsweredAt p entry
  answered_there law = (law pass.arena pass.slots pass.seen has.legal).answered p called.at.is_point entry called.later called.next is_own_call

  pub answered : LawOfAll → (p : Point) × IsCalledAt pass q entry p × IsAnsweredAt p entry
  answered law = (p, called, answered_there law)

  pub gives_admitted : LawOfAll → (n time : ℕ) (info : Metadata) → entry.reply ≡ reply.Product n time info → IsAdmittedWith pass.seen n time info
  gives_admitted law n time info is_reply =
      let found = (answered_there law).next_given n time info is_reply in
      record {
        product = found.row.product;
        admitted = admitted_more (history_of p) called.at.is_point.rest pass.seen n found.row.product time called.at.is_point.front
            (subst (λ (at : ℕ). IsAdmitted (history_of p) n found.row.product at) (sym found.time_of_row) found.admitted);
        info_is = found.info_of_row;
      }

  pub reads_admitted : LawOfAll → (offset len : ℕ) (bytes : List ℕ) → entry.event ≡ Read q.k offset len → entry.reply ≡ reply.Bytes bytes
      → ReadsOfHeld pass.seen (number_held q) offset len bytes
  reads_admitted law offset len bytes is_event is_reply =
      let found = (answered_there law).held_bytes offset len bytes (is_event ∙ ap (λ (k : ℕ). Read k offset len) (sym called.at.place)) is_reply in
      record {
        number = found.hold.number;
        is_held = sym agree.held ∙ ap number_of found.holds;
        product = found.row.product;
        time = found.row.time;
        admitted = admitted_more (history_of p) called.at.is_point.rest pass.seen found.hold.number found.row.product found.row.time called.at.is_point.front found.admitted;
        part = found.part;
      }

  pub holding : LawOfAll → (n : ℕ) → is_step entry.event ≡ true → (entry.reply ≡ reply.Holding n) ↔ (number_held q ≡ Some n)
  holding law n a_step =
      subst (λ (held : Option ℕ). (entry.reply ≡ reply.Holding n) ↔ (held ≡ Some n)) agree.held ((answered_there law).one_at_a_time n a_step)

  module _ (law : LawOfAll) where
    -- where no loss is untold
    all_told : lost p ≡ told p → HasLost pass q entry (losses_told q)
    all_told all = record {
      point = p;
      called = called;
      counted = sym agree.told ∙ (((law pass.arena pass.slots pass.seen has.legal).served p called.at.is_point).tells_once.counted ∙ ap length (sym all));
    }

    pub product_after_all : (n time : ℕ) (info : Metadata) → entry.reply ≡ reply.Product n time info → HasLost pass q entry (losses_told q)
    product_after_all n time info is_reply = all_told ((answered_there law).next_given n time info is_reply).all_told

    pub end_after_all : (at : ℕ) → entry.reply ≡ reply.End at → HasLost pass q entry (losses_told q)
    end_after_all at is_reply = all_told ((answered_there law).end_has_all at is_reply).all_told

    -- the point behind the call
    point_behind : is_close entry.event ≡ false → IsPointOf pass.arena pass.slots pass.seen (next_point p entry)
    point_behind open_still =
        let is = called.at.is_point in
        record {
          same_arena = is.same_arena;
          same_slots = is.same_slots;
          rest = called.later;
          front =
              append_assoc p.before (opening p ∷ (p.since ++ entry ∷ [])) called.later
              ∙ (ap (λ (es : List Entry). p.before ++ opening p ∷ es) (append_assoc p.since (entry ∷ []) called.later)
              ∙ (sym (append_assoc p.before (opening p ∷ p.since) (entry ∷ called.later))
              ∙ (ap (λ (es : List Entry). history_of p ++ es) (sym called.next) ∙ is.front)));
          not_closed = All-push (λ (e : Entry). (is_own p e && is_close e.event) ≡ false) p.since entry is.not_closed (λ i. is_own_call i && open_still i);
        }

    pub gap_tells_all : (count first last : ℕ) → entry.event ≡ Step q.k → entry.reply ≡ reply.Gap count first last → HasLost pass q entry (losses_told q + count)
    gap_tells_all count first last is_event is_reply =
        let behind = point_behind (ap is_close is_event) in
        let tells = ((law pass.arena pass.slots pass.seen has.legal).served (next_point p entry) behind).tells_once in
        let told_then : told (next_point p entry) ≡ lost p = told-next p entry ∙ (λ i. cond (is_own_call i) (after_gap p (told p) (is_reply i)) (told p)) in
        let count_then : count_told (next_point p entry) ≡ count_told p + count = count-next p entry ∙ (λ i. cond (is_own_call i) (with_count (count_told p) (is_reply i)) (count_told p)) in
        record {
          point = p;
          called = called;
          counted = ap (λ (n : ℕ). n + count) (sym agree.told) ∙ (sym count_then ∙ (tells.counted ∙ ap length told_then));
        }
