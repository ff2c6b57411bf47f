-- The journal of a node's queue.
use Rattle.std.proofs.Common.{◌≡◌, ◌∙◌, ℕ, ◌+◌, ◌-◌, ◌<◌, List, [], ◌∷◌, ◌++◌, length, map, take, get_or, Option, None, Some, refl, sym, ap, subst, arith}
use Rattle.std.specs.Prelude.{IfSome}
use Rattle.std.specs.List.{range_with_len}
use Rattle.std.specs.Option.{option_map}
use Rattle.std.proofs.lemmas.List.{get_or-append_right, length-append, take_at}
use Rattle.std.proofs.lemmas.List.FromFn.{get_or-map-range_with_len, length-map-range_with_len, take-map-range_with_len}
use Rattle.ldm_types.specs.declared.signature.Signature.{Signature}
use Rattle.ldm_disk.specs.declared.desk.Desk.{Desk}
use Rattle.ldm_disk.specs.Desks.{DeskRecord}
use Rattle.ldm_shared.specs.Passes.{IsPassOf, IsSamePass, PassView, SharedView, new_pass}
use Rattle.ldm_node.specs.declared.clerk.Clerk.{Clerk}
use Rattle.ldm_node.specs.Clerks.{ArePassesFor, ClerkRecord, LeavesBehind, LeftRecord, RecordCause, clerk_tells}
use Rattle.ldm_conf.specs.Confs.{ConfView}
use Rattle.ldm_node_command.specs.Ending.{PutBackFirst}
use Rattle.ldm_node_command.specs.Node.{IsMade, Journals}
use Rattle.ldm_node_command.specs.Putting.{IsPutBack}
use Rattle.ldm_node_command.specs.Restoring.{Restored}
use Rattle.ldm_node_command.specs.Setup.{Setup}

-- without a journal there is nothing left of one
none_behind : (last pass : PassView) (setup : Setup) (conf : ConfView) (lasts : List (Option Signature)) (old : PassView) → setup.journal ≡ None
    → (clerk : Option ClerkRecord) (left : Option LeftRecord) → Restored setup conf old pass clerk lasts → LeavesBehind last pass clerk left → left ≡ None
none_behind last pass setup conf lasts old plain None None restored leaves = refl
none_behind last pass setup conf lasts old plain None (Some left) restored leaves = absurd leaves
none_behind last pass setup conf lasts old plain (Some clerk) left restored leaves = (let no : None ≡ Some restored.0.0 = sym plain ∙ restored.0.1 in absurd (cc no))

pub none_left : (setup : Setup) (conf : ConfView) (lasts : List (Option Signature)) (last : PassView) → setup.journal ≡ None → (left : Option LeftRecord)
    → Journals setup conf lasts last left → left ≡ None
none_left setup conf lasts last plain left journal =
    none_behind last journal.pass setup conf lasts (new_pass journal.shared (journal.shared.passes - 1)) plain journal.clerk left journal.restored journal.recorded

-- the passes are those of a node, with a clerk or without
pub are_passes : {F E C G : Type 0} (tells : Desk F E C G → DeskRecord) (setup : Setup) (conf : ConfView) (shared : SharedView) (passes : List PassView)
    (clerk : Option (Clerk F E C G)) (lasts : List (Option Signature)) → IsPutBack setup conf shared passes (option_map (clerk_tells tells) clerk) lasts
    → ArePassesFor shared passes (option_map (λ (k : Clerk F E C G). k.recorder) clerk)
are_passes tells setup conf shared passes None lasts back =
    record { behind = back.pass; are = back.are; of = back.of; actor = ap (λ (p : PassView). p.actor) back.same; is_for = back.restored.1 }
are_passes tells setup conf shared passes (Some clerk) lasts back =
    record { behind = back.pass; are = back.are; of = back.of; actor = ap (λ (p : PassView). p.actor) back.same; is_for = back.restored.1.back.ready.ready }

-- the pass behind those of the stations, by its place
pub behind_place : (setup : Setup) (conf : ConfView) (shared : SharedView) (passes : List PassView) (clerk : Option ClerkRecord) (lasts : List (Option Signature))
    (back : IsPutBack setup conf shared passes clerk lasts) (n : ℕ) → n + 1 ≡ shared.passes → back.pass ≡ get_or passes n back.pass
behind_place setup conf shared passes clerk lasts back n count =
    let front = map (new_pass shared) (range_with_len 0 (shared.passes - 1)) in
    let long : length front ≡ n = omega (arith, length-map-range_with_len (new_pass shared) 0 (shared.passes - 1), count) in
    let none : n - n ≡ 0 = omega arith in
    sym (ap (λ (ps : List PassView). get_or ps n back.pass) back.are ∙ get_or-append_right front (back.pass ∷ []) n n back.pass long (omega arith)
    ∙ ap (λ (i : ℕ). get_or (back.pass ∷ []) i back.pass) none)

-- the last of new passes, and those before it
at_last : (ps : List PassView) (p d : PassView) → get_or (ps ++ p ∷ []) (length ps) d ≡ p
at_last [] p d = refl
at_last (q ∷ ps) p d = at_last ps p d

module _ (shared : SharedView) (passes front : List PassView) (pass : PassView) (are : passes ≡ map (new_pass shared) (range_with_len 0 shared.passes))
    (items : passes ≡ front ++ pass ∷ []) (some : 0 < shared.passes) where
  count : length front ≡ shared.passes - 1
  count =
      omega (
        arith,
        ap (λ (ps : List PassView). length ps) are,
        ap (λ (ps : List PassView). length ps) items,
        length-append front (pass ∷ []),
        length-map-range_with_len (new_pass shared) 0 shared.passes,
      )

  pub last_new : pass ≡ new_pass shared (shared.passes - 1)
  last_new =
      sym (at_last front pass pass) ∙ ap (λ (ps : List PassView). get_or ps (length front) pass) (sym items ∙ are)
      ∙ get_or-map-range_with_len (new_pass shared) 0 shared.passes (length front) (shared.passes - 1) pass (omega (arith, count, some)) (omega (arith, count))

  pub front_new : front ≡ map (new_pass shared) (range_with_len 0 (shared.passes - 1))
  front_new =
      sym (take_at front (pass ∷ []) (shared.passes - 1) count) ∙ ap (λ (ps : List PassView). take (shared.passes - 1) ps) (sym items ∙ are)
      ∙ take-map-range_with_len (new_pass shared) 0 shared.passes (shared.passes - 1) (omega arith)

  -- it is of the queue, and so is the same pass later
  pub last_of : IsPassOf shared pass
  last_of = subst (IsPassOf shared) (sym last_new) (record { queue = refl; arena = refl; slots = refl; passes = refl })

  pub put_back_with : (setup : Setup) (conf : ConfView) (clerk : Option ClerkRecord) (lasts : List (Option Signature)) (after : PassView) (all : List PassView)
      → IsSamePass pass after → all ≡ front ++ after ∷ [] → Restored setup conf pass after clerk lasts → IsPutBack setup conf shared all clerk lasts
  put_back_with setup conf clerk lasts after all same all_are restored = record {
    pass = after;
    are = all_are ∙ ap (λ (ps : List PassView). ps ++ after ∷ []) front_new;
    of = subst (IsPassOf shared) (sym same) (record { queue = last_of.queue; arena = last_of.arena; slots = last_of.slots; passes = last_of.passes });
    same = subst (λ (p : PassView). IsSamePass p after) last_new same;
    restored = subst (λ (p : PassView). Restored setup conf p after clerk lasts) last_new restored;
  }

-- it was put back before anything else was done
pub put_back_first : (setup : Setup) (conf : ConfView) (shared : SharedView) → IsMade setup conf shared → (passes : List PassView) (clerk : Option ClerkRecord)
    (lasts : List (Option Signature)) → IsPutBack setup conf shared passes clerk lasts → (desk : Option DeskRecord)
    → IfSome clerk (λ (k : ClerkRecord). desk ≡ Some k.desk) → PutBackFirst setup conf desk
put_back_first setup conf shared made passes clerk lasts back desk kept =
    record { shared = shared; made = made; pass = back.pass; clerk = clerk; lasts = lasts; restored = back.restored; kept = kept }

-- what came of the journal
pub journals : (setup : Setup) (conf : ConfView) (shared : SharedView) → IsMade setup conf shared → (last : PassView) (passes : List PassView) (clerk : Option ClerkRecord)
    (lasts : List (Option Signature)) (left : Option LeftRecord) (back : IsPutBack setup conf shared passes clerk lasts) → LeavesBehind last back.pass clerk left
    → IfSome left (λ (l : LeftRecord). RecordCause l.end l.desk last) → Journals setup conf lasts last left
journals setup conf shared made last passes clerk lasts left back leaves causes =
    record { shared = shared; made = made; pass = back.pass; clerk = clerk; restored = back.restored; recorded = leaves; causes = causes }
