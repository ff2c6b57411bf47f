-- The marks of the places, after a write to one place or a loss.
use Rattle.std.proofs.Common.{◌≡◌, ◌≢◌, ℕ, ◌<◌, true, false, cond, length, set, map, Option, Some, None, replicate, refl, subst, sym, ap, ◌∙◌, ⊎_elim, get_or-set_same, get_or-set_other, arith}
use Rattle.std.specs.Int.{bit_at}
use Rattle.std.specs.Option.{option_map}
use Rattle.std.specs.Prelude.{IsSome}
use Rattle.std.proofs.lemmas.Bool.{cases_eq, false≢true}
use Rattle.std.proofs.lemmas.List.{get_or-map, get_or-replicate, length-map, length-replicate, length-set}
use Rattle.std.proofs.lemmas.Nat.Bits.{bit_at-zero}
use Rattle.ldm_cursor.specs.Kept.{AreMarked, IsKept, hold_mark_of, mark_of}
use Rattle.ldm_types.specs.Cursors.{KeptCursor, Places}
use Rattle.ldm_cursor.specs.Places.{after_hold, after_loss, after_move, after_release, after_tell, awaits, cursor_at, cursor_with_loss, with_change, with_loss}

-- the places that are kept, as contracts see them
pub kept-view : {seen places : Places} {opened holding : ℕ} → seen ≡ places → IsKept seen opened holding
    → IsKept places opened holding
kept-view {opened} {holding} same kept = subst (λ places. IsKept places opened holding) same kept

-- a write to one place, and its mark
marked-set : (mark : Option KeptCursor → ℕ) (places : Places) (k old new : ℕ) (place : Option KeptCursor)
    → k < length places → AreMarked mark places old → bit_at new k ≡ mark place
    → ((i : ℕ) → i < 64 → i ≢ k → bit_at new i ≡ bit_at old i) → AreMarked mark (set places k place) new
marked-set mark places k old new place inside marked here others = λ i bound.
    ⊎_elim
    (λ same.
    ap (bit_at new) same
    ∙ here
    ∙ ap mark (sym (get_or-set_same places k place None inside) ∙ ap (cursor_at (set places k place)) (sym same)))
    (λ other. others i bound other ∙ marked i bound ∙ ap mark (sym (get_or-set_other places k i place None other)))
    (cases_eq i k)

-- a write to one place, and its marks
pub kept-set : (places : Places) (k opened-old opened-new holding-old holding-new : ℕ) (place : Option KeptCursor)
    → k < length places → IsKept places opened-old holding-old
    → bit_at opened-new k ≡ mark_of place → ((i : ℕ) → i < 64 → i ≢ k → bit_at opened-new i ≡ bit_at opened-old i)
    → bit_at holding-new k ≡ hold_mark_of place
    → ((i : ℕ) → i < 64 → i ≢ k → bit_at holding-new i ≡ bit_at holding-old i)
    → IsKept (set places k place) opened-new holding-new
kept-set places k opened-old opened-new holding-old holding-new place inside kept opened opened-others holding holding-others = record {
  many = length-set places k place ∙ kept.many;
  opened = marked-set mark_of places k opened-old opened-new place inside kept.opened opened opened-others;
  holding = marked-set hold_mark_of places k holding-old holding-new place inside kept.holding holding holding-others;
}

mark_of-change : (place : Option KeptCursor) (change : KeptCursor → KeptCursor) → mark_of place ≡ mark_of (option_map change place)
mark_of-change None change = refl
mark_of-change (Some cursor) change = refl

-- a change of the cursor of one place, and of the mark of its hold
pub kept-change : (places : Places) (k opened old new : ℕ) (change : KeptCursor → KeptCursor) → k < length places
    → IsKept places opened old
    → bit_at new k ≡ hold_mark_of (option_map change (cursor_at places k))
    → ((i : ℕ) → i < 64 → i ≢ k → bit_at new i ≡ bit_at old i)
    → IsKept (with_change places k change) opened new
kept-change places k opened old new change inside kept holding others =
    kept-set places k opened opened old new (option_map change (cursor_at places k)) inside kept
    (kept.opened k (omega (arith, kept.many)) ∙ mark_of-change (cursor_at places k) change)
    (λ i bound other. refl) holding others

-- a change of the cursor of one place that leaves its hold
pub kept-change_beside : (places : Places) (k opened holding : ℕ) (change : KeptCursor → KeptCursor)
    → k < length places → IsKept places opened holding
    → ((place : Option KeptCursor) → hold_mark_of place ≡ hold_mark_of (option_map change place))
    → IsKept (with_change places k change) opened holding
kept-change_beside places k opened holding change inside kept same =
    kept-change places k opened holding holding change inside kept
    (kept.holding k (omega (arith, kept.many)) ∙ same (cursor_at places k))
    (λ i bound other. refl)

pub hold_mark_of-after_hold : (n : ℕ) (place : Option KeptCursor) → IsSome place
    → 1 ≡ hold_mark_of (option_map (after_hold n) place)
hold_mark_of-after_hold n None some = absurd (false≢true some)
hold_mark_of-after_hold n (Some cursor) some = refl

pub hold_mark_of-after_release : (place : Option KeptCursor) → 0 ≡ hold_mark_of (option_map after_release place)
hold_mark_of-after_release None = refl
hold_mark_of-after_release (Some cursor) = refl

pub hold_mark_of-after_tell : (place : Option KeptCursor)
    → hold_mark_of place ≡ hold_mark_of (option_map after_tell place)
hold_mark_of-after_tell None = refl
hold_mark_of-after_tell (Some cursor) = refl

pub hold_mark_of-after_move : (at : ℕ) (place : Option KeptCursor)
    → hold_mark_of place ≡ hold_mark_of (option_map (after_move at) place)
hold_mark_of-after_move at None = refl
hold_mark_of-after_move at (Some cursor) = refl

-- a place that is not open holds nothing
pub hold_mark_of-closed : (place : Option KeptCursor) → mark_of place ≡ 0 → hold_mark_of place ≡ 0
hold_mark_of-closed None mark = refl
hold_mark_of-closed (Some cursor) mark = absurd (omega (arith, mark))

hold_mark_of-with_loss : (n feed : ℕ) (place : Option KeptCursor)
    → hold_mark_of place ≡ hold_mark_of (with_loss n feed place)
hold_mark_of-with_loss n feed None = refl
hold_mark_of-with_loss n feed (Some cursor) =
    let mark = hold_mark_of (Some cursor) in
    elim (awaits n feed cursor) as (λ yes. mark ≡ hold_mark_of (Some (cond yes (cursor_with_loss n cursor) cursor))) [
      | true ↦ refl
      | false ↦ refl
    ]

marked-with_loss : (mark : Option KeptCursor → ℕ) (n feed marks : ℕ) (places : Places) → length places ≡ 64
    → AreMarked mark places marks → ((place : Option KeptCursor) → mark place ≡ mark (with_loss n feed place))
    → AreMarked mark (map (with_loss n feed) places) marks
marked-with_loss mark n feed marks places many marked same = λ k bound.
    marked k bound
    ∙ same (cursor_at places k)
    ∙ ap mark (sym (get_or-map (with_loss n feed) places k None None (omega (arith, many))))

-- a loss
pub kept-with_loss : (n feed opened holding : ℕ) (places : Places) → IsKept places opened holding
    → IsKept (map (with_loss n feed) places) opened holding
kept-with_loss n feed opened holding places kept = record {
  many = length-map places (with_loss n feed) ∙ kept.many;
  opened = marked-with_loss mark_of n feed opened places kept.many kept.opened
      (λ place. mark_of-change place (after_loss n feed));
  holding = marked-with_loss hold_mark_of n feed holding places kept.many kept.holding (hold_mark_of-with_loss n feed);
}

marked-none : (mark : Option KeptCursor → ℕ) (n marks : ℕ) → n ≡ 64 → marks ≡ 0 → mark None ≡ 0
    → AreMarked mark (replicate n None) marks
marked-none mark n marks many none zero = λ k bound.
    ap (λ m. bit_at m k) none
    ∙ bit_at-zero k
    ∙ sym zero
    ∙ ap mark (sym (get_or-replicate n k None None (omega arith)))

-- no place is open
pub kept-none : (n opened holding : ℕ) → n ≡ 64 → opened ≡ 0 → holding ≡ 0 → IsKept (replicate n None) opened holding
kept-none n opened holding many closed free = record {
  many = length-replicate n None ∙ many;
  opened = marked-none mark_of n opened many closed refl;
  holding = marked-none hold_mark_of n holding many free refl;
}
