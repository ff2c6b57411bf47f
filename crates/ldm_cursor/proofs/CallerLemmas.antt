-- For callers, which have to show that every count is small: what each call makes of a bound on the counts.
use Rattle.std.proofs.Common.{◌≡◌, ℕ, ◌+◌, ◌<◌, ◌≤◌, true, false, cond, map, replicate, get_or, Option, Some, None, length, refl, subst, sym, ⊎_elim, arith}
use Rattle.std.specs.Option.{IfSome, IsSome, IsSomeAnd, MatchOption, option_map}
use Rattle.std.proofs.lemmas.Bool.{cases_lt}
use Rattle.std.proofs.lemmas.List.{get_or_past}
use Rattle.std.proofs.lemmas.List.Elements.{All-map, All-replicate, All-set}
use Rattle.ldm_types.specs.Cursors.{KeptCursor, Losses, Places}
use Rattle.ldm_cursor.specs.Places.{CountsBelow, HasCountsBelow, after_hold, after_loss, after_tell, awaits, cursor_at, cursor_with_loss, new_cursor, with_change, with_cursor, with_loss, with_one_more, without_cursor}

-- a bound on the counts of the cursor of a place, if it has one
abbrev PlaceBelow : ℕ → Option KeptCursor → Type 0
PlaceBelow limit place = IfSome place (HasCountsBelow limit)

untold_raised : (l m : ℕ) (untold : Option Losses) → l ≤ m → IfSome untold (λ losses. losses.count < l) → IfSome untold (λ losses. losses.count < m)
untold_raised l m None le below = tt
untold_raised l m (Some losses) le below = omega (arith, below)

pub HasCountsBelow-raised : (l m : ℕ) (cursor : KeptCursor) → l ≤ m → HasCountsBelow l cursor → HasCountsBelow m cursor
HasCountsBelow-raised l m cursor le below = record {
  untold = untold_raised l m cursor.untold le below.untold;
  given = omega (arith, below.given);
  lost = omega (arith, below.lost);
}

place_raised : (l m : ℕ) (place : Option KeptCursor) → l ≤ m → PlaceBelow l place → PlaceBelow m place
place_raised l m None le below = tt
place_raised l m (Some cursor) le below = HasCountsBelow-raised l m cursor le below

pub CountsBelow-raised : (l m : ℕ) (places : Places) → l ≤ m → CountsBelow l places → CountsBelow m places
CountsBelow-raised l m places le below k d inside = place_raised l m (get_or places k d) le (below k d inside)

-- no count is there before a cursor is
pub CountsBelow-empty : (limit n : ℕ) → CountsBelow limit (replicate n None)
CountsBelow-empty limit n = All-replicate (PlaceBelow limit) n None tt

pub CountsBelow-with_cursor : (limit actor feed at k : ℕ) (places : Places) → 0 < limit → CountsBelow limit places → CountsBelow limit (with_cursor places k (new_cursor actor feed at))
CountsBelow-with_cursor limit actor feed at k places some below =
    All-set (PlaceBelow limit) places k (Some (new_cursor actor feed at)) (record { untold = tt; given = some; lost = some }) below

pub CountsBelow-without_cursor : (limit k : ℕ) (places : Places) → CountsBelow limit places → CountsBelow limit (without_cursor places k)
CountsBelow-without_cursor limit k places below = All-set (PlaceBelow limit) places k None tt below

-- the counts of the cursor of one place
PlaceBelow-at : (limit k : ℕ) (places : Places) → CountsBelow limit places → PlaceBelow limit (cursor_at places k)
PlaceBelow-at limit k places below =
    ⊎_elim
    (λ inside. below k None inside)
    (λ past. subst (PlaceBelow limit) (sym (get_or_past places k None past)) tt)
    (cases_lt k (length places))

place_changed : (l m : ℕ) (change : KeptCursor → KeptCursor) (place : Option KeptCursor) → ((cursor : KeptCursor) → HasCountsBelow l cursor → HasCountsBelow m (change cursor)) → PlaceBelow l place → PlaceBelow m (option_map change place)
place_changed l m change None keeps below = tt
place_changed l m change (Some cursor) keeps below = keeps cursor below

pub CountsBelow-with_change : (l m k : ℕ) (change : KeptCursor → KeptCursor) (places : Places) → l ≤ m → ((cursor : KeptCursor) → HasCountsBelow l cursor → HasCountsBelow m (change cursor)) → CountsBelow l places → CountsBelow m (with_change places k change)
CountsBelow-with_change l m k change places le keeps below =
    All-set (PlaceBelow m) places k (option_map change (cursor_at places k))
    (place_changed l m change (cursor_at places k) keeps (PlaceBelow-at l k places below))
    (CountsBelow-raised l m places le below)

-- a hold counts one product more
pub HasCountsBelow-after_hold : (limit n : ℕ) (cursor : KeptCursor) → HasCountsBelow limit cursor → HasCountsBelow (limit + 1) (after_hold n cursor)
HasCountsBelow-after_hold limit n cursor below = record {
  untold = untold_raised limit (limit + 1) cursor.untold (omega arith) below.untold;
  given = omega (arith, below.given);
  lost = omega (arith, below.lost);
}

pub HasCountsBelow-after_tell : (limit : ℕ) (cursor : KeptCursor) → HasCountsBelow limit cursor → HasCountsBelow limit (after_tell cursor)
HasCountsBelow-after_tell limit cursor below = record { untold = tt; given = below.given; lost = below.lost }

with_one_more_below : (limit n : ℕ) (untold : Option Losses) → 0 < limit → IfSome untold (λ losses. losses.count < limit) → (with_one_more n untold).count < limit + 1
with_one_more_below limit n None some below = omega arith
with_one_more_below limit n (Some losses) some below = omega (arith, below)

-- a loss counts one more
HasCountsBelow-after_loss : (limit n feed : ℕ) (cursor : KeptCursor) → HasCountsBelow limit cursor → HasCountsBelow (limit + 1) (after_loss n feed cursor)
HasCountsBelow-after_loss limit n feed cursor below =
    elim (awaits n feed cursor) as (λ yes. HasCountsBelow (limit + 1) (cond yes (cursor_with_loss n cursor) cursor)) [
      | true ↦ record {
        untold = with_one_more_below limit n cursor.untold (omega (arith, below.given)) below.untold;
        given = omega (arith, below.given);
        lost = omega (arith, below.lost);
      }
      | false ↦ HasCountsBelow-raised limit (limit + 1) cursor (omega arith) below
    ]

pub CountsBelow-with_loss : (limit n feed : ℕ) (places : Places) → CountsBelow limit places → CountsBelow (limit + 1) (map (with_loss n feed) places)
CountsBelow-with_loss limit n feed places below =
    All-map (PlaceBelow (limit + 1)) (with_loss n feed) places
    (λ k d inside. place_changed limit (limit + 1) (after_loss n feed) (get_or places k d) (HasCountsBelow-after_loss limit n feed) (below k d inside))

-- what `seat` leaves
pub CountsBelow-seated : (limit actor feed at : ℕ) (old new : Places) (place : Option ℕ) → 0 < limit → MatchOption place (new ≡ old) (λ k. new ≡ with_cursor old k (new_cursor actor feed at)) → CountsBelow limit old → CountsBelow limit new
CountsBelow-seated limit actor feed at old new None some same below = subst (CountsBelow limit) (sym same) below
CountsBelow-seated limit actor feed at old new (Some k) some put below =
    subst (CountsBelow limit) (sym put) (CountsBelow-with_cursor limit actor feed at k old some below)

-- a place with a cursor that is known of is open
pub IsSome-from_and : (place : Option KeptCursor) (P : KeptCursor → Type 0) → IsSomeAnd place P → IsSome place
IsSome-from_and None P h = absurd h
IsSome-from_and (Some cursor) P h = refl
