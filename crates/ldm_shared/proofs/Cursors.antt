-- What a cursor does in the state of a queue: it holds what a release would let go, and then a read gives the bytes.
use Rattle.std.proofs.Common.{◌≡◌, ◌∙◌, ℕ, ◌≤◌, true, List, [], ◌∷◌, ◌++◌, Option, Some, None, refl, ap}
use Rattle.std.specs.Prelude.{Bool, is_some, slice_get}
use Rattle.std.specs.Option.{option_map}
use Rattle.std.proofs.lemmas.Bool.{false≢true, le-ltb}
use Rattle.ldm_model.specs.declared.event.Reply.TheVariants as reply
use Rattle.ldm_model.specs.declared.event.Entry.{Entry}
use Rattle.ldm_model.specs.declared.event.Reply.{Reply}
use Rattle.ldm_model.specs.State.{State, Row, Cursor, place_of_row}
use Rattle.ldm_model.specs.Cursor.{cursor_of, with_place, on_cursor, on_held, least_empty}
use Rattle.ldm_model.specs.declared.event.Start.{Start}
use Rattle.ldm_model.specs.declared.event.Start.TheVariants as start
use Rattle.ldm_model.specs.Open.{open_cursor, open_at, open_from, open_position}
use Rattle.ldm_shared.specs.Reader.{NamesProduct}
use Rattle.ldm_model.specs.Read.{read, read_row, part_of}
use Rattle.ldm_model.specs.Release.{release, after_release}
use Rattle.ldm_model.specs.Law.{Hold}
use Rattle.ldm_shared.specs.OwnReaders.{over_own, is_about}
use Rattle.std.specs.Prelude.{if◌then◌else◌}

-- a cursor whose release would let a product go holds it
pub record HoldsHere (s : State) (actor k n : ℕ) : Type 0 where
  pub cursor : Cursor
  pub is_cursor : cursor_of s actor k ≡ Some cursor
  pub holds : cursor.held ≡ Some n

pub holds-here : (s : State) (actor k n : ℕ) → (release s actor k).reply ≡ reply.Released n → HoldsHere s actor k n
unfolding release
holds-here s actor k n = by_cursor (cursor_of s actor k) refl
  where
    by_held : (cursor : Cursor) → cursor_of s actor k ≡ Some cursor → (held : Option ℕ) → cursor.held ≡ held
        → (on_held s held (λ m. record { reply = reply.Released m; state = with_place s k (Some (after_release cursor)) })).reply ≡ reply.Released n → HoldsHere s actor k n
    by_held cursor is None at e = absurd (cc e)
    by_held cursor is (Some m) at e =
        let same : m ≡ n = cc e in
        record { cursor = cursor; is_cursor = is; holds = at ∙ ap (λ (i : ℕ). Some i) same }

    by_cursor : (place : Option Cursor) → cursor_of s actor k ≡ place
        → (on_cursor s place (λ cursor. on_held s cursor.held (λ m. record { reply = reply.Released m; state = with_place s k (Some (after_release cursor)) }))).reply ≡ reply.Released n → HoldsHere s actor k n
    by_cursor None is e = absurd (cc e)
    by_cursor (Some cursor) is e = by_held cursor is cursor.held refl e

-- such a cursor reads the bytes of the row
pub reads-row : (s : State) (actor k n offset len : ℕ) (row : Row) → HoldsHere s actor k n → slice_get s.rows n ≡ Some row → offset ≤ row.product.info.size
    → (read s actor k offset len).reply ≡ reply.Bytes (part_of row.product offset len)
unfolding read
reads-row s actor k n offset len row h at within =
    ap (λ (place : Option Cursor). (on_cursor s place (λ cursor. on_held s cursor.held (λ m. read_row s (slice_get s.rows m) offset len))).reply) h.is_cursor
    ∙ (ap (λ (held : Option ℕ). (on_held s held (λ m. read_row s (slice_get s.rows m) offset len)).reply) h.holds
    ∙ (ap (λ (r : Option Row). (read_row s r offset len).reply) at ∙ by_test))
  where
    by_test : (read_row s (Some row) offset len).reply ≡ reply.Bytes (part_of row.product offset len)
    by_test = rw (le-ltb row.product.info.size offset within) refl

-- a row that has a place is there
pub row-there : (row : Option Row) (place : Option ℕ) → place_of_row row ≡ place → is_some place ≡ true → (found : Row) × (row ≡ Some found)
row-there None place e some = absurd (false≢true (ap (λ (p : Option ℕ). is_some p) e ∙ some))
row-there (Some row) place e some = (row, refl)

-- a hold of that number
pub hold-there : (hold : Option Hold) (n : ℕ) → option_map (λ (h : Hold). h.number) hold ≡ Some n → (found : Hold) × (hold ≡ Some found) × (found.number ≡ n)
hold-there None n e = absurd (cc e)
hold-there (Some h) n e = (h, refl, cc e)

-- one reply more
pub over_own-push : {A : Type 0} (k : ℕ) (change : A → Reply → A) (x : A) (entries : List Entry) (entry : Entry) → is_about k entry ≡ true
    → over_own k change x (entries ++ entry ∷ []) ≡ change (over_own k change x entries) entry.reply
over_own-push {A} k change x [] entry about = ap (λ (b : Bool). if b then change x entry.reply else x) about
over_own-push {A} k change x (one ∷ entries) entry about = over_own-push k change (if is_about k one then change x one.reply else x) entries entry about

-- a cursor that is to begin where no product is named is opened, or all places are taken
pub names-product : (s : State) (actor feed : ℕ) (from : Start) → (open_cursor s actor feed from).reply ≡ reply.NotQueued → NamesProduct from
unfolding open_cursor
names-product s actor feed from = by_place (least_empty s.cursors)
  where
    by_start : (k : ℕ) (one : Start) → (open_from s actor feed k (open_position s one)).reply ≡ reply.NotQueued → NamesProduct one
    by_start k start.Oldest e = absurd (cc e)
    by_start k start.Next e = absurd (cc e)
    by_start k (start.After time) e = absurd (cc e)
    by_start k (start.AfterSignature signature) e = tt

    by_place : (k : Option ℕ) → (open_at s actor feed from k).reply ≡ reply.NotQueued → NamesProduct from
    by_place None e = absurd (cc e)
    by_place (Some k) e = by_start k from e
