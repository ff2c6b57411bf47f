-- How a stream is cut into pieces makes no difference.
use Rattle.std.proofs.Common.{◌≡◌, ℕ, suc, ◌==◌, true, false, not, List, [], ◌∷◌, ◌++◌, drop, None, refl, sym, ap, ◌∙◌, append_assoc, arith, inl, inr}
use Rattle.std.proofs.lemmas.Bool.{both_ways, cases_Bool}
use Rattle.ldm_wmo.specs.declared.stage.FrameStage.{FrameStage}
use Rattle.ldm_wmo.specs.declared.stage.FrameStage.TheVariants.{Between, Head, Body, Whole, Unread, Lost}
use Rattle.ldm_wmo.specs.declared.stage.Stage.{Stage}
use Rattle.ldm_wmo.specs.declared.stage.Stage.TheVariants.{Outside, Within, Complete, Framed}
use Rattle.ldm_wmo.specs.Items.{Found}
use Rattle.ldm_wmo.specs.Scanning.{Scanning, after, after_byte, after_byte_in, bytes_taken, is_complete, framed_item, is_complete_in, is_framed, item_in, next_framed, next_in, next_of, outside, takes, takes_in}
use Rattle.ldm_wmo.specs.Streams.{given, in_hand, items_in, passed}
use Rattle.ldm_wmo.proofs.Runs.{after_complete, taken_complete}

pub after-append : (s : Scanning) (a b : List ℕ) → after s (a ++ b) ≡ after (after s a) b
unfolding after
after-append s [] b = refl
after-append s (byte ∷ a) b = after-append (after_byte s byte) a b

pub items-append : (s : Scanning) (a b : List ℕ) → items_in s (a ++ b) ≡ items_in s a ++ items_in (in_hand s a) b
unfolding items_in in_hand
items-append s [] b = refl
items-append s (byte ∷ a) b =
    ap (λ (x : List Found). given (after_byte s byte) ++ x) (items-append (passed s byte) a b)
    ∙ sym (append_assoc (given (after_byte s byte)) (items_in (passed s byte) a) (items_in (in_hand (passed s byte) a) b))

pub in_hand-append : (s : Scanning) (a b : List ℕ) → in_hand s (a ++ b) ≡ in_hand (in_hand s a) b
unfolding in_hand
in_hand-append s [] b = refl
in_hand-append s (byte ∷ a) b = in_hand-append (passed s byte) a b

-- ---- a push, and what is behind it

framed_none : (stage : FrameStage) (bytes : List ℕ) → is_framed stage ≡ false → framed_item stage bytes ≡ None
framed_none Between bytes unended = refl
framed_none (Head at) bytes unended = refl
framed_none (Body at left kind) bytes unended = refl
framed_none (Whole at kind) bytes unended = absurd cc
framed_none (Unread at) bytes unended = absurd cc
framed_none Lost bytes unended = refl

given_in : (stage : Stage) (bytes : List ℕ) → is_complete_in stage ≡ false → item_in stage bytes ≡ None
given_in Outside bytes unended = refl
given_in (Within at) bytes unended = refl
given_in (Complete at) bytes unended = absurd cc
given_in (Framed stage) bytes unended = framed_none stage bytes unended

pub given_none : (s : Scanning) → is_complete s ≡ false → given s ≡ []
given_none s unended = rw (given_in s.stage s.candidate unended) refl

framed_same : (stage : FrameStage) (s : Scanning) → is_framed stage ≡ false → next_framed stage s ≡ s
framed_same Between s unended = refl
framed_same (Head at) s unended = refl
framed_same (Body at left kind) s unended = refl
framed_same (Whole at kind) s unended = absurd cc
framed_same (Unread at) s unended = absurd cc
framed_same Lost s unended = refl

same_in : (stage : Stage) (s : Scanning) → is_complete_in stage ≡ false → next_in stage s ≡ s
same_in Outside s unended = refl
same_in (Within at) s unended = refl
same_in (Complete at) s unended = absurd cc
same_in (Framed stage) s unended = framed_same stage s unended

pub next_same : (s : Scanning) → is_complete s ≡ false → next_of s ≡ s
next_same s unended = same_in s.stage s unended

-- a byte that is not taken ends a candidate
not_taken : (stage : Stage) (s : Scanning) (byte : ℕ) → is_complete_in stage ≡ false → takes_in stage byte ≡ false → is_complete (after_byte_in stage s byte) ≡ true
not_taken Outside s byte unended other = absurd cc
not_taken (Within at) s byte unended other =
    elim (cases_Bool (byte == 1)) [
      | inl is ↦ rw is refl
      | inr isnt ↦ absurd (both_ways (not (byte == 1)) other (ap not isnt))
    ]
not_taken (Complete at) s byte unended other = absurd cc
not_taken (Framed stage) s byte unended other = absurd (both_ways (not (is_framed stage)) other (ap not unended))

-- a byte behind a candidate that was forgotten ends none
pub outside_open : (place byte : ℕ) → is_complete (after_byte (outside place) byte) ≡ false
unfolding after_byte
outside_open place byte = elim (cases_Bool (byte == 1)) [ inl is ↦ rw is refl | inr isnt ↦ rw isnt refl ]

pub outside_passed : (place byte : ℕ) → passed (outside place) byte ≡ after_byte (outside place) byte
outside_passed place byte = next_same (after_byte (outside place) byte) (outside_open place byte)

takes_open : (s : Scanning) (byte : ℕ) → is_complete s ≡ false → is_complete (after_byte s byte) ≡ false → takes s byte ≡ true
unfolding after_byte
takes_open s byte unended on = elim (cases_Bool (takes s byte)) [
  | inl taken ↦ taken
  | inr other ↦ absurd (both_ways (is_complete (after_byte s byte)) on (not_taken s.stage s byte unended other))
]

pub record Pushed (s : Scanning) (piece : List ℕ) : Type 0 where
  pub items : items_in s piece ≡ given (after s piece) ++ items_in (next_of (after s piece)) (drop (bytes_taken s piece) piece)
  pub in_hand_is : in_hand s piece ≡ in_hand (next_of (after s piece)) (drop (bytes_taken s piece) piece)

pushed_by : (s t : Scanning) (byte : ℕ) (bytes : List ℕ) (n : ℕ) → after s (byte ∷ bytes) ≡ t → bytes_taken s (byte ∷ bytes) ≡ n
    → items_in s (byte ∷ bytes) ≡ given t ++ items_in (next_of t) (drop n (byte ∷ bytes))
    → in_hand s (byte ∷ bytes) ≡ in_hand (next_of t) (drop n (byte ∷ bytes)) → Pushed s (byte ∷ bytes)
pushed_by s t byte bytes n after_is count items hand = record { items = rw (after_is, count) items; in_hand_is = rw (after_is, count) hand }

-- where a byte is not taken that comes next, the next candidate begins with it
left_in : (stage : Stage) (s : Scanning) (byte : ℕ) → is_complete_in stage ≡ false → takes_in stage byte ≡ false
    → next_of (after_byte_in stage s byte) ≡ outside (after_byte_in stage s byte).place
left_in Outside s byte unended left = absurd cc
left_in (Within at) s byte unended left =
    elim (cases_Bool (byte == 1)) [
      | inl is ↦ rw is refl
      | inr isnt ↦ absurd (both_ways (not (byte == 1)) left (ap not isnt))
    ]
left_in (Complete at) s byte unended left = absurd cc
left_in (Framed stage) s byte unended left = absurd (both_ways (not (is_framed stage)) left (ap not unended))

left_outside : (s : Scanning) (byte : ℕ) → is_complete s ≡ false → takes s byte ≡ false → next_of (after_byte s byte) ≡ outside (after_byte s byte).place
unfolding after_byte
left_outside s byte unended left = left_in s.stage s byte unended left

pub pushed : (s : Scanning) (piece : List ℕ) → is_complete s ≡ false → Pushed s piece
unfolding items_in in_hand after bytes_taken
pushed s [] unended = record { items = rw (given_none s unended) refl; in_hand_is = ap (λ (t : Scanning). in_hand t []) (sym (next_same s unended)) }
pushed s (byte ∷ bytes) unended =
    let t = after_byte s byte in
    elim (cases_Bool (is_complete t)) [
      | inl ended ↦ elim (cases_Bool (takes s byte)) [
        | inl taken ↦
            let here : passed s byte ≡ next_of t = rw taken refl in
            pushed_by s t byte bytes 1 (after_complete t bytes ended) (rw (taken, taken_complete t bytes ended) refl)
            (ap (λ (r : Scanning). given t ++ items_in r bytes) here) (ap (λ (r : Scanning). in_hand r bytes) here)
        | inr left ↦
            let out : next_of t ≡ outside t.place = left_outside s byte unended left in
            let here : passed s byte ≡ passed (next_of t) byte = rw (left, out) (sym (outside_passed t.place byte)) in
            let none : given (after_byte (next_of t) byte) ≡ [] = rw out (given_none (after_byte (outside t.place) byte) (outside_open t.place byte)) in
            pushed_by s t byte bytes 0 (after_complete t bytes ended) (rw left refl)
            (rw (none, here) refl) (ap (λ (r : Scanning). in_hand r bytes) here)
      ]
      | inr on ↦
          let taken : takes s byte ≡ true = takes_open s byte unended on in
          let here : passed s byte ≡ t = rw taken (next_same t on) in
          let more = pushed t bytes on in
          let n = bytes_taken t bytes in
          let count : bytes_taken s (byte ∷ bytes) ≡ suc n = rw taken (omega arith) in
          pushed_by s (after t bytes) byte bytes (suc n) refl count
          (rw (given_none t on) (ap (λ (r : Scanning). items_in r bytes) here ∙ more.items))
          (ap (λ (r : Scanning). in_hand r bytes) here ∙ more.in_hand_is)
    ]
