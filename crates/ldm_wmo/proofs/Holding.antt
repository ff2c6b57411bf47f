-- What a stream holds, by the relation and by the computation.
use Rattle.std.proofs.Common.{◌≡◌, ◌≢◌, ℕ, ◌+◌, ◌<◌, ◌==◌, ◌||◌, Bool, true, false, List, [], ◌∷◌, ◌++◌, length, Option, Some, refl, sym, ap, subst, ◌∙◌, append_assoc, arith, inl, inr}
use Rattle.std.proofs.lemmas.Bool.{cases_Bool, cases_eq, eqb-false, eqb-true, ne_eqb}
use Rattle.std.proofs.lemmas.List.{append-nil, length-append}
use Rattle.ldm_wmo.specs.declared.stage.Stage.TheVariants.{Within, Complete}
use Rattle.ldm_wmo.specs.declared.stage.TheConstants.{LARGEST_BULLETIN}
use Rattle.ldm_wmo.specs.Bulletins.{is_mark}
use Rattle.ldm_wmo.specs.Items.{Found, found_at}
use Rattle.ldm_wmo.specs.Scanning.{Scanning, after_byte, cut_of, next_of, outside, place, takes}
use Rattle.ldm_wmo.specs.Spelling.{Ends, before_next, with_3, with_last, Holds, ended, passed_over, found, cut_off, IsOpen}
use Rattle.ldm_wmo.specs.Streams.{given, in_hand, items_in, passed}
use Rattle.ldm_wmo.proofs.Joined.{given_none, outside_open, outside_passed}
use Rattle.ldm_wmo.proofs.Runs.{at_stage, begins_one, last_one, passes_one, taken_within, within_one}
use Rattle.ldm_wmo.proofs.Written.{joined_none}

-- what comes out of so much of a stream from a place on, outside candidates
abbrev Out : ℕ → List ℕ → Type 0
Out at bytes = Holds at bytes (items_in (outside (place at)) bytes) (cut_of (in_hand (outside (place at)) bytes))

-- a candidate in hand, of which these bytes came behind the first
abbrev hand : ℕ → List ℕ → Scanning
hand at run = at_stage (place (at + (1 + length run))) (1 ∷ run) (Within (place at))

abbrev In : ℕ → List ℕ → List ℕ → Type 0
In at run bytes = Holds at ((1 ∷ run) ++ bytes) (items_in (hand at run) bytes) (cut_of (in_hand (hand at run) bytes))

-- one byte
pub record Steps (s : Scanning) (byte : ℕ) (bytes : List ℕ) (first : List Found) (u : Scanning) : Type 0 where
  pub items : items_in s (byte ∷ bytes) ≡ first ++ items_in u bytes
  pub cut : cut_of (in_hand s (byte ∷ bytes)) ≡ cut_of (in_hand u bytes)

steps : (s : Scanning) (byte : ℕ) (bytes : List ℕ) (first : List Found) (u : Scanning) → given (after_byte s byte) ≡ first → passed s byte ≡ u → Steps s byte bytes first u
unfolding items_in in_hand
steps s byte bytes first u first_is u_is = record {
  items = ap (λ (x : List Found). x ++ items_in (passed s byte) bytes) first_is ∙ ap (λ (t : Scanning). first ++ items_in t bytes) u_is;
  cut = ap (λ (t : Scanning). cut_of (in_hand t bytes)) u_is;
}

holds_as : (at : ℕ) (a b : List ℕ) (i j : List Found) (c d : Option ℕ) → a ≡ b → j ≡ i → d ≡ c → Holds at a i c → Holds at b j d
holds_as at a b i j c d stream items cut holds =
    subst (λ (x : List ℕ). Holds at x j d) stream (subst (λ (x : List Found). Holds at a x d) (sym items) (subst (λ (x : Option ℕ). Holds at a i x) (sym cut) holds))

-- ---- outside candidates

pub out_steps : (p byte : ℕ) (bytes : List ℕ) (t : Scanning) → after_byte (outside p) byte ≡ t → Steps (outside p) byte bytes [] t
out_steps p byte bytes t is =
    steps (outside p) byte bytes [] t (given_none (after_byte (outside p) byte) (outside_open p byte)) (outside_passed p byte ∙ is)

out_pass : (at byte : ℕ) (bytes : List ℕ) → (byte ≡ 1 → ⊥) → Out (at + 1) bytes → Out at (byte ∷ bytes)
out_pass at byte bytes other more =
    let same : place (place at + 1) ≡ place (at + 1) = omega arith in
    let step = out_steps (place at) byte bytes (outside (place (at + 1))) (passes_one (place at) [] byte (ne_eqb byte 1 other) ∙ ap outside same) in
    holds_as at (byte ∷ bytes) (byte ∷ bytes) (items_in (outside (place (at + 1))) bytes) (items_in (outside (place at)) (byte ∷ bytes))
    (cut_of (in_hand (outside (place (at + 1))) bytes)) (cut_of (in_hand (outside (place at)) (byte ∷ bytes))) refl step.items step.cut
    (passed_over at byte bytes (items_in (outside (place (at + 1))) bytes) (cut_of (in_hand (outside (place (at + 1))) bytes)) other more)

out_begin : (at byte : ℕ) (bytes : List ℕ) → byte ≡ 1 → In at [] bytes → Out at (byte ∷ bytes)
out_begin at byte bytes is more =
    let same : place (place at + 1) ≡ place (at + 1) = omega arith in
    let step = out_steps (place at) byte bytes (hand at []) (begins_one (place at) [] byte is ∙ ap (λ k. at_stage k (1 ∷ []) (Within (place at))) same) in
    holds_as at (1 ∷ bytes) (byte ∷ bytes) (items_in (hand at []) bytes) (items_in (outside (place at)) (byte ∷ bytes))
    (cut_of (in_hand (hand at []) bytes)) (cut_of (in_hand (outside (place at)) (byte ∷ bytes))) (ap (λ k. k ∷ bytes) (sym is)) step.items step.cut more

-- ---- in a candidate

or_parts : (a b : Bool) → (a || b) ≡ false → (a ≡ false) × (b ≡ false)
or_parts true b h = absurd cc
or_parts false b h = (refl, h)

not_1 : (byte : ℕ) → is_mark byte ≡ false → (byte == 1) ≡ false
not_1 byte none = (or_parts (byte == 1) (byte == 3) none).0

-- a byte that is taken
taken_passed : (s t : Scanning) (byte : ℕ) → takes s byte ≡ true → after_byte s byte ≡ t → passed s byte ≡ next_of t
taken_passed s t byte taken is = rw (taken, is) refl

more_length : (run : List ℕ) (byte : ℕ) → length (run ++ byte ∷ []) ≡ length run + 1
more_length run byte = length-append run (byte ∷ [])

in_open : (at : ℕ) (run : List ℕ) (byte : ℕ) (bytes : List ℕ) → is_mark byte ≡ false → 1 + length run + 1 < LARGEST_BULLETIN → In at (run ++ byte ∷ []) bytes → In at run (byte ∷ bytes)
in_open at run byte bytes none room more =
    let len = more_length run byte in
    let same : place (place (at + (1 + length run)) + 1) ≡ place (at + (1 + length (run ++ byte ∷ []))) = omega arith in
    let one = within_one (place (at + (1 + length run))) (1 ∷ run) (place at) byte none (omega arith) in
    let t_is : after_byte (hand at run) byte ≡ hand at (run ++ byte ∷ []) = one ∙ ap (λ k. at_stage k (1 ∷ (run ++ byte ∷ [])) (Within (place at))) same in
    let taken = taken_within (place (at + (1 + length run))) (1 ∷ run) (place at) byte (not_1 byte none) in
    let step = steps (hand at run) byte bytes [] (hand at (run ++ byte ∷ [])) (ap given t_is) (taken_passed (hand at run) (hand at (run ++ byte ∷ [])) byte taken t_is) in
    holds_as at ((1 ∷ (run ++ byte ∷ [])) ++ bytes) ((1 ∷ run) ++ (byte ∷ bytes)) (items_in (hand at (run ++ byte ∷ [])) bytes) (items_in (hand at run) (byte ∷ bytes))
    (cut_of (in_hand (hand at (run ++ byte ∷ [])) bytes)) (cut_of (in_hand (hand at run) (byte ∷ bytes))) (append_assoc (1 ∷ run) (byte ∷ []) bytes) step.items step.cut more

in_closed : (at : ℕ) (run : List ℕ) (byte : ℕ) (bytes : List ℕ) → (byte == 1) ≡ false → (byte == 3 || 1 + length run + 1 == LARGEST_BULLETIN) ≡ true
    → Ends (run ++ byte ∷ []) bytes → Out (at + (1 + length (run ++ byte ∷ []))) bytes → In at run (byte ∷ bytes)
in_closed at run byte bytes other last ends more =
    let len = more_length run byte in
    let behind = at + (1 + length (run ++ byte ∷ [])) in
    let same : place (place (at + (1 + length run)) + 1) ≡ place behind = omega arith in
    let t = at_stage (place behind) (1 ∷ (run ++ byte ∷ [])) (Complete (place at)) in
    let count : length (1 ∷ run) + 1 ≡ 1 + length run + 1 = omega arith in
    let t_is : after_byte (hand at run) byte ≡ t =
    last_one (place (at + (1 + length run))) (1 ∷ run) (place at) byte other (ap (λ k. byte == 3 || k == LARGEST_BULLETIN) count ∙ last)
    ∙ ap (λ k. at_stage k (1 ∷ (run ++ byte ∷ [])) (Complete (place at))) same in
    let taken = taken_within (place (at + (1 + length run))) (1 ∷ run) (place at) byte other in
    let item = found_at (place at) (1 ∷ (run ++ byte ∷ [])) in
    let step = steps (hand at run) byte bytes (item ∷ []) (outside (place behind)) (ap given t_is) (taken_passed (hand at run) t byte taken t_is) in
    holds_as at ((1 ∷ (run ++ byte ∷ [])) ++ bytes) ((1 ∷ run) ++ (byte ∷ bytes)) (item ∷ items_in (outside (place behind)) bytes) (items_in (hand at run) (byte ∷ bytes))
    (cut_of (in_hand (outside (place behind)) bytes)) (cut_of (in_hand (hand at run) (byte ∷ bytes))) (append_assoc (1 ∷ run) (byte ∷ []) bytes) step.items step.cut
    (found at (run ++ byte ∷ []) bytes (items_in (outside (place behind)) bytes) (cut_of (in_hand (outside (place behind)) bytes)) ends more)

next_after : (p : ℕ) (c : List ℕ) (a byte : ℕ) → byte ≡ 1 → after_byte (at_stage p c (Within a)) byte ≡ at_stage p c (Complete a)
unfolding after_byte
next_after p c a byte is = rw is refl

pub next_passed : (p : ℕ) (c : List ℕ) (a byte : ℕ) → byte ≡ 1 → passed (at_stage p c (Within a)) byte ≡ at_stage (place (p + 1)) (1 ∷ []) (Within p)
next_passed p c a byte is =
    let left : takes (at_stage p c (Within a)) byte ≡ false = rw is refl in
    let ended_is : next_of (after_byte (at_stage p c (Within a)) byte) ≡ outside p = ap next_of (next_after p c a byte is) in
    rw (left, ended_is) (begins_one p [] byte is)

in_next : (at : ℕ) (run : List ℕ) (byte : ℕ) (bytes : List ℕ) → byte ≡ 1 → IsOpen run → In (at + (1 + length run)) [] bytes → In at run (byte ∷ bytes)
in_next at run byte bytes is unended more =
    let behind = at + (1 + length run) in
    let same : place (place behind + 1) ≡ place (behind + 1) = omega arith in
    let item = found_at (place at) (1 ∷ run) in
    let u_is : passed (hand at run) byte ≡ hand behind [] = next_passed (place behind) (1 ∷ run) (place at) byte is ∙ ap (λ k. at_stage k (1 ∷ []) (Within (place behind))) same in
    let step = steps (hand at run) byte bytes (item ∷ []) (hand behind []) (ap given (next_after (place behind) (1 ∷ run) (place at) byte is)) u_is in
    holds_as at ((1 ∷ run) ++ (1 ∷ bytes)) ((1 ∷ run) ++ (byte ∷ bytes)) (item ∷ items_in (hand behind []) bytes) (items_in (hand at run) (byte ∷ bytes))
    (cut_of (in_hand (hand behind []) bytes)) (cut_of (in_hand (hand at run) (byte ∷ bytes))) (ap (λ k. (1 ∷ run) ++ (k ∷ bytes)) (sym is)) step.items step.cut
    (found at run (1 ∷ bytes) (items_in (hand behind []) bytes) (cut_of (in_hand (hand behind []) bytes)) (before_next run (1 ∷ bytes) unended refl) more)

-- the last byte of a candidate
ends_so : (run : List ℕ) (byte : ℕ) (bytes : List ℕ) → IsOpen run → (byte ≡ 1 → ⊥) → (byte == 3 || 1 + length run + 1 == LARGEST_BULLETIN) ≡ true → Ends (run ++ byte ∷ []) bytes
ends_so run byte bytes unended other last = elim (cases_eq byte 3) [
  | inl is ↦ subst (λ k. Ends (run ++ k ∷ []) bytes) (sym is) (with_3 run bytes unended)
  | inr not_3 ↦
      let full : (1 + length run + 1 == LARGEST_BULLETIN) ≡ true = rw (ne_eqb byte 3 not_3) at last in
      let len = more_length run byte in
      let full_is = eqb-true (1 + length run + 1) LARGEST_BULLETIN full in
      with_last run byte bytes unended other (omega (arith, len, full_is))
]

open_more : (run : List ℕ) (byte : ℕ) → IsOpen run → is_mark byte ≡ false → 1 + length run + 1 < LARGEST_BULLETIN → IsOpen (run ++ byte ∷ [])
open_more run byte unended none room = record {
  no_mark = joined_none run (byte ∷ []) unended.no_mark (rw none refl);
  short = let len = more_length run byte in omega (arith, len);
}

in_step : (at : ℕ) (run : List ℕ) (byte : ℕ) (bytes : List ℕ) → IsOpen run → ((place : ℕ) → Out place bytes)
    → ((place : ℕ) (more : List ℕ) → IsOpen more → In place more bytes) → In at run (byte ∷ bytes)
in_step at run byte bytes unended outs ins = elim (cases_eq byte 1) [
  | inl is ↦ in_next at run byte bytes is unended (ins (at + (1 + length run)) [] (record { no_mark = refl; short = omega arith }))
  | inr other ↦ elim (cases_Bool (byte == 3 || 1 + length run + 1 == LARGEST_BULLETIN)) [
    | inl last ↦ in_closed at run byte bytes (ne_eqb byte 1 other) last (ends_so run byte bytes unended other last) (outs (at + (1 + length (run ++ byte ∷ []))))
    | inr on ↦
        let parts = or_parts (byte == 3) (1 + length run + 1 == LARGEST_BULLETIN) on in
        let none : is_mark byte ≡ false = rw (ne_eqb byte 1 other, parts.0) refl in
        let short = unended.short in
        let not_full : 1 + length run + 1 ≢ LARGEST_BULLETIN = eqb-false (1 + length run + 1) LARGEST_BULLETIN parts.1 in
        let room : 1 + length run + 1 < LARGEST_BULLETIN = omega arith in
        in_open at run byte bytes none room (ins at (run ++ byte ∷ []) (open_more run byte unended none room))
  ]
]

holds_all : (bytes : List ℕ) → ((at : ℕ) → Out at bytes) × ((at : ℕ) (run : List ℕ) → IsOpen run → In at run bytes)
unfolding items_in in_hand
holds_all [] = (
  λ at. ended at,
  λ at run unended. subst (λ (x : List ℕ). Holds at x [] (Some (place at))) (sym (append-nil (1 ∷ run))) (cut_off at run unended),
)
holds_all (byte ∷ bytes) =
    let more = holds_all bytes in (
      λ at. elim (cases_eq byte 1) [
        | inl is ↦ out_begin at byte bytes is (more.1 at [] (record { no_mark = refl; short = omega arith }))
        | inr other ↦ out_pass at byte bytes other (more.0 (at + 1))
      ],
      λ at run unended. in_step at run byte bytes unended more.0 more.1,
    )

pub stream_holds : (stream : List ℕ) → Out 0 stream
stream_holds stream = (holds_all stream).0 0
