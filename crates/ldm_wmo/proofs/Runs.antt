-- Runs of bytes are the bytes that they are, one after another.
use Rattle.std.proofs.Common.{◌≡◌, ℕ, ◌+◌, ◌^◌, ◌<◌, ◌==◌, ◌||◌, ◌&&◌, Bool, true, false, not, List, [], ◌∷◌, ◌++◌, length, refl, ap, subst, ◌∙◌, append_assoc, arith}
use Rattle.std.proofs.lemmas.Bool.{ne_eqb}
use Rattle.std.proofs.lemmas.List.{append-nil, length-append}
use Rattle.std.specs.List.{list_all}
use Rattle.ldm_wmo.specs.declared.stage.FrameStage.{FrameStage}
use Rattle.ldm_wmo.specs.declared.stage.FrameStage.TheVariants.{Between, Head, Body, Whole, Unread, Lost}
use Rattle.ldm_wmo.specs.declared.stage.Stage.{Stage}
use Rattle.ldm_wmo.specs.declared.stage.Stage.TheVariants.{Outside, Within, Complete, Framed}
use Rattle.ldm_wmo.specs.declared.stage.TheConstants.{LARGEST_BULLETIN}
use Rattle.ldm_wmo.specs.Bulletins.{has_no_mark, is_mark}
use Rattle.ldm_wmo.specs.Scanning.{Scanning, after, after_byte, after_byte_in, after_framed, bytes_taken, is_complete, is_complete_in, is_framed, place, takes, takes_in}

abbrev pub at_stage : ℕ → List ℕ → Stage → Scanning
at_stage p c stage = record { place = p; candidate = c; stage = stage }

-- a run of bytes is taken, and these come next
abbrev pub Goes : Scanning → List ℕ → Scanning → List ℕ → Type 0
Goes s run t rest = (after s (run ++ rest) ≡ after t rest) × (bytes_taken s (run ++ rest) ≡ length run + bytes_taken t rest)

pub goes_none : (s : Scanning) (rest : List ℕ) → Goes s [] s rest
goes_none s rest = (refl, omega arith)

pub goes_on : (s t u : Scanning) (byte : ℕ) (run rest : List ℕ) → takes s byte ≡ true → after_byte s byte ≡ t → Goes t run u rest → Goes s (byte ∷ run) u rest
unfolding after bytes_taken
goes_on s t u byte run rest taken is more = (
  ap (λ (r : Scanning). after r (run ++ rest)) is ∙ more.0,
  rw (taken, is) (ap (λ n. 1 + n) more.1 ∙ omega arith),
)

and_split : (a b : Bool) → (a && b) ≡ true → (a ≡ true) × (b ≡ true)
and_split true b h = (refl, h)
and_split false b h = absurd cc

not_is : (b : Bool) → not b ≡ true → b ≡ false
not_is true h = absurd cc
not_is false h = refl

or_split : (a b : Bool) → (a || b) ≡ false → (a ≡ false) × (b ≡ false)
or_split true b h = absurd cc
or_split false b h = (refl, h)

abbrev pub has_no_1 : List ℕ → Bool
has_no_1 bytes = list_all (λ b. not (b == 1)) bytes

pub passes_one : (p : ℕ) (c : List ℕ) (byte : ℕ) → (byte == 1) ≡ false → after_byte (at_stage p c Outside) byte ≡ at_stage (place (p + 1)) c Outside
unfolding after_byte
passes_one p c byte other = rw other refl

-- bytes outside candidates
pub passes_run : (p : ℕ) (c run rest : List ℕ) → p < 2 ^ 64 → has_no_1 run ≡ true
    → Goes (at_stage p c Outside) run (at_stage (place (p + length run)) c Outside) rest
passes_run p c [] rest small none =
    let same : place (p + 0) ≡ p = omega arith in
    rw same (goes_none (at_stage p c Outside) rest)
passes_run p c (byte ∷ run) rest small none =
    let parts = and_split (not (byte == 1)) (has_no_1 run) none in
    let here : (byte == 1) ≡ false = not_is (byte == 1) parts.0 in
    let step = passes_one p c byte here in
    let more = passes_run (place (p + 1)) c run rest (omega arith) parts.1 in
    let same : place (place (p + 1) + length run) ≡ place (p + length (byte ∷ run)) = omega arith in
    goes_on (at_stage p c Outside) (at_stage (place (p + 1)) c Outside) (at_stage (place (p + length (byte ∷ run))) c Outside) byte run rest refl step
    (subst (λ k. Goes (at_stage (place (p + 1)) c Outside) run (at_stage k c Outside) rest) same more)

-- a byte of a candidate that stays open
pub within_one : (p : ℕ) (c : List ℕ) (a byte : ℕ) → is_mark byte ≡ false → length c + 1 < LARGEST_BULLETIN
    → after_byte (at_stage p c (Within a)) byte ≡ at_stage (place (p + 1)) (c ++ byte ∷ []) (Within a)
unfolding after_byte
within_one p c a byte none room =
    let parts = or_split (byte == 1) (byte == 3) none in
    let not_last : (length c + 1 == LARGEST_BULLETIN) ≡ false = ne_eqb (length c + 1) LARGEST_BULLETIN (omega arith) in
    rw (parts.0, parts.1, not_last) refl

pub taken_within : (p : ℕ) (c : List ℕ) (a byte : ℕ) → (byte == 1) ≡ false → takes (at_stage p c (Within a)) byte ≡ true
taken_within p c a byte other = rw other refl

-- bytes of a candidate that stays open
pub within_run : (p : ℕ) (c : List ℕ) (a : ℕ) (run rest : List ℕ) → p < 2 ^ 64 → has_no_mark run ≡ true → length c + length run < LARGEST_BULLETIN
    → Goes (at_stage p c (Within a)) run (at_stage (place (p + length run)) (c ++ run) (Within a)) rest
within_run p c a [] rest small none room =
    let same : place (p + 0) ≡ p = omega arith in
    rw (same, append-nil c) (goes_none (at_stage p c (Within a)) rest)
within_run p c a (byte ∷ run) rest small none room =
    let parts = and_split (not (is_mark byte)) (has_no_mark run) none in
    let here : is_mark byte ≡ false = not_is (is_mark byte) parts.0 in
    let behind = c ++ byte ∷ [] in
    let count : length behind ≡ length c + 1 = length-append c (byte ∷ []) in
    let more = within_run (place (p + 1)) behind a run rest (omega arith) parts.1 (omega arith) in
    let same : place (place (p + 1) + length run) ≡ place (p + length (byte ∷ run)) = omega arith in
    let joined : behind ++ run ≡ c ++ byte ∷ run = append_assoc c (byte ∷ []) run in
    goes_on (at_stage p c (Within a)) (at_stage (place (p + 1)) behind (Within a)) (at_stage (place (p + length (byte ∷ run))) (c ++ byte ∷ run) (Within a)) byte run rest
    (taken_within p c a byte (or_split (byte == 1) (byte == 3) here).0)
    (within_one p c a byte here (omega arith))
    (subst (λ (x : List ℕ). Goes (at_stage (place (p + 1)) behind (Within a)) run (at_stage (place (p + length (byte ∷ run))) x (Within a)) rest) joined
    (subst (λ k. Goes (at_stage (place (p + 1)) behind (Within a)) run (at_stage k (behind ++ run) (Within a)) rest) same more))

framed_byte : (stage : FrameStage) (s : Scanning) (byte : ℕ) → is_framed stage ≡ true → after_framed stage s byte ≡ s
framed_byte Between s byte h = absurd cc
framed_byte (Head at) s byte h = absurd cc
framed_byte (Body at left kind) s byte h = absurd cc
framed_byte (Whole at kind) s byte h = refl
framed_byte (Unread at) s byte h = refl
framed_byte Lost s byte h = absurd cc

-- behind its end nothing changes
complete_byte : (stage : Stage) (s : Scanning) (byte : ℕ) → is_complete_in stage ≡ true → after_byte_in stage s byte ≡ s
complete_byte Outside s byte h = absurd cc
complete_byte (Within a) s byte h = absurd cc
complete_byte (Complete a) s byte h = refl
complete_byte (Framed stage) s byte h = framed_byte stage s byte h

pub after_complete : (s : Scanning) (bytes : List ℕ) → is_complete s ≡ true → after s bytes ≡ s
unfolding after after_byte
after_complete s [] ended = refl
after_complete s (byte ∷ bytes) ended = ap (λ (r : Scanning). after r bytes) (complete_byte s.stage s byte ended) ∙ after_complete s bytes ended

complete_takes : (stage : Stage) (byte : ℕ) → is_complete_in stage ≡ true → takes_in stage byte ≡ false
complete_takes Outside byte h = absurd cc
complete_takes (Within a) byte h = absurd cc
complete_takes (Complete a) byte h = refl
complete_takes (Framed stage) byte h = rw h refl

pub taken_complete : (s : Scanning) (bytes : List ℕ) → is_complete s ≡ true → bytes_taken s bytes ≡ 0
unfolding bytes_taken
taken_complete s [] ended = refl
taken_complete s (byte ∷ bytes) ended = rw (complete_takes s.stage byte ended) refl

-- the 1 that begins a candidate
pub begins_one : (p : ℕ) (c : List ℕ) (byte : ℕ) → byte ≡ 1 → after_byte (at_stage p c Outside) byte ≡ at_stage (place (p + 1)) (1 ∷ []) (Within p)
unfolding after_byte
begins_one p c byte is = rw is refl

-- the 1 that ends one
pub ends_before : (p : ℕ) (c : List ℕ) (a byte : ℕ) (rest : List ℕ) → byte ≡ 1
    → (after (at_stage p c (Within a)) (byte ∷ rest) ≡ at_stage p c (Complete a)) × (bytes_taken (at_stage p c (Within a)) (byte ∷ rest) ≡ 0)
unfolding after after_byte bytes_taken
ends_before p c a byte rest is = (rw is (after_complete (at_stage p c (Complete a)) rest refl), rw is refl)

pub last_one : (p : ℕ) (c : List ℕ) (a byte : ℕ) → (byte == 1) ≡ false → (byte == 3 || length c + 1 == LARGEST_BULLETIN) ≡ true
    → after_byte (at_stage p c (Within a)) byte ≡ at_stage (place (p + 1)) (c ++ byte ∷ []) (Complete a)
unfolding after_byte
last_one p c a byte other last = rw (other, last) refl

-- the byte with which one ends
pub ends_with : (p : ℕ) (c : List ℕ) (a byte : ℕ) (rest : List ℕ) → (byte == 1) ≡ false → (byte == 3 || length c + 1 == LARGEST_BULLETIN) ≡ true
    → Goes (at_stage p c (Within a)) (byte ∷ []) (at_stage (place (p + 1)) (c ++ byte ∷ []) (Complete a)) rest
ends_with p c a byte rest other last =
    let ended = at_stage (place (p + 1)) (c ++ byte ∷ []) (Complete a) in
    goes_on (at_stage p c (Within a)) ended ended byte [] rest (taken_within p c a byte other) (last_one p c a byte other last) (goes_none ended rest)
