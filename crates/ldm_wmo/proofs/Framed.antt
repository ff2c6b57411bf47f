-- Runs of bytes of a frame are the bytes that they are, one after another.
use Rattle.std.proofs.Common.{◌≡◌, ◌≢◌, ◌∙◌, ◌⊎◌, ℕ, ◌+◌, ◌-◌, ◌^◌, ◌<◌, ◌≤◌, true, false, List, [], ◌∷◌, ◌++◌, length, get_or, take, drop, refl, sym, ap, subst, append_assoc, arith, inl, inr, Option, Some, None}
use Rattle.std.specs.Prelude.{min, nat_lt}
use Rattle.std.specs.Str.{bytes_eq}
use Rattle.std.proofs.lemmas.Bool.{cases_Bool, cases_eq, le-ltb, lt-ltb, ltb-false, ltb-true, ne_eqb}
use Rattle.std.proofs.lemmas.List.{append-nil, length-append, length-take-le, take_all, take_at}
use Rattle.ldm_wmo.specs.declared.kind.Kind.{Kind}
use Rattle.ldm_wmo.specs.declared.stage.FrameStage.{FrameStage}
use Rattle.ldm_wmo.specs.declared.stage.FrameStage.TheVariants.{Between, Head, Body, Whole, Lost}
use Rattle.ldm_wmo.specs.declared.stage.Stage.{Stage}
use Rattle.ldm_wmo.specs.declared.stage.Stage.TheVariants.{Framed}
use Rattle.ldm_wmo.specs.Frames as frames
use Rattle.ldm_wmo.specs.Frames.{file_end, head_of}
use Rattle.ldm_wmo.specs.Scanning.{Scanning, after_byte, after_byte_in, between, body_stage, headed, headed_as, is_complete, is_line, place, takes, takes_in}
use Rattle.ldm_wmo.specs.Taking.{TakesFront, advanced}
use Rattle.ldm_wmo.proofs.Decoded.{bytes_are}
use Rattle.ldm_wmo.proofs.Fronts.{HasTaken, has_taken, takes_none, takes_one, takes_run}
use Rattle.ldm_wmo.proofs.Runs.{Goes, at_stage, goes_none, goes_on}

-- ---- a message

pub body_more : (at left : ℕ) (kind : Kind) → 0 < left → body_stage at left kind ≡ Body at left kind
body_more at left kind some = rw (ne_eqb left 0 (omega arith)) refl

pub none_left : (at size : ℕ) (kind : Kind) → body_stage at (size - size) kind ≡ Whole at kind
none_left at size kind = let none : size - size ≡ 0 = omega arith in rw none refl

body_one : (p : ℕ) (c : List ℕ) (at left : ℕ) (kind : Kind) (byte : ℕ)
    → after_byte (at_stage p c (Framed (Body at left kind))) byte ≡ at_stage (place (p + 1)) (c ++ byte ∷ []) (Framed (body_stage at (left - 1) kind))
unfolding after_byte
body_one p c at left kind byte = refl

-- bytes of a message that has at least so many more
pub body_run : (p : ℕ) (c : List ℕ) (at left : ℕ) (kind : Kind) (run rest : List ℕ) → p < 2 ^ 64 → 0 < left → length run ≤ left
    → Goes (at_stage p c (Framed (Body at left kind))) run (at_stage (place (p + length run)) (c ++ run) (Framed (body_stage at (left - length run) kind))) rest
body_run p c at left kind [] rest small some few =
    let same : place (p + 0) ≡ p = omega arith in
    let none : left - 0 ≡ left = omega arith in
    rw (same, append-nil c, none, body_more at left kind some) (goes_none (at_stage p c (Framed (Body at left kind))) rest)
body_run p c at left kind (byte ∷ []) rest small some few =
    let end_is = at_stage (place (p + 1)) (c ++ byte ∷ []) (Framed (body_stage at (left - 1) kind)) in
    goes_on (at_stage p c (Framed (Body at left kind))) end_is end_is byte [] rest refl (body_one p c at left kind byte) (goes_none end_is rest)
body_run p c at left kind (byte ∷ (next ∷ run)) rest small some few =
    let behind = c ++ byte ∷ [] in
    let more = body_run (place (p + 1)) behind at (left - 1) kind (next ∷ run) rest (omega arith) (omega arith) (omega arith) in
    let mid = at_stage (place (p + 1)) behind (Framed (Body at (left - 1) kind)) in
    let step : after_byte (at_stage p c (Framed (Body at left kind))) byte ≡ mid =
    body_one p c at left kind byte ∙ ap (λ (f : FrameStage). at_stage (place (p + 1)) behind (Framed f)) (body_more at (left - 1) kind (omega arith)) in
    let same : place (place (p + 1) + length (next ∷ run)) ≡ place (p + length (byte ∷ (next ∷ run))) = omega arith in
    let joined : behind ++ next ∷ run ≡ c ++ byte ∷ (next ∷ run) = append_assoc c (byte ∷ []) (next ∷ run) in
    let count : left - 1 - length (next ∷ run) ≡ left - length (byte ∷ (next ∷ run)) = omega arith in
    let A : ℕ → Type 0 = λ k. Goes mid (next ∷ run) (at_stage k (behind ++ next ∷ run) (Framed (body_stage at (left - 1 - length (next ∷ run)) kind))) rest in
    let B : List ℕ → Type 0 =
    λ x. Goes mid (next ∷ run) (at_stage (place (p + length (byte ∷ (next ∷ run)))) x (Framed (body_stage at (left - 1 - length (next ∷ run)) kind))) rest in
    let C : ℕ → Type 0 = λ k. Goes mid (next ∷ run) (at_stage (place (p + length (byte ∷ (next ∷ run)))) (c ++ byte ∷ (next ∷ run)) (Framed (body_stage at k kind))) rest in
    goes_on (at_stage p c (Framed (Body at left kind))) mid
    (at_stage (place (p + length (byte ∷ (next ∷ run)))) (c ++ byte ∷ (next ∷ run)) (Framed (body_stage at (left - length (byte ∷ (next ∷ run))) kind)))
    byte (next ∷ run) rest refl step (subst C count (subst B joined (subst A same more)))

-- ---- behind a frame that is none

lost_one : (p : ℕ) (c : List ℕ) (byte : ℕ) → after_byte (at_stage p c (Framed Lost)) byte ≡ at_stage (place (p + 1)) c (Framed Lost)
unfolding after_byte
lost_one p c byte = refl

pub lost_run : (p : ℕ) (c run rest : List ℕ) → p < 2 ^ 64 → Goes (at_stage p c (Framed Lost)) run (at_stage (place (p + length run)) c (Framed Lost)) rest
lost_run p c [] rest small =
    let same : place (p + 0) ≡ p = omega arith in
    rw same (goes_none (at_stage p c (Framed Lost)) rest)
lost_run p c (byte ∷ run) rest small =
    let same : place (place (p + 1) + length run) ≡ place (p + length (byte ∷ run)) = omega arith in
    goes_on (at_stage p c (Framed Lost)) (at_stage (place (p + 1)) c (Framed Lost)) (at_stage (place (p + length (byte ∷ run))) c (Framed Lost)) byte run rest refl (lost_one p c byte)
    (subst (λ k. Goes (at_stage (place (p + 1)) c (Framed Lost)) run (at_stage k c (Framed Lost)) rest) same (lost_run (place (p + 1)) c run rest (omega arith)))

-- ---- a head

-- eight zeros are not the front of these bytes, or all of them
abbrev pub Reads : List ℕ → Type 0
Reads bytes = (length bytes ≤ 8) ⊎ (bytes_eq (take 8 bytes) file_end ≡ false)

pub not_end : (bytes : List ℕ) → length bytes ≢ 8 → bytes_eq bytes file_end ≡ false
not_end bytes other = elim (cases_Bool (bytes_eq bytes file_end)) [
  | inl is ↦ absurd (other (ap length (bytes_are bytes file_end is)))
  | inr isnt ↦ isnt
]

front_not_end : (bytes more : List ℕ) → 0 < length more → Reads (bytes ++ more) → bytes_eq bytes file_end ≡ false
front_not_end bytes more some reads = elim (cases_eq (length bytes) 8) [
  | inl eight ↦ by_reads eight reads
  | inr other ↦ not_end bytes other
]
  where
    by_reads : length bytes ≡ 8 → Reads (bytes ++ more) → bytes_eq bytes file_end ≡ false
    by_reads eight (inl few) = absurd (omega (arith, length-append bytes more))
    by_reads eight (inr isnt) = ap (λ (x : List ℕ). bytes_eq x file_end) (sym (take_at bytes more 8 eight)) ∙ isnt

pub head_open : (at p : ℕ) (bytes : List ℕ) → bytes_eq bytes file_end ≡ false → length bytes < 10 → headed at p bytes ≡ at_stage p bytes (Framed (Head at))
unfolding headed
head_open at p bytes other few =
    let short : nat_lt (length bytes) 10 ≡ true = lt-ltb (length bytes) 10 few in
    rw (other, short) refl

-- bytes of a head, from a state in which the bytes before them were read
pub head_run : (s : Scanning) (at p : ℕ) (c : List ℕ) → ((byte : ℕ) → takes s byte ≡ true) → ((byte : ℕ) → after_byte s byte ≡ headed at (place (p + 1)) (c ++ byte ∷ []))
    → (byte : ℕ) (run rest : List ℕ) → p < 2 ^ 64 → length c + (1 + length run) ≤ 10 → Reads (c ++ byte ∷ run)
    → Goes s (byte ∷ run) (headed at (place (p + (1 + length run))) (c ++ byte ∷ run)) rest
unfolding after_byte
head_run s at p c taken steps byte [] rest small few reads =
    let there = headed at (place (p + 1)) (c ++ byte ∷ []) in
    goes_on s there there byte [] rest (taken byte) (steps byte) (goes_none there rest)
head_run s at p c taken steps byte (next ∷ run) rest small few reads =
    let behind = c ++ byte ∷ [] in
    let joined : behind ++ next ∷ run ≡ c ++ byte ∷ (next ∷ run) = append_assoc c (byte ∷ []) (next ∷ run) in
    let count : length behind ≡ length c + 1 = length-append c (byte ∷ []) in
    let again : Reads (behind ++ next ∷ run) = subst Reads (sym joined) reads in
    let mid = at_stage (place (p + 1)) behind (Framed (Head at)) in
    let opens : headed at (place (p + 1)) behind ≡ mid = head_open at (place (p + 1)) behind (front_not_end behind (next ∷ run) (omega arith) again) (omega arith) in
    let more = head_run mid at (place (p + 1)) behind (λ b. refl) (λ b. refl) next run rest (omega arith) (omega arith) again in
    let same : place (place (p + 1) + (1 + length run)) ≡ place (p + (1 + length (next ∷ run))) = omega arith in
    let A : ℕ → Type 0 = λ k. Goes mid (next ∷ run) (headed at k (behind ++ next ∷ run)) rest in
    let B : List ℕ → Type 0 = λ x. Goes mid (next ∷ run) (headed at (place (p + (1 + length (next ∷ run)))) x) rest in
    goes_on s mid (headed at (place (p + (1 + length (next ∷ run)))) (c ++ byte ∷ (next ∷ run))) byte (next ∷ run) rest (taken byte) (steps byte ∙ opens)
    (subst B joined (subst A same more))

-- ---- what is taken of a piece

pub takes_head : (s t : Scanning) (piece : List ℕ) → 0 < length piece → takes s (get_or piece 0 0) ≡ true → after_byte s (get_or piece 0 0) ≡ t → TakesFront s piece 1 t
takes_head s t piece some taken step =
    takes_one s t piece 0 some (goes_on s t t (get_or piece 0 0) [] (drop 1 piece) taken step (goes_none t (drop 1 piece)))

pub takes_body : (p : ℕ) (c : List ℕ) (at left : ℕ) (kind : Kind) (piece : List ℕ) (n : ℕ) → p < 2 ^ 64 → 0 < left → n ≤ left → n ≤ length piece
    → TakesFront (at_stage p c (Framed (Body at left kind))) piece n (at_stage (place (p + length (take n piece))) (c ++ take n piece) (Framed (body_stage at (left - n) kind)))
takes_body p c at left kind piece n small some few within =
    let len : length (take n piece) ≡ n = length-take-le n piece within in
    let goes = body_run p c at left kind (take n piece) (drop n piece) small some (omega arith) in
    let P : ℕ → Type 0 =
    λ k. Goes (at_stage p c (Framed (Body at left kind))) (take n piece) (at_stage (place (p + length (take n piece))) (c ++ take n piece) (Framed (body_stage at (left - k) kind))) (drop n piece) in
    takes_run (at_stage p c (Framed (Body at left kind))) (at_stage (place (p + length (take n piece))) (c ++ take n piece) (Framed (body_stage at (left - n) kind))) piece n within
    (subst P len goes)

pub takes_lost : (p : ℕ) (c piece : List ℕ) → p < 2 ^ 64 → TakesFront (at_stage p c (Framed Lost)) piece (length piece) (at_stage (place (p + length piece)) c (Framed Lost))
takes_lost p c piece small =
    let whole = take_all (length piece) piece (omega arith) in
    let P : List ℕ → Type 0 = λ x. Goes (at_stage p c (Framed Lost)) x (at_stage (place (p + length piece)) c (Framed Lost)) (drop (length piece) piece) in
    takes_run (at_stage p c (Framed Lost)) (at_stage (place (p + length piece)) c (Framed Lost)) piece (length piece) (omega arith)
    (subst P (sym whole) (lost_run p c piece (drop (length piece) piece) small))

-- ---- what the bytes of a head are

pub headed_file : (at p : ℕ) (bytes : List ℕ) → bytes_eq bytes file_end ≡ true → headed at p bytes ≡ between p
unfolding headed
headed_file at p bytes is = rw is refl

pub headed_ten : (at p : ℕ) (bytes : List ℕ) → bytes_eq bytes file_end ≡ false → 10 ≤ length bytes → headed at p bytes ≡ headed_as at p bytes (head_of bytes)
unfolding headed
headed_ten at p bytes other long =
    let not_short : nat_lt (length bytes) 10 ≡ false = le-ltb (length bytes) 10 long in
    rw (other, not_short) refl

as_framed : (at p : ℕ) (bytes : List ℕ) (head : Option frames.Head) → is_line (headed_as at p bytes head) ≡ false
as_framed at p bytes None = refl
as_framed at p bytes (Some head) = refl

pub headed_framed : (at p : ℕ) (bytes : List ℕ) → is_line (headed at p bytes) ≡ false
headed_framed at p bytes = elim (cases_Bool (bytes_eq bytes file_end)) [
  | inl is ↦ ap is_line (headed_file at p bytes is)
  | inr other ↦ elim (cases_Bool (nat_lt (length bytes) 10)) [
    | inl short ↦ ap is_line (head_open at p bytes other (ltb-true (length bytes) 10 short))
    | inr long ↦ ap is_line (headed_ten at p bytes other (ltb-false (length bytes) 10 long)) ∙ as_framed at p bytes (head_of bytes)
  ]
]

-- ---- the same of a scanner that is seen so

module _ (s t : Scanning) (piece : List ℕ) where
  pub one_more : (at : ℕ) (frame : FrameStage) → s.stage ≡ Framed frame → takes_in (Framed frame) (get_or piece 0 0) ≡ true → 0 < length piece
      → after_byte_in (Framed frame) s (get_or piece 0 0) ≡ headed at (place (s.place + 1)) (s.candidate ++ get_or piece 0 0 ∷ [])
      → t ≡ headed at (place (s.place + 1)) (s.candidate ++ get_or piece 0 0 ∷ []) → TakesFront s piece 1 t
  unfolding after_byte
  one_more at frame stage taken some step is =
      takes_head s t piece some (ap (λ (st : Stage). takes_in st (get_or piece 0 0)) stage ∙ taken)
      (ap (λ (st : Stage). after_byte_in st s (get_or piece 0 0)) stage ∙ step ∙ sym is)

  pub between_more : (at : ℕ) → s.stage ≡ Framed Between → 0 < length piece → at ≡ s.place
      → t ≡ headed at (place (s.place + 1)) (s.candidate ++ get_or piece 0 0 ∷ []) → TakesFront s piece 1 t
  between_more at stage some there is =
      one_more at Between stage refl some (ap (λ (k : ℕ). headed k (place (s.place + 1)) (s.candidate ++ get_or piece 0 0 ∷ [])) (sym there)) is

  pub head_more : (at : ℕ) → s.stage ≡ Framed (Head at) → 0 < length piece
      → t ≡ headed at (place (s.place + 1)) (s.candidate ++ get_or piece 0 0 ∷ []) → TakesFront s piece 1 t
  head_more at stage some is = one_more at (Head at) stage refl some refl is

  as_seen : (frame : FrameStage) (n : ℕ) (made : Scanning) → s.stage ≡ Framed frame → t ≡ made → TakesFront (at_stage s.place s.candidate (Framed frame)) piece n made → TakesFront s piece n t
  as_seen frame n made stage is front =
      let P : Stage → Type 0 = λ st. TakesFront (at_stage s.place s.candidate st) piece n made in
      let Q : Scanning → Type 0 = λ u. TakesFront s piece n u in
      subst Q (sym is) (subst P (sym stage) front)

  pub body_taken : (at left : ℕ) (kind : Kind) (n : ℕ) → s.stage ≡ Framed (Body at left kind) → s.place < 2 ^ 64 → 0 < left → n ≡ min left (length piece)
      → t ≡ at_stage (place (s.place + length (take n piece))) (s.candidate ++ take n piece) (Framed (body_stage at (left - n) kind)) → TakesFront s piece n t
  body_taken at left kind n stage small some count is =
      as_seen (Body at left kind) n (at_stage (place (s.place + length (take n piece))) (s.candidate ++ take n piece) (Framed (body_stage at (left - n) kind))) stage is
      (takes_body s.place s.candidate at left kind piece n small some (omega arith) (omega arith))

  pub lost_taken : s.stage ≡ Framed Lost → s.place < 2 ^ 64 → t ≡ advanced s (length piece) → TakesFront s piece (length piece) t
  lost_taken stage small is =
      let made = at_stage (place (s.place + length piece)) s.candidate (Framed Lost) in
      let made_is : advanced s (length piece) ≡ made = ap (λ (st : Stage). at_stage (place (s.place + length piece)) s.candidate st) stage in
      as_seen Lost (length piece) made stage (is ∙ made_is) (takes_lost s.place s.candidate piece small)

  pub front_taken : (n : ℕ) → TakesFront s piece n t → (n < length piece → is_complete t ≡ true) → HasTaken s piece n t
  front_taken n front ends =
      let P : ℕ → Type 0 = λ k. HasTaken s piece k t in
      let same : 0 + n ≡ n = omega arith in
      subst P same (has_taken s s t piece 0 n (takes_none s piece) front (λ short. ends (omega arith)))
