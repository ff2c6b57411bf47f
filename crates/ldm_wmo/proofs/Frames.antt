-- What a scanner finds in a stream of frames is what its frames hold.
use Rattle.std.proofs.Common.{◌≡◌, ◌∙◌, ℕ, zero, suc, ◌+◌, ◌-◌, ◌^◌, ◌<◌, ◌≤◌, ◌==◌, ◌&&◌, true, false, List, [], ◌∷◌, ◌++◌, length, take, drop, refl, sym, ap, subst, arith, inl, inr, Option, Some, None}
use Rattle.std.specs.Prelude.{nat_lt, nat_le, option_map}
use Rattle.std.specs.List.{list_all}
use Rattle.std.specs.Str.{bytes_eq}
use Rattle.std.proofs.lemmas.Bool.{cases_Bool, cases_eq, eq-eqb, eqb-false, eqb-true, le-ltb, leb-true, ltb-false, ltb-true}
use Rattle.std.proofs.lemmas.List.{append-nil, drop_at, length-drop, length-take, length-take-le, take_all, take-append-drop, take-take, drop-drop}
use Rattle.ldm_wmo.specs.declared.kind.Kind.{Kind}
use Rattle.ldm_wmo.specs.declared.stage.FrameStage.{FrameStage}
use Rattle.ldm_wmo.specs.declared.stage.FrameStage.TheVariants as frame
use Rattle.ldm_wmo.specs.declared.stage.Stage.TheVariants.{Framed}
use Rattle.ldm_wmo.specs.declared.stage.TheConstants.{LARGEST_BULLETIN}
use Rattle.ldm_wmo.specs.Frames.{Head, file_end, head_of, is_enclosed, is_size, kind_of}
use Rattle.ldm_wmo.specs.Headings.{is_digit}
use Rattle.ldm_wmo.specs.Lines.{number_of}
use Rattle.ldm_wmo.specs.Items.{Found, Bad, enclosed_at, message_at}
use Rattle.ldm_wmo.specs.Messages.{Frame, FileEnd, Message, Misfit, NoHead, Nothing, Cut, Messages, cut_at, found_first, frame_of, framed_by, last_bad, messages_from, none_found}
use Rattle.ldm_wmo.specs.Scanning.{Scanning, after, after_byte, between, body_stage, bytes_taken, cut_of, headed, headed_as, is_complete, lost, next_of, place}
use Rattle.ldm_wmo.specs.Streams.{given, in_hand, items_in}
use Rattle.ldm_wmo.proofs.Decoded.{bytes_are}
use Rattle.ldm_wmo.proofs.Framed.{Reads, body_more, body_run, head_open, head_run, none_left, not_end}
use Rattle.ldm_wmo.proofs.Joined.{pushed}
use Rattle.ldm_wmo.proofs.Lost.{lost_run}
use Rattle.ldm_wmo.proofs.Runs.{Goes, after_complete, at_stage, taken_complete}
use Rattle.ldm_wmo.proofs.Spelled.{and_parts}

-- what is found in bytes from a state on
pub record Same (s : Scanning) (bytes : List ℕ) (m : Messages) : Type 0 where
  pub items : items_in s bytes ≡ m.items
  pub cut : cut_of (in_hand s bytes) ≡ m.cut

more_drop : (run rest : List ℕ) (k : ℕ) → drop (length run + k) (run ++ rest) ≡ drop k rest
more_drop run rest k = sym (drop-drop k (length run) (run ++ rest)) ∙ ap (drop k) (drop_at run rest (length run) refl)

-- behind a run that leaves it open, the rest is found
same_open : (s t : Scanning) (run rest : List ℕ) (m : Messages) → Goes s run t rest → is_complete s ≡ false → is_complete t ≡ false → Same t rest m → Same s (run ++ rest) m
same_open s t run rest m goes unended unclosed same =
    let one = pushed s (run ++ rest) unended in
    let two = pushed t rest unclosed in
    let left : drop (bytes_taken s (run ++ rest)) (run ++ rest) ≡ drop (bytes_taken t rest) rest =
    ap (λ n. drop n (run ++ rest)) goes.1 ∙ more_drop run rest (bytes_taken t rest) in
    let items : items_in s (run ++ rest) ≡ items_in t rest =
    one.items ∙ ap (λ (u : Scanning). given u ++ items_in (next_of u) (drop (bytes_taken s (run ++ rest)) (run ++ rest))) goes.0
    ∙ ap (λ (x : List ℕ). given (after t rest) ++ items_in (next_of (after t rest)) x) left ∙ sym two.items in
    let hand : in_hand s (run ++ rest) ≡ in_hand t rest =
    one.in_hand_is ∙ ap (λ (u : Scanning). in_hand (next_of u) (drop (bytes_taken s (run ++ rest)) (run ++ rest))) goes.0
    ∙ ap (λ (x : List ℕ). in_hand (next_of (after t rest)) x) left ∙ sym two.in_hand_is in
    record { items = items ∙ same.items; cut = ap cut_of hand ∙ same.cut }

-- behind a run that ends something, that is found, and then the rest
same_ended : (s t : Scanning) (run rest : List ℕ) (item : Found) (m : Messages) → Goes s run t rest → is_complete s ≡ false → is_complete t ≡ true → given t ≡ item ∷ []
    → Same (next_of t) rest m → Same s (run ++ rest) (found_first item m)
same_ended s t run rest item m goes unended ended item_is same =
    let one = pushed s (run ++ rest) unended in
    let after_is : after s (run ++ rest) ≡ t = goes.0 ∙ after_complete t rest ended in
    let count : bytes_taken s (run ++ rest) ≡ length run = goes.1 ∙ ap (λ n. length run + n) (taken_complete t rest ended) ∙ omega arith in
    let left : drop (bytes_taken s (run ++ rest)) (run ++ rest) ≡ rest = ap (λ n. drop n (run ++ rest)) count ∙ drop_at run rest (length run) refl in
    let items : items_in s (run ++ rest) ≡ item ∷ m.items =
    one.items ∙ ap (λ (u : Scanning). given u ++ items_in (next_of u) (drop (bytes_taken s (run ++ rest)) (run ++ rest))) after_is
    ∙ ap (λ (x : List ℕ). given t ++ items_in (next_of t) x) left ∙ ap (λ (g : List Found). g ++ items_in (next_of t) rest) item_is
    ∙ ap (λ (i : List Found). item ∷ i) same.items in
    let hand : in_hand s (run ++ rest) ≡ in_hand (next_of t) rest =
    one.in_hand_is ∙ ap (λ (u : Scanning). in_hand (next_of u) (drop (bytes_taken s (run ++ rest)) (run ++ rest))) after_is ∙ ap (λ (x : List ℕ). in_hand (next_of t) x) left in
    record { items = items; cut = ap cut_of hand ∙ same.cut }

same_as : (s : Scanning) (a b : List ℕ) (m n : Messages) → a ≡ b → m ≡ n → Same s a m → Same s b n
same_as s a b m n stream is same =
    let P : List ℕ → Type 0 = λ x. Same s x m in
    let Q : Messages → Type 0 = λ x. Same s b x in
    subst Q is (subst P stream same)

same_nothing : (s : Scanning) → Same s [] (record { items = []; cut = cut_of s })
unfolding items_in in_hand
same_nothing s = record { items = refl; cut = refl }

same_lost : (p : ℕ) (rest : List ℕ) → Same (lost p) rest none_found
same_lost p rest = let l = lost_run p [] rest in record { items = l.0; cut = l.1 }

-- ---- a head

pub head_some : (ten : List ℕ) (head : Head) → head_of ten ≡ Some head → (0 < head.size) × (head.size ≤ LARGEST_BULLETIN)
unfolding head_of
head_some ten head is = elim (cases_Bool (is_size (take 8 ten))) [
  | inl size ↦
      let made = by_kind (kind_of (drop 8 ten)) (rw size at is) in
      let parts = and_parts (list_all is_digit (take 8 ten)) (nat_le 1 (number_of (take 8 ten)) && nat_le (number_of (take 8 ten)) LARGEST_BULLETIN) size in
      let bounds = and_parts (nat_le 1 (number_of (take 8 ten))) (nat_le (number_of (take 8 ten)) LARGEST_BULLETIN) parts.1 in
      let low = leb-true 1 (number_of (take 8 ten)) bounds.0 in
      let high = leb-true (number_of (take 8 ten)) LARGEST_BULLETIN bounds.1 in
      (omega arith, omega arith)
  | inr other ↦ absurd (never (rw other at is))
]
  where
    never : None ≡ Some head → ⊥
    never none = cc

    by_kind : (kind : Option Kind) → option_map (λ (k : Kind). let h : Head = record { size = number_of (take 8 ten); kind = k } in h) kind ≡ Some head → head.size ≡ number_of (take 8 ten)
    by_kind None none = absurd (never none)
    by_kind (Some k) some = sym (ap size_in some)
      where
        size_in : Option Head → ℕ
        size_in None = 0
        size_in (Some h) = h.size

pub no_size : (ten : List ℕ) → is_size (take 8 ten) ≡ false → head_of ten ≡ None
unfolding head_of
no_size ten other = rw other refl

pub no_kind : (ten : List ℕ) → is_size (take 8 ten) ≡ true → None ≡ kind_of (drop 8 ten) → head_of ten ≡ None
unfolding head_of
no_kind ten size none = rw (size, sym none) refl

pub a_head : (ten : List ℕ) (size : ℕ) (kind : Kind) → is_size (take 8 ten) ≡ true → size ≡ number_of (take 8 ten) → Some kind ≡ kind_of (drop 8 ten)
    → head_of ten ≡ Some (record { size = size; kind = kind })
unfolding head_of
a_head ten size kind is size_is some = rw (is, sym some, size_is) refl

-- the bytes of a head from a place between frames
first_run : (p : ℕ) (run rest : List ℕ) → p < 2 ^ 64 → 0 < length run → length run ≤ 10 → Reads run → Goes (between p) run (headed p (place (p + length run)) run) rest
unfolding after_byte
first_run p [] rest small some few reads = absurd (omega arith)
first_run p (byte ∷ run) rest small some few reads =
    let same : place (p + (1 + length run)) ≡ place (p + length (byte ∷ run)) = omega arith in
    let P : ℕ → Type 0 = λ k. Goes (between p) (byte ∷ run) (headed p k (byte ∷ run)) rest in
    subst P same (head_run (between p) p p [] (λ b. refl) (λ b. refl) byte run rest small (omega arith) reads)

-- ---- frame by frame

-- what is found from a place on, by what stands there
by_frame : ℕ → ℕ → List ℕ → Frame → Messages
by_frame frames at bytes Nothing = none_found
by_frame frames at bytes FileEnd = messages_from frames (at + 8) (drop 8 bytes)
by_frame frames at bytes (Message kind message) =
    found_first (message_at (place at) kind message) (messages_from frames (at + (10 + length message)) (drop (10 + length message) bytes))
by_frame frames at bytes Misfit = last_bad at
by_frame frames at bytes NoHead = last_bad at
by_frame frames at bytes Cut = cut_at at

by_front : (frames at : ℕ) (bytes : List ℕ) (f : Frame) → frame_of bytes ≡ f → by_frame frames at bytes f ≡ messages_from (suc frames) at bytes
unfolding messages_from by_frame
by_front frames at bytes f is = ap (by_frame frames at bytes) (sym is) ∙ opened (frame_of bytes)
  where
    opened : (g : Frame) → by_frame frames at bytes g ≡ elim g [
      | Nothing ↦ none_found
      | FileEnd ↦ messages_from frames (at + 8) (drop 8 bytes)
      | Message kind message ↦
          found_first (message_at (place at) kind message) (messages_from frames (at + (10 + length message)) (drop (10 + length message) bytes))
      | Misfit ↦ last_bad at
      | NoHead ↦ last_bad at
      | Cut ↦ cut_at at
    ]
    opened Nothing = refl
    opened FileEnd = refl
    opened (Message kind message) = refl
    opened Misfit = refl
    opened NoHead = refl
    opened Cut = refl

abbrev Read : ℕ → ℕ → List ℕ → Type 0
Read frames at bytes = Same (between (place at)) bytes (messages_from frames at bytes)

ended_file : (at p : ℕ) → headed at p file_end ≡ between p
unfolding headed
ended_file at p = refl

file_ends : (frames at : ℕ) (bytes : List ℕ) → frame_of bytes ≡ FileEnd → bytes_eq (take 8 bytes) file_end ≡ true → Read frames (at + 8) (drop 8 bytes) → Read (suc frames) at bytes
unfolding by_frame
file_ends frames at bytes is end_is more =
    let p = place at in
    let front : take 8 bytes ≡ file_end = bytes_are (take 8 bytes) file_end end_is in
    let whole : file_end ++ drop 8 bytes ≡ bytes = ap (λ (x : List ℕ). x ++ drop 8 bytes) (sym front) ∙ take-append-drop 8 bytes in
    let same : place (p + 8) ≡ place (at + 8) = omega arith in
    let goes = first_run p file_end (drop 8 bytes) (omega arith) (omega arith) (omega arith) (inl (omega arith)) in
    let P : Scanning → Type 0 = λ s. Goes (between p) file_end s (drop 8 bytes) in
    let there = subst P (ended_file p (place (p + 8)) ∙ ap between same) goes in
    same_as (between p) (file_end ++ drop 8 bytes) bytes (messages_from frames (at + 8) (drop 8 bytes)) (messages_from (suc frames) at bytes) whole (by_front frames at bytes FileEnd is)
    (same_open (between p) (between (place (at + 8))) file_end (drop 8 bytes) (messages_from frames (at + 8) (drop 8 bytes)) there refl refl more)

head_cut : (frames at : ℕ) (bytes : List ℕ) → frame_of bytes ≡ Cut → 0 < length bytes → length bytes < 10 → bytes_eq (take 8 bytes) file_end ≡ false → Read (suc frames) at bytes
unfolding by_frame
head_cut frames at bytes is some few other =
    let p = place at in
    let reads : Reads bytes = inr other in
    let not_file : bytes_eq bytes file_end ≡ false = elim (cases_eq (length bytes) 8) [
      | inl eight ↦ ap (λ (x : List ℕ). bytes_eq x file_end) (sym (take_all 8 bytes (omega arith))) ∙ other
      | inr isnt ↦ not_end bytes isnt
    ] in
    let q = place (p + length bytes) in
    let there = at_stage q bytes (Framed (frame.Head p)) in
    let P : Scanning → Type 0 = λ s. Goes (between p) bytes s [] in
    let goes = subst P (head_open p q bytes not_file few) (first_run p bytes [] (omega arith) some (omega arith) reads) in
    same_as (between p) (bytes ++ []) bytes (cut_at at) (messages_from (suc frames) at bytes) (append-nil bytes) (by_front frames at bytes Cut is)
    (same_open (between p) there bytes [] (cut_at at) goes refl refl (same_nothing there))

-- ten bytes, and those behind them
module _ (at : ℕ) (bytes : List ℕ) (ten_there : 10 ≤ length bytes) (other : bytes_eq (take 8 bytes) file_end ≡ false) where
  abbrev p : ℕ
  p = place at

  abbrev ten : List ℕ
  ten = take 10 bytes

  abbrev behind : List ℕ
  behind = drop 10 bytes

  abbrev q : ℕ
  q = place (p + 10)

  whole_is : ten ++ behind ≡ bytes
  whole_is = take-append-drop 10 bytes

  ten_length : length ten ≡ 10
  ten_length = length-take-le 10 bytes ten_there

  front_is : take 8 ten ≡ take 8 bytes
  front_is = take-take 8 10 bytes (omega arith)

  ten_goes : (rest : List ℕ) → Goes (between p) ten (headed p q ten) rest
  ten_goes rest =
      let reads : Reads ten = inr (ap (λ (x : List ℕ). bytes_eq x file_end) front_is ∙ other) in
      let P : ℕ → Type 0 = λ n. Goes (between p) ten (headed p (place (p + n)) ten) rest in
      subst P ten_length (first_run p ten rest (omega arith) (omega (arith, ten_length)) (omega (arith, ten_length)) reads)

  ten_headed : headed p q ten ≡ headed_as p q ten (head_of ten)
  unfolding headed
  ten_headed =
      let not_file : bytes_eq ten file_end ≡ false = not_end ten (omega (arith, ten_length)) in
      let long : nat_lt (length ten) 10 ≡ false = le-ltb (length ten) 10 (omega (arith, ten_length)) in
      rw (not_file, long) refl

  pub no_head : (frames : ℕ) → frame_of bytes ≡ NoHead → head_of ten ≡ None → Read (suc frames) at bytes
  unfolding by_frame
  no_head frames is none =
      let there = at_stage q ten (Framed (frame.Unread p)) in
      let P : Scanning → Type 0 = λ s. Goes (between p) ten s behind in
      let goes = subst P (ten_headed ∙ ap (headed_as p q ten) none) (ten_goes behind) in
      same_as (between p) (ten ++ behind) bytes (last_bad at) (messages_from (suc frames) at bytes) whole_is (by_front frames at bytes NoHead is)
      (same_ended (between p) there ten behind (Bad p) none_found goes refl refl refl (same_lost q behind))

  module _ (head : Head) (head_is : head_of ten ≡ Some head) where
    abbrev open_at : Scanning
    open_at = at_stage q [] (Framed (frame.Body p head.size head.kind))

    head_goes : Goes (between p) ten open_at behind
    head_goes =
        let P : Scanning → Type 0 = λ s. Goes (between p) ten s behind in
        subst P (ten_headed ∙ ap (headed_as p q ten) head_is) (ten_goes behind)

    by_head : (m : Messages) → Same open_at behind m → Same (between p) (ten ++ behind) m
    by_head m same = same_open (between p) open_at ten behind m head_goes refl refl same

    pub message_cut : (frames : ℕ) → frame_of bytes ≡ Cut → length behind < head.size → Read (suc frames) at bytes
    unfolding by_frame
    message_cut frames is few =
        let some = (head_some ten head head_is).0 in
        let r = place (q + length behind) in
        let u = at_stage r behind (Framed (body_stage p (head.size - length behind) head.kind)) in
        let v = at_stage r behind (Framed (frame.Body p (head.size - length behind) head.kind)) in
        let goes = body_run q [] p head.size head.kind behind [] (omega arith) some (omega arith) in
        let u_is : u ≡ v = ap (λ (f : FrameStage). at_stage r behind (Framed f)) (body_more p (head.size - length behind) head.kind (omega arith)) in
        let P : Scanning → Type 0 = λ s. Goes open_at behind s [] in
        let Q : List ℕ → Type 0 = λ x. Same open_at x (cut_at at) in
        let same = same_open open_at v behind [] (cut_at at) (subst P u_is goes) refl refl (same_nothing v) in
        same_as (between p) (ten ++ behind) bytes (cut_at at) (messages_from (suc frames) at bytes) whole_is (by_front frames at bytes Cut is)
        (by_head (cut_at at) (subst Q (append-nil behind) same))

    module _ (whole : head.size ≤ length behind) where
      abbrev message : List ℕ
      message = take head.size behind

      abbrev more : List ℕ
      more = drop head.size behind

      size_is : length message ≡ head.size
      size_is = length-take-le head.size behind whole

      abbrev r : ℕ
      r = place (q + length message)

      abbrev ended : Scanning
      ended = at_stage r message (Framed (frame.Whole p head.kind))

      body_goes : Goes open_at message ended more
      body_goes =
          let some = (head_some ten head head_is).0 in
          let goes = body_run q [] p head.size head.kind message more (omega arith) some (omega (arith, size_is)) in
          let zero_left : body_stage p (head.size - length message) head.kind ≡ frame.Whole p head.kind = rw size_is (none_left p head.size head.kind) in
          let P : FrameStage → Type 0 = λ f. Goes open_at message (at_stage r message (Framed f)) more in
          subst P zero_left goes

      from_body : (item : Found) (m : Messages) → enclosed_at p head.kind message ≡ item → Same (next_of ended) more m → Same (between p) (ten ++ behind) (found_first item m)
      from_body item m item_is same =
          let P : List ℕ → Type 0 = λ x. Same open_at x (found_first item m) in
          by_head (found_first item m)
          (subst P (take-append-drop head.size behind)
          (same_ended open_at ended message more item m body_goes refl refl (ap (λ (i : Found). i ∷ []) item_is) same))

      pub misfit : (frames : ℕ) → frame_of bytes ≡ Misfit → is_enclosed message ≡ false → Read (suc frames) at bytes
      unfolding by_frame
      misfit frames is unclosed =
          let next : next_of ended ≡ lost r = rw unclosed refl in
          let P : Scanning → Type 0 = λ s. Same s more none_found in
          same_as (between p) (ten ++ behind) bytes (last_bad at) (messages_from (suc frames) at bytes) whole_is (by_front frames at bytes Misfit is)
          (from_body (Bad p) none_found (rw unclosed refl) (subst P (sym next) (same_lost r more)))

      pub message_whole : (frames : ℕ) → frame_of bytes ≡ Message head.kind message → is_enclosed message ≡ true
          → Read frames (at + (10 + length message)) (drop (10 + length message) bytes) → Read (suc frames) at bytes
      unfolding by_frame
      message_whole frames is closed rest =
          let there = at + (10 + length message) in
          let same_place : r ≡ place there = omega arith in
          let next : next_of ended ≡ between (place there) = rw closed (ap between same_place) in
          let left : drop (10 + length message) bytes ≡ more = ap (λ n. drop (10 + n) bytes) size_is ∙ sym (drop-drop head.size 10 bytes) in
          let m = messages_from frames there (drop (10 + length message) bytes) in
          let P : Scanning → Type 0 = λ s. Same s more m in
          let Q : List ℕ → Type 0 = λ x. Same (between (place there)) x m in
          same_as (between p) (ten ++ behind) bytes (found_first (message_at p head.kind message) m) (messages_from (suc frames) at bytes) whole_is (by_front frames at bytes (Message head.kind message) is)
          (from_body (message_at p head.kind message) m (rw closed refl) (subst P (sym next) (subst Q left rest)))

-- ---- all frames

nothing : (bytes : List ℕ) → length bytes ≡ 0 → bytes ≡ []
nothing [] is = refl
nothing (byte ∷ bytes) is = absurd (omega arith)

frame_nothing : (bytes : List ℕ) → length bytes ≡ 0 → frame_of bytes ≡ Nothing
unfolding frame_of
frame_nothing bytes is =
    let e : (length bytes == 0) ≡ true = eq-eqb (length bytes) 0 is in
    rw e refl

no_frames : (at : ℕ) (bytes : List ℕ) → messages_from 0 at bytes ≡ none_found
unfolding messages_from
no_frames at bytes = refl

no_bytes : (frames at : ℕ) (bytes : List ℕ) → length bytes ≡ 0 → Read frames at bytes
unfolding by_frame
no_bytes zero at bytes is =
    same_as (between (place at)) [] bytes none_found (messages_from 0 at bytes) (sym (nothing bytes is)) (sym (no_frames at bytes)) (same_nothing (between (place at)))
no_bytes (suc frames) at bytes is =
    same_as (between (place at)) [] bytes none_found (messages_from (suc frames) at bytes) (sym (nothing bytes is)) (by_front frames at bytes Nothing (frame_nothing bytes is))
    (same_nothing (between (place at)))

frame_end : (bytes : List ℕ) → (length bytes == 0) ≡ false → bytes_eq (take 8 bytes) file_end ≡ true → frame_of bytes ≡ FileEnd
unfolding frame_of
frame_end bytes some is = rw (some, is) refl

frame_cut : (bytes : List ℕ) → (length bytes == 0) ≡ false → bytes_eq (take 8 bytes) file_end ≡ false → nat_lt (length bytes) 10 ≡ true → frame_of bytes ≡ Cut
unfolding frame_of
frame_cut bytes some other few = rw (some, other, few) refl

frame_head : (bytes : List ℕ) → (length bytes == 0) ≡ false → bytes_eq (take 8 bytes) file_end ≡ false → nat_lt (length bytes) 10 ≡ false
    → frame_of bytes ≡ framed_by (head_of (take 10 bytes)) (drop 10 bytes)
unfolding frame_of
frame_head bytes some other few = rw (some, other, few) refl

eight_there : (bytes : List ℕ) → bytes_eq (take 8 bytes) file_end ≡ true → 8 ≤ length bytes
eight_there bytes is = omega (arith, ap length (bytes_are (take 8 bytes) file_end is), length-take {A = ℕ})

module _ (frames at : ℕ) (bytes : List ℕ) (few : length bytes ≤ suc frames) (again : (there : ℕ) (rest : List ℕ) → length rest ≤ frames → Read frames there rest) where
  by_ten : (ten_there : 10 ≤ length bytes) (other : bytes_eq (take 8 bytes) file_end ≡ false) (head : Option Head) → head_of (take 10 bytes) ≡ head
      → frame_of bytes ≡ framed_by (head_of (take 10 bytes)) (drop 10 bytes) → Read (suc frames) at bytes
  by_ten ten_there other None is frame_is = no_head at bytes ten_there other frames (frame_is ∙ ap (λ (h : Option Head). framed_by h (drop 10 bytes)) is) is
  by_ten ten_there other (Some head) is frame_is =
      let from : frame_of bytes ≡ framed_by (Some head) (drop 10 bytes) = frame_is ∙ ap (λ (h : Option Head). framed_by h (drop 10 bytes)) is in
      let rest = drop 10 bytes in
      elim (cases_Bool (nat_lt (length rest) head.size)) [
        | inl short ↦ message_cut at bytes ten_there other head is frames (from ∙ rw short refl) (ltb-true (length rest) head.size short)
        | inr long ↦
            let whole = ltb-false (length rest) head.size long in
            let text = take head.size rest in
            elim (cases_Bool (is_enclosed text)) [
              | inl closed ↦
                  message_whole at bytes ten_there other head is whole frames (from ∙ rw (long, closed) refl) closed
                  (again (at + (10 + length text)) (drop (10 + length text) bytes) (omega (arith, length-drop (10 + length text) bytes)))
              | inr unclosed ↦ misfit at bytes ten_there other head is whole frames (from ∙ rw (long, unclosed) refl) unclosed
            ]
      ]

  by_bytes : Read (suc frames) at bytes
  by_bytes = elim (cases_Bool (length bytes == 0)) [
    | inl none ↦ no_bytes (suc frames) at bytes (eqb-true (length bytes) 0 none)
    | inr some ↦ elim (cases_Bool (bytes_eq (take 8 bytes) file_end)) [
      | inl is ↦
          let eight = eight_there bytes is in
          file_ends frames at bytes (frame_end bytes some is) is (again (at + 8) (drop 8 bytes) (omega (arith, length-drop 8 bytes)))
      | inr other ↦ elim (cases_Bool (nat_lt (length bytes) 10)) [
        | inl short ↦
            let not_none = eqb-false (length bytes) 0 some in
            head_cut frames at bytes (frame_cut bytes some other short) (omega arith) (ltb-true (length bytes) 10 short) other
        | inr long ↦ by_ten (ltb-false (length bytes) 10 long) other (head_of (take 10 bytes)) refl (frame_head bytes some other long)
      ]
    ]
  ]

pub reads_frames : (frames at : ℕ) (bytes : List ℕ) → length bytes ≤ frames → Read frames at bytes
reads_frames zero at bytes few = no_bytes zero at bytes (omega arith)
reads_frames (suc frames) at bytes few = by_bytes frames at bytes few (reads_frames frames)

pub stream_read : (stream : List ℕ) → Same (between 0) stream (messages_from (length stream) 0 stream)
stream_read stream = reads_frames (length stream) 0 stream (omega arith)
