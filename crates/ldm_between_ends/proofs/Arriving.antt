-- Which messages come with the first bytes of a feeding, in whatever pieces.
use Rattle.std.proofs.Common.{◌≡◌, ℕ, ◌+◌, ◌<◌, ◌≤◌, false, leb, List, [], ◌∷◌, ◌++◌, length, None, refl, ap, sym, subst, ◌∙◌, arith}
use Rattle.std.specs.Prelude.{All, Contains, map}
use Rattle.std.specs.List.{flat_map, AllByRecursion}
use Rattle.std.proofs.lemmas.Bool.{lt-leb}
use Rattle.std.proofs.lemmas.List.{append-nil}
use Rattle.std.proofs.lemmas.List.Elements.{All-nil, All-cons, Contains-push, Contains-append_left, Contains-append_right}
use Rattle.ldm_rpc.specs.Reading.{after_byte, is_faulty}
use Rattle.ldm_rpc.specs.Spelling.{Record, Fits, IsShort, spelling}
use Rattle.ldm_rpc.specs.Streams.{Position, Placed, forgets, in_hand, placed, records_in}
use Rattle.ldm_relay.specs.declared.message.TheConstants.{LARGEST_RECORD}
use Rattle.ldm_relay.specs.Sent.{Sent}
use Rattle.ldm_relay.specs.Spelling.{written, record_of, in_one}
use Rattle.ldm_intake.specs.Taken.{Arrival}
use Rattle.ldm_session.specs.declared.limits.TheConstants.{LONGEST_STREAM}
use Rattle.ldm_downstream.specs.Pieces.{Piece, within, arrived, arrivals, hand, joined}
use Rattle.ldm_downstream.specs.Received.{end_by_bytes}
use Rattle.ldm_downstream.specs.Untimed.{untimed}
use Rattle.ldm_downstream.proofs.Cut.{cut-records, cut-hand}
use Rattle.ldm_between_ends.specs.Passing.{moments_of, record_at}
use Rattle.ldm_between_ends.specs.StreamLaws.{StreamLaws}
use Rattle.ldm_between_ends.proofs.Reaching.{First}
use Rattle.ldm_between_ends.proofs.Pieces.{rest-reads}
use Rattle.ldm_between_ends.proofs.Sizes.{IsShortMessage}
use Rattle.ldm_between_ends.proofs.Splitting.{IsPart, splits, splits-all}

-- ---- moments

arrived-moments : (moments : List ℕ) (now : ℕ) (records : List Placed) (others : List Arrival) → Contains moments now
    → AllByRecursion (λ (a : Arrival). Contains moments a.now) others → AllByRecursion (λ (a : Arrival). Contains moments a.now) (arrived now records ++ others)
arrived-moments moments now [] others is all = all
arrived-moments moments now (placed_ ∷ records) others is all = (is, arrived-moments moments now records others is all)

arrivals-moments : (moments : List ℕ) (p : Position) (pieces : List Piece) → AllByRecursion (λ (piece : Piece). Contains moments piece.now) pieces
    → AllByRecursion (λ (a : Arrival). Contains moments a.now) (arrivals p pieces)
unfolding arrivals
arrivals-moments moments p [] all = tt
arrivals-moments moments p (piece ∷ pieces) all =
    arrived-moments moments piece.now (records_in p (within p piece.bytes)) (arrivals (in_hand p (within p piece.bytes)) pieces) all.0
    (arrivals-moments moments (in_hand p (within p piece.bytes)) pieces all.1)

pieces-moments : (moments : List ℕ) (pieces : List Piece) → ((n : ℕ) → Contains (moments_of pieces) n → Contains moments n)
    → AllByRecursion (λ (piece : Piece). Contains moments piece.now) pieces
pieces-moments moments [] among = tt
pieces-moments moments (piece ∷ pieces) among = (
  among piece.now (Contains-append_left (piece.now ∷ []) (moments_of pieces) piece.now (Contains-push [] piece.now)),
  pieces-moments moments pieces (λ n has. among n (Contains-append_right (piece.now ∷ []) (moments_of pieces) n has)),
)

-- ---- messages

abbrev pub record_bytes : Sent → List ℕ
record_bytes m = record_of (written m)

abbrev pub one_record : Sent → Record
one_record m = in_one (written m)

-- of the first record its content, and the records behind it
abbrev pub content_first : List Placed → List ℕ
content_first [] = []
content_first (p ∷ ps) = p.content

abbrev pub behind_first : List Placed → List Placed
behind_first [] = []
behind_first (p ∷ ps) = ps

first-none : (moments : List ℕ) (behind : List Sent) → First moments behind [] behind
first-none moments [] = refl
first-none moments (m ∷ behind) = refl

first-of : (moments : List ℕ) (front behind : List Sent) (at : ℕ) (came : List Arrival) → untimed came ≡ placed at (map one_record front)
    → AllByRecursion (λ (a : Arrival). Contains moments a.now) came → First moments (front ++ behind) came behind
unfolding placed
first-of moments [] behind at [] same all = first-none moments behind
first-of moments [] behind at (a ∷ came) same all = absurd (cc same)
first-of moments (m ∷ front) behind at [] same all = absurd (cc same)
first-of moments (m ∷ front) behind at (a ∷ came) same all =
    (ap content_first same, all.0, first-of moments front behind _ came (ap behind_first same) all.1)

-- ---- bytes

records-bytes : (messages : List Sent) → flat_map record_bytes messages ≡ flat_map spelling (map one_record messages)
records-bytes [] = refl
records-bytes (m ∷ messages) = ap (λ (x : List ℕ). record_bytes m ++ x) (records-bytes messages)

pub part-records : (behind : List Sent) (part : List ℕ) → IsPart record_bytes behind part → IsPart spelling (map one_record behind) part
part-records [] part is = is
part-records (m ∷ behind) part is = is

all-fit : (messages : List Sent) → AllByRecursion IsShortMessage messages → All (Fits LARGEST_RECORD) (map one_record messages)
all-fit [] short = All-nil (Fits LARGEST_RECORD)
all-fit (m ∷ messages) short =
    All-cons (Fits LARGEST_RECORD) (one_record m) (map one_record messages)
    (record { before = All-nil IsShort; last = omega (arith, short.0); within = short.0 }) (all-fit messages short.1)

all-front : (front behind : List Sent) → AllByRecursion IsShortMessage (front ++ behind) → AllByRecursion IsShortMessage front
all-front [] behind short = tt
all-front (m ∷ front) behind short = (short.0, all-front front behind short.1)

all-behind : (front behind : List Sent) → AllByRecursion IsShortMessage (front ++ behind) → AllByRecursion IsShortMessage behind
all-behind [] behind short = short
all-behind (m ∷ front) behind short = all-behind front behind short.1

pub came-behind : (p : Position) (bytes : List ℕ) → (in_hand p bytes).came ≡ p.came + length bytes
unfolding in_hand
came-behind p [] = omega arith
came-behind p (byte ∷ bytes) =
    let rest = came-behind (forgets p.begins (p.came + 1) (after_byte p.reading byte)) bytes in
    omega (arith, rest)

-- where all came, there is no part of a record
no-part : (behind : List Sent) (part : List ℕ) → behind ≡ [] → IsPart record_bytes behind part → part ≡ []
no-part [] part none is = is
no-part (m ∷ behind) part none is = absurd (cc none)

-- The first of these messages came, and behind them nothing ends the receiving.
pub record Arrives (at : ℕ) (messages : List Sent) (pieces : List Piece) : Type 0 where
  pub behind : List Sent
  pub first : First (moments_of pieces) messages (arrivals (record_at at) pieces) behind
  pub on : end_by_bytes (hand (record_at at) pieces) ≡ None
  pub whole : joined pieces ≡ flat_map record_bytes messages → behind ≡ []
  pub all : behind ≡ [] → joined pieces ≡ flat_map record_bytes messages
  pub edge : behind ≡ [] → hand (record_at at) pieces ≡ record_at (at + length (joined pieces))

module _ (laws : StreamLaws) (at : ℕ) (messages : List Sent) (short : AllByRecursion IsShortMessage messages) (pieces : List Piece) (rest : List ℕ)
    (is : joined pieces ++ rest ≡ flat_map record_bytes messages) (few : at + length (joined pieces) < LONGEST_STREAM) where
  pub arrives : Arrives at messages pieces
  unfolding in_hand
  arrives =
      let p = record_at at in
      let got = joined pieces in
      let cut = splits record_bytes messages got rest is in
      let records = map one_record cut.front in
      let shorts : AllByRecursion IsShortMessage (cut.front ++ cut.behind) = subst (λ (x : List Sent). AllByRecursion IsShortMessage x) (sym cut.all) short in
      let front_fits = all-fit cut.front (all-front cut.front cut.behind shorts) in
      let behind_fits = all-fit cut.behind (all-behind cut.front cut.behind shorts) in
      let then_at = at + length (flat_map spelling records) in
      let reads = rest-reads laws LARGEST_RECORD then_at (map one_record cut.behind) cut.part behind_fits (part-records cut.behind cut.part cut.part_is) in
      let got_is : got ≡ flat_map spelling records ++ cut.part = cut.got_is ∙ ap (λ (x : List ℕ). x ++ cut.part) (records-bytes cut.front) in
      let below_limit : at + length got ≤ LONGEST_STREAM = omega (arith, few) in
      let came : untimed (arrivals p pieces) ≡ placed at records =
      cut-records p pieces below_limit ∙ ap (records_in p) got_is ∙ laws.records LARGEST_RECORD at records cut.part front_fits
      ∙ ap (λ (x : List Placed). placed at records ++ x) reads.out_is ∙ append-nil (placed at records) in
      let moments = arrivals-moments (moments_of pieces) p pieces (pieces-moments (moments_of pieces) pieces (λ n has. has)) in
      let hand_is : hand p pieces ≡ in_hand (record_at then_at) cut.part =
      cut-hand p pieces below_limit ∙ ap (in_hand p) got_is ∙ laws.hand LARGEST_RECORD at records cut.part front_fits in
      let sound : is_faulty (hand p pieces).reading ≡ false = ap (λ (q : Position). is_faulty q.reading) hand_is ∙ reads.sound in
      let below : leb LONGEST_STREAM (hand p pieces).came ≡ false =
      lt-leb LONGEST_STREAM (hand p pieces).came (omega (arith, few, ap (λ (q : Position). q.came) (cut-hand p pieces below_limit), came-behind p got)) in
      record {
        behind = cut.behind;
        first = subst (λ (x : List Sent). First (moments_of pieces) x (arrivals p pieces) cut.behind) cut.all
            (first-of (moments_of pieces) cut.front cut.behind at (arrivals p pieces) came moments);
        on = rw (sound, below) refl;
        whole = λ all. splits-all record_bytes messages got cut all;
        all = λ none.
            got_is ∙ ap (λ (x : List ℕ). flat_map spelling records ++ x) (no-part cut.behind cut.part none cut.part_is)
            ∙ append-nil (flat_map spelling records) ∙ sym (records-bytes cut.front)
            ∙ ap (flat_map record_bytes) (sym (append-nil cut.front) ∙ ap (λ (x : List Sent). cut.front ++ x) (sym none) ∙ cut.all);
        edge = λ none.
            let no_part = no-part cut.behind cut.part none cut.part_is in
            let all : got ≡ flat_map spelling records = got_is ∙ ap (λ (x : List ℕ). flat_map spelling records ++ x) no_part ∙ append-nil (flat_map spelling records) in
            hand_is ∙ ap (in_hand (record_at then_at)) no_part ∙ ap (λ (x : List ℕ). record_at (at + length x)) (sym all);
      }
