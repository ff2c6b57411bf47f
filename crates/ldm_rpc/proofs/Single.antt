-- A record of one fragment at the front of a piece.
use Rattle.std.proofs.Common.{◌≡◌, ℕ, ◌+◌, ◌-◌, ◌<◌, ◌≤◌, List, ◌++◌, length, get_or, inl, inr, ◌*◌, ◌^◌, take, drop, Option, Some, None, sym, ap, subst, ◌∙◌, append_assoc, arith}
use Rattle.std.specs.Prelude.{IfSome, IfNone}
use Rattle.std.specs.Int.{w32, to_be_bytes}
use Rattle.std.proofs.lemmas.Nat.{be_bytes_4}
use Rattle.std.proofs.lemmas.Bool.{cases_lt}
use Rattle.std.proofs.lemmas.List.{get_or-take, get_or_past, take-append-drop, length-take, length-append}
use Rattle.std.proofs.lemmas.List.Elements.{All-nil}
use Rattle.ldm_rpc.specs.declared.in_place.InPlace.{InPlace}
use Rattle.ldm_rpc.specs.declared.stage.Stage.TheVariants.{Whole}
use Rattle.ldm_rpc.specs.declared.stage.TheConstants.{LAST_FRAGMENT}
use Rattle.ldm_rpc.specs.Reading.{Reading, after, begun, bytes_taken, next_of, place, whole_of}
use Rattle.ldm_rpc.specs.Spelling.{BeginsSingle, IsShort, single, spelling}
use Rattle.ldm_rpc.specs.Taking.{IsSingle}
use Rattle.ldm_rpc.proofs.Spelled.{taken_record, whole_record}
use Rattle.ldm_rpc.proofs.Steps.{at_stage}

front_fits : (piece : List ℕ) (i : ℕ) → ((k : ℕ) → get_or piece k 0 < 256) → get_or (take 4 piece) i 0 < 256
front_fits piece i small =
    elim (cases_lt i 4) [
      | inl lt ↦ rw (get_or-take 4 piece i 0 lt) (small i)
      | inr le ↦ rw (get_or_past (take 4 piece) i 0 (omega (arith, length-take 4 piece))) (omega arith)
    ]

-- four bytes of a number with the top bit, and behind them as many bytes as it says besides
pub begins-single : (limit : ℕ) (piece front behind : List ℕ) (number : ℕ) → ((i : ℕ) → get_or piece i 0 < 256) → piece ≡ front ++ behind
    → front ≡ take 4 piece → length front ≡ 4
    → number ≡ get_or front 0 0 * 16777216 + (get_or front 1 0 * 65536 + (get_or front 2 0 * 256 + (get_or front 3 0 * 1 + 0)))
    → LAST_FRAGMENT ≤ number → number < 2 ^ 32 → number - LAST_FRAGMENT ≤ limit → number - LAST_FRAGMENT ≤ length behind
    → BeginsSingle limit piece (take (number - LAST_FRAGMENT) behind)
begins-single limit piece front behind number small parts front_is four is top fits within room =
    let n = number - LAST_FRAGMENT in
    let content = take n behind in
    let len : length content ≡ n = omega (arith, length-take n behind) in
    let bytes : (i : ℕ) → get_or front i 0 < 256 = λ i. subst (λ (x : List ℕ). get_or x i 0 < 256) (sym front_is) (front_fits piece i small) in
    let spelled : to_be_bytes w32 number ≡ front = be_bytes_4 front number four bytes (omega arith) in
    let word : LAST_FRAGMENT + length content ≡ number = omega arith in
    record {
      rest = drop n behind;
      spelled = parts ∙ ap (λ (x : List ℕ). front ++ x) (sym (take-append-drop n behind)) ∙ sym (append_assoc front content (drop n behind))
          ∙ ap (λ (x : List ℕ). (x ++ content) ++ drop n behind) (sym (ap (to_be_bytes w32) word ∙ spelled));
      fits = record { before = All-nil IsShort; last = omega arith; within = omega arith };
    }

-- what such a record makes of a reader before its first byte
pub is_single : (limit : ℕ) (piece : List ℕ) (found : InPlace) → found.taken ≡ 4 + length found.content.now → BeginsSingle limit piece found.content.now
    → IsSingle (begun limit) piece found
is_single limit piece found taken_is begins =
    let content = found.content.now in
    let r = single content in
    let parts = begins.spelled in
    let end : after (begun limit) piece ≡ at_stage limit content (place (length (spelling r))) Whole =
    ap (after (begun limit)) parts ∙ whole_record limit r begins.rest begins.fits in
    let count : bytes_taken (begun limit) piece ≡ length (spelling r) = ap (bytes_taken (begun limit)) parts ∙ taken_record limit r begins.rest begins.fits in
    let len : length (spelling r) ≡ 4 + length content = omega arith in
    let all : length piece ≡ length (spelling r) + length begins.rest = ap length parts ∙ length-append (spelling r) begins.rest in
    record {
      content = ap whole_of end;
      taken = (omega arith, omega arith, omega arith);
      stays = ap next_of end;
      within = begins.fits.within;
      begins = begins;
    }

-- what is found is told of any reader that stands so
pub record Shows (s : Reading) (piece : List ℕ) (result : Option InPlace) : Type 0 where
  pub content : IfSome result (λ found. whole_of (after s piece) ≡ Some found.content.now)
  pub taken : IfSome result (λ found. (found.taken ≡ bytes_taken s piece) × (found.taken ≤ length piece) × (0 < found.taken))
  pub stays : IfSome result (λ _. next_of (after s piece) ≡ s)
  pub within : IfSome result (λ found. length found.content.now ≤ s.limit)
  pub begins : IfSome result (λ found. BeginsSingle s.limit piece found.content.now)
  pub none : IfNone result (s ≡ begun s.limit → (content : List ℕ) → ¬ BeginsSingle s.limit piece content)

shows_begun : (limit : ℕ) (piece : List ℕ) (result : Option InPlace) → IfSome result (IsSingle (begun limit) piece)
    → IfNone result ((content : List ℕ) → ¬ BeginsSingle limit piece content) → Shows (begun limit) piece result
shows_begun limit piece None single none = record { content = tt; taken = tt; stays = tt; within = tt; begins = tt; none = λ _. none }
shows_begun limit piece (Some found) single none =
    record { content = single.content; taken = single.taken; stays = single.stays; within = single.within; begins = single.begins; none = tt }

pub shows : (limit : ℕ) (s : Reading) (piece : List ℕ) (result : Option InPlace) → begun limit ≡ s → IfSome result (IsSingle (begun limit) piece)
    → IfNone result ((content : List ℕ) → ¬ BeginsSingle limit piece content) → Shows s piece result
shows limit s piece result is single none = subst (λ (t : Reading). Shows t piece result) is (shows_begun limit piece result single none)
