-- What is read is spelled on the stream.
use Rattle.std.proofs.Common.{◌≡◌, ℕ, zero, suc, ◌+◌, ◌-◌, ◌*◌, ◌%◌, ◌^◌, ◌<◌, ◌≤◌, Bool, true, false, cond, ltb, leb, eqb, List, [], ◌∷◌, ◌++◌, length, get_or, refl, sym, ap, subst, ◌∙◌, append_assoc, add-zero, zero-add, arith, inl, inr}
use Rattle.std.specs.Prelude.{All, fold}
use Rattle.std.specs.Int.{w32, to_be_bytes}
use Rattle.std.proofs.lemmas.Nat.{be_bytes_4}
use Rattle.std.proofs.lemmas.Bool.{cases_Bool, ltb-true, ltb-false, leb-true, leb-false, eqb-true, eqb-false, ne_eqb}
use Rattle.std.proofs.lemmas.List.{append-nil, length-append}
use Rattle.std.proofs.lemmas.List.Concat.{flat_map-append}
use Rattle.std.proofs.lemmas.List.Elements.{All-nil, All-head, All-tail, All-push}
use Rattle.ldm_rpc.specs.declared.fault.RpcFault.{RpcFault}
use Rattle.ldm_rpc.specs.declared.fault.RpcFault.TheVariants.{TooLong, OutOfMemory}
use Rattle.ldm_rpc.specs.declared.stage.Stage.{Stage}
use Rattle.ldm_rpc.specs.declared.stage.Stage.TheVariants.{Header, Fragment, Whole, Faulty}
use Rattle.ldm_rpc.specs.declared.stage.TheConstants.{LAST_FRAGMENT}
use Rattle.ldm_rpc.specs.Reading.{Reading, after_byte, after_header, is_whole, is_whole_at, place, stage_before}
use Rattle.ldm_rpc.specs.Spelling.{Record, IsShort, fragment, fragments, header, joined}
use Rattle.ldm_types.specs.Info.{AreBytes}
use Rattle.ldm_rpc.specs.Fronts.{IsFront, IsInFragment, IsInHeader, IsRefused, IsTooLong, number_of}
use Rattle.ldm_rpc.proofs.Steps.{at_stage}

fragments-push : (before : List (List ℕ)) (bytes : List ℕ) → fragments (before ++ bytes ∷ []) ≡ fragments before ++ fragment false bytes
fragments-push before bytes = flat_map-append (fragment false) before (bytes ∷ []) ∙ ap (λ (x : List ℕ). fragments before ++ x) (append-nil (fragment false bytes))

joined-push : (before : List (List ℕ)) (bytes : List ℕ) → joined (before ++ bytes ∷ []) ≡ joined before ++ bytes
joined-push before bytes = flat_map-append (λ (x : List ℕ). x) before (bytes ∷ []) ∙ ap (λ (x : List ℕ). joined before ++ x) (append-nil bytes)

-- a fragment that has come whole
front_complete : (limit : ℕ) (so_far : List ℕ) (at : ℕ) (last : Bool) (before : List (List ℕ)) (part : List ℕ)
    → All IsShort before → IsShort part → so_far ≡ joined before ++ part → length (joined before) + length part ≤ limit
    → at ≡ place (length (fragments before) + 4 + length part)
    → IsFront (at_stage limit so_far at (stage_before 0 last)) (fragments before ++ fragment last part)
front_complete limit so_far at true before part short whole is within at_is =
    let r : Record = record { before = before; last = part } in
    let len : length (joined before ++ part) ≡ length (joined before) + length part = length-append (joined before) part in
    record { of = r; fits = record { before = short; last = whole; within = omega arith }; spelled = refl; content_is = is }
front_complete limit so_far at false before part short whole is within at_is =
    let len : length (joined before ++ part) ≡ length (joined before) + length part = length-append (joined before) part in
    let all : length (joined (before ++ part ∷ [])) ≡ length (joined before ++ part) = ap length (joined-push before part) in
    let count : length (fragments (before ++ part ∷ [])) ≡ length (fragments before) + length (fragment false part) =
    ap length (fragments-push before part) ∙ length-append (fragments before) (fragment false part) in
    record {
      before = before ++ part ∷ [];
      part = [];
      spelled = sym (fragments-push before part) ∙ sym (append-nil (fragments (before ++ part ∷ [])));
      short = All-push IsShort before part short whole;
      came_is = refl;
      few = omega arith;
      number_is = refl;
      part_bytes = All-nil (λ byte. byte < 256);
      content_is = is ∙ sym (joined-push before part);
      within = omega arith;
      place_is = at_is ∙ ap place (omega arith);
    }

-- so many bytes of a fragment are still to come
front_before : (limit : ℕ) (so_far : List ℕ) (at left : ℕ) (last : Bool) (before : List (List ℕ)) (part : List ℕ)
    → All IsShort before → length part + left < LAST_FRAGMENT → so_far ≡ joined before ++ part → length (joined before) + (length part + left) ≤ limit
    → at ≡ place (length (fragments before) + 4 + (length part + left))
    → IsFront (at_stage limit so_far at (stage_before left last)) (fragments before ++ (header last (length part + left) ++ part))
front_before limit so_far at zero last before part short whole is within at_is =
    let none : length part + 0 ≡ length part = add-zero (length part) in
    subst (λ n. IsFront (at_stage limit so_far at (stage_before 0 last)) (fragments before ++ (header last n ++ part))) (sym none)
    (front_complete limit so_far at last before part short (omega arith) is (omega arith) (at_is ∙ ap (λ n. place (length (fragments before) + 4 + n)) none))
front_before limit so_far at (suc left) last before part short whole is within at_is =
    let stage : stage_before (suc left) last ≡ Fragment (suc left) last = rw (ne_eqb (suc left) 0 (omega arith)) refl in
    let front : IsInFragment (at_stage limit so_far at (Fragment (suc left) last)) (suc left) last (fragments before ++ (header last (length part + suc left) ++ part)) = record {
      before = before;
      part = part;
      spelled = refl;
      short = short;
      more = omega arith;
      len = whole;
      content_is = is;
      within = within;
      place_is = at_is;
    } in
    subst (λ (e : Stage). IsFront (at_stage limit so_far at e) (fragments before ++ (header last (length part + suc left) ++ part))) (sym stage) front

word_whole : (n : ℕ) → n < 2 ^ 32 → cond (leb LAST_FRAGMENT n) LAST_FRAGMENT 0 + n % LAST_FRAGMENT ≡ n
word_whole n lt =
    elim (cases_Bool (leb LAST_FRAGMENT n)) [
      | inl top ↦ rw top (omega (arith, leb-true _ _ top))
      | inr not ↦ rw not (omega (arith, leb-false _ _ not))
    ]

each_byte : (a b c d : ℕ) → a < 256 → b < 256 → c < 256 → d < 256 → (i : ℕ) → get_or (a ∷ b ∷ c ∷ d ∷ []) i 0 < 256
each_byte a b c d fa fb fc fd zero = fa
each_byte a b c d fa fb fc fd (suc zero) = fb
each_byte a b c d fa fb fc fd (suc (suc zero)) = fc
each_byte a b c d fa fb fc fd (suc (suc (suc zero))) = fd
each_byte a b c d fa fb fc fd (suc (suc (suc (suc i)))) = omega arith

-- four bytes are the header that they say
pub header_of : (a b c d : ℕ) → a < 256 → b < 256 → c < 256 → d < 256 → (n : ℕ) → n ≡ ((a * 256 + b) * 256 + c) * 256 + d
    → header (leb LAST_FRAGMENT n) (n % LAST_FRAGMENT) ≡ a ∷ b ∷ c ∷ d ∷ []
header_of a b c d fa fb fc fd n is =
    ap (to_be_bytes w32) (word_whole n (omega arith)) ∙ be_bytes_4 (a ∷ b ∷ c ∷ d ∷ []) n refl (each_byte a b c d fa fb fc fd) (omega arith)

-- what a whole header makes of a reader
front_header : (limit : ℕ) (so_far : List ℕ) (at came number : ℕ) (before : List (List ℕ)) (bytes : List ℕ) (n : ℕ)
    → All IsShort before → so_far ≡ joined before → length (joined before) ≤ limit → at ≡ place (length (fragments before))
    → bytes ≡ header (leb LAST_FRAGMENT n) (n % LAST_FRAGMENT)
    → IsFront (after_header (at_stage limit so_far at (Header came number)) n) (fragments before ++ bytes)
front_header limit so_far at came number before bytes n short is within at_is spelled =
    let len = n % LAST_FRAGMENT in
    let last = leb LAST_FRAGMENT n in
    let same : length so_far ≡ length (joined before) = ap length is in
    let parts : fragments before ++ bytes ≡ fragments before ++ (header last len ++ []) = ap (λ (x : List ℕ). fragments before ++ x) (spelled
    ∙ sym (append-nil (header last len))) in
    elim (cases_Bool (ltb limit (length so_far + len))) [
      | inl over ↦
          let beyond : limit < length so_far + len = ltb-true _ _ over in
          let front : IsTooLong (at_stage limit so_far at (Faulty (TooLong at))) at (fragments before ++ bytes) = record {
            before = before;
            last = last;
            len = len;
            more = [];
            spelled = parts;
            short = short;
            len_short = omega arith;
            within = within;
            beyond = omega arith;
            place_is = at_is;
          } in
          rw over front
      | inr fits ↦
          let room : length so_far + len ≤ limit = ltb-false _ _ fits in
          let place_is : place (at + 4 + len) ≡ place (length (fragments before) + 4 + (0 + len)) = omega arith in
          let front = front_before limit so_far (place (at + 4 + len)) len last before [] short (omega arith) (is
          ∙ sym (append-nil (joined before))) (omega arith) place_is in
          let whole : fragments before ++ (header last (0 + len) ++ []) ≡ fragments before ++ bytes = ap (λ k. fragments before ++ (header last k ++ [])) (zero-add len) ∙ sym parts in
          rw fits (subst (λ (x : List ℕ). IsFront (at_stage limit so_far (place (at + 4 + len)) (stage_before len last)) x) whole front)
    ]

fold_push : (part : List ℕ) (byte n : ℕ) → fold (λ (k : ℕ) (b : ℕ). k * 256 + b) n (part ++ byte ∷ []) ≡ fold (λ (k : ℕ) (b : ℕ). k * 256 + b) n part * 256 + byte
fold_push [] byte n = refl
fold_push (b ∷ part) byte n = fold_push part byte (n * 256 + b)

number_of-push : (part : List ℕ) (byte : ℕ) → number_of (part ++ byte ∷ []) ≡ number_of part * 256 + byte
number_of-push part byte = fold_push part byte 0

-- three bytes and one more are the bytes of a header
three_more : (part : List ℕ) (byte : ℕ) → length part ≡ 3 → AreBytes part → byte < 256
    → part ++ byte ∷ [] ≡ header (leb LAST_FRAGMENT (number_of part * 256 + byte)) ((number_of part * 256 + byte) % LAST_FRAGMENT)
three_more [] byte len bytes fits = absurd (omega arith)
three_more (a ∷ []) byte len bytes fits = absurd (omega arith)
three_more (a ∷ b ∷ []) byte len bytes fits = absurd (omega arith)
three_more (a ∷ b ∷ c ∷ []) byte len bytes fits =
    let P : ℕ → Type 0 = λ n. n < 256 in
    let more = All-tail P a (b ∷ c ∷ []) bytes in
    let most = All-tail P b (c ∷ []) more in
    sym (header_of a b c byte (All-head P a (b ∷ c ∷ []) bytes) (All-head P b (c ∷ []) more) (All-head P c [] most) fits (number_of (a ∷ b ∷ c ∷ []) * 256 + byte) (omega arith))
three_more (a ∷ b ∷ c ∷ d ∷ part) byte len bytes fits = absurd (omega arith)

header_byte : (limit : ℕ) (so_far : List ℕ) (at came number : ℕ) (bytes : List ℕ) (byte : ℕ) → byte < 256
    → IsInHeader (at_stage limit so_far at (Header came number)) came number bytes
    → IsFront (after_byte (at_stage limit so_far at (Header came number)) byte) (bytes ++ byte ∷ [])
unfolding after_byte
header_byte limit so_far at came number bytes byte fits h =
    let parts : fragments h.before ++ (h.part ++ byte ∷ []) ≡ bytes ++ byte ∷ [] = sym (append_assoc (fragments h.before) h.part (byte ∷ []))
    ∙ ap (λ (x : List ℕ). x ++ byte ∷ []) (sym h.spelled) in
    let s = at_stage limit so_far at (Header came number) in
    let n = number * 256 + byte in
    elim (cases_Bool (eqb came 3)) [
      | inl three ↦
          let word : h.part ++ byte ∷ [] ≡ header (leb LAST_FRAGMENT n) (n % LAST_FRAGMENT) = subst (λ k. h.part ++ byte ∷ []
          ≡ header (leb LAST_FRAGMENT (k * 256 + byte)) ((k * 256 + byte) % LAST_FRAGMENT)) (sym h.number_is)
          (three_more h.part byte (sym h.came_is ∙ eqb-true came 3 three) h.part_bytes fits) in
          let front = front_header limit so_far at came number h.before (h.part ++ byte ∷ []) n h.short h.content_is h.within h.place_is word in
          rw three (subst (λ (x : List ℕ). IsFront (after_header s n) x) parts front)
      | inr not ↦
          let len : length (h.part ++ byte ∷ []) ≡ length h.part + 1 = length-append h.part (byte ∷ []) in
          let few : came ≡ 3 → ⊥ = eqb-false came 3 not in
          let front : IsInHeader (at_stage limit so_far at (Header (came + 1) n)) (came + 1) n (bytes ++ byte ∷ []) = record {
            before = h.before;
            part = h.part ++ byte ∷ [];
            spelled = sym parts;
            short = h.short;
            came_is = omega (arith, h.came_is);
            few = omega (arith, h.came_is, h.few, few);
            number_is = ap (λ k. k * 256 + byte) h.number_is ∙ sym (number_of-push h.part byte);
            part_bytes = All-push (λ (k : ℕ). k < 256) h.part byte h.part_bytes fits;
            content_is = h.content_is;
            within = h.within;
            place_is = h.place_is;
          } in
          rw not front
    ]

fragment_byte : (limit : ℕ) (so_far : List ℕ) (at left : ℕ) (last : Bool) (bytes : List ℕ) (byte : ℕ)
    → IsInFragment (at_stage limit so_far at (Fragment left last)) left last bytes
    → IsFront (after_byte (at_stage limit so_far at (Fragment left last)) byte) (bytes ++ byte ∷ [])
unfolding after_byte
fragment_byte limit so_far at left last bytes byte h =
    let part = h.part ++ byte ∷ [] in
    let len : length part ≡ length h.part + 1 = length-append h.part (byte ∷ []) in
    let total : length part + (left - 1) ≡ length h.part + left = omega (arith, h.more) in
    let front = front_before limit (so_far ++ byte ∷ []) at (left - 1) last h.before part h.short (omega (arith, h.len))
    (ap (λ (x : List ℕ). x ++ byte ∷ []) h.content_is ∙ append_assoc (joined h.before) h.part (byte ∷ [])) (omega (arith, h.within))
    (h.place_is ∙ ap (λ k. place (length (fragments h.before) + 4 + k)) (sym total)) in
    let head = header last (length h.part + left) in
    let parts : fragments h.before ++ (header last (length part + (left - 1)) ++ part) ≡ bytes ++ byte ∷ [] =
    ap (λ k. fragments h.before ++ (header last k ++ part)) total
    ∙ ap (λ (x : List ℕ). fragments h.before ++ x) (sym (append_assoc head h.part (byte ∷ [])))
    ∙ sym (append_assoc (fragments h.before) (head ++ h.part) (byte ∷ []))
    ∙ ap (λ (x : List ℕ). x ++ byte ∷ []) (sym h.spelled) in
    subst (λ (x : List ℕ). IsFront (at_stage limit (so_far ++ byte ∷ []) at (stage_before (left - 1) last)) x) parts front

refused_byte : (limit : ℕ) (so_far : List ℕ) (at : ℕ) (fault : RpcFault) (bytes : List ℕ) (byte : ℕ)
    → IsRefused fault (at_stage limit so_far at (Faulty fault)) bytes → IsRefused fault (at_stage limit so_far at (Faulty fault)) (bytes ++ byte ∷ [])
refused_byte limit so_far at (TooLong place) bytes byte h = record {
  before = h.before;
  last = h.last;
  len = h.len;
  more = h.more ++ byte ∷ [];
  spelled = ap (λ (x : List ℕ). x ++ byte ∷ []) h.spelled ∙ append_assoc (fragments h.before) (header h.last h.len ++ h.more) (byte ∷ [])
      ∙ ap (λ (x : List ℕ). fragments h.before ++ x) (append_assoc (header h.last h.len) h.more (byte ∷ []));
  short = h.short;
  len_short = h.len_short;
  within = h.within;
  beyond = h.beyond;
  place_is = h.place_is;
}
refused_byte limit so_far at OutOfMemory bytes byte h = h

byte_at_stage : (limit : ℕ) (so_far : List ℕ) (at : ℕ) (stage : Stage) (bytes : List ℕ) (byte : ℕ) → byte < 256 → is_whole_at stage ≡ false
    → IsFront (at_stage limit so_far at stage) bytes → IsFront (after_byte (at_stage limit so_far at stage) byte) (bytes ++ byte ∷ [])
unfolding after_byte
byte_at_stage limit so_far at (Header came number) bytes byte fits not front = header_byte limit so_far at came number bytes byte fits front
byte_at_stage limit so_far at (Fragment left last) bytes byte fits not front = fragment_byte limit so_far at left last bytes byte front
byte_at_stage limit so_far at Whole bytes byte fits not front = absurd cc
byte_at_stage limit so_far at (Faulty fault) bytes byte fits not front = refused_byte limit so_far at fault bytes byte front

-- one more byte of the record in hand
pub front_byte : (s : Reading) (bytes : List ℕ) (byte : ℕ) → byte < 256 → is_whole s ≡ false → IsFront s bytes → IsFront (after_byte s byte) (bytes ++ byte ∷ [])
front_byte s bytes byte fits not front = byte_at_stage s.limit s.content s.next_header_at s.stage bytes byte fits not front
