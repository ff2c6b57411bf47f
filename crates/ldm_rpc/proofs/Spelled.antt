-- A record that is spelled on the stream is read with its content.
use Rattle.std.proofs.Common.{◌≡◌, ℕ, suc, ◌+◌, ◌-◌, ◌*◌, ◌/◌, ◌%◌, ◌^◌, ◌<◌, ◌≤◌, Bool, true, false, cond, ltb, leb, List, [], ◌∷◌, ◌++◌, length, refl, sym, ap, subst, ◌∙◌, append_assoc, add-zero, zero-add, add_assoc, arith}
use Rattle.std.specs.Prelude.{All}
use Rattle.std.proofs.lemmas.Bool.{lt-ltb, le-ltb, le-leb, lt-leb, ne_eqb}
use Rattle.std.proofs.lemmas.List.{length-append, append-nil}
use Rattle.std.proofs.lemmas.List.Elements.{All-head, All-tail}
use Rattle.ldm_rpc.specs.declared.fault.RpcFault.TheVariants.{TooLong}
use Rattle.ldm_rpc.specs.declared.stage.Stage.{Stage}
use Rattle.ldm_rpc.specs.declared.stage.Stage.TheVariants.{Header, Fragment, Whole, Faulty}
use Rattle.ldm_rpc.specs.declared.stage.TheConstants.{LAST_FRAGMENT}
use Rattle.ldm_rpc.specs.Reading.{Reading, after, after_byte, after_header, begun, bytes_taken, place, stage_before}
use Rattle.ldm_rpc.specs.Spelling.{Record, Fits, IsShort, content, fragment, fragments, header, joined, spelling}
use Rattle.ldm_rpc.proofs.Steps.{at_stage, takes_run}
use Rattle.ldm_rpc.proofs.Pushed.{after_end, taken_at_end}

-- after so many bytes, and with so many of them taken, a reader is as another
pub record Comes (s : Reading) (bytes rest : List ℕ) (n : ℕ) (t : Reading) : Type 0 where
  pub after : after s bytes ≡ after t rest
  pub taken : bytes_taken s bytes ≡ n + bytes_taken t rest

Comes_as : (s t u : Reading) (bytes rest : List ℕ) (n : ℕ) → t ≡ u → Comes s bytes rest n t → Comes s bytes rest n u
Comes_as s t u bytes rest n e h = subst (Comes s bytes rest n) e h

Comes_more : (s t u : Reading) (a b c : List ℕ) (n m : ℕ) → Comes s a b n t → Comes t b c m u → Comes s a c (n + m) u
Comes_more s t u a b c n m first then = record { after = first.after ∙ then.after; taken = omega (arith, first.taken, then.taken) }

-- what a header makes of a reader
abbrev pub behind_header : ℕ → List ℕ → ℕ → Bool → ℕ → Reading
behind_header limit so_far at last len =
    cond (ltb limit (length so_far + len)) (at_stage limit so_far at (Faulty (TooLong at))) (at_stage limit so_far (place (at + 4 + len)) (stage_before len last))

header_says : (limit : ℕ) (so_far : List ℕ) (at : ℕ) (stage : Stage) (last : Bool) (len number : ℕ) → len < LAST_FRAGMENT → number ≡ cond last LAST_FRAGMENT 0 + len
    → after_header (at_stage limit so_far at stage) number ≡ behind_header limit so_far at last len
header_says limit so_far at stage true len number short is =
    let rest : number % LAST_FRAGMENT ≡ len = omega arith in
    let top : leb LAST_FRAGMENT number ≡ true = le-leb _ _ (omega arith) in
    rw (rest, top) refl
header_says limit so_far at stage false len number short is =
    let rest : number % LAST_FRAGMENT ≡ len = omega arith in
    let top : leb LAST_FRAGMENT number ≡ false = lt-leb _ _ (omega arith) in
    rw (rest, top) refl

four_bytes : (limit : ℕ) (so_far : List ℕ) (at a b c d : ℕ) (rest : List ℕ)
    → Comes (at_stage limit so_far at (Header 0 0)) (a ∷ b ∷ c ∷ d ∷ rest) rest 4 (after_header (at_stage limit so_far at (Header 3 (((0 + a) * 256 + b) * 256 + c))) ((((0 + a) * 256 + b) * 256 + c) * 256 + d))
unfolding after after_byte bytes_taken
four_bytes limit so_far at a b c d rest = record { after = refl; taken = omega arith }

pub fits_word : (last : Bool) (len : ℕ) → len < LAST_FRAGMENT → cond last LAST_FRAGMENT 0 + len < 2 ^ 32
fits_word true len short = omega arith
fits_word false len short = omega arith

pub takes_header : (limit : ℕ) (so_far : List ℕ) (at : ℕ) (last : Bool) (len : ℕ) (rest : List ℕ) → len < LAST_FRAGMENT
    → Comes (at_stage limit so_far at (Header 0 0)) (header last len ++ rest) rest 4 (behind_header limit so_far at last len)
takes_header limit so_far at last len rest short =
    let n = cond last LAST_FRAGMENT 0 + len in
    let lt : n < 2 ^ 32 = fits_word last len short in
    let a = n / 16777216 % 256 in
    let b = n / 65536 % 256 in
    let c = n / 256 % 256 in
    let is : (((0 + a) * 256 + b) * 256 + c) * 256 + n % 256 ≡ n = omega arith in
    Comes_as _ _ _ _ _ 4 (header_says limit so_far at (Header 3 (((0 + a) * 256 + b) * 256 + c)) last len _ short is) (four_bytes limit so_far at a b c (n % 256) rest)

-- the bytes of a fragment behind its header
takes_bytes : (limit : ℕ) (so_far : List ℕ) (at : ℕ) (last : Bool) (bytes rest : List ℕ)
    → Comes (at_stage limit so_far at (stage_before (length bytes) last)) (bytes ++ rest) rest (length bytes) (at_stage limit (so_far ++ bytes) at (stage_before 0 last))
takes_bytes limit so_far at last [] rest =
    let e : at_stage limit so_far at (stage_before 0 last) ≡ at_stage limit (so_far ++ []) at (stage_before 0 last) =
    ap (λ (x : List ℕ). at_stage limit x at (stage_before 0 last)) (sym (append-nil so_far)) in
    record { after = ap (λ (r : Reading). after r rest) e; taken = ap (λ (r : Reading). bytes_taken r rest) e ∙ omega arith }
takes_bytes limit so_far at last (byte ∷ run) rest =
    let n = length run in
    let t = takes_run limit so_far at (suc n) last byte run rest (omega arith) in
    let none : suc n - (1 + n) ≡ 0 = omega arith in
    let e : at_stage limit (so_far ++ byte ∷ run) at (stage_before (suc n - (1 + n)) last) ≡ at_stage limit (so_far ++ byte ∷ run) at (stage_before 0 last) =
    ap (λ k. at_stage limit (so_far ++ byte ∷ run) at (stage_before k last)) none in
    let more : stage_before (suc n) last ≡ Fragment (suc n) last = rw (ne_eqb (suc n) 0 (omega arith)) refl in
    let start : at_stage limit so_far at (stage_before (suc n) last) ≡ at_stage limit so_far at (Fragment (suc n) last) = ap (at_stage limit so_far at) more in
    record {
      after = ap (λ (r : Reading). after r ((byte ∷ run) ++ rest)) start ∙ t.0
          ∙ ap (λ (r : Reading). after r rest) e;
      taken = ap (λ (r : Reading). bytes_taken r ((byte ∷ run) ++ rest)) start ∙ t.1
          ∙ ap (λ (r : Reading). 1 + n + bytes_taken r rest) e ∙ omega arith;
    }

pub takes_fragment : (limit : ℕ) (so_far : List ℕ) (p : ℕ) (last : Bool) (bytes rest : List ℕ) → IsShort bytes → length so_far + length bytes ≤ limit
    → Comes (at_stage limit so_far (place p) (Header 0 0)) (fragment last bytes ++ rest) rest (length (fragment last bytes)) (at_stage limit (so_far ++ bytes) (place (p + length (fragment last bytes))) (stage_before 0 last))
takes_fragment limit so_far p last bytes rest short room =
    let n = length bytes in
    let h = takes_header limit so_far (place p) last n (bytes ++ rest) short in
    let fits : ltb limit (length so_far + n) ≡ false = le-ltb _ _ room in
    let to : place (place p + 4 + n) ≡ place (p + length (fragment last bytes)) = omega arith in
    let e : behind_header limit so_far (place p) last n ≡ at_stage limit so_far (place (p + length (fragment last bytes))) (stage_before n last) = rw (fits, to) refl in
    let count : 4 + n ≡ length (fragment last bytes) = omega arith in
    let joined = Comes_more _ _ _ _ _ _ 4 n (Comes_as _ _ _ _ _ 4 e h) (takes_bytes limit so_far (place (p + length (fragment last bytes))) last bytes rest) in
    record {
      after = joined.after;
      taken = joined.taken
          ∙ ap (λ k. k + bytes_taken (at_stage limit (so_far ++ bytes) (place (p + length (fragment last bytes))) (stage_before 0 last)) rest) count;
    }

pub takes_fragments : (limit : ℕ) (so_far : List ℕ) (p : ℕ) (before : List (List ℕ)) (rest : List ℕ) → All IsShort before → length so_far + length (joined before) ≤ limit
    → Comes (at_stage limit so_far (place p) (Header 0 0)) (fragments before ++ rest) rest (length (fragments before)) (at_stage limit (so_far ++ joined before) (place (p + length (fragments before))) (Header 0 0))
takes_fragments limit so_far p [] rest short room =
    let e : at_stage limit so_far (place p) (Header 0 0) ≡ at_stage limit (so_far ++ []) (place (p + 0)) (Header 0 0) = rw (append-nil so_far, add-zero p) refl in
    record { after = ap (λ (r : Reading). after r rest) e; taken = ap (λ (r : Reading). bytes_taken r rest) e ∙ omega arith }
takes_fragments limit so_far p (bytes ∷ before) rest short room =
    let n = length (fragment false bytes) in
    let m = length (fragments before) in
    let all : length (joined (bytes ∷ before)) ≡ length bytes + length (joined before) = length-append bytes (joined before) in
    let len : length (so_far ++ bytes) ≡ length so_far + length bytes = length-append so_far bytes in
    let one = takes_fragment limit so_far p false bytes (fragments before ++ rest) (All-head IsShort bytes before short) (omega arith) in
    let more = takes_fragments limit (so_far ++ bytes) (p + n) before rest (All-tail IsShort bytes before short) (omega arith) in
    let both = Comes_more _ _ _ _ _ _ n m one more in
    let total : length (fragments (bytes ∷ before)) ≡ n + m = length-append (fragment false bytes) (fragments before) in
    let parts : fragments (bytes ∷ before) ++ rest ≡ fragment false bytes ++ (fragments before ++ rest) = append_assoc (fragment false bytes) (fragments before) rest in
    let e : at_stage limit ((so_far ++ bytes) ++ joined before) (place (p + n + m)) (Header 0 0)
    ≡ at_stage limit (so_far ++ joined (bytes ∷ before)) (place (p + length (fragments (bytes ∷ before)))) (Header 0 0)
    = rw (append_assoc so_far bytes (joined before), total, add_assoc p n m) refl in
    let s = at_stage limit so_far (place p) (Header 0 0) in
    let u = at_stage limit (so_far ++ joined (bytes ∷ before)) (place (p + length (fragments (bytes ∷ before)))) (Header 0 0) in
    let c = Comes_as s _ u _ rest (n + m) e both in
    record {
      after = ap (after s) parts ∙ c.after;
      taken = ap (bytes_taken s) parts ∙ c.taken ∙ ap (λ k. k + bytes_taken u rest) (sym total);
    }

pub takes_record : (limit : ℕ) (r : Record) (rest : List ℕ) → Fits limit r
    → Comes (begun limit) (spelling r ++ rest) rest (length (spelling r)) (at_stage limit (content r) (place (length (spelling r))) Whole)
takes_record limit r rest fits =
    let n = length (fragments r.before) in
    let len : length (content r) ≡ length (joined r.before) + length r.last = length-append (joined r.before) r.last in
    let before = takes_fragments limit [] 0 r.before (fragment true r.last ++ rest) fits.before (omega (arith, fits.within)) in
    let last = takes_fragment limit (joined r.before) (0 + n) true r.last rest fits.last (omega (arith, fits.within)) in
    let both = Comes_more _ _ _ _ _ _ n (length (fragment true r.last)) before last in
    let total : length (spelling r) ≡ n + length (fragment true r.last) = length-append (fragments r.before) (fragment true r.last) in
    let parts : spelling r ++ rest ≡ fragments r.before ++ (fragment true r.last ++ rest) = append_assoc (fragments r.before) (fragment true r.last) rest in
    let u = at_stage limit (content r) (place (length (spelling r))) Whole in
    let e : at_stage limit (content r) (place (0 + n + length (fragment true r.last))) Whole ≡ u = rw (total, zero-add n) refl in
    let c = Comes_as (begun limit) _ u _ rest (n + length (fragment true r.last)) e both in
    record {
      after = ap (after (begun limit)) parts ∙ c.after;
      taken = ap (bytes_taken (begun limit)) parts ∙ c.taken ∙ ap (λ k. k + bytes_taken u rest) (sym total);
    }

pub whole_record : (limit : ℕ) (r : Record) (rest : List ℕ) → Fits limit r
    → after (begun limit) (spelling r ++ rest) ≡ at_stage limit (content r) (place (length (spelling r))) Whole
whole_record limit r rest fits = (takes_record limit r rest fits).after ∙ after_end (at_stage limit (content r) (place (length (spelling r))) Whole) rest refl

pub taken_record : (limit : ℕ) (r : Record) (rest : List ℕ) → Fits limit r → bytes_taken (begun limit) (spelling r ++ rest) ≡ length (spelling r)
taken_record limit r rest fits =
    let u = at_stage limit (content r) (place (length (spelling r))) Whole in
    (takes_record limit r rest fits).taken ∙ ap (λ k. length (spelling r) + k) (taken_at_end u rest refl) ∙ omega arith

-- a header that makes the content too long
pub too_long : (limit : ℕ) (before : List (List ℕ)) (last : Bool) (len : ℕ) (rest : List ℕ)
    → All IsShort before → len < LAST_FRAGMENT → length (joined before) ≤ limit → limit < length (joined before) + len
    → Comes (begun limit) (fragments before ++ header last len ++ rest) rest (length (fragments before) + 4)
    (at_stage limit (joined before) (place (length (fragments before))) (Faulty (TooLong (place (length (fragments before))))))
too_long limit before last len rest short fits within beyond =
    let n = length (fragments before) in
    let first = takes_fragments limit [] 0 before (header last len ++ rest) short (omega arith) in
    let then = takes_header limit (joined before) (place (0 + n)) last len rest fits in
    let over : ltb limit (length (joined before) + len) ≡ true = lt-ltb _ _ beyond in
    let e : behind_header limit (joined before) (place (0 + n)) last len ≡ at_stage limit (joined before) (place n) (Faulty (TooLong (place n))) = rw (over, zero-add n) refl in
    let parts : fragments before ++ header last len ++ rest ≡ fragments before ++ (header last len ++ rest) = append_assoc (fragments before) (header last len) rest in
    let u = at_stage limit (joined before) (place n) (Faulty (TooLong (place n))) in
    let both = Comes_more _ _ _ _ _ _ n 4 first (Comes_as _ _ u _ _ 4 e then) in
    record {
      after = ap (after (begun limit)) parts ∙ both.after;
      taken = ap (bytes_taken (begun limit)) parts ∙ both.taken;
    }

pub too_long_fault : (limit : ℕ) (before : List (List ℕ)) (last : Bool) (len : ℕ) (rest : List ℕ)
    → All IsShort before → len < LAST_FRAGMENT → length (joined before) ≤ limit → limit < length (joined before) + len
    → (after (begun limit) (fragments before ++ header last len ++ rest)).stage ≡ Faulty (TooLong (place (length (fragments before))))
too_long_fault limit before last len rest short fits within beyond =
    let u = at_stage limit (joined before) (place (length (fragments before))) (Faulty (TooLong (place (length (fragments before))))) in
    ap (λ (r : Reading). r.stage) ((too_long limit before last len rest short fits within beyond).after ∙ after_end u rest refl)

pub too_long_taken : (limit : ℕ) (before : List (List ℕ)) (last : Bool) (len : ℕ) (rest : List ℕ)
    → All IsShort before → len < LAST_FRAGMENT → length (joined before) ≤ limit → limit < length (joined before) + len
    → bytes_taken (begun limit) (fragments before ++ header last len ++ rest) ≡ length (fragments before) + 4
too_long_taken limit before last len rest short fits within beyond =
    let u = at_stage limit (joined before) (place (length (fragments before))) (Faulty (TooLong (place (length (fragments before))))) in
    (too_long limit before last len rest short fits within beyond).taken ∙ ap (λ k. length (fragments before) + 4 + k) (taken_at_end u rest refl) ∙ omega arith
