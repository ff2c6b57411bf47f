-- Lemmas for callers of links: bytes sent one piece after another, and all bytes that went one way.
use Rattle.std.proofs.Common.{◌≡◌, ◌∙◌, ℕ, ◌+◌, List, [], ◌∷◌, ◌++◌, take, drop, Option, Some, None, refl, sym, ap, subst, append_assoc}
use Rattle.std.specs.Option.{option_map}
use Rattle.std.proofs.Math.Seq.{take-add}
use Rattle.std.proofs.lemmas.List.{take-append-drop, append-nil, map-append}
use Rattle.ldm_outside.specs.declared.link.Passed.{Passed}
use Rattle.ldm_outside.specs.declared.link.Way.{Way}
use Rattle.ldm_outside.specs.declared.link.Way.TheVariants as way
use Rattle.ldm_outside.specs.Link.{LinkRecord, Sent, Failing, passed_all, passed_piece, then_all, then_piece, after_sent, with_sent, with_given, bytes_sent, bytes_given}

then_all-append : (w : Way) (first second : List ℕ) (passed : List Passed) → then_all w second (then_all w first passed) ≡ then_all w (first ++ second) passed
then_all-append w first second passed =
    append_assoc passed (passed_all w first) (passed_all w second)
    ∙ ap (λ (more : List Passed). passed ++ more) (sym (map-append (λ (byte : ℕ). record { way = w; byte = byte }) first second))

after-append : (w : Way) (first second : List ℕ) (passed : Option (List Passed)) → option_map (then_all w second) (option_map (then_all w first) passed) ≡ option_map (then_all w (first ++ second)) passed
after-append w first second None = refl
after-append w first second (Some passed) = ap (λ (all : List Passed). Some all) (then_all-append w first second passed)

after-nil : (w : Way) (passed : Option (List Passed)) → option_map (then_all w []) passed ≡ passed
after-nil w None = refl
after-nil w (Some passed) = ap (λ (all : List Passed). Some all) (append-nil passed)

-- two pieces, sent one after the other
pub Sent-then : (old mid new : LinkRecord) (first second : List ℕ) → Sent old first mid → Sent mid second new → Sent old (first ++ second) new
Sent-then old mid new first second one two =
    two ∙ ap (after_sent second) one ∙ ap (λ (passed : Option (List Passed)). record old { passed = passed }) (after-append way.Sent first second old.passed)

-- nothing was sent
pub Sent-nothing : (link : LinkRecord) → Sent link [] link
Sent-nothing link = ap (λ (passed : Option (List Passed)). record link { passed = passed }) (sym (after-nil way.Sent link.passed))

-- two fronts of one piece, sent one after the other
pub Sent-more : (old mid new : LinkRecord) (piece : List ℕ) (m n : ℕ) → Sent old (take m piece) mid → Sent mid (take n (drop m piece)) new → Sent old (take (m + n) piece) new
Sent-more old mid new piece m n first second = rw (take-add m n piece) (Sent-then old mid new (take m piece) (take n (drop m piece)) first second)

-- a link that failed once a front of a piece was sent
pub SendsAll-failed : (old mid new : LinkRecord) (piece : List ℕ) (n : ℕ) → Sent old (take n piece) mid → Failing mid new → (front rest : List ℕ) × (front ++ rest ≡ piece) × Failing (after_sent front old) new
SendsAll-failed old mid new piece n sent failing =
    let P : LinkRecord → Type 0 = λ link. Failing link new in
    (take n piece, drop n piece, take-append-drop n piece, subst P sent failing)

with_sent-append : (went : Way) (byte : ℕ) (front back : List ℕ) → with_sent went byte (front ++ back) ≡ with_sent went byte front ++ back
with_sent-append way.Sent byte front back = refl
with_sent-append way.First byte front back = refl
with_sent-append way.Given byte front back = refl

with_given-append : (went : Way) (byte : ℕ) (front back : List ℕ) → with_given went byte (front ++ back) ≡ with_given went byte front ++ back
with_given-append way.Sent byte front back = refl
with_given-append way.First byte front back = refl
with_given-append way.Given byte front back = refl

-- the bytes of what passed, and then of what passed later
pub bytes_sent-append : (front back : List Passed) → bytes_sent (front ++ back) ≡ bytes_sent front ++ bytes_sent back
bytes_sent-append [] back = refl
bytes_sent-append (item ∷ front) back = ap (with_sent item.way item.byte) (bytes_sent-append front back) ∙ with_sent-append item.way item.byte (bytes_sent front) (bytes_sent back)

pub bytes_given-append : (front back : List Passed) → bytes_given (front ++ back) ≡ bytes_given front ++ bytes_given back
bytes_given-append [] back = refl
bytes_given-append (item ∷ front) back = ap (with_given item.way item.byte) (bytes_given-append front back) ∙ with_given-append item.way item.byte (bytes_given front) (bytes_given back)

-- of bytes that were all sent, all were sent, and none was given
pub sent-all : (bytes : List ℕ) → bytes_sent (passed_all way.Sent bytes) ≡ bytes
sent-all [] = refl
sent-all (byte ∷ rest) = ap (λ (bytes : List ℕ). byte ∷ bytes) (sent-all rest)

pub given-none : (bytes : List ℕ) → bytes_given (passed_all way.Sent bytes) ≡ []
given-none [] = refl
given-none (byte ∷ rest) = given-none rest

-- of a piece all bytes were given, and none was sent
given-behind : (bytes : List ℕ) → bytes_given (passed_all way.Given bytes) ≡ bytes
given-behind [] = refl
given-behind (byte ∷ rest) = ap (λ (bytes : List ℕ). byte ∷ bytes) (given-behind rest)

sent-behind : (bytes : List ℕ) → bytes_sent (passed_all way.Given bytes) ≡ []
sent-behind [] = refl
sent-behind (byte ∷ rest) = sent-behind rest

pub given-piece : (bytes : List ℕ) → bytes_given (passed_piece bytes) ≡ bytes
given-piece [] = refl
given-piece (byte ∷ rest) = ap (λ (bytes : List ℕ). byte ∷ bytes) (given-behind rest)

pub sent-piece : (bytes : List ℕ) → bytes_sent (passed_piece bytes) ≡ []
sent-piece [] = refl
sent-piece (byte ∷ rest) = sent-behind rest

-- all bytes that a link was sent, after it was sent more
pub bytes_sent-more : (piece : List ℕ) (passed : List Passed) → bytes_sent (then_all way.Sent piece passed) ≡ bytes_sent passed ++ piece
bytes_sent-more piece passed = bytes_sent-append passed (passed_all way.Sent piece) ∙ ap (λ (bytes : List ℕ). bytes_sent passed ++ bytes) (sent-all piece)

-- all bytes that a link gave, after it gave more
pub bytes_given-more : (piece : List ℕ) (passed : List Passed) → bytes_given (then_piece piece passed) ≡ bytes_given passed ++ piece
bytes_given-more piece passed = bytes_given-append passed (passed_piece piece) ∙ ap (λ (bytes : List ℕ). bytes_given passed ++ bytes) (given-piece piece)
