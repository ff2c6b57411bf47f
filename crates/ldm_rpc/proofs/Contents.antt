-- The records that come out of a stream of records.
use Rattle.std.proofs.Common.{◌≡◌, ℕ, ◌+◌, List, [], ◌∷◌, ◌++◌, length, drop, Some, refl, sym, ap, ◌∙◌, append_assoc, arith}
use Rattle.std.specs.Prelude.{All}
use Rattle.std.specs.List.{flat_map}
use Rattle.std.proofs.lemmas.List.{drop_at, length-append}
use Rattle.std.proofs.lemmas.List.Elements.{All-head, All-tail}
use Rattle.ldm_rpc.specs.Reading.{Reading, after, begun, bytes_taken, whole_of}
use Rattle.ldm_rpc.specs.Spelling.{Record, Fits, content, spelling}
use Rattle.ldm_rpc.specs.Streams.{Placed, at_start, before_record, forgets, given, in_hand, placed, records_in}
use Rattle.ldm_rpc.proofs.Joined.{pushed}
use Rattle.ldm_rpc.proofs.Once.{spelled_once}
use Rattle.ldm_rpc.proofs.Spelled.{taken_record, whole_record}

pub record_whole : (limit : ℕ) (r : Record) (rest : List ℕ) → Fits limit r → whole_of (after (begun limit) (spelling r ++ rest)) ≡ Some (content r)
record_whole limit r rest fits = ap whole_of (whole_record limit r rest fits)

behind : (limit : ℕ) (r : Record) (rest : List ℕ) → Fits limit r → drop (bytes_taken (begun limit) (spelling r ++ rest)) (spelling r ++ rest) ≡ rest
behind limit r rest fits = drop_at (spelling r) rest _ (sym (taken_record limit r rest fits))

-- one record from a place on, and then what stands behind it
record_out : (limit at : ℕ) (r : Record) (rest : List ℕ) → Fits limit r
    → records_in (before_record limit at) (spelling r ++ rest) ≡ record { at = at; content = content r } ∷ records_in (before_record limit (at + length (spelling r))) rest
record_out limit at r rest fits =
    let bytes = spelling r ++ rest in
    let n = bytes_taken (begun limit) bytes in
    (pushed (before_record limit at) bytes refl).records
    ∙ ap (λ (s : Reading). given at s ++ records_in (forgets at (at + n) s) (drop n bytes)) (whole_record limit r rest fits)
    ∙ ap (λ (x : List ℕ). record { at = at; content = content r } ∷ records_in (before_record limit (at + n)) x) (behind limit r rest fits)
    ∙ ap (λ k. record { at = at; content = content r } ∷ records_in (before_record limit (at + k)) rest) (taken_record limit r rest fits)

in_hand_record : (limit at : ℕ) (r : Record) (rest : List ℕ) → Fits limit r
    → in_hand (before_record limit at) (spelling r ++ rest) ≡ in_hand (before_record limit (at + length (spelling r))) rest
in_hand_record limit at r rest fits =
    let bytes = spelling r ++ rest in
    let n = bytes_taken (begun limit) bytes in
    (pushed (before_record limit at) bytes refl).in_hand
    ∙ ap (λ (s : Reading). in_hand (forgets at (at + n) s) (drop n bytes)) (whole_record limit r rest fits)
    ∙ ap (λ (x : List ℕ). in_hand (before_record limit (at + n)) x) (behind limit r rest fits)
    ∙ ap (λ k. in_hand (before_record limit (at + k)) rest) (taken_record limit r rest fits)

-- the place behind several records, by that behind the first of them
place_behind : (at : ℕ) (r : Record) (records : List Record)
    → at + length (spelling r) + length (flat_map spelling records) ≡ at + length (flat_map spelling (r ∷ records))
place_behind at r records = omega (arith, length-append (spelling r) (flat_map spelling records))

here : (at : ℕ) → at ≡ at + 0
here at = omega arith

pub records_out : (limit at : ℕ) (records : List Record) (rest : List ℕ) → All (Fits limit) records
    → records_in (before_record limit at) (flat_map spelling records ++ rest)
    ≡ placed at records ++ records_in (before_record limit (at + length (flat_map spelling records))) rest
unfolding placed
records_out limit at [] rest fits = ap (λ k. records_in (before_record limit k) rest) (here at)
records_out limit at (r ∷ records) rest fits =
    let next = at + length (spelling r) in
    ap (records_in (before_record limit at)) (append_assoc (spelling r) (flat_map spelling records) rest)
    ∙ record_out limit at r (flat_map spelling records ++ rest) (All-head (Fits limit) r records fits)
    ∙ ap (λ (x : List Placed). record { at = at; content = content r } ∷ x) (records_out limit next records rest (All-tail (Fits limit) r records fits))
    ∙ ap (λ k. record { at = at; content = content r } ∷ (placed next records ++ records_in (before_record limit k) rest)) (place_behind at r records)

pub in_hand_records : (limit at : ℕ) (records : List Record) (rest : List ℕ) → All (Fits limit) records
    → in_hand (before_record limit at) (flat_map spelling records ++ rest) ≡ in_hand (before_record limit (at + length (flat_map spelling records))) rest
in_hand_records limit at [] rest fits = ap (λ k. in_hand (before_record limit k) rest) (here at)
in_hand_records limit at (r ∷ records) rest fits =
    let next = at + length (spelling r) in
    ap (in_hand (before_record limit at)) (append_assoc (spelling r) (flat_map spelling records) rest)
    ∙ in_hand_record limit at r (flat_map spelling records ++ rest) (All-head (Fits limit) r records fits)
    ∙ in_hand_records limit next records rest (All-tail (Fits limit) r records fits)
    ∙ ap (λ k. in_hand (before_record limit k) rest) (place_behind at r records)

no_first : (first : Placed) (others : List Placed) → [] ≡ first ∷ others → ⊥
no_first first others e = cc

-- bytes of which nothing comes out begin with no record
none_in_front : (limit : ℕ) (x : List ℕ) (b : Record) (rest : List ℕ) → Fits limit b → records_in (at_start limit) x ≡ [] → x ≡ spelling b ++ rest → ⊥
none_in_front limit x b rest fits none is =
    absurd (no_first _ _ (sym none ∙ ap (records_in (at_start limit)) is ∙ record_out limit 0 b rest fits))

pub one_way : (limit : ℕ) (xs ys : List Record) (x y : List ℕ) → All (Fits limit) xs → All (Fits limit) ys → records_in (at_start limit) x ≡ [] → records_in (at_start limit) y ≡ []
    → flat_map spelling xs ++ x ≡ flat_map spelling ys ++ y → (xs ≡ ys) × (x ≡ y)
one_way limit [] [] x y fits_x fits_y none_x none_y e = (refl, e)
one_way limit [] (b ∷ ys) x y fits_x fits_y none_x none_y e =
    absurd (none_in_front limit x b (flat_map spelling ys ++ y) (All-head (Fits limit) b ys fits_y) none_x (e ∙ append_assoc (spelling b) (flat_map spelling ys) y))
one_way limit (a ∷ xs) [] x y fits_x fits_y none_x none_y e =
    absurd (none_in_front limit y a (flat_map spelling xs ++ x) (All-head (Fits limit) a xs fits_x) none_y (sym e ∙ append_assoc (spelling a) (flat_map spelling xs) x))
one_way limit (a ∷ xs) (b ∷ ys) x y fits_x fits_y none_x none_y e =
    let first = spelled_once limit a b (flat_map spelling xs ++ x) (flat_map spelling ys ++ y) (All-head (Fits limit) a xs fits_x) (All-head (Fits limit) b ys fits_y)
    (sym (append_assoc (spelling a) (flat_map spelling xs) x) ∙ e ∙ append_assoc (spelling b) (flat_map spelling ys) y) in
    let rest = one_way limit xs ys x y (All-tail (Fits limit) a xs fits_x) (All-tail (Fits limit) b ys fits_y) none_x none_y first.1 in
    (rw (first.0, rest.0) refl, rest.1)
