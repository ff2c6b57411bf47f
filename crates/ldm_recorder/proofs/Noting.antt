-- The bytes of a note.
use Rattle.std.proofs.Common.{◌≡◌, ◌≢◌, ℕ, zero, suc, ◌+◌, ◌-◌, ◌*◌, ◌^◌, ◌<◌, ◌≤◌, Bool, true, false, cond, List, [], ◌∷◌, ◌++◌, length, take, drop, refl, sym, ◌∙◌, ap, subst, arith}
use Rattle.std.specs.Prelude.{All, Some, bytes_eq, flat_map, replicate, slice_get, slice_index}
use Rattle.std.specs.Int.{w64, from_be_bytes}
use Rattle.std.proofs.Math.Seq.{take-append-add, take-append_seam, drop-append_seam, drop-append-add}
use Rattle.std.proofs.lemmas.List.{append-nil, append_assoc, drop-drop, drop-replicate, length-append, take-replicate, take_all}
use Rattle.std.proofs.lemmas.List.Elements.{All-head, All-tail}
use Rattle.std.proofs.lemmas.Nat.{from_be_bytes-to_be_bytes_8}
use Rattle.std.proofs.lemmas.Slice.{drop-put_mid, take-put_mid}
use Rattle.std.proofs.lemmas.Slice.Eq.{bytes_eq-Decides}
use borrow.Rule.Slice.PartMut.{put_mid}
use Rattle.ldm_journal.specs.Format.{number_at}
use Rattle.ldm_journal.specs.Records.{eight}
use Rattle.ldm_recorder.specs.declared.line.Line.{Line}
use Rattle.ldm_recorder.specs.declared.line.TheConstants.{MOST_LINES}
use Rattle.ldm_journal.specs.declared.places.TheConstants.{NOTE}
use Rattle.ldm_recorder.specs.Lines.{entry_of, last_among, last_in, note_of, with_lasts}

-- ---- reading

not_true : (b : Bool) → (b ≡ true → ⊥) → b ≡ false
not_true true not = absurd (not refl)
not_true false not = refl

-- the first entry has the key
among_here : (n : ℕ) (key entries : List ℕ) → take 16 entries ≡ key → last_among (suc n) key entries ≡ number_at 16 entries
unfolding last_among
among_here n key entries is =
    ap (λ (b : Bool). cond b (number_at 16 entries) (last_among n key (drop 24 entries))) ((bytes_eq-Decides (take 16 entries) key).1 is)

-- it has another
among_behind : (n : ℕ) (key entries : List ℕ) → take 16 entries ≢ key → last_among (suc n) key entries ≡ last_among n key (drop 24 entries)
unfolding last_among
among_behind n key entries other =
    ap (λ (b : Bool). cond b (number_at 16 entries) (last_among n key (drop 24 entries)))
    (not_true (bytes_eq (take 16 entries) key) (λ is. other ((bytes_eq-Decides (take 16 entries) key).0 is)))

-- none of the first entries has the key
abbrev pub NoneYet : List ℕ → List ℕ → ℕ → Type 0
NoneYet key note i = last_in key note ≡ last_among (MOST_LINES - i) key (drop (24 * i) note)

pub none_begins : (key note : List ℕ) → NoneYet key note 0
unfolding last_in
none_begins key note = refl

module _ (key note : List ℕ) (i : ℕ) (within : i < MOST_LINES) (so_far : NoneYet key note i) where
  entries_left : MOST_LINES - i ≡ suc (MOST_LINES - (i + 1))
  entries_left = omega arith

  begun : last_in key note ≡ last_among (suc (MOST_LINES - (i + 1))) key (drop (24 * i) note)
  begun = so_far ∙ ap (λ (n : ℕ). last_among n key (drop (24 * i) note)) entries_left

  pub found_here : (entries : List ℕ) → entries ≡ drop (24 * i) note → take 16 entries ≡ key → number_at 16 entries ≡ last_in key note
  found_here entries are is =
      let there : take 16 (drop (24 * i) note) ≡ key = subst (λ (l : List ℕ). take 16 l ≡ key) are is in
      ap (λ (l : List ℕ). number_at 16 l) are ∙ sym (begun ∙ among_here (MOST_LINES - (i + 1)) key (drop (24 * i) note) there)

  pub not_here : (entries : List ℕ) → entries ≡ drop (24 * i) note → (take 16 entries ≡ key → ⊥) → NoneYet key note (i + 1)
  not_here entries are other =
      let there : take 16 (drop (24 * i) note) ≢ key = subst (λ (l : List ℕ). take 16 l ≡ key → ⊥) are other in
      let next : 24 * i + 24 ≡ 24 * (i + 1) = omega arith in
      begun ∙ among_behind (MOST_LINES - (i + 1)) key (drop (24 * i) note) there
      ∙ ap (λ (l : List ℕ). last_among (MOST_LINES - (i + 1)) key l) (drop-drop 24 (24 * i) note ∙ ap (λ (n : ℕ). drop n note) next)

pub none_at_all : (key note : List ℕ) → NoneYet key note MOST_LINES → 0 ≡ last_in key note
unfolding last_among
none_at_all key note so_far = sym so_far

-- ---- what an entry reads as

module _ (line : Line) (zs : List ℕ) (long : length line.key ≡ 16) where
  key_first : take 16 (entry_of line ++ zs) ≡ line.key
  key_first =
      ap (λ (l : List ℕ). take 16 l) (append_assoc line.key (eight line.last) zs)
      ∙ ap (λ (n : ℕ). take n (line.key ++ (eight line.last ++ zs))) (sym long) ∙ take-append_seam line.key (eight line.last ++ zs)

  entry_long : length (entry_of line) ≡ 24
  entry_long = omega (arith, length-append line.key (eight line.last), long)

  others_behind : drop 24 (entry_of line ++ zs) ≡ zs
  others_behind = ap (λ (n : ℕ). drop n (entry_of line ++ zs)) (sym entry_long) ∙ drop-append_seam (entry_of line) zs

  number_second : line.last < 2 ^ 64 → number_at 16 (entry_of line ++ zs) ≡ line.last
  unfolding number_at
  number_second fits =
      let behind : drop 16 (entry_of line ++ zs) ≡ eight line.last ++ zs =
      ap (λ (l : List ℕ). drop 16 l) (append_assoc line.key (eight line.last) zs)
      ∙ ap (λ (n : ℕ). drop n (line.key ++ (eight line.last ++ zs))) (sym long) ∙ drop-append_seam line.key (eight line.last ++ zs) in
      ap (λ (l : List ℕ). from_be_bytes w64 (take 8 l)) behind ∙ from_be_bytes-to_be_bytes_8 line.last fits

  pub entry_front : (m : ℕ) → take (24 * suc m) (entry_of line ++ zs) ≡ entry_of line ++ take (24 * m) zs
  entry_front m =
      let more : 24 * suc m ≡ length (entry_of line) + 24 * m = omega (arith, entry_long) in
      ap (λ (n : ℕ). take n (entry_of line ++ zs)) more ∙ take-append-add (entry_of line) zs (24 * m)

-- a note tells of a line what it was made with
told_among : (n : ℕ) (before behind : List Line) (line : Line) (rest : List ℕ) → length before < n
    → All (λ (other : Line). (length other.key ≡ 16) × (other.key ≢ line.key)) before → length line.key ≡ 16 → line.last < 2 ^ 64
    → last_among n line.key (take (24 * n) (flat_map entry_of (before ++ line ∷ behind) ++ rest)) ≡ line.last
told_among zero before behind line rest few others long fits = absurd (omega (arith, few))
told_among (suc m) [] behind line rest few others long fits =
    let zs = flat_map entry_of behind ++ rest in
    let there : take (24 * suc m) (flat_map entry_of (line ∷ behind) ++ rest) ≡ entry_of line ++ take (24 * m) zs =
    ap (λ (l : List ℕ). take (24 * suc m) l) (append_assoc (entry_of line) (flat_map entry_of behind) rest) ∙ entry_front line zs long m in
    ap (λ (l : List ℕ). last_among (suc m) line.key l) there
    ∙ among_here m line.key (entry_of line ++ take (24 * m) zs) (key_first line (take (24 * m) zs) long)
    ∙ number_second line (take (24 * m) zs) long fits
told_among (suc m) (x ∷ before) behind line rest few others long fits =
    let zs = flat_map entry_of (before ++ line ∷ behind) ++ rest in
    let P : Line → Type 0 = λ other. (length other.key ≡ 16) × (other.key ≢ line.key) in
    let one = All-head P x before others in
    let there : take (24 * suc m) (flat_map entry_of (x ∷ (before ++ line ∷ behind)) ++ rest) ≡ entry_of x ++ take (24 * m) zs =
    ap (λ (l : List ℕ). take (24 * suc m) l) (append_assoc (entry_of x) (flat_map entry_of (before ++ line ∷ behind)) rest) ∙ entry_front x zs one.0 m in
    let other : take 16 (entry_of x ++ take (24 * m) zs) ≢ line.key = λ is. one.1 (sym (key_first x (take (24 * m) zs) one.0) ∙ is) in
    ap (λ (l : List ℕ). last_among (suc m) line.key l) there
    ∙ among_behind m line.key (entry_of x ++ take (24 * m) zs) other
    ∙ ap (λ (l : List ℕ). last_among m line.key l) (others_behind x (take (24 * m) zs) one.0)
    ∙ told_among m before behind line rest (omega (arith, few)) (All-tail P x before others) long fits

pub note_tells : (before behind : List Line) (line : Line) → length before < MOST_LINES → All (λ (other : Line). (length other.key ≡ 16) × (other.key ≢ line.key)) before
    → length line.key ≡ 16 → line.last < 2 ^ 64 → last_in line.key (note_of (before ++ line ∷ behind)) ≡ line.last
unfolding note_of last_in
note_tells before behind line few others long fits = told_among MOST_LINES before behind line (replicate NOTE 0) few others long fits

-- ---- writing

-- the entries of the first lines, and zeros behind them
pub record NotesSome (lines : List Line) (lasts : List ℕ) (i : ℕ) (note : List ℕ) : Type 0 where
  pub within : i ≤ length lines
  pub long : length (flat_map entry_of (take i (with_lasts lines lasts))) ≡ 24 * i
  pub is : note ≡ flat_map entry_of (take i (with_lasts lines lasts)) ++ replicate (NOTE - 24 * i) 0

pub notes_none : (lines : List Line) (lasts : List ℕ) → NotesSome lines lasts 0 (replicate NOTE 0)
notes_none lines lasts = record { within = omega arith; long = refl; is = refl }

flat-one : (xs : List Line) (x : Line) → flat_map entry_of (xs ++ x ∷ []) ≡ flat_map entry_of xs ++ entry_of x
flat-one [] x = append-nil (entry_of x)
flat-one (y ∷ xs) x = ap (λ (l : List ℕ). entry_of y ++ l) (flat-one xs x) ∙ sym (append_assoc (entry_of y) (flat_map entry_of xs) (entry_of x))

-- a line with its number, at its place
with_more : (lines : List Line) (lasts : List ℕ) (i : ℕ) (line : Line) → slice_get lines i ≡ Some line → i < length lasts
    → take (suc i) (with_lasts lines lasts) ≡ take i (with_lasts lines lasts) ++ record line { last = slice_index lasts i } ∷ []
with_more [] lasts i line is within = absurd (cc is)
with_more (x ∷ lines) [] i line is within = absurd (omega (arith, within))
with_more (x ∷ lines) (last ∷ lasts) zero line is within =
    (let one : x ≡ line = cc is in ap (λ (l : Line). record l { last = last } ∷ []) one)
with_more (x ∷ lines) (last ∷ lasts) (suc i) line is within =
    ap (λ (l : List Line). record x { last = last } ∷ l) (with_more lines lasts i line is (omega (arith, within)))

get_within : (lines : List Line) (i : ℕ) (line : Line) → slice_get lines i ≡ Some line → i < length lines
get_within [] i line is = absurd (cc is)
get_within (x ∷ lines) zero line is = omega arith
get_within (x ∷ lines) (suc i) line is = omega (arith, get_within lines i line is)

pub notes_more : (lines : List Line) (lasts : List ℕ) (i : ℕ) (line : Line) (note : List ℕ) → i < MOST_LINES → slice_get lines i ≡ Some line → i < length lasts → length line.key ≡ 16
    → NotesSome lines lasts i note
    → NotesSome lines lasts (i + 1) (take (24 * i) note ++ (line.key ++ eight (slice_index lasts i)) ++ drop (24 * i + 24) note)
notes_more lines lasts i line note few there within key so_far =
    let new : Line = record line { last = slice_index lasts i } in
    let before : List ℕ = flat_map entry_of (take i (with_lasts lines lasts)) in
    let next : i + 1 ≡ suc i = omega arith in
    let entries : flat_map entry_of (take (i + 1) (with_lasts lines lasts)) ≡ before ++ entry_of new =
    ap (λ (n : ℕ). flat_map entry_of (take n (with_lasts lines lasts))) next
    ∙ ap (λ (l : List Line). flat_map entry_of l) (with_more lines lasts i line there within)
    ∙ flat-one (take i (with_lasts lines lasts)) new in
    let zeros : List ℕ = replicate (NOTE - 24 * i) 0 in
    let front : take (24 * i) note ≡ before =
    ap (λ (l : List ℕ). take (24 * i) l) so_far.is ∙ ap (λ (n : ℕ). take n (before ++ zeros)) (sym so_far.long) ∙ take-append_seam before zeros in
    let behind : drop (24 * i + 24) note ≡ replicate (NOTE - 24 * (i + 1)) 0 =
    ap (λ (l : List ℕ). drop (24 * i + 24) l) so_far.is ∙ ap (λ (n : ℕ). drop (n + 24) (before ++ zeros)) (sym so_far.long)
    ∙ drop-append-add before zeros 24 ∙ drop-replicate 24 (NOTE - 24 * i) 0 ∙ ap (λ (n : ℕ). replicate n 0) (omega arith) in
    record {
      within = omega (arith, get_within lines i line there);
      long = omega (arith, ap length entries, length-append before (entry_of new), length-append line.key (eight (slice_index lasts i)), key, so_far.long);
      is =
          ap (λ (l : List ℕ). l ++ entry_of new ++ drop (24 * i + 24) note) front
          ∙ ap (λ (l : List ℕ). before ++ entry_of new ++ l) behind
          ∙ ap (λ (l : List ℕ). l ++ replicate (NOTE - 24 * (i + 1)) 0) (sym entries);
    }

with_few : (lines : List Line) (lasts : List ℕ) → length (with_lasts lines lasts) ≤ length lasts
with_few [] lasts = omega arith
with_few (line ∷ lines) [] = omega arith
with_few (line ∷ lines) (last ∷ lasts) = omega (arith, with_few lines lasts)

with_fewer : (lines : List Line) (lasts : List ℕ) → length (with_lasts lines lasts) ≤ length lines
with_fewer [] lasts = omega arith
with_fewer (line ∷ lines) [] = omega arith
with_fewer (line ∷ lines) (last ∷ lasts) = omega (arith, with_fewer lines lasts)

filled : (n m : ℕ) (entries : List ℕ) → length entries ≡ m → m ≤ n → entries ++ replicate (n - m) 0 ≡ take n (entries ++ replicate n 0)
filled n m entries long le =
    let all : n ≡ length entries + (n - m) = omega (arith, long, le) in
    sym
    (ap (λ (k : ℕ). take k (entries ++ replicate n 0)) all ∙ take-append-add entries (replicate n 0) (n - m)
    ∙ ap (λ (l : List ℕ). entries ++ l) (take-replicate (n - m) n 0 (omega arith)))

-- no line is left, or no room
pub notes_all : (lines : List Line) (lasts : List ℕ) (i : ℕ) (note : List ℕ) → i ≤ MOST_LINES → length (with_lasts lines lasts) ≤ i → NotesSome lines lasts i note
    → note ≡ note_of (with_lasts lines lasts)
unfolding note_of
notes_all lines lasts i note few all so_far =
    let whole : take i (with_lasts lines lasts) ≡ with_lasts lines lasts = take_all i (with_lasts lines lasts) all in
    let le : 24 * i ≤ NOTE = omega (arith, few) in
    so_far.is ∙ filled NOTE (24 * i) (flat_map entry_of (take i (with_lasts lines lasts))) so_far.long le
    ∙ ap (λ (l : List Line). take NOTE (flat_map entry_of l ++ replicate NOTE 0)) whole

pub notes_end : (lines : List Line) (lasts : List ℕ) (note : List ℕ) → length lasts ≡ MOST_LINES → NotesSome lines lasts MOST_LINES note → note ≡ note_of (with_lasts lines lasts)
notes_end lines lasts note many so_far =
    notes_all lines lasts MOST_LINES note (omega arith) (omega (arith, with_few lines lasts, many)) so_far

pub notes_out : (lines : List Line) (lasts : List ℕ) (i : ℕ) (note : List ℕ) → i ≤ MOST_LINES → length lines ≤ i → NotesSome lines lasts i note
    → note ≡ note_of (with_lasts lines lasts)
notes_out lines lasts i note few none so_far = notes_all lines lasts i note few (omega (arith, with_fewer lines lasts, none)) so_far

-- two pieces that are written, one behind the other
pub put_both : (at : ℕ) (xs ks es : List ℕ) → length ks ≡ 16 → length es ≡ 8 → at + 24 ≤ length xs
    → put_mid (at + 16) (at + 24 - (at + 16)) (put_mid at (at + 16 - at) xs ks) es ≡ take at xs ++ (ks ++ es) ++ drop (at + 24) xs
put_both at xs ks es long eight_long room =
    let m = put_mid at (at + 16 - at) xs ks in
    let behind = drop (at + 24) xs in
    let front : take (at + 16) m ≡ take at xs ++ ks = take-put_mid at (at + 16 - at) xs ks (at + 16) (omega (arith, long)) (omega (arith, room)) in
    let rest : drop (at + 24 - (at + 16)) (drop (at + 16) m) ≡ behind =
    drop-drop (at + 24 - (at + 16)) (at + 16) m ∙ ap (λ (n : ℕ). drop n m) (omega arith)
    ∙ drop-put_mid at (at + 16 - at) xs ks (at + 24) (omega arith) (omega (arith, room)) (omega (arith, long)) in
    ap (λ (l : List ℕ). l ++ (es ++ drop (at + 24 - (at + 16)) (drop (at + 16) m))) front ∙ ap (λ (l : List ℕ). (take at xs ++ ks) ++ (es ++ l)) rest
    ∙ append_assoc (take at xs) ks (es ++ behind)
    ∙ sym (append_assoc (take at xs) (ks ++ es) behind ∙ ap (λ (l : List ℕ). take at xs ++ l) (append_assoc ks es behind))

pub both_ways : (b : Bool) → b ≡ true → b ≡ false → ⊥
both_ways true is not = absurd (cc not)
both_ways false is not = absurd (cc is)
