-- What is known of lines.
use Rattle.std.proofs.Common.{◌≡◌, ◌≢◌, ◌⊎◌, inl, inr, ℕ, ◌+◌, ◌<◌, ◌≤◌, List, length, set, sym, ◌∙◌, ap, subst, arith, get_or-set_other, get_or-set_same}
use Rattle.std.specs.Prelude.{Some, slice_get, slice_index}
use Rattle.std.proofs.lemmas.Bool.Decides.{leb_tells}
use Rattle.std.proofs.lemmas.Option.{slice_get_within}
use Rattle.std.proofs.lemmas.List.{length-set}
use mathlib.Core.List.{IsPrefix}
use Rattle.ldm_model.specs.declared.event.Entry.{Entry}
use Rattle.ldm_shared.proofs.Puts.{put_later}
use Rattle.ldm_recorder.specs.declared.line.Line.{Line}
use Rattle.ldm_recorder.specs.declared.line.TheConstants.{MOST_LINES}
use Rattle.ldm_recorder.specs.declared.recorder.Recorder.{Recorder}
use Rattle.ldm_recorder.specs.Lines.{AreLasts, IsLastOf, IsPut}
use Rattle.ldm_journal.specs.declared.journal.Journal.{Journal}
use Rattle.ldm_recorder.specs.Numbers.{KnowsLasts}
use Rattle.ldm_recorder.specs.Catching.{IsSameButLasts}
use Rattle.ldm_recorder.specs.Taking.{IsSameRecorder}

-- it stays known
pub last_later : (base at : ℕ) (seen later : List Entry) (line : Line) (last : ℕ) → IsPrefix seen later → IsLastOf base at seen line last → IsLastOf base at later line last
last_later base at seen later line last begins (inl began) = inl began
last_later base at seen later line last begins (inr put) =
    inr (record { n = put.n; below = put.below; put = put_later line.actor seen later put.n begins put.put; is = put.is })

pub lasts_later : (base at : ℕ) (seen later : List Entry) (lines : List Line) (lasts : List ℕ) → IsPrefix seen later → AreLasts base at seen lines lasts
    → AreLasts base at later lines lasts
lasts_later base at seen later lines lasts begins are = record {
  many = are.many;
  each = λ i line within there. last_later base at seen later line (slice_index lasts i) begins (are.each i line within there);
}

-- below a number, it is below a higher one
pub last_higher : (base at higher : ℕ) (seen : List Entry) (line : Line) (last : ℕ) → at ≤ higher → IsLastOf base at seen line last → IsLastOf base higher seen line last
last_higher base at higher seen line last le (inl began) = inl began
last_higher base at higher seen line last le (inr put) = inr (record { n = put.n; below = omega (arith, le, put.below); put = put.put; is = put.is })

-- what is known is below a number, where it is not more than one more than that of the journal
pub last_below : (base at below : ℕ) (seen : List Entry) (line : Line) (last : ℕ) → last ≤ base + below → IsLastOf base at seen line last → IsLastOf base below seen line last
last_below base at below seen line last le (inl began) = inl began
last_below base at below seen line last le (inr put) = inr (record { n = put.n; below = omega (arith, le, put.is); put = put.put; is = put.is })

-- ---- a recorder

pub knows_later : (seen later : List Entry) (r : Recorder) → IsPrefix seen later → KnowsLasts seen r → KnowsLasts later r
knows_later seen later r begins knows =
    record { at = knows.at; lasts = lasts_later r.base knows.at seen later r.lines.items r.lasts begins knows.lasts }

-- another that knows the same
pub knows_same : (seen : List Entry) (r s : Recorder) → s.base ≡ r.base → s.lines.items ≡ r.lines.items → s.lasts ≡ r.lasts → KnowsLasts seen r → KnowsLasts seen s
knows_same seen r s base lines lasts knows = record {
  at = knows.at;
  lasts =
      subst (λ (l : List ℕ). AreLasts s.base knows.at seen s.lines.items l) (sym lasts)
      (subst (λ (l : List Line). AreLasts s.base knows.at seen l r.lasts) (sym lines)
      (subst (λ (b : ℕ). AreLasts b knows.at seen r.lines.items r.lasts) (sym base) knows.lasts));
}

-- ---- numbers, one after another

same_or_not : (k i : ℕ) → (k ≡ i) ⊎ (k ≢ i)
same_or_not k i = elim (leb_tells (k + 1) i) [
  | inl before ↦ inr (omega (arith, before.1))
  | inr here ↦ elim (leb_tells (i + 1) k) [ inl behind ↦ inr (omega (arith, behind.1)) | inr there ↦ inl (omega (arith, here.1, there.1)) ]
]

-- the first lines have numbers that are right for them
abbrev pub LastsSome : (Line → ℕ → Type 0) → List Line → ℕ → List ℕ → Type 0
LastsSome R lines i lasts = (k : ℕ) (line : Line) → k < i → slice_get lines k ≡ Some line → R line (slice_index lasts k)

pub lasts_none : (R : Line → ℕ → Type 0) (lines : List Line) (lasts : List ℕ) → LastsSome R lines 0 lasts
lasts_none R lines lasts k line less there = absurd (omega (arith, less))

pub lasts_more : (R : Line → ℕ → Type 0) (lines : List Line) (i : ℕ) (lasts : List ℕ) (line : Line) (last : ℕ) → slice_get lines i ≡ Some line → i < length lasts → R line last
    → LastsSome R lines i lasts → LastsSome R lines (i + 1) (set lasts i last)
lasts_more R lines i lasts line last there within new so_far k other less is =
    elim (leb_tells (k + 1) i) [
      | inl before ↦
          (let apart : k ≢ i = omega (arith, before.1) in
          subst (λ (n : ℕ). R other n) (sym (get_or-set_other lasts i k last 0 apart)) (so_far k other (omega (arith, before.1)) is))
      | inr here ↦
          (let same : k ≡ i = omega (arith, here.1, less) in
          let one : line ≡ other = cc in
          let written : slice_index (set lasts i last) k ≡ last = ap (λ (j : ℕ). slice_index (set lasts i last) j) same ∙ get_or-set_same lasts i last 0 within in
          subst (λ (n : ℕ). R other n) (sym written) (subst (λ (l : Line). R l last) one new))
    ]

pub lasts_whole : (R : Line → ℕ → Type 0) (lines : List Line) (i : ℕ) (lasts : List ℕ) → length lines ≤ i → LastsSome R lines i lasts
    → (k : ℕ) (line : Line) → slice_get lines k ≡ Some line → R line (slice_index lasts k)
lasts_whole R lines i lasts all so_far k line there = so_far k line (omega (arith, slice_get_within lines k line there, all)) there

-- all that a note has room for
pub lasts_room : (base at : ℕ) (seen : List Entry) (lines : List Line) (lasts : List ℕ) → length lasts ≡ MOST_LINES
    → LastsSome (λ (line : Line) (last : ℕ). IsLastOf base at seen line last) lines MOST_LINES lasts → AreLasts base at seen lines lasts
lasts_room base at seen lines lasts many so_far = record { many = many; each = λ i line within there. so_far i line within there }

pub lasts_out : (base at : ℕ) (seen : List Entry) (lines : List Line) (i : ℕ) (lasts : List ℕ) → length lasts ≡ MOST_LINES → length lines ≤ i
    → LastsSome (λ (line : Line) (last : ℕ). IsLastOf base at seen line last) lines i lasts → AreLasts base at seen lines lasts
lasts_out base at seen lines i lasts many all so_far = record {
  many = many;
  each = λ k line within there. lasts_whole (λ (l : Line) (last : ℕ). IsLastOf base at seen l last) lines i lasts all so_far k line there;
}

-- what lines began with
abbrev pub BeginSome : List Line → ℕ → List ℕ → Type 0
BeginSome lines i lasts = LastsSome (λ (line : Line) (last : ℕ). last ≡ line.last) lines i lasts

pub begun_some : (base : ℕ) (seen : List Entry) (lines : List Line) (i : ℕ) (lasts : List ℕ) → BeginSome lines i lasts
    → LastsSome (λ (line : Line) (last : ℕ). IsLastOf base 0 seen line last) lines i lasts
begun_some base seen lines i lasts begun k line less there = inl (begun k line less there)

-- a line's number, where it is below another, and else what the line began with
pub one_below : (base at highest : ℕ) (seen : List Entry) (line : Line) (old last : ℕ) → IsLastOf base highest seen line old → (end : ℕ) → end ≤ base + at
    → ((last ≡ old) × (old ≤ end)) ⊎ (last ≡ line.last) → IsLastOf base at seen line last
one_below base at highest seen line old last known end le (inl kept) =
    subst (λ (n : ℕ). IsLastOf base at seen line n) (sym kept.0) (last_below base highest at seen line old (omega (arith, kept.1, le)) known)
one_below base at highest seen line old last known end le (inr began) = inl began

-- a line is known to have put in a later product
pub knows_put : (seen : List Entry) (r s : Recorder) (i : ℕ) (line : Line) (at last : ℕ) → KnowsLasts seen r → slice_get r.lines.items i ≡ Some line → i < MOST_LINES
    → IsPut r.base at seen line.actor last → s.base ≡ r.base → s.lines.items ≡ r.lines.items → s.lasts ≡ set r.lasts i last → KnowsLasts seen s
knows_put seen r s i line at last knows there within put base lines lasts =
    let higher = knows.at + at in
    let R : Line → ℕ → Type 0 = λ (l : Line) (n : ℕ). IsLastOf r.base higher seen l n in
    let new : R line last = inr (record { n = put.n; below = omega (arith, put.below); put = put.put; is = put.is }) in
    let before : (k : ℕ) (l : Line) → k < MOST_LINES → slice_get r.lines.items k ≡ Some l → R l (slice_index r.lasts k) =
    λ k l less is. last_higher r.base knows.at higher seen l (slice_index r.lasts k) (omega arith) (knows.lasts.each k l less is) in
    let here : AreLasts r.base higher seen r.lines.items (set r.lasts i last) = record {
      many = length-set r.lasts i last ∙ knows.lasts.many;
      each = λ k l less is. put_at R r.lines.items i r.lasts line last there (omega (arith, within, knows.lasts.many)) new k l is (before k l less is);
    } in
    record {
      at = higher;
      lasts =
          subst (λ (l : List ℕ). AreLasts s.base higher seen s.lines.items l) (sym lasts)
          (subst (λ (l : List Line). AreLasts s.base higher seen l (set r.lasts i last)) (sym lines)
          (subst (λ (b : ℕ). AreLasts b higher seen r.lines.items (set r.lasts i last)) (sym base) here));
    }
  where
    put_at : (R : Line → ℕ → Type 0) (lines : List Line) (i : ℕ) (lasts : List ℕ) (line : Line) (last : ℕ) → slice_get lines i ≡ Some line → i < length lasts → R line last
        → (k : ℕ) (other : Line) → slice_get lines k ≡ Some other → R other (slice_index lasts k) → R other (slice_index (set lasts i last) k)
    put_at R lines i lasts line last there within new k other is old =
        elim (same_or_not k i) [
          | inl same ↦
              (let one : line ≡ other = cc in
              let written : slice_index (set lasts i last) k ≡ last = ap (λ (j : ℕ). slice_index (set lasts i last) j) same ∙ get_or-set_same lasts i last 0 within in
              subst (λ (n : ℕ). R other n) (sym written) (subst (λ (l : Line). R l last) one new))
          | inr apart ↦ subst (λ (n : ℕ). R other n) (sym (get_or-set_other lasts i k last 0 apart)) old
        ]

-- ---- a commit where a queue had no more

pub but_lasts : (r s : Recorder) → IsSameButLasts r s → IsSameRecorder r s
but_lasts r s same = record {
  reader = same.reader;
  base = same.base;
  lines = same.lines;
  ring = ap (λ (j : Journal). j.marks.ring) same.journal;
}
