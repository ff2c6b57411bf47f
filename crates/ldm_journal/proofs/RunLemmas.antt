-- Runs of an open journal.
use Rattle.std.proofs.Common.{◌≡◌, inl, inr, ℕ, zero, suc, ◌+◌, ◌-◌, ◌<◌, ◌≤◌, Bool, cond, List, [], ◌∷◌, ◌++◌, length, take, drop, refl, sym, ◌∙◌, ap, subst, arith}
use Rattle.std.proofs.lemmas.Bool.Decides.{leb_tells}
use Rattle.std.proofs.lemmas.List.{append-nil, append_assoc, length-append, length-drop, length_push, drop-append-le, drop-drop, take_at}
use Rattle.ldm_journal.specs.Records.{Kept, fitting, size_of}
use Rattle.ldm_journal.specs.Runs.{Event, Append, Commit, Content, opened, after_event, after_events, appended_in, committed_in, noted_in, MayOpen, IsPart}

-- what goes from the front
pub record Drops (most : ℕ) (all : List Kept) : Type 0 where
  pub dropped : ℕ
  pub within : dropped ≤ length all
  pub is : fitting most all ≡ drop dropped all
  pub fewest : (fewer : ℕ) → fewer < dropped → most < size_of (drop fewer all)

fewer_here : (most : ℕ) (k : Kept) (all : List Kept) → most < size_of (k ∷ all) → (dropped : ℕ) → ((fewer : ℕ) → fewer < dropped → most < size_of (drop fewer all))
    → (fewer : ℕ) → fewer < suc dropped → most < size_of (drop fewer (k ∷ all))
fewer_here most k all over dropped fewest zero less = over
fewer_here most k all over dropped fewest (suc fewer) less = fewest fewer (omega (arith, less))

pub fitting_drops : (most : ℕ) (all : List Kept) → Drops most all
fitting_drops most [] = record { dropped = 0; within = omega arith; is = refl; fewest = λ fewer less. absurd (omega (arith, less)) }
fitting_drops most (k ∷ all) =
    elim (leb_tells (size_of (k ∷ all)) most) [
      | inl fits ↦ record {
        dropped = 0;
        within = omega arith;
        is = ap (λ (b : Bool). cond b (k ∷ all) (fitting most all)) fits.0;
        fewest = λ fewer less. absurd (omega (arith, less));
      }
      | inr over ↦
          (let rest = fitting_drops most all in
          record {
            dropped = suc rest.dropped;
            within = omega (arith, rest.within);
            is = ap (λ (b : Bool). cond b (k ∷ all) (fitting most all)) over.0 ∙ rest.is;
            fewest = fewer_here most k all over.1 rest.dropped rest.fewest;
          })
    ]

pub fitting_fits : (most : ℕ) (all : List Kept) → size_of (fitting most all) ≤ most
fitting_fits most [] = omega arith
fitting_fits most (k ∷ all) =
    elim (leb_tells (size_of (k ∷ all)) most) [
      | inl fits ↦
          (let is : fitting most (k ∷ all) ≡ k ∷ all = ap (λ (b : Bool). cond b (k ∷ all) (fitting most all)) fits.0 in
          omega (arith, ap (λ (l : List Kept). size_of l) is, fits.1))
      | inr over ↦
          (let is : fitting most (k ∷ all) ≡ fitting most all = ap (λ (b : Bool). cond b (k ∷ all) (fitting most all)) over.0 in
          omega (arith, ap (λ (l : List Kept). size_of l) is, fitting_fits most all))
    ]

-- what an open journal stands for is what is left of all products, without some at the front
record Stands (first committed : ℕ) (all : List Kept) (content : Content) : Type 0 where
  whole : content.kept ++ content.appended ≡ drop first all
  within : first ≤ committed
  count : length all ≡ committed + length content.appended

step : (first committed : ℕ) (all : List Kept) (content : Content) (event : Event) → Stands first committed all content
    → (first' : ℕ) × Stands first' (committed_in committed (length all) (event ∷ [])) (all ++ appended_in (event ∷ [])) (after_event content event)
step first committed all content (Append k) s = (
  first,
  record {
    whole = sym (append_assoc content.kept content.appended (k ∷ [])) ∙ ap (λ (l : List Kept). l ++ k ∷ []) s.whole
        ∙ sym (drop-append-le first all (k ∷ []) (omega (arith, s.within, s.count)));
    within = s.within;
    count = omega (arith, length_push all k, length_push content.appended k, s.count);
  },
)
step first committed all content (Commit most note) s =
    let all_here = content.kept ++ content.appended in
    let d = fitting_drops most all_here in
    let long : length all_here ≡ length all - first = ap length s.whole ∙ length-drop first all in (
      first + d.dropped,
      record {
        whole = append-nil (fitting most all_here) ∙ d.is ∙ ap (λ (l : List Kept). drop d.dropped l) s.whole ∙ drop-drop d.dropped first all
            ∙ ap (λ (l : List Kept). drop (first + d.dropped) l) (sym (append-nil all));
        within = omega (arith, d.within, long, s.within, s.count);
        count = omega (arith, ap length (append-nil all));
      },
    )

run : (events : List Event) (first committed : ℕ) (all : List Kept) (content : Content) → Stands first committed all content
    → (first' : ℕ) × Stands first' (committed_in committed (length all) events) (all ++ appended_in events) (after_events content events)
run [] first committed all content s = (first, subst (λ (l : List Kept). Stands first committed l content) (sym (append-nil all)) s)
run (Append k ∷ events) first committed all content s =
    let one = step first committed all content (Append k) s in
    let rest = run events one.0 committed (all ++ k ∷ []) (after_event content (Append k)) one.1 in
    let long : length (all ++ k ∷ []) ≡ length all + 1 = length_push all k in (
      rest.0,
      subst (λ (l : List Kept). Stands rest.0 (committed_in committed (length all + 1) events) l (after_events (after_event content (Append k)) events))
          (append_assoc all (k ∷ []) (appended_in events))
          (subst (λ (n : ℕ). Stands rest.0 (committed_in committed n events) ((all ++ k ∷ []) ++ appended_in events) (after_events (after_event content (Append k)) events)) long rest.1),
    )
run (Commit most note ∷ events) first committed all content s =
    let one = step first committed all content (Commit most note) s in
    run events one.0 (length all) all (after_event content (Commit most note))
    (subst (λ (l : List Kept). Stands one.0 (length all) l (after_event content (Commit most note))) (append-nil all) one.1)

kept_part : (first committed : ℕ) (all : List Kept) (content : Content) → Stands first committed all content → IsPart committed all content.kept
kept_part first committed all content s =
    let long : length content.kept + length content.appended ≡ length all - first =
    sym (length-append content.kept content.appended) ∙ ap length s.whole ∙ length-drop first all in
    let count : length content.kept ≡ committed - first = omega (arith, long, s.count, s.within) in
    record {
      first = first;
      end = committed;
      ordered = s.within;
      within = omega (arith, s.count);
      enough = omega arith;
      is = sym (take_at content.kept content.appended (committed - first) count) ∙ ap (λ (l : List Kept). take (committed - first) l) s.whole;
    }

pub leaves_a_part : (first : List Kept) (begun : List ℕ) (events : List Event) (left : List Kept) (note : List ℕ) → MayOpen (after_events (opened first begun) events) left note
    → IsPart (committed_in (length first) (length first) events) (first ++ appended_in events) left
leaves_a_part first begun events left note may =
    let begin = opened first begun in
    let start : Stands 0 (length first) first begin = record { whole = append-nil first; within = omega arith; count = omega arith } in
    let end = run events 0 (length first) first begin start in
    let all = first ++ appended_in events in
    let committed = committed_in (length first) (length first) events in
    subst (λ (l : List Kept). IsPart committed all l) (sym may.0) (kept_part end.0 committed all (after_events begin events) end.1)

-- the note of the last commit
note_after : (events : List Event) (content : Content) → (after_events content events).note ≡ noted_in content.note events
note_after [] content = refl
note_after (Append k ∷ events) content = note_after events (after_event content (Append k))
note_after (Commit most note ∷ events) content = note_after events (after_event content (Commit most note))

pub leaves_a_note : (first : List Kept) (begun : List ℕ) (events : List Event) (left : List Kept) (note : List ℕ) → MayOpen (after_events (opened first begun) events) left note
    → note ≡ noted_in begun events
leaves_a_note first begun events left note may = may.1 ∙ note_after events (opened first begun)
