-- The items of one piece, push by push.
use Rattle.std.proofs.Common.{◌≡◌, ◌∙◌, ℕ, zero, suc, ◌+◌, ◌*◌, ◌-◌, ◌<◌, ◌≤◌, Bool, true, false, List, [], ◌++◌, length, take, drop, refl, sym, ap, subst, append_assoc, arith}
use Rattle.std.specs.Prelude.{Ok, Err, if◌then◌else◌}
use Rattle.std.proofs.Math.ListN.{drop_of_length-le}
use Rattle.std.proofs.lemmas.Bool.{false≢true}
use Rattle.std.proofs.lemmas.List.{append-nil, drop-drop, length-drop, take_all}
use Rattle.ldm_wmo.specs.Items.{Found}
use Rattle.ldm_wmo.specs.Scanning.{Scanning, after, bytes_taken, is_complete, next_of}
use Rattle.ldm_wmo.specs.Streams.{given, in_hand, items_in}
use Rattle.ldm_wmo.proofs.Joined.{pushed}
use Rattle.ldm_wmo.specs.declared.ingest_fault.IngestFault.{IngestFault}
use Rattle.ldm_wmo.specs.declared.outcome.Outcome.{Outcome}
use Rattle.ldm_wmo.specs.declared.outcome.Outcome.TheVariants as outcome
use Rattle.ldm_wmo.specs.Ingesting.{Ingesting}
use Rattle.ldm_wmo.specs.Outcomes.{then_of}
use Rattle.ldm_wmo.specs.Parts.{Hands, KeepsHands, TakesSome}
use Rattle.ldm_wmo.proofs.Taken.{none, some_broken, some_then}

-- Of a piece, so many bytes were taken, and their items.
pub record TakesFront (all : Ingesting) (met : Outcome) (first scanner : Scanning) (piece : List ℕ) (at : ℕ) (old new : Hands) : Type 0 where
  pub done : List Found
  pub takes : TakesSome (Ok met) all done old new
  pub items : items_in first piece ≡ done ++ items_in scanner (drop at piece)
  pub hand : in_hand first piece ≡ in_hand scanner (drop at piece)

pub front_first : (all : Ingesting) (first : Scanning) (piece : List ℕ) (old : Hands) → TakesFront all outcome.Clean first first piece 0 old old
front_first all first piece old = record { done = []; takes = none all old; items = refl; hand = refl }

drop_more : (a b : ℕ) (piece : List ℕ) → drop b (drop a piece) ≡ drop (a + b) piece
drop_more a b piece = drop-drop b a piece

-- what stands behind a place of a piece, as a slice
pub slice_rest : (at : ℕ) (piece : List ℕ) → take (length piece - at) (drop at piece) ≡ drop at piece
slice_rest at piece = take_all (length piece - at) (drop at piece) (omega (arith, length-drop at piece))

module _ (all : Ingesting) (met : Outcome) (first scanner : Scanning) (piece : List ℕ) (at : ℕ) (old mid : Hands) (front : TakesFront all met first scanner piece at old mid)
    (ready : is_complete scanner ≡ false) where
  abbrev rest : List ℕ
  rest = drop at piece

  items_split : (taken : ℕ) → taken ≡ bytes_taken scanner rest
      → items_in first piece ≡ front.done ++ (given (after scanner rest) ++ items_in (next_of (after scanner rest)) (drop (at + taken) piece))
  items_split taken is =
      let p = pushed scanner rest ready in
      front.items ∙ ap (λ (x : List Found). front.done ++ x) p.items
      ∙ ap (λ (n : ℕ). front.done ++ (given (after scanner rest) ++ items_in (next_of (after scanner rest)) (drop n rest))) (sym is)
      ∙ ap (λ (x : List ℕ). front.done ++ (given (after scanner rest) ++ items_in (next_of (after scanner rest)) x)) (drop_more at taken piece)

  -- one more push, and the item that it completed, if it did
  pub front_on : (behind : Outcome) (pushed_one : Scanning) (taken : ℕ) (new : Hands) → pushed_one ≡ after scanner rest → taken ≡ bytes_taken scanner rest
      → TakesSome (Ok behind) all (given pushed_one) mid new → TakesFront all (then_of met behind) first (next_of pushed_one) piece (at + taken) old new
  front_on behind pushed_one taken new same is takes =
      let p = pushed scanner rest ready in
      let back : after scanner rest ≡ pushed_one = sym same in
      record {
        done = front.done ++ given pushed_one;
        takes = some_then all met behind front.done (given pushed_one) old mid new front.takes takes;
        items = items_split taken is ∙ ap (λ (s : Scanning). front.done ++ (given s ++ items_in (next_of s) (drop (at + taken) piece))) back
            ∙ sym (append_assoc front.done (given pushed_one) (items_in (next_of pushed_one) (drop (at + taken) piece)));
        hand = front.hand ∙ p.in_hand_is ∙ ap (λ (n : ℕ). in_hand (next_of (after scanner rest)) (drop n rest)) (sym is)
            ∙ ap (λ (x : List ℕ). in_hand (next_of (after scanner rest)) x) (drop_more at taken piece) ∙ ap (λ (s : Scanning). in_hand (next_of s) (drop (at + taken) piece)) back;
      }

  -- the run ended at the item that a push completed
  pub front_broken : (why : IngestFault) (pushed_one : Scanning) (taken : ℕ) (new : Hands) → pushed_one ≡ after scanner rest → taken ≡ bytes_taken scanner rest → KeepsHands old mid
      → TakesSome (Err why) all (given pushed_one) mid new → TakesSome (Err why) all (items_in first piece) old new
  front_broken why pushed_one taken new same is kept takes =
      let back : after scanner rest ≡ pushed_one = sym same in
      let behind = items_in (next_of pushed_one) (drop (at + taken) piece) in
      let whole : items_in first piece ≡ front.done ++ (given pushed_one ++ behind) =
      items_split taken is ∙ ap (λ (s : Scanning). front.done ++ (given s ++ items_in (next_of s) (drop (at + taken) piece))) back in
      let P : List Found → Type 0 = λ items. TakesSome (Err why) all items old new in
      subst P (sym whole) (some_broken all met why front.done (given pushed_one) behind old mid new front.takes kept takes)

-- nothing is left of the piece
pub front_whole : (all : Ingesting) (met : Outcome) (first scanner : Scanning) (piece : List ℕ) (at : ℕ) (old new : Hands) → TakesFront all met first scanner piece at old new
    → length piece ≤ at → TakesSome (Ok met) all (items_in first piece) old new
unfolding items_in
front_whole all met first scanner piece at old new front past =
    let nothing : drop at piece ≡ [] = drop_of_length-le piece past in
    let whole : items_in first piece ≡ front.done = front.items ∙ ap (λ (x : List ℕ). front.done ++ items_in scanner x) nothing ∙ append-nil front.done in
    let P : List Found → Type 0 = λ items. TakesSome (Ok met) all items old new in
    subst P (sym whole) front.takes

pub front_hand : (all : Ingesting) (met : Outcome) (first scanner : Scanning) (piece : List ℕ) (at : ℕ) (old new : Hands) → TakesFront all met first scanner piece at old new
    → length piece ≤ at → scanner ≡ in_hand first piece
unfolding in_hand
front_hand all met first scanner piece at old new front past =
    let nothing : drop at piece ≡ [] = drop_of_length-le piece past in
    sym (front.hand ∙ ap (λ (x : List ℕ). in_hand scanner x) nothing)

-- each push takes something, or ends the candidate that is in hand
pub measure_falls : (length_of at taken : ℕ) (was is : Bool) → at < length_of → taken ≤ length_of - at → (was ≡ true → 0 < taken) → (taken ≡ 0 → is ≡ true)
    → 2 * (length_of - (at + taken)) + (if is then 0 else 1) < 2 * (length_of - at) + (if was then 0 else 1)
measure_falls length_of at taken true true before most moves ends = (let m = moves refl in omega arith)
measure_falls length_of at taken true false before most moves ends = (let m = moves refl in omega arith)
measure_falls length_of at taken false true before most moves ends = omega arith
measure_falls length_of at zero false false before most moves ends = absurd (false≢true (ends refl))
measure_falls length_of at (suc taken) false false before most moves ends = omega arith
