-- A product that goes in blocks was offered only where all its blocks came or it was declined.
use Rattle.std.proofs.Common.{◌≡◌, ◌∙◌, ℕ, zero, suc, ◌<◌, List, [], ◌∷◌, ◌++◌, length, refl, sym, ap, subst, inl, inr, append_assoc, arith}
use Rattle.std.specs.Prelude.{◌⊎◌, Contains, slice_index_or}
use Rattle.std.proofs.lemmas.List.Elements.{All-contains, All-from_recursion, recursion_from_All, Contains-append_left, Contains-append_right}
use Rattle.ldm_model.specs.declared.event.Event.TheVariants.{Reserve, Fill, Commit}
use Rattle.ldm_model.specs.declared.event.Reply.{Reply}
use Rattle.ldm_model.specs.declared.event.Reply.TheVariants.{Reserved}
use Rattle.ldm_model.specs.declared.event.Entry.{Entry}
use Rattle.ldm_model.specs.Product.{Product}
use Rattle.ldm_intake.specs.Course.{entry_by}
use Rattle.ldm_upstream.specs.Blocks.{blocks, count_blocks, cut}
use Rattle.ldm_upstream.specs.Feeding.{begun}
use Rattle.ldm_between_ends.specs.Handed.{Way, Whole, Declined, InBlocks, Announced, Handed, handed}
use Rattle.ldm_between_ends.specs.Passing.{Passing, IsSound, IsPassing, PassesFirst, moments_of}
use Rattle.ldm_between_ends.specs.Takings.{Fills, TakesBlocks, TakesBy, TakesProduct, Takings}
use Rattle.ldm_between_ends.proofs.Queueing.{HasSize, sizes-handed}
use Rattle.ldm_between_ends.specs.Blocks.{Has, CameInBlocks, CameOrDeclined}
use Rattle.ldm_between_ends.proofs.Handing.{handed-all}

-- ---- the calls for one product among those for all

contains-head : {X : Type 0} (x y : X) (xs : List X) → Contains (x ∷ xs) y → (x ≡ y) ⊎ Contains xs y
contains-head {X} x y xs there = by_index there.0 there.1 there.2
  where
    by_index : (k : ℕ) → k < length (x ∷ xs) → slice_index_or (x ∷ xs) k y ≡ y → (x ≡ y) ⊎ Contains xs y
    by_index zero lt same = inl same
    by_index (suc k) lt same = inr (k, omega arith, same)

has-behind : (Kind : List Entry → Type 0) (first second made : List Entry) → made ≡ first ++ second → Has Kind second → Has Kind made
has-behind Kind first second made all has = record {
  front = first ++ has.front;
  those = has.those;
  behind = has.behind;
  are = all ∙ ap (λ (es : List Entry). first ++ es) has.are ∙ sym (append_assoc first has.front (has.those ++ has.behind));
  kind = has.kind;
}

has-before : (Kind : List Entry → Type 0) (first second made : List Entry) → made ≡ first ++ second → Has Kind first → Has Kind made
has-before Kind first second made all has = record {
  front = has.front;
  those = has.those;
  behind = has.behind ++ second;
  are = all ∙ ap (λ (es : List Entry). es ++ second) has.are ∙ append_assoc has.front (has.those ++ has.behind) second
      ∙ ap (λ (es : List Entry). has.front ++ es) (append_assoc has.those has.behind second);
  kind = has.kind;
}

has-kind : (Kind Other : List Entry → Type 0) (made : List Entry) → ((those : List Entry) → Kind those → Other those) → Has Kind made → Has Other made
has-kind Kind Other made to has = record { front = has.front; those = has.those; behind = has.behind; are = has.are; kind = to has.those has.kind }

takings-has : (actor : ℕ) (moments : List ℕ) (products : List Handed) (made : List Entry) → Takings actor moments products made → (product : Handed)
    → Contains products product → Has (TakesProduct actor moments product) made
takings-has actor moments [] made t product there = absurd (omega (arith, there.1))
takings-has actor moments (one ∷ products) made t product there = elim (contains-head one product products there) [
  | inl same ↦ record {
    front = [];
    those = t.first;
    behind = t.second;
    are = t.all;
    kind = subst (λ (h : Handed). TakesProduct actor moments h t.first) same t.is_first;
  }
  | inr later ↦ has-behind (TakesProduct actor moments product) t.first t.second made t.all
      (takings-has actor moments products t.second t.is_second product later)
]

-- ---- the last block

-- a list that is not empty has a last element
record Last (X : Type 0) (xs : List X) : Type 0 where
  pub others : List X
  pub last : X
  pub are : xs ≡ others ++ last ∷ []

last-of : {X : Type 0} (x : X) (xs : List X) → Last X (x ∷ xs)
last-of x [] = record { others = []; last = x; are = refl }
last-of {X} x (y ∷ xs) =
    let more = last-of y xs in
    record { others = x ∷ more.others; last = more.last; are = ap (λ (ys : List X). x ∷ ys) more.are }

last-block : (body : List ℕ) → 0 < length body → Last (List ℕ) (blocks body)
last-block body some = by_count (count_blocks (length body)) refl
  where
    by_count : (count : ℕ) → count_blocks (length body) ≡ count → Last (List ℕ) (cut count body)
    by_count zero none = absurd (omega (arith, none))
    by_count (suc count) is = last-of _ _

fills-last : (actor r : ℕ) (others : List (List ℕ)) (last : List ℕ) (made : List Entry) → Fills actor r (others ++ last ∷ []) made
    → (reply : Reply) × Contains made (entry_by actor (Fill r last) reply)
fills-last actor r [] last [] filled = absurd filled
fills-last actor r [] last (entry ∷ made) filled = (entry.reply, (0, omega arith, filled.0))
fills-last actor r (block ∷ others) last [] filled = absurd filled
fills-last actor r (block ∷ others) last (entry ∷ made) filled =
    let more = fills-last actor r others last made filled.1 in
    (more.0, (suc more.1.0, omega (arith, more.1.1), more.1.2))

came-in-blocks : (actor : ℕ) (moments : List ℕ) (product : Product) → 0 < length product.body → (made : List Entry) → TakesBlocks actor moments product made
    → CameInBlocks actor moments product made
came-in-blocks actor moments product some made t =
    let the = last-block product.body some in
    let came = fills-last actor t.r the.others the.last t.fills (subst (λ (bs : List (List ℕ)). Fills actor t.r bs t.fills) the.are t.filled) in
    let its = entry_by actor (Fill t.r the.last) came.0 in
    let reserving = entry_by actor (Reserve product.info) (Reserved t.r t.evicted) in
    let committing = entry_by actor (Commit t.r t.now) t.reply ∷ [] in
    record {
      takes = t;
      others = the.others;
      last = the.last;
      blocks_are = the.are;
      reply = came.0;
      last_came = subst (λ (es : List Entry). Contains es its) (sym t.is)
          (Contains-append_right (reserving ∷ []) (t.fills ++ committing) its (Contains-append_left t.fills committing its came.1));
    }

-- ---- of a product that is larger than what is to come whole

by-way : (way : Way) (actor max : ℕ) (moments : List ℕ) (product : Product) (made : List Entry) → HasSize max way product.info.size → max < product.info.size
    → 0 < length product.body → Has (TakesBy way actor moments product) made
    → Has (CameInBlocks actor moments product) made ⊎ Has (TakesBy Declined actor moments product) made
by-way Whole actor max moments product made small large some has = absurd (omega arith)
by-way Declined actor max moments product made size large some has = inr has
by-way InBlocks actor max moments product made size large some has =
    inl (has-kind (TakesBlocks actor moments product) (CameInBlocks actor moments product) made (came-in-blocks actor moments product some) has)
by-way Announced actor max moments product made size large some has = inr has

pub came-or-declined : (p : Passing) → IsPassing p → (passes : PassesFirst p) → (product : Handed) → Contains passes.done product
    → p.asked.max_hereis < product.given.product.info.size → 0 < product.given.product.info.size → CameOrDeclined p product.given.product
came-or-declined p passing passes product there large some =
    let is = passing.granted.is in
    let moments = moments_of p.pieces in
    let among : Contains (handed p.feeding) product =
    subst (λ (hs : List Handed). Contains hs product) passes.all (Contains-append_left passes.done passes.left product there) in
    let sizes = All-from_recursion (λ (h : Handed). HasSize p.asked.max_hereis h.way h.given.product.info.size) (handed p.feeding)
    (sizes-handed p.asked p.feeding.turns (begun p.feeding) p.feeding.last is.turns is.last) in
    let sound = All-from_recursion (λ (h : Handed). IsSound h.given) (handed p.feeding)
    (handed-all IsSound p.feeding.turns p.feeding.last (recursion_from_All IsSound _ passing.granted.sound)) in
    let size = All-contains (λ (h : Handed). HasSize p.asked.max_hereis h.way h.given.product.info.size) (handed p.feeding) product sizes among in
    let its = All-contains (λ (h : Handed). IsSound h.given) (handed p.feeding) product sound among in
    let has = has-before (TakesProduct p.actor moments product) passes.made_is.first passes.made_is.second p.made passes.made_is.all
    (takings-has p.actor moments passes.done passes.made_is.first passes.made_is.is_first product there) in
    by-way product.way p.actor p.asked.max_hereis moments product.given.product p.made size large (omega (arith, its.sized, some)) has
