-- Calls of a cursor, one after another, and the rows of products.
use Rattle.std.proofs.Common.{◌≡◌, ◌∙◌, ℕ, ◌+◌, List, [], ◌∷◌, ◌++◌, length, length-append, inl, inr, ◌⊎◌, refl, sym, ap, subst}
use Rattle.std.proofs.lemmas.List.Concat.{flat_map-append}
use Rattle.ldm_model.specs.declared.event.Event.TheVariants as event
use Rattle.ldm_model.specs.declared.event.Reply.{Reply}
use Rattle.ldm_model.specs.declared.event.Entry.{Entry}
use Rattle.ldm_model.specs.History.{after, IsLegal}
use Rattle.ldm_model.specs.Product.{Product}
use Rattle.ldm_shared.specs.Passes.{PassView, Calls, FindsWorn, Grows, HasSeen, IsSamePass}
use Rattle.ldm_shared.proofs.Made.{calls_none, calls_some, calls_trans}
use Rattle.ldm_shared.specs.Staying.{HasRow}
use Rattle.ldm_shared.specs.Givens.{Given, Turn, count_of, products_of, turn_product}
use Rattle.ldm_shared.specs.Uses.{AreRows, AreUses, Uses, answer_by, step_answers}

pub uses_none : (k : ℕ) (pass : PassView) → Uses k pass pass []
uses_none k pass = record { called = []; calls = calls_none pass; are_uses = tt; answered = refl }

are_uses-append : (k : ℕ) (first second : List Entry) → AreUses k first → AreUses k second → AreUses k (first ++ second)
are_uses-append k [] second one two = two
are_uses-append k (entry ∷ first) second one two = (one.0, are_uses-append k first second one.1 two)

pub uses_then : (k : ℕ) (a b c : PassView) (first second : List Reply) → Uses k a b first → Uses k b c second → Uses k a c (first ++ second)
uses_then k a b c first second one two = record {
  called = one.called ++ two.called;
  calls = calls_trans a b c one.called two.called one.calls two.calls;
  are_uses = are_uses-append k one.called two.called one.are_uses two.are_uses;
  answered =
      flat_map-append (λ (entry : Entry). answer_by entry.event entry.reply) one.called two.called
      ∙ (ap (λ (x : List Reply). x ++ step_answers two.called) one.answered ∙ ap (λ (x : List Reply). first ++ x) two.answered);
}

pub uses_step : (k : ℕ) (old new : PassView) (answer : Reply) → Grows old new (event.Step k) answer → Uses k old new (answer ∷ [])
uses_step k old new answer grows = record { called = _; calls = calls_some old new _ grows.makes; are_uses = (refl, tt); answered = refl }

pub uses_read : (k offset count : ℕ) (old new : PassView) (answer : Reply) → Grows old new (event.Read k offset count) answer → Uses k old new []
uses_read k offset count old new answer grows = record { called = _; calls = calls_some old new _ grows.makes; are_uses = (refl, tt); answered = refl }

pub uses_release : (k : ℕ) (old new : PassView) (answer : Reply) → Grows old new (event.Release k) answer → Uses k old new []
uses_release k old new answer grows = record { called = _; calls = calls_some old new _ grows.makes; are_uses = (refl, tt); answered = refl }

pub uses_worn : (k turns : ℕ) (old new : PassView) → FindsWorn old new turns → Uses k old new []
uses_worn k turns old new worn = record { called = []; calls = calls_some old new [] worn.makes; are_uses = tt; answered = refl }

-- ---- how many products

pub count_of-append : (first second : List Turn) → count_of (first ++ second) ≡ count_of first + count_of second
count_of-append first second = ap length (flat_map-append turn_product first second) ∙ length-append (products_of first) (products_of second)

-- ---- rows stay

-- a product keeps its number, metadata, body and insertion time
abbrev pub RowsStay : Type 0
RowsStay =
    (arena slots : ℕ) (front behind : List Entry) → IsLegal arena slots (front ++ behind) → (n : ℕ) (product : Product) (time : ℕ)
    → HasRow n product time (after arena slots front) → HasRow n product time (after arena slots (front ++ behind))

abbrev pub HasRowIn : PassView → ℕ → Product → ℕ → Type 0
HasRowIn pass n product time = HasRow n product time (after pass.arena pass.slots pass.seen)

pub row_stays : (law : RowsStay) (old new : PassView) (made : List Entry) (n : ℕ) (product : Product) (time : ℕ) → Calls old new made → HasRowIn old n product time
    → HasRowIn new n product time
row_stays law old new made n product time calls row = by_seen calls.has_seen
  where
    by_seen : (new ≡ old) ⊎ HasSeen new → HasRowIn new n product time
    by_seen (inl same) = subst (λ (pass : PassView). HasRowIn pass n product time) (sym same) row
    by_seen (inr has_seen) =
        let begins = calls.adds.begins in
        let arena : new.arena ≡ old.arena = ap (λ (pass : PassView). pass.arena) calls.same in
        let slots : new.slots ≡ old.slots = ap (λ (pass : PassView). pass.slots) calls.same in
        let legal : IsLegal old.arena old.slots (old.seen ++ begins.0) =
        subst (λ (a : ℕ). IsLegal a old.slots (old.seen ++ begins.0)) arena
        (subst (λ (s : ℕ). IsLegal new.arena s (old.seen ++ begins.0)) slots (subst (λ (es : List Entry). IsLegal new.arena new.slots es) (sym begins.1) has_seen.legal)) in
        let there : HasRow n product time (after old.arena old.slots new.seen) =
        subst (λ (es : List Entry). HasRow n product time (after old.arena old.slots es)) begins.1 (law old.arena old.slots old.seen begins.0 legal n product time row) in
        subst (λ (a : ℕ). HasRow n product time (after a new.slots new.seen)) (sym arena)
        (subst (λ (s : ℕ). HasRow n product time (after old.arena s new.seen)) (sym slots) there)

pub rows_stay : (law : RowsStay) (old new : PassView) (made : List Entry) (givens : List Given) → Calls old new made → AreRows old givens → AreRows new givens
rows_stay law old new made [] calls are = tt
rows_stay law old new made (given ∷ givens) calls are =
    (row_stays law old new made given.n given.product given.time calls are.0, rows_stay law old new made givens calls are.1)

rows-append : (pass : PassView) (first second : List Given) → AreRows pass first → AreRows pass second → AreRows pass (first ++ second)
rows-append pass [] second one two = two
rows-append pass (given ∷ first) second one two = (one.0, rows-append pass first second one.1 two)

pub rows_then : (law : RowsStay) (old new : PassView) (made : List Entry) (first second : List Turn) → Calls old new made → AreRows old (products_of first)
    → AreRows new (products_of second) → AreRows new (products_of (first ++ second))
rows_then law old new made first second calls one two =
    subst (AreRows new) (sym (flat_map-append turn_product first second))
    (rows-append new (products_of first) (products_of second) (rows_stay law old new made (products_of first) calls one) two)

pub same_then : (old mid new : PassView) → IsSamePass old mid → IsSamePass mid new → IsSamePass old new
same_then old mid new first second = second ∙ ap (λ (pass : PassView). record pass { seen = new.seen }) first
