-- What all workers together did.
use Rattle.std.proofs.Common.{◌≡◌, ℕ, zero, suc, ◌-◌, ◌<◌, List, [], ◌∷◌, length, map, reverse, get_or, Result, Ok, Err, refl, sym, ap, subst, ◌∙◌, arith}
use Rattle.std.specs.Prelude.{OnOk, OnErr}
use Rattle.std.specs.List.{All, range_with_len}
use Rattle.std.proofs.lemmas.List.{length-map, length-reverse, get_or-map, get_or-reverse}
use Rattle.std.proofs.lemmas.List.FromFn.{get_or-map-range_with_len}
use Rattle.ldm_shared.specs.Passes.{SharedView, PassView, IsPassOf, IsSamePass, HasAllOf, IsLast, AreAllOf, new_pass}
use Rattle.ldm_shared.proofs.CallerLemmas.{still_are_all}
use Rattle.ldm_shared.proofs.Unseen.{unseen_by_all}
use Rattle.ldm_shared.specs.declared.worker.Worker.{Worker}
use Rattle.ldm_shared.specs.Work.{AllBegin, AllWorked, Worked}
use Rattle.ldm_shared.specs.Workers.{Begins, Works}

-- the element of a place
element : {X : Type 0} (xs : List X) (i : ℕ) → i < length xs → (x : X) × ((d : X) → get_or xs i d ≡ x)
element [] i less = absurd (omega arith)
element (x ∷ xs) zero less = (x, λ d. refl)
element (x ∷ xs) (suc i) less = element xs i (omega arith)

-- what is taken from a worker
module _ {T : Type 0} where
  abbrev pub pass_of : Worker T → PassView
  pass_of worker = worker.pass

  abbrev pub own_of : Worker T → T
  own_of worker = worker.own

-- the workers of a queue, before and after, in the order of their actors
module _ {T : Type 0} (works : PassView → T → PassView → T → Type 0) (shared : SharedView) (olds news : List (Worker T))
    (passes : AreAllOf shared (map pass_of olds))
    (count : length news ≡ length olds) (each : (i : ℕ) (d : Worker T) → i < length olds → Works works (get_or olds i d) (get_or news i d)) where
  -- all passes come back
  pub come_back : AreAllOf shared (map pass_of news)
  come_back =
      still_are_all shared (map pass_of olds) (map pass_of news) passes
      (length-map news pass_of ∙ count ∙ sym (length-map olds pass_of))
      (λ i d less.
      let inside : i < length olds = omega (arith, length-map olds pass_of) in
      let old = element olds i inside in
      subst (λ (p : PassView). IsSamePass p (get_or (map pass_of news) i d)) (sym (get_or-map pass_of olds i old.0 d inside))
      (subst (λ (p : PassView). IsSamePass (get_or olds i old.0).pass p) (sym (get_or-map pass_of news i old.0 d (omega (arith, count))))
      ((each i old.0 inside).same)))

  -- each did its work
  pub all_worked : (last : PassView) → All (HasAllOf last) (map pass_of news) → AllWorked works last (map pass_of olds) (map own_of olds) (map own_of news)
  all_worked last all i p d less =
      let inside : i < length olds = omega (arith, length-map olds own_of) in
      let there : i < length news = omega (arith, count) in
      let old = element olds i inside in
      let w = old.0 in
      let did = each i w inside in
      rw (get_or-map own_of olds i w d inside, get_or-map own_of news i w d there, get_or-map pass_of olds i w p inside)
      (record {
        pass = (get_or news i w).pass;
        same = did.same;
        works = did.works;
        has_all = subst (HasAllOf last) (get_or-map pass_of news i w last there) (all i last (omega (arith, length-map news pass_of)));
      })

-- workers with their passes, and with what is their own, begin
pub all_begin : {T : Type 0} (begins : PassView → T → Type 0) (shared : SharedView) (passes : List PassView) (own : List T) (workers : List (Worker T))
    → AreAllOf shared passes → passes ≡ map pass_of (reverse workers) → own ≡ map own_of (reverse workers)
    → AllBegin begins passes own → All (Begins begins shared) workers
all_begin begins shared passes own workers all are owned may k d less =
    let at = length workers - 1 - k in
    let worker = get_or workers k d in
    let inside : at < length (reverse workers) = omega (arith, length-reverse workers) in
    let back : get_or (reverse workers) at d ≡ worker = get_or-reverse workers at d (omega arith) ∙ ap (λ (n : ℕ). get_or workers n d) (omega arith) in
    let is : get_or passes at d.pass ≡ worker.pass =
    ap (λ ps. get_or ps at d.pass) are ∙ get_or-map pass_of (reverse workers) at d d.pass inside ∙ ap pass_of back in
    let its : get_or own at d.own ≡ worker.own =
    ap (λ xs. get_or xs at d.own) owned ∙ get_or-map own_of (reverse workers) at d d.own inside ∙ ap own_of back in
    record {
      of = subst (IsPassOf shared) is (all.of at d.pass (omega (arith, inside, ap length are, length-map (reverse workers) pass_of)));
      begins =
          subst (begins worker.pass) its
          (subst (λ (v : PassView). begins v (get_or own at d.own)) is (may at d.pass d.own (omega (arith, inside, ap length owned, length-map (reverse workers) own_of))));
    }

-- each did its work, with a new pass
abbrev pub AllWorkedAnew : {T : Type 0} → (PassView → T → PassView → T → Type 0) → SharedView → PassView → List T → List T → Type 0
AllWorkedAnew works shared last own new_own =
    (i : ℕ) (d : _) → i < length own → Worked works last (new_pass shared i) (get_or own i d) (get_or new_own i d)

pub worked_anew : {T E : Type 0} (works : PassView → T → PassView → T → Type 0) (shared : SharedView) (last : PassView) (passes : List PassView) (own new_own : List T)
    (done : Result (Unit {0}) E) → passes ≡ map (new_pass shared) (range_with_len 0 shared.passes) → length own ≡ shared.passes
    → OnOk done (AllWorked works last passes own new_own) → OnOk done (AllWorkedAnew works shared last own new_own)
worked_anew works shared last passes own new_own (Ok done) are size worked = λ i d less.
    subst (λ (p : PassView). Worked works last p (get_or own i d) (get_or new_own i d))
    (ap (λ (ps : List PassView). get_or ps i last) are ∙ get_or-map-range_with_len (new_pass shared) 0 shared.passes i i last (omega (arith, less, size)) (omega arith))
    (worked i last d less)
worked_anew works shared last passes own new_own (Err error) are size worked = worked

-- where the passes were new and none began, the last one has seen nothing
pub unseen_anew : {E : Type 0} (shared : SharedView) (last : PassView) (passes : List PassView) (done : Result (Unit {0}) E)
    → passes ≡ map (new_pass shared) (range_with_len 0 shared.passes) → IsLast shared last → OnErr done (All (HasAllOf last) passes) → OnErr done (last.seen ≡ [])
unseen_anew shared last passes (Ok done) are is_last all = all
unseen_anew shared last passes (Err error) are is_last all = unseen_by_all shared passes last are is_last all

-- each may begin, with a new pass
pub begin_anew : {T : Type 0} (begins : PassView → T → Type 0) (shared : SharedView) (passes : List PassView) (own : List T)
    → passes ≡ map (new_pass shared) (range_with_len 0 shared.passes) → length own ≡ shared.passes
    → ((i : ℕ) (d : T) → i < length own → begins (new_pass shared i) (get_or own i d)) → AllBegin begins passes own
begin_anew begins shared passes own are size may i p d less =
    subst (λ (v : PassView). begins v (get_or own i d))
    (sym (ap (λ (ps : List PassView). get_or ps i p) are ∙ get_or-map-range_with_len (new_pass shared) 0 shared.passes i i p (omega (arith, size)) (omega arith)))
    (may i d less)
