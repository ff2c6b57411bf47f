-- Beginnings of one history, and the entries of one actor in them.
use Rattle.std.proofs.Common.{◌≡◌, ◌≢◌, ℕ, ◌<◌, ◌≤◌, ◌==◌, Bool, true, false, cond, List, [], ◌∷◌, ◌++◌, length, refl, ap, sym, ◌∙◌, arith, append_assoc, append-nil, length-append, eq-eqb, ne_eqb}
use Rattle.std.proofs.lemmas.List.{nil_from_length}
use Rattle.std.proofs.lemmas.List.Elements.{filter-append}
use mathlib.Core.List.{IsPrefix}
use Rattle.ldm_model.specs.declared.event.Entry.{Entry}
use Rattle.ldm_shared.specs.Own.{own, AreBelow}

module _ {A : Type 0} where
  pub prefix_self : (xs : List A) → IsPrefix xs xs
  prefix_self xs = ([], append-nil xs)

  pub prefix_trans : (xs ys zs : List A) → IsPrefix xs ys → IsPrefix ys zs → IsPrefix xs zs
  prefix_trans xs ys zs p q = (p.0 ++ q.0, sym (append_assoc xs p.0 q.0) ∙ (ap (λ w. w ++ q.0) p.1 ∙ q.1))

  pub prefix_more : (xs ys zs : List A) → IsPrefix xs ys → IsPrefix xs (ys ++ zs)
  prefix_more xs ys zs p = prefix_trans xs ys (ys ++ zs) p (zs, refl)

  -- of two beginnings of one list the shorter begins the longer
  pub prefix_shorter : (xs ys zs : List A) → IsPrefix xs zs → IsPrefix ys zs → length xs ≤ length ys → IsPrefix xs ys
  prefix_shorter [] ys zs p q le = (ys, refl)
  prefix_shorter (x ∷ xs) [] zs p q le = absurd (omega arith)
  prefix_shorter (x ∷ xs) (y ∷ ys) [] p q le = absurd (cc (p.1))
  prefix_shorter (x ∷ xs) (y ∷ ys) (z ∷ zs) p q le =
      let heads : x ≡ y = cc (p.1, q.1) in
      let rest = prefix_shorter xs ys zs (p.0, cc (p.1)) (q.0, cc (q.1)) (omega arith) in
      (rest.0, cc (heads, rest.1))

  pub none_behind : (xs ys : List A) → xs ++ ys ≡ xs → ys ≡ []
  none_behind xs ys e = nil_from_length ys (omega (arith, length-append xs ys, ap length e))

pub own-append : (actor : ℕ) (xs ys : List Entry) → own actor (xs ++ ys) ≡ own actor xs ++ own actor ys
own-append actor xs ys = filter-append (λ (entry : Entry). entry.actor == actor) xs ys

-- the entries behind a beginning that has all of an actor's are of other actors
pub own-behind : (actor : ℕ) (xs rest ys : List Entry) → xs ++ rest ≡ ys → own actor ys ≡ own actor xs → own actor rest ≡ []
own-behind actor xs rest ys e same = none_behind (own actor xs) (own actor rest) (sym (own-append actor xs rest) ∙ (ap (own actor) e ∙ same))

-- what begins with the entries that have all of an actor's has all of them too
pub own-between : (actor : ℕ) (xs ys zs : List Entry) → IsPrefix xs ys → IsPrefix ys zs → own actor zs ≡ own actor xs → own actor zs ≡ own actor ys
unfolding prefix_trans
own-between actor xs ys zs p q same =
    let whole = prefix_trans xs ys zs p q in
    let none : own actor (p.0 ++ q.0) ≡ [] = own-behind actor xs (p.0 ++ q.0) zs whole.1 same in
    let parts : own actor p.0 ++ own actor q.0 ≡ [] = sym (own-append actor p.0 q.0) ∙ none in
    let last : own actor q.0 ≡ [] = nil_from_length (own actor q.0) (omega (arith, length-append (own actor p.0) (own actor q.0), ap length parts)) in
    sym (ap (own actor) q.1) ∙ (own-append actor ys q.0 ∙ (ap (λ w. own actor ys ++ w) last ∙ append-nil (own actor ys)))

own_one : (b : Bool) (entry : Entry) → b ≡ false → cond b (entry ∷ []) [] ≡ []
own_one true entry e = absurd cc
own_one false entry e = refl

-- an entry of another actor
pub own-other : (actor : ℕ) (xs : List Entry) (entry : Entry) → entry.actor ≢ actor → own actor (xs ++ entry ∷ []) ≡ own actor xs
own-other actor xs entry other =
    own-append actor xs (entry ∷ []) ∙ (ap (λ w. own actor xs ++ w) (own_one (entry.actor == actor) entry (ne_eqb entry.actor actor other)) ∙ append-nil (own actor xs))

own_some : (b : Bool) (entry : Entry) (entries : List Entry) → b ≡ true → cond b (entry ∷ entries) entries ≡ entry ∷ entries
own_some true entry entries e = refl
own_some false entry entries e = absurd cc

-- entries of actors below a number, of which none is of an actor below it
pub no_entry : (passes : ℕ) (entries : List Entry) → AreBelow passes entries → ((actor : ℕ) → actor < passes → own actor entries ≡ []) → entries ≡ []
no_entry passes [] below none = refl
no_entry passes (entry ∷ entries) below none =
    let e = none entry.actor below.0 in
    let some = own_some (entry.actor == entry.actor) entry (own entry.actor entries) (eq-eqb entry.actor entry.actor refl) in
    absurd (cc (some, e))

pub below-append : (passes : ℕ) (xs ys : List Entry) → AreBelow passes xs → AreBelow passes ys → AreBelow passes (xs ++ ys)
below-append passes [] ys p q = q
below-append passes (x ∷ xs) ys p q = (p.0, below-append passes xs ys p.1 q)

pub below-rest : (passes : ℕ) (xs ys : List Entry) → AreBelow passes (xs ++ ys) → AreBelow passes ys
below-rest passes [] ys p = p
below-rest passes (x ∷ xs) ys p = below-rest passes xs ys p.1

pub below-front : (passes : ℕ) (xs ys : List Entry) → AreBelow passes (xs ++ ys) → AreBelow passes xs
below-front passes [] ys p = tt
below-front passes (x ∷ xs) ys p = (p.0, below-front passes xs ys p.1)

-- where no other actor calls
pub own-all : (entries : List Entry) → AreBelow 1 entries → own 0 entries ≡ entries
own-all [] below = refl
own-all (entry ∷ entries) below =
    own_some (entry.actor == 0) entry (own 0 entries) (eq-eqb entry.actor 0 (omega (arith, below.0))) ∙ ap (λ (es : List Entry). entry ∷ es) (own-all entries below.1)
