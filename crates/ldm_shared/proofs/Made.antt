-- What the calls of passes come to.
use Rattle.std.proofs.Common.{◌≡◌, ℕ, Bool, cond, List, [], ◌∷◌, ◌++◌, length, refl, ap, sym, subst, ◌∙◌, arith, append_assoc, append-nil, length-append, eq-eqb, ◌⊎◌, inl, inr}
use mathlib.Core.List.{IsPrefix}
use Rattle.ldm_model.specs.declared.event.Entry.{Entry}
use Rattle.ldm_model.specs.History.{IsLegal}
use Rattle.ldm_shared.specs.Own.{own, AreBelow, Adds}
use Rattle.ldm_shared.specs.Passes.{SharedView, PassView, new_pass, HasSeen, Makes, Calls, HasAllOf, IsLast}
use Rattle.ldm_shared.proofs.Histories.{prefix_self, prefix_trans, own-append, own-all, below-front}

pub adds_none : (actor : ℕ) (history : List Entry) → Adds actor history history []
adds_none actor history = record { begins = prefix_self history; own = sym (append-nil (own actor history)) }

pub adds_trans : (actor : ℕ) (a b c made more : List Entry) → Adds actor a b made → Adds actor b c more → Adds actor a c (made ++ more)
adds_trans actor a b c made more first second = record {
  begins = prefix_trans a b c first.begins second.begins;
  own = second.own ∙ (ap (λ (es : List Entry). es ++ more) first.own ∙ append_assoc (own actor a) made more);
}

own_entry : (actor : ℕ) (entry : Entry) → entry.actor ≡ actor → own actor (entry ∷ []) ≡ entry ∷ []
own_entry actor entry is = ap (λ (b : Bool). cond b (entry ∷ []) []) (eq-eqb entry.actor actor is)

-- others made calls, and then the actor one
pub adds_entry : (actor : ℕ) (old between new : List Entry) (entry : Entry) → Adds actor old between [] → entry.actor ≡ actor → new ≡ between ++ entry ∷ [] → Adds actor old new (entry ∷ [])
adds_entry actor old between new entry none is seen =
    let one : Adds actor between new (entry ∷ []) = record {
      begins = (entry ∷ [], sym seen);
      own = ap (own actor) seen ∙ (own-append actor between (entry ∷ []) ∙ ap (λ (es : List Entry). own actor between ++ es) (own_entry actor entry is));
    } in
    adds_trans actor old between new [] (entry ∷ []) none one

pub makes_none : (pass : PassView) → HasSeen pass → Makes pass pass []
makes_none pass has = record { same = refl; adds = adds_none pass.actor pass.seen; has_seen = has }

same_actor : (old new : PassView) (made : List Entry) → Makes old new made → new.actor ≡ old.actor
same_actor old new made makes = ap (λ (p : PassView). p.actor) makes.same

same_passes : (old new : PassView) (made : List Entry) → Makes old new made → new.passes ≡ old.passes
same_passes old new made makes = ap (λ (p : PassView). p.passes) makes.same

pub makes_trans : (a b c : PassView) (made more : List Entry) → Makes a b made → Makes b c more → Makes a c (made ++ more)
makes_trans a b c made more first second = record {
  same = second.same ∙ ap (λ (p : PassView). record p { seen = c.seen }) first.same;
  adds = adds_trans a.actor a.seen b.seen c.seen made more first.adds (subst (λ (n : ℕ). Adds n b.seen c.seen more) (same_actor a b made first) second.adds);
  has_seen = second.has_seen;
}

pub calls_none : (pass : PassView) → Calls pass pass []
calls_none pass = record { same = refl; adds = adds_none pass.actor pass.seen; has_seen = inl refl }

pub calls_some : (old new : PassView) (made : List Entry) → Makes old new made → Calls old new made
calls_some old new made makes = record { same = makes.same; adds = makes.adds; has_seen = inr makes.has_seen }

seen_then : (a b c : PassView) → (b ≡ a) ⊎ HasSeen b → (c ≡ b) ⊎ HasSeen c → (c ≡ a) ⊎ HasSeen c
seen_then a b c first (inr has) = inr has
seen_then a b c (inl same) (inl again) = inl (again ∙ same)
seen_then a b c (inr has) (inl again) = inr (subst HasSeen (sym again) has)

pub calls_trans : (a b c : PassView) (made more : List Entry) → Calls a b made → Calls b c more → Calls a c (made ++ more)
calls_trans a b c made more first second = record {
  same = second.same ∙ ap (λ (p : PassView). record p { seen = c.seen }) first.same;
  adds = adds_trans a.actor a.seen b.seen c.seen made more first.adds
      (subst (λ (n : ℕ). Adds n b.seen c.seen more) (ap (λ (p : PassView). p.actor) first.same) second.adds);
  has_seen = seen_then a b c first.has_seen second.has_seen;
}

pub makes_end : (old new last : PassView) (made : List Entry) → Makes old new made → HasAllOf last new → Adds old.actor old.seen last.seen made
makes_end old new last made makes has =
    subst (Adds old.actor old.seen last.seen) (append-nil made)
    (adds_trans old.actor old.seen new.seen last.seen made [] makes.adds (subst (λ (n : ℕ). Adds n new.seen last.seen []) (same_actor old new made makes) has))

pub has_seen_new : (shared : SharedView) (actor : ℕ) → HasSeen (new_pass shared actor)
has_seen_new shared actor = record { legal = tt; below = tt; few = omega arith }

-- the legal front of a history that a pass has seen
pub has_seen_front : (pass : PassView) (seen : List Entry) (front : IsPrefix seen pass.seen) → HasSeen pass → IsLegal pass.arena pass.slots seen → HasSeen (record pass { seen = seen })
has_seen_front pass seen front has legal = record {
  legal = legal;
  below = below-front pass.passes seen front.0 (subst (AreBelow pass.passes) (sym front.1) has.below);
  few = omega (arith, has.few, ap length front.1, length-append seen front.0);
}

-- with one pass

pub all_own : (pass : PassView) → HasSeen pass → pass.passes ≡ 1 → own 0 pass.seen ≡ pass.seen
all_own pass has one = own-all pass.seen (subst (λ (n : ℕ). AreBelow n pass.seen) one has.below)

pub goes_on_alone : (old new : PassView) (made : List Entry) → Makes old new made → old.passes ≡ 1 → old.actor ≡ 0 → new.seen ≡ old.seen ++ made
goes_on_alone old new made makes one first =
    let begins = makes.adds.begins in
    let below : AreBelow 1 new.seen = subst (λ (n : ℕ). AreBelow n new.seen) (same_passes old new made makes ∙ one) makes.has_seen.below in
    let before : own 0 old.seen ≡ old.seen = own-all old.seen (below-front 1 old.seen begins.0 (subst (AreBelow 1) (sym begins.1) below)) in
    let added : own 0 new.seen ≡ own 0 old.seen ++ made = subst (λ (n : ℕ). own n new.seen ≡ own n old.seen ++ made) first makes.adds.own in
    sym (own-all new.seen below) ∙ (added ∙ ap (λ (es : List Entry). es ++ made) before)

pub alone_since_opening : (shared : SharedView) (pass : PassView) (made : List Entry) → Makes (new_pass shared 0) pass made → shared.passes ≡ 1
    → (pass.seen ≡ made) × IsLegal shared.arena shared.slots made
alone_since_opening shared pass made makes one =
    let seen : pass.seen ≡ made = goes_on_alone (new_pass shared 0) pass made makes one refl in
    let arena : pass.arena ≡ shared.arena = ap (λ (p : PassView). p.arena) makes.same in
    let slots : pass.slots ≡ shared.slots = ap (λ (p : PassView). p.slots) makes.same in (
      seen,
      subst (IsLegal shared.arena shared.slots) seen
          (subst (λ (n : ℕ). IsLegal n shared.slots pass.seen) arena (subst (λ (n : ℕ). IsLegal pass.arena n pass.seen) slots makes.has_seen.legal)),
    )

pub alone_at_end : (shared : SharedView) (pass last : PassView) (made : List Entry) → Makes (new_pass shared 0) pass made → shared.passes ≡ 1 → IsLast shared last → HasAllOf last pass
    → last.seen ≡ made
alone_at_end shared pass last made makes one is_last has =
    let adds = makes_end (new_pass shared 0) pass last made makes has in
    let passes : last.passes ≡ 1 = ap (λ (p : PassView). p.passes) is_last.ended ∙ one in
    sym (all_own last is_last.has_seen passes) ∙ adds.own
