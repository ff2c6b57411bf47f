-- The table of entries as it is kept: that a place is free, what a search comes to, and what putting an entry in leaves.
use Rattle.std.proofs.Common.{◌≡◌, ℕ, zero, suc, ◌<◌, ◌^◌, inl, inr, true, false, eqb, List, [], ◌∷◌, length, map, get_or, set, replicate, slice_get, Option, Some, None, refl, sym, ap, ◌∙◌, subst, arith}
use Rattle.std.specs.List.{IsDistinct, list_any}
use Rattle.std.proofs.Math.ListN.{get_or-eq_default}
use Rattle.std.proofs.lemmas.Bool.{both_ways, cases_eq, cases_lt, cond-false, cond-true, eq-eqb, eqb-true, ne_eqb, or_cases}
use Rattle.std.proofs.lemmas.List.{get_or-map, get_or-replicate, get_or-set_other, get_or-set_same, length-map, length-replicate, length-set}
use Rattle.std.proofs.lemmas.Map.Keys.{IsDistinct-from_apart}
use Rattle.std.proofs.lemmas.Map.Steps.{length-le_from_distinct_below}
use Rattle.std.proofs.lemmas.Option.{slice_get-get_or, slice_get_within}
use Rattle.ldm_sigindex.specs.declared.entries.Entry.{Entry}
use Rattle.ldm_sigindex.specs.declared.entries.TheConstants.{END}
use Rattle.ldm_sigindex.specs.Entries.{HasSignature, IsEntry, IsFirstFree, IsKept, IsOnWay, entry_at, free, free_of, home_of, mark_of, slot_at}
use Rattle.ldm_sigindex.specs.Index.{Table, slot_of}
use Rattle.ldm_sigindex.proofs.Round.{either_on_way}
use Rattle.ldm_sigindex.proofs.Tables.{found, get-set_other, get-set_same, none_stands, not_found, one_to_one-none, one_to_one-put, was_put}

-- ---- a place is free

pub free_is_free : (entries : List Entry) → slot_at entries (free_of entries) ≡ END
free_is_free [] = refl
free_is_free (entry ∷ entries) =
    elim (cases_eq entry.slot END) [
      | inl ended ↦ ap (slot_at (entry ∷ entries)) (cond-true _ 0 (suc (free_of entries)) (eq-eqb entry.slot END ended)) ∙ ended
      | inr taken ↦ ap (slot_at (entry ∷ entries)) (cond-false _ 0 (suc (free_of entries)) (ne_eqb entry.slot END taken)) ∙ free_is_free entries
    ]

taken_before_free : (entries : List Entry) (place : ℕ) → place < free_of entries → slot_at entries place ≡ END → ⊥
taken_before_free [] place lt ended = omega arith
taken_before_free (entry ∷ entries) place lt ended =
    elim (cases_eq entry.slot END) [
      | inl here ↦ let first = cond-true _ 0 (suc (free_of entries)) (eq-eqb entry.slot END here) in omega (arith, first)
      | inr taken ↦
          let later = cond-false _ 0 (suc (free_of entries)) (ne_eqb entry.slot END taken) in
          elim place as (λ (p : ℕ). p < free_of (entry ∷ entries) → slot_at (entry ∷ entries) p ≡ END → ⊥) [
            | zero ↦ λ _ here. taken here
            | suc p ↦ λ lt there. taken_before_free entries p (omega (arith, later)) there
          ] lt ended
    ]

pub inside : (entries : List Entry) (place : ℕ) → (slot_at entries place ≡ END → ⊥) → place < length entries
inside entries place taken =
    elim (cases_lt place (length entries)) [
      | inl lt ↦ lt
      | inr ge ↦ absurd (taken (ap (λ (entry : Entry). entry.slot) (get_or-eq_default entries free {n = place} ge)))
    ]

-- an element that a list has stands somewhere in it
stands : (numbers : List ℕ) (number d : ℕ) → list_any (eqb number) numbers ≡ true → (place : ℕ) × ((place < length numbers) × (get_or numbers place d ≡ number))
stands [] number d has = absurd (both_ways false refl has)
stands (one ∷ rest) number d has =
    elim (or_cases (eqb number one) (list_any (eqb number) rest) has) [
      | inl here ↦ (0, (omega arith, sym (eqb-true number one here)))
      | inr there ↦ let at = stands rest number d there in (suc at.0, (omega (arith, at.1.0), at.1.1))
    ]

module _ (key : ℕ) (entries : List Entry) (table : Table) (kept : IsKept key entries table) where
  pub slot_inside : (place : ℕ) → (slot_at entries place ≡ END → ⊥) → slot_at entries place < length table
  slot_inside place taken = let has = kept.told place taken in slice_get_within table (slot_at entries place) (Some has.signature) has.told.held

  pub has_free : free_of entries < length entries
  has_free =
      elim (cases_lt (free_of entries) (length entries)) [
        | inl lt ↦ lt
        | inr ge ↦
            let slots = map (λ (entry : Entry). entry.slot) entries in
            let len : length slots ≡ length entries = length-map entries (λ (entry : Entry). entry.slot) in
            let taken : (place : ℕ) → place < length entries → slot_at entries place ≡ END → ⊥ = λ place lt ended. taken_before_free entries place (omega arith) ended in
            let read : (place d : ℕ) → place < length entries → get_or slots place d ≡ slot_at entries place = λ place d lt. get_or-map (λ (entry : Entry). entry.slot) entries place free d lt in
            let distinct : IsDistinct eqb slots =
            IsDistinct-from_apart eqb slots (λ i j d lt inside.
            ne_eqb (get_or slots i d) (get_or slots j d) (λ same.
            absurd (omega (arith, kept.once j i (taken j (omega arith)) (sym (read i d (omega arith)) ∙ same ∙ read j d (omega arith)))))) in
            let below : (q : ℕ) → list_any (eqb q) slots ≡ true → q < length table =
            λ q has. let at = stands slots q 0 has in
            let here : slot_at entries at.0 ≡ q = sym (read at.0 0 (omega (arith, at.1.0))) ∙ at.1.1 in
            omega (arith, here, slot_inside at.0 (taken at.0 (omega (arith, at.1.0)))) in
            absurd (omega (arith, kept.roomy, length-le_from_distinct_below slots (length table) distinct below))
      ]

  -- ---- what a search comes to

  pub entry_found : (entry : Entry) (signature : List ℕ) → IsEntry key entry table signature → slot_of table signature ≡ Some entry.slot
  entry_found entry signature is = found table signature entry.slot kept.one_to_one is.held

  -- the entry of a slot is that of its signature
  pub entry_is : (place slot : ℕ) (signature : List ℕ) → slice_get table slot ≡ Some (Some signature) → slot_at entries place ≡ slot →
      (slot_at entries place ≡ END → ⊥) × IsEntry key (entry_at entries place) table signature
  entry_is place slot signature held at =
      let lt = slice_get_within table slot (Some signature) held in
      let taken : slot_at entries place ≡ END → ⊥ = λ ended. absurd (omega (arith, at, ended, lt, kept.within)) in
      let has = kept.told place taken in
      let same : has.signature ≡ signature = let e = sym has.told.held ∙ ap (slice_get table) at ∙ held in cc in
      (taken, subst (IsEntry key (entry_at entries place) table) same has.told)

  -- no slot has a signature, if no entry up to a free place is its
  pub nothing_found : (signature : List ℕ) (at : ℕ) → at < length entries → slot_at entries at ≡ END →
      ((place : ℕ) → place < length entries → IsOnWay (home_of (length entries) (mark_of key signature)) place at → IsEntry key (entry_at entries place) table signature → ⊥) →
      slot_of table signature ≡ None
  nothing_found signature at at_inside ended passed =
      not_found table signature (λ slot held.
      let lt : slot < length table =
      elim (cases_lt slot (length table)) [ inl lt ↦ lt | inr ge ↦ absurd (let none = get_or-eq_default table None {n = slot} ge in cc) ] in
      let held' : slice_get table slot ≡ Some (Some signature) = slice_get-get_or table slot None lt ∙ ap (λ h. Some h) held in
      let place = kept.listed slot signature held' in
      let is = entry_is place.place slot signature held' place.at in
      let place_inside = inside entries place.place is.0 in
      let home : home_of (length entries) (entry_at entries place.place).mark ≡ home_of (length entries) (mark_of key signature) = ap (home_of (length entries)) is.1.mark in
      elim (either_on_way (home_of (length entries) (mark_of key signature)) place.place at (λ same. is.0 (ap (slot_at entries) same ∙ ended))) [
        | inl before ↦ passed place.place place_inside before is.1
        | inr behind ↦ kept.reached place.place at is.0 at_inside (subst (λ h. IsOnWay h at place.place) (sym home) behind) ended
      ])

-- ---- an entry is put in

module _ (key : ℕ) (entries : List Entry) (table : Table) (kept : IsKept key entries table) (signature : List ℕ) (slot place : ℕ) (absent : slot_of table signature ≡ None)
    (empty : slice_get table slot ≡ Some None) (first : IsFirstFree entries (home_of (length entries) (mark_of key signature)) place) where
  abbrev entry : Entry
  entry = record { mark = mark_of key signature; slot = slot }

  abbrev entries' : List Entry
  entries' = set entries place entry

  abbrev table' : Table
  table' = set table slot (Some signature)

  slot_lt : slot < length table
  slot_lt = slice_get_within table slot None empty

  same : entry_at entries' place ≡ entry
  same = get_or-set_same entries place entry free first.inside

  other : (one : ℕ) → (one ≡ place → ⊥) → entry_at entries' one ≡ entry_at entries one
  other one apart = get_or-set_other entries place one entry free apart

  taken : slot_at entries' place ≡ END → ⊥
  taken ended = omega (arith, ended, slot_lt, kept.within, ap (λ (e : Entry). e.slot) same)

  -- what is taken was taken, or is the place
  stays : (one : ℕ) → (slot_at entries one ≡ END → ⊥) → slot_at entries' one ≡ END → ⊥
  stays one was ended =
      elim (cases_eq one place) [
        | inl here ↦ taken (ap (slot_at entries') (sym here) ∙ ended)
        | inr apart ↦ was (ap (λ (e : Entry). e.slot) (sym (other one apart)) ∙ ended)
      ]

  was : (one : ℕ) → (one ≡ place → ⊥) → (slot_at entries' one ≡ END → ⊥) → slot_at entries one ≡ END → ⊥
  was one apart taken ended = taken (ap (λ (e : Entry). e.slot) (other one apart) ∙ ended)

  -- no other entry is that of the slot
  not_its : (one : ℕ) → (slot_at entries one ≡ END → ⊥) → slot_at entries one ≡ slot → ⊥
  not_its one taken same = let has = kept.told one taken in let e = sym has.told.held ∙ ap (slice_get table) same ∙ empty in absurd cc

  is_its : IsEntry key entry table' signature
  is_its = record { held = get-set_same table slot (Some signature) slot_lt; mark = refl }

  has_signature : (one : ℕ) → (one ≡ place → ⊥) → (slot_at entries one ≡ END → ⊥) → HasSignature key (entry_at entries one) table'
  has_signature one apart taken =
      let has = kept.told one taken in
      record {
        signature = has.signature;
        told = record { held = get-set_other table slot (slot_at entries one) (Some signature) (not_its one taken) ∙ has.told.held; mark = has.told.mark };
      }

  len : length entries' ≡ length entries
  len = length-set entries place entry

  pub kept_put : IsKept key entries' table'
  kept_put = record {
    told = λ one taken'.
        elim (cases_eq one place) [
          | inl here ↦
              subst (λ (e : Entry). HasSignature key e table') (sym (ap (entry_at entries') here ∙ same)) (record { signature = signature; told = is_its })
          | inr apart ↦ subst (λ (e : Entry). HasSignature key e table') (sym (other one apart)) (has_signature one apart (was one apart taken'))
        ];
    listed = λ number held there.
        elim (was_put table slot number signature held there) [
          | inl its ↦ record { place = place; at = ap (λ (e : Entry). e.slot) same ∙ sym its.0 }
          | inr before ↦
              let old = kept.listed number held before in
              let is = entry_is key entries table kept old.place number held before old.at in
              let apart : old.place ≡ place → ⊥ = λ here. is.0 (ap (slot_at entries) here ∙ first.is_free) in
              record { place = old.place; at = ap (λ (e : Entry). e.slot) (other old.place apart) ∙ old.at }
        ];
    once = λ one two taken' equal.
        elim (cases_eq one place) [
          | inl here ↦ elim (cases_eq two place) [
            | inl here' ↦ here' ∙ sym here
            | inr apart' ↦
                let is_slot : slot_at entries two ≡ slot = ap (λ (e : Entry). e.slot) (sym (other two apart')) ∙ equal ∙ ap (slot_at entries') here ∙ ap (λ (e : Entry). e.slot) same in
                absurd (not_its two (λ ended. omega (arith, is_slot, ended, slot_lt, kept.within)) is_slot)
          ]
          | inr apart ↦ elim (cases_eq two place) [
            | inl here' ↦
                let is_slot : slot_at entries one ≡ slot = ap (λ (e : Entry). e.slot) (sym (other one apart)) ∙ sym equal ∙ ap (slot_at entries') here' ∙ ap (λ (e : Entry). e.slot) same in
                absurd (not_its one (was one apart taken') is_slot)
            | inr apart' ↦
                kept.once one two (was one apart taken') (ap (λ (e : Entry). e.slot) (sym (other two apart')) ∙ equal ∙ ap (λ (e : Entry). e.slot) (other one apart))
          ]
        ];
    reached = λ one before taken' lt on.
        elim (cases_eq one place) [
          | inl here ↦
              let home : home_of (length entries') (entry_at entries' one).mark ≡ home_of (length entries) (mark_of key signature) =
              ap (λ n. home_of n (entry_at entries' one).mark) len ∙ ap (λ (e : Entry). home_of (length entries) e.mark) (ap (entry_at entries') here ∙ same) in
              stays before (first.taken before (omega (arith, len, lt)) (subst (λ h. IsOnWay h before place) home (subst (IsOnWay (home_of (length entries') (entry_at entries' one).mark) before) here on)))
          | inr apart ↦
              let home : home_of (length entries') (entry_at entries' one).mark ≡ home_of (length entries) (entry_at entries one).mark =
              ap (λ n. home_of n (entry_at entries' one).mark) len ∙ ap (λ (e : Entry). home_of (length entries) e.mark) (other one apart) in
              stays before (kept.reached one before (was one apart taken') (omega (arith, len, lt)) (subst (λ h. IsOnWay h before one) home on))
        ];
    one_to_one = one_to_one-put table slot signature absent kept.one_to_one;
    within = omega (arith, length-set table slot (Some signature), kept.within);
    roomy = omega (arith, length-set table slot (Some signature), len, kept.roomy);
  }

-- ---- no entry is in

pub kept_empty : (key : ℕ) (places slots : ℕ) → slots < places → slots < 2 ^ 32 → IsKept key (replicate places free) (replicate slots None)
kept_empty key places slots roomy within =
    let each : (place : ℕ) → slot_at (replicate places free) place ≡ END =
    λ place. elim (cases_lt place places) [
      | inl lt ↦ ap (λ (e : Entry). e.slot) (get_or-replicate places place free free lt)
      | inr ge ↦ ap (λ (e : Entry). e.slot) (get_or-eq_default (replicate places free) free {n = place} (omega (arith, length-replicate places free)))
    ] in
    record {
      told = λ place taken. absurd (taken (each place));
      listed = λ slot signature held. absurd (none_stands slots slot signature held);
      once = λ place other taken same. absurd (taken (each place));
      reached = λ place before taken lt on. absurd (taken (each place));
      one_to_one = one_to_one-none slots;
      within = omega (arith, length-replicate {A = Option (List ℕ)} slots None);
      roomy = omega (arith, length-replicate {A = Option (List ℕ)} slots None, length-replicate places free);
    }
