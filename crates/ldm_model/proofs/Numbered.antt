-- Products are numbered in the order of their admission: each by how many were admitted before it.
use Rattle.std.proofs.Common.{◌≡◌, ◌∙◌, ℕ, ◌+◌, Bool, true, false, cond, List, [], ◌∷◌, ◌++◌, length, take, filter, Option, Some, None, refl, sym, ap, length-append, arith}
use Rattle.std.specs.Prelude.{slice_get}
use Rattle.std.proofs.lemmas.Bool.{false≢true}
use Rattle.ldm_model.specs.declared.event.Event.{Event}
use Rattle.ldm_model.specs.declared.event.Event.TheVariants as event
use Rattle.ldm_model.specs.declared.event.Reply.{Reply}
use Rattle.ldm_model.specs.declared.event.Reply.TheVariants as reply
use Rattle.ldm_model.specs.declared.event.Entry.{Entry}
use Rattle.ldm_types.specs.Info.{Metadata}
use Rattle.ldm_model.specs.Product.{Product}
use Rattle.ldm_model.specs.State.{State, Row, empty, end_of}
use Rattle.ldm_model.specs.Outcome.{Outcome, unchanged}
use Rattle.ldm_model.specs.Evict.{unheld, evict, evict_row, evict_all}
use Rattle.ldm_model.specs.Insert.{insert, after_evicting}
use Rattle.ldm_model.specs.Reserve.{reserve}
use Rattle.ldm_model.specs.Fill.{fill, discard}
use Rattle.ldm_model.specs.Commit.{commit}
use Rattle.ldm_model.specs.Next.{next}
use Rattle.ldm_model.specs.History.{after, after_entries, next_entry, IsLegalFrom, IsLegal, is_admission, count_admissions}
use Rattle.ldm_model.proofs.Appended.{IsLegalFrom-append}
use Rattle.ldm_model.proofs.Rows.{length-without_place}
use Rattle.ldm_model.proofs.Cases.{by_quiet, by_insert, by_expire}
use Rattle.ldm_model.proofs.ReservationCases.{by_reserve, by_fill, by_discard, by_commit}

end-evict : (s : State) (m : ℕ) → end_of (evict s m) ≡ end_of s
end-evict s m = by_row (slice_get s.rows m)
  where
    by_row : (row : Option Row) → end_of (evict_row s m row) ≡ end_of s
    by_row None = refl
    by_row (Some row) = length-without_place s.rows m

end-evict_all : (ms : List ℕ) (s : State) → end_of (evict_all s ms) ≡ end_of s
end-evict_all [] s = refl
end-evict_all (m ∷ ms) s = end-evict_all ms (evict s m) ∙ end-evict s m

-- the end grows by one exactly where a product is admitted, and the product has the number of the old end
record Numbers (s : State) (outcome : Outcome) : Type 0 where
  end : end_of outcome.state ≡ end_of s + cond (is_admission outcome.reply) 1 0
  number : (n time evicted : ℕ) → outcome.reply ≡ reply.Admitted n time evicted → n ≡ end_of s
  committed : (n time : ℕ) → outcome.reply ≡ reply.Committed n time → n ≡ end_of s

module _ (s : State) where
  -- another answer, which leaves the end
  other : (outcome : Outcome) → is_admission outcome.reply ≡ false → end_of outcome.state ≡ end_of s → Numbers s outcome
  other outcome none_admitted same = record {
    end = let none : end_of s ≡ end_of s + 0 = omega arith in same ∙ none ∙ ap (λ (b : Bool). end_of s + cond b 1 0) (sym none_admitted);
    number = λ n time evicted e. absurd (false≢true (sym none_admitted ∙ ap is_admission e));
    committed = λ n time e. absurd (false≢true (sym none_admitted ∙ ap is_admission e));
  }

  at_insert : (now : ℕ) (product : Product) → Numbers s (insert s now product)
  at_insert now product = by_insert s (Numbers s) now product (λ r none_admitted. other (unchanged s r) none_admitted refl) (λ j e.
      let kept : end_of (after_evicting s j) ≡ end_of s = end-evict_all (take j (unheld s)) s in
      record {
        end = length-append (after_evicting s j).rows _ ∙ ap (λ (n : ℕ). n + 1) kept;
        number = λ n time evicted e. let same : end_of (after_evicting s j) ≡ n = cc in sym same ∙ kept;
        committed = λ n time e. absurd cc;
      })

  at_reserve : (actor : ℕ) (info : Metadata) → Numbers s (reserve s actor info)
  at_reserve actor info = by_reserve s (Numbers s) actor info (record {
    too_big = other _ refl refl;
    duplicate = λ n. other _ refl refl;
    all_reserved = other _ refl refl;
    locked = λ held. other _ refl refl;
    reserved = λ r j place e. other _ refl (end-evict_all (take j (unheld s)) s);
  })

  at_fill : (actor r : ℕ) (bytes : List ℕ) → Numbers s (fill s actor r bytes)
  at_fill actor r bytes = by_fill s (Numbers s) actor r bytes (record {
    no_reservation = λ e. other _ refl refl;
    overfill = λ reservation e. other _ refl refl;
    filled = λ reservation e fits. other _ refl refl;
  })

  at_discard : (actor r : ℕ) → Numbers s (discard s actor r)
  at_discard actor r = by_discard s (Numbers s) actor r (λ e. other _ refl refl) (λ reservation e. other _ refl refl)

  at_commit : (actor r now : ℕ) → Numbers s (commit s actor r now)
  at_commit actor r now = by_commit s (Numbers s) actor r now (record {
    no_reservation = λ e. other _ refl refl;
    unfilled = λ reservation e. other _ refl refl;
    duplicate = λ reservation e n. other _ refl refl;
    time_end = λ reservation e. other _ refl refl;
    committed = λ reservation e whole. record {
      end = length-append s.rows _;
      number = λ n time evicted e. absurd cc;
      committed = λ n time e. let same : end_of s ≡ n = cc in sym same;
    };
  })

  Numbers-next : (actor : ℕ) (e : Event) → Numbers s (next s actor e)
  Numbers-next actor (event.Insert now info body) = at_insert now (record { info = info; body = body })
  Numbers-next actor event.Expire = by_expire s (Numbers s) (other (unchanged s reply.Nothing) refl refl)
      (λ n ns e. other (record { reply = reply.Expired n; state = evict s n }) refl (end-evict s n))
  Numbers-next actor (event.Reserve info) = at_reserve actor info
  Numbers-next actor (event.Fill r bytes) = at_fill actor r bytes
  Numbers-next actor (event.Commit r now) = at_commit actor r now
  Numbers-next actor (event.Discard r) = at_discard actor r
  Numbers-next actor e = by_quiet s (Numbers s) (λ r cursors none_admitted. other (record { reply = r; state = record s { cursors = cursors } }) none_admitted refl) actor e refl

end-entries : (entries : List Entry) (s : State) → IsLegalFrom s entries → end_of (after_entries s entries) ≡ end_of s + count_admissions entries
end-entries [] s legal = omega arith
end-entries (entry ∷ entries) s legal =
    let grown = ap (λ (r : Reply). end_of s + cond (is_admission r) 1 0) (sym legal.0.reply) in
    let here : end_of (next_entry s entry).state ≡ end_of s + cond (is_admission entry.reply) 1 0 = (Numbers-next s entry.actor entry.event).end ∙ grown in
    end-entries entries (next_entry s entry).state legal.1 ∙ by_test (is_admission entry.reply) here
  where
    by_test : (b : Bool) → end_of (next_entry s entry).state ≡ end_of s + cond b 1 0
        → end_of (next_entry s entry).state + count_admissions entries ≡ end_of s + length
        (cond b (entry ∷ filter (λ (e : Entry). is_admission e.reply) entries) (filter (λ (e : Entry). is_admission e.reply) entries))
    by_test true h = omega (arith, h)
    by_test false h = omega (arith, h)

-- as many products were admitted as the end says
pub end-admissions : (arena slots : ℕ) (history : List Entry) → IsLegal arena slots history → end_of (after arena slots history) ≡ count_admissions history
end-admissions arena slots history legal = let none : 0 + count_admissions history ≡ count_admissions history = omega arith in end-entries history (empty arena slots) legal ∙ none

-- and each has the number of those before it
pub number-admissions : (arena slots : ℕ) (front : List Entry) (entry : Entry) (behind : List Entry) → IsLegal arena slots (front ++ entry ∷ behind) → (n time evicted : ℕ)
    → entry.reply ≡ reply.Admitted n time evicted → n ≡ count_admissions front
number-admissions arena slots front entry behind legal n time evicted e =
    let parts = (IsLegalFrom-append front (entry ∷ behind) (empty arena slots)).0 legal in
    (Numbers-next (after arena slots front) entry.actor entry.event).number n time evicted (sym parts.1.0.reply ∙ e) ∙ end-admissions arena slots front parts.0

pub number-commits : (arena slots : ℕ) (front : List Entry) (entry : Entry) (behind : List Entry) → IsLegal arena slots (front ++ entry ∷ behind) → (n time : ℕ)
    → entry.reply ≡ reply.Committed n time → n ≡ count_admissions front
number-commits arena slots front entry behind legal n time e =
    let parts = (IsLegalFrom-append front (entry ∷ behind) (empty arena slots)).0 legal in
    (Numbers-next (after arena slots front) entry.actor entry.event).committed n time (sym parts.1.0.reply ∙ e) ∙ end-admissions arena slots front parts.0
