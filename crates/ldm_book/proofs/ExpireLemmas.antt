-- What the queue does where the oldest product that nobody holds is evicted, by what the book keeps.
use Rattle.std.proofs.Common.{◌≡◌, ℕ, zero, suc, Bool, true, false, cond, List, [], ◌∷◌, ◌++◌, ◌⊎◌, inl, inr, Some, None, refl, sym, ap, subst, ◌∙◌, arith}
use Rattle.std.specs.Prelude.{filter}
use Rattle.std.specs.List.{Contains}
use Rattle.ldm_model.specs.declared.event.Reply.TheVariants as reply
use Rattle.ldm_model.specs.State.{State}
use Rattle.ldm_model.specs.Evict.{evict, unheld}
use Rattle.ldm_model.specs.Expire.{expire, expire_first}
use Rattle.ldm_book.specs.View.{BookView, Kept}
use Rattle.ldm_book.specs.Answers.{Follows}
use Rattle.ldm_book.specs.Readers.{first_of, unheld_numbers, without_all, without_product}
use Rattle.ldm_book.specs.Products.{is_other}
use Rattle.ldm_book.specs.Stands.{StandsFor}
use Rattle.ldm_book.proofs.EvictLemmas.{StandsFor-evict}
use Rattle.ldm_book.proofs.FreeLemmas.{first-there}
use Rattle.ldm_book.proofs.UnheldLemmas.{unheld-stands}

expire-first : (s : State) (new : BookView) (ns : List ℕ) (n : ℕ) → Some n ≡ first_of ns → StandsFor new (evict s n) → Follows (reply.Expired n) new (expire_first s ns)
expire-first s new [] n first stands = absurd cc
expire-first s new (m ∷ ms) n first stands =
    let same : n ≡ m = cc in
    record { reply = ap reply.Expired same; state = subst (λ (k : ℕ). StandsFor new (evict s k)) same stands }

expire-none : (s : State) (new : BookView) (ns : List ℕ) → None ≡ first_of ns → StandsFor new s → Follows reply.Nothing new (expire_first s ns)
expire-none s new [] first stands = record { reply = refl; state = stands }
expire-none s new (m ∷ ms) first stands = absurd cc

module _ (book : BookView) (s : State) (stands : StandsFor book s) where
  pub expired : (n : ℕ) → Some n ≡ first_of (unheld_numbers book) → Follows (reply.Expired n) (without_product n book) (expire s)
  unfolding expire
  expired n first =
      let there = first-there book.cursors book.rows n (sym first) in
      expire-first s (without_product n book) (unheld s) n (first ∙ ap first_of (unheld-stands book s stands)) (StandsFor-evict book s n stands there.0)

  pub nothing : None ≡ first_of (unheld_numbers book) → Follows reply.Nothing book (expire s)
  unfolding expire
  nothing first = expire-none s book (unheld s) (first ∙ ap first_of (unheld-stands book s stands)) stands

-- what is left was there
pub contains_filter : (test : Kept → Bool) (rows : List Kept) (k : Kept) → Contains (filter test rows) k → Contains rows k
contains_filter test [] k h = h
contains_filter test (r ∷ rs) k h = by_test (test r) (contains_filter test rs k) h
  where
    push : Contains rs k → Contains (r ∷ rs) k
    push rest = (suc rest.0, omega (arith, rest.1), rest.2)

    by_test : (b : Bool) → (Contains (filter test rs) k → Contains rs k) → Contains (cond b (r ∷ filter test rs) (filter test rs)) k → Contains (r ∷ rs) k
    by_test true more (zero, h, e) = (0, omega arith, e)
    by_test true more (suc i, h, e) = push (more (i, omega arith, e))
    by_test false more h = push (more h)

pub contains_all : (ns : List ℕ) (book : BookView) (k : Kept) → Contains (without_all ns book).rows k → Contains book.rows k
contains_all [] book k h = h
contains_all (n ∷ ns) book k h = contains_filter (is_other n) book.rows k (contains_all ns (without_product n book) k h)

-- what is kept with one product more is that product, or was kept
pub contains_push : (rows : List Kept) (new k : Kept) → Contains (rows ++ new ∷ []) k → Contains rows k ⊎ (new ≡ k)
contains_push [] new k (zero, h, e) = inr e
contains_push [] new k (suc i, h, e) = absurd (omega arith)
contains_push (row ∷ rows) new k (zero, h, e) = inl (0, omega arith, e)
contains_push (row ∷ rows) new k (suc i, h, e) =
    elim (contains_push rows new k (i, omega arith, e)) [
      | inl rest ↦ inl (suc rest.0, omega (arith, rest.1), rest.2)
      | inr same ↦ inr same
    ]
