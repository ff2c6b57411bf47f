use Rattle.std.proofs.Common.{◌≡◌, ◌∙◌, ◌-◌, ◌≤◌, ℕ, false, true, refl, sym, ap, subst, inl, inr, arith}
use Rattle.std.specs.List.{Contains}
use Rattle.ldm_model.specs.declared.event.Reply.TheVariants as reply
use Rattle.ldm_model.specs.Commit.{commit as commit_of}
use Rattle.ldm_model.specs.Insert.{is_last, time_after as time_of}
use Rattle.ldm_book.specs.View.{BookView, Kept, filled_bytes, stored_bytes}
use Rattle.ldm_book.specs.Lookup.{kept_with, look_kept}
use Rattle.ldm_book.specs.Making.{with_committed}
use Rattle.ldm_book.specs.Products.{committed, reservation_at}
use Rattle.ldm_book.specs.Reserved.{kept_place, reservation_of}
use Rattle.ldm_book.specs.Answers.{Follows, KeepsReserved}
use Rattle.ldm_book.proofs.ExpireLemmas.{contains_push}
use Rattle.ldm_book.proofs.InsertLemmas.{no_product}
use Rattle.ldm_book.proofs.ReservingLemmas.{at_own, commit-committed, commit-duplicate, commit-none, commit-time_end, commit-unfilled, keeps-ended}
use Rattle.ldm_book.proofs.book.Book.commit.Goals as goal

pub returns-in_default-clause-answers : goal.returns-in_default-clause-answers
returns-in_default-clause-answers c = λ s stands. commit-none c.args.self.now s stands c.args.actor c.args.r c.args.now c.in_default.ensures.own

pub returns-then-left-gt0-clause-answers : goal.returns-then-left-gt0-clause-answers
returns-then-left-gt0-clause-answers c = λ s stands.
    commit-unfilled c.args.self.now s stands c.args.actor c.args.r c.args.now (reservation_of (kept_place c.in-Some.place)) c.in-Some.ensures.own c.if-left-gt0.true

-- nothing is left of its body
whole : (size filled left : ℕ) → left ≡ size - filled → left ≤ 0 → size - filled ≡ 0
whole size filled left is none = omega arith

pub returns-in-Queued-clause-answers : goal.returns-in-Queued-clause-answers
returns-in-Queued-clause-answers c = λ s stands.
    let v = reservation_of (kept_place c.in-Some.place) in
    let none = whole v.product.size v.filled (v.product.size - v.filled) refl c.if-left-gt0.false in
    let found = c.in-Queued.ensures ∙ ap (λ (b : BookView). look_kept (kept_with v.product.signature b.rows)) c.self.view_is in
    subst (λ (b : BookView). Follows (reply.Duplicate c.in-Queued.n) b (commit_of s c.args.actor c.args.r c.args.now)) (sym c.end.ensures.ended)
    (commit-duplicate c.args.self.now s stands c.args.actor c.args.r c.args.now v c.in-Some.ensures.own none c.in-Queued.n c.in-Queued.time (sym found))

pub returns-in_default-time_after-clause-answers : goal.returns-in_default-time_after-clause-answers
returns-in_default-time_after-clause-answers c = λ s stands.
    let v = reservation_of (kept_place c.in-Some.place) in
    let none = whole v.product.size v.filled (v.product.size - v.filled) refl c.if-left-gt0.false in
    let absent = c.in_default-look.ensures ∙ ap (λ (b : BookView). look_kept (kept_with v.product.signature b.rows)) c.self.view_is in
    let last : is_last c.args.self.now.last ≡ true = ap (λ (b : BookView). is_last b.last) (sym c.self.view_is) ∙ c.in_default-time_after.ensures.time in
    subst (λ (b : BookView). Follows reply.TimeEnd b (commit_of s c.args.actor c.args.r c.args.now)) (sym c.end-in_default-time_after.ensures.ended)
    (commit-time_end c.args.self.now s stands c.args.actor c.args.r c.args.now v c.in-Some.ensures.own none (sym absent) last)

-- what admitting the reservation makes of the book
admitted : (c : goal.After-admit) → c.admit.new.self ≡ with_committed c.args.self.now c.args.r c.in-Some-time_after.time (reservation_of (kept_place c.in-Some.place))
admitted c =
    c.admit.ensures.committed (reservation_of (kept_place c.in-Some.place))
    (at_own c.args.actor (reservation_at c.args.self.now.reservations c.args.r) (reservation_of (kept_place c.in-Some.place)) c.in-Some.ensures.own)

pub admit-requires-clause-some : goal.admit-requires-clause-some
admit-requires-clause-some c =
    let v = reservation_of (kept_place c.in-Some.place) in
    let absent = c.in_default-look.ensures ∙ ap (λ (b : BookView). look_kept (kept_with v.product.signature b.rows)) c.self.view_is in
    (v, at_own c.args.actor (reservation_at c.args.self.now.reservations c.args.r) v c.in-Some.ensures.own, no_product (kept_with v.product.signature c.args.self.now.rows) absent)

pub returns-clause-answers : goal.returns-clause-answers
returns-clause-answers c = λ s stands.
    let v = reservation_of (kept_place c.in-Some.place) in
    let book = c.args.self.now in
    let none = whole v.product.size v.filled (v.product.size - v.filled) refl c.if-left-gt0.false in
    let absent = c.in_default-look.ensures ∙ ap (λ (b : BookView). look_kept (kept_with v.product.signature b.rows)) c.self.view_is in
    let last : is_last book.last ≡ false = ap (λ (b : BookView). is_last b.last) (sym c.self.view_is) ∙ c.in-Some-time_after.ensures.time.0 in
    let time : c.in-Some-time_after.time ≡ time_of book.last c.args.now = c.in-Some-time_after.ensures.time.1 ∙ ap (λ (b : BookView). time_of b.last c.args.now) c.self.view_is in
    let number = ap (λ (b : BookView). b.admitted) c.self.view_is in
    subst (λ (b : BookView). Follows (reply.Committed c.self.inside.admitted c.in-Some-time_after.time) b (commit_of s c.args.actor c.args.r c.args.now)) (sym (admitted c))
    (subst (λ (t : ℕ). Follows (reply.Committed c.self.inside.admitted t) (with_committed book c.args.r t v) (commit_of s c.args.actor c.args.r c.args.now)) (sym time)
    (subst (λ (n : ℕ). Follows (reply.Committed n (time_of book.last c.args.now)) (with_committed book c.args.r (time_of book.last c.args.now) v) (commit_of s c.args.actor c.args.r c.args.now))
    (sym number)
    (commit-committed book s stands c.args.actor c.args.r c.args.now v c.in-Some.ensures.own none (sym absent) last c.in-Some.ensures.part)))

pub returns-clause-places : goal.returns-clause-places
returns-clause-places c = λ k in_new below.
    let v = reservation_of (kept_place c.in-Some.place) in
    let book = c.args.self.now in
    let same = admitted c in
    elim (contains_push book.rows (committed book.admitted c.in-Some-time_after.time v) k (subst (λ (b : BookView). Contains b.rows k) same in_new)) [
      | inl there ↦ record { queued = there; bytes = ap (λ (b : BookView). stored_bytes b.bytes k) same }
      | inr one ↦ (let number = ap (λ (x : Kept). x.number) one in absurd (omega (arith, number, below)))
    ]

pub returns-clause-reserved : goal.returns-clause-reserved
returns-clause-reserved c = λ k before after was now.
    let same = admitted c in
    let kept = keeps-ended c.args.self.now c.args.r k before after was (ap (λ (b : BookView). reservation_at b.reservations k) (sym same) ∙ now) in
    record { actor = kept.actor; product = kept.product; filled = kept.filled; bytes = ap (λ (b : BookView). filled_bytes b.bytes before) same }

pub returns-in-Queued-clause-places : goal.returns-in-Queued-clause-places
returns-in-Queued-clause-places c = λ k in_new below.
    let same = c.end.ensures.ended in
    record { queued = subst (λ (b : BookView). Contains b.rows k) same in_new; bytes = ap (λ (b : BookView). stored_bytes b.bytes k) same }

pub returns-in-Queued-clause-reserved : goal.returns-in-Queued-clause-reserved
returns-in-Queued-clause-reserved c = subst (λ (b : BookView). KeepsReserved c.args.self.now b) (sym c.end.ensures.ended) (keeps-ended c.args.self.now c.args.r)

pub returns-in_default-time_after-clause-places : goal.returns-in_default-time_after-clause-places
returns-in_default-time_after-clause-places c = λ k in_new below.
    let same = c.end-in_default-time_after.ensures.ended in
    record { queued = subst (λ (b : BookView). Contains b.rows k) same in_new; bytes = ap (λ (b : BookView). stored_bytes b.bytes k) same }

pub returns-in_default-time_after-clause-reserved : goal.returns-in_default-time_after-clause-reserved
returns-in_default-time_after-clause-reserved c = subst (λ (b : BookView). KeepsReserved c.args.self.now b) (sym c.end-in_default-time_after.ensures.ended) (keeps-ended c.args.self.now c.args.r)
