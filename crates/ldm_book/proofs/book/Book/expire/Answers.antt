use Rattle.std.proofs.Common.{refl, sym, ap, subst}
use Rattle.std.specs.List.{Contains}
use Rattle.ldm_model.specs.declared.event.Reply.TheVariants as reply
use Rattle.ldm_model.specs.Expire.{expire}
use Rattle.ldm_book.specs.View.{BookView, stored_bytes}
use Rattle.ldm_book.specs.Products.{is_other}
use Rattle.ldm_book.specs.Answers.{Follows}
use Rattle.ldm_book.proofs.ExpireLemmas.{contains_filter, expired, nothing}
use Rattle.ldm_book.proofs.FreeLemmas.{ahead_zero, first-there}
use Rattle.ldm_book.proofs.InsertLemmas.{keeps-same}
use Rattle.ldm_book.proofs.book.Book.expire.Goals as goal

pub first_free-requires : goal.first_free-requires
first_free-requires c = ahead_zero c.args.self.now.cursors c.args.self.now.rows

pub evict-requires-clause-queued : goal.evict-requires-clause-queued
evict-requires-clause-queued c = (first-there c.args.self.now.cursors c.args.self.now.rows c.in-Some.n (sym c.in-Some.ensures.first)).0

pub evict-requires-clause-free : goal.evict-requires-clause-free
evict-requires-clause-free c = (first-there c.args.self.now.cursors c.args.self.now.rows c.in-Some.n (sym c.in-Some.ensures.first)).1

pub returns-in-Some-clause-answers : goal.returns-in-Some-clause-answers
returns-in-Some-clause-answers c = λ s stands.
    subst (λ (b : BookView). Follows (reply.Expired c.in-Some.n) b (expire s)) (sym c.evict.ensures.evicted) (expired c.args.self.now s stands c.in-Some.n c.in-Some.ensures.first)

pub returns-in-Some-clause-places : goal.returns-in-Some-clause-places
returns-in-Some-clause-places c = λ k in_new below.
    record {
      queued = contains_filter (is_other c.in-Some.n) c.args.self.now.rows k (subst (λ (b : BookView). Contains b.rows k) c.evict.ensures.evicted in_new);
      bytes = ap (λ (b : BookView). stored_bytes b.bytes k) c.evict.ensures.evicted;
    }

pub returns-in-Some-clause-reserved : goal.returns-in-Some-clause-reserved
returns-in-Some-clause-reserved c =
    keeps-same c.args.self.now _ (ap (λ (b : BookView). b.reservations) c.evict.ensures.evicted) (ap (λ (b : BookView). b.bytes) c.evict.ensures.evicted)

pub returns-in-None-clause-reserved : goal.returns-in-None-clause-reserved
returns-in-None-clause-reserved c = keeps-same c.args.self.now c.args.self.now refl refl

pub returns-in-None-clause-places : goal.returns-in-None-clause-places
returns-in-None-clause-places c = λ k in_new below. record { queued = in_new; bytes = refl }

pub returns-in-None-clause-answers : goal.returns-in-None-clause-answers
returns-in-None-clause-answers c = λ s stands. nothing c.args.self.now s stands c.in-None.ensures.first

pub returns-in-None-clause-apart : goal.returns-in-None-clause-apart
returns-in-None-clause-apart c = c.in-None.ensures.apart
