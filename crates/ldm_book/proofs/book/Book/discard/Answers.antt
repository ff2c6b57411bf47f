use Rattle.std.proofs.Common.{sym, ap, subst}
use Rattle.std.specs.List.{Contains}
use Rattle.ldm_model.specs.declared.event.Reply.TheVariants as reply
use Rattle.ldm_model.specs.Fill.{discard}
use Rattle.ldm_book.specs.View.{BookView, stored_bytes}
use Rattle.ldm_book.specs.Reserved.{kept_place, reservation_of}
use Rattle.ldm_book.specs.Answers.{Follows, KeepsReserved}
use Rattle.ldm_book.proofs.ReservingLemmas.{discard-none, discard-some, keeps-ended}
use Rattle.ldm_book.proofs.book.Book.discard.Goals as goal

pub returns-in_default-clause-answers : goal.returns-in_default-clause-answers
returns-in_default-clause-answers c = λ s stands. discard-none c.args.self.now s stands c.args.actor c.args.r c.in_default.ensures.own

pub returns-clause-answers : goal.returns-clause-answers
returns-clause-answers c = λ s stands.
    subst (λ (b : BookView). Follows reply.Discarded b (discard s c.args.actor c.args.r)) (sym c.end.ensures.ended)
    (discard-some c.args.self.now s stands c.args.actor c.args.r (reservation_of (kept_place c.in-Some.field-0)) c.in-Some.ensures.own)

pub returns-clause-places : goal.returns-clause-places
returns-clause-places c = λ k in_new below.
    let same = c.end.ensures.ended in
    record { queued = subst (λ (b : BookView). Contains b.rows k) same in_new; bytes = ap (λ (b : BookView). stored_bytes b.bytes k) same }

pub returns-clause-reserved : goal.returns-clause-reserved
returns-clause-reserved c = subst (λ (b : BookView). KeepsReserved c.args.self.now b) (sym c.end.ensures.ended) (keeps-ended c.args.self.now c.args.r)
