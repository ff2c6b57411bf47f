use Rattle.std.proofs.Common.{◌≡◌, ◌∙◌, None, sym, ap, subst}
use Rattle.ldm_types.specs.Cursors.{Places}
use Rattle.ldm_cursor.specs.Places.{least_empty}
use Rattle.ldm_model.specs.declared.event.Reply.TheVariants as reply
use Rattle.ldm_model.specs.Open.{open_cursor}
use Rattle.ldm_book.specs.View.{BookView}
use Rattle.ldm_book.specs.Sound.{view_of}
use Rattle.ldm_book.specs.Making.{start_at}
use Rattle.ldm_model.specs.declared.replies.OpenReply.{OpenReply}
use Rattle.ldm_book.proofs.book.Book.open_cursor.Goals.{in-Some-seat, in-None}
use Rattle.ldm_book.specs.Answers.{Follows}
use Rattle.ldm_model.specs.Answers.{open_answer}
use Rattle.ldm_book.specs.Stands.{StandsFor}
use Rattle.ldm_book.proofs.CursorsLemmas.{with_cursors}
use Rattle.ldm_book.proofs.OpenLemmas.{all_busy, is_least, not_queued, opened}
use Rattle.ldm_book.proofs.book.Book.open_cursor.Goals as goal

pub returns-then-is_full-clause-answers : goal.returns-then-is_full-clause-answers
returns-then-is_full-clause-answers c = λ s stands.
    let full = c.is_full.ensures.full.0 c.if-is_full.true in
    all_busy c.args.self.now s stands c.args.actor c.args.feed.0 c.args.start (ap (λ (b : BookView). least_empty b.cursors) (sym c.self.view_is) ∙ full)

pub returns-in_default-clause-answers : goal.returns-in_default-clause-answers
returns-in_default-clause-answers c = λ s stands.
    let some : least_empty c.self.inside.cursors ≡ None → ⊥ = λ full. absurd (let no = c.is_full.ensures.full.1 full in cc (no, c.if-is_full.false)) in
    let least = is_least (least_empty c.self.inside.cursors) some in
    not_queued c.args.self.now s stands c.args.actor c.args.feed.0 c.args.start least.0 (ap (λ (b : BookView). least_empty b.cursors) (sym c.self.view_is) ∙ least.1) (sym c.in_default.ensures.at)

pub returns-clause-answers : goal.returns-clause-answers
returns-clause-answers c = λ s stands.
    let inside = c.self.inside in
    let here = subst (λ (b : BookView). StandsFor b s) (sym c.self.view_is) stands in
    let at = sym (c.in-Some.ensures.at ∙ ap (λ (b : BookView). start_at b c.args.start) (sym c.self.view_is)) in
    elim c.match-seat.branch [
      | in-Some-seat w ↦
          subst (λ (r : OpenReply). Follows (open_answer r) (with_cursors (view_of inside) c.seat.new.self) (open_cursor s c.args.actor c.args.feed.0 c.args.start)) (sym w.result-is)
          (subst (λ (cs : Places). Follows (reply.Opened w.in-Some-seat.k) (with_cursors (view_of inside) cs) (open_cursor s c.args.actor c.args.feed.0 c.args.start))
          (sym w.in-Some-seat.ensures.seated)
          (opened (view_of inside) s here c.args.actor c.args.feed.0 c.args.start w.in-Some-seat.k c.in-Some.position (sym w.in-Some-seat.ensures.place) at))
      | in-None w ↦
          subst (λ (r : OpenReply). Follows (open_answer r) (with_cursors (view_of inside) c.seat.new.self) (open_cursor s c.args.actor c.args.feed.0 c.args.start)) (sym w.result-is)
          (subst (λ (cs : Places). Follows reply.AllBusy (with_cursors (view_of inside) cs) (open_cursor s c.args.actor c.args.feed.0 c.args.start)) (sym w.in-None.ensures.seated)
          (all_busy (view_of inside) s here c.args.actor c.args.feed.0 c.args.start (sym w.in-None.ensures.place)))
    ]
