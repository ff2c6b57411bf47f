use Rattle.std.proofs.Common.{◌∙◌, List, sym, ap}
use Rattle.ldm_model.specs.State.{queued}
use Rattle.ldm_model.specs.Look.{look}
use Rattle.ldm_book.specs.View.{BookView, Kept}
use Rattle.ldm_book.specs.Lookup.{kept_with, look_kept}
use Rattle.ldm_book.proofs.QueuedLemmas.{look-from_kept}
use Rattle.ldm_book.proofs.book.Book.look.Goals as goal

pub returns-clause-answers : goal.returns-clause-answers
unfolding look
returns-clause-answers c = λ state stands.
    let signature = c.args.s.now.0 in
    let rows = ap (λ (b : BookView). b.rows) c.self.view_is in
    record {
      reply = c.look.ensures ∙ ap (λ (ks : List Kept). look_kept (kept_with signature ks)) (rows ∙ stands.rows) ∙ sym (look-from_kept signature (queued state));
      state = stands;
    }
