use Rattle.std.proofs.Common.{◌≡◌, ◌∙◌, ℕ, List, Ok, Err, sym, subst, take, drop}
use Rattle.std.proofs.lemmas.Result.{err_from_is_err_and}
use Rattle.ldm_actions.specs.Outputs.{standing}
use Rattle.ldm_pqact.specs.Handling.{Reads, ReadsAll, giving_of, lent}
use Rattle.ldm_pqact.proofs.Giving.{gives_worn}
use Rattle.ldm_pqact.proofs.Reading.{part_of_rest, piece_read}
use Rattle.ldm_shared.proofs.Using.{uses_read, uses_worn}
use Rattle.ldm_pqact.proofs.writer.Writer.give_piece.Goals as goal

pub returns-in-Worn-clause-reads : goal.returns-in-Worn-clause-reads
returns-in-Worn-clause-reads g c hand body holds has =
    let worn = c.in-Worn.ensures.worn in
    record {
      uses = uses_worn c.args.holding.now.reader.k c.in-Worn.turns c.args.pass.now c.read_onto.new.pass worn;
      gives = gives_worn hand _ _;
      cause = worn.long ∙ worn.turns_are;
      no_log = tt;
      cursor = tt;
    }

pub returns-in_err-done-clause-reads : goal.returns-in_err-done-clause-reads
returns-in_err-done-clause-reads g c hand body holds has =
    let it = giving_of c.args.holding.now body hand in
    let rest = drop c.args.offset body in
    let old = lent c.args.pass.now (standing c.args.self.now.outputs (g.F.Store.tells c.args.store.now) (g.L.Launcher.tells c.args.launcher.now)) in
    let new = lent c.read_onto.new.pass (standing c.piece.new.self (g.F.Store.tells c.piece.new.store) (g.L.Launcher.tells c.piece.new.launcher)) in
    let end = c.in_err-done.field-0.0 in
    let piece : c.as_slice.result.now ≡ take c.min-len.result rest = c.as_slice.ensures.value ∙ rw c.clear.ensures.items at (c.in_default.ensures.bytes body holds) in
    let why = err_from_is_err_and c.from_residual.result c.from_residual.ensures.1 in
    rw (why.1, why.2)
    (part_of_rest end it c.min-len.result rest old new
    (subst (λ (x : List ℕ). Reads (Err end) it x old new) piece
    (piece_read c.piece.result (Err end) it c.as_slice.result.now old new (sym c.done.ensures ∙ c.in_err-done.was)
    (uses_read c.args.holding.now.reader.k _ _ _ _ _ (c.in_default.ensures.done body holds)) (c.in_default.ensures.holds body holds) has c.piece.ensures.given)))

pub returns-clause-reads : goal.returns-clause-reads
returns-clause-reads g c hand body holds has =
    let it = giving_of c.args.holding.now body hand in
    let rest = drop c.args.offset body in
    let old = lent c.args.pass.now (standing c.args.self.now.outputs (g.F.Store.tells c.args.store.now) (g.L.Launcher.tells c.args.launcher.now)) in
    let new = lent c.read_onto.new.pass (standing c.piece.new.self (g.F.Store.tells c.piece.new.store) (g.L.Launcher.tells c.piece.new.launcher)) in
    let piece : c.as_slice.result.now ≡ take c.min-len.result rest = c.as_slice.ensures.value ∙ rw c.clear.ensures.items at (c.in_default.ensures.bytes body holds) in
    subst (λ (x : List ℕ). ReadsAll it x old new) piece
    (piece_read c.piece.result (Ok tt) it c.as_slice.result.now old new (sym c.done.ensures ∙ c.in_ok-done.was)
    (uses_read c.args.holding.now.reader.k _ _ _ _ _ (c.in_default.ensures.done body holds)) (c.in_default.ensures.holds body holds) has c.piece.ensures.given)
