use Rattle.std.proofs.Common.{◌∙◌, List, ℕ, Some, refl, ap}
use Rattle.std.proofs.lemmas.Result.{err_from_is_err_and}
use Rattle.ldm_pqact.specs.Handling.{given_of}
use Rattle.ldm_shared.proofs.Counting.{counts_no_product, counts_worn}
use Rattle.ldm_pqact.specs.Parts.{signature_of}
use Rattle.ldm_pqact.proofs.Counting.{counts_product}
use Rattle.ldm_pqact.proofs.Lasting.{lasts_no_product, lasts_product, lasts_worn}
use Rattle.ldm_pqact.proofs.Coursing.{ended, gave, lost, unlogged, unstepped}
use Rattle.ldm_pqact.proofs.carrier.Carrier.turn.Goals as goal

pub returns-in_err-write_gap-in-Done-Gap-clause-turns : goal.returns-in_err-write_gap-in-Done-Gap-clause-turns
returns-in_err-write_gap-in-Done-Gap-clause-turns g c =
    let why = err_from_is_err_and c.from_residual.result c.from_residual.ensures.1 in
    let at = rw c.in-Done-Gap.field-0-is at c.in-Done-Gap.ensures in
    let failed = c.in_err-write_gap-in-Done-Gap.ensures.written in
    rw (why.1, why.2) (unlogged c.args.self.now.entries c.args.reader.now.k _ _ _ c.args.pass.now c.step.new.pass _ _ _ at.done failed.0 failed.1 at.cursor)

pub returns-in_ok-write_gap-in-Done-Gap-clause-turns : goal.returns-in_ok-write_gap-in-Done-Gap-clause-turns
returns-in_ok-write_gap-in-Done-Gap-clause-turns g c =
    let at = rw c.in-Done-Gap.field-0-is at c.in-Done-Gap.ensures in
    lost c.args.self.now.entries c.args.reader.now.k _ _ _ c.args.pass.now c.step.new.pass _ _ _ at.done c.in_ok-write_gap-in-Done-Gap.ensures.written
    c.in_ok-write_gap-in-Done-Gap.ensures.faults_kept at.cursor

pub handle-requires-clause-holds : goal.handle-requires-clause-holds
handle-requires-clause-holds g c =
    let at = rw c.in-Done-Product.field-0-is at c.in-Done-Product.ensures in at.cursor

pub returns-in-Done-Product-clause-turns : goal.returns-in-Done-Product-clause-turns
returns-in-Done-Product-clause-turns g c =
    let at = rw c.in-Done-Product.field-0-is at c.in-Done-Product.ensures in
    let body = at.cursor.0 in
    let held = at.cursor.1 in
    gave c.products_stay.ensures.stays c.handle.result c.args.self.now.entries c.args.reader.now.k (given_of c.in-Done-Product.held body) c.args.pass.now c.step.new.pass
    c.handle.new.pass _ _ _ _ at.done held.row (c.handle.ensures.handles body held)

pub returns-in-Done-End-clause-turns : goal.returns-in-Done-End-clause-turns
returns-in-Done-End-clause-turns g c =
    let at = rw c.in-Done-End.field-0-is at c.in-Done-End.ensures in
    ended c.args.self.now.entries c.args.reader.now.k _ c.args.pass.now c.step.new.pass _ _ at.done at.cursor

pub returns-in-Worn-clause-turns : goal.returns-in-Worn-clause-turns
returns-in-Worn-clause-turns g c = unstepped c.args.self.now.entries c.args.reader.now.k _ c.args.pass.now c.step.new.pass _ _ c.in-Worn.ensures.worn

pub returns-in_err-write_gap-in-Done-Gap-clause-counts : goal.returns-in_err-write_gap-in-Done-Gap-clause-counts
returns-in_err-write_gap-in-Done-Gap-clause-counts g c =
    let at = rw c.in-Done-Gap.field-0-is at c.in-Done-Gap.ensures in
    counts_no_product c.args.reader.now.k c.args.pass.now c.step.new.pass _ c.args.self.now.left refl at.done

pub returns-in_ok-write_gap-in-Done-Gap-clause-counts : goal.returns-in_ok-write_gap-in-Done-Gap-clause-counts
returns-in_ok-write_gap-in-Done-Gap-clause-counts g c =
    let at = rw c.in-Done-Gap.field-0-is at c.in-Done-Gap.ensures in
    counts_no_product c.args.reader.now.k c.args.pass.now c.step.new.pass _ c.args.self.now.left refl at.done

pub returns-in-Done-Product-clause-counts : goal.returns-in-Done-Product-clause-counts
returns-in-Done-Product-clause-counts g c =
    let at = rw c.in-Done-Product.field-0-is at c.in-Done-Product.ensures in
    let body = at.cursor.0 in
    counts_product c.handle.result c.args.reader.now.k (given_of c.in-Done-Product.held body) _ _ c.args.pass.now _ _ c.args.self.now.left c.handle.new.self.left at.done
    (c.handle.ensures.handles body at.cursor.1) (c.handle.ensures.left ∙ c.count_off.ensures)

pub returns-in-Done-End-clause-counts : goal.returns-in-Done-End-clause-counts
returns-in-Done-End-clause-counts g c =
    let at = rw c.in-Done-End.field-0-is at c.in-Done-End.ensures in
    counts_no_product c.args.reader.now.k c.args.pass.now c.step.new.pass _ c.args.self.now.left refl at.done

pub returns-in-Worn-clause-counts : goal.returns-in-Worn-clause-counts
returns-in-Worn-clause-counts g c = counts_worn c.args.reader.now.k _ c.args.pass.now c.step.new.pass c.args.self.now.left c.in-Worn.ensures.worn

pub returns-in_err-write_gap-in-Done-Gap-clause-last : goal.returns-in_err-write_gap-in-Done-Gap-clause-last
returns-in_err-write_gap-in-Done-Gap-clause-last g c =
    let at = rw c.in-Done-Gap.field-0-is at c.in-Done-Gap.ensures in
    lasts_no_product c.args.reader.now.k c.args.pass.now c.step.new.pass _ (signature_of c.args.self.now.last) refl at.done

pub returns-in_ok-write_gap-in-Done-Gap-clause-last : goal.returns-in_ok-write_gap-in-Done-Gap-clause-last
returns-in_ok-write_gap-in-Done-Gap-clause-last g c =
    let at = rw c.in-Done-Gap.field-0-is at c.in-Done-Gap.ensures in
    lasts_no_product c.args.reader.now.k c.args.pass.now c.step.new.pass _ (signature_of c.args.self.now.last) refl at.done

pub returns-in-Done-Product-clause-last : goal.returns-in-Done-Product-clause-last
returns-in-Done-Product-clause-last g c =
    let at = rw c.in-Done-Product.field-0-is at c.in-Done-Product.ensures in
    let body = at.cursor.0 in
    lasts_product c.handle.result c.args.reader.now.k (given_of c.in-Done-Product.held body) _ _ c.args.pass.now _ _ (signature_of c.args.self.now.last)
    (signature_of c.handle.new.self.last) at.done (c.handle.ensures.handles body at.cursor.1)
    (ap signature_of c.handle.ensures.last ∙ ap (λ (s : List ℕ). Some s) c.signature.ensures)

pub returns-in-Done-End-clause-last : goal.returns-in-Done-End-clause-last
returns-in-Done-End-clause-last g c =
    let at = rw c.in-Done-End.field-0-is at c.in-Done-End.ensures in
    lasts_no_product c.args.reader.now.k c.args.pass.now c.step.new.pass _ (signature_of c.args.self.now.last) refl at.done

pub returns-in-Worn-clause-last : goal.returns-in-Worn-clause-last
returns-in-Worn-clause-last g c = lasts_worn c.args.reader.now.k _ c.args.pass.now c.step.new.pass (signature_of c.args.self.now.last) c.in-Worn.ensures.worn
