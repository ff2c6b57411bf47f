use Rattle.std.proofs.Common.{◌≡◌, ◌+◌, List, length, rules, Some, sym, ap, ◌∙◌}
use Rattle.ldm_timeindex.specs.Times.{Queued, at_number}
use Rattle.ldm_timeindex.proofs.Found.{found_number, one_fewer}
use Rattle.drive_values.proofs.queue.times.take.Goals as goal

pub take_out-requires : goal.take_out-requires
take_out-requires c =
    let found : c.first_at.result ≡ Some (c.args.n, c.args.slot) = search rules in
    found_number (at_number c.args.n) c.args.n c.args.slot c.args.index.now.entries (sym found ∙ c.first_at.ensures.first)

pub returns-clause-count : goal.returns-clause-count
returns-clause-count c =
    let found : c.first_at.result ≡ Some (c.args.n, c.args.slot) = search rules in
    let there = found_number (at_number c.args.n) c.args.n c.args.slot c.args.index.now.entries (sym found ∙ c.first_at.ensures.first) in
    ap (λ (entries : List Queued). length entries + 1) c.take_out.ensures.entries ∙ one_fewer c.args.n c.args.index.now.entries c.first_at.ensures.rising there
