use Rattle.std.proofs.Common.{◌≡◌, get_or, rules, None, sym, ◌∙◌, arith}
use Rattle.std.proofs.lemmas.Bool.{leb-false, ltb-false}
use Rattle.ldm_timeindex.specs.Times.{at_number, behind_time}
use Rattle.ldm_timeindex.proofs.Found.{none_passes}
use Rattle.drive_values.proofs.queue.times.Times.push.Goals as goal

pub push-requires-clause-later : goal.push-requires-clause-later
push-requires-clause-later c k d lt =
    let entries = c.args.self.now.index.entries in
    let none_at : c.first_at.result ≡ None = search rules in
    let none_behind : c.first_after.result ≡ None = search rules in
    let number = leb-false c.args.n (get_or entries k d).n (none_passes (at_number c.args.n) entries (sym none_at ∙ c.first_at.ensures.first) k d lt) in
    let time = ltb-false c.in_ok-before.before (get_or entries k d).time (none_passes (behind_time c.in_ok-before.before) entries (sym none_behind ∙ c.first_after.ensures.first) k d lt) in
    (number, omega (arith, time, c.in_ok-before.ensures, c.in_ok-now.ensures))
