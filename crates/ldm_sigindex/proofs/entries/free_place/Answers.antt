use Rattle.std.proofs.Common.{◌<◌, length, sym, subst}
use Rattle.ldm_sigindex.specs.Entries.{free_of}
use Rattle.ldm_sigindex.proofs.Read.{read_taken}
use Rattle.ldm_sigindex.proofs.Round.{way}
use Rattle.ldm_sigindex.proofs.Walked.{way_shorter}
use Rattle.ldm_sigindex.proofs.entries.free_place.Goals as goal

pub loop-at-smaller : goal.loop-at-smaller
loop-at-smaller c =
    let entries = c.args.entries.now in
    subst (λ at. way (length entries) at (free_of entries) < way (length entries) c.loop-at.at (free_of entries)) (sym c.after-at.ensures)
    (way_shorter entries c.loop-at.at c.loop-at.invariant.inside c.requires.free (read_taken entries c.loop-at.at _ c.loop-at.invariant.inside c.loop-at-test.true))
