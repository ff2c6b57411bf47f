use Rattle.std.proofs.Common.{◌≡◌, ◌+◌, ◌≤◌, [], length, Ok, Err, refl, arith}
use Rattle.ldm_text.specs.Lines.{lines_left, lines_of}
use Rattle.ldm_text.specs.declared.limits.TheConstants.{LONGEST_CONFIGURATION}
use Rattle.ldm_pqact_conf.specs.Entries.{entries_from, pqact_entries}
use Rattle.ldm_check.proofs.Telling.{StillTells, told_one, told_pqact}
use Rattle.ldm_check.proofs.conf_file.Search.look_at_entries.Goals as goal

pub returns-in-Ok : goal.returns-in-Ok
unfolding pqact_entries
returns-in-Ok c =
    let path = c.args.path.now in
    let text = c.in-Some.text.now in
    let old = c.args.self.now.faults.items in
    let now = c.loop-rest.self.faults.items in
    let means : entries_from 1 (lines_of text) ≡ Ok c.in-Ok.entries = rw c.in-Ok.is at c.in_ok-entries.ensures in
    let still : StillTells path c.args.bytes.now old c.loop-rest.passed (lines_of text) now = rw c.in-Some.is at c.loop-rest.invariant.told in
    told_pqact path c.args.bytes.now old now c.loop-rest.passed (lines_of text) (c.in-Ok.entries, means) still

pub loop-rest-preserved : goal.loop-rest-preserved
unfolding pqact_entries
loop-rest-preserved c =
    let path = c.args.path.now in
    let text = c.in-Some.text.now in
    let old = c.args.self.now.faults.items in
    let now = c.loop-rest.self.faults.items in
    let cut = c.cut_behind-cut.result in
    let means : entries_from 1 (lines_of text) ≡ Err c.in-Err.fault = rw c.in-Err.is at c.in_ok-entries.ensures in
    let still : StillTells path c.args.bytes.now old c.loop-rest.passed (lines_of text) now = rw c.in-Some.is at c.loop-rest.invariant.told in
    let room : c.loop-rest.passed + (length text + 1) ≤ LONGEST_CONFIGURATION + 1 = rw c.in-Some.is at c.loop-rest.invariant.room in
    record {
      told = told_one path c.args.bytes.now old now c.tell_entry.new.self.faults.items c.loop-rest.passed cut.passed text cut.line.now (lines_left cut.rest) c.in-Err.fault means
          c.cut_behind-cut.ensures.line c.cut_behind-cut.ensures.rest c.cut_behind-cut.ensures.passed (rw c.from.ensures at c.in_ok-tell_entry-in-Err.ensures) still;
      room = omega (arith, room, c.cut_behind-cut.ensures.shorter);
    }

pub returns : goal.returns
returns c =
    let path = c.args.path.now in
    let old = c.args.self.now.faults.items in
    let now = c.loop-rest.self.faults.items in
    let still : StillTells path c.args.bytes.now old c.loop-rest.passed [] now = rw c.in_default.is at c.loop-rest.invariant.told in
    told_pqact path c.args.bytes.now old now c.loop-rest.passed [] ([], refl) still
