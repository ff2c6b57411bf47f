use Rattle.std.proofs.Common.{◌≡◌, Some, refl}
use Rattle.ldm_pqact_conf.specs.Lines.{Raw}
use Rattle.ldm_pqact_conf.proofs.Readings.{keeps, ends_wrong}
use Rattle.ldm_pqact_conf.proofs.reader.Reader.end_entry.Goals as goal

pub returns-in-Ok : goal.returns-in-Ok
returns-in-Ok c =
    let raw : Raw = record { line = c.in-Some.line; text = c.self.inside.text.items } in
    let was : c.args.self.now.open_entry ≡ Some raw = rw (← c.self.view_is, c.in-Some.is) refl in
    let is = rw c.as_slice.ensures.value at c.in-Ok.ensures in
    keeps c.args.self.now c.keep.new.self raw c.in-Ok.entry c.keep.result was is c.keep.ensures

pub returns-in-Err : goal.returns-in-Err
returns-in-Err c =
    let raw : Raw = record { line = c.in-Some.line; text = c.self.inside.text.items } in
    let was : c.args.self.now.open_entry ≡ Some raw = rw (← c.self.view_is, c.in-Some.is) refl in
    let is = rw c.as_slice.ensures.value at c.in-Err.ensures in
    ends_wrong c.args.self.now raw c.in-Err.kind was is
