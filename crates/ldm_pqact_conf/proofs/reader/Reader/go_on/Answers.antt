use Rattle.std.proofs.Common.{refl}
use Rattle.ldm_pqact_conf.specs.Lines.{Raw}
use Rattle.ldm_pqact_conf.proofs.reader.Reader.go_on.Goals as goal

pub returns-in-Ok : goal.returns-in-Ok
returns-in-Ok c =
    let raw : Raw = record { line = c.in-Some.first; text = c.self.inside.text.items } in
    record {
      raw = raw;
      was = rw (← c.self.view_is, c.in-Some.is) refl;
      is = rw (← c.self.view_is, c.in-Some.is, c.in-Ok.ensures.items) refl;
    }
