-- Lemmas for callers: the counts of a session, over one call after another.
use Rattle.std.proofs.Common.{arith}
use Rattle.ldm_outside.specs.Session.{SessionRecord, KeepsFaults}

pub KeepsFaults-same : (now : SessionRecord) → KeepsFaults now now
KeepsFaults-same now = record { link = omega arith; ends = omega arith; log = omega arith; stops = omega arith }

pub KeepsFaults-then : (old mid new : SessionRecord) → KeepsFaults old mid → KeepsFaults mid new → KeepsFaults old new
KeepsFaults-then old mid new first second = record {
  link = omega (arith, first.link, second.link);
  ends = omega (arith, first.ends, second.ends);
  log = omega (arith, first.log, second.log);
  stops = omega (arith, first.stops, second.stops);
}
