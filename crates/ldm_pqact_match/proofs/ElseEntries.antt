-- Whether an `_ELSE_` entry acts.
use Rattle.std.proofs.Common.{◌≡◌, Bool, true, false, None, refl, sym}
use Rattle.ldm_types.specs.Info.{Metadata}
use Rattle.ldm_types.specs.Feed.{feeds_meet}
use Rattle.ldm_pqact_conf.specs.Entries.{EntryView}
use Rattle.ldm_pqact_match.specs.Matching.{acts}

pub else_acts : (matched : Bool) (info : Metadata) (entry : EntryView) → None ≡ entry.pattern → matched ≡ false → true ≡ feeds_meet entry.feed info.feed →
    true ≡ acts matched info entry
else_acts matched info entry none free meets = rw (sym none, free, sym meets) refl

pub else_waits : (matched : Bool) (info : Metadata) (entry : EntryView) → None ≡ entry.pattern → matched ≡ true → true ≡ feeds_meet entry.feed info.feed →
    false ≡ acts matched info entry
else_waits matched info entry none taken meets = rw (sym none, taken, sym meets) refl
