-- What reads a stream keeps.
use Rattle.std.specs.Prelude.{◌≡◌, ◌≤◌, false}
use Rattle.ldm_rpc.specs.Reading.{is_whole}
use Rattle.ldm_session.specs.declared.limits.TheConstants.{LONGEST_STREAM}
use Rattle.ldm_watch.specs.declared.stream.Stream.TheInside.{Inside}
use Rattle.ldm_watch.specs.StreamView.{StreamView}

abbrev pub stream_of : Inside → StreamView
stream_of s = record { watching = s.watching; hand = record { reading = s.records; begins = s.begins; came = s.came } }

-- No record is complete and not forgotten, and no more bytes came than are taken of a stream.
pub record IsKept (s : Inside) : Type 0 where
  pub ready : is_whole s.records ≡ false
  pub most : s.came ≤ LONGEST_STREAM
