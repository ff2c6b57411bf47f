-- When a script is played by a crowd to its end, and all its answers are written.
use Rattle.std.specs.Prelude.{◌≡◌, ◌⊎◌, ℕ, ◌<◌, List, length, Some, Ok}
use Rattle.ldm_outside.specs.Count.{Rose}
use Rattle.ldm_script.specs.Order.{Asked}
use Rattle.ldm_crowd.specs.Script.{script_of}
use Rattle.ldm_status.specs.declared.whole_script.TheConstants.{LONGEST_SCRIPT}
use Rattle.ldm_status.specs.Streams.{StreamsRecord}
use Rattle.ldm_crowd.specs.CrowdEnding.{CrowdSize, IsGoodSize}

-- Nothing hinders a crowd: the queue can be made; the source tells a script of fewer bytes than are too many, each line of
-- which is in the grammar and of an actor that has a worker; and neither the source, the sink nor the log failed.
pub record CrowdUnhindered (size : CrowdSize) (old new : StreamsRecord) : Type 0 where
  pub good_size : IsGoodSize size
  pub text : List ℕ
  pub told : old.source.left ≡ Some text
  pub short : length text < LONGEST_SCRIPT
  pub script : List (List Asked)
  pub good_lines : script_of size.workers text ≡ Ok script
  pub source_works : ¬ (Rose old.source.faults new.source.faults)
  pub sink_works : ¬ (Rose old.sink.faults new.sink.faults)
  pub log_works : ¬ (Rose old.log.faults new.log.faults)

-- A crowd that nothing hinders ends with 0, or with 71 for want of memory.
abbrev pub CrowdCompletes : CrowdSize → ℕ → StreamsRecord → StreamsRecord → Type 0
CrowdCompletes size code old new = CrowdUnhindered size old new → (code ≡ 0) ⊎ (code ≡ 71)
