-- What a scanner keeps of a candidate.
use Rattle.std.specs.Prelude.{◌≡◌, ℕ, ◌+◌, ◌<◌, ◌≤◌, length, List, []}
use Rattle.ldm_wmo.specs.declared.stage.FrameStage.{FrameStage}
use Rattle.ldm_wmo.specs.declared.stage.FrameStage.TheVariants.{Between, Head, Body, Whole, Unread, Lost}
use Rattle.ldm_wmo.specs.declared.stage.Stage.{Stage}
use Rattle.ldm_wmo.specs.declared.stage.Stage.TheVariants.{Outside, Within, Complete, Framed}
use Rattle.ldm_wmo.specs.declared.stage.TheConstants.{LARGEST_BULLETIN}

-- Between frames nothing is kept. A head is open while it has fewer than ten bytes, and a message while some are left.
abbrev pub FrameFits : FrameStage → List ℕ → Type 0
FrameFits Between bytes = bytes ≡ []
FrameFits (Head at) bytes = length bytes < 10
FrameFits (Body at left kind) bytes = (0 < left) × (length bytes + left ≤ LARGEST_BULLETIN)
FrameFits (Whole at kind) bytes = length bytes ≤ LARGEST_BULLETIN
FrameFits (Unread at) bytes = length bytes ≤ 10
FrameFits Lost bytes = bytes ≡ []

-- Outside candidates none is kept. A candidate that is open has room for one byte more.
abbrev pub StageFits : Stage → List ℕ → Type 0
StageFits Outside bytes = bytes ≡ []
StageFits (Within at) bytes = length bytes < LARGEST_BULLETIN
StageFits (Complete at) bytes = length bytes ≤ LARGEST_BULLETIN
StageFits (Framed stage) bytes = FrameFits stage bytes
