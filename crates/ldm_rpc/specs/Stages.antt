-- What a reader always keeps at a stage of the record in hand.
use Rattle.std.specs.Prelude.{◌≡◌, ℕ, ◌+◌, ◌^◌, ◌<◌, ◌≤◌}
use Rattle.ldm_rpc.specs.declared.stage.Stage.{Stage}
use Rattle.ldm_rpc.specs.declared.stage.Stage.TheVariants.{Header, Fragment, Whole, Faulty}
use Rattle.ldm_rpc.specs.declared.records.TheConstants.{LARGEST_KEPT}

-- Fewer than four bytes of a header came. The fragment in hand has bytes to come, for which there is room behind
-- those of the content so far.
abbrev pub StageFits : Stage → ℕ → ℕ → Type 0
StageFits (Header came number) len limit = (came < 4) × (number < 256 ^ came)
StageFits (Fragment left last) len limit = (0 < left) × (len + left ≤ limit)
StageFits Whole len limit = Unit {0}
StageFits (Faulty fault) len limit = Unit {0}

-- Before the first byte of a record no large buffer is kept. Within a fragment there was a header.
abbrev pub KeepsLittle : Stage → ℕ → ℕ → Type 0
KeepsLittle (Header came number) next_header_at capacity = next_header_at + came ≡ 0 → capacity ≤ LARGEST_KEPT
KeepsLittle (Fragment left last) next_header_at capacity = 0 < next_header_at
KeepsLittle Whole next_header_at capacity = Unit {0}
KeepsLittle (Faulty fault) next_header_at capacity = Unit {0}
