-- Samples for the worked examples.
use Rattle.std.specs.Prelude.{ℕ, List, [], ◌∷◌, ◌++◌, codes}
use Rattle.ldm_wmo.specs.Writing.{written}

-- the bulletin 001 of the station KWBC
abbrev pub sample_heading : List ℕ
sample_heading = codes "SAUS44 KWBC 010000"

abbrev pub sample : List ℕ
sample = written 1 sample_heading (codes "TEXT")

-- two bytes outside, the bulletin, a candidate that the next one ends, and one that the stream's end cuts off
abbrev pub sample_stream : List ℕ
sample_stream = (0 ∷ 0 ∷ sample) ++ 1 ∷ 65 ∷ 1 ∷ []
