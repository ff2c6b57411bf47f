-- Samples for the worked examples of frames.
use Rattle.std.specs.Prelude.{ℕ, List, ◌∷◌, ◌++◌, codes}
use Rattle.ldm_wmo.specs.Samples.{sample, sample_heading}
use Rattle.ldm_wmo.specs.Writing.{written}

-- a text that would begin and end bulletins, in any framing
abbrev pub any_bytes : List ℕ
any_bytes = 1 ∷ 3 ∷ codes "NNNNZCZC"

-- the bulletin 002 of the station KWBC, 45 bytes long, whose text is binary
abbrev pub binary_sample : List ℕ
binary_sample = written 2 sample_heading any_bytes

-- the alphanumeric bulletin of 39 bytes, the binary one, the end of a file, and the first bytes of another frame
abbrev pub framed_stream : List ℕ
framed_stream = (codes "00000039AN" ++ sample) ++ (codes "00000045BI" ++ binary_sample) ++ codes "00000000" ++ codes "0000"

-- the binary bulletin behind ten bytes, and the other one behind that
abbrev pub behind_head : List ℕ → List ℕ
behind_head head = head ++ binary_sample ++ (codes "00000039AN" ++ sample)
