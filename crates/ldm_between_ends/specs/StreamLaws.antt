-- What the laws of streams say that are used here, in one value.
use Rattle.std.specs.Prelude.{◌≡◌, ℕ, ◌+◌, false, List, ◌++◌, length, drop, All}
use Rattle.std.specs.List.{flat_map}
use Rattle.ldm_rpc.specs.Reading.{Reading, after, begun, bytes_taken, is_whole}
use Rattle.ldm_rpc.specs.Spelling.{Record, Fits, spelling}
use Rattle.ldm_rpc.specs.Streams.{Position, before_record, forgets, given, in_hand, placed, records_in}

pub record StreamLaws : Type 0 where
  pub taken : (limit : ℕ) (r : Record) (rest : List ℕ) → Fits limit r → bytes_taken (begun limit) (spelling r ++ rest) ≡ length (spelling r)
  pub records : (limit at : ℕ) (records : List Record) (rest : List ℕ) → All (Fits limit) records →
      records_in (before_record limit at) (flat_map spelling records ++ rest)
      ≡ placed at records ++ records_in (before_record limit (at + length (flat_map spelling records))) rest
  pub hand : (limit at : ℕ) (records : List Record) (rest : List ℕ) → All (Fits limit) records →
      in_hand (before_record limit at) (flat_map spelling records ++ rest) ≡ in_hand (before_record limit (at + length (flat_map spelling records))) rest
  pub joins : (s : Reading) (a b : List ℕ) → bytes_taken s (a ++ b) ≡ bytes_taken s a + bytes_taken (after s a) b
  pub pushed : (p : Position) (piece : List ℕ) → is_whole p.reading ≡ false →
      records_in p piece ≡ given p.begins (after p.reading piece)
      ++ records_in (forgets p.begins (p.came + bytes_taken p.reading piece) (after p.reading piece)) (drop (bytes_taken p.reading piece) piece)
  pub pushed_hand : (p : Position) (piece : List ℕ) → is_whole p.reading ≡ false →
      in_hand p piece ≡ in_hand (forgets p.begins (p.came + bytes_taken p.reading piece) (after p.reading piece)) (drop (bytes_taken p.reading piece) piece)
