-- A content that is not too long is one record.
use Rattle.std.proofs.Common.{ℕ, ◌≤◌, List, length, arith}
use Rattle.std.proofs.lemmas.List.Elements.{All-nil}
use Rattle.ldm_rpc.specs.Spelling.{IsShort, Fits as RecordFits}
use Rattle.ldm_relay.specs.declared.message.TheConstants.{LARGEST_CONTENT}
use Rattle.ldm_relay.specs.Spelling.{in_one}

pub one_record : (content : List ℕ) → length content ≤ LARGEST_CONTENT → RecordFits LARGEST_CONTENT (in_one content)
one_record content short = record { before = All-nil IsShort; last = omega (arith, short); within = short }
