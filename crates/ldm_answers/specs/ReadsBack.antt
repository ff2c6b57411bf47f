-- What calls say that write the fields of a product: each is read as what it was written for.
use Rattle.std.specs.Prelude.{◌≡◌, decimal, Some}
use Rattle.hex.specs.Hex.{encode_lower}
use Rattle.ldm_types.specs.Info.{Metadata}
use Rattle.ldm_types.specs.declared.limits.TheConstants.{LONGEST_ORIGIN, LONGEST_IDENT}
use Rattle.ldm_feedtype.specs.Text.{feed_digits}
use Rattle.ldm_feedtype.specs.Reading.{feed_number}
use Rattle.ldm_signature.specs.HexSignature.{hex_signature}
use Rattle.ldm_answers.specs.Number.{four_bytes, instant_of}
use Rattle.ldm_answers.specs.Texts.{spelled, text_up_to}

pub record ProductReadsBack (info : Metadata) : Type 0 where
  pub signature : hex_signature (encode_lower info.signature) ≡ Some info.signature
  pub feed : feed_number (feed_digits info.feed) ≡ Some info.feed
  pub seqno : four_bytes (decimal info.seqno) ≡ Some info.seqno
  pub origin : text_up_to LONGEST_ORIGIN (spelled info.origin) ≡ Some info.origin
  pub ident : text_up_to LONGEST_IDENT (spelled info.ident) ≡ Some info.ident

pub record InfoReadsBack (info : Metadata) : Type 0 where
  pub arrival : instant_of (decimal info.arrival) ≡ Some info.arrival
  pub product : ProductReadsBack info
  pub size : four_bytes (decimal info.size) ≡ Some info.size
