-- Where bulletins go, and what the products of bulletins are.
use Rattle.std.specs.Prelude.{◌≡◌, ℕ, ◌+◌, List, [], ◌∷◌, drop, length, None}
use Rattle.md5.specs.Md5.{md5}
use Rattle.ldm_types.specs.Info.{Metadata, texts_fault}
use Rattle.ldm_outside.specs.Dial.{Asked}
use Rattle.ldm_tools.specs.Telling.{Product}
use Rattle.ldm_wmo.specs.Items.{Found, Bulletin, Bad}
use Rattle.ldm_wmo.specs.Lines.{line_length}
use Rattle.ldm_wmo.specs.declared.framing.Framing.{Framing}
use Rattle.ldm_wmo.specs.declared.ingestion.Ingestion.{Ingestion}

-- How bulletins are framed, whom to ask, and the metadata that all products have in common.
pub record Ingesting : Type 0 where
  pub framing : Framing
  pub peer : Asked
  pub feed : ℕ
  pub origin : List ℕ

abbrev pub ingesting : Ingestion → Ingesting
ingesting ingestion = record {
  framing = ingestion.framing;
  peer = record { host = ingestion.host.now; port = ingestion.port };
  feed = ingestion.feed.0;
  origin = ingestion.origin.now;
}

-- the bytes of a bulletin from its heading on: those behind its four first bytes, the number's line and the end of that
abbrev pub from_heading : List ℕ → List ℕ
from_heading bytes = drop (7 + line_length (drop 4 bytes)) bytes

-- What is put of a bulletin.
pub record Report : Type 0 where
  pub seqno : ℕ
  pub heading : List ℕ
  pub bytes : List ℕ

-- the metadata of the product of a bulletin, which was complete at that instant
abbrev pub metadata_of : Ingesting → Report → ℕ → Metadata
metadata_of all report arrival = record {
  arrival = arrival;
  signature = md5 (from_heading report.bytes);
  origin = all.origin;
  feed = all.feed;
  seqno = report.seqno;
  ident = report.heading;
  size = length report.bytes;
}

abbrev pub product_of : Ingesting → Report → ℕ → Product
product_of all report arrival = record { info = metadata_of all report arrival; body = report.bytes }

-- the bulletins of items, in order
abbrev pub reports_of : List Found → List Report
reports_of [] = []
reports_of (Bulletin at seqno heading bytes ∷ items) = record { seqno = seqno; heading = heading; bytes = bytes } ∷ reports_of items
reports_of (Bad at ∷ items) = reports_of items

-- the origin has no fault
abbrev pub IsNamed : Ingesting → Type 0
IsNamed all = texts_fault all.origin [] ≡ None
