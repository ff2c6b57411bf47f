-- What a contract sees of an `Info`.
use Rattle.ldm_types.specs.Info.{Metadata}
use Rattle.ldm_types.specs.declared.info.Info.TheInside.{Inside}

abbrev pub metadata_of : Inside → Metadata
metadata_of info = record {
  arrival = info.arrival;
  signature = info.signature.0;
  origin = info.origin.items;
  feed = info.feed.0;
  seqno = info.seqno;
  ident = info.ident.items;
  size = info.size;
}
