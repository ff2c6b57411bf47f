use Rattle.ldm_book.proofs.row.Row.new.Goals as goal

pub returns : goal.returns
returns c = λ i. record {
  number = c.args.n;
  time = c.args.time;
  place = c.args.place;
  signature = c.signature.ensures i;
  feed = c.feed.ensures i;
  head = c.info_len.ensures.value i;
  size = c.size.ensures i;
}
