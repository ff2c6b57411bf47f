use Rattle.ldm_wmo.proofs.Marks.{text_is}
use Rattle.ldm_wmo.proofs.bulletin.is_text.Goals as goal

pub returns : goal.returns
returns c = text_is c.args.text.now c.memchr2.result c.is_none.result c.memchr2.ensures c.is_none.ensures
