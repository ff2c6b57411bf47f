-- The queued products that have a feedtype.
use Rattle.std.specs.Prelude.{ℕ, Bool, List, filter}
use Rattle.ldm_types.specs.Feed.{feeds_meet}
use Rattle.ldm_model.specs.State.{State, Queued, queued}

-- all feedtypes
abbrev pub any_feed : ℕ
any_feed = 0xffff_ffff

-- whether a product has a feedtype
abbrev pub has_feed : Queued → Bool
has_feed q = feeds_meet any_feed q.product.info.feed

-- the queued products that have a feedtype, in the order of their numbers
abbrev pub listed : State → List Queued
listed s = filter has_feed (queued s)
