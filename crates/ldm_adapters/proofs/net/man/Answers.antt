use Rattle.std.proofs.Common.{rules, ◌∷◌, []}
use Rattle.std.proofs.lemmas.List.Elements.{All-append, All-cons, All-nil}
use Rattle.ldm_outside.specs.Station.{IsNew}
use Rattle.ldm_adapters.specs.Told.{told_by_station}
use Rattle.ldm_adapters.proofs.net.man.Goals as goal

pub loop-preserved : goal.loop-preserved
loop-preserved c = (
  search rules,
  rw c.push_reserved.ensures.items
      (All-append (λ one. IsNew c.args.idles (told_by_station one)) c.loop.made.items (c.in_ok-one.one ∷ []) c.loop.invariant.1
      (All-cons (λ one. IsNew c.args.idles (told_by_station one)) c.in_ok-one.one [] c.in_ok-one.ensures (All-nil (λ one. IsNew c.args.idles (told_by_station one))))),
  search rules,
)
