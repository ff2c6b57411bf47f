use Rattle.std.proofs.Common.{◌≡◌, ◌∙◌, true, sym, ap, arith}
use Rattle.ldm_types.specs.Feed.{feeds_meet}
use Rattle.ldm_types.specs.declared.class.ClassSpec.{ClassSpec}
use Rattle.ldm_class.specs.Classes.{wants}
use Rattle.ldm_pattern.specs.Patterns.{found}
use Rattle.ldm_class.specs.Searches.{search_wants}
use Rattle.ldm_class.proofs.Searches.{some_passes, none_passes, wanted}
use Rattle.ldm_class.proofs.class.Class.wants.Goals as goal

pub returns-then-branch : goal.returns-then-branch
returns-then-branch c =
    let info = c.args.info.now in
    let search = c.search-item.result in
    let meets = ap (feeds_meet search.feed.0) (sym c.feed.ensures) ∙ sym c.meets.ensures.value ∙ c.if-meets.true in
    let finds = ap (found search.pattern) (sym c.ident.ensures.value) ∙ sym c.in_ok-is_in.ensures ∙ c.if-branch.true in
    let passes : search_wants info search ≡ true = rw (meets, finds) in
    let all = wanted info c.self.inside.spec _ (c.as_slice-search-items.ensures.value ∙ c.self.invariant) in
    sym (some_passes (search_wants info) c.as_slice-search-items.result.now c.loop-search.search-index search (omega arith) c.search-item.is passes c.loop-search.invariant)
    ∙ all ∙ ap (λ (class : ClassSpec). wants class info) c.self.view_is

pub returns : goal.returns
returns c =
    let info = c.args.info.now in
    let all = wanted info c.self.inside.spec _ (c.as_slice-search-items.ensures.value ∙ c.self.invariant) in
    sym (none_passes (search_wants info) _ c.loop-search.search-index (omega arith) c.loop-search.invariant)
    ∙ all ∙ ap (λ (class : ClassSpec). wants class info) c.self.view_is
