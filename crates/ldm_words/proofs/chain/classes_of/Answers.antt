use Rattle.std.proofs.Common.{◌≡◌, Some, rules, string_bytes}
use Rattle.ldm_words.specs.Values.{class_in}
use Rattle.ldm_words.proofs.ChainClasses.{goes_on, odd}
use Rattle.ldm_words.proofs.chain.classes_of.Goals as goal

pub loop-left-preserved : goal.loop-left-preserved
loop-left-preserved c =
    let read : class_in (string_bytes c.feed-item.result) (string_bytes c.pattern-item.result) ≡ Some c.in_ok-class.class = search rules in
    rw c.in_ok-push.ensures.items
    (goes_on c.loop-left.classes.items c.in_ok-class.class c.loop-left.left.now c.feed-item.result c.pattern-item.result _ c.in-len2-up.len_at_least c.feed-item.is c.pattern-item.is read c.loop-left.invariant)

pub returns-else-is_empty : goal.returns-else-is_empty
returns-else-is_empty c = odd c.loop-left.classes.items c.loop-left.left.now _ c.in_default.len_below (search rules) c.loop-left.invariant
