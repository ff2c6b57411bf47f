use Rattle.std.proofs.Common.{Global, String, List, ◌-◌, length, map, string_bytes, take, drop}
use Rattle.std.specs.Option.{option_copied}
use Rattle.ldm_words.proofs.ChainClasses.{are_of_all_times, too_few}
use Rattle.ldm_words.proofs.chain.chain_of.Goals as goal

pub returns-in_default : goal.returns-in_default
returns-in_default c = too_few (option_copied c.args.conf) c.args.words.now c.in_default.len_below

pub invariant_of-result-clause-all_times : goal.invariant_of-result-clause-all_times
invariant_of-result-clause-all_times c =
    let words : List (String Global) = c.args.words.now in
    are_of_all_times (map string_bytes (take (length words - 3) (drop 3 words))) _ c.in_ok-classes.ensures
