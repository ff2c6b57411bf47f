use Rattle.std.proofs.Common.{◌≡◌, ◌<◌, ◌^◌, length, rules, arith}
use Rattle.ldm_words.specs.Values.{few}
use Rattle.ldm_words.proofs.Files.{given, not_many, too_many}
use Rattle.ldm_words.proofs.values.files.Goals as goal

pub returns-then-files : goal.returns-then-files
returns-then-files c = given _ _ few _ c.in-Some.ensures (too_many c.in-Some.files.now (omega (arith, c.if-files.true)))

pub returns : goal.returns
returns c =
    let items : c.in_ok-to_vec.field-0.items ≡ c.in-Some.files.now = c.in_ok-to_vec.ensures.items_if_clones_equal (search rules) in
    let few_files : length c.in-Some.files.now < 2 ^ 32 = omega (arith, c.if-files.false) in
    (given _ _ few _ c.in-Some.ensures (rw items (not_many c.in-Some.files.now few_files)), rw items few_files)
