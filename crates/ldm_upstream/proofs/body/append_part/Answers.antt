use Rattle.std.proofs.Common.{◌≡◌, ◌∙◌, ℕ, List, ◌++◌, length, ap, arith}
use Rattle.ldm_upstream.specs.ProductDeeds.{part_of}
use Rattle.ldm_upstream.proofs.Blocks.{length_part}
use Rattle.ldm_upstream.proofs.Reading.{part_read}
use Rattle.ldm_upstream.proofs.body.append_part.Goals as goal

pub returns-in-Done-clause-read : goal.returns-in-Done-clause-read
returns-in-Done-clause-read g c = λ body h.
    let offset = c.args.offset in
    let len = c.args.len in
    let part = part_of offset len body in
    let size : length part ≡ len = length_part body offset len (omega (arith, h.whole, c.requires.within)) in
    record {
      makes = part_read c.args.pass.now c.read_onto.new.pass c.args.lent.now.reader.k offset len part size
          (c.in-Done.ensures.done body h);
      appended = c.in-Done.ensures.bytes body h ∙ ap (λ (x : List ℕ). x ++ part) c.reserve.ensures.items;
      holds = c.in-Done.ensures.holds body h;
    }
