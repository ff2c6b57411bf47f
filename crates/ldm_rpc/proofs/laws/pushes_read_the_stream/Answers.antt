use Rattle.ldm_rpc.proofs.Joined.{pushed, open_before, after-taken}
use Rattle.ldm_rpc.proofs.laws.pushes_read_the_stream.Goals as goal

pub returns : goal.returns
returns c = record {
  records = λ p piece not. (pushed p piece not).records;
  in_hand = λ p piece not. (pushed p piece not).in_hand;
  until = open_before;
  up_to = after-taken;
}
