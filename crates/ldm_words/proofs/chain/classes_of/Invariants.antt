use Rattle.std.proofs.Common.{◌≡◌, length, map, string_bytes}
use Rattle.ldm_words.specs.Values.{classes_of}
use Rattle.ldm_words.proofs.ChainClasses.{in_front}
use Rattle.ldm_words.proofs.chain.classes_of.Given as goal

abbrev pub invariant-loop-left : goal.invariant-loop-left
invariant-loop-left l = in_front l.classes.items (classes_of (map string_bytes l.left)) ≡ classes_of (map string_bytes l.words)

abbrev pub decreases-loop-left : goal.decreases-loop-left
decreases-loop-left l = length l.left
