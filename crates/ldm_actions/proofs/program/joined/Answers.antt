use Rattle.std.proofs.Common.{◌≡◌, ◌∙◌, ◌++◌, ℕ, List, [], ◌∷◌, ap, arith, string_bytes, take}
use Rattle.ldm_outside.specs.Launcher.{spelled}
use Rattle.ldm_actions.specs.World.{command_of}
use Rattle.ldm_actions.proofs.JoinLemmas.{first_word, later_word}
use Rattle.ldm_actions.proofs.program.joined.Goals as goal
use Rattle.ldm_actions.proofs.program.joined.Goals.{then-i-gt0+in_ok-push, else-i-gt0}

pub loop-i-preserved : goal.loop-i-preserved
loop-i-preserved c =
    let words = c.args.words.now in
    let i = c.loop-i.i in
    let word = c.index-words-i.result in
    let behind : List ℕ → List ℕ = λ before. before ++ string_bytes word in
    let pushed : string_bytes c.push_str.new.self ≡ behind (string_bytes c.if-i-gt0.joined) =
    c.in_ok-push_str.ensures.bytes ∙ ap (λ (piece : List ℕ). string_bytes c.if-i-gt0.joined ++ piece) c.as_str.ensures.value
    in
    elim c.if-i-gt0.branch [
      | then-i-gt0+in_ok-push w ↦
          let blank : string_bytes c.if-i-gt0.joined ≡ string_bytes c.loop-i.joined ++ 32 ∷ [] =
          ap string_bytes w.joined-is
          ∙ w.in_ok-push.ensures.bytes
          ∙ ap (λ (bytes : List ℕ). string_bytes c.loop-i.joined ++ bytes) (w.in_ok-push.ensures.ascii (omega arith))
          in
          pushed ∙ ap behind blank ∙ later_word words i c.loop-i-test.true word c.index-words-i.is (string_bytes c.loop-i.joined) w.if-i-gt0.true c.loop-i.invariant
      | else-i-gt0 w ↦
          let zero_is : i ≡ 0 = omega (arith, w.if-i-gt0.false) in
          let none : string_bytes c.if-i-gt0.joined ≡ [] =
          ap string_bytes w.joined-is ∙ c.loop-i.invariant ∙ ap (λ (n : ℕ). command_of (spelled (take n words))) zero_is
          in
          pushed ∙ ap behind none ∙ first_word words i c.loop-i-test.true word c.index-words-i.is zero_is
    ]
