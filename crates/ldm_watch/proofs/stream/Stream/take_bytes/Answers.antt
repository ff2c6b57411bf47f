use Rattle.std.proofs.Common.{◌≡◌, ℕ, true, eqb, List, [], ◌∷◌, length, refl, sym, arith}
use Rattle.std.proofs.lemmas.Bool.{both_ways, ne_eqb}
use Rattle.ldm_watch.specs.Taking.{standing}
use Rattle.ldm_watch.proofs.Running.{runs-none, runs-more, runs-all, cuts-all}
use Rattle.ldm_watch.proofs.stream.Stream.take_bytes.Goals as goal

is_empty : (bytes : List ℕ) → true ≡ eqb (length bytes) 0 → bytes ≡ []
is_empty [] e = refl
is_empty (byte ∷ bytes) e = absurd (both_ways (eqb (length (byte ∷ bytes)) 0) (ne_eqb (length (byte ∷ bytes)) 0 (omega arith)) (sym e))

pub loop-rest-init : goal.loop-rest-init
loop-rest-init c =
    runs-none c.args.self.now.hand c.args.bytes.now (standing c.args.self.now.watching c.args.out.now c.args.lines.now)
    (rw (← c.self.view_is) c.self.invariant.ready) c.requires.sound

pub loop-rest-preserved : goal.loop-rest-preserved
loop-rest-preserved c =
    runs-more c.args.self.now.hand c.args.bytes.now (standing c.args.self.now.watching c.args.out.now c.args.lines.now)
    c.loop-rest.self.hand c.loop-rest.rest.now (standing c.loop-rest.self.watching c.loop-rest.out c.loop-rest.lines) c.loop-rest.invariant
    c.in-Ok.count c.take_first.new.self.hand (standing c.take_first.new.self.watching c.take_first.new.out c.take_first.new.lines)
    c.in-Ok.ensures _ refl

pub returns-in-Err : goal.returns-in-Err
returns-in-Err c =
    cuts-all c.args.self.now.hand c.args.bytes.now (standing c.args.self.now.watching c.args.out.now c.args.lines.now)
    c.loop-rest.self.hand c.loop-rest.rest.now (standing c.loop-rest.self.watching c.loop-rest.out c.loop-rest.lines) c.loop-rest.invariant
    c.in-Err.stop (standing c.take_first.new.self.watching c.take_first.new.out c.take_first.new.lines) c.in-Err.ensures

pub returns : goal.returns
returns c =
    runs-all c.args.self.now.hand c.args.bytes.now (standing c.args.self.now.watching c.args.out.now c.args.lines.now)
    c.loop-rest.self.hand c.loop-rest.rest.now (standing c.loop-rest.self.watching c.loop-rest.out c.loop-rest.lines) c.loop-rest.invariant
    (is_empty c.loop-rest.rest.now c.loop-rest-test.ensures)
