use Rattle.std.proofs.Common.{◌≡◌, ◌∙◌, ◌∷◌, false, refl, arith}
use Rattle.ldm_conf.specs.declared.fault.ConfKind.TheVariants as kind
use Rattle.ldm_conf.specs.Statements.{meaning_of}
use Rattle.ldm_check.specs.ConfFaults.{Line, may_include}
use Rattle.ldm_check.specs.Says.{Names, Wrong, says}
use Rattle.ldm_check.specs.Sources.{left_of, line_in}
use Rattle.ldm_check.specs.Walks.{GoesOn, state_of}
use Rattle.ldm_check.proofs.Going.{passes_deep, passes_wrong, too_deep, too_many, with_fault}
use Rattle.ldm_check.proofs.conf_file.Search.look_to_include.Goals as goal
use Rattle.ldm_check.proofs.conf_file.Search.look_to_include.Goals.{else-lines-lt-DEEPEST_INCLUDE-via-then-lines-lt-DEEPEST_INCLUDE+else-self-lt-MOST_FILES, else-lines-lt-DEEPEST_INCLUDE-via-else-lines-lt-DEEPEST_INCLUDE}

pub loop-line-preserved-in-Continue-branch-4 : goal.loop-line-preserved-in-Continue-branch-4
loop-line-preserved-in-Continue-branch-4 c =
    let path = c.args.path.now in
    let line : Line = line_in path c.loop-line.lines.depth c.in-Some.line in
    let on : GoesOn (state_of c.args.self.now) (left_of path c.args.lines.now) (state_of c.loop-line.self) (line ∷ left_of path c.take.new.self) = rw (c.in-Some.ensures.taken path) at c.loop-line.invariant.on in
    let said : Wrong c.in-Faulty.kind ≡ says (meaning_of line.text) = rw c.in-Faulty.is at c.in_ok-conf.ensures in
    let told : state_of c.tell.new.self ≡ with_fault (state_of c.loop-line.self) line c.in-Faulty.kind = rw (c.in_ok-tell-in-Faulty.ensures.files, c.in_ok-tell-in-Faulty.ensures.told c.loop-line.lines.depth) refl in
    record {
      on = passes_wrong (state_of c.args.self.now) (state_of c.loop-line.self) (state_of c.tell.new.self) (left_of path c.args.lines.now) (left_of path c.take.new.self) line c.in-Faulty.kind on said told;
      depth = c.in-Some.ensures.depth ∙ c.loop-line.invariant.depth;
      fits = c.in-Some.ensures.fits;
      shorter = omega (arith, c.in-Some.ensures.shorter, c.loop-line.invariant.shorter);
    }

pub loop-line-preserved : goal.loop-line-preserved
loop-line-preserved c =
    let path = c.args.path.now in
    let line : Line = line_in path c.loop-line.lines.depth c.in-Some.line in
    let on : GoesOn (state_of c.args.self.now) (left_of path c.args.lines.now) (state_of c.loop-line.self) (line ∷ left_of path c.take.new.self) = rw (c.in-Some.ensures.taken path) at c.loop-line.invariant.on in
    let said : Names c.in-Includes.included.now ≡ says (meaning_of line.text) = rw c.in-Includes.is at c.in_ok-conf.ensures in
    let told : state_of c.tell-in-Includes.new.self ≡ with_fault (state_of c.loop-line.self) line kind.Depth = rw (c.in_ok-tell-in-Includes.ensures.files, c.in_ok-tell-in-Includes.ensures.told c.loop-line.lines.depth) refl in
    let same : c.take.new.self.depth ≡ c.loop-line.lines.depth = c.in-Some.ensures.depth in
    let may : may_include c.loop-line.self.files line ≡ false = elim c.else-lines-lt-DEEPEST_INCLUDE.branch [
      | else-lines-lt-DEEPEST_INCLUDE-via-then-lines-lt-DEEPEST_INCLUDE+else-self-lt-MOST_FILES w ↦ too_many c.loop-line.self.files line w.if-self-lt-MOST_FILES.false
      | else-lines-lt-DEEPEST_INCLUDE-via-else-lines-lt-DEEPEST_INCLUDE w ↦ too_deep c.loop-line.self.files line (rw same at w.if-lines-lt-DEEPEST_INCLUDE.false)
    ] in
    record {
      on = passes_deep (state_of c.args.self.now) (state_of c.loop-line.self) (state_of c.tell-in-Includes.new.self) (left_of path c.args.lines.now) (left_of path c.take.new.self) line c.in-Includes.included.now on said may told;
      depth = c.in-Some.ensures.depth ∙ c.loop-line.invariant.depth;
      fits = c.in-Some.ensures.fits;
      shorter = omega (arith, c.in-Some.ensures.shorter, c.loop-line.invariant.shorter);
    }
