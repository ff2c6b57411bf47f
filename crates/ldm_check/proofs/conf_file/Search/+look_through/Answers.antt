use Rattle.std.proofs.Common.{◌≡◌, ◌∙◌, ◌+◌, List, refl, append_assoc, arith}
use Rattle.ldm_outside.specs.Store.{StoreRecord}
use Rattle.ldm_outside.specs.declared.store.FileRead.TheVariants as read
use Rattle.ldm_conf.specs.declared.fault.ConfKind.TheVariants as kind
use Rattle.ldm_check.specs.ConfFaults.{Line, lines_in}
use Rattle.ldm_check.specs.Sources.{left_of, line_in}
use Rattle.ldm_check.specs.Walks.{GoesTo, Passes, State, state_of}
use Rattle.ldm_check.proofs.Going.{file_read, not_read, then_passes, with_fault}
use Rattle.ldm_check.proofs.conf_file.Search.+look_through.Goals as goal

pub loop-line-preserved-in-Bytes : goal.loop-line-preserved-in-Bytes
loop-line-preserved-in-Bytes g t c =
    let path = c.args.path.now in
    let named = c.in-Some.included.now in
    let first : StoreRecord = g.F.Store.tells c.args.store.now in
    let before : StoreRecord = g.F.Store.tells c.loop-line.store in
    let mid : StoreRecord = g.F.Store.tells c.read_file.new.self in
    let after : StoreRecord = g.F.Store.tells c.look_through.new.store in
    let a : State = state_of c.loop-line.self in
    let b : State = state_of c.look_to_include.new.self in
    let end : State = state_of c.look_through.new.self in
    let lines : List Line = left_of path c.loop-line.lines in
    let left : List Line = left_of path c.look_to_include.new.lines in
    let inner : List Line = left_of named c.of-inner.result in
    let line : Line = line_in path c.loop-line.lines.depth c.in-Some.line in
    let to : GoesTo a lines b line named left = rw c.in-Some.is at c.in_ok-line.ensures.read in
    let inner_is : inner ≡ lines_in named (line.depth + 1) c.in-Bytes.bytes.items = rw (c.in_ok-line.ensures.depth, c.as_slice.ensures.value) at (c.of-inner.ensures.lines named) in
    let passes : Passes before after a lines end left =
    file_read before mid a b lines left line named to (read.Bytes c.in-Bytes.bytes) c.in-Bytes.ensures.read after c.in-Bytes.bytes.items (record b { count = b.count + 1 }) end inner refl inner_is
    (λ later behind. rw (append_assoc (lines_in named (line.depth + 1) c.in-Bytes.bytes.items) left behind) refl) c.in_ok-look_through-in-Bytes.ensures.passes in
    record {
      passes = then_passes first before after (state_of c.args.self.now) a end (left_of path c.args.lines) lines left c.loop-line.invariant.passes passes;
      fits = c.in_ok-line.ensures.fits;
      depth = c.in_ok-line.ensures.depth ∙ c.loop-line.invariant.depth;
      faults_kept = omega (arith, c.loop-line.invariant.faults_kept, c.in-Bytes.ensures.faults_kept, c.in_ok-look_through-in-Bytes.ensures.faults_kept);
    }

pub loop-line-preserved-in-Continue-branch-4 : goal.loop-line-preserved-in-Continue-branch-4
loop-line-preserved-in-Continue-branch-4 g t c =
    let path = c.args.path.now in
    let named = c.in-Some.included.now in
    let first : StoreRecord = g.F.Store.tells c.args.store.now in
    let before : StoreRecord = g.F.Store.tells c.loop-line.store in
    let mid : StoreRecord = g.F.Store.tells c.read_file.new.self in
    let a : State = state_of c.loop-line.self in
    let b : State = state_of c.look_to_include.new.self in
    let end : State = state_of c.tell.new.self in
    let lines : List Line = left_of path c.loop-line.lines in
    let left : List Line = left_of path c.look_to_include.new.lines in
    let line : Line = line_in path c.loop-line.lines.depth c.in-Some.line in
    let to : GoesTo a lines b line named left = rw c.in-Some.is at c.in_ok-line.ensures.read in
    let told : end ≡ with_fault b line kind.Long = rw (c.in_ok-tell-in-TooLong.ensures.files, c.in_ok-tell-in-TooLong.ensures.told c.loop-line.lines.depth) refl in
    let passes : Passes before mid a lines end left =
    not_read before mid a b lines left line named to read.TooLong c.in-TooLong.ensures.read end kind.Long told (λ later behind. refl) in
    record {
      passes = then_passes first before mid (state_of c.args.self.now) a end (left_of path c.args.lines) lines left c.loop-line.invariant.passes passes;
      fits = c.in_ok-line.ensures.fits;
      depth = c.in_ok-line.ensures.depth ∙ c.loop-line.invariant.depth;
      faults_kept = omega (arith, c.loop-line.invariant.faults_kept, c.in-TooLong.ensures.faults_kept);
    }

pub loop-line-preserved : goal.loop-line-preserved
loop-line-preserved g t c =
    let path = c.args.path.now in
    let named = c.in-Some.included.now in
    let first : StoreRecord = g.F.Store.tells c.args.store.now in
    let before : StoreRecord = g.F.Store.tells c.loop-line.store in
    let mid : StoreRecord = g.F.Store.tells c.read_file.new.self in
    let a : State = state_of c.loop-line.self in
    let b : State = state_of c.look_to_include.new.self in
    let end : State = state_of c.tell-in-Failed.new.self in
    let lines : List Line = left_of path c.loop-line.lines in
    let left : List Line = left_of path c.look_to_include.new.lines in
    let line : Line = line_in path c.loop-line.lines.depth c.in-Some.line in
    let to : GoesTo a lines b line named left = rw c.in-Some.is at c.in_ok-line.ensures.read in
    let told : end ≡ with_fault b line kind.Store = rw (c.in_ok-tell-in-Failed.ensures.files, c.in_ok-tell-in-Failed.ensures.told c.loop-line.lines.depth) refl in
    let passes : Passes before mid a lines end left =
    not_read before mid a b lines left line named to read.Failed c.in-Failed.ensures.read end kind.Store told (λ later behind. refl) in
    record {
      passes = then_passes first before mid (state_of c.args.self.now) a end (left_of path c.args.lines) lines left c.loop-line.invariant.passes passes;
      fits = c.in_ok-line.ensures.fits;
      depth = c.in_ok-line.ensures.depth ∙ c.loop-line.invariant.depth;
      faults_kept = omega (arith, c.loop-line.invariant.faults_kept, c.in-Failed.ensures.faults_kept);
    }
