use Rattle.std.proofs.Common.{◌∙◌, arith}
use Rattle.ldm_image.proofs.HeadLemmas.{lacks, given, bad_arena, bad_slots, bad_admitted, bad_last, bad_count, arena_bounds, arena_good, slots_bounds, slots_good, end_bounds, end_good, count_bound, count_good}
use Rattle.ldm_image.proofs.sizes.read_sizes.Goals as goal
use Rattle.ldm_image.proofs.sizes.read_sizes.Goals.{then-arena-ne0-via-then-arena-ne0, then-arena-ne0-via-else-arena-ne0+then-arena-lt-SMALLEST_ARENA, then-arena-ne0-via-else-arena-ne0+else-arena-lt-SMALLEST_ARENA+then-arena-gt-LARGEST_ARENA}
use Rattle.ldm_image.proofs.sizes.read_sizes.Goals.{then-end-via-then-end, then-end-via-else-end+then-admitted-end, then-end-via-else-end+else-admitted-end+then-admitted-min}
use Rattle.ldm_image.proofs.sizes.read_sizes.Goals.{then-slots-eq0-via-then-slots-eq0, then-slots-eq0-via-else-slots-eq0+then-slots-from}

pub returns-in_default-number_in : goal.returns-in_default-number_in
returns-in_default-number_in c =
    λ file is.
    bad_arena file (c.in_default.ensures file is) (λ lawful. lacks 8 c.args.head.now file (omega arith) is c.in_default-number_in.ensures lawful.0)

pub returns-then-arena-ne0 : goal.returns-then-arena-ne0
returns-then-arena-ne0 c =
    λ file is.
    let a = given 8 c.in-Some-number_in.arena c.args.head.now file (omega arith) is c.in-Some-number_in.ensures in
    bad_arena file (c.in_default.ensures file is)
    (λ lawful.
    let b = arena_bounds c.in-Some-number_in.arena file a.1 lawful in
    elim c.then-arena-ne0.branch [
      | then-arena-ne0-via-then-arena-ne0 w ↦ omega (arith, b.2, w.if-arena-ne0.true)
      | then-arena-ne0-via-else-arena-ne0+then-arena-lt-SMALLEST_ARENA w ↦ omega (arith, b.0, w.if-arena-lt-SMALLEST_ARENA.true)
      | then-arena-ne0-via-else-arena-ne0+else-arena-lt-SMALLEST_ARENA+then-arena-gt-LARGEST_ARENA w ↦ omega (arith, b.1, w.if-arena-gt-LARGEST_ARENA.true)
    ])

pub returns-in_default-number_in-2 : goal.returns-in_default-number_in-2
returns-in_default-number_in-2 c =
    λ file is.
    let a = given 8 c.in-Some-number_in.arena c.args.head.now file (omega arith) is c.in-Some-number_in.ensures in
    let arena = arena_good c.in-Some-number_in.arena file a.0 a.1
    (omega (arith, c.if-arena-lt-SMALLEST_ARENA.false), omega (arith, c.if-arena-gt-LARGEST_ARENA.false), omega (arith, c.if-arena-ne0.false)) in
    bad_slots file (c.in_default.ensures file is) arena (λ lawful. lacks 16 c.args.head.now file (omega arith) is c.in_default-number_in-2.ensures lawful.0)

pub returns-then-slots-eq0 : goal.returns-then-slots-eq0
returns-then-slots-eq0 c =
    λ file is.
    let a = given 8 c.in-Some-number_in.arena c.args.head.now file (omega arith) is c.in-Some-number_in.ensures in
    let s = given 16 c.in-Some-number_in-2.slots c.args.head.now file (omega arith) is c.in-Some-number_in-2.ensures in
    let arena = arena_good c.in-Some-number_in.arena file a.0 a.1
    (omega (arith, c.if-arena-lt-SMALLEST_ARENA.false), omega (arith, c.if-arena-gt-LARGEST_ARENA.false), omega (arith, c.if-arena-ne0.false)) in
    bad_slots file (c.in_default.ensures file is) arena
    (λ lawful.
    let b = slots_bounds c.in-Some-number_in-2.slots file s.1 lawful in
    elim c.then-slots-eq0.branch [
      | then-slots-eq0-via-then-slots-eq0 w ↦ omega (arith, b.0, w.if-slots-eq0.true)
      | then-slots-eq0-via-else-slots-eq0+then-slots-from w ↦ omega (arith, b.1, w.from.ensures, w.if-slots-from.true)
    ])

pub returns-in_default-number_in-3 : goal.returns-in_default-number_in-3
returns-in_default-number_in-3 c =
    λ file is.
    let a = given 8 c.in-Some-number_in.arena c.args.head.now file (omega arith) is c.in-Some-number_in.ensures in
    let s = given 16 c.in-Some-number_in-2.slots c.args.head.now file (omega arith) is c.in-Some-number_in-2.ensures in
    let arena = arena_good c.in-Some-number_in.arena file a.0 a.1
    (omega (arith, c.if-arena-lt-SMALLEST_ARENA.false), omega (arith, c.if-arena-gt-LARGEST_ARENA.false), omega (arith, c.if-arena-ne0.false)) in
    let slots = slots_good c.in-Some-number_in-2.slots file s.0 s.1 (omega (arith, c.if-slots-eq0.false), omega (arith, c.from.ensures, c.if-slots-from.false)) in
    bad_admitted file (c.in_default.ensures file is) arena slots (λ lawful. lacks 24 c.args.head.now file (omega arith) is c.in_default-number_in-3.ensures lawful)

pub returns-in_default-number_in-4 : goal.returns-in_default-number_in-4
returns-in_default-number_in-4 c =
    λ file is.
    let a = given 8 c.in-Some-number_in.arena c.args.head.now file (omega arith) is c.in-Some-number_in.ensures in
    let s = given 16 c.in-Some-number_in-2.slots c.args.head.now file (omega arith) is c.in-Some-number_in-2.ensures in
    let n = given 24 c.in-Some-number_in-3.admitted c.args.head.now file (omega arith) is c.in-Some-number_in-3.ensures in
    let arena = arena_good c.in-Some-number_in.arena file a.0 a.1
    (omega (arith, c.if-arena-lt-SMALLEST_ARENA.false), omega (arith, c.if-arena-gt-LARGEST_ARENA.false), omega (arith, c.if-arena-ne0.false)) in
    let slots = slots_good c.in-Some-number_in-2.slots file s.0 s.1 (omega (arith, c.if-slots-eq0.false), omega (arith, c.from.ensures, c.if-slots-from.false)) in
    bad_last file (c.in_default.ensures file is) arena slots n.0 (λ lawful. lacks 32 c.args.head.now file (omega arith) is c.in_default-number_in-4.ensures lawful.0)

pub returns-then-end : goal.returns-then-end
returns-then-end c =
    λ file is.
    let head = c.args.head.now in
    let a = given 8 c.in-Some-number_in.arena head file (omega arith) is c.in-Some-number_in.ensures in
    let s = given 16 c.in-Some-number_in-2.slots head file (omega arith) is c.in-Some-number_in-2.ensures in
    let n = given 24 c.in-Some-number_in-3.admitted head file (omega arith) is c.in-Some-number_in-3.ensures in
    let e = given 32 c.in-Some-number_in-4.end head file (omega arith) is c.in-Some-number_in-4.ensures in
    let arena = arena_good c.in-Some-number_in.arena file a.0 a.1
    (omega (arith, c.if-arena-lt-SMALLEST_ARENA.false), omega (arith, c.if-arena-gt-LARGEST_ARENA.false), omega (arith, c.if-arena-ne0.false)) in
    let slots = slots_good c.in-Some-number_in-2.slots file s.0 s.1 (omega (arith, c.if-slots-eq0.false), omega (arith, c.from.ensures, c.if-slots-from.false)) in
    bad_last file (c.in_default.ensures file is) arena slots n.0
    (λ lawful.
    let b = end_bounds c.in-Some-number_in-3.admitted c.in-Some-number_in-4.end file n.1 e.1 lawful in
    elim c.then-end.branch [
      | then-end-via-then-end w ↦ omega (arith, b.0, w.if-end.true)
      | then-end-via-else-end+then-admitted-end w ↦ omega (arith, b.1, w.if-admitted-end.true)
      | then-end-via-else-end+else-admitted-end+then-admitted-min w ↦ omega (arith, b.2, w.min.ensures, w.if-admitted-min.true)
    ])

pub returns-in_default-number_in-5 : goal.returns-in_default-number_in-5
returns-in_default-number_in-5 c =
    λ file is.
    let head = c.args.head.now in
    let a = given 8 c.in-Some-number_in.arena head file (omega arith) is c.in-Some-number_in.ensures in
    let s = given 16 c.in-Some-number_in-2.slots head file (omega arith) is c.in-Some-number_in-2.ensures in
    let n = given 24 c.in-Some-number_in-3.admitted head file (omega arith) is c.in-Some-number_in-3.ensures in
    let e = given 32 c.in-Some-number_in-4.end head file (omega arith) is c.in-Some-number_in-4.ensures in
    let arena = arena_good c.in-Some-number_in.arena file a.0 a.1
    (omega (arith, c.if-arena-lt-SMALLEST_ARENA.false), omega (arith, c.if-arena-gt-LARGEST_ARENA.false), omega (arith, c.if-arena-ne0.false)) in
    let slots = slots_good c.in-Some-number_in-2.slots file s.0 s.1 (omega (arith, c.if-slots-eq0.false), omega (arith, c.from.ensures, c.if-slots-from.false)) in
    let last = end_good c.in-Some-number_in-3.admitted c.in-Some-number_in-4.end file e.0 n.1 e.1
    (omega (arith, c.if-end.false), omega (arith, c.if-admitted-end.false), omega (arith, c.min.ensures, c.if-admitted-min.false)) in
    bad_count file (c.in_default.ensures file is) arena slots n.0 last (λ lawful. lacks 40 head file (omega arith) is c.in_default-number_in-5.ensures lawful.0)

pub returns-then-count-slots : goal.returns-then-count-slots
returns-then-count-slots c =
    λ file is.
    let head = c.args.head.now in
    let a = given 8 c.in-Some-number_in.arena head file (omega arith) is c.in-Some-number_in.ensures in
    let s = given 16 c.in-Some-number_in-2.slots head file (omega arith) is c.in-Some-number_in-2.ensures in
    let n = given 24 c.in-Some-number_in-3.admitted head file (omega arith) is c.in-Some-number_in-3.ensures in
    let e = given 32 c.in-Some-number_in-4.end head file (omega arith) is c.in-Some-number_in-4.ensures in
    let arena = arena_good c.in-Some-number_in.arena file a.0 a.1
    (omega (arith, c.if-arena-lt-SMALLEST_ARENA.false), omega (arith, c.if-arena-gt-LARGEST_ARENA.false), omega (arith, c.if-arena-ne0.false)) in
    let slots = slots_good c.in-Some-number_in-2.slots file s.0 s.1 (omega (arith, c.if-slots-eq0.false), omega (arith, c.from.ensures, c.if-slots-from.false)) in
    let last = end_good c.in-Some-number_in-3.admitted c.in-Some-number_in-4.end file e.0 n.1 e.1
    (omega (arith, c.if-end.false), omega (arith, c.if-admitted-end.false), omega (arith, c.min.ensures, c.if-admitted-min.false)) in
    let k = given 40 c.in-Some-number_in-5.count head file (omega arith) is c.in-Some-number_in-5.ensures in
    bad_count file (c.in_default.ensures file is) arena slots n.0 last
    (λ lawful. let le = count_bound c.in-Some-number_in-5.count c.in-Some-number_in-2.slots file k.1 s.1 lawful in omega (arith, le, c.if-count-slots.true))

pub returns : goal.returns
returns c =
    λ file is.
    let head = c.args.head.now in
    let a = given 8 c.in-Some-number_in.arena head file (omega arith) is c.in-Some-number_in.ensures in
    let s = given 16 c.in-Some-number_in-2.slots head file (omega arith) is c.in-Some-number_in-2.ensures in
    let n = given 24 c.in-Some-number_in-3.admitted head file (omega arith) is c.in-Some-number_in-3.ensures in
    let e = given 32 c.in-Some-number_in-4.end head file (omega arith) is c.in-Some-number_in-4.ensures in
    let arena = arena_good c.in-Some-number_in.arena file a.0 a.1
    (omega (arith, c.if-arena-lt-SMALLEST_ARENA.false), omega (arith, c.if-arena-gt-LARGEST_ARENA.false), omega (arith, c.if-arena-ne0.false)) in
    let slots = slots_good c.in-Some-number_in-2.slots file s.0 s.1 (omega (arith, c.if-slots-eq0.false), omega (arith, c.from.ensures, c.if-slots-from.false)) in
    let last = end_good c.in-Some-number_in-3.admitted c.in-Some-number_in-4.end file e.0 n.1 e.1
    (omega (arith, c.if-end.false), omega (arith, c.if-admitted-end.false), omega (arith, c.min.ensures, c.if-admitted-min.false)) in
    let k = given 40 c.in-Some-number_in-5.count head file (omega arith) is c.in-Some-number_in-5.ensures in
    record {
      opened = c.in_default.ensures file is;
      arena_lawful = arena;
      slots_lawful = slots;
      admitted_lawful = n.0;
      last_lawful = last;
      count_lawful = count_good c.in-Some-number_in-5.count c.in-Some-number_in-2.slots file k.0 k.1 s.1 (omega (arith, c.if-count-slots.false));
      arena = a.1;
      slots = s.1;
      admitted = n.1;
      end = e.1;
      last = c.last_of.ensures ∙ e.1;
      count = k.1;
    }
