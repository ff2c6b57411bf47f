use Rattle.std.proofs.Common.{◌+◌, subst, arith}
use Rattle.ldm_book.specs.Restoring.{Backup, IsRestored, IsRestoreFault, backup}
use Rattle.ldm_book.specs.declared.fault.RestoreFault.{RestoreFault}
use Rattle.ldm_book.specs.declared.fault.RestoreFault.TheVariants.{BadArena, BadSlots, BadCount, BadRow}
use Rattle.ldm_image.proofs.RestoreLemmas.{given_backup, queue_is, no_bad_arena, no_bad_slots, no_bad_count, row_is_bad}
use Rattle.ldm_image.proofs.open.restore.Goals as goal

pub overflow_add-result : goal.overflow_add-result
overflow_add-result c =
    let sizes = c.args.sizes.now in
    let given = backup c.args.arena.items sizes.slots sizes.admitted sizes.last c.deref.result.now in
    let bad = (subst (λ (f : RestoreFault). IsRestoreFault given f) c.in-Err-BadRow.field-0-is c.in-Err-BadRow.ensures.faults).1 in
    omega (arith, c.row_start.ensures, c.place_of.ensures.within, bad.inside, c.deref.type_inv.1)

pub returns-in-Ok-clause-restores : goal.returns-in-Ok-clause-restores
returns-in-Ok-clause-restores c =
    λ file holds.
    let rows = c.args.rows.now in
    let same = given_backup c.args.sizes.now rows.notes.items rows.fault c.args.arena.items file holds c.deref.result.now c.deref.ensures.value in
    queue_is c.args.sizes.now rows.notes.items rows.fault c.args.arena.items file holds c.in-Ok.book
    (subst (λ (b : Backup). IsRestored b c.in-Ok.book) same c.in-Ok.ensures.restored)

pub returns-in-Err-BadArena-clause-restores : goal.returns-in-Err-BadArena-clause-restores
returns-in-Err-BadArena-clause-restores c =
    λ file holds.
    let sizes = c.args.sizes.now in
    let rows = c.args.rows.now in
    let given = backup c.args.arena.items sizes.slots sizes.admitted sizes.last c.deref.result.now in
    let same = given_backup sizes rows.notes.items rows.fault c.args.arena.items file holds c.deref.result.now c.deref.ensures.value in
    let arena = c.in-Err-BadArena.field-0-0 in
    let faulty = subst (λ (f : RestoreFault). IsRestoreFault given f) c.in-Err-BadArena.field-0-is c.in-Err-BadArena.ensures.faults in
    absurd (no_bad_arena sizes rows.notes.items rows.fault c.args.arena.items file holds arena
    (subst (λ (b : Backup). IsRestoreFault b (BadArena arena)) same faulty))

pub returns-in-Err-BadSlots-clause-restores : goal.returns-in-Err-BadSlots-clause-restores
returns-in-Err-BadSlots-clause-restores c =
    λ file holds.
    let sizes = c.args.sizes.now in
    let rows = c.args.rows.now in
    let given = backup c.args.arena.items sizes.slots sizes.admitted sizes.last c.deref.result.now in
    let same = given_backup sizes rows.notes.items rows.fault c.args.arena.items file holds c.deref.result.now c.deref.ensures.value in
    let faulty = subst (λ (f : RestoreFault). IsRestoreFault given f) c.in-Err-BadSlots.field-0-is c.in-Err-BadSlots.ensures.faults in
    absurd (no_bad_slots sizes rows.notes.items rows.fault c.args.arena.items file holds c.in-Err-BadSlots.field-0-0
    (subst (λ (b : Backup). IsRestoreFault b (BadSlots c.in-Err-BadSlots.field-0-0)) same faulty))

pub returns-in-Err-BadCount-clause-restores : goal.returns-in-Err-BadCount-clause-restores
returns-in-Err-BadCount-clause-restores c =
    λ file holds.
    let sizes = c.args.sizes.now in
    let rows = c.args.rows.now in
    let given = backup c.args.arena.items sizes.slots sizes.admitted sizes.last c.deref.result.now in
    let same = given_backup sizes rows.notes.items rows.fault c.args.arena.items file holds c.deref.result.now c.deref.ensures.value in
    let faulty = subst (λ (f : RestoreFault). IsRestoreFault given f) c.in-Err-BadCount.field-0-is c.in-Err-BadCount.ensures.faults in
    absurd (no_bad_count sizes rows.notes.items rows.fault c.args.arena.items file holds
    (subst (λ (b : Backup). IsRestoreFault b BadCount) same faulty))

pub returns-in-Err-BadRow-clause-restores : goal.returns-in-Err-BadRow-clause-restores
returns-in-Err-BadRow-clause-restores c =
    λ file holds.
    let sizes = c.args.sizes.now in
    let rows = c.args.rows.now in
    let given = backup c.args.arena.items sizes.slots sizes.admitted sizes.last c.deref.result.now in
    let same = given_backup sizes rows.notes.items rows.fault c.args.arena.items file holds c.deref.result.now c.deref.ensures.value in
    let row = c.in-Err-BadRow.i in
    let why = c.in-Err-BadRow.fault in
    let faulty = subst (λ (f : RestoreFault). IsRestoreFault given f) c.in-Err-BadRow.field-0-is c.in-Err-BadRow.ensures.faults in
    row_is_bad sizes rows.notes.items rows.fault c.args.arena.items file holds row (c.row_start.result + c.place_of.result) why
    (subst (λ (b : Backup). IsRestoreFault b (BadRow row why)) same faulty)
    (λ is. let place = c.place_of.ensures.place is in omega (arith, c.row_start.ensures, place))
