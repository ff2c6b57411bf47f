use Rattle.std.proofs.Common.{◌≡◌, vec_len, vec_capacity}
use Rattle.ldm_shared.proofs.OpeningPlaces.{IsDealt}
use Rattle.ldm_shared.proofs.shared.Shared.create_keyed.Given as goal

abbrev pub invariant-loop-i : goal.invariant-loop-i
invariant-loop-i l =
    IsDealt l.shared (record { arena = l.fn.arena; slots = l.fn.slots; passes = l.fn.passes }) l.i l.seat l.all.items × (vec_len l.all ≡ l.i) × (vec_capacity l.all ≡ l.passes)
