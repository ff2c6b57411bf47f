use Rattle.std.proofs.lemmas.Result.{on_ok_weaker}
use Rattle.ldm_outside.specs.declared.store.FileRead.TheVariants as read
use Rattle.ldm_check.proofs.conf_file.Search.look_at_file.Goals as goal

pub returns-in-Bytes-clause-told : goal.returns-in-Bytes-clause-told
returns-in-Bytes-clause-told g c =
    let mid = g.F.Store.tells c.read_file.new.self in
    rw c.in-Pqact.is
    (on_ok_weaker c.look_at_entries.result (λ tells. record { answer = read.Bytes c.in-Bytes.bytes; mid = mid; reads = c.in-Bytes.ensures.read; tells = tells })
    (rw c.as_slice-in-Pqact.ensures.value at (c.look_at_entries.ensures mid)))
