-- Histories that are appended to.
use Rattle.std.proofs.Common.{◌≡◌, List, [], ◌∷◌, ◌++◌, refl}
use Rattle.std.specs.Prelude.{◌↔◌}
use Rattle.ldm_model.specs.declared.event.Entry.{Entry}
use Rattle.ldm_model.specs.State.{State}
use Rattle.ldm_model.specs.History.{after_entries, next_entry, IsLegalFrom}

pub after_entries-append : (front behind : List Entry) (s : State) → after_entries s (front ++ behind) ≡ after_entries (after_entries s front) behind
after_entries-append [] behind s = refl
after_entries-append (entry ∷ front) behind s = after_entries-append front behind (next_entry s entry).state

pub IsLegalFrom-append : (front behind : List Entry) (s : State) → IsLegalFrom s (front ++ behind) ↔ (IsLegalFrom s front × IsLegalFrom (after_entries s front) behind)
IsLegalFrom-append [] behind s = (λ h. (tt, h), λ h. h.1)
IsLegalFrom-append (entry ∷ front) behind s =
    let more = IsLegalFrom-append front behind (next_entry s entry).state in
    (λ h. let parts = more.0 h.1 in ((h.0, parts.0), parts.1), λ h. (h.0.0, more.1 (h.0.1, h.1)))
