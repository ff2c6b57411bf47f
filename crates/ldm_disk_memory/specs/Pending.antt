-- How a file in memory keeps what is pending.
use Rattle.std.specs.Prelude.{ℕ, List, [], ◌∷◌, ◌++◌, flat_map}
use Rattle.ldm_disk_memory.specs.declared.mem_file.Change.{Change}
use Rattle.ldm_disk_memory.specs.declared.mem_file.Epoch.{Epoch}
use Rattle.ldm_disk_memory.specs.MemDisk.{Fragile, MemFileState, settled, changed}

-- the bytes after the last sync: as it reads, where nothing changed since
abbrev pub base_of : List ℕ → List ℕ → List Change → List ℕ
base_of seen synced [] = seen
base_of seen synced (change ∷ since) = synced

-- what a crash may leave after these changes
abbrev pub after_changes : Fragile → List Change → Fragile
after_changes fragile [] = fragile
after_changes fragile (change ∷ since) = after_changes (changed change fragile) since

-- what it might leave before each of them
abbrev pub before_changes : Fragile → List Change → List Fragile
before_changes fragile [] = []
before_changes fragile (change ∷ since) = fragile ∷ before_changes (changed change fragile) since

-- the moments from a sync on, up to these changes
abbrev pub moments_of : List ℕ → List Change → List Fragile
moments_of synced since = before_changes (settled synced) since ++ after_changes (settled synced) since ∷ []

-- those from one sync up to the next
abbrev pub moments_of_epoch : Epoch → List Fragile
moments_of_epoch epoch = moments_of epoch.synced.items epoch.since.items

-- the file, by the bytes that it reads as, those after the last sync, the changes since, and what was before
abbrev pub file_of : List ℕ → List ℕ → List Change → List Epoch → MemFileState
file_of seen synced since past = record {
  bytes = seen;
  now = after_changes (settled (base_of seen synced since)) since;
  past = flat_map moments_of_epoch past ++ before_changes (settled (base_of seen synced since)) since;
}
