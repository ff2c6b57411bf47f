-- How what a crash may leave goes on from moment to moment.
use Rattle.std.proofs.Common.{◌≡◌, ◌⊎◌, inl, inr, ⊎_elim, ℕ, zero, suc, ◌+◌, ◌==◌, ◌<◌, ◌≤◌, Bool, true, false, ◌||◌, List, [], ◌∷◌, ◌++◌, length, take, drop, get_or, flat_map, refl, sym, ◌∙◌, ap, subst, arith, length-append, append_assoc, eq-eqb}
use Rattle.std.specs.List.{list_any}
use Rattle.std.proofs.lemmas.Bool.{or_cases, or_left, or_right, and_parts, and_from, eqb-true}
use Rattle.std.proofs.lemmas.List.{append-nil, flat_map_more, take_more}
use Rattle.std.proofs.lemmas.List.Folds.{list_any-append}
use Rattle.std.proofs.lemmas.Slice.Eq.{bytes_eq-Decides}
use Rattle.ldm_disk_memory.specs.declared.mem_file.Change.{Change}
use Rattle.ldm_disk_memory.specs.declared.mem_file.Epoch.{Epoch}
use Rattle.ldm_disk.specs.Told.{FileRecord, IsSettled}
use Rattle.ldm_disk.specs.Model.{Step, IsStep, Stays}
use Rattle.ldm_disk.specs.Moments.{Elapses, Goes}
use Rattle.ldm_disk.specs.Calls.{SettlesFile}
use Rattle.ldm_disk_memory.specs.MemDisk.{Fragile, MemFileState, settled, changed, leaves, fits, loosened, told_by_file, file_changed, FileSynced}
use Rattle.ldm_disk_memory.specs.Pending.{base_of, after_changes, before_changes, moments_of, moments_of_epoch, file_of}
use Rattle.ldm_disk_memory.proofs.Pieces.{fits_itself, fits_only}

-- one change more
after_push : (fragile : Fragile) (since : List Change) (change : Change) → after_changes fragile (since ++ change ∷ []) ≡ changed change (after_changes fragile since)
after_push fragile [] change = refl
after_push fragile (first ∷ since) change = after_push (changed first fragile) since change

before_push : (fragile : Fragile) (since : List Change) (change : Change) → before_changes fragile (since ++ change ∷ []) ≡ before_changes fragile since ++ after_changes fragile since ∷ []
before_push fragile [] change = refl
before_push fragile (first ∷ since) change = ap (λ (l : List Fragile). fragile ∷ l) (before_push (changed first fragile) since change)

base_push : (seen synced : List ℕ) (since : List Change) (change : Change) → base_of seen synced (since ++ change ∷ []) ≡ synced
base_push seen synced [] change = refl
base_push seen synced (first ∷ since) change = refl

-- the bytes after the last sync may be kept from the first change on, or before it
base_again : (seen synced : List ℕ) (since : List Change) → base_of seen (base_of seen synced since) since ≡ base_of seen synced since
base_again seen synced [] = refl
base_again seen synced (first ∷ since) = refl

abbrev built : List ℕ → List ℕ → List Change → List Epoch → MemFileState
built seen base since past = record {
  bytes = seen;
  now = after_changes (settled base) since;
  past = flat_map moments_of_epoch past ++ before_changes (settled base) since;
}

pub file_same_base : (seen synced other : List ℕ) (since : List Change) (past : List Epoch) → base_of seen other since ≡ base_of seen synced since
    → file_of seen other since past ≡ file_of seen synced since past
file_same_base seen synced other since past same = ap (λ (base : List ℕ). built seen base since past) same

pub file_again : (seen synced : List ℕ) (since : List Change) (past : List Epoch) → file_of seen (base_of seen synced since) since past ≡ file_of seen synced since past
file_again seen synced since past = file_same_base seen synced (base_of seen synced since) since past (base_again seen synced since)

pub file_push : (seen next synced : List ℕ) (since : List Change) (change : Change) (past : List Epoch)
    → file_of next (base_of seen synced since) (since ++ change ∷ []) past ≡ file_changed change next (file_of seen synced since past)
file_push seen next synced since change past =
    let base = base_of seen synced since in
    ap (λ (b : List ℕ). built next b (since ++ change ∷ []) past) (base_push next base since change)
    ∙ (λ i. record {
      bytes = next;
      now = after_push (settled base) since change i;
      past = (ap (λ (l : List Fragile). flat_map moments_of_epoch past ++ l) (before_push (settled base) since change)
          ∙ sym (append_assoc (flat_map moments_of_epoch past) (before_changes (settled base) since) (after_changes (settled base) since ∷ []))) i;
    })

-- a sync ends an epoch
pub file_synced : (seen other synced : List ℕ) (since : List Change) (past : List Epoch) (epoch : Epoch) → epoch.synced.items ≡ base_of seen synced since → epoch.since.items ≡ since
    → file_of seen other [] (past ++ epoch ∷ [])
    ≡ record { bytes = seen; now = settled seen; past = (file_of seen synced since past).past ++ (file_of seen synced since past).now ∷ [] }
file_synced seen other synced since past epoch is_base is_since =
    let base = base_of seen synced since in
    let moments : moments_of_epoch epoch ≡ moments_of base since = cc (is_base, is_since) in
    let before : flat_map moments_of_epoch (past ++ epoch ∷ []) ≡ flat_map moments_of_epoch past ++ moments_of base since =
    sym (flat_map_more moments_of_epoch [] past epoch) ∙ ap (λ (l : List Fragile). flat_map moments_of_epoch past ++ l) moments in
    λ i. record {
      bytes = seen;
      now = settled seen;
      past = (append-nil (flat_map moments_of_epoch (past ++ epoch ∷ [])) ∙ before
          ∙ sym (append_assoc (flat_map moments_of_epoch past) (before_changes (settled base) since) (after_changes (settled base) since ∷ []))) i;
    }

-- of settled bytes a crash leaves just these
pub settled_itself : (bytes : List ℕ) → leaves (settled bytes) bytes ≡ true
settled_itself bytes = and_from _ _ (or_left _ _ (eq-eqb (length bytes) (length bytes) refl)) (fits_itself bytes)

pub settled_only : (bytes left : List ℕ) → leaves (settled bytes) left ≡ true → left ≡ bytes
settled_only bytes left leaves_it =
    let parts = and_parts _ _ leaves_it in
    let long : length bytes ≡ length left = ⊎_elim (eqb-true _ _) (λ none. absurd (cc none)) (or_cases _ _ parts.0) in
    fits_only bytes left long parts.1

-- what a crash may leave: the file as it reads, or what is pending
left_cases : (s : MemFileState) (left : List ℕ) → (told_by_file s).may_leave left ≡ true → (left ≡ s.bytes) ⊎ (leaves s.now left ≡ true)
left_cases s left leaves_it = ⊎_elim (λ same. inl ((bytes_eq-Decides left s.bytes).0 same)) (λ pending. inr pending) (or_cases _ _ leaves_it)

pub leaves_as_read : (s : MemFileState) (left : List ℕ) → left ≡ s.bytes → (told_by_file s).may_leave left ≡ true
leaves_as_read s left same = or_left _ _ ((bytes_eq-Decides left s.bytes).1 same)

pub leaves_pending : (s : MemFileState) (left : List ℕ) → leaves s.now left ≡ true → (told_by_file s).may_leave left ≡ true
leaves_pending s left pending = or_right _ _ pending

-- all that a crash leaves is pending, where the file as it reads is
pub all_pending : (s : MemFileState) (left : List ℕ) → leaves s.now s.bytes ≡ true → (told_by_file s).may_leave left ≡ true → leaves s.now left ≡ true
all_pending s left reads leaves_it =
    ⊎_elim (λ (same : left ≡ s.bytes). subst (λ (l : List ℕ). leaves s.now l ≡ true) (sym same) reads) (λ pending. pending) (left_cases s left leaves_it)

pub settled_file : (s : MemFileState) → s.now ≡ settled s.bytes → IsSettled (told_by_file s)
settled_file s is left leaves_it =
    ⊎_elim (λ same. same) (λ pending. settled_only s.bytes left (subst (λ (f : Fragile). leaves f left ≡ true) is pending)) (left_cases s left leaves_it)

-- nothing happened
pub nothing_elapses : (s : FileRecord) → Elapses s s
nothing_elapses s = record { later = omega arith; nothing_else = λ t left le since. inl since; keeps = λ t left le since. since }

pub nothing_goes : (step : Step) → ((left : List ℕ) → IsStep step left left) → (s : FileRecord) → Goes step s s
nothing_goes step same s = record { crash = λ left leaves_it. (left, leaves_it, same left); time = nothing_elapses s }

drop_push : (n : ℕ) (past : List Fragile) (now : Fragile) → n ≤ length past → drop n (past ++ now ∷ []) ≡ drop n past ++ now ∷ []
drop_push zero past now le = refl
drop_push (suc n) [] now le = absurd (omega arith)
drop_push (suc n) (first ∷ past) now le = drop_push n past now (omega arith)

abbrev among : List ℕ → List Fragile → Bool
among left moments = list_any (λ moment. leaves moment left) moments

-- one moment more
pub moment_elapses : (old new : MemFileState) → leaves old.now old.bytes ≡ true → new.past ≡ old.past ++ old.now ∷ [] → Elapses (told_by_file old) (told_by_file new)
moment_elapses old new reads is = record {
  later = omega (arith, ap length is, length-append old.past (old.now ∷ []));
  nothing_else = λ t left le since. ⊎_elim (λ now. inr now)
      (λ before. inl (⊎_elim (λ earlier. or_right _ _ earlier) (λ last. or_left _ _ (leaves_pending old left (only_one (leaves old.now left) last)))
      (or_cases _ _ (subst (λ b. b ≡ true) (split t left le) before))))
      (or_cases _ _ since);
  keeps = λ t left le since. or_right _ _ (subst (λ b. b ≡ true) (sym (split t left le))
      (⊎_elim (λ now. or_right _ _ (or_left _ _ (all_pending old left reads now))) (λ earlier. or_left _ _ earlier) (or_cases _ _ since)));
}
  where
    only_one : (b : Bool) → (b || false) ≡ true → b ≡ true
    only_one b last = ⊎_elim (λ is. is) (λ none. absurd (cc none)) (or_cases b false last)

    split : (t : ℕ) (left : List ℕ) → t ≤ length old.past → among left (drop t new.past) ≡ (among left (drop t old.past) || among left (old.now ∷ []))
    split t left le =
        ap (λ (l : List Fragile). among left (drop t l)) is ∙ ap (λ (l : List Fragile). among left l) (drop_push t old.past old.now le)
        ∙ list_any-append (λ moment. leaves moment left) (drop t old.past) (old.now ∷ [])

-- after a sync nothing is pending
pub synced_settles : (old new : MemFileState) → leaves old.now old.bytes ≡ true → FileSynced old new → SettlesFile (told_by_file old) (told_by_file new)
synced_settles old new reads (inl (same, was)) =
    subst (λ (s : MemFileState). SettlesFile (told_by_file old) (told_by_file s)) (sym same)
    (record { goes = nothing_goes Stays (λ left. refl) (told_by_file old); settled = settled_file old was })
synced_settles old new reads (inr is) =
    let settles : IsSettled (told_by_file new) = settled_file new (cc is) in
    record {
      goes = record {
        crash = λ left leaves_it. (left, leaves_as_read old left (settles left leaves_it ∙ ap (λ (s : MemFileState). s.bytes) is), refl);
        time = moment_elapses old new reads (ap (λ (s : MemFileState). s.past) is);
      };
      settled = settles;
    }

-- one change more, of which a crash leaves other bytes
pub spoiled_more : (base : List ℕ) (since : List Change) (i : ℕ) (d : Change) (was now : List ℕ) → i < length since
    → leaves (after_changes (settled base) (take i since)) was ≡ true → length now ≡ length was
    → fits (loosened (get_or since i d).start (get_or since i d).end (after_changes (settled base) (take i since)).stays) now ≡ true
    → leaves (after_changes (settled base) (take (i + 1) since)) now ≡ true
spoiled_more base since i d was now within leaves_it long fit =
    let before = after_changes (settled base) (take i since) in
    let lengths : list_any (λ len. len == length now) before.lengths ≡ true =
    subst (λ (n : ℕ). list_any (λ len. len == n) before.lengths ≡ true) (sym long) (and_parts _ _ leaves_it).0 in
    subst (λ (l : List Change). leaves (after_changes (settled base) l) now ≡ true) (sym (take_more since i d within))
    (subst (λ (f : Fragile). leaves f now ≡ true) (sym (after_push (settled base) (take i since) (get_or since i d)))
    (and_from _ _ (or_right _ _ lengths) fit))
