-- How the fields of a file in memory go on, call by call.
use Rattle.std.proofs.Common.{◌≡◌, ◌⊎◌, inl, inr, ℕ, zero, suc, ◌+◌, ◌-◌, ◌<◌, ◌≤◌, true, List, [], ◌∷◌, ◌++◌, length, take, drop, replicate, get_or, refl, sym, ◌∙◌, ap, subst, arith, length-append, length-take, length-drop, append_assoc}
use borrow.Rule.Slice.PartMut.{put_mid, post_of}
use Rattle.std.proofs.lemmas.List.{length-replicate, get_or_append_left, get_or-take, get_or-drop, drop-drop, drop_all, take-replicate, take_all, append-nil}
use Rattle.std.proofs.lemmas.Slice.{drop-put_mid}
use Rattle.ldm_disk_memory.specs.declared.mem_file.Change.{Change}
use Rattle.ldm_disk_memory.specs.declared.mem_file.Epoch.{Epoch}
use Rattle.ldm_disk.specs.Model.{written_at, cut_to}
use Rattle.ldm_disk.specs.Calls.{SettlesFile}
use Rattle.ldm_disk_memory.specs.MemDisk.{MemFileState, settled, leaves, told_by_file, file_changed, file_written, file_cut, change_of_write}
use Rattle.ldm_disk_memory.specs.Pending.{base_of, file_of}
use Rattle.ldm_disk_memory.proofs.MemMoments.{file_push, file_synced, settled_itself, synced_settles}

-- where nothing changed since the last sync
pub first_leaves : (seen synced : List ℕ) (since : List Change) (past : List Epoch) → since ≡ [] → leaves (file_of seen synced since past).now seen ≡ true
first_leaves seen synced [] past none = settled_itself seen
first_leaves seen synced (change ∷ since) past none = absurd (cc none)

pub first_settled : (seen synced : List ℕ) (since : List Change) (past : List Epoch) → since ≡ [] → (file_of seen synced since past).now ≡ settled seen
first_settled seen synced [] past none = refl
first_settled seen synced (change ∷ since) past none = absurd (cc none)

pub sync_idle : (s : MemFileState) (seen synced : List ℕ) (since : List Change) (past : List Epoch) → s ≡ file_of seen synced since past → since ≡ []
    → SettlesFile (told_by_file s) (told_by_file s)
sync_idle s seen synced since past is none =
    let file = file_of seen synced since past in
    let settles : SettlesFile (told_by_file file) (told_by_file file) =
    synced_settles file file (first_leaves seen synced since past none) (inl (refl, first_settled seen synced since past none)) in
    subst (λ (f : MemFileState). SettlesFile (told_by_file f) (told_by_file f)) (sym is) settles

-- where something did, the bytes after that sync are kept
pub base_some : (seen synced : List ℕ) (since : List Change) → 0 < length since → base_of seen synced since ≡ synced
base_some seen synced [] some = absurd (omega arith)
base_some seen synced (change ∷ since) some = refl

abbrev synced_to : MemFileState → MemFileState
synced_to s = record { bytes = s.bytes; now = settled s.bytes; past = s.past ++ s.now ∷ [] }

pub sync_done : (s : MemFileState) (seen synced other : List ℕ) (since since' : List Change) (past past' : List Epoch) (epoch : Epoch) → s ≡ file_of seen synced since past → 0 < length since
    → since' ≡ [] → past' ≡ past ++ epoch ∷ [] → epoch.synced.items ≡ synced → epoch.since.items ≡ since → file_of seen other since' past' ≡ synced_to s
sync_done s seen synced other since since' past past' epoch is some none more base changes =
    let file = file_of seen synced since past in
    let kept : epoch.synced.items ≡ base_of seen synced since = base ∙ sym (base_some seen synced since some) in
    ap (λ (l : List Change). file_of seen other l past') none ∙ ap (λ (l : List Epoch). file_of seen other [] l) more
    ∙ file_synced seen other synced since past epoch kept changes ∙ ap synced_to (sym is)

-- one change more
pub change_done : (s : MemFileState) (seen next synced synced' : List ℕ) (since since' : List Change) (change : Change) (past : List Epoch) → s ≡ file_of seen synced since past
    → synced' ≡ base_of seen synced since → since' ≡ since ++ change ∷ [] → file_of next synced' since' past ≡ file_changed change next s
change_done s seen next synced synced' since since' change past is base more =
    ap (λ (l : List Change). file_of next synced' l past) more ∙ ap (λ (b : List ℕ). file_of next b (since ++ change ∷ []) past) base
    ∙ file_push seen next synced since change past ∙ ap (file_changed change next) (sym is)

-- a piece that is not empty
pub write_done : (at : ℕ) (piece : List ℕ) (s : MemFileState) → 0 < length piece → file_changed (change_of_write at piece s.bytes) (written_at at piece s.bytes) s ≡ file_written at piece s
write_done at [] s some = absurd (omega arith)
write_done at (byte ∷ piece) s some = refl

-- what a part of a list was put into, outside of the part
pub put_outside : (a k : ℕ) (xs ys : List ℕ) → a + k ≤ length xs → length ys ≡ k → (place : ℕ) → (place < a) ⊎ (a + k ≤ place) → get_or (put_mid a k xs ys) place 0 ≡ get_or xs place 0
put_outside a k xs ys within long place (inl below) =
    get_or_append_left (take a xs) (ys ++ post_of a k xs) 0 place (omega (arith, length-take a xs)) ∙ get_or-take a xs place 0 below
put_outside a k xs ys within long place (inr above) =
    let n = place - (a + k) in
    let there : (a + k) + n ≡ place = omega arith in
    ap (λ (p : ℕ). get_or (put_mid a k xs ys) p 0) (sym there) ∙ sym (get_or-drop (a + k) (put_mid a k xs ys) n 0)
    ∙ ap (λ (l : List ℕ). get_or l n 0) (drop-put_mid a k xs ys (a + k) (omega arith) (omega arith) long)
    ∙ get_or-drop (a + k) xs n 0 ∙ ap (λ (p : ℕ). get_or xs p 0) there

pub length-put : (a k : ℕ) (xs ys : List ℕ) → a + k ≤ length xs → length ys ≡ k → length (put_mid a k xs ys) ≡ length xs
length-put a k xs ys within long =
    omega (arith, length-append (take a xs) (ys ++ post_of a k xs), length-append ys (post_of a k xs), length-take a xs, length-drop k (drop a xs), length-drop a xs)

take_over : (n : ℕ) (xs ys : List ℕ) → take n (xs ++ ys) ≡ take n xs ++ take (n - length xs) ys
take_over zero xs ys =
    let none : 0 - length xs ≡ 0 = omega arith in
    ap (λ (m : ℕ). take m ys) (sym none)
take_over (suc n) [] ys =
    let all : suc n - 0 ≡ suc n = omega arith in
    ap (λ (m : ℕ). take m ys) (sym all)
take_over (suc n) (x ∷ xs) ys =
    let fewer : suc n - suc (length xs) ≡ n - length xs = omega arith in
    ap (λ (l : List ℕ). x ∷ l) (take_over n xs ys) ∙ ap (λ (m : ℕ). x ∷ (take n xs ++ take m ys)) (sym fewer)

-- a piece that was put into a list that is long enough
pub put_within : (old piece : List ℕ) (at end : ℕ) → 0 < length piece → end ≡ at + length piece → end ≤ length old → put_mid at (end - at) old piece ≡ written_at at piece old
put_within old [] at end some is within = absurd (omega arith)
put_within old (byte ∷ rest) at end some is within =
    let piece = byte ∷ rest in
    let none : at - length old ≡ 0 = omega (arith, is, within) in
    let k : at + (end - at) ≡ at + length piece = omega (arith, is) in
    let back : drop (end - at) (drop at old) ≡ drop (at + length piece) old = drop-drop (end - at) at old ∙ ap (λ (n : ℕ). drop n old) k in
    ap (λ (l : List ℕ). take at old ++ (piece ++ l)) back
    ∙ sym (append_assoc (take at old) piece (drop (at + length piece) old))
    ∙ ap (λ (l : List ℕ). l ++ piece ++ drop (at + length piece) old) (sym (append-nil (take at old)))
    ∙ ap (λ (n : ℕ). take at old ++ replicate n 0 ++ piece ++ drop (at + length piece) old) (sym none)

-- a piece that was put into a list that was filled up for it
pub put_over : (old piece : List ℕ) (at end : ℕ) → 0 < length piece → end ≡ at + length piece → length old < end
    → put_mid at (end - at) (take end old ++ replicate (end - length old) 0) piece ≡ written_at at piece old
put_over old [] at end some is over = absurd (omega arith)
put_over old (byte ∷ rest) at end some is over =
    let piece = byte ∷ rest in
    let zeros : List ℕ = replicate (end - length old) 0 in
    let xs : List ℕ = old ++ zeros in
    let all : take end old ≡ old = take_all end old (omega arith) in
    let few : at - length old ≤ end - length old = omega (arith, is) in
    let front : take at xs ≡ take at old ++ replicate (at - length old) 0 =
    take_over at old zeros ∙ ap (λ (l : List ℕ). take at old ++ l) (take-replicate (at - length old) (end - length old) 0 few) in
    let none : drop (end - at) (drop at xs) ≡ [] =
    drop-drop (end - at) at xs ∙ drop_all (at + (end - at)) xs (omega (arith, is, length-append old zeros, length-replicate {A = ℕ} (end - length old) 0)) in
    let nothing : drop (at + length piece) old ≡ [] = drop_all (at + length piece) old (omega (arith, is)) in
    ap (λ (l : List ℕ). put_mid at (end - at) (l ++ zeros) piece) all
    ∙ ap (λ (l : List ℕ). l ++ (piece ++ drop (end - at) (drop at xs))) front
    ∙ ap (λ (l : List ℕ). take at old ++ replicate (at - length old) 0 ++ (piece ++ l)) (none ∙ sym nothing)
    ∙ sym (append_assoc (take at old ++ replicate (at - length old) 0) piece (drop (at + length piece) old))

-- the file by its fields
module _ (s : MemFileState) (seen synced : List ℕ) (since : List Change) (past : List Epoch) (is : s ≡ file_of seen synced since past) where
  pub reads_as : leaves (file_of seen synced since past).now seen ≡ true → leaves s.now s.bytes ≡ true
  reads_as reads = subst (λ (f : MemFileState). leaves f.now f.bytes ≡ true) (sym is) reads

  pub bytes_as : s.bytes ≡ seen
  bytes_as = ap (λ (f : MemFileState). f.bytes) is

  -- after a write
  pub write_whole : (at : ℕ) (piece next synced' : List ℕ) (since' : List Change) (change : Change) → 0 < length piece
      → synced' ≡ base_of seen synced since → since' ≡ since ++ change ∷ [] → change ≡ change_of_write at piece s.bytes → next ≡ written_at at piece s.bytes
      → file_of next synced' since' past ≡ file_written at piece s
  write_whole at piece next synced' since' change some base more same done =
      change_done s seen next synced synced' since since' change past is base more
      ∙ ap (λ (c : Change). file_changed c next s) same
      ∙ ap (λ (n : List ℕ). file_changed (change_of_write at piece s.bytes) n s) done
      ∙ write_done at piece s some

  -- after a cut
  pub cut_whole : (len : ℕ) (next synced' : List ℕ) (since' : List Change) (change : Change)
      → synced' ≡ base_of seen synced since → since' ≡ since ++ change ∷ [] → change ≡ record { start = length s.bytes; end = len; len = len } → next ≡ cut_to len s.bytes
      → file_of next synced' since' past ≡ file_cut len s
  cut_whole len next synced' since' change base more same done =
      change_done s seen next synced synced' since since' change past is base more
      ∙ ap (λ (c : Change). file_changed c next s) same
      ∙ ap (λ (n : List ℕ). file_changed (record { start = length s.bytes; end = len; len = len }) n s) done

pub same_change : (start end len start' end' len' : ℕ) → start ≡ start' → end ≡ end' → len ≡ len'
    → let left : Change = record { start = start; end = end; len = len } in left ≡ record { start = start'; end = end'; len = len' }
same_change start end len start' end' len' p q r i = record { start = p i; end = q i; len = r i }
