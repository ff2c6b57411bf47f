-- What a crash leaves while the gate of a file is written.
use Rattle.std.proofs.Common.{◌≡◌, ◌≢◌, inl, inr, ⊎_elim, ℕ, ◌<◌, ◌≤◌, min, max, List, [], ◌∷◌, length, take, drop, replicate, ◌++◌, ◌-◌, refl, sym, ◌∙◌, ap, subst, arith}
use Rattle.std.specs.Prelude.{slice_index, Result, Ok, Err, Option, Some, None}
use Rattle.std.proofs.lemmas.Bool.{cases_lt, cases_eq}
use Rattle.std.proofs.lemmas.List.{ext_get_or, append_assoc, length-append, length-take, length-replicate, get_or_at}
use Rattle.ldm_outside.specs.declared.fault.Failed.{Failed}
use Rattle.ldm_disk.specs.Told.{FileRecord, IsConsistent, IsSettled}
use Rattle.ldm_disk.specs.Model.{Step, IsStep, Torn, Written, PartlyWritten, written_at}
use Rattle.ldm_disk.specs.Moments.{Goes, LeavesOnly}
use Rattle.ldm_disk.specs.Calls.{KeepsFile, WritesFile, SyncsFile}
use Rattle.ldm_disk.proofs.CrashLemmas.{LeavesNow, started, goes_on, joined, weaker, follows_settled, stays_keeps, settled_leaves, still_settled}
use Rattle.ldm_image.specs.Image.{GATE, image}
use Rattle.ldm_image.specs.Saving.{IsUnclean, IsNoImage}
use Rattle.ldm_image.specs.Gates.{HasGate, IsTorn, WritesGate, LeftOfShutting, Before, Unclean, NoImage, Shuts}

torn_itself : (file : List ℕ) → IsTorn file file
torn_itself file = record { stays = λ place within there other. refl; long = inl refl }

behind_gate : (place : ℕ) → 5 ≤ place → place ≢ 5 → 6 ≤ place
behind_gate place from other = elim (cases_lt place 6) [ inl below ↦ absurd (other (omega (arith, from, below))) | inr above ↦ above ]

-- a write of the gate that came so far
torn_by : (before after : List ℕ) (part : ℕ) → part ≤ 6 → Torn (min 5 (length before)) part (max (length before) part) before after → IsTorn before after
torn_by before after part le torn = record {
  stays = λ place within there other.
      torn.stays place within there
      (elim (cases_lt place 5) [ inl below ↦ inl (omega (arith, below, within)) | inr above ↦ inr (omega (arith, le, behind_gate place above other)) ]);
  long = ⊎_elim (λ same. inl same)
      (λ new. elim (cases_lt 5 (length before)) [ inl long ↦ inl (omega (arith, new, long, le)) | inr short ↦ inr (short, omega (arith, new, short, le)) ])
      torn.long;
}

-- one call that may tear the gate, of a file of which nothing was pending
torn_goes : (step : Step) (old new : FileRecord) → IsConsistent old → IsSettled old
    → ((after : List ℕ) → IsStep step old.bytes after → IsTorn old.bytes after) → Goes step old new
    → LeavesOnly (IsTorn old.bytes) old new × LeavesNow (IsTorn old.bytes) new
torn_goes step old new consistent settled torn goes =
    let P = IsTorn old.bytes in
    let now = follows_settled P step old new settled goes.crash torn in
    (goes_on P old old new (started P old consistent (settled_leaves P old settled (torn_itself old.bytes))) goes.time now, now)

pub write_fails : (gate : ℕ) (failed : Failed) (old new : FileRecord) → IsConsistent old × IsSettled old → WritesFile (Err failed) GATE (gate ∷ []) old new
    → LeavesOnly (IsTorn old.bytes) old new
write_fails gate failed old new is goes =
    (torn_goes (PartlyWritten (min 5 (length old.bytes)) 6) old new is.0 is.1 (λ after step. torn_by old.bytes after step.0 step.1 step.2) goes).0

pub written : (done : Unit {0}) (result : Result (Unit {0}) Failed) (gate : ℕ) (old mid new : FileRecord) → IsConsistent old × IsSettled old
    → WritesFile (Ok done) GATE (gate ∷ []) old mid → SyncsFile result mid new → WritesGate result gate old new
written done (Ok synced) gate old mid new is wrote sync =
    let P = IsTorn old.bytes in
    let first = torn_goes (Written (min 5 (length old.bytes)) 6) old mid is.0 is.1 (λ after step. torn_by old.bytes after 6 (omega arith) step) wrote.1 in (
      goes_on P old mid new first.0 sync.1.goes.time (stays_keeps P mid new first.1 sync.1.goes.crash),
      sync.1.settled,
      sync.0 ∙ wrote.0,
    )
written done (Err failed) gate old mid new is wrote goes =
    let P = IsTorn old.bytes in
    let first = torn_goes (Written (min 5 (length old.bytes)) 6) old mid is.0 is.1 (λ after step. torn_by old.bytes after 6 (omega arith) step) wrote.1 in
    goes_on P old mid new first.0 goes.time (stays_keeps P mid new first.1 goes.crash)

-- a file that ends with its gate or before it is no image
short_is_none : (file : List ℕ) → length file ≤ 6 → ¬ (IsUnclean file) → IsNoImage file
short_is_none file short not = record {
  not_unclean = not;
  not_image = λ book is.
      let long : 8 ≤ length (image book) = omega arith in
      let same : length file ≡ length (image book) = ap length is.is in
      absurd (omega (arith, long, same, short));
}

same_but_gate : (before left : List ℕ) → length left ≡ length before → slice_index left GATE ≡ slice_index before GATE → IsTorn before left → left ≡ before
same_but_gate before left same gate torn =
    ext_get_or 0 left before same
    (λ i within.
    elim (cases_eq i 5) [ inl at ↦ rw at gate | inr other ↦ torn.stays i (omega (arith, within, same)) within other ])

-- a clean file, while its gate is written
pub shut_clean : (before left : List ℕ) → 5 < length before → slice_index before GATE ≡ 1 → IsTorn before left → LeftOfShutting before left
shut_clean before left long gate torn =
    let same : length left ≡ length before = ⊎_elim (λ s. s) (λ short. absurd (omega (arith, short.0, long))) torn.long in
    elim (cases_eq (slice_index left GATE) 1) [
      | inl clean ↦ Before (same_but_gate before left same (clean ∙ sym gate) torn)
      | inr other ↦ Unclean (record { long = omega (arith, long, same); gate = other })
    ]

-- a file without a gate
pub shut_short : (before left : List ℕ) → length before ≤ 5 → IsTorn before left → LeftOfShutting before left
shut_short before left short torn =
    let none : IsNoImage before = short_is_none before (omega arith) (λ unclean. let long = unclean.long in omega arith) in
    let most : length left ≤ 6 = ⊎_elim (λ same. omega (arith, same, short)) (λ new. new.1) torn.long in
    elim (cases_lt 5 (length left)) [
      | inl long ↦ elim (cases_eq (slice_index left GATE) 1) [
        | inl clean ↦ NoImage none (short_is_none left most (λ unclean. unclean.gate clean))
        | inr other ↦ Unclean (record { long = long; gate = other })
      ]
      | inr ends ↦ NoImage none (short_is_none left most (λ unclean. let long = unclean.long in omega arith))
    ]

-- what making a file unclean may leave, from what writing the gate leaves
shut_torn : (gate : Option ℕ) (before left : List ℕ) → HasGate gate before → ((byte : ℕ) → gate ≡ Some byte → byte ≡ 1) → IsTorn before left → LeftOfShutting before left
shut_torn None before left short clean torn = shut_short before left short torn
shut_torn (Some byte) before left has clean torn = shut_clean before left has.0 (has.1 ∙ clean byte refl) torn

-- a gate that was found not clean is left alone
pub left_alone : (gate : ℕ) (done : Unit {0}) (old new : FileRecord) → IsConsistent old × IsSettled old × HasGate (Some gate) old.bytes → IsConsistent new → gate ≢ 1
    → KeepsFile old new → Shuts (Ok done) old new
left_alone gate done old new is consistent other keeps =
    let P = LeftOfShutting old.bytes in
    let now = settled_leaves P old is.1 (Before refl) in (
      goes_on P old old new (started P old is.0 now) keeps.goes.time (stays_keeps P old new now keeps.goes.crash),
      still_settled old new consistent is.1 keeps.goes.crash,
      record {
        long = subst (λ (file : List ℕ). 5 < length file) (sym keeps.bytes) is.2.0;
        gate = λ one. other (sym is.2.1 ∙ ap (λ (file : List ℕ). slice_index file GATE) (sym keeps.bytes) ∙ one);
      },
    )

-- a file with a gate written
gate_front : List ℕ → List ℕ
gate_front file = take 5 file ++ replicate (5 - length file) 0

length-gate_front : (file : List ℕ) → length (gate_front file) ≡ 5
unfolding gate_front
length-gate_front file = omega (arith, length-append (take 5 file) (replicate (5 - length file) 0), length-take 5 file, length-replicate {A = ℕ} (5 - length file) 0)

written_gate : (file : List ℕ) (gate : ℕ) → written_at GATE (gate ∷ []) file ≡ gate_front file ++ gate ∷ drop 6 file
unfolding gate_front
written_gate file gate = append_assoc (gate_front file) (gate ∷ []) (drop 6 file)

pub gate_is_written : (file : List ℕ) (gate : ℕ) → HasGate (Some gate) (written_at GATE (gate ∷ []) file)
gate_is_written file gate =
    let e = written_gate file gate in
    let front = length-gate_front file in (
      rw e (omega (arith, length-append (gate_front file) (gate ∷ drop 6 file), front)),
      rw e (get_or_at (gate_front file) gate (drop 6 file) 0 5 front),
    )

is_not_one : (n : ℕ) → n ≡ 0 → n ≢ 1
is_not_one n zero one = absurd (omega (arith, zero, one))

shut_joined : (result : Result (Unit {0}) Failed) (old mid new : FileRecord) → LeavesOnly (LeftOfShutting old.bytes) old mid
    → ((left : List ℕ) → IsTorn mid.bytes left → LeftOfShutting old.bytes left) → WritesGate result 0 mid new → Shuts result old new
shut_joined (Ok done) old mid new first next writes =
    let P = LeftOfShutting old.bytes in
    let has = gate_is_written mid.bytes 0 in (
      joined P old mid new first (weaker (IsTorn mid.bytes) P next mid new writes.0),
      writes.1,
      rw writes.2 (record { long = has.0; gate = is_not_one _ has.1 }),
    )
shut_joined (Err failed) old mid new first next writes =
    let P = LeftOfShutting old.bytes in
    joined P old mid new first (weaker (IsTorn mid.bytes) P next mid new writes)

-- a gate that was found clean, or none, is written
pub shut_by_writing : (gate : Option ℕ) (result : Result (Unit {0}) Failed) (old mid new : FileRecord)
    → IsConsistent old × IsSettled old × HasGate gate old.bytes → IsConsistent mid → ((byte : ℕ) → gate ≡ Some byte → byte ≡ 1)
    → KeepsFile old mid → WritesGate result 0 mid new → Shuts result old new
shut_by_writing gate result old mid new is consistent clean keeps writes =
    let P = LeftOfShutting old.bytes in
    let now = settled_leaves P old is.1 (Before refl) in
    let first : LeavesOnly P old mid = goes_on P old old mid (started P old is.0 now) keeps.goes.time (stays_keeps P old mid now keeps.goes.crash) in
    let next : (left : List ℕ) → IsTorn mid.bytes left → P left =
    λ left torn. shut_torn gate old.bytes left is.2 clean (subst (λ (file : List ℕ). IsTorn file left) keeps.bytes torn) in
    shut_joined result old mid new first next writes
