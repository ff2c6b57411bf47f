-- Taking a product that is held.
use Rattle.std.proofs.Common.{◌≡◌, ℕ, ◌≤◌, Bool, true, false, List, [], ◌∷◌, ◌++◌, length, take, refl, sym, ◌∙◌, ap, subst, arith}
use Rattle.std.specs.Prelude.{IfSome, Ok, Err, codes, nat_le, if◌then◌else◌}
use Rattle.std.proofs.lemmas.List.{take_all}
use Rattle.ldm_disk.specs.Told.{DiskRecord, IsConsistent}
use Rattle.ldm_outside.specs.Io.{SinkRecord, Takes, WritesFront}
use Rattle.ldm_outside.proofs.CallerLemmas.{Takes-nothing}
use Rattle.ldm_session.specs.Gaps.{gap_line}
use Rattle.ldm_model.specs.declared.event.Event.TheVariants as event
use Rattle.ldm_model.specs.declared.event.Reply.TheVariants as reply
use Rattle.ldm_shared.specs.Passes.{PassView, FindsWorn, Grows, IsSamePass}
use Rattle.ldm_shared.specs.declared.reader.Reader as reading
use Rattle.ldm_shared.specs.declared.reader.Held.{Held}
use Rattle.ldm_journal.specs.declared.journal.Journal.{Journal}
use Rattle.ldm_journal.specs.Records.{Kept}
use Rattle.ldm_journal.specs.Standing.{Stands}
use Rattle.ldm_journal.specs.Appending.{record_len}
use Rattle.ldm_recorder.specs.declared.end.RecordEnd.{RecordEnd}
use Rattle.ldm_recorder.specs.declared.end.RecordEnd.TheVariants as end
use Rattle.ldm_recorder.specs.declared.recorder.Recorder.{Recorder}
use Rattle.ldm_recorder.specs.Turns.{Given, Turn, Who, keep_events, large_line}
use Rattle.ldm_recorder.specs.Recording.{CauseOf, DoesAll, DoesPart, Sight, sight_of, who_of}
use Rattle.ldm_recorder.specs.Saving.{KeepsBy, Kit}
use Rattle.ldm_recorder.specs.Taking.{BodyRead, IsSameButBuffer, IsSameRecorder, ReadsBody, WorksBy, kept_as, releasing, taking, writing}
use Rattle.ldm_recorder.specs.Taking as taken
use Rattle.ldm_recorder.proofs.Turning.{at, calls_same, calls_worn, cause_here, does_call, part_none, taken_unreleased, taken_unwritten, taken_well, written_part, written_unsaid, written_well}

pub buffer_same : (r s : Recorder) → IsSameButBuffer r s → IsSameRecorder r s
buffer_same r s same = record {
  reader = same.reader;
  base = same.base;
  lines = same.lines;
  ring = ap (λ (j : Journal). j.marks.ring) same.journal;
}

-- ---- writing it

no_line : (ring n : ℕ) (k : Kept) → true ≡ nat_le (record_len k) ring → large_line ring n k ≡ []
no_line ring n k is = ap (λ (b : Bool). if b then [] else gap_line (codes "ring") 1 n n) (sym is)

a_line : (ring n : ℕ) (k : Kept) → false ≡ nat_le (record_len k) ring → large_line ring n k ≡ gap_line (codes "ring") 1 n n
a_line ring n k is = ap (λ (b : Bool). if b then [] else gap_line (codes "ring") 1 n n) (sym is)

module _ (who : Who) (n : ℕ) (k : Kept) (pass : PassView) (old new : Kit) (a : SinkRecord) (ring : who.ring ≡ old.marks.ring) where
  -- it was kept
  pub wrote : KeepsBy (Ok true) k (keep_events old.marks.ring k) old new → DoesAll (writing who n k) (at pass old.marks old.disk a) (at pass new.marks new.disk a)
  wrote keeps =
      written_well who n k pass old new a a ring keeps.1
      (subst (λ (l : List ℕ). Takes a l a) (sym (no_line old.marks.ring n k keeps.0)) (Takes-nothing a a refl)) (omega arith)

  -- it is larger than the ring, and the log says so
  pub wrote_line : (b : SinkRecord) → KeepsBy (Ok false) k (keep_events old.marks.ring k) old new → Takes a (gap_line (codes "ring") 1 n n) b → a.faults ≤ b.faults
      → DoesAll (writing who n k) (at pass old.marks old.disk a) (at pass new.marks new.disk b)
  wrote_line b keeps takes faults =
      written_well who n k pass old new a b ring keeps.1 (subst (λ (l : List ℕ). Takes a l b) (sym (a_line old.marks.ring n k keeps.0)) takes) faults

  -- the log failed
  pub wrote_no_line : (b : SinkRecord) → KeepsBy (Ok false) k (keep_events old.marks.ring k) old new → WritesFront a (gap_line (codes "ring") 1 n n) b → a.faults ≤ b.faults
      → DoesPart (writing who n k) (at pass old.marks old.disk a) (at pass new.marks new.disk b)
  wrote_no_line b keeps front faults =
      written_unsaid who n k pass old new a b ring keeps.1 (subst (λ (l : List ℕ). WritesFront a l b) (sym (a_line old.marks.ring n k keeps.0)) front) faults

  -- the journal failed
  pub wrote_none : (why : RecordEnd) → KeepsBy (Err why) k (keep_events old.marks.ring k) old new → old.disk.faults ≤ new.disk.faults
      → WorksBy (Err why) (writing who n k) [] (at pass old.marks old.disk a) (at pass new.marks new.disk a)
  wrote_none why breaks faults = (written_part who n k pass old new a ring breaks.left faults, cause_here why [] pass pass old new a breaks.cause)

-- ---- all of it

-- from a recorder, with a pass, to what stands when the body was read
module _ (r s : Recorder) (held : Held) (body : List ℕ) (p q : PassView) (number : ℕ) (disk : DiskRecord) (log : SinkRecord) (consistent : IfSome disk.file IsConsistent)
    (same : IsSameButBuffer r s) where
  abbrev k : Kept
  k = kept_as number held body

  abbrev before : Sight
  before = sight_of p r disk log

  abbrev between : Sight
  between = sight_of q s disk log

  abbrev it : BodyRead
  it = record { k = r.reader.k; buffer = s.buffer.items; old = p; new = q }

  -- it could not be read
  pub take_unread : (why : RecordEnd) → ReadsBody (Err why) held body it → WorksBy (Err why) (taking (who_of p r) held.n k) (Given held.n k ∷ []) before between
  take_unread end.OutOfMemory reads = (
    subst (λ (j : Journal). DoesPart (taking (who_of p r) held.n k) before (at q j.marks disk log)) (sym same.journal)
        (part_none (taking (who_of p r) held.n k) p q r.journal.marks disk log consistent (calls_same p q reads)),
    tt,
  )
  take_unread end.Worn reads = (
    subst (λ (j : Journal). DoesPart (taking (who_of p r) held.n k) before (at q j.marks disk log)) (sym same.journal)
        (part_none (taking (who_of p r) held.n k) p q r.journal.marks disk log consistent (calls_worn p q reads.0 reads.1)),
    reads.1.long ∙ reads.1.turns_are,
  )
  take_unread (end.Stopped n) reads = absurd reads
  take_unread end.DiskFault reads = absurd reads
  take_unread end.NotAJournal reads = absurd reads
  take_unread end.LogFault reads = absurd reads
  take_unread end.NoNumbers reads = absurd reads

  module _ (of : IsSamePass p q) (reads : ReadsBody (Ok tt) held body it) where
    read_it : DoesAll (taken.reading (who_of p r) k) before between
    read_it =
        subst (λ (j : Journal). DoesAll (taken.reading (who_of p r) k) before (at q j.marks disk log)) (sym same.journal)
        (does_call (who_of p r) (event.Read r.reader.k 0 held.info.size) (reply.Bytes body) p q r.journal.marks disk log refl consistent reads.1)

    -- it could not be let go
    pub take_unreleased : (u : PassView) (turns : ℕ) → FindsWorn q u turns
        → WorksBy (Err end.Worn) (taking (who_of p r) held.n k) (Given held.n k ∷ []) before (sight_of u s disk log)
    take_unreleased u turns worn = (
      taken_unreleased (who_of p r) held.n k before between (sight_of u s disk log) read_it
          (part_none (releasing (who_of p r) held.n) q u s.journal.marks disk log consistent (calls_worn q u turns worn)),
      worn.long ∙ worn.turns_are,
    )

    module _ (u : PassView) (grows : Grows q u (event.Release s.reader.k) (reply.Released held.n)) where
      abbrev gone : Sight
      gone = sight_of u s disk log

      actor : p.actor ≡ q.actor
      actor = sym (ap (λ (v : PassView). v.actor) of)

      released_it : DoesAll (releasing (who_of p r) held.n) between gone
      released_it =
          does_call (who_of p r) (event.Release r.reader.k) (reply.Released held.n) q u s.journal.marks disk log actor consistent
          (subst (λ (x : reading.Reader). Grows q u (event.Release x.k) (reply.Released held.n)) same.reader grows)

      cause_since : (why : RecordEnd) (turns : List Turn) (c : Sight) → CauseOf why [] gone c → CauseOf why turns before c
      cause_since (end.Stopped n) turns c cause = absurd cause
      cause_since end.DiskFault turns c cause = cause
      cause_since end.NotAJournal turns c cause =
          subst (λ (j : Journal). IfSome disk.file (λ f. (kept appended : List Kept) → ¬ (Stands j.marks kept appended f))) same.journal cause
      cause_since end.LogFault turns c cause = cause
      cause_since end.Worn turns c cause = cause
      cause_since end.NoNumbers turns c cause = absurd cause
      cause_since end.OutOfMemory turns c cause = tt

      same_bytes : (P : Kept → Type 0) → P (kept_as number held s.buffer.items) → P k
      same_bytes P there = subst (λ (b : List ℕ). P (kept_as number held b)) reads.0 there

      -- it could not be written
      pub take_unwritten : (why : RecordEnd) (c : Sight) → WorksBy (Err why) (writing (who_of p r) held.n (kept_as number held s.buffer.items)) [] gone c
          → WorksBy (Err why) (taking (who_of p r) held.n k) (Given held.n k ∷ []) before c
      take_unwritten why c works = (
        taken_unwritten (who_of p r) held.n k before between gone read_it c released_it
            (same_bytes (λ (x : Kept). DoesPart (writing (who_of p r) held.n x) gone c) works.0),
        cause_since why (Given held.n k ∷ []) c works.1,
      )

      -- it was written
      pub take_whole : (c : Sight) → DoesAll (writing (who_of p r) held.n (kept_as number held s.buffer.items)) gone c
          → DoesAll (taking (who_of p r) held.n k) before c
      take_whole c works =
          taken_well (who_of p r) held.n k before between gone read_it c released_it
          (same_bytes (λ (x : Kept). DoesAll (writing (who_of p r) held.n x) gone c) works)

-- ---- its body

-- what a buffer has that was empty
pub buffer_whole : (size : ℕ) (body buffer before : List ℕ) → length body ≡ size → before ≡ [] → buffer ≡ before ++ take size body → buffer ≡ body
buffer_whole size body buffer before whole empty is =
    is ∙ ap (λ (l : List ℕ). l ++ take size body) empty ∙ take_all size body (omega (arith, whole))

-- all of it was asked for
pub body_whole : (old new : PassView) (k size : ℕ) (body : List ℕ) → length body ≡ size → Grows old new (event.Read k 0 size) (reply.Bytes (take size body))
    → Grows old new (event.Read k 0 size) (reply.Bytes body)
body_whole old new k size body whole grows =
    subst (λ (l : List ℕ). Grows old new (event.Read k 0 size) (reply.Bytes l)) (take_all size body (omega (arith, whole))) grows
