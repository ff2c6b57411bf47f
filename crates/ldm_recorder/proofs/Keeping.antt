-- What is done to the journal.
use Rattle.std.proofs.Common.{◌≡◌, inl, inr, ℕ, ◌+◌, ◌-◌, ◌<◌, ◌≤◌, Bool, true, false, cond, List, [], ◌∷◌, ◌++◌, length, refl, sym, ◌∙◌, ap, subst, arith}
use Rattle.std.specs.Prelude.{Option, Some, None, IfSome, Result, Ok, Err, nat_le}
use Rattle.std.proofs.lemmas.List.{append-nil, length-append}
use Rattle.std.proofs.lemmas.Bool.{le-leb}
use Rattle.std.proofs.lemmas.Bool.Decides.{leb_tells}
use Rattle.ldm_disk.specs.Told.{FileRecord, DiskRecord, IsConsistent}
use Rattle.ldm_disk.specs.Calls.{FileChanges}
use Rattle.ldm_outside.specs.Count.{Rose}
use Rattle.ldm_outside.proofs.CallerLemmas.{Rose-later}
use Rattle.ldm_journal.specs.declared.marks.Marks.{Marks}
use Rattle.ldm_journal.specs.declared.append.AppendEnd.TheVariants as append
use Rattle.ldm_journal.specs.declared.commit.CommitEnd.TheVariants as commit
use Rattle.ldm_journal.specs.Records.{Kept, fitting, record_bytes, records_of, size_of}
use Rattle.ldm_journal.specs.Standing.{Stands}
use Rattle.ldm_journal.specs.Appending.{Appends, record_len}
use Rattle.ldm_journal.specs.Committing.{Commits}
use Rattle.ldm_journal.specs.Runs.{Append, Commit, Content, Event}
use Rattle.ldm_journal.specs.Joining.{BreaksOffAmid, MakesEvents, then_events}
use Rattle.ldm_disk.proofs.Told.{chained, mapped, one_call}
use Rattle.ldm_journal.proofs.EventLemmas.{all_bytes, append_breaks, append_event, breaks_early, commit_breaks, commit_event, events_leave, no_event, same_events, same_breaks}
use Rattle.ldm_journal.proofs.Around.{length-around}
use Rattle.ldm_journal.proofs.RecordLemmas.{length-record}
use Rattle.ldm_recorder.specs.declared.end.RecordEnd.{RecordEnd}
use Rattle.ldm_recorder.specs.declared.end.RecordEnd.TheVariants as end
use Rattle.ldm_recorder.specs.Saving.{AppendsBy, BreaksOff, DiskCause, KeepsBy, Kit, Makes, ReplacesBy, SavesBy, replacing}
use Rattle.ldm_recorder.specs.Turns.{keep_events}
use Rattle.ldm_recorder.proofs.Working.{broken_early, broken_same, made_same, none_made, noted_broken, noted_made, then_broken, then_made}

-- ---- the events of a product

pub too_long : (a b : ℕ) → b < a → nat_le a b ≡ false
too_long a b less = elim (leb_tells a b) [ inl within ↦ absurd (omega (arith, within.1, less)) | inr over ↦ over.0 ]

pub keep_large : (ring : ℕ) (k : Kept) (start : Content) → ring < record_len k → keep_events ring k start ≡ []
keep_large ring k start over =
    ap
    (λ (b : Bool). cond b (cond (nat_le (size_of (start.kept ++ start.appended) + record_len k) ring) (Append k ∷ []) (Commit (ring - record_len k) start.note ∷ Append k ∷ [])) [])
    (too_long (record_len k) ring over)

fitting_here : (ring : ℕ) (k : Kept) (start : Content) → record_len k ≤ ring
    → keep_events ring k start ≡ cond (nat_le (size_of (start.kept ++ start.appended) + record_len k) ring) (Append k ∷ []) (Commit (ring - record_len k) start.note ∷ Append k ∷ [])
fitting_here ring k start le =
    ap
    (λ (b : Bool). cond b (cond (nat_le (size_of (start.kept ++ start.appended) + record_len k) ring) (Append k ∷ []) (Commit (ring - record_len k) start.note ∷ Append k ∷ [])) [])
    (le-leb (record_len k) ring le)

pub keep_fits : (ring : ℕ) (k : Kept) (start : Content) → size_of (start.kept ++ start.appended) + record_len k ≤ ring → keep_events ring k start ≡ Append k ∷ []
keep_fits ring k start le =
    fitting_here ring k start (omega (arith, le))
    ∙ ap (λ (b : Bool). cond b (Append k ∷ []) (Commit (ring - record_len k) start.note ∷ Append k ∷ [])) (le-leb (size_of (start.kept ++ start.appended) + record_len k) ring le)

pub keep_full : (ring : ℕ) (k : Kept) (start : Content) → record_len k ≤ ring → ring < size_of (start.kept ++ start.appended) + record_len k
    → keep_events ring k start ≡ replacing ring k start
keep_full ring k start le over =
    fitting_here ring k start le
    ∙ ap (λ (b : Bool). cond b (Append k ∷ []) (Commit (ring - record_len k) start.note ∷ Append k ∷ [])) (too_long (size_of (start.kept ++ start.appended) + record_len k) ring over)

-- ---- appending

-- there was room
pub appended_here : (k : Kept) (before after : Marks) → after.note ≡ before.note → (old new : Option FileRecord) → before.used + before.appended + record_len k ≤ before.ring
    → IfSome old IsConsistent → FileChanges (Appends append.Appended k before after) old new → FileChanges (MakesEvents (keep_events before.ring k) before after) old new
appended_here k before after noted old new room consistent appends =
    mapped IsConsistent (Appends append.Appended k before after) (MakesEvents (keep_events before.ring k) before after)
    (λ a b s p.
    same_events (λ start. Append k ∷ []) (keep_events before.ring k) before after a b
    (λ start stands noted. sym (keep_fits before.ring k start (omega (arith, room, all_bytes before start.kept start.appended a s stands)))) (append_event k before after noted a b p))
    old new consistent appends

-- there was none, and the oldest went
full_then : (k : Kept) (before mid after : Marks) (old m new : FileRecord) → record_len k ≤ before.ring → before.ring < before.used + before.appended + record_len k → IsConsistent old
    → Appends append.Full k before mid old m → MakesEvents (replacing mid.ring k) mid after m new → MakesEvents (keep_events before.ring k) before after old new
full_then k before mid after old m new le over consistent full made =
    let here = subst (λ (f : FileRecord). MakesEvents (replacing mid.ring k) mid after f new) full.0 made in
    let there = subst (λ (x : Marks). MakesEvents (replacing x.ring k) x after old new) full.1 here in
    same_events (replacing before.ring k) (keep_events before.ring k) before after old new
    (λ start stands noted. sym (keep_full before.ring k start le (omega (arith, over, all_bytes before start.kept start.appended old consistent stands)))) there

pub replaced_here : (k : Kept) (before mid after : Marks) (old m new : Option FileRecord) → record_len k ≤ before.ring
    → before.ring < before.used + before.appended + record_len k → IfSome old IsConsistent → IfSome m IsConsistent
    → FileChanges (Appends append.Full k before mid) old m → FileChanges (MakesEvents (replacing mid.ring k) mid after) m new
    → FileChanges (MakesEvents (keep_events before.ring k) before after) old new
replaced_here k before mid after old m new le over s t full made =
    chained IsConsistent IsConsistent (Appends append.Full k before mid) (MakesEvents (replacing mid.ring k) mid after) (MakesEvents (keep_events before.ring k) before after)
    (λ a b d consistent then p q. full_then k before mid after a b d le over consistent p q) old m new s t full made

full_breaks : (k : Kept) (before mid : Marks) (old m new : FileRecord) → record_len k ≤ before.ring → before.ring < before.used + before.appended + record_len k → IsConsistent old
    → Appends append.Full k before mid old m → BreaksOffAmid (replacing mid.ring k) mid m new → BreaksOffAmid (keep_events before.ring k) before old new
full_breaks k before mid old m new le over consistent full made =
    let here = subst (λ (f : FileRecord). BreaksOffAmid (replacing mid.ring k) mid f new) full.0 made in
    let there = subst (λ (x : Marks). BreaksOffAmid (replacing x.ring k) x old new) full.1 here in
    same_breaks (replacing before.ring k) (keep_events before.ring k) before old new
    (λ start stands noted. sym (keep_full before.ring k start le (omega (arith, over, all_bytes before start.kept start.appended old consistent stands)))) there

pub replacing_broken : (k : Kept) (before mid : Marks) (old m new : Option FileRecord) → record_len k ≤ before.ring
    → before.ring < before.used + before.appended + record_len k → IfSome old IsConsistent → IfSome m IsConsistent
    → FileChanges (Appends append.Full k before mid) old m → FileChanges (BreaksOffAmid (replacing mid.ring k) mid) m new
    → FileChanges (BreaksOffAmid (keep_events before.ring k) before) old new
replacing_broken k before mid old m new le over s t full made =
    chained IsConsistent IsConsistent (Appends append.Full k before mid) (BreaksOffAmid (replacing mid.ring k) mid) (BreaksOffAmid (keep_events before.ring k) before)
    (λ a b d consistent then p q. full_breaks k before mid a b d le over consistent p q) old m new s t full made

pub not_appended : (events : Content → List Event) (k : Kept) (before after : Marks) (old new : Option FileRecord) → FileChanges (Appends append.DiskFault k before after) old new
    → FileChanges (BreaksOffAmid events before) old new
not_appended events k before after old new appends =
    one_call (Appends append.DiskFault k before after) (BreaksOffAmid events before) (λ a b p. append_breaks events k before after a b p) old new appends

pub appended_one : (k : Kept) (before after : Marks) → after.note ≡ before.note → (old new : Option FileRecord) → FileChanges (Appends append.Appended k before after) old new
    → FileChanges (MakesEvents (λ start. Append k ∷ []) before after) old new
appended_one k before after noted old new appends =
    one_call (Appends append.Appended k before after) (MakesEvents (λ start. Append k ∷ []) before after) (λ a b p. append_event k before after noted a b p) old new appends

-- ---- committing

pub committed_one : (gap : ℕ) (note : List ℕ) (before after : Marks) → after.note ≡ note → (old new : Option FileRecord) → FileChanges (Commits commit.Committed gap note before after) old new
    → FileChanges (MakesEvents (λ start. Commit (before.ring - gap) note ∷ []) before after) old new
committed_one gap note before after noted old new commits =
    one_call (Commits commit.Committed gap note before after) (MakesEvents (λ start. Commit (before.ring - gap) note ∷ []) before after)
    (λ a b p. commit_event gap note before after noted a b p) old new commits

pub not_committed : (gap : ℕ) (note : List ℕ) (before after : Marks) (old new : Option FileRecord) → FileChanges (Commits commit.DiskFault gap note before after) old new
    → FileChanges (BreaksOffAmid (λ start. Commit (before.ring - gap) note ∷ []) before) old new
not_committed gap note before after old new commits =
    one_call (Commits commit.DiskFault gap note before after) (BreaksOffAmid (λ start. Commit (before.ring - gap) note ∷ []) before)
    (λ a b p. commit_breaks gap note before after a b p) old new commits

pub no_journal : (events : Content → List Event) (gap : ℕ) (note : List ℕ) (before after : Marks) (old new : Option FileRecord)
    → FileChanges (Commits commit.NotAJournal gap note before after) old new → FileChanges (BreaksOffAmid events before) old new
no_journal events gap note before after old new commits =
    one_call (Commits commit.NotAJournal gap note before after) (BreaksOffAmid events before) (λ a b p start stands noted. absurd (p start.kept start.appended stands)) old new commits

-- a note that is that of the journal already
pub made_on : (gap : ℕ) (note : List ℕ) (before after : Marks) → note ≡ before.note → (old new : Option FileRecord)
    → FileChanges (MakesEvents (λ start. Commit (before.ring - gap) note ∷ []) before after) old new
    → FileChanges (MakesEvents (λ start. Commit (before.ring - gap) start.note ∷ []) before after) old new
made_on gap note before after is old new made =
    noted_made (λ start. Commit (before.ring - gap) note ∷ []) (λ start. Commit (before.ring - gap) start.note ∷ []) before after old new
    (λ start noted. ap (λ (n : List ℕ). Commit (before.ring - gap) n ∷ []) (is ∙ sym noted)) made

pub broken_on : (gap : ℕ) (note : List ℕ) (before : Marks) → note ≡ before.note → (old new : Option FileRecord)
    → FileChanges (BreaksOffAmid (λ start. Commit (before.ring - gap) note ∷ []) before) old new
    → FileChanges (BreaksOffAmid (λ start. Commit (before.ring - gap) start.note ∷ []) before) old new
broken_on gap note before is old new broken =
    noted_broken (λ start. Commit (before.ring - gap) note ∷ []) (λ start. Commit (before.ring - gap) start.note ∷ []) before old new
    (λ start noted. ap (λ (n : List ℕ). Commit (before.ring - gap) n ∷ []) (is ∙ sym noted)) broken

pub saved_on : (r : Result (Unit {0}) RecordEnd) (gap : ℕ) (note : List ℕ) (old new : Kit) → note ≡ old.marks.note → SavesBy r (λ start. Commit (old.marks.ring - gap) note ∷ []) old new
    → SavesBy r (λ start. Commit (old.marks.ring - gap) start.note ∷ []) old new
saved_on (Ok done) gap note old new is saves = (
  record {
    made = made_on gap note old.marks new.marks is old.disk.file new.disk.file saves.0.made;
    ring = saves.0.ring;
    faults = saves.0.faults;
  },
  saves.1,
)
saved_on (Err why) gap note old new is saves =
    record { left = broken_on gap note old.marks is old.disk.file new.disk.file saves.left; cause = saves.cause }

none_appended : (marks : Marks) (kept appended : List Kept) (file : FileRecord) → marks.appended ≡ 0 → Stands marks kept appended file → appended ≡ []
none_appended marks kept [] file none stands = refl
none_appended marks kept (k ∷ appended) file none stands =
    absurd
    (omega (
      arith,
      none,
      ap (λ (l : List ℕ). length l) stands.behind,
      length-around marks.ring (marks.front + marks.used) marks.appended file.bytes,
      length-append (record_bytes k) (records_of appended),
      length-record k stands.lawful.0,
    ))

fitting_all : (most : ℕ) (all : List Kept) → size_of all ≤ most → fitting most all ≡ all
fitting_all most [] fits = refl
fitting_all most (k ∷ all) fits = ap (λ (b : Bool). cond b (k ∷ all) (fitting most all)) (le-leb (size_of (k ∷ all)) most fits)

-- where nothing was appended, all is committed without a call, with the note that there is
pub nothing_to_commit : (before : Marks) (file : Option FileRecord) → before.used + before.appended ≤ before.ring → before.appended ≡ 0 → IfSome file IsConsistent
    → FileChanges (MakesEvents (λ start. Commit (before.ring - 0) start.note ∷ []) before before) file file
nothing_to_commit before None sound none consistent = tt
nothing_to_commit before (Some file) sound none consistent = λ start stands noted.
    let empty : start.appended ≡ [] = none_appended before start.kept start.appended file none stands in
    let all : start.kept ++ start.appended ≡ start.kept = ap (λ (l : List Kept). start.kept ++ l) empty ∙ append-nil start.kept in
    let bytes = all_bytes before start.kept start.appended file consistent stands in
    let fits : fitting (before.ring - 0) (start.kept ++ start.appended) ≡ start.kept =
    ap (λ (l : List Kept). fitting (before.ring - 0) l) all
    ∙ fitting_all (before.ring - 0) start.kept (omega (arith, bytes, ap (λ (l : List Kept). size_of l) all, sound)) in
    let here : Stands before start.kept [] file = subst (λ (l : List Kept). Stands before start.kept l file) empty stands in (
      subst (λ (l : List Kept). Stands before l [] file) (sym fits) here,
      sym noted,
      breaks_early (λ begun. []) (λ begun. Commit (before.ring - 0) begun.note ∷ []) before file file (events_leave (λ begun. []) before before file file (no_event before file consistent))
          start stands noted,
    )

pub stood_for_nothing : (gap : ℕ) (note : List ℕ) (before after : Marks) (old new : Option FileRecord)
    → FileChanges (Commits commit.NotAJournal gap note before after) old new
    → IfSome old (λ f. (kept appended : List Kept) → ¬ (Stands before kept appended f))
stood_for_nothing gap note before after None new commits = tt
stood_for_nothing gap note before after (Some old) None commits = absurd commits
stood_for_nothing gap note before after (Some old) (Some new) commits = commits

-- a cause that came later
pub cause_later : (why : RecordEnd) (k : Kept) (before mid after : Marks) (old m new : DiskRecord) → old.faults ≤ m.faults → FileChanges (Appends append.Full k before mid) old.file m.file
    → DiskCause why (record { marks = mid; disk = m }) (record { marks = after; disk = new }) → DiskCause why (record { marks = before; disk = old }) (record { marks = after; disk = new })
cause_later end.DiskFault k before mid after old m new le full cause = Rose-later old.faults m.faults new.faults le cause
cause_later end.NotAJournal k before mid after old m new le full cause = (omega (arith, le, cause.0), nothing old.file m.file full cause.1)
  where
    nothing : (a b : Option FileRecord) → FileChanges (Appends append.Full k before mid) a b → IfSome b (λ f. (kept appended : List Kept) → ¬ (Stands mid kept appended f))
        → IfSome a (λ f. (kept appended : List Kept) → ¬ (Stands before kept appended f))
    nothing None b full none = tt
    nothing (Some a) None full none = absurd full
    nothing (Some a) (Some b) full none = λ kept appended stands.
        none kept appended (subst (λ (f : FileRecord). Stands mid kept appended f) (sym full.0) (subst (λ (x : Marks). Stands x kept appended a) (sym full.1) stands))
cause_later (end.Stopped n) k before mid after old m new le full cause = cause
cause_later end.LogFault k before mid after old m new le full cause = cause
cause_later end.Worn k before mid after old m new le full cause = cause
cause_later end.NoNumbers k before mid after old m new le full cause = cause
cause_later end.OutOfMemory k before mid after old m new le full cause = cause

-- ---- the functions

-- what was not, before calls that ended well, was not before them
nothing_before : (events : Content → List Event) (a b : Marks) (old mid : Option FileRecord) → FileChanges (MakesEvents events a b) old mid
    → IfSome mid (λ f. (kept appended : List Kept) → ¬ (Stands b kept appended f)) → IfSome old (λ f. (kept appended : List Kept) → ¬ (Stands a kept appended f))
nothing_before events a b None mid made none = tt
nothing_before events a b (Some old) None made none = absurd made
nothing_before events a b (Some old) (Some mid) made none = λ kept appended stands.
    (let one = made (record { kept = kept; appended = appended; note = a.note }) stands refl in none _ _ one.0)

cause_behind : (why : RecordEnd) (events : Content → List Event) (old mid new : Kit) → Makes events old mid → DiskCause why mid new → DiskCause why old new
cause_behind end.DiskFault events old mid new makes cause = Rose-later old.disk.faults mid.disk.faults new.disk.faults makes.faults cause
cause_behind end.NotAJournal events old mid new makes cause =
    (omega (arith, makes.faults, cause.0), nothing_before events old.marks mid.marks old.disk.file mid.disk.file makes.made cause.1)
cause_behind (end.Stopped n) events old mid new makes cause = cause
cause_behind end.LogFault events old mid new makes cause = cause
cause_behind end.Worn events old mid new makes cause = cause
cause_behind end.NoNumbers events old mid new makes cause = cause
cause_behind end.OutOfMemory events old mid new makes cause = cause

module _ (k : Kept) (gap : ℕ) (is : gap ≡ record_len k) (old : Kit) where
  same_gap : (start : Content) → (Commit (old.marks.ring - gap) start.note ∷ []) ++ Append k ∷ [] ≡ replacing old.marks.ring k start
  same_gap start = ap (λ (n : ℕ). Commit (old.marks.ring - n) start.note ∷ Append k ∷ []) is

  pub replaces : (r : Result (Unit {0}) RecordEnd) (mid new : Kit) → Makes (λ start. Commit (old.marks.ring - gap) start.note ∷ []) old mid → AppendsBy r k mid new → ReplacesBy r k old new
  replaces (Ok done) mid new saved appends = (
    record {
      made =
          made_same (then_events (λ start. Commit (old.marks.ring - gap) start.note ∷ []) (λ start. Append k ∷ [])) (replacing old.marks.ring k) old.marks new.marks old.disk.file
          new.disk.file same_gap
          (then_made (λ start. Commit (old.marks.ring - gap) start.note ∷ []) (λ start. Append k ∷ []) old.marks mid.marks new.marks saved.ring old.disk.file mid.disk.file new.disk.file
          saved.made appends.0.made);
      ring = appends.0.ring ∙ saved.ring;
      faults = omega (arith, saved.faults, appends.0.faults);
    },
    appends.1,
  )
  replaces (Err why) mid new saved appends = record {
    left =
        broken_same (then_events (λ start. Commit (old.marks.ring - gap) start.note ∷ []) (λ start. Append k ∷ [])) (replacing old.marks.ring k) old.marks old.disk.file
        new.disk.file same_gap
        (then_broken (λ start. Commit (old.marks.ring - gap) start.note ∷ []) (λ start. Append k ∷ []) old.marks mid.marks saved.ring old.disk.file mid.disk.file new.disk.file
        saved.made appends.left);
    cause = cause_behind why (λ start. Commit (old.marks.ring - gap) start.note ∷ []) old mid new saved appends.cause;
  }

  pub not_replaced : (why : RecordEnd) (new : Kit) → BreaksOff why (λ start. Commit (old.marks.ring - gap) start.note ∷ []) old new → ReplacesBy (Err why) k old new
  not_replaced why new breaks = record {
    left =
        broken_same (then_events (λ start. Commit (old.marks.ring - gap) start.note ∷ []) (λ start. Append k ∷ [])) (replacing old.marks.ring k) old.marks old.disk.file
        new.disk.file same_gap
        (broken_early (λ start. Commit (old.marks.ring - gap) start.note ∷ []) (λ start. Append k ∷ []) old.marks old.disk.file new.disk.file breaks.left);
    cause = breaks.cause;
  }

-- a product was kept at once
pub kept_at_once : (k : Kept) (before after : Marks) → after.note ≡ before.note → (old new : DiskRecord) → before.used + before.appended + record_len k ≤ before.ring → IfSome old.file IsConsistent
    → FileChanges (Appends append.Appended k before after) old.file new.file → after.ring ≡ before.ring → old.faults ≤ new.faults → after.next ≡ k.number + 1
    → KeepsBy (Ok true) k (keep_events before.ring k) (record { marks = before; disk = old }) (record { marks = after; disk = new })
kept_at_once k before after noted old new room consistent appends ring faults next = (
  sym (le-leb (record_len k) before.ring (omega (arith, room))),
  record { made = appended_here k before after noted old.file new.file room consistent appends; ring = ring; faults = faults },
  omega (arith, next),
)

pub not_kept_at_once : (k : Kept) (before after : Marks) (old new : DiskRecord) → FileChanges (Appends append.DiskFault k before after) old.file new.file → Rose old.faults new.faults
    → KeepsBy (Err end.DiskFault) k (keep_events before.ring k) (record { marks = before; disk = old }) (record { marks = after; disk = new })
not_kept_at_once k before after old new appends rose = record {
  left = not_appended (keep_events before.ring k) k before after old.file new.file appends;
  cause = rose;
}

-- in the place of others
module _ (k : Kept) (before mid after : Marks) (old m new : DiskRecord) (le : record_len k ≤ before.ring) (over : before.ring < before.used + before.appended + record_len k)
    (s : IfSome old.file IsConsistent) (t : IfSome m.file IsConsistent) (full : FileChanges (Appends append.Full k before mid) old.file m.file) (faults : old.faults ≤ m.faults)
    (ring : mid.ring ≡ before.ring) where
  pub kept_in_place : Makes (replacing mid.ring k) (record { marks = mid; disk = m }) (record { marks = after; disk = new }) → after.next ≡ k.number + 1
      → KeepsBy (Ok true) k (keep_events before.ring k) (record { marks = before; disk = old }) (record { marks = after; disk = new })
  kept_in_place makes next = (
    sym (le-leb (record_len k) before.ring le),
    record {
      made = replaced_here k before mid after old.file m.file new.file le over s t full makes.made;
      ring = makes.ring ∙ ring;
      faults = omega (arith, faults, makes.faults);
    },
    omega (arith, next),
  )

  pub not_kept_in_place : (why : RecordEnd) → BreaksOff why (replacing mid.ring k) (record { marks = mid; disk = m }) (record { marks = after; disk = new })
      → KeepsBy (Err why) k (keep_events before.ring k) (record { marks = before; disk = old }) (record { marks = after; disk = new })
  not_kept_in_place why breaks = record {
    left = replacing_broken k before mid old.file m.file new.file le over s t full breaks.left;
    cause = cause_later why k before mid after old m new faults full breaks.cause;
  }

-- it is larger than the ring
pub not_kept : (k : Kept) (marks : Marks) (disk : DiskRecord) → marks.ring < record_len k → marks.next ≤ k.number → IfSome disk.file IsConsistent
    → KeepsBy (Ok false) k (keep_events marks.ring k) (record { marks = marks; disk = disk }) (record { marks = marks; disk = disk })
not_kept k marks disk over rises consistent = (
  sym (too_long (record_len k) marks.ring over),
  record {
    made =
        made_same (λ start. []) (keep_events marks.ring k) marks marks disk.file disk.file (λ start. sym (keep_large marks.ring k start over))
        (none_made marks disk.file consistent);
    ring = refl;
    faults = omega arith;
  },
  omega (arith, rises),
)
