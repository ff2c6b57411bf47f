-- Calls of an open journal, one after another.
use Rattle.std.proofs.Common.{◌≡◌, ⊎_elim, ℕ, ◌+◌, ◌-◌, List, [], ◌∷◌, ◌++◌, length, refl, sym, ◌∙◌, ap, subst, arith}
use Rattle.std.proofs.lemmas.List.{append_assoc}
use Rattle.ldm_disk.specs.Told.{FileRecord, IsConsistent}
use Rattle.ldm_disk.specs.Moments.{LeavesOnly}
use Rattle.ldm_disk.proofs.CrashLemmas.{joined, started, weaker}
use Rattle.ldm_journal.specs.declared.marks.Marks.{Marks}
use Rattle.ldm_journal.specs.declared.append.AppendEnd.TheVariants as append
use Rattle.ldm_journal.specs.declared.commit.CommitEnd.TheVariants as commit
use Rattle.ldm_journal.specs.declared.reader.Reader.{Reader}
use Rattle.ldm_journal.specs.Records.{Kept, size_of}
use Rattle.ldm_journal.specs.Format.{Holds, front_at, place_of, used_at, selected}
use Rattle.ldm_journal.specs.Standing.{Stands}
use Rattle.ldm_journal.specs.Appending.{Appends}
use Rattle.ldm_journal.specs.Committing.{Commits, HoldsEither, kept_after}
use Rattle.ldm_journal.specs.Reading.{IsBefore}
use Rattle.ldm_journal.specs.Runs.{Event, Append, Commit, Content, after_event, after_events, opened}
use Rattle.ldm_journal.specs.Joining.{BreaksOffAmid, IsLeftAmid, IsPartAmid, MakesEvents, then_events}
use Rattle.ldm_journal.proofs.Around.{length-around}
use Rattle.ldm_journal.proofs.RecordLemmas.{size-append}
use Rattle.ldm_journal.proofs.RunLemmas.{leaves_a_note, leaves_a_part}

-- ---- how many bytes the records have

committed_bytes : (marks : Marks) (kept appended : List Kept) (file : FileRecord) → IsConsistent file → Stands marks kept appended file → size_of kept ≡ marks.used
committed_bytes marks kept appended file consistent stands =
    let keeps = stands.crash file.bytes consistent.reads in
    let head = place_of (selected file.bytes) in
    ap length (sym keeps.holds.records) ∙ length-around marks.ring (front_at head file.bytes) (used_at head file.bytes) file.bytes ∙ keeps.used

appended_bytes : (marks : Marks) (kept appended : List Kept) (file : FileRecord) → Stands marks kept appended file → size_of appended ≡ marks.appended
appended_bytes marks kept appended file stands = ap length (sym stands.behind) ∙ length-around marks.ring (marks.front + marks.used) marks.appended file.bytes

pub all_bytes : (marks : Marks) (kept appended : List Kept) (file : FileRecord) → IsConsistent file → Stands marks kept appended file
    → marks.used + marks.appended ≡ size_of (kept ++ appended)
all_bytes marks kept appended file consistent stands =
    omega (arith, size-append kept appended, committed_bytes marks kept appended file consistent stands, appended_bytes marks kept appended file stands)

-- a reader that begins stands in front of the first product
pub first_product : (marks : Marks) (reader : Reader) → reader.ring ≡ marks.ring → reader.at ≡ marks.front → reader.left ≡ marks.used → (kept appended : List Kept) (file : FileRecord)
    → IsConsistent file → Stands marks kept appended file → IsBefore 0 kept marks reader
first_product marks reader ring at left kept appended file consistent stands = record {
  within = omega arith;
  ring = ring;
  at = omega (arith, at);
  left = left ∙ sym (committed_bytes marks kept appended file consistent stands);
}

-- ---- one call

now_left : (ring : ℕ) (start : Content) (events : List Event) (note file : List ℕ) → start.note ≡ note → Holds ring start.kept note file → IsLeftAmid ring start events file
now_left ring start events note file noted holds = record {
  done = [];
  rest = events;
  are = refl;
  left = start.kept;
  note = note;
  holds = holds;
  may_open = (refl, sym noted);
}

then_left : (ring most : ℕ) (start : Content) (note file : List ℕ) → Holds ring (after_event start (Commit most note)).kept note file → IsLeftAmid ring start (Commit most note ∷ []) file
then_left ring most start note file holds = record {
  done = Commit most note ∷ [];
  rest = [];
  are = refl;
  left = (after_event start (Commit most note)).kept;
  note = note;
  holds = holds;
  may_open = (refl, refl);
}

either_left : (ring most : ℕ) (start : Content) (was note file : List ℕ) → start.note ≡ was → HoldsEither ring start.kept was (after_event start (Commit most note)).kept note file
    → IsLeftAmid ring start (Commit most note ∷ []) file
either_left ring most start was note file noted holds =
    ⊎_elim (now_left ring start (Commit most note ∷ []) was file noted) (then_left ring most start note file) holds

pub no_event : (marks : Marks) (file : FileRecord) → IsConsistent file → MakesEvents (λ start. []) marks marks file file
no_event marks file consistent start stands noted = (
  stands,
  sym noted,
  started (IsLeftAmid marks.ring start []) file consistent (λ left leaves. now_left marks.ring start [] marks.note left noted (stands.crash left leaves).holds),
)

pub append_event : (k : Kept) (before after : Marks) → after.note ≡ before.note → (old new : FileRecord) → Appends append.Appended k before after old new
    → MakesEvents (λ start. Append k ∷ []) before after old new
append_event k before after same old new appends start stands noted =
    let one = appends start.kept start.appended stands in (
      one.0,
      same ∙ sym noted,
      weaker (Holds before.ring start.kept before.note) (IsLeftAmid before.ring start (Append k ∷ []))
          (λ left holds. now_left before.ring start (Append k ∷ []) before.note left noted holds) old new one.1,
    )

pub append_breaks : (events : Content → List Event) (k : Kept) (before after : Marks) (old new : FileRecord) → Appends append.DiskFault k before after old new
    → BreaksOffAmid events before old new
append_breaks events k before after old new appends start stands noted =
    weaker (Holds before.ring start.kept before.note) (IsLeftAmid before.ring start (events start))
    (λ left holds. now_left before.ring start (events start) before.note left noted holds) old new (appends start.kept start.appended stands)

pub commit_event : (gap : ℕ) (note : List ℕ) (before after : Marks) → after.note ≡ note → (old new : FileRecord) → Commits commit.Committed gap note before after old new
    → MakesEvents (λ start. Commit (before.ring - gap) note ∷ []) before after old new
commit_event gap note before after is old new commits start stands noted =
    let one = commits start.kept start.appended stands in (
      one.0,
      is,
      weaker (HoldsEither before.ring start.kept before.note (kept_after gap before start.kept start.appended) note)
          (IsLeftAmid before.ring start (Commit (before.ring - gap) note ∷ []))
          (λ left holds. either_left before.ring (before.ring - gap) start before.note note left noted holds) old new one.2,
    )

pub commit_breaks : (gap : ℕ) (note : List ℕ) (before after : Marks) (old new : FileRecord) → Commits commit.DiskFault gap note before after old new
    → BreaksOffAmid (λ start. Commit (before.ring - gap) note ∷ []) before old new
commit_breaks gap note before after old new commits start stands noted =
    weaker (HoldsEither before.ring start.kept before.note (kept_after gap before start.kept start.appended) note)
    (IsLeftAmid before.ring start (Commit (before.ring - gap) note ∷ []))
    (λ left holds. either_left before.ring (before.ring - gap) start before.note note left noted holds) old new (commits start.kept start.appended stands)

-- ---- calls in a row

pub after_both : (start : Content) (first more : List Event) → after_events start (first ++ more) ≡ after_events (after_events start first) more
after_both start [] more = refl
after_both start (event ∷ first) more = after_both (after_event start event) first more

left_early : (ring : ℕ) (start : Content) (first more : List Event) (file : List ℕ) → IsLeftAmid ring start first file → IsLeftAmid ring start (first ++ more) file
left_early ring start first more file left = record {
  done = left.done;
  rest = left.rest ++ more;
  are = sym (append_assoc left.done left.rest more) ∙ ap (λ (l : List Event). l ++ more) left.are;
  left = left.left;
  note = left.note;
  holds = left.holds;
  may_open = left.may_open;
}

left_late : (ring : ℕ) (start : Content) (first more : List Event) (file : List ℕ) → IsLeftAmid ring (after_events start first) more file → IsLeftAmid ring start (first ++ more) file
left_late ring start first more file left = record {
  done = first ++ left.done;
  rest = left.rest;
  are = append_assoc first left.done left.rest ∙ ap (λ (l : List Event). first ++ l) left.are;
  left = left.left;
  note = left.note;
  holds = left.holds;
  may_open = rw (after_both start first left.done) left.may_open;
}

both_left : (ring : ℕ) (start : Content) (first more : List Event) (old mid new : FileRecord) → LeavesOnly (IsLeftAmid ring start first) old mid
    → LeavesOnly (IsLeftAmid ring (after_events start first) more) mid new → LeavesOnly (IsLeftAmid ring start (first ++ more)) old new
both_left ring start first more old mid new one two =
    let all = IsLeftAmid ring start (first ++ more) in
    joined all old mid new (weaker (IsLeftAmid ring start first) all (λ left was. left_early ring start first more left was) old mid one)
    (weaker (IsLeftAmid ring (after_events start first) more) all (λ left was. left_late ring start first more left was) mid new two)

module _ (first more : Content → List Event) (a b : Marks) (ring : b.ring ≡ a.ring) (old mid new : FileRecord) where
  leaves_then : (start : Content) → LeavesOnly (IsLeftAmid b.ring (after_events start (first start)) (more (after_events start (first start)))) mid new
      → LeavesOnly (IsLeftAmid a.ring (after_events start (first start)) (more (after_events start (first start)))) mid new
  leaves_then start leaves = subst (λ (r : ℕ). LeavesOnly (IsLeftAmid r (after_events start (first start)) (more (after_events start (first start)))) mid new) ring leaves

  pub events_then : (c : Marks) → MakesEvents first a b old mid → MakesEvents more b c mid new → MakesEvents (then_events first more) a c old new
  events_then c one two start stands noted =
      let here = one start stands noted in
      let middle = after_events start (first start) in
      let there = two middle here.0 (sym here.1) in
      let both = sym (after_both start (first start) (more middle)) in (
        subst (λ (end : Content). Stands c end.kept end.appended new) both there.0,
        there.1 ∙ ap (λ (end : Content). end.note) both,
        both_left a.ring start (first start) (more middle) old mid new here.2 (leaves_then start there.2),
      )

  pub events_break : MakesEvents first a b old mid → BreaksOffAmid more b mid new → BreaksOffAmid (then_events first more) a old new
  events_break one two start stands noted =
      let here = one start stands noted in
      let middle = after_events start (first start) in
      both_left a.ring start (first start) (more middle) old mid new here.2 (leaves_then start (two middle here.0 (sym here.1)))

-- calls that ended well are such, too, that leave so
pub events_leave : (events : Content → List Event) (before after : Marks) (old new : FileRecord) → MakesEvents events before after old new → BreaksOffAmid events before old new
events_leave events before after old new makes start stands noted = (makes start stands noted).2

-- a crash leaves what more events may leave
pub breaks_early : (first more : Content → List Event) (before : Marks) (old new : FileRecord) → BreaksOffAmid first before old new
    → BreaksOffAmid (then_events first more) before old new
breaks_early first more before old new breaks start stands noted =
    let all = then_events first more start in
    weaker (IsLeftAmid before.ring start (first start)) (IsLeftAmid before.ring start all)
    (λ left was. left_early before.ring start (first start) (more (after_events start (first start))) left was) old new (breaks start stands noted)

-- the same events in other words
pub same_events : (f g : Content → List Event) (before after : Marks) (old new : FileRecord)
    → ((start : Content) → Stands before start.kept start.appended old → start.note ≡ before.note → f start ≡ g start)
    → MakesEvents f before after old new → MakesEvents g before after old new
same_events f g before after old new same makes start stands noted =
    let one = makes start stands noted in
    subst
    (λ (events : List Event).
    (let end = after_events start events in
    Stands after end.kept end.appended new × (after.note ≡ end.note) × LeavesOnly (IsLeftAmid before.ring start events) old new))
    (same start stands noted) one

pub same_breaks : (f g : Content → List Event) (before : Marks) (old new : FileRecord)
    → ((start : Content) → Stands before start.kept start.appended old → start.note ≡ before.note → f start ≡ g start) → BreaksOffAmid f before old new → BreaksOffAmid g before old new
same_breaks f g before old new same breaks start stands noted =
    subst (λ (events : List Event). LeavesOnly (IsLeftAmid before.ring start events) old new) (same start stands noted) (breaks start stands noted)

pub part_amid : (ring : ℕ) (first : List Kept) (begun : List ℕ) (events : List Event) (file : List ℕ) → IsLeftAmid ring (opened first begun) events file
    → IsPartAmid ring first begun events file
part_amid ring first begun events file left = record {
  done = left.done;
  rest = left.rest;
  are = left.are;
  left = left.left;
  note = left.note;
  holds = left.holds;
  noted = leaves_a_note first begun left.done left.left left.note left.may_open;
  part = leaves_a_part first begun left.done left.left left.note left.may_open;
}
