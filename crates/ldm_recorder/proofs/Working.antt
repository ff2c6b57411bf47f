-- Work, one part after another.
use Rattle.std.proofs.Common.{◌≡◌, ℕ, List, [], ◌∷◌, ◌++◌, refl, sym, ◌∙◌, ap, subst, arith}
use Rattle.std.specs.Prelude.{Option, Some, None, IfSome}
use Rattle.std.proofs.lemmas.List.{append-nil, append_assoc}
use Rattle.ldm_disk.specs.Told.{FileRecord, IsConsistent}
use Rattle.ldm_disk.specs.Calls.{FileChanges}
use Rattle.ldm_outside.specs.Io.{Takes}
use Rattle.ldm_outside.proofs.CallerLemmas.{Takes-nothing, Takes-then}
use Rattle.ldm_model.specs.declared.event.Entry.{Entry}
use Rattle.ldm_shared.specs.Passes.{Calls}
use Rattle.ldm_shared.proofs.Made.{calls_none, calls_trans}
use Rattle.ldm_journal.specs.declared.marks.Marks.{Marks}
use Rattle.ldm_journal.specs.Runs.{Content, Event}
use Rattle.ldm_journal.specs.Joining.{BreaksOffAmid, MakesEvents, then_events}
use Rattle.ldm_disk.proofs.Told.{one_call, two_calls}
use Rattle.ldm_journal.proofs.EventLemmas.{breaks_early, events_break, events_leave, events_then, no_event, same_breaks, same_events}
use Rattle.ldm_recorder.specs.Turns.{Turn, Who, Work, no_work, turn_work, work_of, work_then}
use Rattle.ldm_recorder.specs.Recording.{DoesAll, DoesPart, Sight}

-- ---- the journal, where its disk tells

pub none_made : (marks : Marks) (file : Option FileRecord) → IfSome file IsConsistent → FileChanges (MakesEvents (λ start. []) marks marks) file file
none_made marks None consistent = tt
none_made marks (Some file) consistent = no_event marks file consistent

pub leaves_amid : (events : Content → List Event) (before after : Marks) (old new : Option FileRecord) → FileChanges (MakesEvents events before after) old new
    → FileChanges (BreaksOffAmid events before) old new
leaves_amid events before after old new made =
    one_call (MakesEvents events before after) (BreaksOffAmid events before) (λ a b m. events_leave events before after a b m) old new made

pub then_made : (first more : Content → List Event) (a b c : Marks) → b.ring ≡ a.ring → (old mid new : Option FileRecord) → FileChanges (MakesEvents first a b) old mid
    → FileChanges (MakesEvents more b c) mid new → FileChanges (MakesEvents (then_events first more) a c) old new
then_made first more a b c ring old mid new one two =
    two_calls (MakesEvents first a b) (MakesEvents more b c) (MakesEvents (then_events first more) a c) (λ x y z p q. events_then first more a b ring x y z c p q) old mid new one two

pub then_broken : (first more : Content → List Event) (a b : Marks) → b.ring ≡ a.ring → (old mid new : Option FileRecord) → FileChanges (MakesEvents first a b) old mid
    → FileChanges (BreaksOffAmid more b) mid new → FileChanges (BreaksOffAmid (then_events first more) a) old new
then_broken first more a b ring old mid new one two =
    two_calls (MakesEvents first a b) (BreaksOffAmid more b) (BreaksOffAmid (then_events first more) a) (λ x y z p q. events_break first more a b ring x y z p q) old mid new one two

pub broken_early : (first more : Content → List Event) (a : Marks) (old new : Option FileRecord) → FileChanges (BreaksOffAmid first a) old new
    → FileChanges (BreaksOffAmid (then_events first more) a) old new
broken_early first more a old new broken =
    one_call (BreaksOffAmid first a) (BreaksOffAmid (then_events first more) a) (λ x y b. breaks_early first more a x y b) old new broken

pub made_same : (f g : Content → List Event) (before after : Marks) (old new : Option FileRecord) → ((start : Content) → f start ≡ g start)
    → FileChanges (MakesEvents f before after) old new → FileChanges (MakesEvents g before after) old new
made_same f g before after old new same made =
    one_call (MakesEvents f before after) (MakesEvents g before after) (λ a b m. same_events f g before after a b (λ start stands noted. same start) m) old new made

pub broken_same : (f g : Content → List Event) (before : Marks) (old new : Option FileRecord) → ((start : Content) → f start ≡ g start)
    → FileChanges (BreaksOffAmid f before) old new → FileChanges (BreaksOffAmid g before) old new
broken_same f g before old new same broken =
    one_call (BreaksOffAmid f before) (BreaksOffAmid g before) (λ a b m. same_breaks f g before a b (λ start stands noted. same start) m) old new broken

-- by the note that the journal has
pub noted_made : (f g : Content → List Event) (before after : Marks) (old new : Option FileRecord) → ((start : Content) → start.note ≡ before.note → f start ≡ g start)
    → FileChanges (MakesEvents f before after) old new → FileChanges (MakesEvents g before after) old new
noted_made f g before after old new same made =
    one_call (MakesEvents f before after) (MakesEvents g before after) (λ a b m. same_events f g before after a b (λ start stands noted. same start noted) m) old new made

pub noted_broken : (f g : Content → List Event) (before : Marks) (old new : Option FileRecord) → ((start : Content) → start.note ≡ before.note → f start ≡ g start)
    → FileChanges (BreaksOffAmid f before) old new → FileChanges (BreaksOffAmid g before) old new
noted_broken f g before old new same broken =
    one_call (BreaksOffAmid f before) (BreaksOffAmid g before) (λ a b m. same_breaks f g before a b (λ start stands noted. same start noted) m) old new broken

-- ---- work

pub does_none : (now : Sight) → IfSome now.disk.file IsConsistent → DoesAll no_work now now
does_none now consistent = record {
  calls = calls_none now.pass;
  events = none_made now.marks now.disk.file consistent;
  lines = Takes-nothing now.log now.log refl;
  ring = refl;
  disk_faults = omega arith;
  log_faults = omega arith;
}

pub does_then : (first more : Work) (a b c : Sight) → DoesAll first a b → DoesAll more b c → DoesAll (work_then first more) a c
does_then first more a b c one two = record {
  calls = calls_trans a.pass b.pass c.pass first.entries more.entries one.calls two.calls;
  events = then_made first.events more.events a.marks b.marks c.marks one.ring a.disk.file b.disk.file c.disk.file one.events two.events;
  lines = Takes-then a.log b.log c.log first.lines more.lines one.lines two.lines;
  ring = two.ring ∙ one.ring;
  disk_faults = omega (arith, one.disk_faults, two.disk_faults);
  log_faults = omega (arith, one.log_faults, two.log_faults);
}

pub part_then : (first more : Work) (a b c : Sight) → DoesAll first a b → DoesPart more b c → DoesPart (work_then first more) a c
part_then first more a b c one two = record {
  called = first.entries ++ two.called;
  not_called = two.not_called;
  calls_are = append_assoc first.entries two.called two.not_called ∙ ap (λ (l : List Entry). first.entries ++ l) two.calls_are;
  calls = calls_trans a.pass b.pass c.pass first.entries two.called one.calls two.calls;
  events = then_broken first.events more.events a.marks b.marks one.ring a.disk.file b.disk.file c.disk.file one.events two.events;
  written = first.lines ++ two.written;
  not_written = two.not_written;
  lines_are = append_assoc first.lines two.written two.not_written ∙ ap (λ (l : List ℕ). first.lines ++ l) two.lines_are;
  lines = Takes-then a.log b.log c.log first.lines two.written one.lines two.lines;
  disk_faults = omega (arith, one.disk_faults, two.disk_faults);
  log_faults = omega (arith, one.log_faults, two.log_faults);
}

pub part_early : (first more : Work) (a b : Sight) → DoesPart first a b → DoesPart (work_then first more) a b
part_early first more a b one = record {
  called = one.called;
  not_called = one.not_called ++ more.entries;
  calls_are = sym (append_assoc one.called one.not_called more.entries) ∙ ap (λ (l : List Entry). l ++ more.entries) one.calls_are;
  calls = one.calls;
  events = broken_early first.events more.events a.marks a.disk.file b.disk.file one.events;
  written = one.written;
  not_written = one.not_written ++ more.lines;
  lines_are = sym (append_assoc one.written one.not_written more.lines) ∙ ap (λ (l : List ℕ). l ++ more.lines) one.lines_are;
  lines = one.lines;
  disk_faults = one.disk_faults;
  log_faults = one.log_faults;
}

pub part_of_all : (work : Work) (a b : Sight) → DoesAll work a b → DoesPart work a b
part_of_all work a b one = record {
  called = work.entries;
  not_called = [];
  calls_are = append-nil work.entries;
  calls = one.calls;
  events = leaves_amid work.events a.marks b.marks a.disk.file b.disk.file one.events;
  written = work.lines;
  not_written = [];
  lines_are = append-nil work.lines;
  lines = one.lines;
  disk_faults = one.disk_faults;
  log_faults = one.log_faults;
}

-- ---- the same work in other words

pub record IsSameWork (one other : Work) : Type 0 where
  pub entries : one.entries ≡ other.entries
  pub events : (start : Content) → one.events start ≡ other.events start
  pub lines : one.lines ≡ other.lines

pub does_same : (one other : Work) (a b : Sight) → IsSameWork one other → DoesAll one a b → DoesAll other a b
does_same one other a b same does = record {
  calls = subst (λ (l : List Entry). Calls a.pass b.pass l) same.entries does.calls;
  events = made_same one.events other.events a.marks b.marks a.disk.file b.disk.file same.events does.events;
  lines = subst (λ (l : List ℕ). Takes a.log l b.log) same.lines does.lines;
  ring = does.ring;
  disk_faults = does.disk_faults;
  log_faults = does.log_faults;
}

pub part_same : (one other : Work) (a b : Sight) → IsSameWork one other → DoesPart one a b → DoesPart other a b
part_same one other a b same does = record {
  called = does.called;
  not_called = does.not_called;
  calls_are = does.calls_are ∙ same.entries;
  calls = does.calls;
  events = broken_same one.events other.events a.marks a.disk.file b.disk.file same.events does.events;
  written = does.written;
  not_written = does.not_written;
  lines_are = does.lines_are ∙ same.lines;
  lines = does.lines;
  disk_faults = does.disk_faults;
  log_faults = does.log_faults;
}

-- one turn is the work of a list of one
pub one_turn : (who : Who) (turn : Turn) → IsSameWork (turn_work who turn) (work_of who (turn ∷ []))
one_turn who turn = record {
  entries = sym (append-nil (turn_work who turn).entries);
  events = λ start. sym (append-nil ((turn_work who turn).events start));
  lines = sym (append-nil (turn_work who turn).lines);
}
