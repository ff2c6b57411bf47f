-- What a journal stands for, as it is put back and recorded: where nobody else writes into its file it is told as a journal at each moment.
use Rattle.std.proofs.Common.{◌≡◌, ◌∙◌, ℕ, ◌+◌, List, [], Option, None, Some, Ok, inl, inr, refl, sym, ap, subst}
use Rattle.std.specs.Prelude.{IfSome}
use Rattle.ldm_disk.specs.Told.{FileRecord}
use Rattle.ldm_disk.specs.Calls.{FileChanges, KeepsFile}
use Rattle.ldm_journal.specs.declared.marks.Marks.{Marks}
use Rattle.ldm_journal.specs.Records.{Kept}
use Rattle.ldm_journal.specs.Format.{around}
use Rattle.ldm_journal.specs.Joining.{MakesEvents}
use Rattle.ldm_journal.specs.Opening.{Opens}
use Rattle.ldm_journal.specs.Runs.{Content, Event}
use Rattle.ldm_journal.specs.Standing.{Keeps, Stands}

-- a journal of these marks stands in a file, where the disk tells it
abbrev pub StandsIn : Marks → Option FileRecord → Type 0
StandsIn marks file = IfSome file (λ f. (kept : List Kept) × (appended : List Kept) × Stands marks kept appended f)

-- an open journal
pub opened_stands : (marks : Marks) (ring : ℕ) (old new : Option FileRecord) → FileChanges (Opens (Ok marks) ring) old new → StandsIn marks new
opened_stands marks ring None None opens = tt
opened_stands marks ring None (Some new) opens = absurd opens
opened_stands marks ring (Some old) None opens = absurd opens
opened_stands marks ring (Some old) (Some new) (size, inl found) = (found.kept, [], found.stands)
opened_stands marks ring (Some old) (Some new) (size, inr made) = ([], [], made.stands)

kept_stands : (marks : Marks) (kept appended : List Kept) (old new : FileRecord) → KeepsFile old new → Stands marks kept appended old → Stands marks kept appended new
kept_stands marks kept appended old new keeps stands = record {
  crash = λ left leaves.
      (let from = keeps.goes.crash left leaves in subst (λ (file : List ℕ). Keeps marks kept file) (sym from.2) (stands.crash from.0 from.1));
  behind = ap (λ (bytes : List ℕ). around marks.ring (marks.front + marks.used) marks.appended bytes) keeps.bytes ∙ stands.behind;
  lawful = stands.lawful;
  rising = stands.rising;
}

-- a file that stays
pub stays_in : (marks : Marks) (old new : Option FileRecord) → FileChanges KeepsFile old new → StandsIn marks old → StandsIn marks new
stays_in marks None None keeps stands = tt
stays_in marks None (Some new) keeps stands = absurd keeps
stays_in marks (Some old) None keeps stands = absurd keeps
stays_in marks (Some old) (Some new) keeps stands = (stands.0, stands.1, kept_stands marks stands.0 stands.1 old new keeps stands.2)

-- calls that ended well
pub goes_on_in : (events : Content → List Event) (before after : Marks) (old new : Option FileRecord) → FileChanges (MakesEvents events before after) old new
    → StandsIn before old → StandsIn after new
goes_on_in events before after None None makes stands = tt
goes_on_in events before after None (Some new) makes stands = absurd makes
goes_on_in events before after (Some old) None makes stands = absurd makes
goes_on_in events before after (Some old) (Some new) makes stands =
    let start : Content = record { kept = stands.0; appended = stands.1; note = before.note } in
    (_, _, (makes start stands.2 refl).0)

-- so it is not refused behind a moment, where the disk tells its file
pub not_refused : (P : FileRecord → FileRecord → Type 0) (marks : Marks) (old new : Option FileRecord) (file : FileRecord) → new ≡ Some file → FileChanges P old new
    → StandsIn marks old → IfSome old (λ f. (kept appended : List Kept) → ¬ (Stands marks kept appended f)) → ⊥
not_refused P marks (Some old) (Some new) file told changes stands refused = refused stands.0 stands.1 stands.2
not_refused P marks None (Some new) file told changes stands refused = changes
not_refused P marks (Some old) None file told changes stands refused = cc told
not_refused P marks None None file told changes stands refused = cc told
