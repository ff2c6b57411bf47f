-- What the contracts inside this crate speak of.
use Rattle.std.specs.Prelude.{◌≡◌, ℕ, ◌+◌, List, [], ◌∷◌, ◌++◌, Option, Some, None, Result}
use Rattle.ldm_pqact_conf.specs.Lines.{Raw, added, raw_entries}
use Rattle.ldm_pqact_conf.specs.Fields as Fields
use Rattle.ldm_pqact_conf.specs.Entries.{EntryView, entries_of, entries_from, first_of, entry_of, in_front}
use Rattle.ldm_pqact_conf.specs.Causes.{UnlessMemory, IsFaultOf}
use Rattle.ldm_pqact_conf.specs.declared.fault.PqactKind.TheVariants as kind
use Rattle.ldm_pqact_conf.specs.declared.fault.PqactFault.{PqactFault}
use Rattle.ldm_pqact_conf.specs.declared.fields.Fields.{Fields}

-- the fields that a `Fields` lends
abbrev pub fields_view : Fields → Fields.Fields
fields_view fields = record {
  feedtype = fields.feedtype.now;
  pattern = fields.pattern.now;
  action = fields.action.now;
  arguments = fields.arguments.now;
}

-- what was read of a text: the entries that ended, the number of the next line, and the entry that has not ended yet
pub record Reading : Type 0 where
  pub entries : List EntryView
  pub next : ℕ
  pub open_entry : Option Raw

-- the entries that are to come, by the entry that has not ended yet and the lines that are left
abbrev pub to_come : Option Raw → ℕ → List (List ℕ) → Result (List EntryView) PqactFault
to_come None n lines = entries_from n lines
to_come (Some raw) n lines = entries_of (record { line = raw.line; text = raw.text ++ added lines } ∷ raw_entries n lines)

-- what a text means of which that was read and these lines are left
abbrev pub meaning : Reading → List (List ℕ) → Result (List EntryView) PqactFault
meaning reading lines = in_front reading.entries (to_come reading.open_entry reading.next lines)

-- a line goes on with the entry that has not ended yet
pub record GoesOn (old : Reading) (line : List ℕ) (new : Reading) : Type 0 where
  pub raw : Raw
  pub was : old.open_entry ≡ Some raw
  pub is : new ≡ record { entries = old.entries; next = old.next + 1; open_entry = Some (record { line = raw.line; text = raw.text ++ line }) }

-- and is the fault where there is no such entry
abbrev pub IsStray : Reading → PqactFault → Type 0
IsStray old fault = UnlessMemory fault.kind ((old.open_entry ≡ None) × (fault ≡ record { line = old.next; kind = kind.Fields }))

-- the next line begins an entry
abbrev pub begun : Reading → List ℕ → Reading
begun old line = record { entries = old.entries; next = old.next + 1; open_entry = Some (record { line = old.next; text = line }) }

-- the entry that had not ended yet is kept
abbrev pub kept : Reading → EntryView → Reading
kept old entry = record { entries = old.entries ++ entry ∷ []; next = old.next; open_entry = None }

-- what an entry that ends adds to the meaning of what is behind it
abbrev pub ending : Option Raw → Result (List EntryView) PqactFault → Result (List EntryView) PqactFault
ending None others = others
ending (Some raw) others = first_of raw.line (entry_of raw) others

-- the entry that had not ended yet has ended
pub record Ends (old new : Reading) : Type 0 where
  pub next : new.next ≡ old.next
  pub ended : new.open_entry ≡ None
  pub means : (others : Result (List EntryView) PqactFault) → in_front new.entries others ≡ in_front old.entries (ending old.open_entry others)

-- or it is wrong, whatever is behind it
abbrev pub IsEndFault : Reading → PqactFault → Type 0
IsEndFault old fault = (others : Result (List EntryView) PqactFault) → IsFaultOf (in_front old.entries (ending old.open_entry others)) fault
