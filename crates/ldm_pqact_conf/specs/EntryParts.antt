-- What contracts see of the types of this crate.
use Rattle.std.specs.Prelude.{◌≡◌, ℕ, Bool, true, false, List, length, Option, Some, None}
use Rattle.std.specs.Option.{option_map}
use Rattle.ldm_pattern.specs.Patterns.{found}
use Rattle.ldm_pqact_conf.specs.Actions.{takes}
use Rattle.ldm_pqact_conf.specs.Entries.{EntryView}
use Rattle.ldm_pqact_conf.specs.Kept.{Reading}
use Rattle.ldm_pqact_conf.specs.declared.reader.Reader.TheInside.{Inside as Reader}
use Rattle.ldm_pqact_conf.specs.declared.entry.Entry.TheInside.{Inside}

abbrev pub entry_view : Inside → EntryView
entry_view entry = record {
  line = entry.line;
  feed = entry.feed.0;
  pattern = entry.pattern;
  action = entry.action;
  options = entry.options;
  words = entry.words.items;
}

-- an entry has as many words as its action takes
abbrev pub TakesItsWords : Inside → Type 0
TakesItsWords entry = takes entry.action (length entry.words.items) ≡ true

-- whether the pattern of an entry is found in an ident: that of an `_ELSE_` entry is found in none
abbrev pub found_by : Option (List ℕ) → List ℕ → Bool
found_by None ident = false
found_by (Some pattern) ident = found pattern ident

-- what was read of a text: `first` is the first line of the entry that has not ended yet, and `text` its lines, joined
abbrev pub reading_of : Reader → Reading
reading_of reader = record {
  entries = reader.entries.items;
  next = reader.next;
  open_entry = option_map (λ line. record { line = line; text = reader.text.items }) reader.first;
}
