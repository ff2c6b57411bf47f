-- Which entries of pqact.conf act on a product.
use Rattle.std.specs.Prelude.{ℕ, Bool, not, ◌&&◌, ◌||◌, is_none, List, Option, Some, None, replicate, unwrap_or}
use Rattle.std.specs.List.{list_any}
use Rattle.ldm_types.specs.Feed.{feeds_meet}
use Rattle.ldm_types.specs.Info.{Metadata}
use Rattle.ldm_pattern.specs.Parts.{group_parts}
use Rattle.ldm_pqact_conf.specs.Entries.{EntryView}
use Rattle.ldm_pqact_conf.specs.EntryParts.{found_by}

-- the feedtype of an entry meets that of a product
abbrev pub meets : Metadata → EntryView → Bool
meets info entry = feeds_meet entry.feed info.feed

-- an entry matches a product: it meets it, and its pattern is found in the ident. An `_ELSE_` entry has no pattern and matches none
abbrev pub matches : Metadata → EntryView → Bool
matches info entry = meets info entry && found_by entry.pattern info.ident

-- some of these entries matches a product
abbrev pub any_matches : Metadata → List EntryView → Bool
any_matches info entries = list_any (matches info) entries

-- an entry acts on a product, where an earlier one matched or none did: it matches, or it is an `_ELSE_` entry that meets the
-- product, and no earlier one matched
abbrev pub acts : Bool → Metadata → EntryView → Bool
acts matched info entry = matches info entry || (is_none entry.pattern && (meets info entry && not matched))

-- no group has a part
abbrev pub no_parts : List (Option (List ℕ))
no_parts = replicate 9 None

-- the parts of an ident that groups 1 to 9 of a pattern have
abbrev pub parts_by : Option (List ℕ) → List ℕ → List (Option (List ℕ))
parts_by None ident = no_parts
parts_by (Some pattern) ident = unwrap_or (group_parts pattern ident) no_parts

-- the parts of the ident that the groups of an entry have. In an `_ELSE_` entry no group has one
abbrev pub parts_for : Metadata → EntryView → List (Option (List ℕ))
parts_for info entry = parts_by entry.pattern info.ident
