-- A search on its way: what it has passed.
use Rattle.std.proofs.Common.{◌≡◌, ℕ, ◌<◌, inl, inr, List, length, sym, ap, ◌∙◌, subst}
use Rattle.ldm_sigindex.specs.declared.entries.Entry.{Entry}
use Rattle.ldm_sigindex.specs.declared.entries.TheConstants.{END}
use Rattle.ldm_sigindex.specs.Entries.{IsEntry, IsFirstFree, IsOnWay, after_of, entry_at, free_of, home_of, mark_of, slot_at}
use Rattle.ldm_sigindex.specs.Index.{Table}
use Rattle.ldm_sigindex.proofs.Occupied.{free_is_free}
use Rattle.ldm_sigindex.proofs.Round.{after_inside, none_on_way, on_way_after, way, way_falls}

-- no place was free
pub record IsWalked (entries : List Entry) (home at : ℕ) : Type 0 where
  pub inside : at < length entries
  pub taken : (before : ℕ) → before < length entries → IsOnWay home before at → slot_at entries before ≡ END → ⊥

-- no entry was that of a signature
pub record IsPassed (key : ℕ) (entries : List Entry) (table : Table) (signature : List ℕ) (at : ℕ) : Type 0 where
  pub inside : at < length entries
  pub other : (place : ℕ) → place < length entries → IsOnWay (home_of (length entries) (mark_of key signature)) place at → IsEntry key (entry_at entries place) table signature → ⊥

pub way_shorter : (entries : List Entry) (at : ℕ) → at < length entries → free_of entries < length entries → (slot_at entries at ≡ END → ⊥) →
    way (length entries) (after_of (length entries) at) (free_of entries) < way (length entries) at (free_of entries)
way_shorter entries at inside free taken =
    way_falls (length entries) at (free_of entries) inside free (λ same. taken (ap (slot_at entries) same ∙ free_is_free entries))

pub walked_first : (entries : List Entry) (home : ℕ) → home < length entries → IsWalked entries home home
walked_first entries home inside = record { inside = inside; taken = λ before _ on. absurd (none_on_way home before on) }

pub walked_next : (entries : List Entry) (home at : ℕ) → (slot_at entries at ≡ END → ⊥) → IsWalked entries home at → IsWalked entries home (after_of (length entries) at)
walked_next entries home at taken walked = record {
  inside = after_inside (length entries) at walked.inside;
  taken = λ before lt on ended. elim (on_way_after (length entries) home before at walked.inside lt on) [
    | inl here ↦ taken (ap (slot_at entries) (sym here) ∙ ended)
    | inr earlier ↦ walked.taken before lt earlier ended
  ];
}

pub walked_end : (entries : List Entry) (home at : ℕ) → slot_at entries at ≡ END → IsWalked entries home at → IsFirstFree entries home at
walked_end entries home at ended walked = record { inside = walked.inside; is_free = ended; taken = walked.taken }

pub passed_first : (key : ℕ) (entries : List Entry) (table : Table) (signature : List ℕ) → home_of (length entries) (mark_of key signature) < length entries →
    IsPassed key entries table signature (home_of (length entries) (mark_of key signature))
passed_first key entries table signature inside = record { inside = inside; other = λ place _ on. absurd (none_on_way (home_of (length entries) (mark_of key signature)) place on) }

pub passed_next : (key : ℕ) (entries : List Entry) (table : Table) (signature : List ℕ) (at : ℕ) → (IsEntry key (entry_at entries at) table signature → ⊥) → IsPassed key entries table signature at →
    IsPassed key entries table signature (after_of (length entries) at)
passed_next key entries table signature at apart passed = record {
  inside = after_inside (length entries) at passed.inside;
  other = λ place lt on is. elim (on_way_after (length entries) (home_of (length entries) (mark_of key signature)) place at passed.inside lt on) [
    | inl here ↦ apart (subst (λ one. IsEntry key (entry_at entries one) table signature) here is)
    | inr earlier ↦ passed.other place lt earlier is
  ];
}
