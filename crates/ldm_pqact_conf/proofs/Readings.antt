-- What one line more means.
use Rattle.std.proofs.Common.{◌≡◌, ◌∙◌, ℕ, ◌+◌, true, false, List, [], ◌∷◌, ◌++◌, Option, None, Some, Result, Ok, Err, MatchResult, refl, sym, ap, append_assoc, append-nil}
use Rattle.ldm_text.specs.Lines.{lines_of}
use Rattle.ldm_pqact_conf.specs.declared.fault.PqactFault.{PqactFault}
use Rattle.ldm_pqact_conf.specs.declared.fault.PqactKind.{PqactKind}
use Rattle.ldm_pqact_conf.specs.declared.fault.PqactKind.TheVariants as kind
use Rattle.ldm_pqact_conf.specs.Causes.{IsFaultOf, IsKindOf}
use Rattle.ldm_pqact_conf.specs.Entries.{EntryView, entries_of, entries_from, entry_of, first_of, in_front, pqact_entries}
use Rattle.ldm_pqact_conf.specs.Lines.{Raw, added, is_continuation, is_skipped, raw_entries}
use Rattle.ldm_pqact_conf.specs.Kept.{Reading, Ends, GoesOn, IsEndFault, IsStray, begun, ending, kept, meaning, to_come}
use Rattle.ldm_pqact_conf.proofs.Faults.{unless, of_memory}

skipped_to_come : (o : Option Raw) (n : ℕ) (line : List ℕ) (lines : List (List ℕ)) → is_skipped line ≡ true →
    to_come o (n + 1) lines ≡ to_come o n (line ∷ lines)
skipped_to_come None n line lines h = rw h refl
skipped_to_come (Some raw) n line lines h = rw h refl

-- a line that is skipped
pub skipped : (old : Reading) (line : List ℕ) (lines : List (List ℕ)) → is_skipped line ≡ true →
    meaning (record { entries = old.entries; next = old.next + 1; open_entry = old.open_entry }) lines ≡ meaning old (line ∷ lines)
skipped old line lines h = ap (in_front old.entries) (skipped_to_come old.open_entry old.next line lines h)

module _ (line : List ℕ) (kept_line : is_skipped line ≡ false) where
  goes_on_to_come : (raw : Raw) (n : ℕ) (lines : List (List ℕ)) → is_continuation line ≡ true →
      to_come (Some (record { line = raw.line; text = raw.text ++ line })) (n + 1) lines ≡ to_come (Some raw) n (line ∷ lines)
  goes_on_to_come raw n lines h =
      rw (kept_line, h) (ap (λ text. entries_of (record { line = raw.line; text = text } ∷ raw_entries (n + 1) lines)) (append_assoc raw.text line (added lines)))

  stray_line : (n : ℕ) (lines : List (List ℕ)) → is_continuation line ≡ true →
      entries_from n (line ∷ lines) ≡ Err (record { line = n; kind = kind.Fields })
  stray_line n lines h = rw (kept_line, h) refl

  -- a line that goes on with an entry, or is a stray one
  pub goes_on : (old new : Reading) (result : Result (Unit {0}) PqactFault) → is_continuation line ≡ true →
      MatchResult result (λ _. GoesOn old line new) (IsStray old) → (lines : List (List ℕ)) →
      MatchResult result (λ _. meaning new lines ≡ meaning old (line ∷ lines)) (IsFaultOf (meaning old (line ∷ lines)))
  goes_on old new (Ok _) h on lines =
      rw (on.is, on.was) (ap (in_front old.entries) (goes_on_to_come on.raw old.next lines h))
  goes_on old new (Err fault) h stray lines =
      unless fault.kind _ _ (λ (none, is). rw (none, is) (ap (in_front old.entries) (stray_line old.next lines h))) stray

  begins_to_come : (o : Option Raw) (n : ℕ) (lines : List (List ℕ)) → is_continuation line ≡ false →
      to_come o n (line ∷ lines) ≡ ending o (to_come (Some (record { line = n; text = line })) (n + 1) lines)
  begins_to_come None n lines h = rw (kept_line, h) refl
  begins_to_come (Some raw) n lines h =
      rw (kept_line, h) (ap (λ text. first_of raw.line (entry_of (record { line = raw.line; text = text })) (entries_of (record { line = n; text = line ++ added lines } ∷ raw_entries (n + 1) lines))) (append-nil raw.text))

  -- a line that begins an entry, behind the entry that it ends
  pub begins_entry : (old closed new : Reading) (result : Result (Unit {0}) PqactFault) → is_continuation line ≡ false → Ends old closed →
      MatchResult result (λ _. new ≡ begun closed line) (λ fault. fault.kind ≡ kind.OutOfMemory) → (lines : List (List ℕ)) →
      MatchResult result (λ _. meaning new lines ≡ meaning old (line ∷ lines)) (IsFaultOf (meaning old (line ∷ lines)))
  begins_entry old closed new (Ok _) h ends is lines =
      rw (is, ends.next)
      (ends.means (to_come (Some (record { line = old.next; text = line })) (old.next + 1) lines)
      ∙ ap (in_front old.entries) (sym (begins_to_come old.open_entry old.next lines h)))
  begins_entry old closed new (Err fault) h ends is lines = of_memory fault.kind _ is

  -- and the fault of that entry
  pub ends_badly : (old : Reading) (fault : PqactFault) → is_continuation line ≡ false → IsEndFault old fault →
      (lines : List (List ℕ)) → IsFaultOf (meaning old (line ∷ lines)) fault
  ends_badly old fault h bad lines =
      rw (begins_to_come old.open_entry old.next lines h) (bad (to_come (Some (record { line = old.next; text = line })) (old.next + 1) lines))

last_to_come : (o : Option Raw) (n : ℕ) → to_come o n [] ≡ ending o (Ok [])
last_to_come None n = refl
last_to_come (Some raw) n = ap (λ text. first_of raw.line (entry_of (record { line = raw.line; text = text })) (Ok [])) (append-nil raw.text)

-- the end of the text
pub at_the_end : (old closed : Reading) → Ends old closed → meaning old [] ≡ Ok closed.entries
at_the_end old closed ends =
    ap (in_front old.entries) (last_to_come old.open_entry old.next) ∙ sym (ends.means (Ok [])) ∙ ap Ok (append-nil closed.entries)

pub bad_end : (old : Reading) (fault : PqactFault) → IsEndFault old fault → IsFaultOf (meaning old []) fault
bad_end old fault bad = rw (last_to_come old.open_entry old.next) (bad (Ok []))

in_front_twice : (entries : List EntryView) (entry : EntryView) (others : Result (List EntryView) PqactFault) →
    in_front (entries ++ entry ∷ []) others ≡ in_front entries (in_front (entry ∷ []) others)
in_front_twice entries entry (Ok others) = ap Ok (append_assoc entries (entry ∷ []) others)
in_front_twice entries entry (Err fault) = refl

-- an entry that ends well
pub ends_well : (old : Reading) (raw : Raw) (entry : EntryView) → old.open_entry ≡ Some raw → entry_of raw ≡ Ok entry → Ends old (kept old entry)
ends_well old raw entry was is = record {
  next = refl;
  ended = refl;
  means = λ others. rw (was, is) (in_front_twice old.entries entry others);
}

-- or is not kept for want of memory
pub keeps : (old new : Reading) (raw : Raw) (entry : EntryView) (result : Result (Unit {0}) PqactFault) →
    old.open_entry ≡ Some raw → entry_of raw ≡ Ok entry →
    MatchResult result (λ _. new ≡ kept old entry) (λ fault. fault.kind ≡ kind.OutOfMemory) →
    MatchResult result (λ _. Ends old new) (IsEndFault old)
keeps old new raw entry (Ok _) was is same = rw same (ends_well old raw entry was is)
keeps old new raw entry (Err fault) was is memory = λ others. of_memory fault.kind _ memory

-- an entry that is wrong
pub ends_wrong : (old : Reading) (raw : Raw) (cause : PqactKind) → old.open_entry ≡ Some raw → IsKindOf (entry_of raw) cause →
    IsEndFault old (record { line = raw.line; kind = cause })
ends_wrong old raw cause was h = λ others. unless cause (entry_of raw ≡ Err cause) _ (λ is. rw (was, is) refl) h

none_in_front : (others : Result (List EntryView) PqactFault) → in_front [] others ≡ others
none_in_front (Ok others) = refl
none_in_front (Err fault) = refl

-- where nothing was read yet
pub at_the_start : (text : List ℕ) → meaning (record { entries = []; next = 1; open_entry = None }) (lines_of text) ≡ pqact_entries text
unfolding pqact_entries
at_the_start text = none_in_front (entries_from 1 (lines_of text))
