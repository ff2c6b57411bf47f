-- How records end a watching, and how many notices came then.
use Rattle.std.proofs.Common.{◌≡◌, ℕ, ◌+◌, ◌-◌, ◌<◌, ◌≤◌, leb, Bool, true, false, List, [], ◌∷◌, ◌++◌, length, Option, Some, None, refl, ap, sym, subst, ◌∙◌, arith}
use Rattle.std.specs.Option.{ForSome}
use Rattle.std.proofs.lemmas.Bool.Decides.{nat_tests}
use Rattle.std.proofs.lemmas.List.{append-nil, length-append}
use Rattle.std.proofs.Common.{append_assoc}
use Rattle.ldm_types.specs.Info.{Metadata}
use Rattle.ldm_relay.specs.Sent.{Sent}
use Rattle.ldm_relay.specs.Sent as sent
use Rattle.ldm_rpc.specs.Reading.{is_faulty}
use Rattle.ldm_rpc.specs.Streams.{Position, Placed}
use Rattle.ldm_watch.specs.declared.end.WatchEnd.{WatchEnd}
use Rattle.ldm_watch.specs.declared.end.WatchEnd.TheVariants.{Ended, Counted, Truncated, BadFrame, Refused, LinkFault, SinkFault, StreamLimit, OutOfMemory}
use Rattle.ldm_session.specs.declared.limits.TheConstants.{LONGEST_STREAM}
use Rattle.ldm_watch.specs.declared.step.Step.{Step}
use Rattle.ldm_watch.specs.declared.step.Step.TheVariants.{Alive, Begins, AsksAgain, Notice, Bad, Declined}
use Rattle.ldm_watch.specs.Step.{watch_step}
use Rattle.ldm_watch.specs.Sought.{Sought}
use Rattle.ldm_watch.specs.Told.{end_behind, end_by_bytes}
use Rattle.ldm_watch.specs.Watched.{Watched, after_step, counted, opening, take_record, watched}

-- so many were asked for, so many are left to come, and so many came
abbrev LeftIs : (count left : Option ℕ) → ℕ → Type 0
LeftIs None None came = Unit {0}
LeftIs (Some count) (Some left) came = (0 < left) × (came + left ≡ count)
LeftIs None (Some left) came = ⊥
LeftIs (Some count) None came = ⊥

-- what bytes can end it by, and how many notices came then
abbrev pub IsMade : Option WatchEnd → (count left : Option ℕ) → ℕ → Type 0
IsMade None count left came = LeftIs count left came
IsMade (Some Counted) count left came = count ≡ Some came
IsMade (Some (BadFrame at)) count left came = Unit {0}
IsMade (Some (Refused answer)) count left came = Unit {0}
IsMade (Some StreamLimit) count left came = Unit {0}
IsMade (Some Ended) count left came = ⊥
IsMade (Some (Truncated at)) count left came = ⊥
IsMade (Some LinkFault) count left came = ⊥
IsMade (Some SinkFault) count left came = ⊥
IsMade (Some OutOfMemory) count left came = ⊥

abbrev pub Made : Option ℕ → Watched → Type 0
Made count t = IsMade t.end count t.watching.left (length t.notices)

-- where none ended it
left-of : (end : Option WatchEnd) (count left : Option ℕ) (came : ℕ) → end ≡ None → IsMade end count left came → LeftIs count left came
left-of None count left came goes made = made
left-of (Some end) count left came goes made = absurd (cc goes)

of-left : (end : Option WatchEnd) (count left : Option ℕ) (came : ℕ) → end ≡ None → LeftIs count left came → IsMade end count left came
of-left None count left came goes is = is
of-left (Some end) count left came goes is = absurd (cc goes)

one-more : (notices : List Metadata) (info : Metadata) → length (notices ++ info ∷ []) ≡ length notices + 1
one-more notices info = length-append notices (info ∷ [])

counted-last : (count : Option ℕ) (t : Watched) (left came : ℕ) (last : Bool) → leb left 1 ≡ last → length t.notices ≡ came + 1 → t.end ≡ None → LeftIs count (Some left) came
    → Made count (counted t (Some left))
counted-last None t left came last last_is more goes is = absurd is
counted-last (Some count) t left came true last_is more goes is =
    let all : count ≡ length t.notices = (let small : left ≤ 1 = grind (arith, nat_tests) in omega (arith, is.0, is.1, more, small)) in
    rw last_is (ap (λ (n : ℕ). Some n) all)
counted-last (Some count) t left came false last_is more goes is =
    let large : 1 < left = grind (arith, nat_tests) in
    let there : LeftIs (Some count) (Some (left - 1)) (length t.notices) = (omega (arith, large), omega (arith, is.1, more, large)) in
    rw last_is (of-left t.end (Some count) (Some (left - 1)) (length t.notices) goes there)

counted-made : (count left : Option ℕ) (t : Watched) (came : ℕ) → t.watching.left ≡ left → length t.notices ≡ came + 1 → t.end ≡ None → LeftIs count left came → Made count (counted t left)
counted-made None None t came left_is more goes is = of-left t.end None t.watching.left (length t.notices) goes (rw left_is tt)
counted-made (Some count) None t came left_is more goes is = absurd is
counted-made count (Some left) t came left_is more goes is = counted-last count t left came (leb left 1) refl more goes is

step-made : (count : Option ℕ) (t : Watched) (at : ℕ) (step : Step) → t.end ≡ None → Made count t → Made count (after_step t at step)
step-made count t at Alive goes made = made
step-made count t at Begins goes made = made
step-made count t at (AsksAgain class) goes made = made
step-made count t at (Notice info) goes made =
    counted-made count t.watching.left (record t { notices = t.notices ++ info ∷ [] }) (length t.notices) refl (one-more t.notices info) goes
    (left-of t.end count t.watching.left (length t.notices) goes made)
step-made count t at Bad goes made = tt
step-made count t at (Declined answer) goes made = tt

record-made : (o : Option WatchEnd) (count : Option ℕ) (t : Watched) (placed : Placed) → t.end ≡ o → Made count t → Made count (take_record o t placed)
record-made None count t placed is made = step-made count t placed.at (watch_step t.watching placed.content) is made
record-made (Some end) count t placed is made = made

watched-made : (count : Option ℕ) (t : Watched) (records : List Placed) → Made count t → Made count (watched t records)
unfolding watched
watched-made count t [] made = made
watched-made count t (placed ∷ records) made = watched-made count (take_record t.end t placed) records (record-made t.end count t placed refl made)

opening-made : (sought : Sought) → ForSome sought.count (λ n. 0 < n) → Made sought.count (opening sought)
opening-made sought some = go sought.count some
  where
    go : (count : Option ℕ) → ForSome count (λ n. 0 < n) → IsMade None count count 0
    go None positive = tt
    go (Some count) positive = (positive count refl, omega arith)

pub taken-made : (sought : Sought) (records : List Placed) → ForSome sought.count (λ n. 0 < n) → Made sought.count (watched (opening sought) records)
taken-made sought records some = watched-made sought.count (opening sought) records (opening-made sought some)

-- with what is in hand
bytes-made : (p : Position) (faulty full : Bool) (count left : Option ℕ) (came : ℕ) → is_faulty p.reading ≡ faulty → leb LONGEST_STREAM p.came ≡ full → LeftIs count left came
    → IsMade (end_by_bytes p) count left came
bytes-made p true full count left came faulty_is full_is is = rw faulty_is tt
bytes-made p false true count left came faulty_is full_is is = rw (faulty_is, full_is) tt
bytes-made p false false count left came faulty_is full_is is = rw (faulty_is, full_is) is

pub hand-made : (p : Position) (end : Option WatchEnd) (count left : Option ℕ) (came : ℕ) → IsMade end count left came → IsMade (end_behind p end) count left came
hand-made p None count left came made = bytes-made p (is_faulty p.reading) (leb LONGEST_STREAM p.came) count left came refl refl made
hand-made p (Some end) count left came made = made

-- ---- what is owed and told is never less

pub record IsMore (old new : Watched) : Type 0 where
  pub owed : List Sent
  pub owed_is : new.owed ≡ old.owed ++ owed
  pub notices : List Metadata
  pub notices_are : new.notices ≡ old.notices ++ notices

same-more : (t : Watched) → IsMore t t
same-more t = record { owed = []; owed_is = sym (append-nil t.owed); notices = []; notices_are = sym (append-nil t.notices) }

more-then : (a b c : Watched) → IsMore a b → IsMore b c → IsMore a c
more-then a b c one other = record {
  owed = one.owed ++ other.owed;
  owed_is = other.owed_is ∙ ap (λ (xs : List Sent). xs ++ other.owed) one.owed_is ∙ append_assoc a.owed one.owed other.owed;
  notices = one.notices ++ other.notices;
  notices_are = other.notices_are ∙ ap (λ (xs : List Metadata). xs ++ other.notices) one.notices_are ∙ append_assoc a.notices one.notices other.notices;
}

counted-same : (t : Watched) (left : ℕ) (last : Bool) → leb left 1 ≡ last → (counted t (Some left)).owed ≡ t.owed × ((counted t (Some left)).notices ≡ t.notices)
counted-same t left true last = rw last (refl, refl)
counted-same t left false last = rw last (refl, refl)

counted-more : (old t : Watched) (left : Option ℕ) → IsMore old t → IsMore old (counted t left)
counted-more old t None more = more
counted-more old t (Some left) more =
    let same = counted-same t left (leb left 1) refl in
    record { owed = more.owed; owed_is = same.0 ∙ more.owed_is; notices = more.notices; notices_are = same.1 ∙ more.notices_are }

step-more : (t : Watched) (at : ℕ) (step : Step) → IsMore t (after_step t at step)
step-more t at Alive = same-more t
step-more t at Begins = record { owed = []; owed_is = sym (append-nil t.owed); notices = []; notices_are = sym (append-nil t.notices) }
step-more t at (AsksAgain class) = record { owed = sent.Notifyme 2 class ∷ []; owed_is = refl; notices = []; notices_are = sym (append-nil t.notices) }
step-more t at (Notice info) =
    counted-more t (record t { notices = t.notices ++ info ∷ [] }) t.watching.left
    (record { owed = []; owed_is = sym (append-nil t.owed); notices = info ∷ []; notices_are = refl })
step-more t at Bad = record { owed = []; owed_is = sym (append-nil t.owed); notices = []; notices_are = sym (append-nil t.notices) }
step-more t at (Declined answer) = record { owed = []; owed_is = sym (append-nil t.owed); notices = []; notices_are = sym (append-nil t.notices) }

record-more : (o : Option WatchEnd) (t : Watched) (placed : Placed) → IsMore t (take_record o t placed)
record-more None t placed = step-more t placed.at (watch_step t.watching placed.content)
record-more (Some end) t placed = same-more t

pub watched-more : (t : Watched) (records : List Placed) → IsMore t (watched t records)
unfolding watched
watched-more t [] = same-more t
watched-more t (placed ∷ records) =
    let next = take_record t.end t placed in
    more-then t next (watched next records) (record-more t.end t placed) (watched-more next records)
