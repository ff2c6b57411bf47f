-- That a play hands on what it wrote, by the number that it ends with: for `HandsOn`.
use Rattle.std.proofs.Common.{◌≡◌, ◌≤◌, ◌<◌, ◌⊎◌, ◌∙◌, ℕ, Result, Ok, Err, inl, inr, sym, arith}
use Rattle.ldm_outside.specs.Count.{Rose}
use Rattle.ldm_status.specs.Streams.{StreamsRecord}
use Rattle.ldm_status.specs.Status.{code_of, Reports}
use Rattle.ldm_book.specs.declared.fault.CreateFault.{CreateFault}
use Rattle.ldm_book.specs.declared.fault.CreateFault.TheVariants as fault
use Rattle.ldm_play.specs.declared.play_command.ScriptEnd.{ScriptEnd}
use Rattle.ldm_play.specs.declared.play_command.ScriptEnd.TheVariants as script_end
use Rattle.ldm_play.specs.declared.player.LineFault.TheVariants as stop
use Rattle.ldm_play.specs.Ending.{Size, PlayEnds}
use Rattle.ldm_play.specs.HandedOn.{EndingHandsOn, HandsOn}
use Rattle.ldm_play.specs.Statuses.{status_of_play}

-- the numbers of plays, and of plays without a queue
abbrev Played : ℕ → Type 0
Played code = (code ≡ 0) ⊎ ((code ≡ 65) ⊎ ((code ≡ 66) ⊎ (code ≡ 74)))

abbrev NotMade : ℕ → Type 0
NotMade code = (code ≡ 67) ⊎ (code ≡ 71)

not_played : (code : ℕ) → 67 ≤ code → (code ≡ 74 → ⊥) → Played code → ⊥
not_played code large other (inl is) = omega (arith, is)
not_played code large other (inr (inl is)) = omega (arith, is)
not_played code large other (inr (inr (inl is))) = omega (arith, is)
not_played code large other (inr (inr (inr is))) = other is

made : (code : ℕ) → (code ≡ 67 → ⊥) → (code ≡ 71 → ⊥) → NotMade code → ⊥
made code sizes memory (inl is) = sizes is
made code sizes memory (inr is) = memory is

abbrev ByNumber : ℕ → (handed_on as_it_was : Type 0) → Type 0
ByNumber code handed_on as_it_was = (Played code → handed_on) × (NotMade code → as_it_was)

handed : (code n : ℕ) (handed_on as_it_was : Type 0) → code ≡ n → (n ≡ 67 → ⊥) → (n ≡ 71 → ⊥) → handed_on → ByNumber code handed_on as_it_was
handed code n handed_on as_it_was is sizes memory hands = (λ number. hands, λ number. absurd (made code (λ e. sizes (sym is ∙ e)) (λ e. memory (sym is ∙ e)) number))

untouched : (code : ℕ) (handed_on as_it_was : Type 0) → 67 ≤ code → code < 74 → as_it_was → ByNumber code handed_on as_it_was
untouched code handed_on as_it_was large small kept = (λ number. absurd (not_played code large (λ e. omega (arith, e)) number), λ number. kept)

failed : (code : ℕ) (handed_on as_it_was : Type 0) → 74 < code → ByNumber code handed_on as_it_was
failed code handed_on as_it_was large =
    (λ number. absurd (not_played code (omega arith) (λ e. omega (arith, e)) number), λ number. absurd (made code (λ e. omega (arith, e)) (λ e. omega (arith, e)) number))

by_number : (ending : Result ScriptEnd CreateFault) (code : ℕ) (handed_on as_it_was : Type 0) → code ≡ code_of (status_of_play ending) → EndingHandsOn ending handed_on as_it_was
    → ByNumber code handed_on as_it_was
by_number (Ok script_end.Done) code handed_on as_it_was is hands = handed code 0 handed_on as_it_was is (λ e. omega (arith, e)) (λ e. omega (arith, e)) hands
by_number (Ok script_end.StreamLimit) code handed_on as_it_was is hands = handed code 66 handed_on as_it_was is (λ e. omega (arith, e)) (λ e. omega (arith, e)) hands
by_number (Ok script_end.SourceFault) code handed_on as_it_was is hands = handed code 74 handed_on as_it_was is (λ e. omega (arith, e)) (λ e. omega (arith, e)) hands
by_number (Ok (script_end.Stopped (stop.BadLine line column))) code handed_on as_it_was is hands = handed code 65 handed_on as_it_was is (λ e. omega (arith, e)) (λ e. omega (arith, e)) hands
by_number (Ok (script_end.Stopped stop.SinkFault)) code handed_on as_it_was is hands = failed code handed_on as_it_was (omega (arith, is))
by_number (Err (fault.BadArena arena)) code handed_on as_it_was is hands = untouched code handed_on as_it_was (omega (arith, is)) (omega (arith, is)) hands
by_number (Err (fault.BadSlots slots)) code handed_on as_it_was is hands = untouched code handed_on as_it_was (omega (arith, is)) (omega (arith, is)) hands
by_number (Err fault.OutOfMemory) code handed_on as_it_was is hands = untouched code handed_on as_it_was (omega (arith, is)) (omega (arith, is)) hands

-- whatever the number is
one_of_both : (ending : Result ScriptEnd CreateFault) (size : Size) (old new : StreamsRecord) (handed_on as_it_was : Type 0) → PlayEnds ending size old new
    → EndingHandsOn ending handed_on as_it_was → ¬ (Rose old.sink.faults new.sink.faults) → handed_on ⊎ as_it_was
one_of_both (Ok script_end.Done) size old new handed_on as_it_was ends hands works = inl hands
one_of_both (Ok script_end.StreamLimit) size old new handed_on as_it_was ends hands works = inl hands
one_of_both (Ok script_end.SourceFault) size old new handed_on as_it_was ends hands works = inl hands
one_of_both (Ok (script_end.Stopped (stop.BadLine line column))) size old new handed_on as_it_was ends hands works = inl hands
one_of_both (Ok (script_end.Stopped stop.SinkFault)) size old new handed_on as_it_was ends hands works = absurd (works ends.2.ends.2.0)
one_of_both (Err fault) size old new handed_on as_it_was ends hands works = inr hands

pub hands_on : (ending : Result ScriptEnd CreateFault) (size : Size) (code : ℕ) (old new : StreamsRecord) (handed_on as_it_was : Type 0) → PlayEnds ending size old new
    → Reports (status_of_play ending) code old.log new.log → EndingHandsOn ending handed_on as_it_was → HandsOn code old new handed_on as_it_was
hands_on ending size code old new handed_on as_it_was ends (inl told) hands =
    let by = by_number ending code handed_on as_it_was told.0 hands in
    record { played = by.0; not_made = by.1; not_logged = λ is works. one_of_both ending size old new handed_on as_it_was ends hands works }
hands_on ending size code old new handed_on as_it_was ends (inr told) hands =
    let by = failed code handed_on as_it_was (let is = told.0 in omega (arith, is)) in
    record { played = by.0; not_made = by.1; not_logged = λ is works. one_of_both ending size old new handed_on as_it_was ends hands works }
