-- Lemmas on the answers of a clock in memory.
use Rattle.std.proofs.Common.{◌≡◌, suc, ◌+◌, ◌-◌, ◌^◌, ◌<◌, ◌≤◌, [], ◌∷◌, ◌++◌, None, inl, inr, arith}
use Rattle.std.specs.Option.{option_map}
use Rattle.std.proofs.lemmas.Bool.{cases_lt, lt-ltb}
use Rattle.ldm_outside.specs.Clock.{Answers}
use Rattle.ldm_outside_memory.specs.MemClock.{ClockState, nth_instant, told_by_clock}
use Rattle.ldm_outside.specs.Count.{raised}

-- a clock that answered as planned, tells so
pub Answers-planned : (old : ClockState) → Answers (nth_instant old.instants old.calls) (told_by_clock old) (told_by_clock (record old { calls = raised old.calls }))
Answers-planned old = elim (cases_lt (old.calls + 1) (2 ^ 64 - 1)) [ inl below ↦ inl (told below) | inr above ↦ inr (lost above) ]
  where
    told : old.calls + 1 < 2 ^ 64 - 1 → (told_by_clock (record old { calls = raised old.calls })).answers ≡ option_map (λ before. before ++ nth_instant old.instants old.calls ∷ []) (told_by_clock old).answers
    told below =
        let raised_is : raised old.calls ≡ suc old.calls = omega arith in
        let now_below : suc old.calls < 2 ^ 64 - 1 = omega arith in
        let then_below : old.calls < 2 ^ 64 - 1 = omega arith in
        rw (raised_is, lt-ltb (suc old.calls) (2 ^ 64 - 1) now_below, lt-ltb old.calls (2 ^ 64 - 1) then_below)

    lost : 2 ^ 64 - 1 ≤ old.calls + 1 → (told_by_clock (record old { calls = raised old.calls })).answers ≡ None
    lost above =
        let raised_is : raised old.calls ≡ 2 ^ 64 - 1 = omega arith in
        rw raised_is
