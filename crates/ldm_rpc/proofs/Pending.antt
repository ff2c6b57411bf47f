-- A record is pending from its first byte on until it is complete.
use Rattle.std.proofs.Common.{◌≡◌, ℕ, ◌+◌, ◌-◌, ◌*◌, ◌%◌, ◌<◌, Bool, false, cond, ltb, leb, eqb, not, List, [], ◌∷◌, length, refl, arith, inl, inr}
use Rattle.std.proofs.lemmas.Bool.{cases_Bool, lt-ltb, cond_both}
use Rattle.ldm_rpc.specs.declared.stage.Stage.{Stage}
use Rattle.ldm_rpc.specs.declared.stage.Stage.TheVariants.{Header, Fragment, Whole, Faulty}
use Rattle.ldm_rpc.specs.declared.stage.TheConstants.{LAST_FRAGMENT}
use Rattle.ldm_rpc.specs.Reading.{Reading, after, after_byte, after_byte_in, after_header, begun, is_pending, is_pending_at, is_whole, is_whole_at, place, stage_before}

-- a byte of the record came
HasBegun : Stage → ℕ → Type 0
HasBegun (Header came number) at = 0 < at + came
HasBegun (Fragment left last) at = 0 < at
HasBegun Whole at = Unit {0}
HasBegun (Faulty fault) at = Unit {0}

-- within a fragment, bytes came
IsReady : Stage → ℕ → Type 0
IsReady (Header came number) at = Unit {0}
IsReady (Fragment left last) at = 0 < at
IsReady Whole at = Unit {0}
IsReady (Faulty fault) at = Unit {0}

still_ready : (stage : Stage) (at : ℕ) → HasBegun stage at → IsReady stage at
unfolding HasBegun IsReady
still_ready (Header came number) at h = tt
still_ready (Fragment left last) at h = h
still_ready Whole at h = tt
still_ready (Faulty fault) at h = tt

begins_before : (left : ℕ) (last : Bool) (at : ℕ) → 0 < at → HasBegun (stage_before left last) at
unfolding HasBegun
begins_before left last at some =
    cond_both (eqb left 0) (cond last Whole (Header 0 0)) (Fragment left last) (λ (s : Stage). HasBegun s at)
    (λ _. cond_both last Whole (Header 0 0) (λ (s : Stage). HasBegun s at) (λ _. tt) (λ _. omega arith)) (λ _. some)

begins_header : (s : Reading) (number : ℕ) → HasBegun (after_header s number).stage (after_header s number).next_header_at
unfolding HasBegun
begins_header s number =
    let len = number % LAST_FRAGMENT in
    elim (cases_Bool (ltb s.limit (length s.content + len))) [
      | inl over ↦ rw over tt
      | inr fits ↦ rw fits (begins_before len (leb LAST_FRAGMENT number) (place (s.next_header_at + 4 + len)) (omega arith))
    ]

begins_byte : (stage : Stage) (s : Reading) (byte : ℕ) → s.stage ≡ stage → IsReady stage s.next_header_at
    → HasBegun (after_byte_in stage s byte).stage (after_byte_in stage s byte).next_header_at
unfolding HasBegun IsReady
begins_byte (Header came number) s byte is ready =
    elim (cases_Bool (eqb came 3)) [
      | inl three ↦ rw three (begins_header s (number * 256 + byte))
      | inr not ↦ rw not (omega arith)
    ]
begins_byte (Fragment left last) s byte is ready = begins_before (left - 1) last s.next_header_at ready
begins_byte Whole s byte is ready = rw is tt
begins_byte (Faulty fault) s byte is ready = rw is tt

begins : (s : Reading) (byte : ℕ) → IsReady s.stage s.next_header_at → HasBegun (after_byte s byte).stage (after_byte s byte).next_header_at
unfolding after_byte
begins s byte ready = begins_byte s.stage s byte refl ready

begins_after : (s : Reading) (byte : ℕ) (bytes : List ℕ) → IsReady s.stage s.next_header_at
    → HasBegun (after s (byte ∷ bytes)).stage (after s (byte ∷ bytes)).next_header_at
unfolding after
begins_after s byte [] ready = begins s byte ready
begins_after s byte (next ∷ bytes) ready = begins_after (after_byte s byte) next bytes (still_ready _ _ (begins s byte ready))

pending_or_whole : (stage : Stage) (at : ℕ) → HasBegun stage at → is_pending_at stage at ≡ not (is_whole_at stage)
unfolding HasBegun
pending_or_whole (Header came number) at h = lt-ltb 0 (at + came) h
pending_or_whole (Fragment left last) at h = refl
pending_or_whole Whole at h = refl
pending_or_whole (Faulty fault) at h = refl

pub pending_begun : (limit byte : ℕ) (bytes : List ℕ) → is_pending (after (begun limit) (byte ∷ bytes)) ≡ not (is_whole (after (begun limit) (byte ∷ bytes)))
unfolding IsReady
pending_begun limit byte bytes = pending_or_whole _ _ (begins_after (begun limit) byte bytes tt)

pub not_pending : (limit : ℕ) → is_pending (after (begun limit) []) ≡ false
unfolding after
not_pending limit = refl
