-- Values that meet the premises of the laws.
use Rattle.std.proofs.Common.{◌≡◌, ◌<◌, ◌^◌, ◌&&◌, ℕ, false, [], ◌∷◌, refl, arith}
use Rattle.std.proofs.lemmas.List.Elements.{All-from_recursion}
use Rattle.ldm_types.specs.Info.{AreBytes, IsMetadata}
use Rattle.ldm_model.specs.History.{IsLegal}
use Rattle.ldm_model.specs.Law.{IsPointOf, is_own, is_close}
use Rattle.ldm_model.specs.Filled.{ends}
use Rattle.ldm_model.specs.Filling.{IsFillingOf}
use Rattle.ldm_model.specs.Insert.{insert}
use Rattle.ldm_model.specs.Open.{open_cursor}
use Rattle.ldm_model.specs.Step.{step}
use Rattle.ldm_model.specs.Reserve.{reserve}
use Rattle.ldm_model.specs.Fill.{fill}
use Rattle.ldm_model.specs.Commit.{commit}
use Rattle.ldm_model.specs.Examples.{sample_info, signature_of}
use Rattle.ldm_model.specs.Premises.{InsertsFirst, ReadsOn, FillsOn, entries_read, entries_filled, reader_waiting, reservation_filled, stepping, committing}

bytes_of : (byte : ℕ) → byte < 256 → AreBytes (signature_of byte)
bytes_of byte small =
    All-from_recursion (λ b. b < 256) (signature_of byte)
    (small, (small, (small, (small, (small, (small, (small, (small, (small, (small, (small, (small, (small, (small, (small, (small, tt))))))))))))))))

sample_fits : (byte size : ℕ) → byte < 256 → size < 2 ^ 32 → IsMetadata (sample_info byte size)
sample_fits byte size small within = record {
  arrival = omega arith;
  signature = (refl, bytes_of byte small);
  texts = record { origin_short = omega arith; ident_short = omega arith; no_nul = refl };
  origin = All-from_recursion (λ b. b < 256) (104 ∷ []) (omega arith, tt);
  ident = All-from_recursion (λ b. b < 256) (112 ∷ []) (omega arith, tt);
  feed = omega arith;
  seqno = omega arith;
  size = within;
}

four : AreBytes (65 ∷ 65 ∷ 65 ∷ 65 ∷ [])
four = All-from_recursion (λ b. b < 256) (65 ∷ 65 ∷ 65 ∷ 65 ∷ []) (omega arith, (omega arith, (omega arith, (omega arith, tt))))

two : AreBytes (65 ∷ 66 ∷ [])
two = All-from_recursion (λ b. b < 256) (65 ∷ 66 ∷ []) (omega arith, (omega arith, tt))

pub inserts_first : InsertsFirst
inserts_first = record { fits = omega arith; absent = refl; in_time = refl }

read_is_legal : IsLegal 168 10 entries_read
unfolding insert open_cursor step reserve fill commit
read_is_legal = (
  record { actor = omega arith; possible = (omega arith, sample_fits 1 4 (omega arith) (omega arith), four, refl); reply = refl },
  (
    record { actor = omega arith; possible = (omega arith, tt); reply = refl },
    (
      record { actor = omega arith; possible = (omega arith, sample_fits 2 4 (omega arith) (omega arith), four, refl); reply = refl },
      (record { actor = omega arith; possible = omega arith; reply = refl }, tt),
    ),
  ),
)

waiting : IsPointOf 168 10 entries_read reader_waiting
unfolding insert open_cursor step reserve fill commit
waiting = record {
  same_arena = refl;
  same_slots = refl;
  rest = stepping ∷ [];
  front = refl;
  not_closed = All-from_recursion (λ entry. (is_own reader_waiting entry && is_close entry.event) ≡ false) reader_waiting.since (refl, tt);
}

pub reads_on : ReadsOn
unfolding insert open_cursor step reserve fill commit waiting
reads_on = (read_is_legal, (waiting, refl), refl)

filled_is_legal : IsLegal 168 10 entries_filled
unfolding insert open_cursor step reserve fill commit
filled_is_legal = (
  record { actor = omega arith; possible = sample_fits 1 2 (omega arith) (omega arith); reply = refl },
  (
    record { actor = omega arith; possible = (omega arith, sample_fits 2 4 (omega arith) (omega arith), four, refl); reply = refl },
    (
      record { actor = omega arith; possible = (omega arith, two); reply = refl },
      (record { actor = omega arith; possible = (omega arith, omega arith); reply = refl }, tt),
    ),
  ),
)

filled : IsFillingOf 168 10 entries_filled reservation_filled
unfolding insert open_cursor step reserve fill commit
filled = record {
  same_arena = refl;
  same_slots = refl;
  rest = committing ∷ [];
  front = refl;
  not_ended = All-from_recursion (λ entry. ends 0 0 entry ≡ false) reservation_filled.since (refl, (refl, tt));
}

pub fills_on : FillsOn
unfolding insert open_cursor step reserve fill commit filled
fills_on = (filled_is_legal, (filled, refl), refl)
