-- Each example computes.
use Rattle.std.proofs.Common.{◌≡◌, ◌∙◌, ℕ, false, List, [], ◌∷◌, take, Option, Some, None, refl, sym, ap, subst, arith}
use Rattle.std.proofs.lemmas.Option.{same_Some}
use Rattle.hex.specs.Hex.{encode_with, decode_pairs}
use Rattle.ldm_model.specs.declared.event.Event.TheVariants as event
use Rattle.ldm_model.specs.declared.event.Reply.TheVariants as reply
use Rattle.ldm_model.specs.Examples.{sample_info, signature_of}
use Rattle.ldm_model.specs.Expire.{expire}
use Rattle.ldm_model.specs.Insert.{insert}
use Rattle.ldm_model.specs.Law.{at_entries, is_present}
use Rattle.ldm_model.specs.Open.{open_cursor}
use Rattle.ldm_model.specs.State.{Row}
use Rattle.ldm_model.specs.Step.{step}
use Rattle.ldm_between_ends.specs.ResumingExamples.{resumed_life}
use Rattle.ldm_between_ends.proofs.resuming_examples.worked_example_of_resuming.Goals as goal

pub returns-clause-given : goal.returns-clause-given
unfolding insert open_cursor step expire
returns-clause-given c = refl

pub returns-clause-behind : goal.returns-clause-behind
unfolding insert open_cursor step expire encode_with decode_pairs
returns-clause-behind c = record { found = refl; row = _; is_row = refl; queued = refl; named = refl }

abbrev signature_in_row : Option Row → List ℕ
signature_in_row None = []
signature_in_row (Some row) = row.product.info.signature

abbrev first_of : List ℕ → ℕ
first_of [] = 0
first_of (n ∷ ns) = n

pub returns-clause-not_behind : goal.returns-clause-not_behind
unfolding insert open_cursor step expire encode_with decode_pairs
returns-clause-not_behind c = λ b.
    let named : signature_of 1 ≡ b.row.product.info.signature = same_Some _ _ b.named in
    let has : signature_of 2 ≡ b.row.product.info.signature = ap signature_in_row b.is_row in
    let same : ◌≡◌ {A = ℕ} 1 2 = ap first_of (named ∙ sym has) in
    absurd (omega arith)

pub returns-clause-next : goal.returns-clause-next
unfolding insert open_cursor step expire
returns-clause-next c = record {
  front = take 4 resumed_life.since;
  call = record { actor = 3; event = event.Step 0; reply = reply.Product 2 102 (sample_info 3 4) };
  behind = [];
  since = refl;
  is_call = refl;
  time = 102;
  info = sample_info 3 4;
  gave = refl;
  passed = λ r later less due not_offered.
      let is : ◌≡◌ {A = ℕ} 1 r = omega arith in
      subst (λ (i : ℕ). is_present (at_entries resumed_life (take 4 resumed_life.since)) i ≡ false) is refl;
}
