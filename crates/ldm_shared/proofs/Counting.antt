-- The products that a cursor gives are counted off: over no call, over a step, and over one call after another.
use Rattle.std.proofs.Common.{◌≡◌, ◌∙◌, ℕ, ◌+◌, ◌-◌, List, [], ◌∷◌, ◌++◌, length, map, Option, Some, None, refl, sym, ap, arith}
use Rattle.std.specs.List.{flat_map}
use Rattle.std.proofs.lemmas.List.{append_cancel_left, length-append}
use Rattle.std.proofs.lemmas.List.Concat.{flat_map-append}
use Rattle.ldm_model.specs.declared.event.Event.TheVariants as event
use Rattle.ldm_model.specs.declared.event.Reply.{Reply}
use Rattle.ldm_model.specs.declared.event.Entry.{Entry}
use Rattle.ldm_shared.specs.Own.{own}
use Rattle.ldm_shared.specs.Passes.{PassView, Calls, FindsWorn, Grows}
use Rattle.ldm_shared.proofs.Made.{calls_none, calls_trans}
use Rattle.ldm_shared.specs.Counting.{CountsGiven, count_given, given_by, left_behind}
use Rattle.ldm_shared.specs.Givens.{Gave, Lost, Turn, count_of, products_of, turn_product, turn_reply}
use Rattle.ldm_shared.specs.Uses.{Uses, answer_by, step_answers}
use Rattle.ldm_shared.proofs.Using.{uses_step, uses_worn}

-- ---- numbers

pub left_behind-none : (left : Option ℕ) → left ≡ left_behind left 0
left_behind-none None = refl
left_behind-none (Some most) = let is : most ≡ most - 0 = omega arith in ap (λ (n : ℕ). Some n) is

pub left_behind-more : (left : Option ℕ) (n m : ℕ) → left_behind (left_behind left n) m ≡ left_behind left (n + m)
left_behind-more None n m = refl
left_behind-more (Some most) n m = let is : (most - n) - m ≡ most - (n + m) = omega arith in ap (λ (l : ℕ). Some l) is

pub count_given-append : (first second : List Reply) → count_given (first ++ second) ≡ count_given first + count_given second
count_given-append first second =
    ap (λ (ns : List ℕ). length ns) (flat_map-append given_by first second) ∙ length-append (flat_map given_by first) (flat_map given_by second)

-- the answers of turns give as many products as these
turn-given : (turn : Turn) → count_given (turn_reply turn ∷ []) ≡ length (turn_product turn)
turn-given (Lost count first last) = refl
turn-given (Gave given) = refl

pub turns-given : (turns : List Turn) → count_given (map turn_reply turns) ≡ count_of turns
turns-given [] = refl
turns-given (turn ∷ turns) =
    count_given-append (turn_reply turn ∷ []) (map turn_reply turns)
    ∙ (ap (λ (n : ℕ). n + count_given (map turn_reply turns)) (turn-given turn)
    ∙ (ap (λ (n : ℕ). length (turn_product turn) + n) (turns-given turns) ∙ sym (length-append (turn_product turn) (products_of turns))))

-- ---- calls

pub counts_uses : (k : ℕ) (old new : PassView) (answers : List Reply) (left after : Option ℕ) → Uses k old new answers → after ≡ left_behind left (count_given answers)
    → CountsGiven old new left after
counts_uses k old new answers left after uses is = record {
  called = uses.called;
  calls = uses.calls;
  counted = is ∙ ap (λ (xs : List Reply). left_behind left (count_given xs)) (sym uses.answered);
}

pub counts_none : (pass : PassView) (left : Option ℕ) → CountsGiven pass pass left left
counts_none pass left = record { called = []; calls = calls_none pass; counted = left_behind-none left }

pub counts_then : (a b c : PassView) (left mid after : Option ℕ) → CountsGiven a b left mid → CountsGiven b c mid after → CountsGiven a c left after
counts_then a b c left mid after one two =
    let first = step_answers one.called in
    let second = step_answers two.called in
    let all : step_answers (one.called ++ two.called) ≡ first ++ second =
    flat_map-append (λ (entry : Entry). answer_by entry.event entry.reply) one.called two.called in
    record {
      called = one.called ++ two.called;
      calls = calls_trans a b c one.called two.called one.calls two.calls;
      counted =
          two.counted
          ∙ (ap (λ (l : Option ℕ). left_behind l (count_given second)) one.counted
          ∙ (left_behind-more left (count_given first) (count_given second)
          ∙ ap (λ (n : ℕ). left_behind left n) (sym (count_given-append first second) ∙ ap count_given (sym all))));
    }

-- the calls between two views of a pass are what they are
calls_are : (old new : PassView) (one two : List Entry) → Calls old new one → Calls old new two → one ≡ two
calls_are old new one two first second = append_cancel_left (own old.actor old.seen) one two (sym first.adds.own ∙ second.adds.own)

-- so many products were counted off as its steps gave
pub counted_by : (k : ℕ) (old new : PassView) (answers : List Reply) (left after : Option ℕ) → Uses k old new answers → CountsGiven old new left after
    → after ≡ left_behind left (count_given answers)
counted_by k old new answers left after uses counts =
    counts.counted
    ∙ ap (λ (xs : List Reply). left_behind left (count_given xs))
    (ap step_answers (calls_are old new counts.called uses.called counts.calls uses.calls) ∙ uses.answered)

-- ---- a step

-- no product was given
pub counts_no_product : (k : ℕ) (old new : PassView) (answer : Reply) (left : Option ℕ) → count_given (answer ∷ []) ≡ 0 → Grows old new (event.Step k) answer
    → CountsGiven old new left left
counts_no_product k old new answer left none grows =
    counts_uses k old new (answer ∷ []) left left (uses_step k old new answer grows) (left_behind-none left ∙ ap (λ (n : ℕ). left_behind left n) (sym none))

pub counts_worn : (k turns : ℕ) (old new : PassView) (left : Option ℕ) → FindsWorn old new turns → CountsGiven old new left left
counts_worn k turns old new left worn = counts_uses k old new [] left left (uses_worn k turns old new worn) (left_behind-none left)
