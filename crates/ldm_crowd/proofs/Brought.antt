-- Calls of turns that bring the bytes of a body.
use Rattle.std.proofs.Common.{◌≡◌, ◌++◌, ◌∙◌, ℕ, List, Result, Ok, Err, length, take, sym, ap, subst}
use Rattle.std.proofs.lemmas.List.{take_at}
use Rattle.std.specs.Prelude.{IfOk}
use Rattle.ldm_model.specs.declared.event.Event.{Event}
use Rattle.ldm_model.specs.declared.event.Reply.{Reply}
use Rattle.ldm_model.specs.declared.replies.InsertReply.{InsertReply}
use Rattle.ldm_model.specs.Answers.{insert_answer}
use Rattle.ldm_calls.specs.declared.caller.Unmade.{Unmade}
use Rattle.ldm_shared.specs.declared.turn.Turn.{Turn}
use Rattle.ldm_shared.specs.declared.turn.Turn.TheVariants.{Done}
use Rattle.ldm_shared.specs.Passes.{PassView, Grows}
use Rattle.ldm_shared.specs.Turns.{IfDone}

-- the bytes that were made at the front of the room
pub front : (xs ys into : List ℕ) (n : ℕ) → n ≡ length xs → into ≡ xs ++ ys → take n into ≡ xs
front xs ys into n is e = ap (take n) e ∙ take_at xs ys n (sym is)

-- what holds of each reply of a turn holds of the one that it had
pub done-at : {R : Type 0} (P : R → Type 0) (turn : Turn R) (reply : R) → turn ≡ Done reply → IfDone turn P → P reply
done-at {R = R} P turn reply is done = subst (λ (t : Turn R). IfDone t P) is done

-- a pass that grows by a call with the bytes of the room grows by that with those of the line
pub brings : (old new : PassView) (call : List ℕ → Event) (taken bytes : List ℕ) (reply : Reply) → taken ≡ bytes → Grows old new (call taken) reply → Grows old new (call bytes) reply
brings old new call taken bytes reply same made = subst (λ (body : List ℕ). Grows old new (call body) reply) same made

-- so it is with an insertion that a turn made
pub turn-brings : (result : Result InsertReply Unmade) (turn : Turn InsertReply) (old new : PassView) (call : List ℕ → Event) (taken bytes : List ℕ) → taken ≡ bytes
    → IfOk result (λ (reply : InsertReply). turn ≡ Done reply) → IfDone turn (λ (reply : InsertReply). Grows old new (call taken) (insert_answer reply))
    → IfOk result (λ (reply : InsertReply). Grows old new (call bytes) (insert_answer reply))
turn-brings (Ok reply) turn old new call taken bytes same is made =
    brings old new call taken bytes (insert_answer reply) same (done-at (λ (r : InsertReply). Grows old new (call taken) (insert_answer r)) turn reply is made)
turn-brings (Err why) turn old new call taken bytes same is made = tt
