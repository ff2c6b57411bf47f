-- Calls that bring the bytes of a body.
use Rattle.std.proofs.Common.{◌≡◌, ◌++◌, ◌∙◌, ℕ, List, length, take, sym, ap, subst}
use Rattle.std.proofs.lemmas.List.{take_at}
use Rattle.ldm_model.specs.declared.event.Event.{Event}
use Rattle.ldm_model.specs.declared.event.Reply.{Reply}
use Rattle.ldm_book.specs.View.{BookView}
use Rattle.ldm_calls.specs.OnBook.{BookAnswers}

-- the bytes that were made at the front of the room
pub front : (xs ys into : List ℕ) (n : ℕ) → n ≡ length xs → into ≡ xs ++ ys → take n into ≡ xs
front xs ys into n is e = ap (take n) e ∙ take_at xs ys n (sym is)

-- a call that brings the bytes of the room brings those of the line
pub brings : (actor : ℕ) (book : BookView) (call : List ℕ → Event) (taken bytes : List ℕ) (reply : Reply) (new : BookView)
    → taken ≡ bytes → BookAnswers actor book (call taken) reply new → BookAnswers actor book (call bytes) reply new
brings actor book call taken bytes reply new same made = subst (λ (body : List ℕ). BookAnswers actor book (call body) reply new) same made
