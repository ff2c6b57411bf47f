-- The lines of one actor.
use Rattle.std.proofs.Common.{◌≡◌, ℕ, ◌<◌, List, length, map, get_or, sym, ap, subst, ◌∙◌, arith}
use Rattle.std.specs.List.{All}
use Rattle.std.proofs.lemmas.List.{length-map, get_or-map}
use denote.Ref.{Bor}
use Rattle.ldm_model.specs.declared.event.Event.TheVariants as event
use Rattle.ldm_script.specs.Order.{Plain}
use Rattle.ldm_crowd.specs.OrdersView.{ActorLinesView, IsOrder, asked_in, asked_lines}

module _ (actors : ℕ) (items : List (Bor (List ℕ))) (view : ActorLinesView) (view_is : record { actors = actors; lines = map (λ (l : Bor (List ℕ)). l.now) items } ≡ view)
    (i : ℕ) (less : i < length view.lines) (line : Bor (List ℕ)) (read : line ≡ get_or items i line) where
  inside : i < length items
  inside =
      let size = ap (λ (v : ActorLinesView). length v.lines) view_is in
      omega (arith, size, length-map items (λ (l : Bor (List ℕ)). l.now))

  -- the line asks for something
  pub line_asks : All (λ (l : Bor (List ℕ)). IsOrder actors l.now) items → IsOrder actors line.now
  line_asks all = subst (λ (l : Bor (List ℕ)). IsOrder actors l.now) (sym read) (all i line inside)

  -- what it asks for
  pub asked_at : get_or (asked_lines view) i (Plain event.Stat) ≡ asked_in actors line.now
  asked_at =
      ap (λ (v : ActorLinesView). get_or (asked_lines v) i (Plain event.Stat)) (sym view_is)
      ∙ get_or-map (λ (l : List ℕ). asked_in actors l) (map (λ (l : Bor (List ℕ)). l.now) items) i line.now (Plain event.Stat) (omega (arith, inside, length-map items (λ (l : Bor (List ℕ)). l.now)))
      ∙ ap (λ (l : List ℕ). asked_in actors l) (get_or-map (λ (l : Bor (List ℕ)). l.now) items i line line.now inside)
      ∙ ap (λ (l : Bor (List ℕ)). asked_in actors l.now) (sym read)
