-- A gathering, piece by piece, to its end.
use Rattle.std.proofs.Common.{◌∙◌, List, [], ◌∷◌, ◌++◌, refl, ap, subst, arith}
use Rattle.ldm_shared.specs.Passes.{PassView, IsSamePass}
use Rattle.ldm_downstream.specs.Pieces.{Piece}
use Rattle.ldm_gather.specs.declared.end.Handled.{Handled}
use Rattle.ldm_gather.specs.declared.gatherer.Gatherer.{Gatherer}
use Rattle.ldm_gather.specs.Gathering.{GoesOn, Steps}
use Rattle.ldm_gather.specs.Scene.{KeepsGatherCounts, Lent, GatherMoment, Scene}
use Rattle.ldm_gather.specs.Turning.{SameButCourse}

pub same_then : (old mid new : PassView) → IsSamePass old mid → IsSamePass mid new → IsSamePass old new
same_then old mid new first second = second ∙ ap (λ (pass : PassView). record pass { seen = new.seen }) first

pub same-course : (old mid new : Gatherer) → SameButCourse old mid → SameButCourse mid new → SameButCourse old new
same-course old mid new first second =
    second ∙ ap (λ (it : Gatherer). record it { pass = new.pass; receiver = new.receiver; buffers = new.buffers }) first

-- no count fell, twice
pub counts-then : {W A B : Type 0} (a b c : Lent W A B) → KeepsGatherCounts a b → KeepsGatherCounts b c → KeepsGatherCounts a c
counts-then a b c first second = record {
  link = omega (arith, first.link, second.link);
  ends = omega (arith, first.ends, second.ends);
  log = omega (arith, first.log, second.log);
}

module _ {W A B : Type 0} (handles : Handled → Scene W A B → Scene W A B → Type 0) where
  -- one piece more
  pub goes_on-then : (pieces : List Piece) (piece : Piece) (old mid new : GatherMoment W A B) → GoesOn handles pieces old mid → Steps handles piece mid new
      → GoesOn handles (pieces ++ piece ∷ []) old new
  goes_on-then [] piece old mid new goes steps = (new, subst (λ (m : GatherMoment W A B). Steps handles piece m new) goes steps, refl)
  goes_on-then (first ∷ pieces) piece old mid new goes steps = (goes.0, goes.1, goes_on-then pieces piece goes.0 mid new goes.2 steps)
