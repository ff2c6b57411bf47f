-- The records of a stream, one after another, and what they come to.
use Rattle.std.proofs.Common.{◌≡◌, ℕ, Bool, true, false, leb, List, [], ◌∷◌, ◌++◌, Option, Some, None, refl, ap, sym, ◌∙◌, append_assoc}
use Rattle.std.proofs.lemmas.List.{append-nil}
use Rattle.ldm_rpc.specs.Streams.{Placed}
use Rattle.ldm_watch.specs.declared.end.WatchEnd.{WatchEnd}
use Rattle.ldm_watch.specs.declared.step.Step.{Step}
use Rattle.ldm_watch.specs.declared.step.Step.TheVariants.{Alive, Begins, AsksAgain, Notice, Bad, Declined}
use Rattle.ldm_watch.specs.Step.{watch_step}
use Rattle.ldm_watch.specs.Watched.{Watched, after_step, counted, take_record, watched}

pub watched-append : (t : Watched) (first second : List Placed) → watched t (first ++ second) ≡ watched (watched t first) second
unfolding watched
watched-append t [] second = refl
watched-append t (placed ∷ first) second = watched-append (take_record t.end t placed) first second

pub watched-none : (t : Watched) → watched t [] ≡ t
unfolding watched
watched-none t = refl

one-by : (o : Option WatchEnd) (t : Watched) (placed : Placed) → o ≡ None → take_record o t placed ≡ after_step t placed.at (watch_step t.watching placed.content)
one-by None t placed goes = refl
one-by (Some end) t placed goes = absurd (cc goes)

pub watched-one : (t : Watched) (placed : Placed) → t.end ≡ None → watched t (placed ∷ []) ≡ after_step t placed.at (watch_step t.watching placed.content)
unfolding watched
watched-one t placed goes = one-by t.end t placed goes

ended-by : (o : Option WatchEnd) (end : WatchEnd) (t : Watched) (placed : Placed) → o ≡ Some end → take_record o t placed ≡ t
ended-by None end t placed is = absurd (cc is)
ended-by (Some other) end t placed is = refl

-- what is over stays so, whatever comes
pub watched-ended : (t : Watched) (end : WatchEnd) → t.end ≡ Some end → (records : List Placed) → watched t records ≡ t
unfolding watched
watched-ended t end is [] = refl
watched-ended t end is (placed ∷ records) =
    ap (λ (u : Watched). watched u records) (ended-by t.end end t placed is) ∙ watched-ended t end is records

-- ---- how lines are written stays

last-form : (t : Watched) (left : ℕ) (last : Bool) → leb left 1 ≡ last → (counted t (Some left)).watching.form ≡ t.watching.form
last-form t left true is = rw is refl
last-form t left false is = rw is refl

pub counted-form : (t : Watched) (left : Option ℕ) → (counted t left).watching.form ≡ t.watching.form
counted-form t None = refl
counted-form t (Some left) = last-form t left (leb left 1) refl

step-form : (t : Watched) (at : ℕ) (step : Step) → (after_step t at step).watching.form ≡ t.watching.form
step-form t at Alive = refl
step-form t at Begins = refl
step-form t at (AsksAgain class) = refl
step-form t at (Notice info) = counted-form (record t { notices = t.notices ++ info ∷ [] }) t.watching.left
step-form t at Bad = refl
step-form t at (Declined answer) = refl

record-form : (o : Option WatchEnd) (t : Watched) (placed : Placed) → (take_record o t placed).watching.form ≡ t.watching.form
record-form None t placed = step-form t placed.at (watch_step t.watching placed.content)
record-form (Some end) t placed = refl

pub watched-form : (t : Watched) (records : List Placed) → (watched t records).watching.form ≡ t.watching.form
unfolding watched
watched-form t [] = refl
watched-form t (placed ∷ records) = watched-form (take_record t.end t placed) records ∙ record-form t.end t placed
