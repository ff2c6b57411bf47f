-- How views are cut in two, and how two are made one.
use Rattle.std.specs.Prelude.{ℕ, cond, nat_lt, List, [], ◌∷◌, ◌++◌, length}
use Rattle.ldm_model.specs.declared.event.Entry.{Entry}
use Rattle.ldm_shared.specs.declared.view.View.{View}
use Rattle.ldm_shared.specs.declared.view.Old.{Old}

abbrev pub first_actor : List ℕ → List ℕ
first_actor [] = []
first_actor (actor ∷ actors) = actor ∷ []

abbrev pub other_actors : List ℕ → List ℕ
other_actors [] = []
other_actors (actor ∷ actors) = actors

-- the seat of a new pass answers for the first actor, and the seat that it is cut from for the others
abbrev pub of_pass : View → View
of_pass v = record v { actors = first_actor v.actors; olds = [] }

abbrev pub without_pass : View → View
without_pass v = record v { actors = other_actors v.actors; olds = [] }

-- a note has seen as much as the seat that it is cut from, and answers for nobody
abbrev pub note : View → View
note v = record v { actors = []; olds = [] }

abbrev pub longer : List Entry → List Entry → List Entry
longer xs ys = cond (nat_lt (length xs) (length ys)) ys xs

abbrev pub old_of : View → Old
old_of v = record { actors = v.actors; seen = v.seen }

-- The longer history, all actors, and what is to be compared.
abbrev pub both : View → View → View
both v w = record v { seen = longer v.seen w.seen; actors = v.actors ++ w.actors; olds = old_of v ∷ old_of w ∷ (v.olds ++ w.olds) }
