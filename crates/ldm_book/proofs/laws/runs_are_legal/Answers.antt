use Rattle.std.proofs.Common.{List, [], ◌∷◌, sym, subst}
use Rattle.ldm_model.specs.State.{State, empty}
use Rattle.ldm_model.specs.History.{after, next_entry, IsLegalFrom}
use Rattle.ldm_book.specs.View.{BookView}
use Rattle.ldm_book.specs.Stands.{StandsFor}
use Rattle.ldm_book.specs.Runs.{Made, IsRun, entries}
use Rattle.ldm_book.proofs.laws.runs_are_legal.Goals as goal

-- a run from a book on is legal from each state that the book stands for
IsLegalFrom-run : (calls : List Made) (book : BookView) (s : State) → StandsFor book s → IsRun book calls → IsLegalFrom s (entries calls)
IsLegalFrom-run [] book s stands run = tt
IsLegalFrom-run (made ∷ calls) book s stands (is_call, run) = let follows = is_call.answers s stands in (
  record { actor = is_call.actor; possible = is_call.possible; reply = follows.reply },
  IsLegalFrom-run calls made.book (next_entry s made.entry).state follows.state run,
)

pub returns-clause-run : goal.returns-clause-run
returns-clause-run c = λ arena slots book calls stands run. IsLegalFrom-run calls book (empty arena slots) stands run

pub returns-clause-start : goal.returns-clause-start
returns-clause-start c = λ arena slots book stands. (tt, stands)

pub returns-clause-call : goal.returns-clause-call
returns-clause-call c = λ arena slots history book made legal stands is_call.
    let s = after arena slots history in
    let follows = is_call.answers s stands in (
      (c.histories_append.ensures.legal arena slots history (made.entry ∷ [])).1
          (legal, (record { actor = is_call.actor; possible = is_call.possible; reply = follows.reply }, tt)),
      subst (λ (state : State). StandsFor made.book state) (sym (c.histories_append.ensures.state arena slots history (made.entry ∷ []))) follows.state,
    )
