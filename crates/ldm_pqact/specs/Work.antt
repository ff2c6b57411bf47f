-- What turns of a cursor come to, all in one value: how the steps are answered, what is done, and what is logged.
use Rattle.std.specs.Prelude.{ℕ, List, [], ◌++◌, map}
use Rattle.ldm_model.specs.declared.event.Reply.{Reply}
use Rattle.ldm_actions.specs.Effects.{Action}
use Rattle.ldm_pqact_conf.specs.Entries.{EntryView}
use Rattle.ldm_shared.specs.Givens.{Turn, turn_reply}
use Rattle.ldm_pqact.specs.Turns.{deeds_of, lines_of}

pub record Work : Type 0 where
  -- how the steps were answered
  pub answers : List Reply
  -- actions, each on the body of its product
  pub deeds : List (Action × List ℕ)
  -- log lines
  pub lines : List ℕ

abbrev pub no_work : Work
no_work = record { answers = []; deeds = []; lines = [] }

-- the one, and then the other
abbrev pub work_then : Work → Work → Work
work_then one two = record {
  answers = one.answers ++ two.answers;
  deeds = one.deeds ++ two.deeds;
  lines = one.lines ++ two.lines;
}

-- more answers, which ask for nothing
abbrev pub with_answers : Work → List Reply → Work
with_answers work answers = record work { answers = work.answers ++ answers }

-- what entries make of turns
abbrev pub work_of : List EntryView → List Turn → Work
work_of entries turns = record {
  answers = map turn_reply turns;
  deeds = deeds_of entries turns;
  lines = lines_of entries turns;
}

-- what a product asks for that is held
abbrev pub product_work : List (Action × List ℕ) → List ℕ → Work
product_work deeds lines = record { answers = []; deeds = deeds; lines = lines }

-- What stands whole, and what was in hand where it broke off.
pub record Parted : Type 0 where
  pub whole : Work
  pub in_hand : Work

-- how all steps were answered
abbrev pub replies_of : Parted → List Reply
replies_of work = work.whole.answers ++ work.in_hand.answers

-- nothing stands whole yet
abbrev pub only_in_hand : Work → Parted
only_in_hand work = record { whole = no_work; in_hand = work }
