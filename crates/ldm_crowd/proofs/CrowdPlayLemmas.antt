-- What a crowd leaves, and what is written of it: for `CrowdEnds`.
use Rattle.std.proofs.Common.{◌≡◌, ℕ, List, ◌++◌, subst, ap}
use Rattle.std.specs.List.{concat}
use Rattle.ldm_outside.specs.Io.{SourceRecord}
use Rattle.ldm_model.specs.declared.event.Entry.{Entry}
use Rattle.ldm_model.specs.History.{after}
use Rattle.ldm_model.specs.Stat.{stat}
use Rattle.ldm_book.specs.Limits.{IsGoodArena, IsGoodSlots}
use Rattle.ldm_book.specs.View.{BookView}
use Rattle.ldm_answers.specs.Answer.{answer_line}
use Rattle.ldm_shared.specs.Limits.{IsGoodPasses}
use Rattle.ldm_shared.specs.Passes.{SharedView}
use Rattle.ldm_status.specs.WholeScript.{TakesWhole}
use Rattle.ldm_crowd.specs.CrowdEnding.{CrowdSize, PlaysWhole}
use Rattle.ldm_crowd.specs.CrowdStep.{HasPlayed}

-- what was played on a queue, by the numbers that it was made with
pub played_at : (arena slots workers : ℕ) (shared : SharedView) → shared.arena ≡ arena → shared.slots ≡ slots → (given text : List ℕ) → given ≡ text → (history : List Entry) (book : BookView) (answers : List (List ℕ))
    → HasPlayed (record { arena = shared.arena; slots = shared.slots; workers = workers }) given history book answers
    → HasPlayed (record { arena = arena; slots = slots; workers = workers }) text history book answers
played_at arena slots workers shared arena_is slots_is given text text_is history book answers played =
    subst (λ (t : List ℕ). HasPlayed (record { arena = arena; slots = slots; workers = workers }) t history book answers) text_is
    (subst (λ (n : ℕ). HasPlayed (record { arena = n; slots = slots; workers = workers }) given history book answers) arena_is
    (subst (λ (n : ℕ). HasPlayed (record { arena = shared.arena; slots = n; workers = workers }) given history book answers) slots_is played))

-- the answers to each actor, and the last `stat`
abbrev pub all_answers : CrowdSize → List Entry → List (List ℕ) → List ℕ
all_answers size history answers = concat answers ++ answer_line (stat (after size.arena size.slots history)).reply

-- they are what is to be written
pub plays_whole : (size : CrowdSize) → IsGoodArena size.arena → IsGoodSlots size.slots → IsGoodPasses size.workers → (text : List ℕ) (old new : SourceRecord) → TakesWhole text old new
    → (history : List Entry) (book : BookView) (answers : List (List ℕ)) → HasPlayed size text history book answers → PlaysWhole size (all_answers size history answers) old new
plays_whole size good_arena good_slots good_workers text old new taken history book answers played = record {
  good = record { arena = good_arena; slots = good_slots; workers = good_workers };
  text = text;
  taken = taken;
  answered = record {
    script = played.script;
    read = played.read;
    history = history;
    lawful = played.lawful;
    interleaving = played.interleaving;
    answers_are = ap (λ (texts : List (List ℕ)). all_answers size history texts) played.answered;
  };
}
