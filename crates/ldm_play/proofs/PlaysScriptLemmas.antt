-- How the play of a script ends: for `ScriptEnds` and `PlaysOn`.
use Rattle.std.proofs.Common.{◌≡◌, ◌<◌, false, length, List, ℕ, arith}
use Rattle.std.proofs.lemmas.Bool.{false≢true}
use Rattle.ldm_outside.specs.Io.{Gives}
use Rattle.ldm_status.specs.Streams.{StreamsRecord, AtEnd}
use Rattle.ldm_book.specs.View.{BookView}
use Rattle.ldm_script.specs.Resolve.{Playing}
use Rattle.ldm_play.specs.declared.play_command.ScriptEnd.{ScriptEnd}
use Rattle.ldm_play.specs.declared.play_command.ScriptEnd.TheVariants as script_end
use Rattle.ldm_play.specs.declared.play_command.TheConstants.{SCRIPT_LIMIT}
use Rattle.ldm_play.specs.declared.player.LineFault.{LineFault}
use Rattle.ldm_play.specs.Lines.{known_lines}
use Rattle.ldm_play.specs.Ending.{StopsAt, ScriptEnds, PlaysScript}
use Rattle.ldm_play.specs.OnBook.{PlaysOn}
use Rattle.ldm_play.specs.PlayerView.{PlayerView}
use Rattle.ldm_play.specs.Step.{AnswersScript}

-- a stop before the end of the script is known
pub stopped_within : (why : LineFault) (p : Playing) (script : List ℕ) (old new : StreamsRecord) → StopsAt why p (known_lines false script) old.sink new.sink → ScriptEnds (script_end.Stopped why) p script old new
stopped_within why p script old new stops = (false, λ e. absurd (false≢true e), stops)

-- a play that did not come to the end of the script, by its ending
unfinished : (ending : ScriptEnd) (p : Playing) (book : BookView) (old new : StreamsRecord) → ¬ (ending ≡ script_end.Done) → PlaysScript ending p old new → PlaysOn ending p book old new
unfinished ending p book old new not_done plays = record { plays = plays; at_end = λ done. absurd (not_done done) }

pub stopped_short : (why : LineFault) (p : Playing) (book : BookView) (old new : StreamsRecord) → PlaysScript (script_end.Stopped why) p old new → PlaysOn (script_end.Stopped why) p book old new
stopped_short why p book old new plays = unfinished (script_end.Stopped why) p book old new (λ done. cc) plays

pub failed_short : (p : Playing) (book : BookView) (old new : StreamsRecord) → PlaysScript script_end.SourceFault p old new → PlaysOn script_end.SourceFault p book old new
failed_short p book old new plays = unfinished script_end.SourceFault p book old new (λ done. cc) plays

pub too_much : (p : Playing) (book : BookView) (old new : StreamsRecord) → PlaysScript script_end.StreamLimit p old new → PlaysOn script_end.StreamLimit p book old new
too_much p book old new plays = unfinished script_end.StreamLimit p book old new (λ done. cc) plays

-- one that came to it
pub all_answered : (p : Playing) (script : List ℕ) (player : PlayerView) (old new : StreamsRecord) → Gives old.source script new.source → length script < SCRIPT_LIMIT → AtEnd old.source new.source
    → AnswersScript p script player old.sink new.sink → PlaysOn script_end.Done p player.book old new
all_answered p script player old new taken short ended answers = record {
  plays = record {
    script = script;
    taken = taken;
    limit = let below = short in omega (arith, below);
    ends = (short, ended, answers.running, answers.written, answers.legal);
  };
  at_end = λ done. answers.stands.state;
}
