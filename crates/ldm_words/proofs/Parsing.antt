-- What a command makes of words.
use Rattle.std.proofs.Common.{◌≡◌, ◌∙◌, Bool, true, false, List, [], Some, None, Option, refl, ap₂}
use Rattle.std.specs.Prelude.{if◌then◌else◌}
use Rattle.clap.specs.Words.{AddsArg, App, HasMatchesOf, Rule, Text, app_of, fault_of, kind_of, matches_of, takes, with_rule}
use Rattle.clap.specs.declared.builder.arg.Arg.{Arg}
use Rattle.clap.specs.declared.builder.command.Command.{Command}
use Rattle.clap.specs.declared.error.Error.{Error}
use Rattle.clap.specs.declared.error.kind.ErrorKind.TheVariants as kind
use Rattle.clap.specs.declared.parser.matches.ArgMatches.{ArgMatches}
use Rattle.clap.proofs.WalkLemmas.{both}
use Rattle.ldm_words.specs.Commands.{IsPlain, file_command, matched, node_command, notifyme_command, pqact_command, pqcat_command, pqinsert_command}
use Rattle.ldm_words.specs.Commands.{pqmon_command, pqstats_command, save_command, wmo_command}
use Rattle.ldm_words.specs.Faults.{IsFaultOf, fault_of_kind}
use Rattle.ldm_words.specs.Views.{HasRule, rows_in}
use Rattle.ldm_words.specs.declared.fault.WordsFault.{WordsFault}
use Rattle.ldm_words.specs.declared.fault.WordsFault.TheVariants.{Usage, OutOfMemory}
use Rattle.ldm_words.proofs.Taking.{faultless}

-- where there is no meaning, each fault has its cause
pub has_cause : {A : Type 0} (meaning : Option A) (fault : WordsFault) → meaning ≡ None → IsFaultOf meaning fault
has_cause meaning Usage none = none
has_cause meaning OutOfMemory none = tt

-- the command takes the words
pub parses : (app : App) (words : List Text) (m : ArgMatches) → IsPlain app → fault_of app words ≡ [] → HasMatchesOf app words m
    → matched app words ≡ Some (rows_in m)
unfolding matched
parses app words m plain none has =
    let takes_them = faultless app words plain.simple plain.alone plain.defaults none in
    let rows = (has (both _ _ plain.simple).0).0 in
    rw (takes_them, rows) refl

-- it refuses them, or memory ran out
pub fails : (app : App) (words : List Text) (e : Error) → (takes app words ≡ true → kind_of e ≡ kind.OutOfMemory)
    → IsFaultOf (matched app words) (fault_of_kind (kind_of e))
unfolding matched
fails app words e passes = go (takes app words) passes
  where
    go : (b : Bool) → (b ≡ true → kind_of e ≡ kind.OutOfMemory)
        → IsFaultOf (if b then Some (matches_of app words) else None) (fault_of_kind (kind_of e))
    go true memory = rw (memory refl) tt
    go false memory = has_cause None (fault_of_kind (kind_of e)) refl

-- the commands are plain
pub node_plain : IsPlain node_command
unfolding node_command
node_plain = record { simple = refl; alone = refl; defaults = refl }

pub pqact_plain : IsPlain pqact_command
unfolding pqact_command
pqact_plain = record { simple = refl; alone = refl; defaults = refl }

pub pqinsert_plain : IsPlain pqinsert_command
unfolding pqinsert_command
pqinsert_plain = record { simple = refl; alone = refl; defaults = refl }

pub pqcat_plain : IsPlain pqcat_command
unfolding pqcat_command
pqcat_plain = record { simple = refl; alone = refl; defaults = refl }

pub notifyme_plain : IsPlain notifyme_command
unfolding notifyme_command
notifyme_plain = record { simple = refl; alone = refl; defaults = refl }

pub pqstats_plain : IsPlain pqstats_command
unfolding pqstats_command
pqstats_plain = record { simple = refl; alone = refl; defaults = refl }

pub wmo_plain : IsPlain wmo_command
unfolding wmo_command
wmo_plain = record { simple = refl; alone = refl; defaults = refl }

pub save_plain : IsPlain save_command
unfolding save_command
save_plain = record { simple = refl; alone = refl; defaults = refl }

pub file_plain : IsPlain file_command
unfolding file_command
file_plain = record { simple = refl; alone = refl; defaults = refl }

pub pqmon_plain : IsPlain pqmon_command
unfolding pqmon_command
pqmon_plain = record { simple = refl; alone = refl; defaults = refl }

-- a command with one argument more
pub adds : (old new : Command) (arg : Arg) (app : App) (rule : Rule) → AddsArg old arg new → app_of old ≡ app → HasRule rule arg
    → app_of new ≡ with_rule app rule
adds old new arg app rule added is has = added.shape has.1 ∙ ap₂ with_rule is has.0
