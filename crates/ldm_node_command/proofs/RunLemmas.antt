-- What the parts of a node's run come to together.
use Rattle.std.proofs.Common.{◌≡◌, ◌≤◌, ℕ, List, Option, map, Result, inl, inr, sym, subst, arith}
use Rattle.ldm_types.specs.declared.signature.Signature.{Signature}
use Rattle.ldm_outside.specs.declared.fault.Failed.{Failed}
use Rattle.ldm_outside.specs.declared.launcher.ChildNo.{ChildNo}
use Rattle.ldm_outside.specs.Count.{Rose}
use Rattle.ldm_outside.specs.Dial.{DialRecord}
use Rattle.ldm_outside.specs.Launcher.{LauncherRecord}
use Rattle.ldm_outside.specs.Station.{StationRecord}
use Rattle.ldm_model.specs.declared.event.Entry.{Entry}
use Rattle.ldm_model.specs.History.{after}
use Rattle.ldm_model.specs.Lawful.{IsLawful}
use Rattle.ldm_book.specs.View.{BookView}
use Rattle.ldm_book.specs.Stands.{StandsFor}
use Rattle.ldm_shared.specs.Passes.{IsLast, PassView, SharedView}
use Rattle.ldm_conf.specs.Confs.{ConfView}
use Rattle.ldm_node.specs.declared.stop.NodeStop.{NodeStop}
use Rattle.ldm_node.specs.Causes.{Completes, NodeCause}
use Rattle.ldm_node.specs.Node.{Outcome, Staffs}
use Rattle.ldm_node_command.specs.Commands.{WaitsForAll, numbers_from, with_commands}
use Rattle.ldm_node_command.specs.declared.listening.ListenFault.{ListenFault}
use Rattle.ldm_node_command.specs.Listening.{FailsToListen, Listens}
use Rattle.ldm_node_command.specs.Node.{Attends, IsMade, Works, plan_for}
use Rattle.ldm_node_command.specs.Setup.{Setup}

-- all commands were started, and then waited for
pub attends : (waited : Result (Unit {0}) Failed) (conf : ConfView) (children : List ChildNo) (old started new : LauncherRecord) → children ≡ numbers_from old.next conf.commands
    → started ≡ with_commands conf.commands old
    → WaitsForAll waited children started new → Attends waited conf old new
attends waited conf children old started new numbers is waits =
    subst (λ (l : LauncherRecord). WaitsForAll waited (numbers_from old.next conf.commands) l new) is
    (subst (λ (all : List ChildNo). WaitsForAll waited all started new) numbers waits)

-- a count that rose did not fall
pub rose_kept : (old new : ℕ) → Rose old new → old ≤ new
rose_kept old new (inl more) = omega (arith, more)
rose_kept old new (inr still) = omega (arith, still.0, still.1)

-- a node worked at stations, on a queue of its sizes
pub works : {S : Type 0} (tells : S → StationRecord) (setup : Setup) (conf : ConfView) (shared : SharedView) → IsMade setup conf shared
    → (lasts : List (Option Signature)) (given : List S) (left : Outcome S) → IsLast shared left.pass → IsLawful shared.arena shared.slots left.pass.seen
    → Staffs tells (plan_for setup conf lasts) shared given left → NodeCause left.end (plan_for setup conf lasts) (map tells left.stations) left.pass
    → Completes left.end (map tells left.stations) → Works tells setup conf lasts given left
works tells setup conf shared made lasts given left is_last lawful worked causes completes = record {
  shared = shared;
  made = made;
  is_last = is_last;
  lawful = subst (λ (n : ℕ). IsLawful setup.arena n left.pass.seen) made.slots (subst (λ (n : ℕ). IsLawful n shared.slots left.pass.seen) made.arena lawful);
  worked = worked;
  causes = causes;
  completes = completes;
}

-- a net gave no stations, and did nothing before and after
pub fails_between : (why : ListenFault) (old before after new : DialRecord) → before ≡ old → new ≡ after → FailsToListen why before after → FailsToListen why old new
fails_between why old before after new first last fails =
    subst (λ (d : DialRecord). FailsToListen why old d) (sym last) (subst (λ (d : DialRecord). FailsToListen why d after) first fails)

-- it gave stations, behind another moment
pub listens_behind : {S : Type 0} (tells : S → StationRecord) (setup : Setup) (conf : ConfView) (given : List S) (old before new : DialRecord) → before ≡ old
    → Listens tells setup conf given before new → Listens tells setup conf given old new
listens_behind tells setup conf given old before new first listens = subst (λ (d : DialRecord). Listens tells setup conf given d new) first listens

-- stations that the net gave, and the outside behind them
pub listened : {S : Type 0} (tells : S → StationRecord) (setup : Setup) (conf : ConfView) (given kept : List S) (old mid new : DialRecord) → kept ≡ given → new ≡ mid
    → Listens tells setup conf given old mid → Listens tells setup conf kept old new
listened {S = S} tells setup conf given kept old mid new are same listens =
    subst (λ (d : DialRecord). Listens tells setup conf kept old d) (sym same)
    (subst (λ (all : List S). Listens tells setup conf all old mid) (sym are) listens)

-- what the net keeps is what the workers left
pub worked : {S : Type 0} (tells : S → StationRecord) (setup : Setup) (conf : ConfView) (lasts : List (Option Signature)) (given stations kept : List S) (last : PassView) (end : NodeStop)
    → kept ≡ stations → Works tells setup conf lasts given (record { pass = last; stations = stations; end = end })
    → Works tells setup conf lasts given (record { pass = last; stations = kept; end = end })
worked {S = S} tells setup conf lasts given stations kept last end are works =
    subst (λ (all : List S). Works tells setup conf lasts given (record { pass = last; stations = all; end = end })) (sym are) works

-- the queue stands for the state after its history
pub stands : (setup : Setup) (conf : ConfView) (shared : SharedView) → IsMade setup conf shared → (book : BookView) (history : List Entry) → StandsFor book (after shared.arena shared.slots history)
    → StandsFor book (after setup.arena setup.slots history)
stands setup conf shared made book history is =
    subst (λ (n : ℕ). StandsFor book (after setup.arena n history)) made.slots (subst (λ (n : ℕ). StandsFor book (after n shared.slots history)) made.arena is)
