-- A node that was run, between its configuration and the last line.
use Rattle.std.specs.Prelude.{◌≡◌, ℕ, ◌-◌, List, map, Option, Some, IfSome, Result}
use Rattle.std.specs.Option.{option_map}
use Rattle.ldm_types.specs.declared.signature.Signature.{Signature}
use Rattle.ldm_outside.specs.declared.fault.Failed.{Failed}
use Rattle.ldm_outside.specs.Io.{WritesAll}
use Rattle.ldm_outside.specs.Launcher.{LauncherRecord}
use Rattle.ldm_outside.specs.Station.{StationRecord}
use Rattle.ldm_model.specs.declared.event.Entry.{Entry}
use Rattle.ldm_model.specs.History.{after}
use Rattle.ldm_model.specs.Stat.{stat as stat_of}
use Rattle.ldm_model.specs.Lawful.{IsLawful}
use Rattle.ldm_answers.specs.Answer.{answer_line}
use Rattle.ldm_shared.specs.Passes.{IsLast, PassView, SharedView, new_pass}
use Rattle.ldm_conf.specs.Confs.{ConfView}
use Rattle.ldm_node.specs.Causes.{Completes, NodeCause}
use Rattle.ldm_node.specs.Clerks.{ClerkRecord, LeavesBehind, LeftRecord, RecordCause}
use Rattle.ldm_node.specs.Node.{Outcome, Staffs}
use Rattle.ldm_node.specs.Roles.{Plan, last_view, plan_of}
use Rattle.ldm_node_command.specs.declared.ending.Ran.{Ran}
use Rattle.ldm_node_command.specs.Commands.{WaitsForAll, numbers_from, with_commands}
use Rattle.ldm_node_command.specs.Listening.{Listens}
use Rattle.ldm_node_command.specs.Outside.{Outside}
use Rattle.ldm_node_command.specs.Restoring.{Restored}
use Rattle.ldm_node_command.specs.Setup.{Setup, IsGoodSize, passes_for}

-- what the node is told, with the last product of each request, where one is known
abbrev pub plan_for : Setup → ConfView → List (Option Signature) → Plan
plan_for setup conf lasts = plan_of conf setup.workers setup.sessions (map last_view lasts)

-- the line that tells how full the queue is after a history
abbrev pub stat_line : Setup → List Entry → List ℕ
stat_line setup history = answer_line (stat_of (after setup.arena setup.slots history)).reply

-- the queue has the sizes that were asked for
pub record IsMade (setup : Setup) (conf : ConfView) (shared : SharedView) : Type 0 where
  pub arena : shared.arena ≡ setup.arena
  pub slots : shared.slots ≡ setup.slots
  pub passes : shared.passes ≡ passes_for setup conf

-- The commands were started, all of them, and then waited for in order.
abbrev pub Attends : Result (Unit {0}) Failed → ConfView → LauncherRecord → LauncherRecord → Type 0
Attends waited conf old new = WaitsForAll waited (numbers_from old.next conf.commands) (with_commands conf.commands old) new

-- The journal of a node's queue: what it kept was put back with the pass that no worker of a station has, with the last product of each
-- request that it told, and then what was inserted was recorded with that pass. Without a journal nobody made a call with it.
pub record Journals (setup : Setup) (conf : ConfView) (lasts : List (Option Signature)) (last : PassView) (left : Option LeftRecord) : Type 0 where
  pub shared : SharedView
  pub made : IsMade setup conf shared
  pub pass : PassView
  pub clerk : Option ClerkRecord
  pub restored : Restored setup conf (new_pass shared (shared.passes - 1)) pass clerk lasts
  pub recorded : LeavesBehind last pass clerk left
  pub causes : IfSome left (λ (l : LeftRecord). RecordCause l.end l.desk last)

module _ {S : Type 0} (tells : S → StationRecord) where
  -- The node worked at these stations, on a queue of those sizes, each request behind its last product, and left this. What the last pass
  -- has seen is the history of the queue.
  pub record Works (setup : Setup) (conf : ConfView) (lasts : List (Option Signature)) (given : List S) (left : Outcome S) : Type 0 where
    pub shared : SharedView
    pub made : IsMade setup conf shared
    pub is_last : IsLast shared left.pass
    pub lawful : IsLawful setup.arena setup.slots left.pass.seen
    pub worked : Staffs tells (plan_for setup conf lasts) shared given left
    pub causes : NodeCause left.end (plan_for setup conf lasts) (map tells left.stations) left.pass
    pub completes : Completes left.end (map tells left.stations)

  -- The steps of a node that was run, in their order, once the configuration was taken.
  pub record RunsNode (ran : Ran) (setup : Setup) (conf : ConfView) (old new : Outside S) : Type 0 where
    -- there is a queue for it
    pub good : IsGoodSize setup conf
    -- the net was asked for the port of the setup, and gave a station for each worker
    pub at_port : new.port ≡ Some setup.port
    pub given : List S
    pub listens : Listens tells setup conf given old.net new.net
    -- the programs were started, the workers worked until all had stopped, and the net keeps the stations as they left them
    pub lasts : List (Option Signature)
    pub last : PassView
    pub works : Works setup conf lasts given (record { pass = last; stations = new.kept; end = ran.stop })
    -- what its journal kept had been put back before the net was asked, its queue was recorded to the end, and the net keeps the desk
    pub left : Option LeftRecord
    pub journal : Journals setup conf lasts last left
    pub recorded : ran.recorded ≡ option_map (λ (l : LeftRecord). l.end) left
    pub desk : IfSome left (λ (l : LeftRecord). new.desk ≡ Some l.desk)
    -- the programs were waited for
    pub attends : Attends ran.waited conf old.launcher new.launcher
    -- the line of the queue was written
    pub line : WritesAll ran.written (stat_line setup last.seen) old.sink new.sink
