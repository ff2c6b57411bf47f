use Rattle.std.proofs.Common.{◌≡◌, ◌∙◌, ℕ, ◌+◌, ◌<◌, List, [], ◌∷◌, ◌++◌, String, length, map, take, drop, get_or, sym, ap, subst, arith}
use Rattle.std.specs.declared.alloc.Global.{Global}
use Rattle.std.proofs.lemmas.Result.{err_from_is_err_and}
use Rattle.ldm_outside.specs.declared.launcher.ChildNo.{ChildNo}
use Rattle.ldm_outside.specs.Launcher.{LauncherRecord, spelled}
use Rattle.ldm_conf.specs.declared.command.Command.{Command}
use Rattle.ldm_conf.specs.Confs.{command_view}
use Rattle.ldm_node_command.specs.Commands.{AllRun, Words, numbers_from, with_command, with_commands}
use Rattle.ldm_node_command.proofs.CommandLemmas.{all_run, fails_to_start, map-parts, map-take-more, one_number, one_started}
use Rattle.ldm_node_command.proofs.commands.start_commands.Goals as goal

module _ (commands : List Command) (i : ℕ) (command : Command) (less : i < length commands) (is : command ≡ get_or commands i command) (old mid : LauncherRecord) where
  abbrev front : List Words
  front = map command_view (take i commands)

  abbrev longer : List Words
  longer = map command_view (take (i + 1) commands)

  -- the number of one command more
  pushed : (child : ChildNo) → mid ≡ with_commands front old → child.0 ≡ mid.next → (children more : List ChildNo) → children ≡ numbers_from old.next front → more ≡ children ++ child ∷ []
      → more ≡ numbers_from old.next longer
  pushed child started given children more numbers items =
      let one = one_number front (command_view command) old mid child started given in
      items
      ∙ ap (λ (all : List ChildNo). all ++ child ∷ []) numbers
      ∙ sym one
      ∙ ap (numbers_from old.next) (sym (map-take-more command_view commands i command less is))

  -- one command more was started
  started_at : (new : LauncherRecord) → mid ≡ with_commands front old → new ≡ with_command (command_view command) mid → new ≡ with_commands longer old
  started_at new started here =
      one_started front (command_view command) old mid new started here
      ∙ ap (λ (all : List Words). with_commands all old) (sym (map-take-more command_view commands i command less is))

pub returns-in_err-start-clause-stopped : goal.returns-in_err-start-clause-stopped
returns-in_err-start-clause-stopped g c =
    let p = err_from_is_err_and c.from_residual-in_err-start.result c.from_residual-in_err-start.ensures.1 in
    let commands = c.args.commands.now in
    let i = c.loop-command.command-index in
    let command = c.command-item.result in
    rw (p.1, p.2)
    (fails_to_start (map command_view (take i commands)) (map command_view (drop (i + 1) commands)) (command_view command) (map command_view commands)
    (g.L.Launcher.tells c.args.launcher.now) (g.L.Launcher.tells c.loop-command.launcher) (g.L.Launcher.tells c.start.new.self)
    (map-parts command_view commands i command c.loop-command-test.true c.command-item.is) c.loop-command.invariant.started c.in_err-start.ensures.started)

pub loop-command-preserved : goal.loop-command-preserved
loop-command-preserved g c =
    let commands = c.args.commands.now in
    let i = c.loop-command.command-index in
    let command = c.command-item.result in
    let old = g.L.Launcher.tells c.args.launcher.now in
    let mid = g.L.Launcher.tells c.loop-command.launcher in
    let new = g.L.Launcher.tells c.start.new.self in
    let child = c.in_ok-start.field-0 in
    let here : new ≡ with_command (command_view command) mid =
    c.in_ok-start.ensures.started.1 ∙ ap (λ (words : List (String Global)). with_command (spelled words) mid) c.as_slice.ensures.value in
    record {
      room = omega (arith, c.loop-command.invariant.room, c.push_reserved.ensures.capacity);
      count = omega (arith, c.loop-command.invariant.count, c.push_reserved.ensures.len);
      numbers = pushed commands i command c.loop-command-test.true c.command-item.is old mid child c.loop-command.invariant.started c.in_ok-start.ensures.started.0
          c.loop-command.children.items c.push_reserved.new.self.items c.loop-command.invariant.numbers c.push_reserved.ensures.items;
      started = started_at commands i command c.loop-command-test.true c.command-item.is old mid new c.loop-command.invariant.started here;
      faults_kept = omega (arith, c.loop-command.invariant.faults_kept, c.start.ensures.faults_kept);
    }

pub returns-clause-running : goal.returns-clause-running
returns-clause-running g c =
    let front = map command_view (take c.loop-command.command-index c.args.commands.now) in
    let old = g.L.Launcher.tells c.args.launcher.now in
    subst (λ (children : List ChildNo). AllRun children (g.L.Launcher.tells c.loop-command.launcher)) (sym c.loop-command.invariant.numbers)
    (subst (λ (l : LauncherRecord). AllRun (numbers_from old.next front) l) (sym c.loop-command.invariant.started) (all_run front old))
