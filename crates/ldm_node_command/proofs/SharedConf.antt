-- A configuration may be shared by threads: each of its types is shown from those of its fields, since a `search` that goes down through
-- them runs out of steps.
use denote.Param.Send.{IsSync, recorded_sync, struct_sync, sendable}
use denote.Struct.Struct.{Struct}
use denote.Struct.Declared.{shape}
use Rattle.std_alloc.proofs.SendSync.{crosses}
use Rattle.std_alloc.proofs.vec.Vec.TheSendSync as vec
use Rattle.std_alloc.proofs.string.String.TheSendSync as string
use Rattle.std_alloc.proofs.boxed.Box.TheSendSync as box
use Rattle.std_heap.proofs.Global.TheSendSync as global
use Rattle.regex_hir.specs.contracts.hir.Hir as Hir
use Rattle.regex_hir.proofs.hir.Hir.TheLaws.TheKnot.{sync-Hir}
use Rattle.regex_hir.proofs.look.Look.TheSendSync as look
use Rattle.regex_class.proofs.Class.TheSendSync as class
use Rattle.regex_literal.proofs.prefilter.Prefilter.TheSendSync as prefilter
use Rattle.regex_literal.proofs.ladder.Ladder.TheSendSync as ladder
use Rattle.regex_literal.proofs.caseless.Caseless.TheSendSync as caseless
use Rattle.regex_literal.proofs.byte_set.ByteSet.TheSendSync as bytes
use Rattle.regex_extract.proofs.frames.Frame.TheSendSync as frame
use Rattle.regex_meta.proofs.plan.Role.TheSendSync as role
use Rattle.regex_dfa.proofs.dfa.Dfa.TheSendSync as dfa
use Rattle.regex_syntax.proofs.Config.TheSendSync as config
use Rattle.regex_meta.specs.contracts.plan.Plan as Plan
use Rattle.regex_meta.specs.contracts.plan.Plans as Plans
use Rattle.regex_meta.specs.contracts.signs.Signs as Signs
use Rattle.regex_meta.specs.contracts.program.Program as Program
use Rattle.regex.specs.contracts.pattern.Pattern as Pattern
use Rattle.regex.specs.contracts.bytes.regex.Regex as Regex
use Rattle.arrayvec.proofs.array_vec.ArrayVec.TheSendSync as array_vec
use Rattle.ldm_types.proofs.class.ClassSpec.TheSendSync as class_spec
use Rattle.ldm_pattern.specs.contracts.bounded.BoundedPattern as Bounded
use Rattle.ldm_pattern.specs.contracts.pattern.Pattern as Built
use Rattle.ldm_class.specs.contracts.rule.Rule as Rule
use Rattle.ldm_class.specs.contracts.search.Search as Search
use Rattle.ldm_class.specs.contracts.policy.Policy as Policy
use Rattle.ldm_class.specs.contracts.class.Class as Class
use Rattle.ldm_conf.specs.contracts.request.Request as Request
use Rattle.ldm_conf.specs.contracts.command.Command as Command
use Rattle.ldm_conf.specs.contracts.conf.Conf as Conf

pub Hir-sync : IsSync (Hir.the_field).row
Hir-sync =
    sync-Hir (search (sendable, crosses, vec.the_sync, global.the_sync) depth 20) class.the_field_sync look.the_field_sync (search sendable) (search sendable) (search sendable)
    (λ h y. search (sendable, crosses, box.the_sync, global.the_sync) depth 20) (λ h y. search (sendable, crosses, vec.the_sync, global.the_sync) depth 20)

pub Plan-sync : IsSync (Plan.the_field).row
Plan-sync = search (sendable, Hir-sync, prefilter.the_sync, ladder.the_field_sync, frame.the_field_sync, role.the_field_sync) depth 20

pub Plans-sync : IsSync (Plans.the_field).row
Plans-sync = search (sendable, crosses, vec.the_sync, global.the_sync, Plan-sync) depth 20

pub Signs-sync : IsSync (Signs.the_field).row
Signs-sync = search (sendable, crosses, vec.the_sync, global.the_sync, Hir-sync, caseless.the_sync) depth 20

pub Program-sync : IsSync (Program.the_field).row
Program-sync =
    struct_sync (shape Program.the_type) (
      Hir-sync,
      (
        dfa.the_field_sync,
        (Plans-sync, (search (sendable, box.the_sync, global.the_sync, Signs-sync) depth 20, (search (sendable, bytes.the_sync), (search sendable, (search sendable, (search sendable, tt)))))),
      ),
    )

pub Pattern-sync : IsSync (Pattern.the_field).row
Pattern-sync =
    struct_sync (shape Pattern.the_type) (
      search (sendable, string.the_field_sync, global.the_sync),
      (config.the_field_sync, (search (sendable, crosses, string.the_field_sync, vec.the_sync, global.the_sync) depth 20, (Program-sync, tt))),
    )

pub Regex-sync : IsSync (Regex.the_field).row
Regex-sync = struct_sync (shape Regex.the_type) (Pattern-sync, tt)

pub Regex-row : IsSync Regex.the_row
Regex-row = let T = Regex.the_type in recorded_sync (Struct (shape T)) T.D T.to T.to_one Regex-sync

pub Built-sync : IsSync Built.the_row
Built-sync = search (sendable, Regex-sync) depth 20

pub Rule-sync : IsSync Rule.the_row
Rule-sync = search (sendable, Built-sync) depth 20

pub Bounded-sync : IsSync Bounded.the_row
Bounded-sync = search (sendable, crosses, vec.the_sync, global.the_sync, dfa.the_field_sync) depth 20

pub Search-sync : IsSync (Search.the_field).row
Search-sync = search (sendable, Bounded-sync) depth 20

pub Policy-sync : IsSync Policy.the_row
Policy-sync = search (sendable, crosses, vec.the_sync, global.the_sync, Rule-sync) depth 20

pub Class-sync : IsSync Class.the_row
Class-sync = search (sendable, crosses, vec.the_sync, global.the_sync, class_spec.the_field_sync, Search-sync) depth 20

pub Request-sync : IsSync (Request.the_field).row
Request-sync = search (sendable, array_vec.the_sync, Class-sync) depth 20

pub Command-sync : IsSync (Command.the_field).row
Command-sync = search (sendable, crosses, vec.the_sync, string.the_field_sync, global.the_sync) depth 20

pub Conf-sync : IsSync (Conf.the_field).row
Conf-sync = search (sendable, crosses, vec.the_sync, global.the_sync, Policy-sync, Request-sync, Command-sync) depth 20

pub Conf-row : IsSync Conf.the_row
Conf-row = let T = Conf.the_type in recorded_sync (Struct (shape T)) T.D T.to T.to_one Conf-sync
