-- What the workers share may be shared by threads, as their configuration may.
use denote.Param.Send.{IsSync, recorded_sync, struct_sync, sendable}
use denote.Ref.{NamedLft}
use denote.Struct.Struct.{Struct}
use denote.Struct.Declared.{shape}
use Rattle.std_heap.proofs.Global.TheSendSync as global
use Rattle.ldm_conf.specs.contracts.conf.Conf as Conf
use Rattle.ldm_node.specs.contracts.staffing.Staffing as Staffing

pub Staffing-sync : IsSync Conf.the_row → (κ : NamedLft) → IsSync (Staffing.the_row κ)
Staffing-sync shared κ =
    let T = Staffing.the_type κ in
    recorded_sync (Struct (shape T)) T.D T.to T.to_one
    (struct_sync (shape T) (global.the_field_sync, (search (sendable, shared) depth 20, (search sendable, (search sendable, (search sendable depth 20, tt))))))
