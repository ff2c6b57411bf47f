-- The queues of a chain, and the text that is written of them.
use Rattle.std.specs.Prelude.{ℕ, ◌+◌, List, [], ◌∷◌, ◌++◌, codes, decimal}
use Rattle.std.specs.List.{flat_map}
use Rattle.ldm_types.specs.declared.class.ClassSpec.{ClassSpec}
use Rattle.ldm_model.specs.declared.event.Reply.TheVariants as reply
use Rattle.ldm_model.specs.State.{State, Queued, empty, queued}
use Rattle.ldm_model.specs.Stat.{stat_reply}
use Rattle.ldm_class.specs.Rules.{Rules}
use Rattle.ldm_answers.specs.Answer.{answer_line}
use Rattle.ldm_chain.specs.Listing.{listed}
use Rattle.ldm_chain.specs.Script.{script_played}
use Rattle.ldm_chain.specs.Putting.{inserted_all}
use Rattle.ldm_chain.specs.Linking.{asked_by, host_name}
use Rattle.ldm_chain.specs.Queues.{fed_from}
use Rattle.ldm_chain.specs.Work.{ChainWork}

-- ---- the queues

-- The queue of node 0: the queued products of the script that have a feedtype, each inserted at its own insertion time.
abbrev pub first_queue : ℕ → ℕ → List ℕ → State
first_queue arena slots script = inserted_all (listed (script_played arena slots script).playing.state) (empty arena slots)

-- the queue of a node that asks for that class and was fed at that moment, from one that stands so
abbrev pub next_queue : ℕ → Rules → ChainWork → State → ClassSpec → ℕ → State
next_queue i rules work from class now = fed_from from (asked_by (host_name i) rules 1 class work.max_hereis) now (empty work.arena work.slots)

-- those of nodes of which the first has that number, one for each class, and fed at these instants
abbrev pub queues_from : ℕ → Rules → ChainWork → State → List ClassSpec → List ℕ → List State
queues_from i rules work from [] instants = []
queues_from i rules work from (class ∷ classes) [] = []
queues_from i rules work from (class ∷ classes) (now ∷ instants) =
    next_queue i rules work from class now ∷ queues_from (i + 1) rules work (next_queue i rules work from class now) classes instants

-- those of the nodes from 1 on
abbrev pub chain_queues : Rules → ChainWork → List ℕ → List ℕ → List State
chain_queues rules work script instants = queues_from 1 rules work (first_queue work.arena work.slots script) work.classes instants

-- ---- the text

-- `product N TIME ARRIVAL SIG FEED SEQNO ORIGIN IDENT SIZE`
abbrev pub product_line : Queued → List ℕ
product_line q = answer_line (reply.Product q.number q.time q.product.info)

-- `node I`
abbrev pub node_line : ℕ → List ℕ
node_line i = codes "node " ++ decimal i ++ 10 ∷ []

-- what is written of a node: its number, a line for each queued product in order, and how full its queue is
abbrev pub node_text : ℕ → State → List ℕ
node_text i s = node_line i ++ flat_map product_line (queued s) ++ answer_line (stat_reply s)

-- of nodes, of which the first has that number
abbrev pub nodes_text : ℕ → List State → List ℕ
nodes_text i [] = []
nodes_text i (s ∷ behind) = node_text i s ++ nodes_text (i + 1) behind
