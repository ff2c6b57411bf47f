-- How a node of a chain is fed from the one before it.
use Rattle.std.specs.Prelude.{◌≡◌, ◌⊎◌, ◌≤◌, ℕ, ◌+◌, false, List, [], ◌∷◌, ◌++◌, codes, None}
use Rattle.ldm_types.specs.declared.class.ClassSpec.{ClassSpec}
use Rattle.ldm_types.specs.declared.limits.TheConstants.{LARGEST_ARENA}
use Rattle.ldm_class.specs.Access.{reduce}
use Rattle.ldm_class.specs.Classes.{bad_place}
use Rattle.ldm_class.specs.Rules.{Rules, rules_for}
use Rattle.ldm_class.specs.declared.answers.Reduced.TheVariants as reduced
use Rattle.ldm_relay.specs.Fits.{ClassFits}
use Rattle.ldm_shared.specs.Passes.{PassView}
use Rattle.ldm_intake.specs.Opening.{requesting, request_of}
use Rattle.ldm_intake.specs.Receiving.{Receiving}
use Rattle.ldm_relay.specs.Spelling.{records_of}
use Rattle.ldm_sender.specs.declared.end.SendEnd.{SendEnd}
use Rattle.ldm_sender.specs.declared.end.SendEnd.TheVariants.{Stopped, Reclassed}
use Rattle.ldm_sender.specs.Asked.{Asked}
use Rattle.ldm_upstream.specs.Feeds.{DecidesFirst, Feeds}
use Rattle.ldm_downstream.specs.Receives.{at_first}
use Rattle.ldm_downstream.specs.ReceiverView.{before_stream}
use Rattle.ldm_chain.specs.Beginning.{Beginning}
use Rattle.ldm_chain.specs.MirrorView.{MirrorView, all_read, told_by_mirror}
use Rattle.ldm_chain.specs.Outside.{outside}
use Rattle.ldm_chain.specs.Reflecting.{Reflects}

-- the name under which a node asks: `node` and its digit
abbrev pub host_name : ℕ → List ℕ
host_name i = codes "node" ++ (48 + i) ∷ []

-- what a node asks for by that call, under these rules
abbrev pub asked_by : List ℕ → Rules → ℕ → ClassSpec → ℕ → Asked
asked_by host rules xid class max_hereis = record { host = host; rules = rules_for false rules; xid = xid; class = class; max_hereis = max_hereis }

-- A feeding over a mirror ended so.
pub record Fed (why : SendEnd) (asked : Asked) (old new : PassView) (before after : MirrorView) : Type 0 where
  pub stops : ℕ
  pub feeds : Feeds why asked [] old new (outside before 0) (outside after stops)
  pub decided : DecidesFirst asked old new (told_by_mirror before) (told_by_mirror after)

-- What is left of the class is asked for by a second request, and feeding it ended so.
pub record FedRest (why : SendEnd) (asked : Asked) (old new : PassView) (before after : MirrorView) : Type 0 where
  pub fewer : ClassSpec
  pub left : reduce asked.rules asked.host asked.class ≡ reduced.Fewer fewer
  -- it can be written, and each of its patterns means something
  pub fits : ClassFits fewer
  pub meant : bad_place fewer.specs.items ≡ None
  pub fed : Fed why (record asked { xid = 2; class = fewer }) old new (all_read before) after

-- A part of the class is left to the host. It is told so, and asks for that part; feeding that ended so.
pub record FedFewer (why : SendEnd) (b : Beginning) (asked : Asked) (old new : PassView) (before after : MirrorView) : Type 0 where
  pub mid : PassView
  pub told : MirrorView
  pub first : Fed Reclassed asked old mid before told
  pub goes_on : told.receiver.end ≡ None
  pub so_far : Reflects b told
  pub rest : FedRest why asked mid new told after

-- all was fed: the class, or what is left of it
abbrev pub FedAll : Beginning → Asked → (old new : PassView) → (before after : MirrorView) → Type 0
FedAll b asked old new before after = Fed Stopped asked old new before after ⊎ FedFewer Stopped b asked old new before after

-- a receiving that requests a class from its beginning on
abbrev pub asking : ClassSpec → ℕ → Receiving
asking class max_hereis = requesting class None max_hereis

-- a mirror before the first byte: the request was read
abbrev pub request_read : Receiving → PassView → MirrorView
request_read s pass = all_read (record {
  passed = [];
  faults = 0;
  closed = false;
  waiting = records_of (request_of s);
  receiver = before_stream s false;
  pass = pass;
})

-- A node was fed from the one before it, whole, at one moment: what its receiver did is what passed over the mirror. `old` and `new` are the
-- pass of the node before, and `before` and `after` that of the node.
pub record Links (asked : Asked) (now : ℕ) (old new before after : PassView) : Type 0 where
  pub b : Beginning
  pub first : b.first ≡ at_first (asking asked.class asked.max_hereis) before
  pub moment : b.now ≡ now
  -- its products are no larger than an arena
  pub small : old.arena ≤ LARGEST_ARENA
  pub end : MirrorView
  pub fed : FedAll b asked old new (request_read (asking asked.class asked.max_hereis) before) end
  pub reflects : Reflects b end
  pub goes_on : end.receiver.end ≡ None
  pub pass_is : end.pass ≡ after
