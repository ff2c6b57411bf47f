-- What contracts see of the handler.
use Rattle.std.specs.Prelude.{ℕ, List, Option}
use Rattle.ldm_actions.specs.Outputs.{OutputsView}
use Rattle.ldm_pqact_conf.specs.Entries.{EntryView}
use Rattle.ldm_pqact_command.specs.declared.acter.Acter.TheInside.{Inside}
use Rattle.ldm_pqact_command.specs.State.{StateActions}
use Rattle.ldm_pqact_command.specs.declared.stop.ActStop.{ActStop}

pub record ActerView : Type 0 where
  -- the place of its cursor
  pub k : ℕ
  -- how many products are left to be given, where there is a count
  pub left : Option ℕ
  pub entries : List EntryView
  pub outputs : OutputsView
  -- how the state is written, where one is kept
  pub state : Option StateActions
  -- the signature of the last product that it was given when it was called last, if it was given one
  pub last : Option (List ℕ)
  -- why it stopped
  pub why : Option ActStop

abbrev pub acter_view : Inside → ActerView
acter_view it = record {
  k = it.reader.k;
  left = it.pqact.left;
  entries = it.pqact.entries;
  outputs = it.pqact.outputs;
  state = it.state;
  last = it.pqact.last;
  why = it.why;
}
