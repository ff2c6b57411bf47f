-- One who feeds: who asked it, and what it needs for a turn.
use Rattle.std.specs.Prelude.{◌≡◌, ◌≤◌, [], length, None}
use Rattle.ldm_shared.specs.Passes.{PassView}
use Rattle.ldm_shared.specs.Reader.{HasCursor}
use Rattle.ldm_session.specs.declared.gaps.TheConstants.{LONGEST_NAME}
use Rattle.ldm_sender.specs.Asked.{Asked}
use Rattle.ldm_upstream.specs.declared.feeder.Feeder.{Feeder}

-- who asked it, and by whose rules
abbrev pub asked_by : Feeder → Asked
asked_by feeder = record {
  host = feeder.rules.host;
  rules = feeder.rules.rules;
  xid = feeder.xid;
  class = feeder.class;
  max_hereis = feeder.max_hereis;
}

-- it feeds by the same cursor, for the same request
pub record IsSameFeeder (old new : Feeder) : Type 0 where
  pub reader : new.reader ≡ old.reader
  pub to : new.to ≡ old.to
  pub asked : asked_by new ≡ asked_by old

-- its cursor holds nothing, and its instant is that of the class
pub record CanTurn (feeder : Feeder) (pass : PassView) : Type 0 where
  pub cursor : HasCursor pass feeder.reader.k None
  pub to : feeder.to ≡ feeder.class.to
  pub name : length feeder.rules.host ≤ LONGEST_NAME

-- It can, and has sent and gathered nothing yet.
pub record CanBegin (feeder : Feeder) (pass : PassView) : Type 0 where
  pub ready : CanTurn feeder pass
  pub first : feeder.standing.next ≡ 1
  pub none : feeder.out.items ≡ []
