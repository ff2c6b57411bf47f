-- One who tells of products: who asked it, and what it needs for a turn.
use Rattle.std.specs.Prelude.{◌≡◌, ◌≤◌, [], length, None}
use Rattle.ldm_shared.specs.Passes.{PassView}
use Rattle.ldm_shared.specs.Reader.{HasCursor}
use Rattle.ldm_session.specs.declared.gaps.TheConstants.{LONGEST_NAME}
use Rattle.ldm_sender.specs.Asked.{Asked}
use Rattle.ldm_notify.specs.declared.notifier.Notifier.{Notifier}

-- who asked it, and by whose rules
abbrev pub asked_by : Notifier → Asked
asked_by notifier = record {
  host = notifier.rules.host;
  rules = notifier.rules.rules;
  xid = notifier.xid;
  class = notifier.class;
  max_hereis = 0;
}

-- it tells by the same cursor, of the same request
pub record IsSameNotifier (old new : Notifier) : Type 0 where
  pub reader : new.reader ≡ old.reader
  pub to : new.to ≡ old.to
  pub asked : asked_by new ≡ asked_by old

-- its cursor holds nothing, and its instant is that of the class
pub record CanTurn (notifier : Notifier) (pass : PassView) : Type 0 where
  pub cursor : HasCursor pass notifier.reader.k None
  pub to : notifier.to ≡ notifier.class.to
  pub name : length notifier.rules.host ≤ LONGEST_NAME

-- It can, and has sent and gathered nothing yet.
pub record CanBegin (notifier : Notifier) (pass : PassView) : Type 0 where
  pub ready : CanTurn notifier pass
  pub first : notifier.standing.next ≡ 1
  pub none : notifier.out.items ≡ []
