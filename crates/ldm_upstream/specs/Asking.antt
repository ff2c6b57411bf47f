-- A request for products of a class of which all is left to the host, before its cursor is opened.
use Rattle.std.specs.Prelude.{◌≡◌, ◌≤◌, ℕ, List, [], length}
use Rattle.ldm_class.specs.Access.{reduce}
use Rattle.ldm_class.specs.declared.answers.Reduced.TheVariants as reduced
use Rattle.ldm_session.specs.Hearing.{Heard}
use Rattle.ldm_session.specs.declared.gaps.TheConstants.{LONGEST_NAME}
use Rattle.ldm_sender.specs.Asked.{Asked}
use Rattle.ldm_upstream.specs.declared.asking.Asking.{Asking}

-- who asks, and by whose rules
abbrev pub asked_as : Asking → Asked
asked_as asking = record {
  host = asking.rules.host;
  rules = asking.rules.rules;
  xid = asking.xid;
  class = asking.wanted;
  max_hereis = asking.max_hereis;
}

-- It is of that request, nothing is gathered yet, and of the peer nothing is heard but what came ahead.
pub record IsAskingOf (asked : Asked) (ahead : List ℕ) (asking : Asking) : Type 0 where
  pub is : asked_as asking ≡ asked
  pub class : asking.class.now ≡ asking.wanted
  pub none : asking.out.items ≡ []
  pub heard : Heard ahead [] asking.replies

-- All of the class is left to the host, so that a cursor may be opened for it.
pub record CanOpen (asking : Asking) : Type 0 where
  pub class : asking.class.now ≡ asking.wanted
  pub none : asking.out.items ≡ []
  pub name : length asking.rules.host ≤ LONGEST_NAME
  pub same : reduce asking.rules.rules asking.rules.host asking.wanted ≡ reduced.Same
