-- Who asked one who tells of products, and that it stays the same.
use Rattle.std.proofs.Common.{◌≡◌, ◌∙◌, ℕ, List, [], false, None, length, refl, sym, ap, subst, arith}
use Rattle.ldm_types.specs.declared.class.ClassSpec.{ClassSpec}
use Rattle.ldm_class.specs.HostRules.{HostRules}
use Rattle.ldm_class.specs.Rules.{Rules, rules_for}
use Rattle.ldm_relay.specs.declared.message.Notifyme.{Notifyme}
use Rattle.ldm_outside.specs.Session.{SessionRecord}
use Rattle.ldm_shared.specs.Passes.{PassView}
use Rattle.ldm_shared.specs.declared.reader.Reader.{Reader}
use Rattle.ldm_shared.specs.Reader.{HasCursor}
use Rattle.ldm_sender.specs.declared.end.SendEnd.{SendEnd}
use Rattle.ldm_sender.specs.Asked.{Asked, IsAskedOf}
use Rattle.ldm_notify.specs.declared.asking.Asking.{Asking}
use Rattle.ldm_notify.specs.declared.end.NoteEnd.{NoteEnd}
use Rattle.ldm_notify.specs.declared.notifier.Notifier.{Notifier}
use Rattle.ldm_notify.specs.Asking.{IsAskingOf}
use Rattle.ldm_notify.specs.Notifies.{Notifies, NotifiesTo, send_end}
use Rattle.ldm_notify.specs.Notifying.{asked_of}
use Rattle.ldm_notify.specs.Notifier.{IsSameNotifier, CanTurn, asked_by}

pub is_asked_by : (notifier : Notifier) → IsAskedOf (asked_by notifier) notifier.class notifier.rules
is_asked_by notifier = record { class_is = refl; rules_are = refl; host_is = refl }

pub same_notifier : (now : Notifier) → IsSameNotifier now now
same_notifier now = record { reader = refl; to = refl; asked = refl }

pub same_notifier_then : (a b c : Notifier) → IsSameNotifier a b → IsSameNotifier b c → IsSameNotifier a c
same_notifier_then a b c one two = record {
  reader = two.reader ∙ one.reader;
  to = two.to ∙ one.to;
  asked = two.asked ∙ one.asked;
}

-- it can make another turn
pub can_turn_still : (old new : Notifier) (pass pass' : PassView) → IsSameNotifier old new
    → HasCursor pass' old.reader.k None
    → CanTurn old pass → CanTurn new pass'
can_turn_still old new pass pass' same cursor ready = record {
  cursor = subst (λ (r : Reader). HasCursor pass' r.k None) (sym same.reader) cursor;
  to = same.to ∙ ready.to ∙ ap (λ (a : Asked). a.class.to) (sym same.asked);
  name = omega (arith, ready.name, ap (λ (a : Asked). length a.host) same.asked);
}

-- ---- before the cursor is opened

-- it is of the request that it was made of
pub asking_is : (asking : Asking) (host : List ℕ) (rules : Rules) (ask : Notifyme)
    → asking.rules ≡ record { rules = rules_for false rules; host = host } → asking.wanted ≡ ask.class
    → asking.xid ≡ ask.xid → asking.class.now ≡ ask.class → asking.out.items ≡ []
    → IsAskingOf (asked_of host rules ask) asking
asking_is asking host rules ask by_rules by_class by_xid class none =
    let with_rules : HostRules → Asked =
    λ r. record { host = r.host; rules = r.rules; xid = asking.xid; class = asking.wanted; max_hereis = 0 } in
    let with_class : ClassSpec → Asked =
    λ s. record { host = host; rules = rules_for false rules; xid = asking.xid; class = s; max_hereis = 0 } in
    let with_xid : ℕ → Asked =
    λ n. record { host = host; rules = rules_for false rules; xid = n; class = ask.class; max_hereis = 0 } in
    record {
      is = ap with_rules by_rules ∙ ap with_class by_class ∙ ap with_xid by_xid;
      class = class
          ∙ sym by_class;
      none = none;
    }

-- what it came to is told of the request
pub told_of : (end : NoteEnd) (why : SendEnd) (asked asked' : Asked) (old new : PassView)
    (before after : SessionRecord)
    → send_end end ≡ why → asked ≡ asked' → NotifiesTo why asked old new before after
    → Notifies end asked' old new before after
told_of end why asked asked' old new before after ends is notifies =
    subst (λ (w : SendEnd). NotifiesTo w asked' old new before after) (sym ends)
    (subst (λ (a : Asked). NotifiesTo why a old new before after) is notifies)
