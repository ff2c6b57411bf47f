-- Who asked one who feeds, and that it stays the same.
use Rattle.std.proofs.Common.{◌≡◌, ◌∙◌, ℕ, List, [], false, None, length, refl, sym, ap, subst, arith, append-nil}
use Rattle.ldm_types.specs.declared.class.ClassSpec.{ClassSpec}
use Rattle.ldm_class.specs.Access.{reduce}
use Rattle.ldm_class.specs.HostRules.{HostRules}
use Rattle.ldm_class.specs.Rules.{Rules, rules_for}
use Rattle.ldm_class.specs.declared.answers.Reduced.TheVariants as reduced
use Rattle.ldm_relay.specs.declared.message.Feedme.{Feedme}
use Rattle.ldm_model.specs.declared.event.Entry.{Entry}
use Rattle.ldm_shared.specs.Passes.{PassView, Calls}
use Rattle.ldm_shared.proofs.Made.{calls_some}
use Rattle.ldm_shared.specs.declared.reader.Reader.{Reader}
use Rattle.ldm_shared.specs.Reader.{HasCursor}
use Rattle.ldm_session.specs.Hearing.{Heard}
use Rattle.ldm_sender.specs.Answering.{FindsBusy}
use Rattle.ldm_sender.specs.Opening.{Busy, opening_entries}
use Rattle.ldm_sender.specs.Asked.{Asked, IsAskedOf, asked_of}
use Rattle.ldm_upstream.specs.declared.asking.Asking.{Asking}
use Rattle.ldm_upstream.specs.declared.feeder.Feeder.{Feeder}
use Rattle.ldm_upstream.specs.Asking.{IsAskingOf}
use Rattle.ldm_upstream.specs.Feeds.{HasDecided}
use Rattle.ldm_upstream.specs.Feeder.{IsSameFeeder, CanTurn, asked_by}

pub is_asked_by : (feeder : Feeder) → IsAskedOf (asked_by feeder) feeder.class feeder.rules
is_asked_by feeder = record { class_is = refl; rules_are = refl; host_is = refl }

pub same_feeder : (now : Feeder) → IsSameFeeder now now
same_feeder now = record { reader = refl; to = refl; asked = refl }

-- class and rules are the same still
pub same_where_asked : (old : Feeder) (class : ClassSpec) (rules : HostRules) → class ≡ old.class → rules ≡ old.rules
    → IsSameFeeder old (record old { class = class; rules = rules })
same_where_asked old class rules by_class by_rules =
    let with_class : ClassSpec → Asked = λ s. asked_by (record old { class = s; rules = rules }) in
    let with_rules : HostRules → Asked = λ r. asked_by (record old { rules = r }) in
    record { reader = refl; to = refl; asked = ap with_class by_class ∙ ap with_rules by_rules }

pub same_feeder_then : (a b c : Feeder) → IsSameFeeder a b → IsSameFeeder b c → IsSameFeeder a c
same_feeder_then a b c one two = record {
  reader = two.reader ∙ one.reader;
  to = two.to ∙ one.to;
  asked = two.asked ∙ one.asked;
}

-- it can make another turn
pub can_turn_still : (old new : Feeder) (pass pass' : PassView) → IsSameFeeder old new
    → HasCursor pass' old.reader.k None
    → CanTurn old pass → CanTurn new pass'
can_turn_still old new pass pass' same cursor ready = record {
  cursor = subst (λ (r : Reader). HasCursor pass' r.k None) (sym same.reader) cursor;
  to = same.to ∙ ready.to ∙ ap (λ (a : Asked). a.class.to) (sym same.asked);
  name = omega (arith, ready.name, ap (λ (a : Asked). length a.host) same.asked);
}

-- ---- before the cursor is opened

-- it is of the request that it was made of
pub asking_is : (asking : Asking) (host : List ℕ) (rules : Rules) (ask : Feedme) (ahead : List ℕ)
    → asking.rules ≡ record { rules = rules_for false rules; host = host } → asking.wanted ≡ ask.class
    → asking.xid ≡ ask.xid → asking.max_hereis ≡ ask.max_hereis → asking.class.now ≡ ask.class → asking.out.items ≡ []
    → Heard ahead [] asking.replies → IsAskingOf (asked_of host rules ask) ahead asking
asking_is asking host rules ask ahead by_rules by_class by_xid by_most class none heard =
    let asked : HostRules → ℕ → ClassSpec → ℕ → Asked =
    λ r n s most. record { host = r.host; rules = r.rules; xid = n; class = s; max_hereis = most } in
    let here : HostRules = record { rules = rules_for false rules; host = host } in
    record {
      is =
          ap (λ (r : HostRules). asked r asking.xid asking.wanted asking.max_hereis) by_rules
          ∙ ap (λ (s : ClassSpec). asked here asking.xid s asking.max_hereis) by_class
          ∙ ap (λ (n : ℕ). asked here n ask.class asking.max_hereis) by_xid
          ∙ ap (λ (n : ℕ). asked here ask.xid ask.class n) by_most;
      class = class ∙ sym by_class;
      none = none;
      heard = heard;
    }

-- all cursors were taken
pub decides_busy : (asked : Asked) (old new : PassView) → reduce asked.rules asked.host asked.class ≡ reduced.Same
    → FindsBusy asked old new → HasDecided asked old new
decides_busy asked old new same found =
    let entries = opening_entries old.actor asked (Busy found.missed) in
    record {
      answered = Busy found.missed;
      is = (same, found.may_miss);
      behind = [];
      made = subst (λ (es : List Entry). Calls old new es) (sym (append-nil entries))
          (calls_some old new entries found.makes);
    }
