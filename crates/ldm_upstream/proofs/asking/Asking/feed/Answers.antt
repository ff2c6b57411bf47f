use Rattle.std.proofs.Common.{◌∙◌, inl, inr, sym, ap, refl}
use Rattle.ldm_types.specs.declared.class.ClassSpec.{ClassSpec}
use Rattle.ldm_relay.specs.declared.message.ClassAnswer.TheVariants as class_answer
use Rattle.ldm_shared.proofs.Made.{calls_some, calls_trans}
use Rattle.ldm_sender.specs.declared.standing.Standing.{Standing}
use Rattle.ldm_sender.specs.Opening.{Busy, Opened}
use Rattle.ldm_sender.proofs.Unturned.{busy, answer_breaks, worn_first}
use Rattle.ldm_sender.proofs.Emptied.{does_from_empty, breaks_from_empty}
use Rattle.ldm_upstream.specs.Asking.{asked_as}
use Rattle.ldm_upstream.proofs.Asked.{decides_busy}
use Rattle.ldm_upstream.proofs.Fed.{unfed}
use Rattle.ldm_upstream.proofs.asking.Asking.feed.Goals as goal

pub feed-requires-clause-begins : goal.feed-requires-clause-begins
feed-requires-clause-begins g c =
    let granted = c.requires.granted in
    let at = rw c.in-Done-Some.field-0-is at c.in-Done-Some.ensures in
    record {
      ready = record {
        cursor = (at.opens (asked_as c.args.self) (sym granted.class)).cursor;
        to = ap (λ (s : ClassSpec). s.to) (c.spec.ensures ∙ granted.class);
        name = granted.name;
      };
      first = ap (λ (s : Standing). s.next) c.first.ensures;
      none = granted.none;
    }

pub returns-in-Done-Some-clause-fed : goal.returns-in-Done-Some-clause-fed
returns-in-Done-Some-clause-fed g c = λ ahead heard.
    let at = rw c.in-Done-Some.field-0-is at c.in-Done-Some.ensures in
    let opened = at.opens (asked_as c.args.self) (sym c.requires.granted.class) in
    c.feed.ensures.fed opened.missed c.args.pass.now ahead (c.requires.granted.same, opened.may_miss) opened.makes heard

pub returns-in-Ok-clause-fed : goal.returns-in-Ok-clause-fed
returns-in-Ok-clause-fed g c = λ ahead heard.
    let asked = asked_as c.args.self in
    let granted = c.requires.granted in
    let at = rw c.in-Done-None.field-0-is at c.in-Done-None.ensures in
    let found = at.opens asked (sym granted.class) in
    let is = c.in-Ok.ensures in
    unfed _ asked ahead _ _ _ _
    (busy asked c.args.pass.now c.open_for.new.pass _ _ _ _ _ _ c.requires.not_closed granted.same found
    (c.in-Ok.field-0, does_from_empty _ _ _ _ _ _ _ _ granted.none is.empty (is.answers c.open_for.new.pass)))

pub returns-in-Done-None-clause-fed : goal.returns-in-Done-None-clause-fed
returns-in-Done-None-clause-fed g c = λ ahead heard.
    let asked = asked_as c.args.self in
    let granted = c.requires.granted in
    let at = rw c.in-Done-None.field-0-is at c.in-Done-None.ensures in
    let found = at.opens asked (sym granted.class) in
    let is = c.in-Err.ensures.answers c.open_for.new.pass in
    unfed _ asked ahead _ _ _ _
    (answer_breaks c.in-Err.end asked (Busy found.missed) c.args.pass.now c.open_for.new.pass _ _ _ _ _ _
    c.requires.not_closed (granted.same, found.may_miss) (λ actor. refl)
    (calls_some _ _ _ found.makes)
    (breaks_from_empty c.in-Err.end asked.xid class_answer.Busy _ _ _ _ _ _ _ granted.none is))

pub returns-clause-fed : goal.returns-clause-fed
returns-clause-fed g c = λ ahead heard.
    let asked = asked_as c.args.self in
    let granted = c.requires.granted in
    unfed _ asked ahead _ _ _ _
    (worn_first asked c.args.pass.now c.open_for.new.pass _ _ _ _ c.requires.not_closed granted.same
    (c.in-Worn.ensures.opens asked (sym granted.class)))

pub returns-clause-decided : goal.returns-clause-decided
returns-clause-decided g c = inl refl

pub returns-in-Done-Some-clause-decided : goal.returns-in-Done-Some-clause-decided
returns-in-Done-Some-clause-decided g c =
    let at = rw c.in-Done-Some.field-0-is at c.in-Done-Some.ensures in
    let opened = at.opens (asked_as c.args.self) (sym c.requires.granted.class) in
    inr (record {
      answered = Opened opened.missed _;
      is = (c.requires.granted.same, opened.may_miss);
      behind = c.feed.ensures.called.0;
      made = calls_trans _ _ _ _ _ (calls_some _ _ _ opened.makes) c.feed.ensures.called.1;
    })

pub returns-in-Ok-clause-decided : goal.returns-in-Ok-clause-decided
returns-in-Ok-clause-decided g c =
    let asked = asked_as c.args.self in
    let at = rw c.in-Done-None.field-0-is at c.in-Done-None.ensures in
    let found = at.opens asked (sym c.requires.granted.class) in
    inr (decides_busy asked c.args.pass.now c.open_for.new.pass c.requires.granted.same found)

pub returns-in-Done-None-clause-decided : goal.returns-in-Done-None-clause-decided
returns-in-Done-None-clause-decided g c =
    let asked = asked_as c.args.self in
    let at = rw c.in-Done-None.field-0-is at c.in-Done-None.ensures in
    let found = at.opens asked (sym c.requires.granted.class) in
    inr (decides_busy asked c.args.pass.now c.open_for.new.pass c.requires.granted.same found)
