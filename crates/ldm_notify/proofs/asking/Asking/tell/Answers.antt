use Rattle.std.proofs.Common.{◌∙◌, sym, ap, refl}
use Rattle.ldm_types.specs.declared.class.ClassSpec.{ClassSpec}
use Rattle.ldm_relay.specs.declared.message.ClassAnswer.TheVariants as class_answer
use Rattle.ldm_shared.proofs.Made.{calls_some}
use Rattle.ldm_sender.specs.declared.standing.Standing.{Standing}
use Rattle.ldm_sender.specs.Opening.{Busy}
use Rattle.ldm_sender.proofs.Unturned.{busy, answer_breaks, worn_first}
use Rattle.ldm_sender.proofs.Emptied.{does_from_empty, breaks_from_empty}
use Rattle.ldm_notify.specs.Asking.{asked_as}
use Rattle.ldm_notify.proofs.Closing.{unnoted}
use Rattle.ldm_notify.proofs.asking.Asking.tell.Goals as goal

pub tell-requires-clause-begins : goal.tell-requires-clause-begins
tell-requires-clause-begins g c =
    let granted = c.requires.granted in
    let at = rw c.in-Done-Some.field-0-is at c.in-Done-Some.ensures in
    record {
      ready = record {
        cursor = (at.opens (asked_as c.args.self) (sym granted.class)).cursor;
        to = ap (λ (s : ClassSpec). s.to) (c.spec.ensures ∙ granted.class);
        name = granted.name;
      };
      first = ap (λ (s : Standing). s.next) c.first.ensures;
      none = granted.none;
    }

pub returns-in-Done-Some-clause-notified : goal.returns-in-Done-Some-clause-notified
returns-in-Done-Some-clause-notified g c =
    let at = rw c.in-Done-Some.field-0-is at c.in-Done-Some.ensures in
    let opened = at.opens (asked_as c.args.self) (sym c.requires.granted.class) in
    c.tell.ensures.notified opened.missed c.args.pass.now (c.requires.granted.same, opened.may_miss) opened.makes

pub returns-in-Ok-clause-notified : goal.returns-in-Ok-clause-notified
returns-in-Ok-clause-notified g c =
    let asked = asked_as c.args.self in
    let granted = c.requires.granted in
    let at = rw c.in-Done-None.field-0-is at c.in-Done-None.ensures in
    let found = at.opens asked (sym granted.class) in
    let is = c.in-Ok.ensures in
    unnoted _ asked _ _ _ _
    (busy asked c.args.pass.now c.open_for.new.pass _ _ _ _ _ _ c.requires.not_closed granted.same found
    (c.in-Ok.field-0, does_from_empty _ _ _ _ _ _ _ _ granted.none is.empty (is.answers c.open_for.new.pass)))

pub returns-in-Done-None-clause-notified : goal.returns-in-Done-None-clause-notified
returns-in-Done-None-clause-notified g c =
    let asked = asked_as c.args.self in
    let granted = c.requires.granted in
    let at = rw c.in-Done-None.field-0-is at c.in-Done-None.ensures in
    let found = at.opens asked (sym granted.class) in
    let is = c.in-Err.ensures.answers c.open_for.new.pass in
    unnoted _ asked _ _ _ _
    (answer_breaks c.in-Err.end asked (Busy found.missed) c.args.pass.now c.open_for.new.pass _ _ _ _ _ _
    c.requires.not_closed (granted.same, found.may_miss) (λ actor. refl)
    (calls_some _ _ _ found.makes)
    (breaks_from_empty c.in-Err.end asked.xid class_answer.Busy _ _ _ _ _ _ _ granted.none is))

pub returns-clause-notified : goal.returns-clause-notified
returns-clause-notified g c =
    let asked = asked_as c.args.self in
    let granted = c.requires.granted in
    unnoted _ asked _ _ _ _
    (worn_first asked c.args.pass.now c.open_for.new.pass _ _ _ _ c.requires.not_closed granted.same
    (c.in-Worn.ensures.opens asked (sym granted.class)))
