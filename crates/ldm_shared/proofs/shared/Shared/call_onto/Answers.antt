use Rattle.std.proofs.Common.{◌≡◌, ℕ, List, ◌∙◌, ◌^◌, ◌<◌, length, refl, sym, ap, subst, vec_items}
use Rattle.ldm_model.specs.History.{after}
use Rattle.ldm_model.specs.Next.{next}
use Rattle.ldm_book.specs.Stands.{StandsFor}
use Rattle.ldm_book.specs.Answers.{Follows}
use Rattle.ldm_shared.specs.declared.view.View.{View}
use Rattle.ldm_shared.specs.Passes.{PassView, Grows}
use Rattle.ldm_model.specs.declared.event.Event.{Event}
use Rattle.ldm_model.specs.declared.event.Reply.{Reply}
use Rattle.ldm_shared.specs.Seats.{IsHistory}
use Rattle.ldm_shared.proofs.Growing.{pass_idle, pass_ready, pass_kept, same_pass, pass_worn, same_book, asked_on, grown_kept, grown_same, grown}
use Rattle.ldm_shared.proofs.shared.Shared.call_onto.Goals as goal

pub take-requires : goal.take-requires
take-requires g c =
    let idle = pass_idle c.args.self.now c.args.pass.now c.pass.inside c.pass.view_is c.pass.invariant c.requires.of in
    record {
      ready = pass_ready c.args.self.now c.args.pass.now c.pass.inside c.pass.view_is c.pass.invariant c.requires.of;
      one = (c.pass.inside.actor, idle.actors);
      olds = idle.olds;
    }

pub give-requires : goal.give-requires
give-requires g c =
    let can = c.in-Done.ensures.taken in
    let asked = c.ask_onto-answer.ensures.asked in
    let b = asked.0 in
    let i = asked.1 in
    let b' = asked.2 in
    let i' = asked.3 in
    let view = sym c.ask_onto-answer.ensures.view in
    let v = c.take.new.seat.me.0 in
    let s = after v.arena v.slots v.seen in
    let actor = c.pass.inside.actor in
    let stands : StandsFor b.now s = subst (λ book. StandsFor book s) (same_book c.take.new.seat.me.1 can.book b.now can.turn.slot asked.7.slot) can.stands in
    let follows = c.requires.answers b actor i c.ask_onto-answer.result b' i' asked.4 asked.5 s stands in
    let idle = pass_idle c.args.self.now c.args.pass.now c.pass.inside c.pass.view_is c.pass.invariant c.requires.of in
    record {
      turn = (
        b'.now,
        asked.8,
        subst (λ (w : View). Follows (g.C.Asks.reply c.ask_onto-answer.result c.as_slice.result.now) b'.now (next (after w.arena w.slots w.seen) actor g.C.Asks.event)) view
            (subst (λ l. Follows (g.C.Asks.reply c.ask_onto-answer.result l) b'.now (next s actor g.C.Asks.event)) (ap vec_items asked.6 ∙ sym c.as_slice.ensures.value) follows),
      );
      own = sym (ap (λ (w : View). w.actors) view) ∙ (c.take.ensures.goes_on.0.actors ∙ idle.actors);
      few = subst (λ (w : View). length w.seen < 2 ^ 62) view can.few;
      history = subst IsHistory view c.take.ensures.goes_on.1;
      actor = refl {a = actor};
      possible = c.requires.possible;
    }

pub invariant_of-pass : goal.invariant_of-pass
invariant_of-pass g c =
    let on = asked_on c.pass.inside.seat c.take.new.seat c.ask_onto-answer.new.seat c.take.ensures.same c.take.ensures.goes_on.0 c.ask_onto-answer.ensures.same c.ask_onto-answer.ensures.view in
    grown_kept c.args.self.now c.args.pass.now c.pass.inside c.pass.view_is c.pass.invariant c.requires.of
    c.ask_onto-answer.new.seat c.give.new.seat on.0 on.1 g.C.Asks.event (g.C.Asks.reply c.ask_onto-answer.result c.as_slice.result.now) c.give.ensures.same c.give.ensures.added

pub returns-in-Done-clause-kept : goal.returns-in-Done-clause-kept
returns-in-Done-clause-kept g c =
    let on = asked_on c.pass.inside.seat c.take.new.seat c.ask_onto-answer.new.seat c.take.ensures.same c.take.ensures.goes_on.0 c.ask_onto-answer.ensures.same c.ask_onto-answer.ensures.view in
    grown_same c.args.self.now c.args.pass.now c.pass.inside c.pass.view_is c.pass.invariant c.requires.of
    c.ask_onto-answer.new.seat c.give.new.seat on.0 on.1 g.C.Asks.event (g.C.Asks.reply c.ask_onto-answer.result c.as_slice.result.now) c.give.ensures.same c.give.ensures.added

-- the reply is of the same list
grows_with : (old new : PassView) (event : Event) (reply : List ℕ → Reply) (xs ys : List ℕ) → xs ≡ ys → Grows old new event (reply xs) → Grows old new event (reply ys)
grows_with old new event reply xs ys e g = subst (λ l. Grows old new event (reply l)) e g

pub returns-in-Done-clause-done : goal.returns-in-Done-clause-done
returns-in-Done-clause-done g c =
    let on = asked_on c.pass.inside.seat c.take.new.seat c.ask_onto-answer.new.seat c.take.ensures.same c.take.ensures.goes_on.0 c.ask_onto-answer.ensures.same c.ask_onto-answer.ensures.view in
    grows_with _ _ g.C.Asks.event (g.C.Asks.reply c.ask_onto-answer.result) _ _ c.as_slice.ensures.value
    (grown c.args.self.now c.args.pass.now c.pass.inside c.pass.view_is c.pass.invariant c.requires.of
    c.ask_onto-answer.new.seat c.give.new.seat on.0 on.1 g.C.Asks.event (g.C.Asks.reply c.ask_onto-answer.result c.as_slice.result.now) c.give.ensures.same c.give.ensures.added
    c.give.ensures.history)

pub invariant_of-pass-in-Worn-1 : goal.invariant_of-pass-in-Worn-1
invariant_of-pass-in-Worn-1 g c =
    pass_kept c.args.self.now c.args.pass.now c.pass.inside c.pass.view_is c.pass.invariant c.requires.of c.take.new.seat c.take.ensures.same c.take.ensures.goes_on.0 c.in-Worn.ensures.worn.ready.free

pub returns-in-Worn-clause-kept : goal.returns-in-Worn-clause-kept
returns-in-Worn-clause-kept g c =
    same_pass c.args.self.now c.args.pass.now c.pass.inside c.pass.view_is c.pass.invariant c.requires.of c.take.new.seat c.take.ensures.same c.take.ensures.goes_on.0 c.in-Worn.ensures.worn.ready.idle

pub returns-in-Worn-clause-worn : goal.returns-in-Worn-clause-worn
returns-in-Worn-clause-worn g c =
    pass_worn c.args.self.now c.args.pass.now c.pass.inside c.pass.view_is c.pass.invariant c.requires.of c.take.new.seat c.take.ensures.same c.take.ensures.goes_on.0 c.take.ensures.goes_on.1 c.in-Worn.turns c.in-Worn.ensures.worn
