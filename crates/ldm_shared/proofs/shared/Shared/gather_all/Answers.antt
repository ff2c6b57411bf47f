use Rattle.std.proofs.Common.{rules, ◌≡◌, ◌∙◌, ◌++◌, ◌∷◌, [], List, sym, ap, subst, append_assoc}
use Rattle.std.specs.List.{All, AllByRecursion}
use Rattle.ldm_shared.specs.Passes.{PassView, IsPassOf}
use Rattle.ldm_shared.specs.Seats.{HasGathered}
use Rattle.ldm_shared.proofs.Growing.{pass_idle, pass_ready}
use Rattle.ldm_shared.proofs.Gathering.{by_index, at_middle, gathered_first, gathered_all, gathered_new, sized_first, sized_more}
use Rattle.ldm_shared.proofs.shared.Shared.gather_all.Goals as goal

pub loop-pass-init : goal.loop-pass-init
loop-pass-init c =
    let last = c.in-Some.last in
    let split : c.args.passes.items ≡ c.pop.new.self.items ++ last ∷ [] = c.in-Some.ensures.items in
    let of : IsPassOf c.args.self.now last = at_middle (IsPassOf c.args.self.now) c.pop.new.self.items last [] (subst (All (IsPassOf c.args.self.now)) split c.requires.of) in
    record {
      ready = pass_ready c.args.self.now last c.last.inside c.last.view_is c.last.invariant of;
      sized = sized_first c.args.self.now last c.last.inside c.last.view_is of;
      taken = last ∷ [];
      split = split;
      each = (gathered_first c.args.self.now last c.last.inside c.last.view_is (pass_idle c.args.self.now last c.last.inside c.last.view_is c.last.invariant of), tt);
    }

pub gather-requires : goal.gather-requires
gather-requires c =
    let pass = c.in-Some-pop.pass in
    let left = c.pop-in-loop-pass.new.self.items in
    let taken = c.loop-pass.invariant.taken in
    let split : c.args.passes.items ≡ left ++ (pass ∷ taken) = c.loop-pass.invariant.split ∙ (ap (λ (l : List PassView). l ++ taken) c.in-Some-pop.ensures.items ∙ append_assoc left (pass ∷ []) taken) in
    record {
      ready = c.loop-pass.invariant.ready;
      other = pass_ready c.args.self.now pass c.pass.inside c.pass.view_is c.pass.invariant
          (at_middle (IsPassOf c.args.self.now) left pass taken (subst (All (IsPassOf c.args.self.now)) split c.requires.of));
    }

pub loop-pass-preserved : goal.loop-pass-preserved
loop-pass-preserved c =
    let pass = c.in-Some-pop.pass in
    let left = c.pop-in-loop-pass.new.self.items in
    let inv = c.loop-pass.invariant in
    let taken = inv.taken in
    let split : c.args.passes.items ≡ left ++ (pass ∷ taken) = inv.split ∙ (ap (λ (l : List PassView). l ++ taken) c.in-Some-pop.ensures.items ∙ append_assoc left (pass ∷ []) taken) in
    let of : IsPassOf c.args.self.now pass = at_middle (IsPassOf c.args.self.now) left pass taken (subst (All (IsPassOf c.args.self.now)) split c.requires.of) in
    let v = c.loop-pass.seat.me.0 in
    let w = c.pass.inside.seat.me.0 in
    let u = c.gather.new.seat.me.0 in
    record {
      ready = c.gather.ensures.ready;
      sized = sized_more v w u c.gather.ensures.gathers c.args.self.now inv.sized;
      taken = pass ∷ taken;
      split = split;
      each = (
        gathered_new v w u c.gather.ensures.gathers pass (gathered_first c.args.self.now pass c.pass.inside c.pass.view_is (pass_idle c.args.self.now pass c.pass.inside c.pass.view_is c.pass.invariant of)),
        gathered_all v w u c.gather.ensures.gathers taken inv.each,
      );
    }

pub returns-clause-all : goal.returns-clause-all
returns-clause-all c =
    let inv = c.loop-pass.invariant in
    let none : c.loop-pass.passes.items ≡ [] = search rules in
    let all : c.args.passes.items ≡ inv.taken = inv.split ∙ ap (λ (l : List PassView). l ++ inv.taken) none in
    by_index (HasGathered c.loop-pass.seat.me.0) c.args.passes.items (subst (AllByRecursion (HasGathered c.loop-pass.seat.me.0)) (sym all) inv.each)
