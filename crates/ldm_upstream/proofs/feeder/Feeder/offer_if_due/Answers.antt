use Rattle.std.proofs.Common.{◌∙◌, refl, sym}
use Rattle.ldm_sender.proofs.Steps.{does_nothing}
use Rattle.ldm_upstream.specs.Feeder.{asked_by}
use Rattle.ldm_upstream.specs.Giving.{given_of}
use Rattle.ldm_upstream.proofs.Asked.{is_asked_by, same_feeder_then, same_where_asked}
use Rattle.ldm_upstream.proofs.Offers.{offers_nothing}
use Rattle.ldm_upstream.proofs.feeder.Feeder.offer_if_due.Goals as goal

pub returns-then-is_due-clause-same : goal.returns-then-is_due-clause-same
returns-then-is_due-clause-same g c =
    same_feeder_then c.args.self.now _ _
    (same_where_asked c.args.self.now _ _ c.is_due.ensures.same_class c.is_due.ensures.same_rules)
    c.offer.ensures.same

pub returns-clause-same : goal.returns-clause-same
returns-clause-same g c = same_where_asked c.args.self.now _ _ c.is_due.ensures.same_class c.is_due.ensures.same_rules

pub returns-then-is_due-clause-offers : goal.returns-then-is_due-clause-offers
returns-then-is_due-clause-offers g c = λ body holds.
    let asked = asked_by c.args.self.now in
    c.offer.ensures.offers asked body refl (sym (c.is_due.ensures.due asked (is_asked_by c.args.self.now))
    ∙ c.if-is_due.true) holds

pub returns-clause-offers : goal.returns-clause-offers
returns-clause-offers g c = λ body holds.
    let asked = asked_by c.args.self.now in
    offers_nothing asked _ (given_of c.args.held.now body) _ _ _
    (sym (c.is_due.ensures.due asked (is_asked_by c.args.self.now)) ∙ c.if-is_due.false)
    (does_nothing _ c.requires.not_closed) holds
